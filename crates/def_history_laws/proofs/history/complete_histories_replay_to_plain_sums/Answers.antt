use Rattle.def_history.proofs.Ends.{replays_to_plain_sum}
use Rattle.def_history_laws.proofs.history.complete_histories_replay_to_plain_sums.Goals as goal

pub returns : goal.returns
returns c = replays_to_plain_sum
