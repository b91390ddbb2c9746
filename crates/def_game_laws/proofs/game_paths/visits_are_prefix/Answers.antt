use Rattle.std.proofs.Common.{[]}
use Rattle.def_game_paths.proofs.Visits.{map-visits_from}
use Rattle.def_game_laws.proofs.game_paths.visits_are_prefix.Goals as goal

pub returns : goal.returns
returns c = λ tree. map-visits_from (λ _. []) 1 tree
