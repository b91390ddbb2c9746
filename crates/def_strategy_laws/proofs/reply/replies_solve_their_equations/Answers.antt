use Rattle.def_plan.specs.Form.{placed}
use Rattle.def_reply.proofs.Equations.{solves_from, only_from, from_set}
use Rattle.def_strategy_laws.proofs.reply.replies_solve_their_equations.Goals as goal

pub returns : goal.returns
returns c = record {
  solves = λ player sums sets order. solves_from player sums 1 sets order;
  only = λ player sums sets replies order f. only_from player sums 1 sets replies order f;
  from_set = λ player sums sets k. from_set player sums k (placed sets);
}
