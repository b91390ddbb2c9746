use Rattle.def_tree.proofs.Walks.{Accepts-invariant}
use Rattle.xg_file_tests.proofs.tree_tests.recorded.Goals as goal

pub walk-requires : goal.walk-requires
walk-requires c =
    Accepts-invariant _ _ _ _ (λ _ _. Unit {0}) (λ k node rest v h. (tt, λ w step. tt)) (λ k rest v h. (tt, λ w step. tt)) _ _ tt
