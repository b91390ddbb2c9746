use Rattle.std.specs.Prelude.{IsPermutation}
use Rattle.std.proofs.Common.{◌∙◌, ap, subst, sym}
use Rattle.std.proofs.lemmas.List.Sorted.{IsPermutation-refl}
use Rattle.def_history.specs.Core.{rights_of}
use Rattle.xg_rows_tests.proofs.board_tests.add_by_one_pass.Goals as goal

pub add-requires-clause-rights : goal.add-requires-clause-rights
add-requires-clause-rights g c κs within =
    let rights = rights_of c.packet_into.new.into.job c.in_ok-board.board.stripes in
    let same = ap (λ job. rights_of job c.in_ok-board.board.stripes) c.packet_into.ensures.job ∙ sym c.in-Some.ensures.rights in
    subst (IsPermutation rights) same (IsPermutation-refl rights)
