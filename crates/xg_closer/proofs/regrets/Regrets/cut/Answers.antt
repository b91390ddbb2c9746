use Rattle.std.proofs.Common.{◌≡◌, ℕ, List, Option, ℤ, length, arith, ap, ◌∙◌}
use Rattle.def_plus.specs.Cut.{cut}
use Rattle.xg_closer.specs.Regrets.{kept_regrets}
use Rattle.xg_closer.proofs.Closed.{written}
use Rattle.xg_closer.proofs.CutOneByOne.{keeps_cut}
use Rattle.xg_closer.proofs.regrets.Regrets.cut.Goals as goal

pub invariant_of-self : goal.invariant_of-self
invariant_of-self c =
    let most : Option ℕ = c.self.inside.most_small in
    let small : List ℤ = c.cut_kept.new.small_regrets in
    let wide : List ℤ = c.cut_kept.new.regrets in
    let small_written = written small c.self.inside.small_regrets.items c.self.inside.small_regrets.len
    (omega (arith, c.cut_kept.ensures.small_count, c.deref_mut.ensures.len)) in
    let wide_written = written wide c.self.inside.regrets.items c.self.inside.regrets.len
    (omega (arith, c.cut_kept.ensures.count, c.deref_mut-2.ensures.len)) in
    let after_is : kept_regrets most small wide ≡ cut (kept_regrets most c.self.inside.small_regrets.items c.self.inside.regrets.items) =
    c.cut_kept.ensures.regrets ∙ (λ i. cut (kept_regrets most (c.deref_mut.ensures.value i) (c.deref_mut-2.ensures.value i))) in
    rw (small_written, wide_written)
    (keeps_cut most c.self.inside.small_regrets.items c.self.inside.regrets.items small wide c.self.inside.worths.items c.self.inside.small_worths.items
    c.self.inside.rounds
    (c.cut_kept.ensures.small_count ∙ ap (length {A = ℤ}) c.deref_mut.ensures.value)
    (c.cut_kept.ensures.count ∙ ap (length {A = ℤ}) c.deref_mut-2.ensures.value) after_is c.self.invariant)
