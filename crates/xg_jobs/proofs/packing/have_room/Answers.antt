use Rattle.std.proofs.Common.{◌≡◌, ℕ, ◌≤◌, All, length, FitsSigned, to_z, of_z, ℤ, ap, refl, sym, subst, ◌∙◌, arith, rules}
use Rattle.std.specs.Int.{w64}
use Rattle.std.proofs.lemmas.Bool.{false≢true}
use Rattle.std.proofs.lemmas.Int.{to_z-of_z}
use Rattle.std.proofs.lemmas.List.{take_all}
use Rattle.std.proofs.lemmas.List.Elements.{All-get_or, All-more}
use Rattle.xg_jobs.specs.Groups.{GroupLeaf}
use Rattle.xg_jobs.proofs.packing.have_room.Goals as goal

pub loop-e-preserved : goal.loop-e-preserved
loop-e-preserved g c =
    let entries = c.args.entries.now in
    let i : ℕ = c.loop-e.e-index in
    let item = c.e-item.result in
    let fits_w : FitsSigned w64 c.weight.result = search rules in
    let w_is : to_z w64 (of_z w64 c.weight.result) ≡ c.weight.result = to_z-of_z w64 c.weight.result fits_w in
    let known : ℕ → ℤ → GroupLeaf = λ b w. record { other = b; weight = w } in
    let told_is = ap (λ b. known b (to_z w64 (of_z w64 c.weight.result))) c.other.ensures ∙ ap (known _) (w_is ∙ c.weight.ensures) in
    All-more (λ e. g.F.GroupEntry.has_room (g.E.GroupEntry.leaf e)) entries i item c.loop-e-test.true c.loop-e.invariant
    (subst (λ e. g.F.GroupEntry.has_room (g.E.GroupEntry.leaf e)) c.e-item.is (subst g.F.GroupEntry.has_room told_is (c.fits.ensures.0 c.if-not-fits.false)))

pub returns-then-not-fits : goal.returns-then-not-fits
returns-then-not-fits g c =
    let entries = c.args.entries.now in
    let i : ℕ = c.loop-e.e-index in
    let item = c.e-item.result in
    let fits_w : FitsSigned w64 c.weight.result = search rules in
    let w_is : to_z w64 (of_z w64 c.weight.result) ≡ c.weight.result = to_z-of_z w64 c.weight.result fits_w in
    let known : ℕ → ℤ → GroupLeaf = λ b w. record { other = b; weight = w } in
    let told_is = ap (λ b. known b (to_z w64 (of_z w64 c.weight.result))) c.other.ensures ∙ ap (known _) (w_is ∙ c.weight.ensures) in (
      λ none. absurd (false≢true none),
      λ all. absurd (false≢true (c.if-not-fits.ensures.1 (subst g.F.GroupEntry.has_room (sym told_is) (subst (λ e. g.F.GroupEntry.has_room (g.E.GroupEntry.leaf e)) (sym c.e-item.is)
          (All-get_or (λ e. g.F.GroupEntry.has_room (g.E.GroupEntry.leaf e)) entries i item c.loop-e-test.true all))))),
    )

pub returns : goal.returns
returns g c =
    let past : length c.args.entries.now ≤ c.loop-e.e-index = omega arith in
    (λ _. subst (All (λ e. g.F.GroupEntry.has_room (g.E.GroupEntry.leaf e))) (take_all c.loop-e.e-index c.args.entries.now past) c.loop-e.invariant, λ _. refl)
