use Rattle.std.proofs.Common.{◌≡◌, ◌<◌, length, sym, subst, ◌∙◌, arith}
use Rattle.std.specs.Prelude.{slice_index}
use Rattle.std.proofs.lemmas.Grind.{get_or_default_zero}
use Rattle.xg_rowcore.specs.Chains.{IsNextOf}
use Rattle.xg_rowcore.proofs.Viewed.{rows_seen}
use Rattle.xg_rowcore.proofs.entries.RowEntries.first_of.Goals as goal

pub returns-then-self-stripes : goal.returns-then-self-stripes
returns-then-self-stripes c =
    let first = c.self.inside.chains.first.items in
    let kept = c.self.invariant.4 in
    let rows_are = rows_seen _ _ c.self.invariant.0 c.self.view_is in
    let is : c.self.inside.chains.stripes ≡ c.args.stripes = c.if-self-stripes.true in
    let linked = kept.linked (omega (arith, is, c.requires)) in
    let found = linked.firsts c.args.stripe (omega (arith, is, c.requires)) in
    let known : c.args.stripe < length first = omega (arith, is, c.requires, kept.few, kept.first_count) in
    let result : c.index.result.now ≡ slice_index first c.args.stripe =
    c.index.ensures ∙ get_or_default_zero first c.args.stripe c.index.result.now known in
    rw (sym rows_are, result, sym is) found

pub returns-else-self-stripes : goal.returns-else-self-stripes
returns-else-self-stripes c =
    let rows_are = rows_seen _ _ c.self.invariant.0 c.self.view_is in
    let items = c.deref.ensures.value in
    subst (λ rs. IsNextOf c.args.stripes c.args.stripe rs 0 c.seek.result) (items ∙ rows_are) c.seek.ensures
