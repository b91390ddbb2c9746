use Rattle.std.specs.Prelude.{◌↔◌, IsTrue}
use Rattle.std.proofs.lemmas.Int.{to_z-of_z}
use mir.Syntax.{w128}
use mir.Val.{SFits, to_z, of_z}
use Rattle.def_sums.specs.Limits.{most_root}
use Rattle.def_close.specs.Narrow.{AreAsNarrow}
use Rattle.xg_search.specs.Searches.{low_of}
use Rattle.xg_close_run.specs.Searched.{width_of}
use Rattle.std.proofs.Common.{◌∙◌, ℕ, ◌*◌, ◌≤◌, ℤ, unsigned_abs, sym, subst, rules}
use Rattle.def_sums.specs.Limits.{most_row}
use Rattle.def_tree.specs.declared.Player.TheVariants.{One, Two}
use Rattle.xg_close_run.proofs.Found.{high_small, low_small}
use Rattle.xg_close_run.proofs.searching.SearchedGame.is_closed.Goals as goal

pub is_narrow-requires-clause-low : goal.is_narrow-requires-clause-low
is_narrow-requires-clause-low c =
    let small : unsigned_abs c.low.result ≤ most_row =
    subst (λ (n : ℤ). unsigned_abs n ≤ most_row) (sym c.low.ensures)
    (low_small c.args.self.now.form.now (c.facts.ensures.order One) (c.facts.ensures.order Two) c.facts.ensures.mass
    c.args.search.now c.requires.search) in
    search (rules, small)

pub is_narrow-requires-clause-high : goal.is_narrow-requires-clause-high
is_narrow-requires-clause-high c =
    let small : unsigned_abs c.high.result ≤ most_row =
    subst (λ (n : ℤ). unsigned_abs n ≤ most_row) (sym c.high.ensures)
    (high_small c.args.self.now.form.now (c.facts.ensures.order One) (c.facts.ensures.order Two) c.facts.ensures.mass
    c.args.search.now c.requires.search) in
    search (rules, small)

pub returns : goal.returns
returns c =
    let width = width_of c.args.width.now in
    let low_fits : SFits w128 c.low.result = search rules in
    let low_is = to_z-of_z w128 c.low.result low_fits ∙ c.low.ensures in
    let high_fits : SFits w128 c.high.result = search rules in
    let high_is = to_z-of_z w128 c.high.result high_fits ∙ c.high.ensures in
    let low : ℤ = to_z w128 (of_z w128 c.low.result) in
    let high : ℤ = to_z w128 (of_z w128 c.high.result) in
    let scale : ℕ = c.args.self.now.unit * most_root in
    subst (λ (n : ℤ). IsTrue c.is_narrow.result ↔ AreAsNarrow width scale (low_of c.args.search.now) n) high_is
    (subst (λ (n : ℤ). IsTrue c.is_narrow.result ↔ AreAsNarrow width scale n high) low_is
    (subst (λ (n : ℕ). IsTrue c.is_narrow.result ↔ AreAsNarrow width n low high) c.scale.ensures.scale c.is_narrow.ensures))
