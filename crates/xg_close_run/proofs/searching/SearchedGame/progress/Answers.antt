use Rattle.std.proofs.Common.{◌≡◌, ◌∙◌, ℕ, ◌*◌, ◌≤◌, ◌^◌, ℤ, unsigned_abs, sym, subst, rules}
use Rattle.std.proofs.lemmas.Int.{to_z-of_z}
use mir.Syntax.{w128}
use mir.Val.{SFits, to_z, of_z}
use Rattle.def_sums.specs.Limits.{most_root, most_row}
use Rattle.def_fraction.specs.Fraction.{Fraction, fraction_of}
use Rattle.def_close.specs.Narrow.{IsAsNarrow}
use Rattle.def_progress.specs.Decimals.{value_of}
use Rattle.def_cert_accepted.specs.OfOutcome.{printed_bound}
use Rattle.def_close.specs.Plans.{ends_of_plans}
use Rattle.def_tree.specs.declared.Player.TheVariants.{One, Two}
use Rattle.xg_close_lines.specs.Texts.{decimal_of}
use Rattle.xg_search.specs.Searches.{high_of, low_of, lower_of, upper_of}
use Rattle.xg_close_run.specs.Searched.{IsGap}
use Rattle.xg_close_run.proofs.Found.{high_bound, high_small, kept_narrow, low_bound, low_small, plans_kept}
use Rattle.xg_close_run.proofs.Gaps.{rounded_is_wide}
use Rattle.xg_close_run.proofs.searching.SearchedGame.progress.Goals as goal

pub gap-requires-clause-low : goal.gap-requires-clause-low
gap-requires-clause-low c =
    let small : unsigned_abs c.low-low.result ≤ most_row =
    subst (λ (n : ℤ). unsigned_abs n ≤ most_row) (sym c.low-low.ensures)
    (low_small c.args.self.now.form.now (c.facts.ensures.order One) (c.facts.ensures.order Two) c.facts.ensures.mass
    c.args.search.now c.requires.search) in
    search (rules, small)

pub gap-requires-clause-high : goal.gap-requires-clause-high
gap-requires-clause-high c =
    let small : unsigned_abs c.high-high.result ≤ most_row =
    subst (λ (n : ℤ). unsigned_abs n ≤ most_row) (sym c.high-high.ensures)
    (high_small c.args.self.now.form.now (c.facts.ensures.order One) (c.facts.ensures.order Two) c.facts.ensures.mass
    c.args.search.now c.requires.search) in
    search (rules, small)

pub bound-requires-clause-total : goal.bound-requires-clause-total
bound-requires-clause-total c =
    let small : unsigned_abs c.low-low.result ≤ most_row =
    subst (λ (n : ℤ). unsigned_abs n ≤ most_row) (sym c.low-low.ensures)
    (low_small c.args.self.now.form.now (c.facts.ensures.order One) (c.facts.ensures.order Two) c.facts.ensures.mass
    c.args.search.now c.requires.search) in
    search (rules, small)

pub bound-requires-2-clause-total : goal.bound-requires-2-clause-total
bound-requires-2-clause-total c =
    let small : unsigned_abs c.high-high.result ≤ most_row =
    subst (λ (n : ℤ). unsigned_abs n ≤ most_row) (sym c.high-high.ensures)
    (high_small c.args.self.now.form.now (c.facts.ensures.order One) (c.facts.ensures.order Two) c.facts.ensures.mass
    c.args.search.now c.requires.search) in
    search (rules, small)

pub returns : goal.returns
returns c = λ asked shown.
    let form = c.args.self.now.form.now in
    let unit : ℕ = c.args.self.now.unit in
    let kept = c.args.search.now in
    let is = c.requires.search in
    let ends = ends_of_plans form (lower_of kept).plan (upper_of kept).plan in
    let low_fits : SFits w128 c.low-low.result = search rules in
    let low_is : to_z w128 (of_z w128 c.low-low.result) ≡ low_of kept =
    to_z-of_z w128 c.low-low.result low_fits ∙ c.low-low.ensures in
    let high_fits : SFits w128 c.high-high.result = search rules in
    let high_is : to_z w128 (of_z w128 c.high-high.result) ≡ high_of kept =
    to_z-of_z w128 c.high-high.result high_fits ∙ c.high-high.ensures in
    let scale_is : c.scale-scale.result ≡ unit * most_root = c.scale-scale.ensures.scale in
    let low : c.bound.result ≡ printed_bound unit ends.lower =
    c.bound.ensures ∙ (λ i. fraction_of (low_is i) (scale_is i)) ∙ sym (low_bound form unit kept is) in
    let high : c.bound-2.result ≡ printed_bound unit ends.upper =
    c.bound-2.ensures ∙ (λ i. fraction_of (high_is i) (scale_is i)) ∙ sym (high_bound form unit kept is) in
    let width : Fraction = value_of (decimal_of c.rounded_up.result) in
    let gap : IsGap (low_of kept) (high_of kept) c.gap.result =
    subst (λ (n : ℤ). IsGap (low_of kept) n c.gap.result) high_is
    (subst (λ (n : ℤ). IsGap n (to_z w128 (of_z w128 c.high-high.result)) c.gap.result) low_is c.gap.ensures.gap) in
    let enough : c.gap.result * 10 ^ c.rounded_up.result.places ≤ c.rounded_up.result.number * (unit * most_root) =
    subst (λ (n : ℕ). c.gap.result * 10 ^ c.rounded_up.result.places ≤ c.rounded_up.result.number * n) scale_is
    c.rounded_up.ensures.not_below in
    let narrow : IsAsNarrow width (printed_bound unit ends.lower) (printed_bound unit ends.upper) =
    (kept_narrow form unit kept is width (subst (λ (n : ℕ). 1 ≤ n) scale_is c.scale-scale.ensures.some)).1
    (rounded_is_wide (low_of kept) (high_of kept) c.gap.result (10 ^ c.rounded_up.result.places) c.rounded_up.result.number
    (unit * most_root) gap enough) in
    record {
      one = (lower_of kept).plan;
      two = (upper_of kept).plan;
      plans = plans_kept form kept is;
      low = low;
      high = high;
      width = subst (λ (f : Fraction). IsAsNarrow width f c.bound-2.result) (sym low)
          (subst (λ (f : Fraction). IsAsNarrow width (printed_bound unit ends.lower) f) (sym high) narrow);
      asked_is = shown;
    }
