-- What a search keeps, as plans with best replies.
use Rattle.std.proofs.Common.{◌≡◌, ℕ, ◌*◌, ◌≤◌, List, ℤ, unsigned_abs, sym, ap, subst, arith}
use Rattle.def_sums.specs.Limits.{most_mass, most_root, most_row}
use Rattle.std.specs.Prelude.{◌↔◌, slice_index, Option, Result, Ok, Err, OnOk, OnErr}
use Rattle.std.specs.Io.KnownBytes.{append_known}
use Rattle.def_outside.specs.Sinks.{AppendsPrefix, Writes}
use Rattle.def_fraction.specs.Fraction.{Fraction, fraction_of, most}
use Rattle.def_cert_accepted.specs.OfOutcome.{printed_bound}
use Rattle.def_close.specs.Narrow.{AreAsNarrow, IsAsNarrow}
use Rattle.def_close.proofs.Narrow.{narrow_totals}
use Rattle.def_tree.specs.declared.Player.TheVariants.{One, Two}
use Rattle.def_plan.specs.Form.{AreInOrder, SequenceForm}
use Rattle.def_plan.specs.Payoff.{mass_of}
use Rattle.def_reply.proofs.ReplySizes.{bounds_small}
use Rattle.def_reply.specs.Outcome.{Head, OutcomeEnds}
use Rattle.def_cert_verdict.specs.Ranges.{IsFromTo}
use Rattle.def_game_numbers.specs.WholeSums.{IsWholeIn}
use Rattle.def_close.specs.Plans.{ArePlansOf, ends_of_plans, one_line}
use Rattle.xg_bracket.proofs.Offered.{length-best}
use Rattle.def_cert_accepted.specs.Writable.{IsOutcomeOf}
use Rattle.xg_search.specs.declared.search.Search.{Search}
use Rattle.xg_search.specs.Searches.{IsSearchOf, high_of, low_of, lower_of, upper_of}

-- the plans that are kept are plans of the greatest root
pub plans_kept : (form : SequenceForm) (search : Search) → IsSearchOf form search
    → ArePlansOf form most_root (lower_of search).plan (upper_of search).plan
plans_kept form search is = record { of_one = is.lower.plan; of_two = is.upper.plan }

-- and what is kept of both are the ends of their bracket
abbrev pub ends_kept : Search → OutcomeEnds
ends_kept search = record {
  lower = record { plan = (lower_of search).plan; reply = (lower_of search).reply.reply };
  upper = record { plan = (upper_of search).plan; reply = (upper_of search).reply.reply };
}

pub ends_are : (form : SequenceForm) (search : Search) → IsSearchOf form search
    → ends_kept search ≡ ends_of_plans form (lower_of search).plan (upper_of search).plan
ends_are form search is = λ i. record {
  lower = record { plan = (lower_of search).plan; reply = is.lower.reply i };
  upper = record { plan = (upper_of search).plan; reply = is.upper.reply i };
}

module _ (form : SequenceForm) (order_one : AreInOrder form.sets_one) (order_two : AreInOrder form.sets_two)
    (mass : mass_of form.leaves ≤ most_mass) where
  -- the totals have room
  pub low_small : (search : Search) → IsSearchOf form search → unsigned_abs (low_of search) ≤ most_row
  low_small search is =
      subst (λ (n : ℤ). unsigned_abs n ≤ most_row) (sym (ap (λ (ends : OutcomeEnds). ends.lower.reply.total) (ends_are form search is)))
      (bounds_small.floor form most_root (lower_of search).plan order_one order_two is.lower.plan mass (omega arith))

  pub high_small : (search : Search) → IsSearchOf form search → unsigned_abs (high_of search) ≤ most_row
  high_small search is =
      subst (λ (n : ℤ). unsigned_abs n ≤ most_row) (sym (ap (λ (ends : OutcomeEnds). ends.upper.reply.total) (ends_are form search is)))
      (bounds_small.ceiling form most_root (upper_of search).plan order_one order_two is.upper.plan mass (omega arith))

  -- the certificate of plans can be written
  pub plans_writable : (head : Head) (one two : List ℕ) → ArePlansOf form most_root one two → IsFromTo 1 most head.unit
      → IsWholeIn head.unit head.sum → IsOutcomeOf form (one_line head (ends_of_plans form one two))
  plans_writable head one two plans unit sum = record {
    unit = unit;
    sum = sum;
    ends = (
      record {
        plan = plans.of_one.all_sequences;
        reply = length-best form Two one;
        root = subst (IsFromTo 1 most_root) (sym plans.of_one.root_weight) (plans.of_one.some_root, omega arith);
        total = bounds_small.floor form most_root one order_one order_two plans.of_one mass (omega arith);
      },
      record {
        plan = plans.of_two.all_sequences;
        reply = length-best form One two;
        root = subst (IsFromTo 1 most_root) (sym plans.of_two.root_weight) (plans.of_two.some_root, omega arith);
        total = bounds_small.ceiling form most_root two order_one order_two plans.of_two mass (omega arith);
      },
    );
  }

-- the bounds of the plans that are kept
module _ (form : SequenceForm) (unit : ℕ) (search : Search) (is : IsSearchOf form search) where
  abbrev ends : OutcomeEnds
  ends = ends_of_plans form (lower_of search).plan (upper_of search).plan

  pub low_bound : printed_bound unit ends.lower ≡ fraction_of (low_of search) (unit * most_root)
  low_bound =
      let total : ends.lower.reply.total ≡ low_of search =
      sym (ap (λ (e : OutcomeEnds). e.lower.reply.total) (ends_are form search is)) in
      let root : slice_index (lower_of search).plan 0 ≡ most_root = is.lower.plan.root_weight in
      (λ i. fraction_of (total i) (unit * root i))

  pub high_bound : printed_bound unit ends.upper ≡ fraction_of (high_of search) (unit * most_root)
  high_bound =
      let total : ends.upper.reply.total ≡ high_of search =
      sym (ap (λ (e : OutcomeEnds). e.upper.reply.total) (ends_are form search is)) in
      let root : slice_index (upper_of search).plan 0 ≡ most_root = is.upper.plan.root_weight in
      (λ i. fraction_of (total i) (unit * root i))

  -- how narrow their totals are is how narrow their bounds are
  pub kept_narrow : (width : Fraction) → 1 ≤ unit * most_root
      → IsAsNarrow width (printed_bound unit ends.lower) (printed_bound unit ends.upper)
      ↔ AreAsNarrow width (unit * most_root) (low_of search) (high_of search)
  kept_narrow width some =
      subst (λ (f : Fraction). IsAsNarrow width f (printed_bound unit ends.upper)
      ↔ AreAsNarrow width (unit * most_root) (low_of search) (high_of search)) (sym low_bound)
      (subst (λ (f : Fraction). IsAsNarrow width (fraction_of (low_of search) (unit * most_root)) f
      ↔ AreAsNarrow width (unit * most_root) (low_of search) (high_of search)) (sym high_bound)
      (narrow_totals width (unit * most_root) (low_of search) (high_of search) some))

-- a writer's clauses say that it writes the text
pub writes_of : {T E : Type 0} (before now : Option (List ℕ)) (text : List ℕ) (r : Result T E)
    → OnOk r (now ≡ append_known before text) → OnErr r (AppendsPrefix before now text) → Writes before now text r
writes_of before now text (Ok x) whole front = whole
writes_of before now text (Err x) whole front = front
