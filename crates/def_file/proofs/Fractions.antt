-- The fractions of tables, with one entry more.
use Rattle.std.proofs.Common.{◌≡◌, ℕ, zero, suc, Bool, true, false, cond, nat_eq, List, [], ◌∷◌, ◌++◌, set, map, Option, Some, None, unwrap_or, refl, sym}
use Rattle.std.proofs.Common.{subst, arith}
use Rattle.std.specs.List.{All}
use Rattle.std.specs.Option.{option_map_or}
use Rattle.std.proofs.lemmas.List.Elements.{All-nil, All-head, All-tail, All-push, All-set}
use Rattle.def_fraction.specs.Divisors.{gcd}
use Rattle.def_fraction.specs.Fraction.{Fraction, IsInLowestTerms, zero_fraction}
use Rattle.def_tree.specs.declared.Kind.{Kind}
use Rattle.def_tree.specs.declared.Kind.TheVariants as movers
use Rattle.def_file.specs.Content.{Action, SetEntry, SetMention, OutcomeEntry, OutcomeMention, SetTables, Record, Contents, with_sets, sets_of_kind}
use Rattle.def_file.specs.Content.{no_contents}
use Rattle.def_file.specs.Faults.{mover, set_at, set_place_of, null_outcome, outcome_at, outcome_place_of}
use Rattle.def_file.specs.Adding.{kept_name, new_set, noted_set, new_outcome, noted_outcome, nth_payoff, with_record}
use Rattle.def_file.specs.Game.{IsSmallFraction, chances_of, HasFractions}

-- what a list that is given holds
abbrev pub IfGiven : {A : Type 0} → Option A → (A → Type 0) → Type 0
IfGiven None P = Unit {0}
IfGiven (Some x) P = P x

-- the numbers that an entry gives are in lowest terms, within the limit
pub record GivesFractions (r : Record) : Type 0 where
  pub chances : IfGiven r.set.actions (λ actions. All IsSmallFraction (map (λ a. a.chance) actions))
  pub payoffs : IfGiven r.outcome.payoffs (All IsSmallFraction)

zero_lowest : IsInLowestTerms zero_fraction
unfolding gcd
zero_lowest = record { positive = omega arith; coprime = refl }

-- 0 is in lowest terms, within the limit
pub zero_small : IsSmallFraction zero_fraction
zero_small = (zero_lowest, refl)

new_chances : (actions : Option (List Action))
    → IfGiven actions (λ given. All IsSmallFraction (map (λ a. a.chance) given))
    → All IsSmallFraction (map (λ a. a.chance) (unwrap_or actions []))
new_chances (Some given) h = h
new_chances None h = All-nil IsSmallFraction

entry_at : (table : List SetEntry) (i : ℕ) → All (λ entry. All IsSmallFraction (chances_of entry)) table
    → All IsSmallFraction (chances_of (set_at table i))
entry_at [] i h = All-nil IsSmallFraction
entry_at (e ∷ table) zero h = All-head (λ entry. All IsSmallFraction (chances_of entry)) e table h
entry_at (e ∷ table) (suc i) h = entry_at table i (All-tail (λ entry. All IsSmallFraction (chances_of entry)) e table h)

sets_more : (table : List SetEntry) (m : SetMention)
    → IfGiven m.actions (λ given. All IsSmallFraction (map (λ a. a.chance) given))
    → All (λ entry. All IsSmallFraction (chances_of entry)) table
    → All (λ entry. All IsSmallFraction (chances_of entry)) (noted_set table m)
sets_more table m given h = by (set_place_of m.number table)
  where
    by : (place : Option ℕ)
        → All (λ entry. All IsSmallFraction (chances_of entry)) (option_map_or
        (λ i. set table i (record (set_at table i) { name = kept_name (set_at table i).name m.name })) place (table ++ new_set m ∷ []))
    by (Some i) = All-set (λ entry. All IsSmallFraction (chances_of entry)) table i (record (set_at table i) { name = kept_name (set_at table i).name m.name })
        (entry_at table i h) h
    by None = All-push (λ entry. All IsSmallFraction (chances_of entry)) table (new_set m) h (new_chances m.actions given)

-- a payoff of a list of small fractions is one
pub nth_small : (payoffs : List Fraction) (i : ℕ) → All IsSmallFraction payoffs → IsSmallFraction (nth_payoff payoffs i)
nth_small [] i h = zero_small
nth_small (f ∷ payoffs) zero h = All-head IsSmallFraction f payoffs h
nth_small (f ∷ payoffs) (suc i) h = nth_small payoffs i (All-tail IsSmallFraction f payoffs h)

given_small : (payoffs : Option (List Fraction)) (i : ℕ) → IfGiven payoffs (All IsSmallFraction)
    → IsSmallFraction (nth_payoff (unwrap_or payoffs []) i)
given_small (Some given) i h = nth_small given i h
given_small None i h = zero_small

-- a payoff of the outcomes, with one more mention
module _ (paid : OutcomeEntry → Fraction) (at_null : IsSmallFraction (paid null_outcome)) (m : OutcomeMention)
    (keeps : (e : OutcomeEntry) (name : Option (List ℕ))
    → paid (record e { name = name }) ≡ paid e) (new : IsSmallFraction (paid (new_outcome m))) where
  outcome_kept : (outcomes : List OutcomeEntry) (i : ℕ) → All (λ e. IsSmallFraction (paid e)) outcomes
      → IsSmallFraction (paid (outcome_at outcomes i))
  outcome_kept [] i h = at_null
  outcome_kept (e ∷ outcomes) zero h = All-head (λ x. IsSmallFraction (paid x)) e outcomes h
  outcome_kept (e ∷ outcomes) (suc i) h = outcome_kept outcomes i (All-tail (λ x. IsSmallFraction (paid x)) e outcomes h)

  outcomes_more : (outcomes : List OutcomeEntry) → All (λ e. IsSmallFraction (paid e)) outcomes
      → All (λ e. IsSmallFraction (paid e)) (noted_outcome outcomes m)
  outcomes_more outcomes h = by (nat_eq m.number 0) (outcome_place_of m.number outcomes)
    where
      by : (null : Bool) (place : Option ℕ)
          → All (λ e. IsSmallFraction (paid e)) (cond null outcomes (option_map_or
          (λ i. set outcomes i (record (outcome_at outcomes i) { name = kept_name (outcome_at outcomes i).name m.name })) place
          (outcomes ++ new_outcome m ∷ [])))
      by true place = h
      by false (Some i) =
          All-set (λ e. IsSmallFraction (paid e)) outcomes i (record (outcome_at outcomes i) { name = kept_name (outcome_at outcomes i).name m.name })
          (subst IsSmallFraction (sym (keeps (outcome_at outcomes i) (kept_name (outcome_at outcomes i).name m.name))) (outcome_kept outcomes i h)) h
      by false None = All-push (λ e. IsSmallFraction (paid e)) outcomes (new_outcome m) h new

chance_more : (kind : Kind) (sets : SetTables) (m : SetMention)
    → IfGiven m.actions (λ given. All IsSmallFraction (map (λ a. a.chance) given))
    → All (λ entry. All IsSmallFraction (chances_of entry)) sets.chance
    → All (λ entry. All IsSmallFraction (chances_of entry)) (with_sets kind (noted_set (sets_of_kind kind sets) m) sets).chance
chance_more movers.Chance sets m given h = sets_more sets.chance m given h
chance_more movers.One sets m given h = h
chance_more movers.Two sets m given h = h
chance_more movers.Leaf sets m given h = h

-- without entries there are no fractions
pub no_fractions : HasFractions no_contents.sets no_contents.outcomes
no_fractions = record {
  chance = All-nil (λ entry. All IsSmallFraction (chances_of entry));
  one = All-nil (λ e. IsSmallFraction e.one);
  two = All-nil (λ e. IsSmallFraction e.two);
}

-- the tables with an entry more have such fractions, if the entry gives such
pub fractions_with : (contents : Contents) (r : Record) → GivesFractions r
    → HasFractions contents.sets contents.outcomes
    → HasFractions (with_record contents r).sets (with_record contents r).outcomes
fractions_with contents r gives h = record {
  chance = chance_more (mover r) contents.sets r.set gives.chances h.chance;
  one = outcomes_more (λ e. e.one) zero_small r.outcome (λ e name. refl) (given_small r.outcome.payoffs 0 gives.payoffs) contents.outcomes h.one;
  two = outcomes_more (λ e. e.two) zero_small r.outcome (λ e name. refl) (given_small r.outcome.payoffs 1 gives.payoffs) contents.outcomes h.two;
}
