-- An entry that has no fault.
use Rattle.std.proofs.Common.{◌≡◌, ℕ, ◌<◌, ◌≤◌, Bool, true, false, cond, ◌&&◌, ◌||◌, nat_eq, nat_lt, length, List, [], ◌∷◌, is_none, Option, Some, None}
use Rattle.std.proofs.Common.{unwrap_or, refl, arith}
use Rattle.std.specs.List.{position_or_len}
use Rattle.std.proofs.lemmas.Bool.{eqb-false, ltb-false, ltb-true}
use Rattle.def_tree.specs.Rules.{most_actions, most_nodes}
use Rattle.def_file.specs.declared.FileFault.{FileFault}
use Rattle.def_file.specs.Content.{Action, SetEntry, Record, Contents, sets_of_kind}
use Rattle.def_file.specs.Faults.{mover, has_set, first_met, record_faults, record_fault, set_place_of, is_set_undefined, is_set_miscounted, has_wrong_count}

-- it meets none of these tests
pub record IsFaultless (contents : Contents) (r : Record) : Type 0 where
  pub defined : has_set r.kind && is_set_undefined (sets_of_kind (mover r) contents.sets) r.set ≡ false
  pub room : nat_eq (length contents.nodes) most_nodes ≡ false
  pub counted : has_set r.kind && is_set_miscounted (sets_of_kind (mover r) contents.sets) r.set ≡ false

abbrev NoneMet : List (Bool × FileFault) → Type 0
NoneMet [] = Unit {0}
NoneMet (test ∷ rest) = (test.0 ≡ false) × NoneMet rest

none_met : (tests : List (Bool × FileFault)) → first_met tests ≡ None → NoneMet tests
none_met [] none = tt
none_met ((true, fault) ∷ rest) none = absurd cc
none_met ((false, fault) ∷ rest) none = (refl, none_met rest none)

-- no test is met where there is no fault
pub faultless : (contents : Contents) (r : Record) → record_fault contents r ≡ None → IsFaultless contents r
faultless contents r none =
    let later = (none_met (record_faults contents r) none).1 in
    record { defined = later.0; room = later.1.1.1.1.1.0; counted = later.1.1.1.1.1.1.0 }

-- a first place that is found is one below the end
pub at_first : (first i n : ℕ) (b : Bool) → nat_lt first n ≡ b → cond b (Some first) None ≡ Some i → i < n
at_first first i n true e at = let same : first ≡ i = cc in omega (arith, ltb-true first n e)
at_first first i n false e at = absurd cc

-- a place is in the table
pub place-lt : (n : ℕ) (table : List SetEntry) (i : ℕ) → set_place_of n table ≡ Some i → i < length table
place-lt n table i at = at_first (position_or_len (λ e. nat_eq n e.number) table) i (length table) _ refl at

right_count : (n : ℕ) (b c : Bool) → nat_eq n 0 ≡ b → nat_lt most_actions n ≡ c → b || c ≡ false
    → (1 ≤ n) × (n ≤ most_actions)
right_count n false false some few e = let none : n ≡ 0 → ⊥ = eqb-false n 0 some in (omega arith, ltb-false most_actions n few)
right_count n true c some few e = absurd cc
right_count n false true some few e = absurd cc

-- a first list has 1 to 1,024 actions
pub given_count : (given : Option (List Action)) → is_none given ≡ false → has_wrong_count given ≡ false
    → (1 ≤ length (unwrap_or given [])) × (length (unwrap_or given []) ≤ most_actions)
given_count (Some given) there right = right_count (length given) _ _ refl refl right
given_count None there right = absurd cc
