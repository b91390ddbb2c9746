-- The sets and the outcomes with one more entry.
use Rattle.std.proofs.Common.{◌≡◌, ℕ, ◌+◌, Bool, true, false, cond, not, List, [], ◌∷◌, ◌++◌, length, map, Option, Some, None, refl, sym, ap, ◌∙◌, append-nil}
use Rattle.std.specs.Prelude.{nat_eq, unwrap_or}
use Rattle.std.proofs.lemmas.Bool.{eqb-true}
use Rattle.std.proofs.lemmas.List.{map-append}
use Rattle.std.proofs.lemmas.List.Elements.{filter-append}
use Rattle.def_tree.specs.declared.Kind.{Kind}
use Rattle.def_tree.specs.declared.Kind.TheVariants as movers
use Rattle.def_tree.specs.Rules.{is_same_kind}
use Rattle.def_file.specs.Content.{Record, SetMention, OutcomeMention, SetEntry, OutcomeEntry, SetTables, sets_of_kind, with_sets}
use Rattle.def_file.specs.Faults.{mover, no_set, null_outcome}
use Rattle.def_file.specs.Adding.{kept_name, new_set, noted_set, new_outcome, noted_outcome, nth_payoff, set_number, action_count}
use Rattle.def_file.specs.Entries.{firsts, first_given, given_first, number_in, of_kind, set_table, with_outcome, outcome_numbers, outcome_table}
use Rattle.def_file.proofs.Firsts.{among, number-stays}
use Rattle.def_file.proofs.Tables.{found, noted_with, IsNotedWith, table-noted, number-noted, value-noted, hits, hits-other, hits-own, hits-none, HasSome}
use Rattle.def_file.proofs.Tables.{hits-some}

first_given-append : (xs : List (Option (List ℕ))) (x : Option (List ℕ))
    → first_given (xs ++ x ∷ []) ≡ kept_name (first_given xs) x
first_given-append [] (Some x) = refl
first_given-append [] None = refl
first_given-append (Some y ∷ xs) x = refl
first_given-append (None ∷ xs) x = first_given-append xs x

-- the name with one more mention
name_more : {R : Type 0} (name : R → Option (List ℕ)) (rs : List R) (r : R)
    → first_given (map name (rs ++ r ∷ [])) ≡ kept_name (first_given (map name rs)) (name r)
name_more name rs r = ap first_given (map-append name rs (r ∷ [])) ∙ first_given-append (map name rs) (name r)

-- the first mention stays the first
list_stays : {R A : Type 0} (given : R → Option (List A)) (rs : List R) (r : R) → HasSome rs
    → given_first (map given (rs ++ r ∷ [])) ≡ given_first (map given rs)
list_stays given rs r (x, rest, e) = ap (λ xs. given_first (map given (xs ++ r ∷ []))) e ∙ ap (λ xs. given_first (map given xs)) (sym e)

-- Sets.

-- the number of an entry's set
abbrev pub set_key : Record → ℕ
set_key r = r.set.number

-- what some mentions say of a set
abbrev set_by : ℕ → List Record → SetEntry
set_by n ms = record { number = n; name = first_given (map (λ r. r.set.name) ms); actions = given_first (map (λ r. r.set.actions) ms) }

-- what some entries say of a set
abbrev pub set_known : List Record → ℕ → SetEntry
set_known rs n = set_by n (hits set_key n rs)

abbrev renamed_set : SetMention → SetEntry → SetEntry
renamed_set m e = record e { name = kept_name e.name m.name }

set_changed : (n : ℕ) (rs : List Record) (r : Record) → HasSome rs
    → set_by n (rs ++ r ∷ []) ≡ renamed_set r.set (set_by n rs)
set_changed n rs r some =
    let name = name_more (λ (x : Record). x.set.name) rs r in
    let actions = list_stays (λ (x : Record). x.set.actions) rs r some in
    λ i. record { number = n; name = name i; actions = actions i }

set_begun : (r : Record) → set_by r.set.number (r ∷ []) ≡ new_set r.set
set_begun r = let name = first_given-append [] r.set.name in λ i. record { number = r.set.number; name = name i; actions = unwrap_or r.set.actions [] }

set_noted : (rs : List Record) (r : Record)
    → IsNotedWith (λ e. e.number) (renamed_set r.set) (new_set r.set) (set_known rs) (set_known (rs ++ r ∷ [])) r.set.number (map set_key rs)
set_noted rs r = record {
  shown = λ m. refl;
  stays = λ m h. ap (set_by m) (hits-other set_key m rs r h);
  changed = λ h. ap (set_by r.set.number) (hits-own set_key rs r) ∙ set_changed r.set.number (hits set_key r.set.number rs) r
      (hits-some set_key r.set.number rs h);
  begun = λ h. ap (set_by r.set.number) (hits-own set_key rs r ∙ ap (λ (xs : List Record). xs ++ r ∷ []) (hits-none set_key r.set.number rs h)) ∙ set_begun r;
}

-- the set tables of mentions of one kind
abbrev set_table_by : List Record → List SetEntry
set_table_by rs = map (set_known rs) (firsts (map set_key rs))

-- the numbers with one entry more
pub numbers_more : (key : Record → ℕ) (rs : List Record) (r : Record)
    → firsts (map key (rs ++ r ∷ [])) ≡ firsts (map key rs ++ key r ∷ [])
numbers_more key rs r = ap firsts (map-append key rs (r ∷ []))

set_table_more : (rs : List Record) (r : Record) → set_table_by (rs ++ r ∷ []) ≡ noted_set (set_table_by rs) r.set
set_table_more rs r =
    ap (map (set_known (rs ++ r ∷ []))) (numbers_more set_key rs r)
    ∙ table-noted (λ e. e.number) no_set (renamed_set r.set) (new_set r.set) (set_known rs) (set_known (rs ++ r ∷ [])) r.set.number (map set_key rs)
    (set_noted rs r)

-- the number of the last entry's set
pub set_number_more : (rs : List Record) (r : Record)
    → number_in r.set.number (firsts (map set_key (rs ++ r ∷ []))) ≡ set_number (set_table_by rs) r.set
set_number_more rs r =
    ap (number_in r.set.number) (numbers_more set_key rs r)
    ∙ number-noted (λ (e : SetEntry). e.number) (set_known rs) (λ m. refl) r.set.number (map set_key rs)

-- how many actions the last entry's set has
pub action_count_more : (rs : List Record) (r : Record)
    → length (set_known (rs ++ r ∷ []) r.set.number).actions ≡ action_count (set_table_by rs) r.set
action_count_more rs r =
    let known = set_noted rs r in
    value-noted (λ (e : SetEntry). e.number) no_set (λ (e : SetEntry). length e.actions) (set_known rs) (set_known (rs ++ r ∷ []))
    (length (new_set r.set).actions) (λ m. refl) r.set.number (map set_key rs)
    (λ h. ap (λ (e : SetEntry). length e.actions) (known.changed h)) (λ h. ap (λ (e : SetEntry). length e.actions) (known.begun h))

-- what an earlier mention says of its set stays
pub set_number_stays : (n : ℕ) (rs : List Record) (r : Record) → among n (map set_key rs) ≡ true
    → number_in n (firsts (map set_key (rs ++ r ∷ []))) ≡ number_in n (firsts (map set_key rs))
set_number_stays n rs r h = ap (number_in n) (numbers_more set_key rs r) ∙ number-stays n r.set.number (map set_key rs) h

count_step : (n : ℕ) (rs : List Record) (r : Record) (b : Bool) → nat_eq r.set.number n ≡ b
    → among n (map set_key rs) ≡ true → length (set_known (rs ++ r ∷ []) n).actions ≡ length (set_known rs n).actions
count_step n rs r true e h =
    let same : r.set.number ≡ n = eqb-true r.set.number n e in
    let own : among r.set.number (map set_key rs) ≡ true = ap (λ (k : ℕ). among k (map set_key rs)) same ∙ h in
    let known = set_noted rs r in
    ap (λ (k : ℕ). length (set_known (rs ++ r ∷ []) k).actions) (sym same) ∙ ap (λ (e : SetEntry). length e.actions) (known.changed own)
    ∙ ap (λ (k : ℕ). length (set_known rs k).actions) same
count_step n rs r false e h = ap (λ (e : SetEntry). length e.actions) ((set_noted rs r).stays n e)

-- a set keeps its number of actions
pub action_count_stays : (n : ℕ) (rs : List Record) (r : Record) → among n (map set_key rs) ≡ true
    → length (set_known (rs ++ r ∷ []) n).actions ≡ length (set_known rs n).actions
action_count_stays n rs r h = count_step n rs r (nat_eq r.set.number n) refl h

-- Entries of a kind.

-- the last entry's kind has it too
pub own_kind : (kind : Kind) (rs : List Record) (r : Record) → is_same_kind kind (mover r) ≡ true
    → of_kind kind (rs ++ r ∷ []) ≡ of_kind kind rs ++ r ∷ []
own_kind kind rs r h = filter-append (λ x. is_same_kind kind (mover x)) rs (r ∷ []) ∙ ap (λ (b : Bool). of_kind kind rs ++ cond b (r ∷ []) []) h

-- another kind has it not
pub other_kind : (kind : Kind) (rs : List Record) (r : Record) → is_same_kind kind (mover r) ≡ false
    → of_kind kind (rs ++ r ∷ []) ≡ of_kind kind rs
other_kind kind rs r h = filter-append (λ x. is_same_kind kind (mover x)) rs (r ∷ []) ∙ ap (λ (b : Bool). of_kind kind rs ++ cond b (r ∷ []) []) h
    ∙ append-nil (of_kind kind rs)

own_table : (kind : Kind) (rs : List Record) (r : Record) → is_same_kind kind (mover r) ≡ true
    → set_table kind (rs ++ r ∷ []) ≡ noted_set (set_table kind rs) r.set
own_table kind rs r h = ap set_table_by (own_kind kind rs r h) ∙ set_table_more (of_kind kind rs) r

other_table : (kind : Kind) (rs : List Record) (r : Record) → is_same_kind kind (mover r) ≡ false
    → set_table kind (rs ++ r ∷ []) ≡ set_table kind rs
other_table kind rs r h = ap set_table_by (other_kind kind rs r h)

-- the tables of the sets of all kinds
abbrev pub set_tables_of : List Record → SetTables
set_tables_of rs = record { chance = set_table movers.Chance rs; one = set_table movers.One rs; two = set_table movers.Two rs }

sets_by : (kind : Kind) (rs : List Record) (r : Record) → mover r ≡ kind
    → set_tables_of (rs ++ r ∷ []) ≡ with_sets kind (noted_set (sets_of_kind kind (set_tables_of rs)) r.set) (set_tables_of rs)
sets_by movers.Chance rs r e =
    let a = own_table movers.Chance rs r (ap (is_same_kind movers.Chance) e) in
    let b = other_table movers.One rs r (ap (is_same_kind movers.One) e) in
    let c = other_table movers.Two rs r (ap (is_same_kind movers.Two) e) in
    λ i. record { chance = a i; one = b i; two = c i }
sets_by movers.One rs r e =
    let a = other_table movers.Chance rs r (ap (is_same_kind movers.Chance) e) in
    let b = own_table movers.One rs r (ap (is_same_kind movers.One) e) in
    let c = other_table movers.Two rs r (ap (is_same_kind movers.Two) e) in
    λ i. record { chance = a i; one = b i; two = c i }
sets_by movers.Two rs r e =
    let a = other_table movers.Chance rs r (ap (is_same_kind movers.Chance) e) in
    let b = other_table movers.One rs r (ap (is_same_kind movers.One) e) in
    let c = own_table movers.Two rs r (ap (is_same_kind movers.Two) e) in
    λ i. record { chance = a i; one = b i; two = c i }
sets_by movers.Leaf rs r e =
    let a = other_table movers.Chance rs r (ap (is_same_kind movers.Chance) e) in
    let b = other_table movers.One rs r (ap (is_same_kind movers.One) e) in
    let c = other_table movers.Two rs r (ap (is_same_kind movers.Two) e) in
    λ i. record { chance = a i; one = b i; two = c i }

-- the tables with one entry more
pub sets_more : (rs : List Record) (r : Record)
    → set_tables_of (rs ++ r ∷ [])
    ≡ with_sets (mover r) (noted_set (sets_of_kind (mover r) (set_tables_of rs)) r.set) (set_tables_of rs)
sets_more rs r = sets_by (mover r) rs r refl

-- Outcomes.

-- the number of an entry's outcome
abbrev pub outcome_key : Record → ℕ
outcome_key r = r.outcome.number

-- what some mentions say of an outcome
abbrev outcome_by : ℕ → List Record → OutcomeEntry
outcome_by n ms = record {
  number = n;
  name = first_given (map (λ r. r.outcome.name) ms);
  one = nth_payoff (given_first (map (λ r. r.outcome.payoffs) ms)) 0;
  two = nth_payoff (given_first (map (λ r. r.outcome.payoffs) ms)) 1;
}

abbrev outcome_known : List Record → ℕ → OutcomeEntry
outcome_known rs n = outcome_by n (hits outcome_key n rs)

abbrev renamed_outcome : OutcomeMention → OutcomeEntry → OutcomeEntry
renamed_outcome m e = record e { name = kept_name e.name m.name }

outcome_changed : (n : ℕ) (rs : List Record) (r : Record) → HasSome rs
    → outcome_by n (rs ++ r ∷ []) ≡ renamed_outcome r.outcome (outcome_by n rs)
outcome_changed n rs r some =
    let name = name_more (λ (x : Record). x.outcome.name) rs r in
    let payoffs = list_stays (λ (x : Record). x.outcome.payoffs) rs r some in
    λ i. record { number = n; name = name i; one = nth_payoff (payoffs i) 0; two = nth_payoff (payoffs i) 1 }

outcome_begun : (r : Record) → outcome_by r.outcome.number (r ∷ []) ≡ new_outcome r.outcome
outcome_begun r =
    let name = first_given-append [] r.outcome.name in
    λ i. record {
      number = r.outcome.number;
      name = name i;
      one = nth_payoff (unwrap_or r.outcome.payoffs []) 0;
      two = nth_payoff (unwrap_or r.outcome.payoffs []) 1;
    }

outcome_noted : (rs : List Record) (r : Record)
    → IsNotedWith (λ e. e.number) (renamed_outcome r.outcome) (new_outcome r.outcome) (outcome_known rs) (outcome_known (rs ++ r ∷ [])) r.outcome.number
    (map outcome_key rs)
outcome_noted rs r = record {
  shown = λ m. refl;
  stays = λ m h. ap (outcome_by m) (hits-other outcome_key m rs r h);
  changed = λ h. ap (outcome_by r.outcome.number) (hits-own outcome_key rs r)
      ∙ outcome_changed r.outcome.number (hits outcome_key r.outcome.number rs) r (hits-some outcome_key r.outcome.number rs h);
  begun = λ h. ap (outcome_by r.outcome.number) (hits-own outcome_key rs r
      ∙ ap (λ (xs : List Record). xs ++ r ∷ []) (hits-none outcome_key r.outcome.number rs h)) ∙ outcome_begun r;
}

-- the outcomes of mentions of outcomes other than 0
abbrev outcomes_by : List Record → List OutcomeEntry
outcomes_by rs = map (outcome_known rs) (firsts (map outcome_key rs))

outcomes_more : (rs : List Record) (r : Record)
    → outcomes_by (rs ++ r ∷ [])
    ≡ noted_with (λ e. e.number) null_outcome (renamed_outcome r.outcome) (new_outcome r.outcome) r.outcome.number (outcomes_by rs)
outcomes_more rs r =
    ap (map (outcome_known (rs ++ r ∷ []))) (numbers_more outcome_key rs r)
    ∙ table-noted (λ e. e.number) null_outcome (renamed_outcome r.outcome) (new_outcome r.outcome) (outcome_known rs) (outcome_known (rs ++ r ∷ []))
    r.outcome.number (map outcome_key rs) (outcome_noted rs r)

-- an outcome other than 0 is one of those mentioned
pub some_outcome : (rs : List Record) (r : Record) → nat_eq r.outcome.number 0 ≡ false
    → with_outcome (rs ++ r ∷ []) ≡ with_outcome rs ++ r ∷ []
some_outcome rs r h = filter-append (λ x. not (nat_eq x.outcome.number 0)) rs (r ∷ []) ∙ ap (λ (b : Bool). with_outcome rs ++ cond (not b) (r ∷ []) []) h

-- outcome 0 is not
pub null_mention : (rs : List Record) (r : Record) → nat_eq r.outcome.number 0 ≡ true
    → with_outcome (rs ++ r ∷ []) ≡ with_outcome rs
null_mention rs r h = filter-append (λ x. not (nat_eq x.outcome.number 0)) rs (r ∷ []) ∙ ap (λ (b : Bool). with_outcome rs ++ cond (not b) (r ∷ []) []) h
    ∙ append-nil (with_outcome rs)

outcome_table_step : (rs : List Record) (r : Record) (b : Bool) → nat_eq r.outcome.number 0 ≡ b
    → outcome_table (rs ++ r ∷ [])
    ≡ cond b (outcome_table rs) (noted_with (λ e. e.number) null_outcome (renamed_outcome r.outcome) (new_outcome r.outcome) r.outcome.number
    (outcome_table rs))
outcome_table_step rs r true e = ap outcomes_by (null_mention rs r e)
outcome_table_step rs r false e = ap outcomes_by (some_outcome rs r e) ∙ outcomes_more (with_outcome rs) r

-- the outcomes with one entry more
pub outcome_table_more : (rs : List Record) (r : Record)
    → outcome_table (rs ++ r ∷ []) ≡ noted_outcome (outcome_table rs) r.outcome
outcome_table_more rs r = outcome_table_step rs r (nat_eq r.outcome.number 0) refl

-- the number of the last entry's outcome
pub outcome_number_step : (rs : List Record) (r : Record) (b : Bool) → nat_eq r.outcome.number 0 ≡ b
    → cond b 0 (number_in r.outcome.number (outcome_numbers (rs ++ r ∷ [])))
    ≡ cond b 0 (unwrap_or (found (λ (e : OutcomeEntry). e.number) r.outcome.number (outcome_table rs)) (length (outcome_table rs)) + 1)
outcome_number_step rs r true e = refl
outcome_number_step rs r false e =
    ap (λ xs. number_in r.outcome.number (firsts (map outcome_key xs))) (some_outcome rs r e)
    ∙ ap (number_in r.outcome.number) (numbers_more outcome_key (with_outcome rs) r)
    ∙ number-noted (λ (e : OutcomeEntry). e.number) (outcome_known (with_outcome rs)) (λ m. refl) r.outcome.number (map outcome_key (with_outcome rs))
