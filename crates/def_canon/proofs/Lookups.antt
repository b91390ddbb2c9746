-- What the tables of described entries have of an entry's set and outcome.
use Rattle.std.proofs.Common.{◌≡◌, ◌≢◌, ℕ, suc, ◌+◌, ◌-◌, ◌≤◌, Bool, true, false, cond, List, [], ◌∷◌, ◌++◌, length, get_or, map, refl, sym, ap, ◌∙◌, subst}
use Rattle.std.proofs.Common.{arith, eq-eqb}
use Rattle.std.specs.Prelude.{◌||◌, filter, nat_eq, not, unwrap_or}
use Rattle.std.proofs.lemmas.Bool.{eqb-true}
use Rattle.std.proofs.Math.Bool.{or-true}
use Rattle.def_tree.specs.declared.Kind.{Kind}
use Rattle.def_tree.specs.declared.Kind.TheVariants.{Leaf}
use Rattle.def_tree.specs.Rules.{is_same_kind}
use Rattle.def_tree.proofs.Sets.{is_same_kind_refl}
use Rattle.def_file.specs.Content.{SetMention, OutcomeMention, Record}
use Rattle.def_file.specs.Faults.{mover, no_set, null_outcome}
use Rattle.def_file.specs.Adding.{new_set, new_outcome, nth_payoff}
use Rattle.def_file.specs.Entries.{first_given, firsts, given_first, mentions, number_in, of_kind, outcome_entry, outcome_mentions, outcome_numbers}
use Rattle.def_file.specs.Entries.{outcome_table, with_outcome, set_entry, set_numbers, set_table}
use Rattle.def_file.proofs.Firsts.{among, among-firsts, place}
use Rattle.def_canon.specs.Described.{Describes, Each}
use Rattle.def_canon.proofs.Tables.{AreAllNamed, filter_each, filter_some, first_name, first_same, front_some, given_same, mention_some, mentions_same}

look_step : {E : Type 0} (f : ℕ → E) (d : E) (n m : ℕ) (ns : List ℕ) (here : Bool) → nat_eq n m ≡ here
    → (here || among n ns) ≡ true → (among n ns ≡ true → get_or (map f ns) (place n ns) d ≡ f n)
    → get_or (f m ∷ map f ns) (cond (not here) (1 + place n ns) 0) d ≡ f n
look_step f d n m ns true is h later = ap f (sym (eqb-true n m is))
look_step f d n m ns false is h later =
    let next : 1 + place n ns ≡ suc (place n ns) = omega arith in
    ap (λ k. get_or (f m ∷ map f ns) k d) next ∙ later h

look : {E : Type 0} (f : ℕ → E) (d : E) (n : ℕ) (ns : List ℕ) → among n ns ≡ true
    → get_or (map f ns) (place n ns) d ≡ f n
look f d n [] h = absurd cc
look f d n (m ∷ ns) h = look_step f d n m ns (nat_eq n m) refl h (look f d n ns)

-- an entry's key is among the keys of each list that the entry is in
pub among_here : (key : Record → ℕ) (before : List Record) (r : Record) (behind : List Record)
    → among (key r) (map key (before ++ r ∷ behind)) ≡ true
among_here key [] r behind = ap (λ b. b || among (key r) (map key behind)) (eq-eqb (key r) (key r) refl)
among_here key (x ∷ before) r behind =
    ap (λ b. nat_eq (key r) (key x) || b) (among_here key before r behind) ∙ or-true (nat_eq (key r) (key x))

-- the number of a number among the first appearances finds what is known of it
pub found : {E : Type 0} (f : ℕ → E) (d : E) (key : Record → ℕ) (before : List Record) (r : Record)
    (behind : List Record)
    → get_or (map f (firsts (map key (before ++ r ∷ behind)))) (number_in (key r) (firsts (map key (before ++ r ∷ behind))) - 1) d ≡ f (key r)
found f d key before r behind =
    let ns = map key (before ++ r ∷ behind) in
    let back : number_in (key r) (firsts ns) - 1 ≡ place (key r) (firsts ns) = omega arith in
    ap (λ k. get_or (map f (firsts ns)) k d) back
    ∙ look f d (key r) (firsts ns) (among-firsts (key r) ns ∙ among_here key before r behind)

module _ (sets : Kind → ℕ → SetMention) (outcomes : ℕ → OutcomeMention) where
  own_entry : (rs before : List Record) (r : Record) (behind : List Record) → rs ≡ before ++ r ∷ behind
      → Each (Describes sets outcomes) rs → mover r ≢ Leaf → r.set ≡ sets (mover r) r.set.number
      → set_entry (mover r) rs r.set.number ≡ new_set r.set
  own_entry rs before r behind split each some same =
      let n = r.set.number in
      let many : 1 ≤ length (mentions (mover r) n rs) =
      subst (λ (xs : List Record). 1 ≤ length (mentions (mover r) n xs)) (sym split) (mention_some before r behind) in
      let alike = mentions_same sets outcomes (mover r) some n rs each in
      let named = first_same (sets (mover r) n) (mentions (mover r) n rs) many alike ∙ ap (λ (m : SetMention). m.name) (sym same) in
      let listed = given_same (sets (mover r) n) (mentions (mover r) n rs) many alike ∙ ap (λ (m : SetMention). unwrap_or m.actions []) (sym same) in
      (λ i. record { number = n; name = named i; actions = listed i })

  -- the table has the entry's own set under its number
  pub set_found : (rs before : List Record) (r : Record) (behind : List Record) → rs ≡ before ++ r ∷ behind
      → Each (Describes sets outcomes) rs → mover r ≢ Leaf → r.set ≡ sets (mover r) r.set.number
      → get_or (set_table (mover r) rs) (number_in r.set.number (set_numbers (mover r) rs) - 1) no_set ≡ new_set r.set
  set_found rs before r behind split each some same =
      let kept = filter_some (λ x. is_same_kind (mover r) (mover x)) before r behind (is_same_kind_refl (mover r)) in
      let mine : of_kind (mover r) rs ≡ kept.0 ++ r ∷ of_kind (mover r) behind = ap (of_kind (mover r)) split ∙ kept.1 in
      subst (λ (xs : List Record). get_or (map (set_entry (mover r) rs) (firsts (map (λ x. x.set.number) xs)))
      (number_in r.set.number (firsts (map (λ x. x.set.number) xs)) - 1) no_set ≡ set_entry (mover r) rs r.set.number)
      (sym mine) (found (set_entry (mover r) rs) no_set (λ x. x.set.number) kept.0 r (of_kind (mover r) behind))
      ∙ own_entry rs before r behind split each some same

outcome_names : (v : OutcomeMention) (rs : List Record) → Each (λ r. r.outcome ≡ v) rs
    → AreAllNamed v.name (map (λ r. r.outcome.name) rs)
outcome_names v [] each = tt
outcome_names v (r ∷ rs) each = (ap (λ (m : OutcomeMention). m.name) each.0, outcome_names v rs each.1)

-- of one or more entries with the same outcome mention, the first name that is given is the mention's
pub outcome_name_same : (v : OutcomeMention) (rs : List Record) → 1 ≤ length rs → Each (λ r. r.outcome ≡ v) rs
    → first_given (map (λ r. r.outcome.name) rs) ≡ v.name
outcome_name_same v [] some each = absurd (omega arith)
outcome_name_same v (r ∷ rs) some each = first_name v.name (map (λ r. r.outcome.name) (r ∷ rs)) (omega arith) (outcome_names v (r ∷ rs) each)

-- of one or more entries with the same outcome mention, the first payoffs given are the mention's, or none
pub payoffs_same : (v : OutcomeMention) (rs : List Record) → 1 ≤ length rs → Each (λ r. r.outcome ≡ v) rs
    → given_first (map (λ r. r.outcome.payoffs) rs) ≡ unwrap_or v.payoffs []
payoffs_same v [] some each = absurd (omega arith)
payoffs_same v (r ∷ rs) some each = ap (λ (m : OutcomeMention). unwrap_or m.payoffs []) each.0

module _ (sets : Kind → ℕ → SetMention) (outcomes : ℕ → OutcomeMention) where
  -- the table has the entry's own outcome under its number
  pub outcome_found : (rs before : List Record) (r : Record) (behind : List Record) → rs ≡ before ++ r ∷ behind
      → Each (Describes sets outcomes) rs → nat_eq r.outcome.number 0 ≡ false → r.outcome ≡ outcomes r.outcome.number
      → get_or (outcome_table rs) (number_in r.outcome.number (outcome_numbers rs) - 1) null_outcome
      ≡ new_outcome r.outcome
  outcome_found rs before r behind split each some same =
      let n = r.outcome.number in
      let kept = filter_some (λ x. not (nat_eq x.outcome.number 0)) before r behind (ap not some) in
      let mine : with_outcome rs ≡ kept.0 ++ r ∷ with_outcome behind = ap with_outcome split ∙ kept.1 in
      let second = filter_some (λ x. nat_eq n x.outcome.number) kept.0 r (with_outcome behind) (eq-eqb n n refl) in
      let hits : outcome_mentions n rs ≡ second.0 ++ r ∷ outcome_mentions n behind = ap (filter (λ x. nat_eq n x.outcome.number)) mine ∙ second.1 in
      let many : 1 ≤ length (outcome_mentions n rs) = subst (λ (xs : List Record). 1 ≤ length xs) (sym hits)
      (front_some second.0 r (outcome_mentions n behind)) in
      let alike : Each (λ x. x.outcome ≡ outcomes n) (outcome_mentions n rs) =
      filter_each _ (Describes sets outcomes) _ (λ x known is. known.outcome.same ∙ ap outcomes (sym (eqb-true n x.outcome.number is))) (with_outcome rs)
      (filter_each _ (Describes sets outcomes) _ (λ x known is. known) rs each) in
      let named = outcome_name_same (outcomes n) (outcome_mentions n rs) many alike ∙ ap (λ (m : OutcomeMention). m.name) (sym same) in
      let listed = payoffs_same (outcomes n) (outcome_mentions n rs) many alike ∙ ap (λ (m : OutcomeMention). unwrap_or m.payoffs []) (sym same) in
      subst (λ (xs : List Record). get_or (map (outcome_entry rs) (firsts (map (λ x. x.outcome.number) xs)))
      (number_in n (firsts (map (λ x. x.outcome.number) xs)) - 1) null_outcome ≡ outcome_entry rs n)
      (sym mine) (found (outcome_entry rs) null_outcome (λ x. x.outcome.number) kept.0 r (with_outcome behind))
      ∙ (λ i. record { number = n; name = named i; one = nth_payoff (listed i) 0; two = nth_payoff (listed i) 1 })
