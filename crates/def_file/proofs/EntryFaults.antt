-- Behind entries without a fault, the fault of an entry is that of the first rule that it breaks.
use Rattle.std.proofs.Common.{◌≡◌, ◌≢◌, ℕ, ◌+◌, true, ◌&&◌, List, [], ◌∷◌, ◌++◌, length, None, inl, inr, ◌↔◌, refl, sym, ap, ◌∙◌, subst, lit<}
use Rattle.std.specs.Prelude.{All, nat_eq}
use Rattle.std.proofs.Math.Logic.{⊎_elim}
use Rattle.std.proofs.lemmas.Bool.{not_from_false, not-true, eqb-true, eqb-false, eq-eqb, ne_eqb, false_from_ne_true}
use Rattle.std.proofs.lemmas.List.{append_assoc, length-map}
use Rattle.std.proofs.lemmas.List.Elements.{All-nil, All-cons}
use Rattle.def_tree.specs.Rules.{most_nodes}
use Rattle.def_file.specs.declared.FileFault.{FileFault}
use Rattle.def_file.specs.declared.FileFault.TheVariants.{PlayerNumber, SetUndefined, SetMismatch, OutcomeUndefined, OutcomeMismatch, PayoffCount, TooManyNodes}
use Rattle.def_file.specs.declared.FileFault.TheVariants.{ActionCount}
use Rattle.def_file.specs.Content.{Record, SetEntry, OutcomeEntry, sets_of_kind}
use Rattle.def_file.specs.Faults.{mover, has_set, is_no_player, is_set_undefined, set_differs, is_set_miscounted, is_outcome_undefined, outcome_differs}
use Rattle.def_file.specs.Faults.{is_outcome_miscounted, entry_faults, record_fault, first_met}
use Rattle.def_file.specs.Entries.{node_of, set_table, outcome_table, contents_of}
use Rattle.def_file.specs.EntryRules.{IsNewSet, HasOtherSet, HasNoneOrTooMany, Breaks, BreaksNone}
use Rattle.def_file.specs.EntryLaws.{HaveNoFault, EntryFaultIsFirstBroken, NoFaultBreaksNone}
use Rattle.def_file.proofs.EntryAddsToTables.{set_tables_of}
use Rattle.def_file.proofs.OneMore.{own_sets}
use Rattle.def_file.proofs.FirstMet.{Decide, Rise, Among, first_is_least, least_is_first, none_met_none, none_holds_none_met}
use Rattle.def_file.proofs.Differs.{guarded}
use Rattle.def_file.proofs.EntryTests.{HasPlayer, player_tells, moves_set, SetIsPlaced, set_place, undefined_tells, counted_tells, same_set_tells, has_outcome}
use Rattle.def_file.proofs.EntryTests.{OutcomePlace, outcome_place, outcome_undefined_tells, outcome_counted_tells, other_outcome_tells}

-- Entries without a fault have players.

has_player : (done : List Record) (r : Record) → BreaksNone done r → HasPlayer r
has_player done r none = false_from_ne_true (is_no_player r.kind r.player) (λ e. none (PlayerNumber (length done + 1)) (refl, (player_tells r).0 e))

players_from : (done rest : List Record) → HaveNoFault (done ++ rest) → All HasPlayer rest
players_from done [] fine = All-nil HasPlayer
players_from done (r ∷ rest) fine =
    All-cons HasPlayer r rest (has_player done r (fine done rest r refl))
    (players_from (done ++ r ∷ []) rest (subst HaveNoFault (sym (append_assoc done (r ∷ []) rest)) fine))

-- The tests on sets, of an entry that has one.

set_needed : (rs : List Record) (r : Record) → IsNewSet rs r → has_set r.kind ≡ true
set_needed rs r new = moves_set new.who r new.moves

other_set_needed : (rs : List Record) (r : Record) → HasOtherSet rs r → has_set r.kind ≡ true
other_set_needed rs r h = ⊎_elim (λ name. moves_set name.first.has.0.who r name.first.has.0.here) (λ list. moves_set list.first.has.who r list.first.has.here) h

abbrev table_of : List Record → Record → List SetEntry
table_of rs r = sets_of_kind (mover r) (set_tables_of rs)

module _ (rs : List Record) (r : Record) (fine : HaveNoFault rs) (player : HasPlayer r) where
  players : All HasPlayer rs
  players = players_from [] rs fine

  own : has_set r.kind ≡ true → table_of rs r ≡ set_table (mover r) rs
  own s = own_sets r.kind r.player rs s

  at_place : has_set r.kind ≡ true → SetIsPlaced rs r
  at_place s = set_place rs r s player players

  undefined_decides : ((has_set r.kind && is_set_undefined (table_of rs r) r.set) ≡ true)
      ↔ ((length rs + 1 ≡ length rs + 1) × IsNewSet rs r × (r.set.actions ≡ None))
  undefined_decides =
      guarded (has_set r.kind) (is_set_undefined (table_of rs r) r.set) _ (λ h. set_needed rs r h.1)
      (λ s. let tells = subst (λ (t : List SetEntry). (is_set_undefined t r.set ≡ true) ↔ (IsNewSet rs r × (r.set.actions ≡ None))) (sym (own s))
      (undefined_tells rs r (at_place s)) in
      (λ e. let h = tells.0 e in (refl, h.0, h.1), λ h. tells.1 (h.1, h.2)))

  same_decides : ((has_set r.kind && set_differs (mover r) (table_of rs r) r.set) ≡ true)
      ↔ ((length rs + 1 ≡ length rs + 1) × HasOtherSet rs r)
  same_decides =
      guarded (has_set r.kind) (set_differs (mover r) (table_of rs r) r.set) _ (λ h. other_set_needed rs r h.1)
      (λ s. let tells = subst (λ (t : List SetEntry). (set_differs (mover r) t r.set ≡ true) ↔ HasOtherSet rs r) (sym (own s))
      (same_set_tells rs r fine s player players (at_place s)) in
      (λ e. (refl, tells.0 e), λ h. tells.1 h.1))

  counted_decides : ((has_set r.kind && is_set_miscounted (table_of rs r) r.set) ≡ true)
      ↔ Breaks rs r (ActionCount (length rs + 1))
  counted_decides =
      guarded (has_set r.kind) (is_set_miscounted (table_of rs r) r.set) _ (λ h. set_needed rs r h.1)
      (λ s. let tells = subst (λ (t : List SetEntry). (is_set_miscounted t r.set ≡ true) ↔ (IsNewSet rs r × HasNoneOrTooMany r)) (sym (own s))
      (counted_tells rs r (at_place s)) in
      (λ e. let h = tells.0 e in (refl, h.0, h.1), λ h. tells.1 (h.1, h.2)))

  -- The tests on outcomes.

  outcome_needed : r.outcome.number ≢ 0 → has_outcome r ≡ true
  outcome_needed some = not_from_false (nat_eq r.outcome.number 0) (ne_eqb r.outcome.number 0 some)

  at_outcome : has_outcome r ≡ true → OutcomePlace rs r
  at_outcome s = outcome_place rs r (eqb-false r.outcome.number 0 (not-true (nat_eq r.outcome.number 0) s))

  outcome_undefined_decides : (is_outcome_undefined (outcome_table rs) r.outcome ≡ true)
      ↔ Breaks rs r (OutcomeUndefined (length rs + 1))
  outcome_undefined_decides =
      guarded (has_outcome r) _ _ (λ h. outcome_needed h.1.not_null)
      (λ s. let tells = outcome_undefined_tells rs r (at_outcome s) in (λ e. let h = tells.0 e in (refl, h.0, h.1), λ h. tells.1 (h.1, h.2)))

  outcome_counted_decides : (is_outcome_miscounted (outcome_table rs) r.outcome ≡ true)
      ↔ Breaks rs r (PayoffCount (length rs + 1))
  outcome_counted_decides =
      guarded (has_outcome r) _ _ (λ h. outcome_needed h.1.not_null)
      (λ s. let tells = outcome_counted_tells rs r (at_outcome s) in (λ e. let h = tells.0 e in (refl, h.0, h.1), λ h. tells.1 (h.1, h.2)))

  same_outcome_decides : (outcome_differs (outcome_table rs) r.outcome ≡ true)
      ↔ Breaks rs r (OutcomeMismatch (length rs + 1))
  same_outcome_decides =
      let tells = other_outcome_tells rs r fine (nat_eq r.outcome.number 0) refl in (λ e. (refl, tells.0 e), λ h. tells.1 h.1)

  nodes_decide : (nat_eq (length rs) most_nodes ≡ true) ↔ Breaks rs r TooManyNodes
  nodes_decide = (λ e. eqb-true (length rs) most_nodes e, λ h. eq-eqb (length rs) most_nodes h)

-- each test tells its rule
decides : (rs : List Record) (r : Record) → HaveNoFault rs
    → Decide (Breaks rs r) (entry_faults (length rs) (table_of rs r) (outcome_table rs) r)
decides rs r fine = (
  let tells = player_tells r in (λ e. (refl, tells.0 e), λ h. tells.1 h.1),
  λ player. (
    undefined_decides rs r fine player,
    λ _. (
      same_decides rs r fine player,
      λ _. (
        outcome_undefined_decides rs r fine player,
        λ _. (
          same_outcome_decides rs r fine player,
          λ _. (
            outcome_counted_decides rs r fine player,
            λ _. (
              nodes_decide rs r fine player,
              λ _.
                  (counted_decides rs r fine player, λ _. tt),
            ),
          ),
        ),
      ),
    ),
  ),
)

-- the numbers rise from 7 on
rises : (n : ℕ) (sets : List SetEntry) (outcomes : List OutcomeEntry) (r : Record)
    → Rise 6 (entry_faults n sets outcomes r)
rises n sets outcomes r = (lit< tt, (lit< tt, (lit< tt, (lit< tt, (lit< tt, (lit< tt, (lit< tt, (lit< tt, tt))))))))

-- each rule that is broken has its test
covers : (rs : List Record) (r : Record) (sets : List SetEntry) (outcomes : List OutcomeEntry) (fault : FileFault)
    → Breaks rs r fault → Among fault (entry_faults (length rs) sets outcomes r)
covers rs r sets outcomes (PlayerNumber node) h = inl (ap PlayerNumber h.0)
covers rs r sets outcomes (SetUndefined node) h = inr (inl (ap SetUndefined h.0))
covers rs r sets outcomes (SetMismatch node) h = inr (inr (inl (ap SetMismatch h.0)))
covers rs r sets outcomes (OutcomeUndefined node) h = inr (inr (inr (inl (ap OutcomeUndefined h.0))))
covers rs r sets outcomes (OutcomeMismatch node) h = inr (inr (inr (inr (inl (ap OutcomeMismatch h.0)))))
covers rs r sets outcomes (PayoffCount node) h = inr (inr (inr (inr (inr (inl (ap PayoffCount h.0))))))
covers rs r sets outcomes TooManyNodes h = inr (inr (inr (inr (inr (inr (inl refl))))))
covers rs r sets outcomes (ActionCount node) h = inr (inr (inr (inr (inr (inr (inr (inl (ap ActionCount h.0))))))))
covers rs r sets outcomes _ h = absurd h

-- The laws.

answer : (rs : List Record) (r : Record)
    → record_fault (contents_of rs) r ≡ first_met (entry_faults (length rs) (table_of rs r) (outcome_table rs) r)
answer rs r = ap (λ n. first_met (entry_faults n (table_of rs r) (outcome_table rs) r)) (length-map rs (node_of rs))

-- the fault is that of the first rule that is broken
pub entry_fault_is_first_broken : EntryFaultIsFirstBroken
entry_fault_is_first_broken rs r fault fine =
    let rise = rises (length rs) (table_of rs r) (outcome_table rs) r in
    let cover = covers rs r (table_of rs r) (outcome_table rs) in (
      λ e.
          let least = first_is_least (Breaks rs r) 6 (entry_faults (length rs) (table_of rs r) (outcome_table rs) r) (decides rs r fine) rise fault
          (sym (answer rs r) ∙ e) in
          record { broken = least.holds; none_before = λ other less is. least.none_before other (cover other is) less is },
      λ is. answer rs r
          ∙ least_is_first (Breaks rs r) 6 (entry_faults (length rs) (table_of rs r) (outcome_table rs) r) (decides rs r fine) rise fault
          (cover fault is.broken) is.broken is.none_before,
    )

-- there is none exactly where none is broken
pub no_fault_breaks_none : NoFaultBreaksNone
no_fault_breaks_none rs r fine = (
  λ e fault is. none_met_none (Breaks rs r) (entry_faults (length rs) (table_of rs r) (outcome_table rs) r) (decides rs r fine) (sym (answer rs r) ∙ e) fault
      (covers rs r (table_of rs r) (outcome_table rs) fault is) is,
  λ none. answer rs r ∙ none_holds_none_met (Breaks rs r) (entry_faults (length rs) (table_of rs r) (outcome_table rs) r) (decides rs r fine) none,
)
