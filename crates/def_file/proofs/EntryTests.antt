-- Behind entries without a fault each test of an entry tells whether it breaks the test's rule.
use Rattle.std.proofs.Common.{◌≡◌, ◌≢◌, ℕ, ◌+◌, Bool, true, false, cond, ◌&&◌, ◌||◌, not, List, [], ◌∷◌, length, get_or, map, Some, None, ◌⊎◌, inl, inr, ◌↔◌}
use Rattle.std.proofs.Common.{refl, sym, ap, ◌∙◌, subst}
use Rattle.std.specs.Prelude.{All, nat_eq, filter, is_none, unwrap_or}
use Rattle.std.specs.Option.{option_map_or}
use Rattle.std.specs.Cmp.Lexicographic.{pointwise}
use Rattle.std.proofs.Math.Logic.{⊎_elim}
use Rattle.std.proofs.lemmas.Bool.{false≢true, and_parts, and_from, or_from, or_parts, not-true, not-false, not_from_false, false_from_ne_true, eqb-true}
use Rattle.std.proofs.lemmas.Bool.{eqb-false, eq-eqb, ne_eqb}
use Rattle.def_fraction.specs.Fraction.{Fraction, zero_fraction}
use Rattle.def_tree.specs.declared.Kind.{Kind}
use Rattle.def_tree.specs.declared.Kind.TheVariants as movers
use Rattle.def_tree.specs.Rules.{is_same_kind}
use Rattle.def_tree.proofs.Sets.{is_same_kind_self, is_same_kind-true}
use Rattle.def_file.specs.declared.EntryKind.{EntryKind}
use Rattle.def_file.specs.declared.EntryKind.TheVariants.{Chance, Personal, Leaf}
use Rattle.def_file.specs.declared.FileFault.TheVariants.{SetUndefined, OutcomeUndefined, PayoffCount}
use Rattle.def_file.specs.Content.{Action, Record, SetEntry, OutcomeEntry}
use Rattle.def_file.specs.Faults.{mover, mover_as, has_set, has_player, is_no_player, no_set, set_at, set_place_of, outcome_at, outcome_place_of, null_outcome}
use Rattle.def_file.specs.Faults.{is_set_undefined, set_differs, is_set_miscounted, has_wrong_count, has_wrong_payoffs, same_action, same_value, name_differs}
use Rattle.def_file.specs.Faults.{actions_differ, payoffs_differ}
use Rattle.def_file.specs.Adding.{nth_payoff}
use Rattle.def_file.specs.Entries.{first_given, given_first, of_kind, mentions, set_entry, set_table, with_outcome, outcome_mentions, outcome_entry}
use Rattle.def_file.specs.Entries.{outcome_table}
use Rattle.def_file.specs.EntryRules.{Moves, MentionOneSet, MentionOneOutcome, IsFirstWith, AreSameNumbers, AreSameActions, HasOtherName, HasOtherList}
use Rattle.def_file.specs.EntryRules.{HasNoPlayer, IsNewSet, IsNewOutcome, HasOtherSet, HasOtherZeros, HasOtherOutcome, HasOtherThanTwo, HasNoneOrTooMany}
use Rattle.def_file.specs.EntryLaws.{HaveNoFault}
use Rattle.def_file.proofs.Tables.{is_new, is_known, found-cases}
use Rattle.def_file.proofs.EntryAddsToTables.{set_key, outcome_key}
use Rattle.def_file.proofs.FirstWith.{TellsWhere, filter-filter, none_with, none_is_first, first_with}
use Rattle.def_file.proofs.Differs.{either, none_if, some_if, name_tells, other_list, list_tells, actions_other, payoffs_other, other_given, numbers_tell}
use Rattle.def_file.proofs.Differs.{actions_tell, count_tells, two_tells}

-- Players.

has_player-true : (kind : EntryKind) → has_player kind ≡ true → kind ≡ Personal
has_player-true Chance e = absurd cc
has_player-true Personal e = refl
has_player-true Leaf e = absurd cc

-- the test of the player tells
pub player_tells : (r : Record) → (is_no_player r.kind r.player ≡ true) ↔ HasNoPlayer r
player_tells r = (
  λ e.
      let parts = and_parts (has_player r.kind) (not (nat_eq r.player 1 || nat_eq r.player 2)) e in
      let neither = or_parts (nat_eq r.player 1) (nat_eq r.player 2) (not-true (nat_eq r.player 1 || nat_eq r.player 2) parts.1) in
      record { personal = has_player-true r.kind parts.0; not_one = eqb-false r.player 1 neither.0; not_two = eqb-false r.player 2 neither.1 },
  λ h. and_from (has_player r.kind) (not (nat_eq r.player 1 || nat_eq r.player 2)) (ap has_player h.personal)
      (not_from_false (nat_eq r.player 1 || nat_eq r.player 2) (or_from (nat_eq r.player 1) (nat_eq r.player 2) (ne_eqb r.player 1 h.not_one)
      (ne_eqb r.player 2 h.not_two))),
)

-- chance moves, or one of the two players, or it is a leaf
abbrev pub HasPlayer : Record → Type 0
HasPlayer r = is_no_player r.kind r.player ≡ false

second : (a b : Bool) → not (a || b) ≡ false → a ≡ false → b ≡ true
second true b e f = absurd cc
second false true e f = refl
second false false e f = absurd cc

moves_as : (r : Record) (kind : EntryKind) → r.kind ≡ kind → has_set kind ≡ true → is_no_player kind r.player ≡ false
    → Moves (mover_as kind r.player) r
moves_as r Chance e s h = e
moves_as r Personal e s h = by (nat_eq r.player 1) refl
  where
    by : (b : Bool) → nat_eq r.player 1 ≡ b → Moves (cond b movers.One movers.Two) r
    by true f = (e, eqb-true r.player 1 f)
    by false f = (e, eqb-true r.player 2 (second (nat_eq r.player 1) (nat_eq r.player 2) h f))
moves_as r Leaf e s h = absurd cc

moves : (r : Record) → has_set r.kind ≡ true → HasPlayer r → Moves (mover r) r
moves r s h = moves_as r r.kind refl s h

moved : (who : Kind) (r : Record) → Moves who r → mover r ≡ who
moved movers.Chance r m = ap (λ kind. mover_as kind r.player) m
moved movers.One r m = ap (λ kind. mover_as kind r.player) m.0 ∙ ap (λ (n : ℕ). cond (nat_eq n 1) movers.One movers.Two) m.1
moved movers.Two r m = ap (λ kind. mover_as kind r.player) m.0 ∙ ap (λ (n : ℕ). cond (nat_eq n 1) movers.One movers.Two) m.1
moved movers.Leaf r m = absurd m

-- whoever moves has a set
pub moves_set : (who : Kind) (r : Record) → Moves who r → has_set r.kind ≡ true
moves_set movers.Chance r m = ap has_set m
moves_set movers.One r m = ap has_set m.0
moves_set movers.Two r m = ap has_set m.0
moves_set movers.Leaf r m = absurd m

mover_set : (x : Record) (kind : EntryKind) → x.kind ≡ kind → (mover_as kind x.player ≢ movers.Leaf)
    → has_set kind ≡ true
mover_set x Chance e h = refl
mover_set x Personal e h = refl
mover_set x Leaf e h = absurd (h refl)

-- Sets.

abbrev in_set : Record → Record → Bool
in_set r x = is_same_kind (mover r) (mover x) && nat_eq r.set.number x.set.number

set_tells : (r x : Record) → has_set r.kind ≡ true → HasPlayer r → HasPlayer x → (in_set r x ≡ true) ↔ MentionOneSet r x
set_tells r x s h k = (forth, back)
  where
    forth : in_set r x ≡ true → MentionOneSet r x
    forth e =
        let parts = and_parts (is_same_kind (mover r) (mover x)) (nat_eq r.set.number x.set.number) e in
        let same : mover x ≡ mover r = is_same_kind-true (mover r) (mover x) parts.0 in
        let here : Moves (mover r) r = moves r s h in
        let there : Moves (mover x) x = moves x (mover_set x x.kind refl (λ leaf. subst (λ who. Moves who r) (sym same ∙ leaf) here)) k in
        record { who = mover r; here = here; there = subst (λ who. Moves who x) same there; number = eqb-true r.set.number x.set.number parts.1 }

    back : MentionOneSet r x → in_set r x ≡ true
    back m =
        let same : mover x ≡ mover r = moved m.who x m.there ∙ sym (moved m.who r m.here) in
        and_from (is_same_kind (mover r) (mover x)) (nat_eq r.set.number x.set.number) (is_same_kind_self (mover r) (mover x) same)
        (eq-eqb r.set.number x.set.number m.number)

sets_tell : (rs : List Record) (r : Record) → has_set r.kind ≡ true → HasPlayer r → All HasPlayer rs
    → TellsWhere (in_set r) (MentionOneSet r) rs
sets_tell rs r s h all = λ k d within. set_tells r (get_or rs k d) s h (all k d within)

set_mentions : (rs : List Record) (r : Record) → mentions (mover r) r.set.number rs ≡ filter (in_set r) rs
set_mentions rs r = filter-filter (λ x. is_same_kind (mover r) (mover x)) (λ x. nat_eq r.set.number x.set.number) rs

-- the set is new, or its table has the name and the list of its mentions, the first of which is e
pub data SetIsPlaced (rs : List Record) (r : Record) : Type 0 where
  new_set : set_place_of r.set.number (set_table (mover r) rs) ≡ None → IsNewSet rs r → SetIsPlaced rs r
  known_set : (i : ℕ) → set_place_of r.set.number (set_table (mover r) rs) ≡ Some i
      → set_at (set_table (mover r) rs) i ≡ set_entry (mover r) rs r.set.number
      → (e : Record) (more : List Record) → mentions (mover r) r.set.number rs ≡ e ∷ more
      → IsFirstWith (MentionOneSet r) rs e → SetIsPlaced rs r

-- a set is new, or known
pub set_place : (rs : List Record) (r : Record) → has_set r.kind ≡ true → HasPlayer r → All HasPlayer rs → SetIsPlaced rs r
set_place rs r s h all =
    let tells = sets_tell rs r s h all in
    elim (found-cases (λ (e : SetEntry). e.number) no_set (set_entry (mover r) rs) (λ m. refl) set_key r.set.number (of_kind (mover r) rs)) [
      | is_new none hits ↦ new_set none (record {
        who = mover r;
        moves = moves r s h;
        none = none_with (in_set r) (MentionOneSet r) rs tells (sym (set_mentions rs r) ∙ hits);
      })
      | is_known i some at hits ↦ known_set i some at hits.0 hits.1 hits.2
          (first_with (in_set r) (MentionOneSet r) rs tells hits.0 hits.1 (sym (set_mentions rs r) ∙ hits.2))
    ]

known_not_new : (rs : List Record) (r e : Record) → IsFirstWith (MentionOneSet r) rs e → IsNewSet rs r → ⊥
known_not_new rs r e first new = none_is_first (MentionOneSet r) (MentionOneSet r) (λ x m. m) rs e new.none first

-- where the test is false its property doesn't hold
never : (t : Bool) (P : Type 0) → t ≡ false → ¬ P → (t ≡ true) ↔ P
never t P e not = (λ h. absurd (false≢true (sym e ∙ h)), λ p. absurd (not p))

-- the test of a first mention without a list tells
pub undefined_tells : (rs : List Record) (r : Record) → SetIsPlaced rs r
    → (is_set_undefined (set_table (mover r) rs) r.set ≡ true) ↔ (IsNewSet rs r × (r.set.actions ≡ None))
undefined_tells rs r (new_set none new) =
    let test : is_set_undefined (set_table (mover r) rs) r.set ≡ is_none r.set.actions = ap (λ o. is_none o && is_none r.set.actions) none in
    (λ h. (new, none_if r.set.actions (sym test ∙ h)), λ p. test ∙ ap is_none p.1)
undefined_tells rs r (known_set i some at e more hits first) =
    never (is_set_undefined (set_table (mover r) rs) r.set) _ (ap (λ o. is_none o && is_none r.set.actions) some) (λ p. known_not_new rs r e first p.0)

-- the test of the number of actions tells
pub counted_tells : (rs : List Record) (r : Record) → SetIsPlaced rs r
    → (is_set_miscounted (set_table (mover r) rs) r.set ≡ true) ↔ (IsNewSet rs r × HasNoneOrTooMany r)
counted_tells rs r (new_set none new) =
    let test : is_set_miscounted (set_table (mover r) rs) r.set ≡ has_wrong_count r.set.actions = ap (λ o. is_none o && has_wrong_count r.set.actions) none in
    (λ h. (new, (count_tells r.set.actions).0 (sym test ∙ h)), λ p. test ∙ (count_tells r.set.actions).1 p.1)
counted_tells rs r (known_set i some at e more hits first) =
    never (is_set_miscounted (set_table (mover r) rs) r.set) _ (ap (λ o. is_none o && has_wrong_count r.set.actions) some) (λ p. known_not_new rs r e first p.0)

-- the first mention of a set has a list
listed : (rs : List Record) (r e : Record) → HaveNoFault rs → IsFirstWith (MentionOneSet r) rs e
    → (actions : List Action) × (e.set.actions ≡ Some actions)
listed rs r e none first =
    let m = first.has in
    let again : (x : Record) → MentionOneSet e x → MentionOneSet r x = λ x n.
    record {
      who = m.who;
      here = m.here;
      there = subst (λ who. Moves who x) (sym (moved n.who e n.here) ∙ moved m.who e m.there) n.there;
      number = m.number
          ∙ n.number;
    } in
    let new : IsNewSet first.before e = record {
      who = m.who;
      moves = m.there;
      none = λ k d within n. first.first k d within (again (get_or first.before k d) n);
    } in
    some_if e.set.actions (λ without. none first.before first.behind e first.place (SetUndefined (length first.before + 1)) (refl, new, without))

other_needs_first : (rs : List Record) (r : Record) → IsNewSet rs r → HasOtherSet rs r → ⊥
other_needs_first rs r new h =
    ⊎_elim
    (λ name. none_is_first (λ x. MentionOneSet r x × (x.set.name ≢ None)) (MentionOneSet r) (λ x m. m.0) rs name.entry new.none name.first)
    (λ list. none_is_first (MentionOneSet r) (MentionOneSet r) (λ x m. m) rs list.entry new.none list.first)
    h

-- the test of a later mention of a set tells
pub same_set_tells : (rs : List Record) (r : Record) → HaveNoFault rs → has_set r.kind ≡ true → HasPlayer r
    → All HasPlayer rs → SetIsPlaced rs r
    → (set_differs (mover r) (set_table (mover r) rs) r.set ≡ true) ↔ HasOtherSet rs r
same_set_tells rs r fine s h all (new_set none new) =
    never (set_differs (mover r) (set_table (mover r) rs) r.set) (HasOtherSet rs r)
    (ap (λ o. option_map_or (λ i. name_differs (set_at (set_table (mover r) rs) i).name r.set.name
    || actions_differ (mover r) (set_at (set_table (mover r) rs) i).actions r.set.actions) o false) none)
    (other_needs_first rs r new)
same_set_tells rs r fine s h all (known_set i some at e more hits first) =
    let table = set_table (mover r) rs in
    let list = listed rs r e fine first in
    let kept : SetEntry = set_entry (mover r) rs r.set.number in
    let name : kept.name ≡ first_given (map (λ x. x.set.name) (filter (in_set r) rs)) = ap (λ ms. first_given (map (λ x. x.set.name) ms)) (set_mentions rs r) in
    let actions : kept.actions ≡ list.0 = ap (λ ms. given_first (map (λ x. x.set.actions) ms)) hits ∙ ap (λ o. unwrap_or o []) list.1 in
    let test : set_differs (mover r) table r.set ≡ (name_differs (first_given (map (λ x. x.set.name) (filter (in_set r) rs))) r.set.name
    || other_list (pointwise (same_action (mover r))) list.0 r.set.actions) =
    ap (λ o. option_map_or (λ i. name_differs (set_at table i).name r.set.name || actions_differ (mover r) (set_at table i).actions r.set.actions) o false) some
    ∙ ap (λ (entry : SetEntry). name_differs entry.name r.set.name || actions_differ (mover r) entry.actions r.set.actions) at
    ∙ ap (λ n. name_differs n r.set.name || actions_differ (mover r) kept.actions r.set.actions) name
    ∙ ap (λ ks. name_differs (first_given (map (λ x. x.set.name) (filter (in_set r) rs))) r.set.name || actions_differ (mover r) ks r.set.actions) actions
    ∙ ap (λ b. name_differs (first_given (map (λ x. x.set.name) (filter (in_set r) rs))) r.set.name || b) (actions_other (mover r) list.0 r.set.actions) in
    let names = name_tells (in_set r) (MentionOneSet r) (λ x. x.set.name) rs r (sets_tell rs r s h all) in
    let lists = list_tells (MentionOneSet r) (λ x. x.set.actions) (pointwise (same_action (mover r))) (AreSameActions r.kind) rs r e list.0
    (actions_tell (mover r) r (moves r s h) list.0) first list.1 in
    let both = either _ _ _ _ names lists in
    (λ x. both.0 (sym test ∙ x), λ x. test ∙ both.1 x)

-- Outcomes other than 0.

-- an outcome other than 0
abbrev pub has_outcome : Record → Bool
has_outcome x = not (nat_eq x.outcome.number 0)

abbrev in_outcome : Record → Record → Bool
in_outcome r x = has_outcome x && nat_eq r.outcome.number x.outcome.number

outcome_tells : (r x : Record) → (in_outcome r x ≡ true) ↔ MentionOneOutcome r x
outcome_tells r x = (
  λ e.
      let parts = and_parts (has_outcome x) (nat_eq r.outcome.number x.outcome.number) e in
      let same : r.outcome.number ≡ x.outcome.number = eqb-true r.outcome.number x.outcome.number parts.1 in
      let some : x.outcome.number ≢ 0 = eqb-false x.outcome.number 0 (not-true (nat_eq x.outcome.number 0) parts.0) in
      record { number = same; not_null = λ zero. some (sym same ∙ zero) },
  λ m. and_from (has_outcome x) (nat_eq r.outcome.number x.outcome.number)
      (not_from_false (nat_eq x.outcome.number 0) (ne_eqb x.outcome.number 0 (λ zero. m.not_null (m.number ∙ zero))))
      (eq-eqb r.outcome.number x.outcome.number m.number),
)

outcomes_tell : (rs : List Record) (r : Record) → TellsWhere (in_outcome r) (MentionOneOutcome r) rs
outcomes_tell rs r = λ k d within. outcome_tells r (get_or rs k d)

outcome_mentions_are : (rs : List Record) (r : Record) → outcome_mentions r.outcome.number rs ≡ filter (in_outcome r) rs
outcome_mentions_are rs r = filter-filter has_outcome (λ x. nat_eq r.outcome.number x.outcome.number) rs

-- the outcome is new, or its table has the name and the payoffs of its mentions, the first of which is e
pub data OutcomePlace (rs : List Record) (r : Record) : Type 0 where
  new_outcome : outcome_place_of r.outcome.number (outcome_table rs) ≡ None → IsNewOutcome rs r → OutcomePlace rs r
  known_outcome : (i : ℕ) → outcome_place_of r.outcome.number (outcome_table rs) ≡ Some i
      → outcome_at (outcome_table rs) i ≡ outcome_entry rs r.outcome.number
      → (e : Record) (more : List Record) → outcome_mentions r.outcome.number rs ≡ e ∷ more
      → IsFirstWith (MentionOneOutcome r) rs e → OutcomePlace rs r

-- an outcome is new, or known
pub outcome_place : (rs : List Record) (r : Record) → r.outcome.number ≢ 0 → OutcomePlace rs r
outcome_place rs r some =
    elim (found-cases (λ (e : OutcomeEntry). e.number) null_outcome (outcome_entry rs) (λ m. refl) outcome_key r.outcome.number (with_outcome rs)) [
      | is_new none hits ↦ new_outcome none (record {
        not_null = some;
        none = none_with (in_outcome r) (MentionOneOutcome r) rs (outcomes_tell rs r)
            (sym (outcome_mentions_are rs r) ∙ hits);
      })
      | is_known i found at hits ↦ known_outcome i found at hits.0 hits.1 hits.2
          (first_with (in_outcome r) (MentionOneOutcome r) rs (outcomes_tell rs r) hits.0 hits.1 (sym (outcome_mentions_are rs r) ∙ hits.2))
    ]

known_not_new_outcome : (rs : List Record) (r e : Record) → IsFirstWith (MentionOneOutcome r) rs e → IsNewOutcome rs r
    → ⊥
known_not_new_outcome rs r e first new = none_is_first (MentionOneOutcome r) (MentionOneOutcome r) (λ x m. m) rs e new.none first

-- the test of a first mention without payoffs tells
pub outcome_undefined_tells : (rs : List Record) (r : Record) → OutcomePlace rs r
    → ((is_none (outcome_place_of r.outcome.number (outcome_table rs)) && is_none r.outcome.payoffs) ≡ true)
    ↔ (IsNewOutcome rs r × (r.outcome.payoffs ≡ None))
outcome_undefined_tells rs r (new_outcome none new) =
    let test : (is_none (outcome_place_of r.outcome.number (outcome_table rs)) && is_none r.outcome.payoffs)
    ≡ is_none r.outcome.payoffs = ap (λ o. is_none o && is_none r.outcome.payoffs) none in
    (λ h. (new, none_if r.outcome.payoffs (sym test ∙ h)), λ p. test ∙ ap is_none p.1)
outcome_undefined_tells rs r (known_outcome i some at e more hits first) =
    never _ _ (ap (λ o. is_none o && is_none r.outcome.payoffs) some) (λ p. known_not_new_outcome rs r e first p.0)

-- the test of the number of payoffs tells
pub outcome_counted_tells : (rs : List Record) (r : Record) → OutcomePlace rs r
    → ((is_none (outcome_place_of r.outcome.number (outcome_table rs)) && has_wrong_payoffs r.outcome.payoffs) ≡ true)
    ↔ (IsNewOutcome rs r × HasOtherThanTwo r)
outcome_counted_tells rs r (new_outcome none new) =
    let test : (is_none (outcome_place_of r.outcome.number (outcome_table rs)) && has_wrong_payoffs r.outcome.payoffs)
    ≡ has_wrong_payoffs r.outcome.payoffs = ap (λ o. is_none o && has_wrong_payoffs r.outcome.payoffs) none in
    (λ h. (new, (two_tells r.outcome.payoffs).0 (sym test ∙ h)), λ p. test ∙ (two_tells r.outcome.payoffs).1 p.1)
outcome_counted_tells rs r (known_outcome i some at e more hits first) =
    never _ _ (ap (λ o. is_none o && has_wrong_payoffs r.outcome.payoffs) some) (λ p. known_not_new_outcome rs r e first p.0)

two_payoffs : (ps : List Fraction) → length ps ≡ 2 → nth_payoff ps 0 ∷ nth_payoff ps 1 ∷ [] ≡ ps
two_payoffs [] e = absurd cc
two_payoffs (a ∷ []) e = absurd cc
two_payoffs (a ∷ b ∷ []) e = refl
two_payoffs (a ∷ b ∷ c ∷ more) e = absurd cc

-- the first mention of an outcome has a list of two
paid : (rs : List Record) (r e : Record) → HaveNoFault rs → IsFirstWith (MentionOneOutcome r) rs e
    → (payoffs : List Fraction) × (e.outcome.payoffs ≡ Some payoffs) × (length payoffs ≡ 2)
paid rs r e none first =
    let m = first.has in
    let new : IsNewOutcome first.before e = record {
      not_null = λ zero. m.not_null (m.number ∙ zero);
      none = λ k d within n. first.first k d within (record { number = m.number ∙ n.number; not_null = m.not_null });
    } in
    let list = some_if e.outcome.payoffs (λ without. none first.before first.behind e first.place (OutcomeUndefined (length first.before + 1))
    (refl, new, without)) in
    let two : length list.0 ≡ 2 = eqb-true (length list.0) 2 (not-false (nat_eq (length list.0) 2)
    (false_from_ne_true (not (nat_eq (length list.0) 2)) (λ other.
    none first.before first.behind e first.place (PayoffCount (length first.before + 1))
    (refl, new, (list.0, list.1, eqb-false (length list.0) 2 (not-true (nat_eq (length list.0) 2) other)))))) in
    (list.0, list.1, two)

same_outcome_tells : (rs : List Record) (r : Record) → HaveNoFault rs → OutcomePlace rs r
    → (option_map_or (λ i. name_differs (outcome_at (outcome_table rs) i).name r.outcome.name
    || payoffs_differ (outcome_at (outcome_table rs) i) r.outcome.payoffs) (outcome_place_of r.outcome.number (outcome_table rs)) false ≡ true)
    ↔ (HasOtherName (MentionOneOutcome r) (λ e. e.outcome.name) rs r ⊎ HasOtherList (MentionOneOutcome r) (λ e. e.outcome.payoffs) AreSameNumbers rs r)
same_outcome_tells rs r fine (new_outcome none new) =
    never _ _
    (ap (λ o. option_map_or (λ i. name_differs (outcome_at (outcome_table rs) i).name r.outcome.name
    || payoffs_differ (outcome_at (outcome_table rs) i) r.outcome.payoffs) o false) none)
    (λ h. ⊎_elim
    (λ name. none_is_first (λ x. MentionOneOutcome r x × (x.outcome.name ≢ None)) (MentionOneOutcome r) (λ x m. m.0) rs name.entry new.none name.first)
    (λ list. none_is_first (MentionOneOutcome r) (MentionOneOutcome r) (λ x m. m) rs list.entry new.none list.first)
    h)
same_outcome_tells rs r fine (known_outcome i some at e more hits first) =
    let table = outcome_table rs in
    let list = paid rs r e fine first in
    let kept : OutcomeEntry = outcome_entry rs r.outcome.number in
    let name : kept.name ≡ first_given (map (λ x. x.outcome.name) (filter (in_outcome r) rs)) = ap (λ ms. first_given (map (λ x. x.outcome.name) ms))
    (outcome_mentions_are rs r) in
    let payoffs : given_first (map (λ x. x.outcome.payoffs) (outcome_mentions r.outcome.number rs))
    ≡ list.0 = ap (λ ms. given_first (map (λ x. x.outcome.payoffs) ms)) hits ∙ ap (λ o. unwrap_or o []) list.1 in
    let both_payoffs : kept.one ∷ kept.two ∷ [] ≡ list.0 = ap (λ ps. nth_payoff ps 0 ∷ nth_payoff ps 1 ∷ []) payoffs ∙ two_payoffs list.0 list.2 in
    let test : option_map_or (λ i. name_differs (outcome_at table i).name r.outcome.name || payoffs_differ (outcome_at table i) r.outcome.payoffs)
    (outcome_place_of r.outcome.number table) false
    ≡ (name_differs (first_given (map (λ x. x.outcome.name) (filter (in_outcome r) rs))) r.outcome.name
    || other_list (pointwise same_value) list.0 r.outcome.payoffs) =
    ap (λ o. option_map_or (λ i. name_differs (outcome_at table i).name r.outcome.name || payoffs_differ (outcome_at table i) r.outcome.payoffs) o false) some
    ∙ ap (λ (entry : OutcomeEntry). name_differs entry.name r.outcome.name || payoffs_differ entry r.outcome.payoffs) at
    ∙ ap (λ n. name_differs n r.outcome.name || payoffs_differ kept r.outcome.payoffs) name
    ∙ ap (λ b. name_differs (first_given (map (λ x. x.outcome.name) (filter (in_outcome r) rs))) r.outcome.name || b) (payoffs_other kept r.outcome.payoffs)
    ∙ ap (λ ps. name_differs (first_given (map (λ x. x.outcome.name) (filter (in_outcome r) rs))) r.outcome.name
    || other_list (pointwise same_value) ps r.outcome.payoffs) both_payoffs in
    let names = name_tells (in_outcome r) (MentionOneOutcome r) (λ x. x.outcome.name) rs r (outcomes_tell rs r) in
    let lists = list_tells (MentionOneOutcome r) (λ x. x.outcome.payoffs) (pointwise same_value) AreSameNumbers rs r e list.0 (numbers_tell list.0) first
    list.1 in
    let both = either _ _ _ _ names lists in
    (λ x. both.0 (sym test ∙ x), λ x. test ∙ both.1 x)

-- at outcome 0 the payoffs alone are compared, with 0 and 0
zeros_tell : (rs : List Record) (r : Record) → r.outcome.number ≡ 0
    → (payoffs_differ null_outcome r.outcome.payoffs ≡ true) ↔ HasOtherOutcome rs r
zeros_tell rs r null = (forth, back)
  where
    zeros : List Fraction
    zeros = zero_fraction ∷ zero_fraction ∷ []

    forth : payoffs_differ null_outcome r.outcome.payoffs ≡ true → HasOtherOutcome rs r
    forth e =
        let g = other_given (pointwise same_value) zeros r.outcome.payoffs (sym (payoffs_other null_outcome r.outcome.payoffs) ∙ e) in
        inr (inr (record { null = null; given = g.0; gives = g.1; differ = λ same. false≢true (sym g.2 ∙ (numbers_tell zeros g.0).1 same) }))

    other : HasOtherZeros r → payoffs_differ null_outcome r.outcome.payoffs ≡ true
    other h =
        ap (payoffs_differ null_outcome) h.gives
        ∙ not_from_false (pointwise same_value zeros h.given) (false_from_ne_true (pointwise same_value zeros h.given)
        (λ s. h.differ ((numbers_tell zeros h.given).0 s)))

    back : HasOtherOutcome rs r → payoffs_differ null_outcome r.outcome.payoffs ≡ true
    back h =
        ⊎_elim
        (λ name. absurd (name.first.has.0.not_null null))
        (λ rest. ⊎_elim (λ list. absurd (list.first.has.not_null null)) other rest)
        h

-- another outcome is compared with what is known of it
pub other_outcome_tells : (rs : List Record) (r : Record) → HaveNoFault rs → (b : Bool) → nat_eq r.outcome.number 0 ≡ b
    → (cond b (payoffs_differ null_outcome r.outcome.payoffs)
    (option_map_or (λ i. name_differs (outcome_at (outcome_table rs) i).name r.outcome.name
    || payoffs_differ (outcome_at (outcome_table rs) i) r.outcome.payoffs) (outcome_place_of r.outcome.number (outcome_table rs)) false)
    ≡ true) ↔ HasOtherOutcome rs r
other_outcome_tells rs r fine true e = zeros_tell rs r (eqb-true r.outcome.number 0 e)
other_outcome_tells rs r fine false e =
    let some : r.outcome.number ≢ 0 = eqb-false r.outcome.number 0 e in
    let tells = same_outcome_tells rs r fine (outcome_place rs r some) in (
      λ h. ⊎_elim (λ name. inl name) (λ list. inr (inl list)) (tells.0 h),
      λ h. tells.1 (⊎_elim (λ name. inl name) (λ rest. inr (⊎_elim (λ list. list) (λ zeros. absurd (some zeros.null)) rest)) h),
    )
