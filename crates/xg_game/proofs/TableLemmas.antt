-- A table's entries, seen as the content of a file has them.
use Rattle.std.proofs.Common.{◌≡◌, ℕ, zero, suc, ◌+◌, ◌<◌, ◌≤◌, not, cond, nat_eq, nat_lt, List, [], ◌∷◌, ◌++◌, map, length, get_or, set, position, slice_get}
use Rattle.std.proofs.Common.{Bool, true, false, Option, Some, None, Result, Ok, Err, refl, ap, sym, subst, ◌∙◌, arith}
use Rattle.std.specs.List.{position_or_len}
use Rattle.std.specs.Result.{OnOk, OnErr}
use Rattle.std.specs.Map.{keys_of, values_of}
use Rattle.std.proofs.Math.ListN.{length-map}
use Rattle.std.proofs.lemmas.List.{map-append, map-set}
use Rattle.std.specs.Option.{option_map_or}
use Rattle.std.proofs.lemmas.List.Quantifiers.{position-Some}
use Rattle.def_file.specs.Content.{Action, SetEntry, SetMention, OutcomeEntry, OutcomeMention}
use Rattle.def_file.specs.Faults.{no_set, set_at, set_place_of, null_outcome, outcome_at, outcome_place_of}
use Rattle.def_file.specs.Adding.{kept_name, new_outcome, new_set, noted_outcome, noted_set}
use Rattle.xg_game.specs.Actions.{SpanIsWithin}
use Rattle.xg_game.specs.Sets.{SpansAreWithin, set_of}
use Rattle.xg_game.specs.Outcomes.{outcome_entry_of}
use Rattle.xg_game.specs.Places.{place_of_outcome}
use Rattle.xg_game.specs.declared.actions.Span.{Span}
use Rattle.xg_game.specs.declared.table.Described.{Described}
use Rattle.xg_game.specs.declared.outcomes.PayoffPair.{PayoffPair}
use Rattle.xg_game.proofs.ActionLemmas.{part_behind, part_stays}

-- within a list there is an element
pub there : {X : Type 0} (xs : List X) (i : ℕ) → i < length xs → (x : X) × (slice_get xs i ≡ Some x)
there [] i within = absurd (omega arith)
there (x ∷ xs) zero within = (x, refl)
there (x ∷ xs) (suc i) within = there xs i (omega arith)

module _ {D E : Type 0} (entry : ℕ × D → E) where
  -- an element that is seen
  seen_at : (es : List (ℕ × D)) (i : ℕ) (e : ℕ × D) (none : E) → slice_get es i ≡ Some e
      → get_or (map entry es) i none ≡ entry e
  seen_at [] i e none at = cc
  seen_at (x ∷ es) zero e none at = let same : x ≡ e = cc in ap entry same
  seen_at (x ∷ es) (suc i) e none at = seen_at es i e none at

module _ {D E : Type 0} (entry : ℕ × D → E) (number : E → ℕ) (numbered : (e : ℕ × D) → number (entry e) ≡ e.0) where
  first_seen : (n : ℕ) (es : List (ℕ × D))
      → position_or_len (λ e. nat_eq n (number e)) (map entry es) ≡ position_or_len (nat_eq n) (keys_of es)
  first_seen n [] = refl
  first_seen n (e ∷ es) = λ i. cond (not (nat_eq n (numbered e i))) (1 + first_seen n es i) 0

  -- an entry stands where its key does
  place_seen : (n : ℕ) (es : List (ℕ × D))
      → position (nat_eq n) (keys_of es) ≡ position (λ e. nat_eq n (number e)) (map entry es)
  place_seen n es =
      let first : position_or_len (nat_eq n) (keys_of es) ≡ position_or_len (λ e. nat_eq n (number e)) (map entry es) = sym (first_seen n es) in
      let long : length (keys_of es) ≡ length (map entry es) = length-map es (λ e. e.0) ∙ sym (length-map es entry) in
      λ i. cond (nat_lt (first i) (long i)) (Some (first i)) None

  -- an entry has its key as its number
  number_seen : (es : List (ℕ × D)) (i k : ℕ) (none : E) → slice_get (keys_of es) i ≡ Some k
      → k ≡ number (get_or (map entry es) i none)
  number_seen [] i k none at = cc
  number_seen (e ∷ es) zero k none at = let same : k ≡ e.0 = cc in same ∙ sym (numbered e)
  number_seen (e ∷ es) (suc i) k none at = number_seen es i k none at

  -- and is that of its value
  value_seen : (es : List (ℕ × D)) (i : ℕ) (value : D) (none : E) → slice_get (values_of es) i ≡ Some value
      → entry (number (get_or (map entry es) i none), value) ≡ get_or (map entry es) i none
  value_seen [] i value none at = cc
  value_seen (e ∷ es) zero value none at = let same : value ≡ e.1 = cc in λ j. entry (numbered e j, same j)
  value_seen (e ∷ es) (suc i) value none at = value_seen es i value none at

-- The same of sets.

abbrev pub KnownSet : Type 0
KnownSet = Described Span

module _ (all : List Action) where
  -- a number stands among a table's keys where its set stands among the sets
  pub set_place : (n : ℕ) (es : List (ℕ × KnownSet))
      → position (nat_eq n) (keys_of es) ≡ set_place_of n (map (set_of all) es)
  set_place = place_seen (set_of all) (λ s. s.number) (λ e. refl)

  -- the key at a place of a table is the number of the set there
  pub set_number : (es : List (ℕ × KnownSet)) (i k : ℕ) → slice_get (keys_of es) i ≡ Some k
      → k ≡ (set_at (map (set_of all) es) i).number
  set_number es i k at = number_seen (set_of all) (λ s. s.number) (λ e. refl) es i k no_set at

  -- what a table keeps at a place, with the number there, is the set there
  pub set_value : (es : List (ℕ × KnownSet)) (i : ℕ) (kept : KnownSet) → slice_get (values_of es) i ≡ Some kept
      → set_of all ((set_at (map (set_of all) es) i).number, kept) ≡ set_at (map (set_of all) es) i
  set_value es i kept at = value_seen (set_of all) (λ s. s.number) (λ e. refl) es i kept no_set at

  -- a set with the first name that is given to it
  set_named : (es : List (ℕ × KnownSet)) (i : ℕ) (e : ℕ × KnownSet) (given : Option (List ℕ))
      → slice_get es i ≡ Some e
      → map (set_of all) (set es i (e.0, record e.1 { name = kept_name e.1.name given }))
      ≡ set (map (set_of all) es) i (record (set_at (map (set_of all) es) i) { name = kept_name (set_at (map (set_of all) es) i).name given })
  set_named es i e given at =
      map-set (set_of all) es i (e.0, record e.1 { name = kept_name e.1.name given })
      ∙ ap (λ (s : SetEntry). set (map (set_of all) es) i (record s { name = kept_name s.name given })) (sym (seen_at (set_of all) es i e no_set at))

-- and in place of the set there
pub set_renamed : (all : List Action) (es new : List (ℕ × KnownSet)) (table : List SetEntry) (i : ℕ) (e : ℕ × KnownSet)
    (given : Option (List ℕ))
    → slice_get es i ≡ Some e → map (set_of all) es ≡ table
    → new ≡ set es i (e.0, record e.1 { name = kept_name e.1.name given })
    → map (set_of all) new ≡ set table i (record (set_at table i) { name = kept_name (set_at table i).name given })
set_renamed all es new table i e given at seen put =
    ap (map (set_of all)) put ∙ set_named all es i e given at
    ∙ ap (λ (ss : List SetEntry). set ss i (record (set_at ss i) { name = kept_name (set_at ss i).name given })) seen

-- where a set is known, a mention gives it a name
pub set_noted : (table : List SetEntry) (m : SetMention) (i : ℕ) → set_place_of m.number table ≡ Some i
    → (i < length table) × (set table i (record (set_at table i) { name = kept_name (set_at table i).name m.name }) ≡ noted_set table m)
set_noted table m i at = (
  (position-Some (λ (e : SetEntry). nat_eq m.number e.number) table i no_set at).0,
  sym (ap (λ (place : Option ℕ). option_map_or (λ (k : ℕ). set table k (record (set_at table k) { name = kept_name (set_at table k).name m.name })) place
      (table ++ new_set m ∷ [])) at),
)

-- the actions of the sets are still within more of them
pub within_more : (size more : ℕ) (es : List (ℕ × KnownSet)) → size ≤ more → SpansAreWithin size es
    → SpansAreWithin more es
within_more size more [] grow within = tt
within_more size more (e ∷ es) grow within =
    ((within.0.0, omega (arith, grow, within.0.1)), within_more size more es grow within.1)

-- those of one set more, too
within_last : (size : ℕ) (es : List (ℕ × KnownSet)) (e : ℕ × KnownSet) → SpansAreWithin size es
    → SpanIsWithin size e.1.value
    → SpansAreWithin size (es ++ e ∷ [])
within_last size [] e within last = (last, tt)
within_last size (x ∷ es) e within last = (within.0, within_last size es e within.1 last)

-- and where it is one more, or none more
pub within_put : {T E : Type 0} (r : Result T E) (size more : ℕ) (es new : List (ℕ × KnownSet)) (e : ℕ × KnownSet)
    → SpansAreWithin size es → size ≤ more → SpanIsWithin more e.1.value → OnOk r (new ≡ es ++ e ∷ [])
    → OnErr r (new ≡ es)
    → SpansAreWithin more new
within_put (Ok x) size more es new e within grow last ok err =
    subst (SpansAreWithin more) (sym ok) (within_last more es e (within_more size more es grow within) last)
within_put (Err x) size more es new e within grow last ok err = subst (SpansAreWithin more) (sym err) (within_more size more es grow within)

-- and of a set that gets a name
within_named : (size : ℕ) (es : List (ℕ × KnownSet)) (i : ℕ) (e : ℕ × KnownSet) (name : Option (List ℕ))
    → slice_get es i ≡ Some e → SpansAreWithin size es
    → SpansAreWithin size (set es i (e.0, record e.1 { name = name }))
within_named size [] i e name at within = cc
within_named size (x ∷ es) zero e name at within =
    let same : x ≡ e = cc in (subst (λ (y : ℕ × KnownSet). SpanIsWithin size y.1.value) same within.0, within.1)
within_named size (x ∷ es) (suc i) e name at within = (within.0, within_named size es i e name at within.1)

-- or would get one
pub within_given : {T E : Type 0} (r : Result T E) (size : ℕ) (es new : List (ℕ × KnownSet)) (i : ℕ) (e : ℕ × KnownSet)
    (name : Option (List ℕ))
    → slice_get es i ≡ Some e → SpansAreWithin size es → OnOk r (new ≡ set es i (e.0, record e.1 { name = name }))
    → OnErr r (new ≡ es)
    → SpansAreWithin size new
within_given (Ok x) size es new i e name at within ok err = subst (SpansAreWithin size) (sym ok) (within_named size es i e name at within)
within_given (Err x) size es new i e name at within ok err = subst (SpansAreWithin size) (sym err) within

-- those of the set at a place
pub within_at : (size : ℕ) (es : List (ℕ × KnownSet)) (i : ℕ) (known : KnownSet)
    → slice_get (values_of es) i ≡ Some known
    → SpansAreWithin size es → SpanIsWithin size known.value
within_at size [] i known at within = cc
within_at size (x ∷ es) zero known at within =
    let same : x.1 ≡ known = cc in subst (λ (k : KnownSet). SpanIsWithin size k.value) same within.0
within_at size (x ∷ es) (suc i) known at within = within_at size es i known at within.1

-- actions behind those of the sets change no set
sets_stay : (all more : List Action) (es : List (ℕ × KnownSet)) → SpansAreWithin (length all) es
    → map (set_of (all ++ more)) es ≡ map (set_of all) es
sets_stay all more [] within = refl
sets_stay all more ((n, known) ∷ es) within =
    let stays = part_stays all more known.value.start known.value.end within.0.0 within.0.1 in
    λ i. record { number = n; name = known.name; actions = stays i } ∷ sets_stay all more es within.1 i

-- one more entry in a table, with its actions behind the others, is one more set behind the others
pub set_added : (all more new : List Action) (es : List (ℕ × KnownSet)) (n : ℕ) (known : KnownSet)
    → SpansAreWithin (length all) es → new ≡ all ++ more → known.value.start ≡ length all → known.value.end ≡ length new
    → map (set_of new) (es ++ (n, known) ∷ [])
    ≡ map (set_of all) es ++ record { number = n; name = known.name; actions = more } ∷ []
set_added all more new es n known within put start end =
    map-append (set_of new) es ((n, known) ∷ [])
    ∙ ap (λ (ss : List SetEntry). ss ++ set_of new (n, known) ∷ []) (ap (λ (xs : List Action). map (set_of xs) es) put ∙ sets_stay all more es within)
    ∙ ap (λ (xs : List Action). map (set_of all) es ++ record { number = n; name = known.name; actions = xs } ∷ [])
    (part_behind all more new known.value.start known.value.end put start end)

-- The same of outcomes.

abbrev pub KnownOutcome : Type 0
KnownOutcome = Described PayoffPair

-- a number stands among a table's keys where its outcome stands among the outcomes
pub outcome_place : (n : ℕ) (es : List (ℕ × KnownOutcome))
    → position (nat_eq n) (keys_of es) ≡ outcome_place_of n (map outcome_entry_of es)
outcome_place = place_seen outcome_entry_of (λ s. s.number) (λ e. refl)

-- the key at a place of a table is the number of the outcome there
pub outcome_number : (es : List (ℕ × KnownOutcome)) (i k : ℕ) → slice_get (keys_of es) i ≡ Some k
    → k ≡ (outcome_at (map outcome_entry_of es) i).number
outcome_number es i k at = number_seen outcome_entry_of (λ s. s.number) (λ e. refl) es i k null_outcome at

-- what a table keeps at a place, with the number there, is the outcome there
pub outcome_value : (es : List (ℕ × KnownOutcome)) (i : ℕ) (kept : KnownOutcome)
    → slice_get (values_of es) i ≡ Some kept
    → outcome_entry_of ((outcome_at (map outcome_entry_of es) i).number, kept) ≡ outcome_at (map outcome_entry_of es) i
outcome_value es i kept at = value_seen outcome_entry_of (λ s. s.number) (λ e. refl) es i kept null_outcome at

-- one more entry in a table is one more outcome behind the others
pub outcome_added : (es : List (ℕ × KnownOutcome)) (e : ℕ × KnownOutcome)
    → map outcome_entry_of (es ++ e ∷ []) ≡ map outcome_entry_of es ++ outcome_entry_of e ∷ []
outcome_added es e = map-append outcome_entry_of es (e ∷ [])

-- an outcome with the first name that is given to it
outcome_named : (es : List (ℕ × KnownOutcome)) (i : ℕ) (e : ℕ × KnownOutcome) (given : Option (List ℕ))
    → slice_get es i ≡ Some e
    → map outcome_entry_of (set es i (e.0, record e.1 { name = kept_name e.1.name given }))
    ≡ set (map outcome_entry_of es) i (record (outcome_at (map outcome_entry_of es) i) { name = kept_name (outcome_at (map outcome_entry_of es) i).name given })
outcome_named es i e given at =
    map-set outcome_entry_of es i (e.0, record e.1 { name = kept_name e.1.name given })
    ∙ ap (λ (s : OutcomeEntry). set (map outcome_entry_of es) i (record s { name = kept_name s.name given }))
    (sym (seen_at outcome_entry_of es i e null_outcome at))

-- and in place of the outcome there
pub outcome_renamed : (es new : List (ℕ × KnownOutcome)) (table : List OutcomeEntry) (i : ℕ) (e : ℕ × KnownOutcome)
    (given : Option (List ℕ))
    → slice_get es i ≡ Some e → map outcome_entry_of es ≡ table
    → new ≡ set es i (e.0, record e.1 { name = kept_name e.1.name given })
    → map outcome_entry_of new
    ≡ set table i (record (outcome_at table i) { name = kept_name (outcome_at table i).name given })
outcome_renamed es new table i e given at seen put =
    ap (map outcome_entry_of) put ∙ outcome_named es i e given at
    ∙ ap (λ (ss : List OutcomeEntry). set ss i (record (outcome_at ss i) { name = kept_name (outcome_at ss i).name given })) seen

-- where an outcome is known, a mention gives it a name
pub outcome_noted : (table : List OutcomeEntry) (m : OutcomeMention) (i : ℕ) → place_of_outcome m.number table ≡ Some i
    → (i < length table)
    × (set table i (record (outcome_at table i) { name = kept_name (outcome_at table i).name m.name }) ≡ noted_outcome table m)
outcome_noted table m i at = by (nat_eq m.number 0) refl at
  where
    rename : ℕ → List OutcomeEntry
    rename k = set table k (record (outcome_at table k) { name = kept_name (outcome_at table k).name m.name })

    by : (b : Bool) → nat_eq m.number 0 ≡ b → cond b None (outcome_place_of m.number table) ≡ Some i
        → (i < length table) × (rename i ≡ noted_outcome table m)
    by true null at = cc
    by false null at = (
      (position-Some (λ (e : OutcomeEntry). nat_eq m.number e.number) table i null_outcome at).0,
      sym (ap (λ (b : Bool). cond b table (option_map_or rename (outcome_place_of m.number table) (table ++ new_outcome m ∷ []))) null
          ∙ ap (λ (place : Option ℕ). option_map_or rename place (table ++ new_outcome m ∷ [])) at),
    )
