-- The faults of an entry after others, by what is known of its set and its outcome (the profile's own rules on top of
-- Gambit's manual, "The extensive game (.efg) file format").
--     mover r                        who moves: the player's number 1 is player one
--     set_place_of n table               where a table has the set of this number
--     entry_faults                   the tests of an entry, in the order of the list
--     record_fault contents r        the first fault whose test is met
--     fault_number fault             the number of a fault
use Rattle.std.specs.Prelude.{ℕ, ◌+◌, Bool, true, false, not, ◌&&◌, ◌||◌, nat_eq, nat_lt, if◌then◌else◌, List, [], ◌∷◌}
use Rattle.std.specs.Prelude.{length, position, is_none, slice_index_or, Option, Some, None}
use Rattle.std.specs.Option.{option_map_or}
use Rattle.std.specs.declared.cmp.Ordering.{Ordering}
use Rattle.std.specs.declared.cmp.Ordering.TheVariants.{Less, Equal, Greater}
use Rattle.std.specs.Cmp.Lexicographic.{pointwise}
use Rattle.def_fraction.specs.Fraction.{Fraction, order_of, zero_fraction}
use Rattle.def_tree.specs.declared.Kind.{Kind}
use Rattle.def_tree.specs.declared.Kind.TheVariants as movers
use Rattle.def_tree.specs.Rules.{most_actions, most_nodes}
use Rattle.def_file.specs.declared.EntryKind.{EntryKind}
use Rattle.def_file.specs.declared.EntryKind.TheVariants.{Chance, Personal, Leaf}
use Rattle.def_file.specs.declared.FileFault.{FileFault}
use Rattle.def_file.specs.declared.FileFault.TheVariants.{TooLong, Syntax, UnexpectedEnd, TrailingText, Number, Players}
use Rattle.def_file.specs.declared.FileFault.TheVariants.{PlayerNumber, SetUndefined, SetMismatch, OutcomeUndefined}
use Rattle.def_file.specs.declared.FileFault.TheVariants.{OutcomeMismatch, PayoffCount, TooManyNodes, ActionCount}
use Rattle.def_file.specs.declared.FileFault.TheVariants.{ChanceNegative, ChanceSum, NotConstantSum, NotRecall, Scale}
use Rattle.def_file.specs.Content.{Action, SetMention, OutcomeMention, Record, SetEntry, OutcomeEntry, Contents}
use Rattle.def_file.specs.Content.{sets_of_kind}

abbrev pub mover_as : EntryKind → ℕ → Kind
mover_as Chance player = movers.Chance
mover_as Personal player = if nat_eq player 1 then movers.One else movers.Two
mover_as Leaf player = movers.Leaf

abbrev pub mover : Record → Kind
mover r = mover_as r.kind r.player

abbrev pub has_player : EntryKind → Bool
has_player Chance = false
has_player Personal = true
has_player Leaf = false

abbrev pub has_set : EntryKind → Bool
has_set Chance = true
has_set Personal = true
has_set Leaf = false

-- Equality: texts by their bytes, and numbers by their value.

abbrev pub same_text : List ℕ → List ℕ → Bool
same_text = pointwise nat_eq

abbrev pub is_equal : Ordering → Bool
is_equal Less = false
is_equal Equal = true
is_equal Greater = false

abbrev pub same_value : Fraction → Fraction → Bool
same_value a b = is_equal (order_of a b)

-- of probabilities only where chance moves
abbrev pub same_action : Kind → Action → Action → Bool
same_action movers.Chance a b = same_text a.name b.name && same_value a.chance b.chance
same_action movers.One a b = same_text a.name b.name
same_action movers.Two a b = same_text a.name b.name
same_action movers.Leaf a b = same_text a.name b.name

-- What is known.

abbrev pub set_place_of : ℕ → List SetEntry → Option ℕ
set_place_of number table = position (λ e. nat_eq number e.number) table

abbrev pub outcome_place_of : ℕ → List OutcomeEntry → Option ℕ
outcome_place_of number table = position (λ e. nat_eq number e.number) table

abbrev pub no_set : SetEntry
no_set = record { number = 0; name = None; actions = [] }

abbrev pub set_at : List SetEntry → ℕ → SetEntry
set_at table i = slice_index_or table i no_set

abbrev pub null_outcome : OutcomeEntry
null_outcome = record { number = 0; name = None; one = zero_fraction; two = zero_fraction }

abbrev pub outcome_at : List OutcomeEntry → ℕ → OutcomeEntry
outcome_at table i = slice_index_or table i null_outcome

-- a name that is kept and one that is given differ
abbrev pub name_differs : Option (List ℕ) → Option (List ℕ) → Bool
name_differs (Some kept) (Some given) = not (same_text kept given)
name_differs (Some kept) None = false
name_differs None given = false

-- actions that are kept and those that are given differ in their number, a name or a probability
abbrev pub actions_differ : Kind → List Action → Option (List Action) → Bool
actions_differ kind kept (Some given) = not (pointwise (same_action kind) kept given)
actions_differ kind kept None = false

abbrev pub payoffs_differ : OutcomeEntry → Option (List Fraction) → Bool
payoffs_differ kept (Some given) = not (pointwise same_value (kept.one ∷ kept.two ∷ []) given)
payoffs_differ kept None = false

-- The tests.

abbrev pub is_no_player : EntryKind → ℕ → Bool
is_no_player kind player = has_player kind && not (nat_eq player 1 || nat_eq player 2)

-- the first mention of a set has no list
abbrev pub is_set_undefined : List SetEntry → SetMention → Bool
is_set_undefined table m = is_none (set_place_of m.number table) && is_none m.actions

-- a later mention of a set has another name or list
abbrev pub set_differs : Kind → List SetEntry → SetMention → Bool
set_differs kind table m =
    option_map_or (λ i. name_differs (set_at table i).name m.name
    || actions_differ kind (set_at table i).actions m.actions) (set_place_of m.number table) false

-- the first list of a set has no action, or more than 1,024
abbrev pub has_wrong_count : Option (List Action) → Bool
has_wrong_count (Some given) = nat_eq (length given) 0 || nat_lt most_actions (length given)
has_wrong_count None = false

abbrev pub is_set_miscounted : List SetEntry → SetMention → Bool
is_set_miscounted table m = is_none (set_place_of m.number table) && has_wrong_count m.actions

-- Outcome 0 counts as described before, with the payoffs 0 and 0 and no name that is compared.
abbrev pub is_outcome_undefined : List OutcomeEntry → OutcomeMention → Bool
is_outcome_undefined table m = not (nat_eq m.number 0) && (is_none (outcome_place_of m.number table)
    && is_none m.payoffs)

abbrev pub outcome_differs : List OutcomeEntry → OutcomeMention → Bool
outcome_differs table m =
    if nat_eq m.number 0 then payoffs_differ null_outcome m.payoffs
    else option_map_or (λ i. name_differs (outcome_at table i).name m.name
    || payoffs_differ (outcome_at table i) m.payoffs) (outcome_place_of m.number table) false

-- the first list of an outcome has other than two payoffs
abbrev pub has_wrong_payoffs : Option (List Fraction) → Bool
has_wrong_payoffs (Some given) = not (nat_eq (length given) 2)
has_wrong_payoffs None = false

abbrev pub is_outcome_miscounted : List OutcomeEntry → OutcomeMention → Bool
is_outcome_miscounted table m = not (nat_eq m.number 0)
    && (is_none (outcome_place_of m.number table) && has_wrong_payoffs m.payoffs)

-- The order.

-- the first fault whose test is met
abbrev pub first_met : List (Bool × FileFault) → Option FileFault
first_met [] = None
first_met ((true, fault) ∷ rest) = Some fault
first_met ((false, fault) ∷ rest) = first_met rest

-- the tests of an entry behind so many nodes, by the sets of its mover and the outcomes that are known
abbrev pub entry_faults : ℕ → List SetEntry → List OutcomeEntry → Record → List (Bool × FileFault)
entry_faults nodes sets outcomes r =
    (is_no_player r.kind r.player, PlayerNumber (nodes + 1))
    ∷ (has_set r.kind && is_set_undefined sets r.set, SetUndefined (nodes + 1))
    ∷ (has_set r.kind && set_differs (mover r) sets r.set, SetMismatch (nodes + 1))
    ∷ (is_outcome_undefined outcomes r.outcome, OutcomeUndefined (nodes + 1))
    ∷ (outcome_differs outcomes r.outcome, OutcomeMismatch (nodes + 1))
    ∷ (is_outcome_miscounted outcomes r.outcome, PayoffCount (nodes + 1))
    ∷ (nat_eq nodes most_nodes, TooManyNodes)
    ∷ (has_set r.kind && is_set_miscounted sets r.set, ActionCount (nodes + 1)) ∷ []

abbrev pub record_faults : Contents → Record → List (Bool × FileFault)
record_faults contents r = entry_faults (length contents.nodes) (sets_of_kind (mover r) contents.sets) contents.outcomes
    r

abbrev pub record_fault : Contents → Record → Option FileFault
record_fault contents r = first_met (record_faults contents r)

-- The numbers of the faults of a file, by which those of an entry are in order.

abbrev pub fault_number : FileFault → ℕ
fault_number TooLong = 1
fault_number (Syntax at) = 2
fault_number UnexpectedEnd = 3
fault_number (TrailingText at) = 4
fault_number (Number at fault) = 5
fault_number (Players count) = 6
fault_number (PlayerNumber node) = 7
fault_number (SetUndefined node) = 8
fault_number (SetMismatch node) = 9
fault_number (OutcomeUndefined node) = 10
fault_number (OutcomeMismatch node) = 11
fault_number (PayoffCount node) = 12
fault_number TooManyNodes = 13
fault_number (ActionCount node) = 14
fault_number (ChanceNegative node) = 15
fault_number (ChanceSum node) = 16
fault_number (NotConstantSum node) = 17
fault_number (NotRecall node earlier) = 18
fault_number (Scale node) = 19
