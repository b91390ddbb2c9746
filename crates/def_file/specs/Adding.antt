-- What is known with one more entry.
--     noted_set table m              the sets with a mention
--     node_with contents r           the node that an entry is
--     with_record contents r         the contents with an entry
use Rattle.std.specs.Prelude.{ℕ, ◌+◌, nat_eq, if◌then◌else◌, List, [], ◌∷◌, ◌++◌, length, unwrap_or, slice_set}
use Rattle.std.specs.Prelude.{slice_index_or, Option, Some, None}
use Rattle.std.specs.Option.{option_map_or}
use Rattle.def_fraction.specs.Fraction.{Fraction, zero_fraction}
use Rattle.def_tree.specs.declared.Node.{Node}
use Rattle.def_file.specs.Content.{SetMention, OutcomeMention, Record, SetEntry, OutcomeEntry, Contents, sets_of_kind}
use Rattle.def_file.specs.Content.{with_sets}
use Rattle.def_file.specs.Faults.{mover, has_set, set_place_of, outcome_place_of, set_at, outcome_at}

-- the first name that is given is kept
abbrev pub kept_name : Option (List ℕ) → Option (List ℕ) → Option (List ℕ)
kept_name (Some kept) given = Some kept
kept_name None given = given

abbrev pub new_set : SetMention → SetEntry
new_set m = record { number = m.number; name = m.name; actions = unwrap_or m.actions [] }

abbrev pub noted_set : List SetEntry → SetMention → List SetEntry
noted_set table m =
    option_map_or (λ i. slice_set table i (record (set_at table i) { name = kept_name (set_at table i).name m.name }))
    (set_place_of m.number table) (table ++ new_set m ∷ [])

abbrev pub nth_payoff : List Fraction → ℕ → Fraction
nth_payoff payoffs i = slice_index_or payoffs i zero_fraction

abbrev pub new_outcome : OutcomeMention → OutcomeEntry
new_outcome m = record {
  number = m.number;
  name = m.name;
  one = nth_payoff (unwrap_or m.payoffs []) 0;
  two = nth_payoff (unwrap_or m.payoffs []) 1;
}

-- outcome 0 is in no table
abbrev pub noted_outcome : List OutcomeEntry → OutcomeMention → List OutcomeEntry
noted_outcome table m =
    if nat_eq m.number 0 then table
    else option_map_or (λ i. slice_set table i (record (outcome_at table i)
    { name = kept_name (outcome_at table i).name m.name })) (outcome_place_of m.number table)
    (table ++ new_outcome m ∷ [])

-- The numbers of a set and an outcome by their tables, which count from 1.

abbrev pub set_number : List SetEntry → SetMention → ℕ
set_number table m = unwrap_or (set_place_of m.number table) (length table) + 1

abbrev pub outcome_number : List OutcomeEntry → OutcomeMention → ℕ
outcome_number table m = if nat_eq m.number 0 then 0 else unwrap_or (outcome_place_of m.number table) (length table) + 1

-- how many actions the set has with a mention
abbrev pub action_count : List SetEntry → SetMention → ℕ
action_count table m = option_map_or (λ i. length (set_at table i).actions) (set_place_of m.number table)
    (length (new_set m).actions)

abbrev pub node_with : Contents → Record → Node
node_with contents r =
    let table = sets_of_kind (mover r) contents.sets in
    record {
      kind = mover r;
      set = if has_set r.kind then set_number table r.set else 0;
      outcome = outcome_number contents.outcomes r.outcome;
      children = if has_set r.kind then action_count table r.set else 0;
    }

abbrev pub with_record : Contents → Record → Contents
with_record contents r = record {
  nodes = contents.nodes ++ node_with contents r ∷ [];
  names = contents.names ++ r.name ∷ [];
  sets = with_sets (mover r) (noted_set (sets_of_kind (mover r) contents.sets) r.set) contents.sets;
  outcomes = noted_outcome contents.outcomes r.outcome;
}
