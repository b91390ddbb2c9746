-- Where the set and the outcome of an entry are in the tables, if they are there: the first places of their numbers.
use Rattle.std.specs.Prelude.{◌≡◌, ℕ, nat_eq, if◌then◌else◌, List, Option, None}
use Rattle.def_file.specs.Content.{Record, OutcomeEntry, SetTables, Contents, sets_of_kind}
use Rattle.def_file.specs.Faults.{mover, set_place_of, outcome_place_of}
use Rattle.xg_game.specs.declared.tables.Places.{Places}

-- in the sets of its mover; a leaf is in no set
abbrev pub place_of_set : Record → SetTables → Option ℕ
place_of_set r sets = set_place_of r.set.number (sets_of_kind (mover r) sets)

-- outcome 0 is in no table
abbrev pub place_of_outcome : ℕ → List OutcomeEntry → Option ℕ
place_of_outcome number outcomes = if nat_eq number 0 then None else outcome_place_of number outcomes

pub record ArePlacesOf (r : Record) (contents : Contents) (places : Places) : Type 0 where
  pub set : places.set ≡ place_of_set r contents.sets
  pub outcome : places.outcome ≡ place_of_outcome r.outcome.number contents.outcomes
