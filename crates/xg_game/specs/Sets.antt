-- The sets of a table, as the content of a file has them.
use Rattle.std.specs.Prelude.{ℕ, List, [], ◌∷◌, ⊤}
use Rattle.def_file.specs.Content.{Action, SetEntry}
use Rattle.xg_game.specs.Actions.{SpanIsWithin, actions_in}
use Rattle.xg_game.specs.declared.actions.Span.{Span}
use Rattle.xg_game.specs.declared.table.Described.{Described}

-- a set whose actions are among those of all sets
abbrev pub set_of : List Action → ℕ × Described Span → SetEntry
set_of actions (number, known) = record { number = number; name = known.name; actions = actions_in actions known.value }

-- the actions of each set are among so many
abbrev pub SpansAreWithin : ℕ → List (ℕ × Described Span) → Type 0
SpansAreWithin size [] = ⊤
SpansAreWithin size ((number, known) ∷ sets) = SpanIsWithin size known.value × SpansAreWithin size sets
