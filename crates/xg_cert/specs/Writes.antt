-- What a writer does.
use Rattle.std.specs.Prelude.{ℕ, List, [], ◌∷◌, ◌++◌}
use Rattle.def_reply.specs.Outcome.{Head}
use Rattle.def_cert_text.specs.Fields.{TextItem, items_text}
use Rattle.def_cert_text.specs.CertText.{size_line, sets_line, sequences_line, payoff_lines}
use Rattle.def_cert_text.specs.declared.version.TextVersion.{TextVersion}

-- a field and its separator
unfoldable pub field_text : List ℕ → ℕ → List ℕ
field_text bytes sep = bytes ++ sep ∷ []

-- the lines 2 to 4, and those of the unit, the sum and the mass
abbrev pub counts_items : Head → List TextItem
counts_items head =
    size_line.items (head.nodes, head.leaves) ++ (sets_line.items (head.sets_one, head.sets_two)
    ++ sequences_line.items (head.sequences_one, head.sequences_two))

abbrev pub counts_text : Head → List ℕ
counts_text head = items_text (counts_items head)

abbrev pub units_items : TextVersion → Head → List TextItem
units_items v head = (payoff_lines v).items ((head.unit, head.sum), head.mass)

abbrev pub units_text : TextVersion → Head → List ℕ
units_text v head = items_text (units_items v head)
