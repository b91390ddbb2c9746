-- A prologue, as the content of a file has it.
use Rattle.std.specs.Prelude.{ℕ, List}
use Rattle.def_file.specs.Content as content
use Rattle.xg_game.specs.declared.prologue.Prologue.{Prologue}

abbrev pub prologue_with : List ℕ → List ℕ → List ℕ → List ℕ → content.Prologue
prologue_with title one two comment = record { title = title; one = one; two = two; comment = comment }

abbrev pub prologue_of : Prologue → content.Prologue
prologue_of p = prologue_with p.title p.one p.two p.comment
