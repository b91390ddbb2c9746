-- The text of a batch: for each file in order a line with its number, and then its game's text or the line of its
-- fault.
--     batch_items files            what the files stand for: the game of each, or its first fault
--     parts_text settings n items  the parts of items, counted from n
--     batch_text settings files    the whole text
use Rattle.std.specs.Prelude.{ℕ, ◌+◌, List, [], ◌∷◌, ◌++◌, map, codes, Result, Ok, Err}
use Rattle.std.specs.Fmt.{decimal}
use Rattle.def_file.specs.declared.FileFault.{FileFault}
use Rattle.def_file.specs.Content.{GameFile}
use Rattle.def_batch.specs.Batch.{batch_entries, batch_room, item_of}
use Rattle.def_command.specs.declared.Settings.{Settings}
use Rattle.def_program.specs.Text.{line_feed, solve_text}
use Rattle.def_program.specs.TextLines.{fault_line}

abbrev pub batch_items : List (List ℕ) → List (Result GameFile FileFault)
batch_items files = map item_of (batch_entries batch_room files)

abbrev pub file_line : ℕ → List ℕ
file_line number = codes "file " ++ (decimal number ++ line_feed)

abbrev pub item_text : Settings → Result GameFile FileFault → List ℕ
item_text settings (Ok game) = solve_text game settings
item_text settings (Err fault) = fault_line fault

abbrev pub part_text : Settings → ℕ → Result GameFile FileFault → List ℕ
part_text settings number item = file_line number ++ item_text settings item

abbrev pub parts_text : Settings → ℕ → List (Result GameFile FileFault) → List ℕ
parts_text settings number [] = []
parts_text settings number (item ∷ items) = part_text settings number item ++ parts_text settings (number + 1) items

abbrev pub batch_text : Settings → List (List ℕ) → List ℕ
batch_text settings files = parts_text settings 1 (batch_items files)
