-- The reading of an entry part by part: its kind first, and by the kind its player and its set.
use Rattle.std.specs.Prelude.{ℕ, if◌then◌else◌, List, codes, Result, Ok}
use Rattle.def_file_tokens.specs.declared.Token.TheVariants as kinds
use Rattle.def_file_tokens.specs.declared.Lexeme.{Lexeme}
use Rattle.def_file.specs.declared.EntryKind.{EntryKind}
use Rattle.def_file.specs.declared.EntryKind.TheVariants.{Chance, Personal, Leaf}
use Rattle.def_file.specs.declared.FileFault.{FileFault}
use Rattle.def_file.specs.Content.{Record, SetMention, no_set_mention}
use Rattle.def_file.specs.Reading.{◌>>=◌, begins_entry, is_exact, outcome_mention_at, set_mention_at, text_at}
use Rattle.def_file.specs.Reading.{token_where, whole_at}

-- the kind that an entry's word stands for
abbrev pub kind_of : List ℕ → Lexeme → EntryKind
kind_of whole head =
    if is_exact kinds.Word (codes "c") whole head then Chance
    else (if is_exact kinds.Word (codes "p") whole head then Personal
    else Leaf)

unfoldable pub kind_at : List ℕ → ℕ → Result (EntryKind × ℕ) FileFault
kind_at whole at = token_where (begins_entry whole) whole at >>= λ head. Ok (kind_of whole head, head.end)

-- the player, where one moves
abbrev pub mover_at : EntryKind → List ℕ → ℕ → Result (ℕ × ℕ) FileFault
mover_at Chance whole at = Ok (0, at)
mover_at Personal whole at = whole_at whole at
mover_at Leaf whole at = Ok (0, at)

-- what is said of the set, where there is one
abbrev pub set_part_at : EntryKind → List ℕ → ℕ → Result (SetMention × ℕ) FileFault
set_part_at Chance whole at = set_mention_at Chance whole at
set_part_at Personal whole at = set_mention_at Personal whole at
set_part_at Leaf whole at = Ok (no_set_mention, at)

-- an entry, as entry_at reads it
unfoldable pub parts_at : List ℕ → ℕ → Result (Record × ℕ) FileFault
parts_at whole at = do
  kind ← kind_at whole at
  name ← text_at whole kind.1
  player ← mover_at kind.0 whole name.1
  set ← set_part_at kind.0 whole player.1
  outcome ← outcome_mention_at whole set.1
  Ok (record { kind = kind.0; name = name.0; player = player.0; set = set.0; outcome = outcome.0 }, outcome.1)
