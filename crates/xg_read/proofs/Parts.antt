-- An entry that is read part by part is the entry.
use Rattle.std.proofs.Common.{◌≡◌, ℕ, Bool, true, false, cond, List, Result, Ok, Err, codes, refl}
use Rattle.def_file_tokens.specs.declared.Token.TheVariants as kinds
use Rattle.def_file_tokens.specs.declared.Lexeme.{Lexeme}
use Rattle.def_file.specs.declared.EntryKind.{EntryKind}
use Rattle.def_file.specs.declared.EntryKind.TheVariants.{Chance, Personal, Leaf}
use Rattle.def_file.specs.declared.FileFault.{FileFault}
use Rattle.def_file.specs.Content.{Record}
use Rattle.def_file.specs.Reading.{◌>>=◌, begins_entry, chance_entry_at, entry_at, entry_behind, is_exact, outcome_mention_at, personal_entry_at}
use Rattle.def_file.specs.Reading.{terminal_entry_at, text_at, token_where}
use Rattle.xg_read.specs.Entries.{kind_at, kind_of, mover_at, parts_at, set_part_at}

-- the parts behind the word of an entry of this kind
abbrev behind_word : EntryKind → List ℕ → ℕ → Result (Record × ℕ) FileFault
behind_word kind whole at = do
  name ← text_at whole at
  player ← mover_at kind whole name.1
  set ← set_part_at kind whole player.1
  outcome ← outcome_mention_at whole set.1
  Ok (record { kind = kind; name = name.0; player = player.0; set = set.0; outcome = outcome.0 }, outcome.1)

-- the parts are those of the kind's own entry
by_kind : (chance personal : Bool) (whole : List ℕ) (at : ℕ)
    → behind_word (cond chance Chance (cond personal Personal Leaf)) whole at
    ≡ cond chance (chance_entry_at whole at) (cond personal (personal_entry_at whole at) (terminal_entry_at whole at))
unfolding chance_entry_at personal_entry_at terminal_entry_at
by_kind true personal whole at = refl
by_kind false true whole at = refl
by_kind false false whole at = refl

-- the kind that a word stands for, with the place behind it
abbrev word_kind : List ℕ → Lexeme → Result (EntryKind × ℕ) FileFault
word_kind whole token = Ok (kind_of whole token, token.end)

by_word : (head : Result Lexeme FileFault) (whole : List ℕ)
    → ((head >>= word_kind whole) >>= λ kind. behind_word kind.0 whole kind.1)
    ≡ (head >>= entry_behind whole)
by_word (Ok token) whole =
    by_kind (is_exact kinds.Word (codes "c") whole token) (is_exact kinds.Word (codes "p") whole token) whole token.end
by_word (Err fault) whole = refl

-- so all parts together are the entry
pub parts_are_entry : (whole : List ℕ) (at : ℕ) → parts_at whole at ≡ entry_at whole at
unfolding parts_at kind_at entry_at
parts_are_entry whole at = by_word (token_where (begins_entry whole) whole at) whole
