-- Reading a game file: what it says and stands for, or its first fault.
--     most_bytes                a game file's greatest length
--     ◌>>=◌                     one reading after another, up to the first fault
--     token_where test whole at the token from the offset `at` on, if it passes the test
--     next_is byte whole at     whether this byte comes next, white space aside
--     head_at, prologue_at      the prologue up to the players' names, and the whole of it
--     entry_at                  an entry
--     entries_from              entries one after another, each judged by those before it, until the tree is whole
--     game_at whole             the whole file
-- What is read is a value and the offset behind it.
use Rattle.std.specs.Prelude.{ℕ, zero, suc, ◌+◌, ◌-◌, Bool, true, false, ◌&&◌, ◌||◌, nat_eq, if◌then◌else◌, List, []}
use Rattle.std.specs.Prelude.{◌∷◌, ◌++◌, codes, length, slice_range, slice_index_or, unwrap_or, Option, Some, None}
use Rattle.std.specs.Prelude.{Result, Ok, Err}
use Rattle.std.specs.Cmp.Lexicographic.{pointwise}
use Rattle.def_file_tokens.specs.declared.Token.{Token}
use Rattle.def_file_tokens.specs.declared.Token.TheVariants as kinds
use Rattle.def_file_tokens.specs.declared.Lexeme.{Lexeme}
use Rattle.def_file_tokens.specs.declared.LexFault.{LexFault}
use Rattle.def_file_tokens.specs.declared.LexFault.TheVariants as lexing
use Rattle.def_file_tokens.specs.Tokens.{byte_from, next_from}
use Rattle.def_file_tokens.specs.Texts.{unescaped}
use Rattle.def_fraction.specs.declared.fault.NumberFault.{NumberFault}
use Rattle.def_fraction.specs.declared.fault.NumberFault.TheVariants.{Range}
use Rattle.def_fraction.specs.Fraction.{Fraction, zero_fraction}
use Rattle.def_fraction.specs.Reading.{read_as_literal, read_as_whole}
use Rattle.def_tree.specs.Rules.{most_nodes}
use Rattle.def_tree.specs.Tree.{wanted}
use Rattle.def_file.specs.declared.TheConstants.{MOST_BYTES}
use Rattle.def_file.specs.declared.EntryKind.{EntryKind}
use Rattle.def_file.specs.declared.EntryKind.TheVariants.{Chance, Personal, Leaf}
use Rattle.def_file.specs.declared.FileFault.{FileFault}
use Rattle.def_file.specs.declared.FileFault.TheVariants.{Syntax, UnexpectedEnd, TrailingText, Number, Players}
use Rattle.def_file.specs.declared.FileFault.TheVariants.{TooManyNodes}
use Rattle.def_file.specs.Content.{Prologue, Action, SetMention, OutcomeMention, Record, Contents, GameFile}
use Rattle.def_file.specs.Content.{no_set_mention, no_contents, game_with}
use Rattle.def_file.specs.Faults.{record_fault}
use Rattle.def_file.specs.Adding.{with_record}

-- the greatest number of bytes of a game file
abbrev pub most_bytes : ℕ
most_bytes = MOST_BYTES

infixl 10 ◌>>=◌
abbrev pub ◌>>=◌ : {A B : Type 0} → Result A FileFault → (A → Result B FileFault) → Result B FileFault
(Ok x) >>= f = f x
(Err fault) >>= f = Err fault

-- Tokens.

abbrev pub is_kind : Token → Token → Bool
is_kind kinds.Word kinds.Word = true
is_kind kinds.Text kinds.Text = true
is_kind kinds.Number kinds.Number = true
is_kind kinds.Open kinds.Open = true
is_kind kinds.Close kinds.Close = true
is_kind kinds.Comma kinds.Comma = true
is_kind kinds.End kinds.End = true
is_kind _ _ = false

abbrev pub bytes_at : List ℕ → Lexeme → List ℕ
bytes_at whole token = slice_range whole token.start token.end

abbrev pub is_token : Token → List ℕ → Lexeme → Bool
is_token kind whole token = is_kind kind token.kind

-- the token is this word, or this number, byte for byte
abbrev pub is_exact : Token → List ℕ → List ℕ → Lexeme → Bool
is_exact kind bytes whole token = is_kind kind token.kind && pointwise nat_eq (bytes_at whole token) bytes

abbrev pub is_numbers : List ℕ → Lexeme → Bool
is_numbers whole token = is_exact kinds.Word (codes "R") whole token || is_exact kinds.Word (codes "D") whole token

abbrev pub begins_entry : List ℕ → Lexeme → Bool
begins_entry whole token =
    is_exact kinds.Word (codes "c") whole token || (is_exact kinds.Word (codes "p") whole token
    || is_exact kinds.Word (codes "t") whole token)

-- A token that can't be taken: at the end, the end; else the token itself.
abbrev pub unfit : Lexeme → FileFault
unfit token = if is_kind kinds.End token.kind then UnexpectedEnd else Syntax token.start

abbrev pub token_if : (Lexeme → Bool) → Result Lexeme LexFault → Result Lexeme FileFault
token_if test (Ok token) = if test token then Ok token else Err (unfit token)
token_if test (Err (lexing.Syntax at)) = Err (Syntax at)
token_if test (Err (lexing.Unclosed at)) = Err UnexpectedEnd

-- the token from the offset `at` on, if it passes the test
unfoldable pub token_where : (Lexeme → Bool) → List ℕ → ℕ → Result Lexeme FileFault
token_where test whole at = token_if test (next_from whole at)

abbrev pub is_byte : ℕ → Option ℕ → Bool
is_byte byte (Some b) = nat_eq b byte
is_byte byte None = false

-- the next byte that isn't white space is this one
unfoldable pub next_is : ℕ → List ℕ → ℕ → Bool
next_is byte whole at = is_byte byte (byte_from whole at)

-- The bytes by which an optional part or the end of a list is seen.

abbrev pub mark : ℕ
mark = 34

abbrev pub open_byte : ℕ
open_byte = 123

abbrev pub close_byte : ℕ
close_byte = 125

abbrev pub comma_byte : ℕ
comma_byte = 44

-- Texts and numbers.

-- the bytes that a text token stands for
abbrev pub token_text : List ℕ → Lexeme → List ℕ
token_text whole token = unescaped (slice_range whole (token.start + 1) (token.end - 1))

unfoldable pub text_at : List ℕ → ℕ → Result (List ℕ × ℕ) FileFault
text_at whole at = do
  token ← token_where (is_token kinds.Text whole) whole at
  Ok (token_text whole token, token.end)

-- a text, if one comes
unfoldable pub name_at : List ℕ → ℕ → Result (Option (List ℕ) × ℕ) FileFault
name_at whole at =
    if next_is mark whole at then (text_at whole at >>= λ text. Ok (Some text.0, text.1)) else Ok (None, at)

-- the number of a token, or its fault
abbrev pub number_or_fault : {A : Type 0} → Lexeme → Result A NumberFault → Result (A × ℕ) FileFault
number_or_fault token (Ok n) = Ok (n, token.end)
number_or_fault token (Err fault) = Err (Number token.start fault)

abbrev pub number_at : {A : Type 0} → (List ℕ → Result A NumberFault) → List ℕ → ℕ → Result (A × ℕ) FileFault
number_at read whole at = token_where (is_token kinds.Number whole) whole at >>= λ token. number_or_fault token
    (read (bytes_at whole token))

unfoldable pub literal_at : List ℕ → ℕ → Result (Fraction × ℕ) FileFault
literal_at whole at = number_at read_as_literal whole at

unfoldable pub whole_at : List ℕ → ℕ → Result (ℕ × ℕ) FileFault
whole_at whole at = number_at read_as_whole whole at

-- 0 is out of range
abbrev pub from_one : Result ℕ NumberFault → Result ℕ NumberFault
from_one (Ok zero) = Err Range
from_one (Ok (suc n)) = Ok (suc n)
from_one (Err fault) = Err fault

unfoldable pub read_as_set : List ℕ → Result ℕ NumberFault
read_as_set bytes = from_one (read_as_whole bytes)

unfoldable pub set_number_at : List ℕ → ℕ → Result (ℕ × ℕ) FileFault
set_number_at whole at = number_at read_as_set whole at

-- Lists. Each item has a byte at least, so a list has no more items than the file has bytes.

-- the probability of an action, where chance moves
abbrev pub chance_at : EntryKind → List ℕ → ℕ → Result (Fraction × ℕ) FileFault
chance_at Chance whole at = literal_at whole at
chance_at Personal whole at = Ok (zero_fraction, at)
chance_at Leaf whole at = Ok (zero_fraction, at)

unfoldable pub action_at : EntryKind → List ℕ → ℕ → Result (Action × ℕ) FileFault
action_at kind whole at = do
  name ← text_at whole at
  chance ← chance_at kind whole name.1
  Ok (record { name = name.0; chance = chance.0 }, chance.1)

unfoldable pub close_at : {A : Type 0} → A → List ℕ → ℕ → Result (A × ℕ) FileFault
close_at value whole at = token_where (is_token kinds.Close whole) whole at >>= λ token. Ok (value, token.end)

-- the actions up to the closing brace, behind those that are done, where so many items may come
unfoldable pub actions_from : EntryKind → ℕ → List Action → List ℕ → ℕ → Result (List Action × ℕ) FileFault
actions_from kind zero done whole at = Err UnexpectedEnd
actions_from kind (suc left) done whole at =
    if next_is close_byte whole at then close_at done whole at
    else (action_at kind whole at >>= λ action. actions_from kind left (done ++ action.0 ∷ []) whole action.1)

-- a list of actions, if one comes
unfoldable pub actions_at : EntryKind → List ℕ → ℕ → Result (Option (List Action) × ℕ) FileFault
actions_at kind whole at =
    if next_is open_byte whole at then (do
      opening ← token_where (is_token kinds.Open whole) whole at
      actions ← actions_from kind (length whole) [] whole opening.end
      Ok (Some actions.0, actions.1))
    else Ok (None, at)

-- between two payoffs a comma may stand
abbrev pub comma_at : List Fraction → List ℕ → ℕ → Result ℕ FileFault
comma_at [] whole at = Ok at
comma_at (_ ∷ _) whole at =
    if next_is comma_byte whole at then (token_where (is_token kinds.Comma whole) whole at >>= λ token. Ok token.end)
    else Ok at

unfoldable pub payoff_at : List Fraction → List ℕ → ℕ → Result (Fraction × ℕ) FileFault
payoff_at done whole at = comma_at done whole at >>= λ start. literal_at whole start

unfoldable pub payoffs_from : ℕ → List Fraction → List ℕ → ℕ → Result (List Fraction × ℕ) FileFault
payoffs_from zero done whole at = Err UnexpectedEnd
payoffs_from (suc left) done whole at =
    if next_is close_byte whole at then close_at done whole at
    else (payoff_at done whole at >>= λ payoff. payoffs_from left (done ++ payoff.0 ∷ []) whole payoff.1)

unfoldable pub payoffs_at : List ℕ → ℕ → Result (Option (List Fraction) × ℕ) FileFault
payoffs_at whole at =
    if next_is open_byte whole at then (do
      opening ← token_where (is_token kinds.Open whole) whole at
      payoffs ← payoffs_from (length whole) [] whole opening.end
      Ok (Some payoffs.0, payoffs.1))
    else Ok (None, at)

-- Entries.

unfoldable pub set_mention_at : EntryKind → List ℕ → ℕ → Result (SetMention × ℕ) FileFault
set_mention_at kind whole at = do
  number ← set_number_at whole at
  name ← name_at whole number.1
  actions ← actions_at kind whole name.1
  Ok (record { number = number.0; name = name.0; actions = actions.0 }, actions.1)

unfoldable pub outcome_mention_at : List ℕ → ℕ → Result (OutcomeMention × ℕ) FileFault
outcome_mention_at whole at = do
  number ← whole_at whole at
  name ← name_at whole number.1
  payoffs ← payoffs_at whole name.1
  Ok (record { number = number.0; name = name.0; payoffs = payoffs.0 }, payoffs.1)

-- each behind its word
unfoldable pub chance_entry_at : List ℕ → ℕ → Result (Record × ℕ) FileFault
chance_entry_at whole at = do
  name ← text_at whole at
  set ← set_mention_at Chance whole name.1
  outcome ← outcome_mention_at whole set.1
  Ok (record { kind = Chance; name = name.0; player = 0; set = set.0; outcome = outcome.0 }, outcome.1)

unfoldable pub personal_entry_at : List ℕ → ℕ → Result (Record × ℕ) FileFault
personal_entry_at whole at = do
  name ← text_at whole at
  player ← whole_at whole name.1
  set ← set_mention_at Personal whole player.1
  outcome ← outcome_mention_at whole set.1
  Ok (record { kind = Personal; name = name.0; player = player.0; set = set.0; outcome = outcome.0 }, outcome.1)

unfoldable pub terminal_entry_at : List ℕ → ℕ → Result (Record × ℕ) FileFault
terminal_entry_at whole at = do
  name ← text_at whole at
  outcome ← outcome_mention_at whole name.1
  Ok (record { kind = Leaf; name = name.0; player = 0; set = no_set_mention; outcome = outcome.0 }, outcome.1)

abbrev pub entry_behind : List ℕ → Lexeme → Result (Record × ℕ) FileFault
entry_behind whole head =
    if is_exact kinds.Word (codes "c") whole head then chance_entry_at whole head.end
    else (if is_exact kinds.Word (codes "p") whole head then personal_entry_at whole head.end
    else terminal_entry_at whole head.end)

unfoldable pub entry_at : List ℕ → ℕ → Result (Record × ℕ) FileFault
entry_at whole at = token_where (begins_entry whole) whole at >>= λ head. entry_behind whole head

-- The prologue.

unfoldable pub names_from : ℕ → List (List ℕ) → List ℕ → ℕ → Result (List (List ℕ) × ℕ) FileFault
names_from zero done whole at = Err UnexpectedEnd
names_from (suc left) done whole at =
    if next_is close_byte whole at then close_at done whole at
    else (text_at whole at >>= λ text. names_from left (done ++ text.0 ∷ []) whole text.1)

-- other than two players are a fault
abbrev pub checked_names : List (List ℕ) → ℕ → Result ℕ FileFault
checked_names names at = if nat_eq (length names) 2 then Ok at else Err (Players (length names))

abbrev pub nth_name : List (List ℕ) → ℕ → List ℕ
nth_name names i = slice_index_or names i []

-- what the head says: the title, and the players' names
abbrev pub PrologueHead : Type 0
PrologueHead = List ℕ × List (List ℕ)

unfoldable pub head_at : List ℕ → ℕ → Result (PrologueHead × ℕ) FileFault
head_at whole at = do
  marker ← token_where (is_exact kinds.Word (codes "EFG") whole) whole at
  version ← token_where (is_exact kinds.Number (codes "2") whole) whole marker.end
  numbers ← token_where (is_numbers whole) whole version.end
  title ← text_at whole numbers.end
  opening ← token_where (is_token kinds.Open whole) whole title.1
  names ← names_from (length whole) [] whole opening.end
  Ok ((title.0, names.0), names.1)

-- two players, and the comment
unfoldable pub behind_head : List ℕ → PrologueHead × ℕ → Result (Prologue × ℕ) FileFault
behind_head whole head = do
  behind ← checked_names head.0.1 head.1
  comment ← name_at whole behind
  Ok (
    record {
      title = head.0.0;
      one = nth_name head.0.1 0;
      two = nth_name head.0.1 1;
      comment = unwrap_or comment.0 [];
    },
    comment.1,
  )

unfoldable pub prologue_at : List ℕ → ℕ → Result (Prologue × ℕ) FileFault
prologue_at whole at = head_at whole at >>= behind_head whole

-- The whole file.

-- the contents with an entry, unless that has a fault
abbrev pub unless_fault : Option FileFault → Contents → Result Contents FileFault
unless_fault None contents = Ok contents
unless_fault (Some fault) contents = Err fault

unfoldable pub judged : Contents → Record → Result Contents FileFault
judged contents r = unless_fault (record_fault contents r) (with_record contents r)

-- entries until the tree is whole, of which so many may still come
unfoldable pub entries_from : ℕ → Contents → List ℕ → ℕ → Result (Contents × ℕ) FileFault
entries_from zero contents whole at = Err TooManyNodes
entries_from (suc left) contents whole at =
    if nat_eq (wanted 1 contents.nodes) 0 then Ok (contents, at)
    else (entry_at whole at >>= λ entry. judged contents entry.0 >>= λ next. entries_from left next whole entry.1)

-- whatever stands behind the last entry
abbrev pub trailing : Result Lexeme LexFault → Result ℕ FileFault
trailing (Ok token) = if is_kind kinds.End token.kind then Ok token.end else Err (TrailingText token.start)
trailing (Err (lexing.Syntax at)) = Err (TrailingText at)
trailing (Err (lexing.Unclosed at)) = Err (TrailingText at)

unfoldable pub nothing_at : List ℕ → ℕ → Result ℕ FileFault
nothing_at whole at = trailing (next_from whole at)

unfoldable pub game_at : List ℕ → Result GameFile FileFault
game_at whole = do
  prologue ← prologue_at whole 0
  entries ← entries_from (most_nodes + 1) no_contents whole prologue.1
  end ← nothing_at whole entries.1
  Ok (game_with prologue.0 entries.0)
