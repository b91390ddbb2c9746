-- The form of a game file, by its tokens (Gambit's manual, "The extensive game (.efg) file format", in this project's
-- profile).
--     Spelled                            a token's kind and its bytes
--     IsText bytes tokens rest           some tokens are a text that stands for these bytes, and then the rest
--     IsPrologue p tokens rest           they are the prologue, and then the rest
--     IsEntry r tokens rest              they are an entry that says this, and then the rest
--     IsFile bytes p rs                  the bytes are a file with this prologue and these entries
use Rattle.std.specs.Prelude.{◌≡◌, ℕ, ◌≤◌, ◌⊎◌, List, [], ◌∷◌, ◌++◌, map, codes, unwrap_or, IsTrue, Option, Some, None}
use Rattle.def_file_tokens.specs.declared.Token.{Token}
use Rattle.def_file_tokens.specs.declared.Token.TheVariants as kinds
use Rattle.def_file_tokens.specs.declared.Lexeme.{Lexeme}
use Rattle.def_file_tokens.specs.Spelling.{Piece, ArePieces, bytes_of}
use Rattle.def_file_tokens.specs.Texts.{IsInside, unescaped}
use Rattle.def_fraction.specs.Digits.{is_numeral, number_of}
use Rattle.def_fraction.specs.Fraction.{Fraction, most, zero_fraction}
use Rattle.def_fraction.specs.Literal.{IsLiteralOf}
use Rattle.def_tree.specs.Tree.{IsWhole}
use Rattle.def_file.specs.declared.EntryKind.{EntryKind}
use Rattle.def_file.specs.declared.EntryKind.TheVariants.{Chance, Personal, Leaf}
use Rattle.def_file.specs.Content.{Prologue, Action, SetMention, OutcomeMention, Record, no_set_mention}
use Rattle.def_file.specs.Reading.{bytes_at}
use Rattle.def_file.specs.Entries.{contents_of}

-- a token's kind and its bytes
pub record Spelled : Type 0 where
  pub kind : Token
  pub bytes : List ℕ

abbrev pub spelled : Piece → Spelled
spelled piece = record { kind = piece.kind; bytes = piece.bytes }

-- a token as it is spelled in these bytes
abbrev pub spelled_at : List ℕ → Lexeme → Spelled
spelled_at bytes token = record { kind = token.kind; bytes = bytes_at bytes token }

abbrev pub word : List ℕ → Spelled
word bytes = record { kind = kinds.Word; bytes = bytes }

abbrev pub number : List ℕ → Spelled
number bytes = record { kind = kinds.Number; bytes = bytes }

-- a text with this inside
abbrev pub text : List ℕ → Spelled
text inside = record { kind = kinds.Text; bytes = 34 ∷ (inside ++ 34 ∷ []) }

abbrev pub open_brace : Spelled
open_brace = record { kind = kinds.Open; bytes = codes "{" }

abbrev pub close_brace : Spelled
close_brace = record { kind = kinds.Close; bytes = codes "}" }

abbrev pub comma : Spelled
comma = record { kind = kinds.Comma; bytes = codes "," }

-- Each of what follows says that some tokens are a part of a file, and then `rest`.

-- a text that stands for these bytes
pub record IsText (bytes : List ℕ) (tokens rest : List Spelled) : Type 0 where
  pub inside : List ℕ
  pub is_inside : IsInside inside
  pub stands_for : bytes ≡ unescaped inside
  pub spelling : tokens ≡ text inside ∷ rest

-- a text, or nothing
abbrev pub IsName : Option (List ℕ) → List Spelled → List Spelled → Type 0
IsName None tokens rest = tokens ≡ rest
IsName (Some bytes) tokens rest = IsText bytes tokens rest

-- digits that write this number, which is within the limit
pub record IsWholeNumber (n : ℕ) (tokens rest : List Spelled) : Type 0 where
  pub digits : List ℕ
  pub numeral : IsTrue (is_numeral digits)
  pub value : number_of digits ≡ n
  pub limit : n ≤ most
  pub spelling : tokens ≡ number digits ∷ rest

-- a literal of this value
pub record IsFraction (f : Fraction) (tokens rest : List Spelled) : Type 0 where
  pub bytes : List ℕ
  pub literal : IsLiteralOf bytes f
  pub spelling : tokens ≡ number bytes ∷ rest

-- the probability of an action: a literal where chance moves, and else nothing
abbrev pub IsChance : EntryKind → Fraction → List Spelled → List Spelled → Type 0
IsChance Chance f tokens rest = IsFraction f tokens rest
IsChance Personal f tokens rest = (f ≡ zero_fraction) × (tokens ≡ rest)
IsChance Leaf f tokens rest = (f ≡ zero_fraction) × (tokens ≡ rest)

-- actions up to the closing brace
abbrev pub AreActionsUpTo : EntryKind → List Action → List Spelled → List Spelled → Type 0
AreActionsUpTo kind [] tokens rest = tokens ≡ close_brace ∷ rest
AreActionsUpTo kind (a ∷ more) tokens rest =
    (named done : List Spelled) × IsText a.name tokens named × IsChance kind a.chance named done
    × AreActionsUpTo kind more done rest

-- a list of actions in braces, or nothing
abbrev pub IsActionList : EntryKind → Option (List Action) → List Spelled → List Spelled → Type 0
IsActionList kind None tokens rest = tokens ≡ rest
IsActionList kind (Some actions) tokens rest = (opened : List Spelled) × (tokens ≡ open_brace ∷ opened)
    × AreActionsUpTo kind actions opened rest

-- payoffs behind the first up to the closing brace, each with at most one comma before it
abbrev pub AreMorePayoffs : List Fraction → List Spelled → List Spelled → Type 0
AreMorePayoffs [] tokens rest = tokens ≡ close_brace ∷ rest
AreMorePayoffs (f ∷ fs) tokens rest =
    (parted done : List Spelled) × ((tokens ≡ parted) ⊎ (tokens ≡ comma ∷ parted)) × IsFraction f parted done
    × AreMorePayoffs fs done rest

abbrev pub ArePayoffs : List Fraction → List Spelled → List Spelled → Type 0
ArePayoffs [] tokens rest = tokens ≡ close_brace ∷ rest
ArePayoffs (f ∷ fs) tokens rest = (done : List Spelled) × IsFraction f tokens done × AreMorePayoffs fs done rest

-- a list of payoffs in braces, or nothing
abbrev pub IsPayoffList : Option (List Fraction) → List Spelled → List Spelled → Type 0
IsPayoffList None tokens rest = tokens ≡ rest
IsPayoffList (Some fs) tokens rest = (opened : List Spelled) × (tokens ≡ open_brace ∷ opened)
    × ArePayoffs fs opened rest

-- a set's number, which isn't 0, and then its name and its actions, where they are given
pub record IsSet (kind : EntryKind) (m : SetMention) (tokens rest : List Spelled) : Type 0 where
  pub numbered : List Spelled
  pub named : List Spelled
  pub number : IsWholeNumber m.number tokens numbered
  pub from_one : 1 ≤ m.number
  pub name : IsName m.name numbered named
  pub actions : IsActionList kind m.actions named rest

-- an outcome's number, and then its name and its payoffs, where they are given
pub record IsOutcome (m : OutcomeMention) (tokens rest : List Spelled) : Type 0 where
  pub numbered : List Spelled
  pub named : List Spelled
  pub number : IsWholeNumber m.number tokens numbered
  pub name : IsName m.name numbered named
  pub payoffs : IsPayoffList m.payoffs named rest

-- `c`, the name, the set and the outcome
pub record IsChanceEntry (r : Record) (tokens rest : List Spelled) : Type 0 where
  pub headed : List Spelled
  pub named : List Spelled
  pub placed : List Spelled
  pub head : tokens ≡ word (codes "c") ∷ headed
  pub name : IsText r.name headed named
  pub no_player : r.player ≡ 0
  pub set : IsSet Chance r.set named placed
  pub outcome : IsOutcome r.outcome placed rest

-- `p`, the name, the player's number, the set and the outcome
pub record IsPersonalEntry (r : Record) (tokens rest : List Spelled) : Type 0 where
  pub headed : List Spelled
  pub named : List Spelled
  pub moved : List Spelled
  pub placed : List Spelled
  pub head : tokens ≡ word (codes "p") ∷ headed
  pub name : IsText r.name headed named
  pub player : IsWholeNumber r.player named moved
  pub set : IsSet Personal r.set moved placed
  pub outcome : IsOutcome r.outcome placed rest

-- `t`, the name and the outcome
pub record IsTerminalEntry (r : Record) (tokens rest : List Spelled) : Type 0 where
  pub headed : List Spelled
  pub named : List Spelled
  pub head : tokens ≡ word (codes "t") ∷ headed
  pub name : IsText r.name headed named
  pub no_player : r.player ≡ 0
  pub no_set : r.set ≡ no_set_mention
  pub outcome : IsOutcome r.outcome named rest

abbrev pub IsEntryAs : EntryKind → Record → List Spelled → List Spelled → Type 0
IsEntryAs Chance r tokens rest = IsChanceEntry r tokens rest
IsEntryAs Personal r tokens rest = IsPersonalEntry r tokens rest
IsEntryAs Leaf r tokens rest = IsTerminalEntry r tokens rest

abbrev pub IsEntry : Record → List Spelled → List Spelled → Type 0
IsEntry r tokens rest = IsEntryAs r.kind r tokens rest

-- entries one after another, and nothing behind them
abbrev pub AreEntries : List Record → List Spelled → Type 0
AreEntries [] tokens = tokens ≡ []
AreEntries (r ∷ rs) tokens = (done : List Spelled) × IsEntry r tokens done × AreEntries rs done

-- texts up to the closing brace
abbrev pub AreNames : List (List ℕ) → List Spelled → List Spelled → Type 0
AreNames [] tokens rest = tokens ≡ close_brace ∷ rest
AreNames (bytes ∷ names) tokens rest = (named : List Spelled) × IsText bytes tokens named × AreNames names named rest

-- `EFG 2 R`, or `D`, the title, and so many players' names in braces
pub record IsHead (title : List ℕ) (names : List (List ℕ)) (tokens rest : List Spelled) : Type 0 where
  pub headed : List Spelled
  pub titled : List Spelled
  pub opened : List Spelled
  pub numbers : Spelled
  pub rational : (numbers ≡ word (codes "R")) ⊎ (numbers ≡ word (codes "D"))
  pub head : tokens ≡ word (codes "EFG") ∷ number (codes "2") ∷ numbers ∷ headed
  pub title_text : IsText title headed titled
  pub brace : titled ≡ open_brace ∷ opened
  pub name_texts : AreNames names opened rest

-- two players, and a comment; an absent comment is the empty text
pub record IsPrologue (p : Prologue) (tokens rest : List Spelled) : Type 0 where
  pub behind : List Spelled
  pub comment : Option (List ℕ)
  pub head : IsHead p.title (p.one ∷ p.two ∷ []) tokens behind
  pub remark : IsName comment behind rest
  pub text : p.comment ≡ unwrap_or comment []

-- white space and tokens in turn, which are a prologue and the entries of one tree
pub record IsFile (bytes : List ℕ) (p : Prologue) (rs : List Record) : Type 0 where
  pub pieces : List Piece
  pub space : List ℕ
  pub in_turn : ArePieces pieces space
  pub spelling : bytes ≡ bytes_of pieces space
  pub behind : List Spelled
  pub prologue : IsPrologue p (map spelled pieces) behind
  pub entries : AreEntries rs behind
  pub whole : IsWhole (contents_of rs).nodes
