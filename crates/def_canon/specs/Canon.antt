-- The canonical form of a game: the file with one line for each node, in which each mention of a set and of an outcome
-- has its whole description (Gambit's manual, "The extensive game (.efg) file format", in this project's profile).
--     text_of pieces                    the bytes of tokens, each behind its white space
--     set_pieces, outcome_pieces        the description of a set and of an outcome
--     node_pieces                       the line of a node
--     prologue_pieces, lines_pieces     the first two lines, and the lines of all nodes
--     canon game                        the whole file
-- Tokens of a line have one space between them, but for the comma, which has a space behind it alone.
use Rattle.std.specs.Prelude.{ℕ, ◌-◌, nat_eq, if◌then◌else◌, List, [], ◌∷◌, ◌++◌, codes, Option, Some, None}
use Rattle.std.specs.List.{zip}
use Rattle.std.specs.Fmt.{decimal}
use Rattle.def_file_tokens.specs.declared.Token.{Token}
use Rattle.def_file_tokens.specs.declared.Token.TheVariants as kinds
use Rattle.def_file_tokens.specs.Spelling.{Piece, bytes_of}
use Rattle.def_file_tokens.specs.Texts.{escaped}
use Rattle.def_fraction.specs.Fraction.{Fraction}
use Rattle.def_fraction.specs.Text.{fraction_text}
use Rattle.def_tree.specs.declared.Kind.{Kind}
use Rattle.def_tree.specs.declared.Kind.TheVariants.{Chance, One, Two, Leaf}
use Rattle.def_tree.specs.declared.Node.{Node}
use Rattle.def_tree.specs.Tree.{prefix}
use Rattle.def_file.specs.Content.{Prologue, Action, SetEntry, OutcomeEntry, SetTables, GameFile, sets_of_kind}
use Rattle.def_file.specs.Faults.{set_at, outcome_at}

-- the bytes of tokens, each behind its white space
unfoldable pub text_of_pieces : List Piece → List ℕ
text_of_pieces pieces = bytes_of pieces []

-- the tokens of several things, one after another
unfoldable pub each : {A : Type 0} → (A → List Piece) → List A → List Piece
each pieces [] = []
each pieces (x ∷ xs) = pieces x ++ each pieces xs

-- Tokens.

abbrev pub behind : List ℕ → Token → List ℕ → Piece
behind space kind bytes = record { space = space; kind = kind; bytes = bytes }

-- a token behind one space
abbrev pub spaced : Token → List ℕ → Piece
spaced kind bytes = behind (codes " ") kind bytes

-- the first token of a line
abbrev pub on_new_line : Token → List ℕ → Piece
on_new_line kind bytes = behind (codes "\n") kind bytes

-- bytes as a text: between quotation marks, with a backslash in front of each quotation mark among them
unfoldable pub quoted : List ℕ → List ℕ
quoted bytes = 34 ∷ (escaped bytes ++ 34 ∷ [])

abbrev pub text_piece : List ℕ → Piece
text_piece bytes = spaced kinds.Text (quoted bytes)

abbrev pub whole_piece : ℕ → Piece
whole_piece n = spaced kinds.Number (decimal n)

abbrev pub fraction : Fraction → Piece
fraction f = spaced kinds.Number (fraction_text f)

abbrev pub open_piece : Piece
open_piece = spaced kinds.Open (codes "{")

abbrev pub close_piece : Piece
close_piece = spaced kinds.Close (codes "}")

abbrev pub comma_piece : Piece
comma_piece = behind [] kinds.Comma (codes ",")

-- Sets and outcomes.

-- a name that was never given is left out
unfoldable pub name_pieces : Option (List ℕ) → List Piece
name_pieces None = []
name_pieces (Some name) = text_piece name ∷ []

-- the probability of an action, where chance moves
unfoldable pub chance_pieces : Kind → Fraction → List Piece
chance_pieces Chance f = fraction f ∷ []
chance_pieces One f = []
chance_pieces Two f = []
chance_pieces Leaf f = []

unfoldable pub action_pieces : Kind → Action → List Piece
action_pieces kind a = text_piece a.name ∷ chance_pieces kind a.chance

unfoldable pub list_pieces : Kind → List Action → List Piece
list_pieces kind actions = open_piece ∷ (each (action_pieces kind) actions ++ close_piece ∷ [])

-- a set of this kind: its number, its name and its actions
unfoldable pub set_pieces : Kind → SetEntry → List Piece
set_pieces kind entry = whole_piece entry.number ∷ (name_pieces entry.name ++ list_pieces kind entry.actions)

unfoldable pub payoffs_pieces : Fraction → Fraction → List Piece
payoffs_pieces one two = open_piece ∷ fraction one ∷ comma_piece ∷ fraction two ∷ close_piece ∷ []

-- an outcome: its number, its name and its payoffs
unfoldable pub described_outcome : OutcomeEntry → List Piece
described_outcome entry = whole_piece entry.number ∷ (name_pieces entry.name ++ payoffs_pieces entry.one entry.two)

-- outcomes count from 1; the null outcome is its number alone
unfoldable pub outcome_pieces : List OutcomeEntry → ℕ → List Piece
outcome_pieces outcomes n = if nat_eq n 0 then whole_piece 0 ∷ [] else described_outcome (outcome_at outcomes (n - 1))

-- Lines.

abbrev pub letter_of : Kind → List ℕ
letter_of Chance = codes "c"
letter_of One = codes "p"
letter_of Two = codes "p"
letter_of Leaf = codes "t"

abbrev pub letter : Kind → Piece
letter kind = on_new_line kinds.Word (letter_of kind)

-- the number of the player who moves
unfoldable pub player_pieces : Kind → List Piece
player_pieces Chance = []
player_pieces One = whole_piece 1 ∷ []
player_pieces Two = whole_piece 2 ∷ []
player_pieces Leaf = []

-- the set of a node, of which a leaf has none
unfoldable pub place_pieces : Kind → SetTables → ℕ → List Piece
place_pieces Leaf sets n = []
place_pieces kind sets n = set_pieces kind (set_at (sets_of_kind kind sets) (n - 1))

unfoldable pub node_pieces : SetTables → List OutcomeEntry → Node → List ℕ → List Piece
node_pieces sets outcomes node name =
    letter node.kind ∷ text_piece name
    ∷ (player_pieces node.kind ++ (place_pieces node.kind sets node.set ++ outcome_pieces outcomes node.outcome))

-- `EFG 2 R`
unfoldable pub marker_pieces : List Piece
marker_pieces = behind [] kinds.Word (codes "EFG") ∷ spaced kinds.Number (codes "2") ∷ spaced kinds.Word (codes "R")
    ∷ []

-- the title and the players' names, and the comment on a line of its own
unfoldable pub prologue_pieces : Prologue → List Piece
prologue_pieces p =
    marker_pieces ++ (text_piece p.title ∷ open_piece ∷ text_piece p.one ∷ text_piece p.two ∷ close_piece
    ∷ on_new_line kinds.Text (quoted p.comment) ∷ [])

-- nodes with their names
abbrev pub lines_pieces : SetTables → List OutcomeEntry → List (Node × List ℕ) → List Piece
lines_pieces sets outcomes lines = each (λ line. node_pieces sets outcomes line.0 line.1) lines

unfoldable pub game_pieces : GameFile → List Piece
game_pieces game = prologue_pieces game.prologue ++ lines_pieces game.sets game.outcomes
    (zip (prefix game.tree) game.names)

-- the whole file, with a line feed at its end
unfoldable pub canon : GameFile → List ℕ
canon game = bytes_of (game_pieces game) (codes "\n")
