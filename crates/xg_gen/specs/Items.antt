-- Tokens as data, and the pieces of a text that they are.
use Rattle.std.specs.Prelude.{List, [], ◌∷◌, option_map}
use Rattle.def_file_tokens.specs.declared.Token.TheVariants as kinds
use Rattle.def_file_tokens.specs.Spelling.{Piece}
use Rattle.def_canon.specs.Canon.{close_piece, comma_piece, fraction, letter, marker_pieces, name_pieces, on_new_line}
use Rattle.def_canon.specs.Canon.{open_piece, player_pieces, quoted, text_piece, whole_piece}
use Rattle.xg_gen.specs.declared.items.Mark as marks
use Rattle.xg_gen.specs.declared.items.Mark.TheVariants.{First, Open, Close, Comma, Letter}
use Rattle.xg_gen.specs.declared.items.Item as items
use Rattle.xg_gen.specs.declared.items.Item.TheVariants.{Mark, Number, Fraction, Text, Line, Name, Mover}

abbrev pub mark_pieces : marks.Mark → List Piece
mark_pieces First = marker_pieces
mark_pieces Open = open_piece ∷ []
mark_pieces Close = close_piece ∷ []
mark_pieces Comma = comma_piece ∷ []
mark_pieces (Letter kind) = letter kind ∷ []

abbrev pub item_pieces : items.Item → List Piece
item_pieces (Mark mark) = mark_pieces mark
item_pieces (Number n) = whole_piece n ∷ []
item_pieces (Fraction f) = fraction f ∷ []
item_pieces (Text bytes) = text_piece bytes.now ∷ []
item_pieces (Line bytes) = on_new_line kinds.Text (quoted bytes.now) ∷ []
item_pieces (Name name) = name_pieces (option_map (λ b. b.now) name)
item_pieces (Mover kind) = player_pieces kind
