-- The test of a token that is wanted at a place.
use Rattle.std.specs.Prelude.{ℕ, Bool, List, codes}
use Rattle.def_file_tokens.specs.declared.Token.TheVariants as kinds
use Rattle.def_file_tokens.specs.declared.Lexeme.{Lexeme}
use Rattle.def_file.specs.Reading.{is_token, is_exact, is_numbers, begins_entry}
use Rattle.xg_read.specs.declared.wanted.Wanted.{Wanted}
use Rattle.xg_read.specs.declared.wanted.Wanted.TheVariants as wants

abbrev pub test_of : Wanted → List ℕ → Lexeme → Bool
test_of wants.Marker whole = is_exact kinds.Word (codes "EFG") whole
test_of wants.Version whole = is_exact kinds.Number (codes "2") whole
test_of wants.Numbers whole = is_numbers whole
test_of wants.Text whole = is_token kinds.Text whole
test_of wants.Number whole = is_token kinds.Number whole
test_of wants.Open whole = is_token kinds.Open whole
test_of wants.Close whole = is_token kinds.Close whole
test_of wants.Comma whole = is_token kinds.Comma whole
test_of wants.Head whole = begins_entry whole
