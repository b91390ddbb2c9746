-- Texts of version 1 that are known from outside, as lists of lines, and certificates whose text they are.
use Rattle.std.specs.Prelude.{ℕ, ◌-◌, List, [], ◌∷◌, ◌++◌, codes, slice_set}
use Rattle.def_cert_verdict.specs.Certificate.{Certificate}
use Rattle.def_cert_verdict.specs.Laws.{with_bounds}
use Rattle.def_cert_verdict.specs.Pennies.{pennies_head, pennies_bounds}

abbrev pub text_of_lines : List (List ℕ) → List ℕ
text_of_lines [] = []
text_of_lines (line ∷ lines) = line ++ 10 ∷ text_of_lines lines

abbrev pub pennies_lines : List (List ℕ)
pennies_lines =
    codes "XGCERT 1"
    ∷ codes "nodes 7 leaves 4"
    ∷ codes "sets 1 1"
    ∷ codes "sequences 3 3"
    ∷ codes "unit 1"
    ∷ codes "mass 4"
    ∷ codes "rounds 1 every 1 scale 1048576"
    ∷ codes "trace 1 1 0 1 0"
    ∷ codes "plan 1 1048576"
    ∷ codes "weights 1 524288 524288"
    ∷ codes "reply 2 0"
    ∷ codes "value 1 0 1"
    ∷ codes "plan 2 1048576"
    ∷ codes "weights 1 524288 524288"
    ∷ codes "reply 1 0"
    ∷ codes "value 1 0 1"
    ∷ codes "bracket 0 0"
    ∷ codes "end"
    ∷ []

abbrev pub pennies_certificate : Certificate
pennies_certificate = with_bounds pennies_head pennies_bounds

-- its text with one line changed; lines count from 1
abbrev pub with_line : ℕ → List ℕ → List ℕ
with_line k line = text_of_lines (slice_set pennies_lines (k - 1) line)

abbrev pub one_mover_lines : List (List ℕ)
one_mover_lines =
    codes "XGCERT 1"
    ∷ codes "nodes 3 leaves 2"
    ∷ codes "sets 1 0"
    ∷ codes "sequences 3 1"
    ∷ codes "unit 1"
    ∷ codes "mass 1"
    ∷ codes "rounds 2 every 1 scale 1048576"
    ∷ codes "trace 1 1 524288 1 1048576"
    ∷ codes "trace 2 2 1572864 1 1048576"
    ∷ codes "plan 1 2097152"
    ∷ codes "weights 1 1572864 524288"
    ∷ codes "reply 2 1572864"
    ∷ codes "plan 2 1048576"
    ∷ codes "reply 1 1048576"
    ∷ codes "value 1 1048576 1"
    ∷ codes "bracket 3/4 1"
    ∷ codes "end"
    ∷ []

abbrev pub scale_one_lines : List (List ℕ)
scale_one_lines =
    codes "XGCERT 1"
    ∷ codes "nodes 7 leaves 4"
    ∷ codes "sets 1 1"
    ∷ codes "sequences 3 3"
    ∷ codes "unit 1"
    ∷ codes "mass 4"
    ∷ codes "rounds 2 every 1 scale 1"
    ∷ codes "trace 1 1 -1 1 1"
    ∷ codes "trace 2 1 -1 2 0"
    ∷ codes "plan 1 1"
    ∷ codes "weights 1 0 1"
    ∷ codes "reply 2 -1"
    ∷ codes "value 1 -1 1"
    ∷ codes "plan 2 2"
    ∷ codes "weights 1 1 1"
    ∷ codes "reply 1 0"
    ∷ codes "value 1 0 1"
    ∷ codes "bracket -1 0"
    ∷ codes "end"
    ∷ []

abbrev pub kuhn_lines : List (List ℕ)
kuhn_lines =
    codes "XGCERT 1"
    ∷ codes "nodes 58 leaves 30"
    ∷ codes "sets 6 6"
    ∷ codes "sequences 13 13"
    ∷ codes "unit 6"
    ∷ codes "mass 42"
    ∷ codes "rounds 1 every 1 scale 1048576"
    ∷ codes "trace 1 1 -2621440 1 3145728"
    ∷ codes "plan 1 1048576"
    ∷ codes "weights 1 524288 524288"
    ∷ codes "weights 2 262144 262144"
    ∷ codes "weights 3 524288 524288"
    ∷ codes "weights 4 262144 262144"
    ∷ codes "weights 5 524288 524288"
    ∷ codes "weights 6 262144 262144"
    ∷ codes "reply 2 -2621440"
    ∷ codes "value 1 -524288 2"
    ∷ codes "value 2 0 2"
    ∷ codes "value 3 -1572864 2"
    ∷ codes "value 4 -2097152 2"
    ∷ codes "value 5 524288 2"
    ∷ codes "value 6 1048576 1"
    ∷ codes "plan 2 1048576"
    ∷ codes "weights 1 524288 524288"
    ∷ codes "weights 2 524288 524288"
    ∷ codes "weights 3 524288 524288"
    ∷ codes "weights 4 524288 524288"
    ∷ codes "weights 5 524288 524288"
    ∷ codes "weights 6 524288 524288"
    ∷ codes "reply 1 3145728"
    ∷ codes "value 1 -1048576 2"
    ∷ codes "value 2 -1048576 1"
    ∷ codes "value 3 1048576 2"
    ∷ codes "value 4 0 2"
    ∷ codes "value 5 3145728 1"
    ∷ codes "value 6 2097152 2"
    ∷ codes "bracket -5/12 1/2"
    ∷ codes "end"
    ∷ []
