-- Four files, seven certificates and a text of CFR+, and what the program writes of them.
--     files_told name     the bytes of the file of this name
use Rattle.std.specs.Prelude.{ℕ, if◌then◌else◌, List, [], ◌++◌, codes, Option, Some, None}
use Rattle.def_canon.specs.PokerRows.{two_cards}
use Rattle.def_command.specs.Words.{is_word}

-- ---- files

-- matching pennies, where player two's set and both outcomes come again by their numbers alone
abbrev pub pennies_file : List ℕ
pennies_file =
    codes "EFG 2 R \"Pennies\" { \"A\" \"B\" }\n"
    ++ codes "p \"\" 1 1 \"a\" { \"H\" \"T\" } 0\n"
    ++ codes "p \"\" 2 1 \"b\" { \"h\" \"t\" } 0\n"
    ++ codes "t \"\" 1 \"win\" { 1, -1 }\n"
    ++ codes "t \"\" 2 \"lose\" { -1, 1 }\n"
    ++ codes "p \"\" 2 1 0\n"
    ++ codes "t \"\" 2\n"
    ++ codes "t \"\" 1\n"

-- names with quotation marks, payoffs on the way, and a set that comes again; player one has one set of three actions,
-- and player two has two sets of two
abbrev pub quoted_file : List ℕ
quoted_file =
    codes "EFG 2 D \"In\\\"ner\" { \"A\\\"1\" \"B\" } \"re\\\"mark\"\n"
    ++ codes "p \"top\" 1 1 \"\" { \"x\" \"y\" \"z\" } 1 \"half\" { 1/2, -1/2 }\n"
    ++ codes "p \"\" 2 5 \"late\" { \"l\" \"r\" } 0\n"
    ++ codes "t \"\" 2 { .5, -.5 }\n"
    ++ codes "t \"\" 0\n"
    ++ codes "p \"\" 2 5 2\n"
    ++ codes "t \"end\" 1\n"
    ++ codes "t \"\" 0\n"
    ++ codes "p \"\" 2 3 { \"u\" \"v\" } 0\n"
    ++ codes "t \"\" 1\n"
    ++ codes "t \"\" 0\n"

-- the payoffs of the last leaf don't add up to what those of the first do
abbrev pub unfair_file : List ℕ
unfair_file =
    codes "EFG 2 R \"Sum\" { \"A\" \"B\" }\n"
    ++ codes "c \"\" 1 \"\" { \"g\" 0.5 \"b\" 0.5 } 0\n"
    ++ codes "p \"\" 1 1 \"\" { \"H\" \"L\" } 0\n"
    ++ codes "t \"\" 1 { 4, -4 }\n"
    ++ codes "t \"\" 2 { 0, 0 }\n"
    ++ codes "t \"\" 3 { 10.000000 2.000000 }\n"

-- ---- what is written

-- the canonical form, in which each set and each outcome has its whole description wherever it comes
abbrev pub quoted_canonically : List ℕ
quoted_canonically =
    codes "EFG 2 R \"In\\\"ner\" { \"A\\\"1\" \"B\" }\n"
    ++ codes "\"re\\\"mark\"\n"
    ++ codes "p \"top\" 1 1 \"\" { \"x\" \"y\" \"z\" } 1 \"half\" { 1/2, -1/2 }\n"
    ++ codes "p \"\" 2 5 \"late\" { \"l\" \"r\" } 0\n"
    ++ codes "t \"\" 2 { 1/2, -1/2 }\n"
    ++ codes "t \"\" 0\n"
    ++ codes "p \"\" 2 5 \"late\" { \"l\" \"r\" } 2 { 1/2, -1/2 }\n"
    ++ codes "t \"end\" 1 \"half\" { 1/2, -1/2 }\n"
    ++ codes "t \"\" 0\n"
    ++ codes "p \"\" 2 3 { \"u\" \"v\" } 0\n"
    ++ codes "t \"\" 1 \"half\" { 1/2, -1/2 }\n"
    ++ codes "t \"\" 0\n"

-- the payoffs on the way to a leaf add up: 1, 1/2, 3/2, 1, 1 and 1/2, so the unit is 2 and the mass 11
abbrev pub quoted_numbers : List ℕ
quoted_numbers =
    codes "title \"In\\\"ner\"\n"
    ++ codes "players \"A\\\"1\" \"B\"\n"
    ++ codes "nodes 10 leaves 6\n"
    ++ codes "sets 1 2\n"
    ++ codes "sequences 4 5\n"
    ++ codes "unit 2\n"
    ++ codes "mass 11\n"

-- ---- certificates, by the lines of the game's numbers and those behind

-- in version 1, of a game that pays nothing to both players together
abbrev pub in_one : List ℕ → List ℕ → List ℕ
in_one numbers played =
    codes "XGCERT 1\n"
    ++ numbers
    ++ played
    ++ codes "end\n"

-- and in version 2, with the line of player two's bracket, which isn't there without a round
abbrev pub in_two : List ℕ → List ℕ → List ℕ → List ℕ
in_two numbers played second =
    codes "XGCERT 2\n"
    ++ numbers
    ++ codes "sum 0\n"
    ++ played
    ++ second
    ++ codes "end\n"

abbrev pub pennies_numbers : List ℕ
pennies_numbers =
    codes "nodes 7 leaves 4\n"
    ++ codes "sets 1 1\n"
    ++ codes "sequences 3 3\n"
    ++ codes "unit 1\n"
    ++ codes "mass 4\n"

-- one round with the greatest scale, with this total of player two's reply
abbrev pub pennies_played_once : List ℕ → List ℕ
pennies_played_once total =
    codes "rounds 1 every 1 scale 1048576\n"
    ++ codes "trace 1 1 0 1 0\n"
    ++ codes "plan 1 1048576\n"
    ++ codes "weights 1 524288 524288\n"
    ++ codes "reply 2 " ++ total ++ codes "\n"
    ++ codes "value 1 0 1\n"
    ++ codes "plan 2 1048576\n"
    ++ codes "weights 1 524288 524288\n"
    ++ codes "reply 1 0\n"
    ++ codes "value 1 0 1\n"
    ++ codes "bracket 0 0\n"

abbrev pub pennies_of_one_round : List ℕ
pennies_of_one_round = in_two pennies_numbers (pennies_played_once (codes "0")) (codes "second 0 0\n")

abbrev pub old_pennies : List ℕ
old_pennies = in_one pennies_numbers (pennies_played_once (codes "0"))

-- the total of a reply that isn't the best, and a bracket of player two that the sum doesn't leave
abbrev pub pennies_of_other_total : List ℕ
pennies_of_other_total = in_one pennies_numbers (pennies_played_once (codes "1"))

abbrev pub pennies_of_other_second : List ℕ
pennies_of_other_second = in_two pennies_numbers (pennies_played_once (codes "0")) (codes "second 0 1\n")

-- two rounds with scale 1, each evaluated: the ends come from different rounds
abbrev pub pennies_of_scale_one : List ℕ
pennies_of_scale_one = in_two pennies_numbers (
    codes "rounds 2 every 1 scale 1\n"
    ++ codes "trace 1 1 -1 1 1\n"
    ++ codes "trace 2 1 -1 2 0\n"
    ++ codes "plan 1 1\n"
    ++ codes "weights 1 0 1\n"
    ++ codes "reply 2 -1\n"
    ++ codes "value 1 -1 1\n"
    ++ codes "plan 2 2\n"
    ++ codes "weights 1 1 1\n"
    ++ codes "reply 1 0\n"
    ++ codes "value 1 0 1\n"
    ++ codes "bracket -1 0\n") (codes "second 0 1\n")

-- three rounds with scale 10, evaluated after the second and after the last
abbrev pub pennies_of_scale_ten : List ℕ
pennies_of_scale_ten = in_two pennies_numbers (
    codes "rounds 3 every 2 scale 10\n"
    ++ codes "trace 2 2 0 2 0\n"
    ++ codes "trace 3 2 0 2 0\n"
    ++ codes "plan 1 20\n"
    ++ codes "weights 1 10 10\n"
    ++ codes "reply 2 0\n"
    ++ codes "value 1 0 1\n"
    ++ codes "plan 2 20\n"
    ++ codes "weights 1 10 10\n"
    ++ codes "reply 1 0\n"
    ++ codes "value 1 0 1\n"
    ++ codes "bracket 0 0\n") (codes "second 0 0\n")

-- two rounds of CFR+ with scale 1, each evaluated: the second counts twice
abbrev pub pennies_of_plus : List ℕ
pennies_of_plus =
    codes "XGPLUS 1\n"
    ++ pennies_numbers
    ++ codes "sum 0\n"
    ++ codes "rounds 2 every 1 scale 1\n"
    ++ codes "trace 1 1 -1 1 1\n"
    ++ codes "trace 2 1 -1 2 1\n"
    ++ codes "plan 1 1\n"
    ++ codes "weights 1 0 1\n"
    ++ codes "reply 2 -1\n"
    ++ codes "value 1 -1 1\n"
    ++ codes "plan 2 3\n"
    ++ codes "weights 1 2 1\n"
    ++ codes "reply 1 1\n"
    ++ codes "value 1 1 1\n"
    ++ codes "bracket -1 1/3\n"
    ++ codes "second -1/3 1\n"
    ++ codes "end\n"

abbrev pub poker_numbers : List ℕ
poker_numbers =
    codes "nodes 21 leaves 10\n"
    ++ codes "sets 4 4\n"
    ++ codes "sequences 9 9\n"
    ++ codes "unit 2\n"
    ++ codes "mass 14\n"

-- poker with two cards, without a round
abbrev pub poker_unplayed : List ℕ
poker_unplayed = in_two poker_numbers (codes "rounds 0 every 1 scale 1048576\n") []

abbrev pub old_poker_unplayed : List ℕ
old_poker_unplayed = in_one poker_numbers (codes "rounds 0 every 1 scale 1048576\n")

-- the same after a round with scale 1, whose one unit goes to the last action, so that all is bet and called
abbrev pub poker_of_one_round : List ℕ
poker_of_one_round = in_two poker_numbers (
    codes "rounds 1 every 1 scale 1\n"
    ++ codes "trace 1 1 -1 1 1\n"
    ++ codes "plan 1 1\n"
    ++ codes "weights 1 0 1\n"
    ++ codes "weights 2 0 0\n"
    ++ codes "weights 3 0 1\n"
    ++ codes "weights 4 0 0\n"
    ++ codes "reply 2 -1\n"
    ++ codes "value 1 0 1\n"
    ++ codes "value 2 -2 2\n"
    ++ codes "value 3 0 1\n"
    ++ codes "value 4 1 1\n"
    ++ codes "plan 2 1\n"
    ++ codes "weights 1 0 1\n"
    ++ codes "weights 2 0 1\n"
    ++ codes "weights 3 0 1\n"
    ++ codes "weights 4 0 1\n"
    ++ codes "reply 1 1\n"
    ++ codes "value 1 -1 1\n"
    ++ codes "value 2 -1 1\n"
    ++ codes "value 3 2 1\n"
    ++ codes "value 4 2 2\n"
    ++ codes "bracket -1/2 1/2\n") (codes "second -1/2 1/2\n")

-- ---- what is told

abbrev pub files_told : List ℕ → Option (List ℕ)
files_told name =
    if is_word name (codes "pennies") then Some pennies_file
    else (if is_word name (codes "quoted") then Some quoted_file
    else (if is_word name (codes "unfair") then Some unfair_file
    else (if is_word name (codes "poker") then Some two_cards
    else (if is_word name (codes "certificate") then Some pennies_of_scale_one
    else (if is_word name (codes "drilled") then Some poker_of_one_round
    else (if is_word name (codes "new") then Some pennies_of_one_round
    else (if is_word name (codes "old") then Some old_pennies
    else (if is_word name (codes "unplayed") then Some old_poker_unplayed
    else (if is_word name (codes "total") then Some pennies_of_other_total
    else (if is_word name (codes "second") then Some pennies_of_other_second
    else (if is_word name (codes "plus") then Some pennies_of_plus else None)))))))))))
