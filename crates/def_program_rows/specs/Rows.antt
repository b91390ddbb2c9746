-- Worked rows: a game whose sum isn't 0, one-card poker without a file, a batch of ten files, and a canonical form.
use Rattle.std.specs.Prelude.{◌≡◌, ℕ, List, [], ◌∷◌, ◌++◌, codes, Option, Some, None, Result, Ok, Err}
use Rattle.def_file.specs.declared.FileFault.{FileFault}
use Rattle.def_file.specs.Content.{GameFile}
use Rattle.def_canon.specs.Canon.{canon}
use Rattle.def_check.specs.Accepting.{read_as_accepted}
use Rattle.def_program.specs.Program.{Answer, program, success}

-- ---- one leaf, which pays 7 to both players together

abbrev pub pot_file : List ℕ
pot_file = codes "EFG 2 R \"\" { \"A\" \"B\" }\nt \"\" 1 { 3, 4 }\n"

abbrev pub pot_told : List ℕ → Option (List ℕ)
pot_told name = Some pot_file

abbrev pub pot_head : List ℕ
pot_head = codes "XGCERT 2\nnodes 1 leaves 1\nsets 0 0\nsequences 1 1\nunit 1\nmass 3\nsum 7\n"

pub record SumRows : Type 0 where
  pub info : program (codes "info" ∷ codes "pot" ∷ []) pot_told
      ≡ Some (success (codes "title \"\"\nplayers \"A\" \"B\"\nnodes 1 leaves 1\nsets 0 0\nsequences 1 1\n"
      ++ codes "unit 1 sum 7\nmass 3\n"))
  pub solve : program (codes "solve" ∷ codes "pot" ∷ codes "--rounds=1" ∷ []) pot_told
      ≡ Some (success (pot_head ++ (codes "rounds 1 every 1 scale 1048576\ntrace 1 1 3145728 1 3145728\n"
      ++ codes "plan 1 1048576\nreply 2 3145728\nplan 2 1048576\nreply 1 3145728\nbracket 3 3\nsecond 4 4\nend\n")))

-- ---- one-card poker

abbrev pub drill_of : List ℕ → Option Answer
drill_of cards = program (codes "drill" ∷ cards ∷ codes "--rounds=0" ∷ []) (λ name. None)

-- the text of a game that wasn't played, by its lines of numbers
abbrev pub unplayed : List ℕ → Option Answer
unplayed numbers =
    Some (success (codes "XGCERT 2\n" ++ (numbers ++ codes "sum 0\nrounds 0 every 1 scale 1048576\nend\n")))

pub record ThreeCardRows : Type 0 where
  pub three : drill_of (codes "3")
      ≡ unplayed (codes "nodes 58 leaves 30\nsets 6 6\nsequences 13 13\nunit 6\nmass 42\n")

pub record FourCardRows : Type 0 where
  pub four : drill_of (codes "4")
      ≡ unplayed (codes "nodes 113 leaves 60\nsets 8 8\nsequences 17 17\nunit 12\nmass 84\n")

pub record FiveCardRows : Type 0 where
  pub five : drill_of (codes "5")
      ≡ unplayed (codes "nodes 186 leaves 100\nsets 10 10\nsequences 21 21\nunit 20\nmass 140\n")

-- ---- a batch

-- a part, by the line of its number
abbrev pub unplayed_pot : List ℕ → List ℕ
unplayed_pot line = line ++ (pot_head ++ codes "rounds 0 every 1 scale 1048576\nend\n")

pub record TenFileRows : Type 0 where
  pub ten : program (codes "batch" ∷ codes "--rounds=0" ∷ codes "a" ∷ codes "b" ∷ codes "c" ∷ codes "d" ∷ codes "e"
      ∷ codes "f" ∷ codes "g" ∷ codes "h" ∷ codes "i" ∷ codes "j" ∷ []) pot_told
      ≡ Some (success (unplayed_pot (codes "file 1\n") ++ (unplayed_pot (codes "file 2\n")
      ++ (unplayed_pot (codes "file 3\n") ++ (unplayed_pot (codes "file 4\n") ++ (unplayed_pot (codes "file 5\n")
      ++ (unplayed_pot (codes "file 6\n") ++ (unplayed_pot (codes "file 7\n") ++ (unplayed_pot (codes "file 8\n")
      ++ (unplayed_pot (codes "file 9\n") ++ unplayed_pot (codes "file 10\n")))))))))))

-- ---- a canonical form

-- outcomes of numbers above 4, the second by its number alone
abbrev pub outcome_file : List ℕ
outcome_file = codes "EFG 2 R \"\" { \"A\" \"B\" }\np \"\" 1 9 { \"a\" \"b\" \"c\" } 0\n"
    ++ codes "t \"\" 5 \"more\" { 1, -1 } t \"\" 70 { -1, 1 } t \"\" 5"

abbrev pub canonical_form : Result GameFile FileFault → Result (List ℕ) FileFault
canonical_form (Ok game) = Ok (canon game)
canonical_form (Err fault) = Err fault

pub record OutcomeRows : Type 0 where
  pub greater : canonical_form (read_as_accepted outcome_file)
      ≡ Ok (codes "EFG 2 R \"\" { \"A\" \"B\" }\n\"\"\np \"\" 1 9 { \"a\" \"b\" \"c\" } 0\n"
      ++ codes "t \"\" 5 \"more\" { 1, -1 }\nt \"\" 70 { -1, 1 }\nt \"\" 5 \"more\" { 1, -1 }\n")
