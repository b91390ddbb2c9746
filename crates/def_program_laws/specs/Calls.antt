-- Worked rows from the words of a call and the bytes of the files to the bytes of the answer.
use Rattle.std.specs.Prelude.{◌≡◌, ℕ, List, [], ◌∷◌, ◌++◌, codes, length, Option, Some, None}
use Rattle.def_canon.specs.PokerRows.{two_cards}
use Rattle.def_program.specs.Program.{Answer, program}
use Rattle.def_program.specs.TextLines.{usage_line}
use Rattle.def_program_laws.specs.Files.{files_told, pennies_of_one_round, pennies_of_plus, pennies_of_scale_one}
use Rattle.def_program_laws.specs.Files.{pennies_of_scale_ten}
use Rattle.def_program_laws.specs.Files.{poker_of_one_round, poker_unplayed, quoted_numbers}

-- the answer to words of which the first is a command's
abbrev answer_to : List ℕ → List (List ℕ) → Option Answer
answer_to command words = program (command ∷ words) files_told

-- ---- the answers, by their statuses

abbrev success_of : List ℕ → Option Answer
success_of text = Some (record { status = 0; text = text; line = [] })

abbrev refusal_of : List ℕ → Option Answer
refusal_of line = Some (record { status = 1; text = []; line = line })

abbrev usage_of : List ℕ → Option Answer
usage_of line = Some (record { status = 2; text = []; line = line })

-- ---- rows

pub record SolveRows : Type 0 where
  pub one_round : answer_to (codes "solve") (codes "pennies" ∷ codes "--rounds=1" ∷ [])
      ≡ success_of pennies_of_one_round
  pub bytes : length pennies_of_one_round ≡ 265
  pub each_round : answer_to (codes "solve")
      (codes "pennies" ∷ codes "--rounds=2" ∷ codes "--every=1" ∷ codes "--scale=1" ∷ [])
      ≡ success_of pennies_of_scale_one
  pub every_second : answer_to (codes "solve")
      (codes "--every=2" ∷ codes "pennies" ∷ codes "--scale" ∷ codes "10" ∷ codes "--rounds=3" ∷ [])
      ≡ success_of pennies_of_scale_ten
  pub unfair : answer_to (codes "solve") (codes "unfair" ∷ []) ≡ refusal_of (codes "refused 17 NotConstantSum node 5\n")

-- rounds of CFR+: the second counts twice, so both players' sums are plans of 1 + 2 units
pub record PlusRows : Type 0 where
  pub two_rounds : answer_to (codes "plus")
      (codes "pennies" ∷ codes "--rounds=2" ∷ codes "--every=1" ∷ codes "--scale=1" ∷ [])
      ≡ success_of pennies_of_plus
  pub many_rounds : answer_to (codes "plus") (codes "pennies" ∷ codes "--rounds=2049" ∷ []) ≡ usage_of usage_line
  pub unfair : answer_to (codes "plus") (codes "unfair" ∷ []) ≡ refusal_of (codes "refused 17 NotConstantSum node 5\n")
  pub no_certificate : answer_to (codes "check") (codes "pennies" ∷ codes "plus" ∷ [])
      ≡ refusal_of (codes "refused 22 CertSyntax at 0\n")

-- each file's part is its text or the line of its fault, in the order of the words
pub record BatchRows : Type 0 where
  pub refused_between : answer_to (codes "batch")
      (codes "pennies" ∷ codes "unfair" ∷ codes "--rounds=1" ∷ codes "pennies" ∷ [])
      ≡ success_of (codes "file 1\n" ++ (pennies_of_one_round
      ++ (codes "file 2\nrefused 17 NotConstantSum node 5\nfile 3\n" ++ pennies_of_one_round)))
  pub no_file : answer_to (codes "batch") [] ≡ usage_of usage_line
  pub absent : answer_to (codes "batch") (codes "pennies" ∷ codes "absent" ∷ []) ≡ None

-- the file decides first, then what the certificate's bytes are, then what it says of the game
pub record CheckRows : Type 0 where
  pub accepted : answer_to (codes "check") (codes "pennies" ∷ codes "certificate" ∷ [])
      ≡ success_of (codes "accepted -1 0\n")
  pub drilled : answer_to (codes "check") (codes "poker" ∷ codes "drilled" ∷ [])
      ≡ success_of (codes "accepted -1/2 1/2\n")
  pub of_version_one : answer_to (codes "check") (codes "pennies" ∷ codes "old" ∷ [])
      ≡ success_of (codes "accepted 0 0\n")
  pub other_second : answer_to (codes "check") (codes "pennies" ∷ codes "second" ∷ [])
      ≡ refusal_of (codes "refused 33 SecondDiffers\n")
  pub of_other_game : answer_to (codes "check") (codes "quoted" ∷ codes "certificate" ∷ [])
      ≡ refusal_of (codes "refused 27 HeadDiffers line 2\n")
  pub no_certificate : answer_to (codes "check") (codes "quoted" ∷ codes "pennies" ∷ [])
      ≡ refusal_of (codes "refused 22 CertSyntax at 0\n")
  pub file_first : answer_to (codes "check") (codes "unfair" ∷ codes "unfair" ∷ [])
      ≡ refusal_of (codes "refused 17 NotConstantSum node 5\n")

-- what is accepted is written in version 2, and what isn't is refused as `check` refuses it
pub record UpgradeRows : Type 0 where
  pub of_version_one : answer_to (codes "upgrade") (codes "pennies" ∷ codes "old" ∷ [])
      ≡ success_of pennies_of_one_round
  pub of_version_two : answer_to (codes "upgrade") (codes "pennies" ∷ codes "new" ∷ [])
      ≡ success_of pennies_of_one_round
  pub no_round : answer_to (codes "upgrade") (codes "poker" ∷ codes "unplayed" ∷ []) ≡ success_of poker_unplayed
  pub other_total : answer_to (codes "upgrade") (codes "pennies" ∷ codes "total" ∷ [])
      ≡ refusal_of (codes "refused 31 TotalDiffers lower\n")
  pub other_second : answer_to (codes "upgrade") (codes "pennies" ∷ codes "second" ∷ [])
      ≡ refusal_of (codes "refused 33 SecondDiffers\n")
  pub no_certificate : answer_to (codes "upgrade") (codes "quoted" ∷ codes "pennies" ∷ [])
      ≡ refusal_of (codes "refused 22 CertSyntax at 0\n")
  pub file_first : answer_to (codes "upgrade") (codes "unfair" ∷ codes "unfair" ∷ [])
      ≡ refusal_of (codes "refused 17 NotConstantSum node 5\n")

pub record InfoRows : Type 0 where
  pub quoted : answer_to (codes "info") (codes "quoted" ∷ []) ≡ success_of quoted_numbers

-- of games that no file tells
pub record MadeGameRows : Type 0 where
  pub gen : answer_to (codes "gen") (codes "2" ∷ []) ≡ success_of two_cards
  pub drill : answer_to (codes "drill") (codes "2" ∷ codes "--rounds=0" ∷ []) ≡ success_of poker_unplayed
  pub drill_of_a_round : answer_to (codes "drill") (codes "--rounds=1" ∷ codes "--scale=1" ∷ codes "2" ∷ [])
      ≡ success_of poker_of_one_round

-- words that aren't taken, and files that aren't told
pub record UnansweredRows : Type 0 where
  pub words : answer_to (codes "help") []
      ≡ usage_of (codes "usage: xg_solve solve FILE [--rounds N] [--every N] [--scale N] [--workers N] [--atomic N]"
      ++ codes " | check FILE CERT | upgrade FILE CERT | info FILE | gen N | drill N | plus FILE | batch FILE...\n")
  pub solve : answer_to (codes "solve") (codes "absent" ∷ []) ≡ None
  pub info : answer_to (codes "info") (codes "absent" ∷ []) ≡ None
  pub check : answer_to (codes "check") (codes "absent" ∷ codes "certificate" ∷ []) ≡ None
  pub certificate : answer_to (codes "check") (codes "pennies" ∷ codes "absent" ∷ []) ≡ None
  pub upgrade : answer_to (codes "upgrade") (codes "absent" ∷ codes "certificate" ∷ []) ≡ None
  pub upgraded : answer_to (codes "upgrade") (codes "pennies" ∷ codes "absent" ∷ []) ≡ None
