-- The file of one-card poker is read as this game.
use Rattle.std.proofs.Common.{◌≡◌, ℕ, ◌≤◌, List, length, Option, None, Result, Ok, ◌∙◌, ap}
use Rattle.std.proofs.lemmas.Bool.{le-ltb}
use Rattle.def_sums.specs.Limits.{least_cards, most_cards}
use Rattle.def_file.specs.declared.FileFault.{FileFault}
use Rattle.def_file.specs.Content.{GameFile}
use Rattle.def_file.specs.Reading.{most_bytes}
use Rattle.def_game_numbers.specs.Numbers.{game_file_fault}
use Rattle.def_canon.specs.Canon.{canon}
use Rattle.def_canon.specs.Poker.{poker}
use Rattle.def_canon.proofs.PokerFileIsShort.{poker_is_short}
use Rattle.def_canon.proofs.Written.{poker_is_read_back}
use Rattle.def_check.specs.Accepted.{IsAccepted}
use Rattle.def_check.specs.Accepting.{accepted, read_as_game, unless_faulty}
use Rattle.def_check.proofs.FileAccepted.{accepted_whole_file}
use Rattle.def_program.specs.Program.{file_answer, game_answer, made_answer}

module _ (cards : ℕ) (some : least_cards ≤ cards) (few : cards ≤ most_cards) where
  read_made : read_as_game (canon (poker cards)) ≡ Ok (poker cards)
  unfolding read_as_game
  read_made =
      rw (le-ltb most_bytes (length (canon (poker cards))) (poker_is_short cards some few))
      (poker_is_read_back cards some few).1

  -- what is computed of the file is what is computed of the game
  pub made_is : (text : GameFile → List ℕ) → file_answer text (canon (poker cards)) ≡ made_answer text (poker cards)
  made_is text = ap (λ (r : Result GameFile FileFault). game_answer text (accepted r)) read_made

  -- the file is accepted where the game has no fault
  pub made_accepted : game_file_fault (poker cards) ≡ None → IsAccepted (canon (poker cards)) (poker cards)
  made_accepted none =
      (accepted_whole_file (canon (poker cards)) (poker cards)).0
      (ap accepted read_made ∙ ap (λ (o : Option FileFault). unless_faulty o (poker cards)) none)
