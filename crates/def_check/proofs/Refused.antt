-- What a file is refused with, and where it is accepted.
use Rattle.std.proofs.Common.{◌≡◌, ℕ, ◌<◌, ◌≤◌, Bool, true, false, cond, nat_lt, length, List, Option, Some, None, Result, Ok, Err, refl, sym, ap, ◌∙◌}
use Rattle.std.proofs.lemmas.Bool.{ltb-true, ltb-false, lt-ltb, le-ltb}
use Rattle.def_file.specs.declared.FileFault.{FileFault}
use Rattle.def_file.specs.declared.FileFault.TheVariants.{TooLong}
use Rattle.def_file.specs.Content.{GameFile}
use Rattle.def_file.specs.Reading.{game_at, most_bytes}
use Rattle.def_file_form.specs.Laws.{StandsForWholeGame}
use Rattle.def_file_form.proofs.FileReadingIsExact.{game_read, game_taken}
use Rattle.def_file_form.specs.FaultLaws.{FileFaultIsFirst, FirstIsFileFault}
use Rattle.def_game_scale.specs.Tables.{AreFractions}
use Rattle.def_game_scale.specs.Faults.{GameFault, game_fault}
use Rattle.def_game_scale.specs.FaultLaws.{GameFaultIsFirst, NoFaultIsSound}
use Rattle.def_game_numbers.specs.Laws.{TablesAreFractions}
use Rattle.def_game_numbers.specs.Numbers.{as_file_fault, game_file_fault, tables_of}
use Rattle.def_check.specs.Accepting.{accepted, read_as_accepted, read_as_game, unless_faulty}
use Rattle.def_check.specs.FirstFault.{IsFirstFault, IsFirstOfText, in_game, in_length, in_text, within}
use Rattle.def_check.specs.Accepted.{IsAccepted, IsReadable}
use Rattle.def_check.specs.FileLaws.{AcceptedGamesAreSound, AcceptedWithoutFault, FileReadingIsExact, RefusedWithTheFirst}

-- what is read of a text of this length, where the length counts first
abbrev limited : ℕ → ℕ → Result GameFile FileFault → Result GameFile FileFault
limited most n r = cond (nat_lt most n) (Err TooLong) r

above : (most n : ℕ) (r : Result GameFile FileFault) → most < n → limited most n r ≡ Err TooLong
above most n r h = rw (lt-ltb most n h) refl

below : (most n : ℕ) (r : Result GameFile FileFault) → n ≤ most → limited most n r ≡ r
below most n r h = rw (le-ltb most n h) refl

-- what is the answer is so by the length, or by what is read
by_length : (most n : ℕ) (r answer : Result GameFile FileFault) (P : Type 0)
    → (most < n → answer ≡ Err TooLong → P) → (n ≤ most → r ≡ answer → P) → limited most n r ≡ answer → P
by_length most n r answer P long short e = by_test (nat_lt most n) refl e
  where
    by_test : (b : Bool) → nat_lt most n ≡ b → cond b (Err TooLong) r ≡ answer → P
    by_test true is e = long (ltb-true most n is) (cc)
    by_test false is e = short (ltb-false most n is) e

-- where the fault of a file's text is exactly its first one, reading fails exactly with that fault
refused_first : FileFaultIsFirst → FirstIsFileFault → (bytes : List ℕ) (fault : FileFault)
    → (read_as_game bytes ≡ Err fault → IsFirstOfText bytes fault)
    × (IsFirstOfText bytes fault → read_as_game bytes ≡ Err fault)
unfolding read_as_game
refused_first first is_fault bytes fault = (found, refused)
  where
    found : read_as_game bytes ≡ Err fault → IsFirstOfText bytes fault
    found e =
        by_length most_bytes (length bytes) (game_at bytes) (Err fault) (IsFirstOfText bytes fault)
        (λ h same. in_length (cc) h)
        (λ h same. within h (first bytes fault same))
        e

    refused : IsFirstOfText bytes fault → read_as_game bytes ≡ Err fault
    refused (in_length is h) = above most_bytes (length bytes) (game_at bytes) h ∙ cc
    refused (within h is) = below most_bytes (length bytes) (game_at bytes) h ∙ is_fault bytes fault is

-- a file can be read exactly where it has a reading without a fault
read_whole : (bytes : List ℕ) (game : GameFile)
    → (read_as_game bytes ≡ Ok game → IsReadable bytes game) × (IsReadable bytes game → read_as_game bytes ≡ Ok game)
unfolding read_as_game
read_whole bytes game = (read, taken)
  where
    read : read_as_game bytes ≡ Ok game → IsReadable bytes game
    read e =
        by_length most_bytes (length bytes) (game_at bytes) (Ok game) (IsReadable bytes game)
        (λ h same. absurd cc)
        (λ h same. record { length_within = h; stands = game_read bytes game same })
        e

    taken : IsReadable bytes game → read_as_game bytes ≡ Ok game
    taken is = below most_bytes (length bytes) (game_at bytes) is.length_within ∙ game_taken bytes game is.stands

-- reading is exact, where the fault of a text is exactly its first one
pub reading_exact : FileFaultIsFirst → FirstIsFileFault → FileReadingIsExact
reading_exact first is_fault = record { refused = refused_first first is_fault; read = read_whole }

-- the laws below this crate that say what a game's fault is
pub record GameLaws : Type 0 where
  pub whole : StandsForWholeGame
  pub fractions : TablesAreFractions
  pub first : GameFaultIsFirst
  pub sound : NoFaultIsSound

module _ (reading : FileReadingIsExact) (laws : GameLaws) (bytes : List ℕ) where
  -- a readable file's tables have their fractions in lowest terms
  in_lowest_terms : (game : GameFile) → IsReadable bytes game → AreFractions (tables_of game)
  in_lowest_terms game is = laws.fractions game (laws.whole bytes game is.stands).1

  -- a fault of the game that is found is the file's
  found_in_game : (game : GameFile) → IsReadable bytes game → (found : Option GameFault)
      → game_fault (tables_of game) game.tree ≡ found → (fault : FileFault) → as_file_fault found ≡ Some fault
      → IsFirstFault bytes fault
  found_in_game game is None same fault e = absurd cc
  found_in_game game is (Some found) same fault e =
      in_game is.length_within game is.stands found
      (((laws.first (tables_of game) game.tree (in_lowest_terms game is)).some found).0 same) (cc)

  -- a refused file has this first fault
  pub refused_is_first : (fault : FileFault) → (r : Result GameFile FileFault) → read_as_game bytes ≡ r
      → accepted r ≡ Err fault → IsFirstFault bytes fault
  refused_is_first fault (Err other) is e =
      let same : other ≡ fault = cc in in_text ((reading.refused bytes fault).0 (is ∙ ap Err same))
  refused_is_first fault (Ok game) is e = by_fault (game_file_fault game) refl e
    where
      by_fault : (o : Option FileFault) → game_file_fault game ≡ o → unless_faulty o game ≡ Err fault
          → IsFirstFault bytes fault
      by_fault None is_none e = absurd cc
      by_fault (Some other) is_some e =
          found_in_game game ((reading.read bytes game).0 is) (game_fault (tables_of game) game.tree) refl fault
          (is_some ∙ cc)

  -- a file with this first fault is refused with it
  pub first_is_refused : (fault : FileFault) → IsFirstFault bytes fault → read_as_accepted bytes ≡ Err fault
  first_is_refused fault (in_text is) = ap accepted ((reading.refused bytes fault).1 is)
  first_is_refused fault (in_game short game stands found first same) =
      let readable : IsReadable bytes game = record { length_within = short; stands = stands } in
      let is : game_fault (tables_of game) game.tree ≡ Some found =
      ((laws.first (tables_of game) game.tree (in_lowest_terms game readable)).some found).1 first in
      ap accepted ((reading.read bytes game).1 readable) ∙ ap (λ o. unless_faulty (as_file_fault o) game) is
      ∙ ap Err (sym same)

  -- an accepted file can be read, and its game has no fault
  pub accepted_is_whole : (game : GameFile) (r : Result GameFile FileFault) → read_as_game bytes ≡ r
      → accepted r ≡ Ok game → IsAccepted bytes game
  accepted_is_whole game (Err fault) is e = absurd cc
  accepted_is_whole game (Ok other) is e = by_fault (game_fault (tables_of other) other.tree) refl e
    where
      by_fault : (o : Option GameFault) → game_fault (tables_of other) other.tree ≡ o
          → unless_faulty (as_file_fault o) other ≡ Ok game → IsAccepted bytes game
      by_fault (Some fault) is_some e = absurd cc
      by_fault None is_none e =
          let same : other ≡ game = cc in
          let readable : IsReadable bytes game = (reading.read bytes game).0 (is ∙ ap Ok same) in
          let passes = (laws.first (tables_of game) game.tree (in_lowest_terms game readable)).none.0
          (ap (λ (g : GameFile). game_fault (tables_of g) g.tree) (sym same) ∙ is_none) in
          record { readable = readable; numbers = passes.0; recall = passes.1 }

  pub whole_is_accepted : (game : GameFile) → IsAccepted bytes game → read_as_accepted bytes ≡ Ok game
  whole_is_accepted game is =
      let none : game_fault (tables_of game) game.tree ≡ None =
      (laws.first (tables_of game) game.tree (in_lowest_terms game is.readable)).none.1 (is.numbers, is.recall) in
      ap accepted ((reading.read bytes game).1 is.readable) ∙ ap (λ o. unless_faulty (as_file_fault o) game) none

-- a file is refused exactly with its first fault
pub refused_with_first : FileReadingIsExact → GameLaws → RefusedWithTheFirst
refused_with_first reading laws bytes fault =
    (refused_is_first reading laws bytes fault (read_as_game bytes) refl, first_is_refused reading laws bytes fault)

-- a file is accepted exactly where it can be read and its game has no fault
pub accepted_whole : FileReadingIsExact → GameLaws → AcceptedWithoutFault
accepted_whole reading laws bytes game =
    (accepted_is_whole reading laws bytes game (read_as_game bytes) refl, whole_is_accepted reading laws bytes game)

-- an accepted file's game is sound
pub accepted_sound : FileReadingIsExact → GameLaws → AcceptedGamesAreSound
accepted_sound reading laws bytes game is =
    let fractions = in_lowest_terms reading laws bytes game is.readable in
    laws.sound (tables_of game) game.tree fractions
    ((laws.first (tables_of game) game.tree fractions).none.1 (is.numbers, is.recall))
