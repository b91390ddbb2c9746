-- What is promised of the brackets that words print, before a round is played.
--     promise_of part               what is promised of a game that words play, from its numbers and what is asked
--     IsWithinPromise part b        HIGH less LOW of its printed bounds is at most that
--     EachKeepsItsPromise           so it is of each game that the words play for at least one round
use Rattle.std.specs.Prelude.{◌≡◌, ℕ, ◌≤◌, List, Option}
use Rattle.def_outside.specs.Calls.{SinkCall, Wrote}
use Rattle.def_fraction.specs.Fraction.{Fraction}
use Rattle.def_game_numbers.specs.Numbers.{tables_of}
use Rattle.def_fraction.specs.Order.{IsAtMost, difference_of}
use Rattle.def_cert_verdict.specs.Certificate.{PrintedBounds}
use Rattle.def_command.specs.Grammar.{command_of_words}
use Rattle.def_program.specs.Bounds.{IsPlayed, PlayedPart, WroteBounds}
use Rattle.def_program.specs.Meaning.{EachMeant, Means}
use Rattle.def_closing_games.specs.Promise.{promise}

abbrev pub promise_of : PlayedPart → Fraction
promise_of part =
    promise part.variant (tables_of part.game) part.game.tree part.settings.scale part.settings.rounds

abbrev pub IsWithinPromise : PlayedPart → PrintedBounds → Type 0
IsWithinPromise part b = IsAtMost (difference_of b.high b.low) (promise_of part)

-- the text with these bounds was written in its place, as for what holds of them in def_program
abbrev pub EachKeepsItsPromise : List (List ℕ) → (List ℕ → Option (List ℕ)) → SinkCall → Type 0
EachKeepsItsPromise words told out = (part : PlayedPart) → IsPlayed (command_of_words words) told part
    → 1 ≤ part.settings.rounds → WroteBounds (λ game variant scale b. IsWithinPromise part b) out part

-- Where whatever the words mean is a success and its text was written, which is what the program's call promises at
-- status 0, each bracket that was written is within what was promised of it.
abbrev pub WrittenBracketsKeepTheirPromises : Type 0
WrittenBracketsKeepTheirPromises = (words : List (List ℕ)) (told : List ℕ → Option (List ℕ)) (out : SinkCall)
    → EachMeant (Means words told) (λ answer. (answer.status ≡ 0) × Wrote out answer.text)
    → EachKeepsItsPromise words told out
