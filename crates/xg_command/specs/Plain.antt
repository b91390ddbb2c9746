-- The plain words of a call, as a list.
use Rattle.std.specs.Prelude.{ℕ, List, [], ◌∷◌, map, Option, Some, None}
use Rattle.std.specs.Borrow.{Bor}
use Rattle.arrayvec.specs.ArrayVec.{ArrayVec}

abbrev pub plain_value : ArrayVec (Bor (List ℕ)) → List (List ℕ)
plain_value p = map (λ word. word.now) p.items

-- the word of a list that has one
abbrev pub one_word : List (List ℕ) → Option (List ℕ)
one_word [] = None
one_word (word ∷ []) = Some word
one_word (word ∷ second ∷ more) = None

-- both words of a list that has two
abbrev pub two_words : List (List ℕ) → Option (List ℕ × List ℕ)
two_words [] = None
two_words (word ∷ []) = None
two_words (word ∷ second ∷ []) = Some (word, second)
two_words (word ∷ second ∷ third ∷ more) = None
