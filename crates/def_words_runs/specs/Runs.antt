-- A worked run of two workers, from the opening to the close.
--     brought        what two jobs bring to two rows
use Rattle.std.specs.Prelude.{◌≡◌, ℕ, zero, suc, ℤ, pos, negsuc, [], ◌∷◌}
use Rattle.def_words.specs.Amounts.{past_sizes}
use Rattle.def_words.specs.Steps.{AreWordsReached, Closes, WordState}

-- job 0 brings 2 and -3, and job 1 nothing and 5
abbrev pub brought : ℕ → ℕ → ℤ
brought zero zero = pos 2
brought zero (suc row) = negsuc 2
brought (suc job) zero = pos 0
brought (suc job) (suc row) = pos 5

-- a state is reached in which the owner closes: four numbers were claimed, and the words of the rows tell 2, and 5
-- less 3
pub record OneRunEnds : Type 0 where
  pub state : WordState
  pub reached : AreWordsReached 2 2 brought state
  pub closes : Closes 2 2 brought state 0 state
  pub words : state.words ≡ 4 ∷ 2 ∷ 0 ∷ 5 ∷ 3 ∷ []

pub record RoomRows : Type 0 where
  pub sizes : past_sizes ≡ 4611686018427387904
