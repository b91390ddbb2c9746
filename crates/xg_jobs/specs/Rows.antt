-- The amounts at the rows of a form, and what is asked of the numbers that they are made from.
use Rattle.std.specs.Prelude.{◌≡◌, ℕ, ◌*◌, ◌^◌, ◌<◌, ◌≤◌, max, List, ◌++◌, ℤ, length, All}
use Rattle.def_tree.specs.declared.Player.TheVariants.{One, Two}
use Rattle.def_sums.specs.Limits.{most_root}
use Rattle.def_plan.specs.Form.{SequenceForm, sequence_count}
use Rattle.def_plan.specs.FormRows.{player_rows}
use Rattle.def_plan.specs.Payoff.{mass_of}
use Rattle.xg_jobs.specs.Groups.{greatest_of}

-- each player's amounts, by sequence
pub record Amounts : Type 0 where
  pub one : List ℤ
  pub two : List ℤ

-- the amounts at all rows: player one's sequences, and behind them player two's
abbrev pub all_rows : Amounts → List ℤ
all_rows amounts = amounts.one ++ amounts.two

-- a number for each sequence of each player, none of them above the greatest root of a sum of plans
pub record AreNumbersOf (form : SequenceForm) (numbers_one numbers_two : List ℕ) : Type 0 where
  pub count_one : length numbers_one ≡ sequence_count form.sets_one
  pub count_two : length numbers_two ≡ sequence_count form.sets_two
  pub small_one : All (λ n. n ≤ most_root) numbers_one
  pub small_two : All (λ n. n ≤ most_root) numbers_two

-- the plain sums over all leaves: each row has the leaf sum of its sequence against the other player's numbers
pub record ArePlainSums (form : SequenceForm) (numbers_one numbers_two : List ℕ) (amounts : Amounts) : Type 0 where
  pub one : amounts.one ≡ player_rows form One numbers_two
  pub two : amounts.two ≡ player_rows form Two numbers_one

-- the sizes of all weights together, times the greatest number of both players, are within 64 bits with a sign, and so
-- is each sum
abbrev pub HaveSmallRows : SequenceForm → List ℕ → List ℕ → Type 0
HaveSmallRows form numbers_one numbers_two =
    mass_of form.leaves * max (greatest_of numbers_one) (greatest_of numbers_two) < 2 ^ 63
