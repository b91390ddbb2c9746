-- The worths of one set's sequences by its play.
use Rattle.std.specs.Prelude.{ℕ, ℤ, pos, ◌*ℤ◌, unsigned_abs, List, slice_index}
use Rattle.def_sums.specs.Sum.{nat_sum_over, sum_over}
use Rattle.def_plan.specs.Form.{PlacedSet, sequences_of}
use Rattle.def_round.specs.Round.{set_value}
use Rattle.def_plan.specs.FormRows.{amount_of}

-- a sequence's units times its worth
abbrev pub weighed_worth : List ℕ → List ℤ → ℕ → ℤ
weighed_worth play worths s = pos (slice_index play s) *ℤ amount_of worths s

-- these of a set's sequences together, and their sizes together
abbrev pub weighed_sum : List ℕ → List ℤ → PlacedSet → ℤ
weighed_sum play worths h = sum_over (weighed_worth play worths) (sequences_of h)

abbrev pub weighed_sizes : List ℕ → List ℤ → PlacedSet → ℕ
weighed_sizes play worths h = nat_sum_over (λ s. unsigned_abs (weighed_worth play worths s)) (sequences_of h)

-- what the set is worth
abbrev pub value_by : List ℕ → List ℤ → PlacedSet → ℤ
value_by play worths h = set_value play (amount_of worths) h
