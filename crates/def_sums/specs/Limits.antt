-- The limits of a game and of a run, on which the fixed widths of numbers rest.
use Rattle.std.specs.Prelude.{ℕ, ◌*◌, ◌^◌}
use Rattle.def_sums.specs.declared.TheConstants.{LEAST_CARDS, MOST_CARDS, MOST_MASS, MOST_ROOT, MOST_ROUNDS, MOST_SCALE}
use Rattle.def_sums.specs.declared.TheConstants.{MOST_SMALL_ROWS, MOST_STRIPES, MOST_WORKERS, PAST_DEALT}

-- the sizes of all weights of a game together
abbrev pub most_mass : ℕ
most_mass = MOST_MASS

-- the rounds of a run
abbrev pub most_rounds : ℕ
most_rounds = MOST_ROUNDS

-- the scale, which is the root of each round's plans
abbrev pub most_scale : ℕ
most_scale = MOST_SCALE

-- the root of a sum of plans
abbrev pub most_root : ℕ
most_root = MOST_ROOT

-- the sizes of a round's leaf sums together, and what a regret grows by in a round: the mass times the scale
abbrev pub most_round_row : ℕ
most_round_row = most_mass * most_scale

-- the sizes of the leaf sums against a sum of plans together, a reply's total, and a regret: the mass times the root
abbrev pub most_row : ℕ
most_row = most_mass * most_root

-- the workers of a run
abbrev pub most_workers : ℕ
most_workers = MOST_WORKERS

-- the stripes of the rows that workers add into
abbrev pub most_stripes : ℕ
most_stripes = MOST_STRIPES

-- the cards of one-card poker, from the least
abbrev pub least_cards : ℕ
least_cards = LEAST_CARDS

-- to the most
abbrev pub most_cards : ℕ
most_cards = MOST_CARDS

-- The room for numbers in words of the code, which all that is within the limits has.

-- one past the greatest number of a plan that is taken as a word of 64 bits with a sign
abbrev pub past_number : ℕ
past_number = 2 ^ 62

-- one past the greatest number whose product with all units, 65,536, has room in 64 bits with a sign
abbrev pub past_dealt : ℕ
past_dealt = PAST_DEALT

-- the greatest sizes that words of 64 bits keep: of all rows together, and of a regret
abbrev pub most_small_rows : ℕ
most_small_rows = MOST_SMALL_ROWS

-- one past the greatest size of which two together have room in 128 bits with a sign: of a product, say, or a regret
abbrev pub past_product : ℕ
past_product = 2 ^ 126
