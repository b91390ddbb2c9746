-- The limits of a run of CFR+.
use Rattle.std.specs.Prelude.{ℕ, ◌≤◌}
use Rattle.def_sums.specs.Limits.{most_mass}
use Rattle.def_plan.specs.Form.{SequenceForm}
use Rattle.def_plan.specs.Payoff.{mass_of}
use Rattle.def_plus.specs.declared.TheConstants.{MOST_PLUS_ROUNDS, MOST_PLUS_SCALE}

-- the rounds
abbrev pub most_plus_rounds : ℕ
most_plus_rounds = MOST_PLUS_ROUNDS

-- the scale, which is the root of each round's plans
abbrev pub most_plus_scale : ℕ
most_plus_scale = MOST_PLUS_SCALE

-- a game and a run within the limits of the mass, the scale and the rounds
pub record IsWithinPlusLimits (form : SequenceForm) (root n : ℕ) : Type 0 where
  pub small_mass : mass_of form.leaves ≤ most_mass
  pub small_root : root ≤ most_plus_scale
  pub few_rounds : n ≤ most_plus_rounds
