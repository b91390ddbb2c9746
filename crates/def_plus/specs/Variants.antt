-- Which rounds are played: plain ones of counterfactual regret minimisation (Zinkevich, Johanson, Bowling and Piccione
-- 2007), or those of CFR+ (Tammelin 2014).
--     rounds_of variant form root n    the standing after n rounds
--     weight_of_rounds variant n              what the rounds up to n weigh together in the sums
--     most_rounds_of, most_scale_of    the limits of a run
use Rattle.std.specs.Prelude.{ℕ}
use Rattle.def_sums.specs.Limits.{most_rounds, most_scale}
use Rattle.def_plan.specs.Form.{SequenceForm}
use Rattle.def_round.specs.Rounds.{Standing, rounds}
use Rattle.def_plus.specs.declared.Variant.{Variant}
use Rattle.def_plus.specs.declared.Variant.TheVariants.{Plain, Plus}
use Rattle.def_plus.specs.Limits.{most_plus_rounds, most_plus_scale}
use Rattle.def_plus.specs.PlusRounds.{plus_rounds}
use Rattle.def_plus.specs.Weights.{total_weight}

abbrev pub rounds_of : Variant → SequenceForm → ℕ → ℕ → Standing
rounds_of Plain form root n = rounds form root n
rounds_of Plus form root n = plus_rounds form root n

-- a plain round weighs 1
abbrev pub weight_of_rounds : Variant → ℕ → ℕ
weight_of_rounds Plain n = n
weight_of_rounds Plus n = total_weight n

abbrev pub most_rounds_of : Variant → ℕ
most_rounds_of Plain = most_rounds
most_rounds_of Plus = most_plus_rounds

abbrev pub most_scale_of : Variant → ℕ
most_scale_of Plain = most_scale
most_scale_of Plus = most_plus_scale
