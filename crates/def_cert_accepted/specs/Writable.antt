-- Which outcomes can be written: those whose ends have the sizes of the form, and numbers within their limits.
use Rattle.std.specs.Prelude.{◌≡◌, ◌≤◌, List, length, slice_index, unsigned_abs, Option, Some, None}
use Rattle.def_fraction.specs.Fraction.{most}
use Rattle.def_sums.specs.Limits.{most_root, most_row}
use Rattle.def_plan.specs.Form.{InformationSet, SequenceForm, sequence_count}
use Rattle.def_reply.specs.Outcome.{End, OutcomeEnds, Outcome}
use Rattle.def_game_numbers.specs.WholeSums.{IsWholeIn}
use Rattle.def_cert_verdict.specs.Ranges.{IsFromTo}

-- a plan of a player with these sets, and a reply of the other player
pub record IsEndOf (own others : List InformationSet) (end : End) : Type 0 where
  pub plan : length end.plan ≡ sequence_count own
  pub reply : length end.reply.sets ≡ length others
  pub root : IsFromTo 1 most_root (slice_index end.plan 0)
  pub total : unsigned_abs end.reply.total ≤ most_row

abbrev pub AreEndsOf : SequenceForm → Option OutcomeEnds → Type 0
AreEndsOf form None = Unit {0}
AreEndsOf form (Some ends) = IsEndOf form.sets_one form.sets_two ends.lower
    × IsEndOf form.sets_two form.sets_one ends.upper

pub record IsOutcomeOf (form : SequenceForm) (outcome : Outcome) : Type 0 where
  pub unit : IsFromTo 1 most outcome.head.unit
  pub sum : IsWholeIn outcome.head.unit outcome.head.sum
  pub ends : AreEndsOf form outcome.ends
