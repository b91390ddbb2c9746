-- The parts of an outcome, as the definitions have them.
use Rattle.std.specs.Prelude.{List, Option, Some, None}
use Rattle.std.specs.Borrow.{Bor}
use Rattle.def_reply.specs.declared.TraceLine.{TraceLine}
use Rattle.def_reply.specs.Outcome as kept
use Rattle.xg_outcome.specs.declared.head.Head.{Head}
use Rattle.xg_outcome.specs.declared.outcome.End.{End}

abbrev pub head_of : Head → kept.Head
head_of head = record {
  nodes = head.nodes;
  leaves = head.leaves;
  sets_one = head.sets.0;
  sets_two = head.sets.1;
  sequences_one = head.sequences.0;
  sequences_two = head.sequences.1;
  unit = head.unit;
  sum = head.sum;
  mass = head.mass;
  rounds = head.rounds;
  every = head.every;
  scale = head.scale;
}

abbrev pub end_seen : End → kept.End
end_seen end = record { plan = end.plan; reply = end.reply.reply }

abbrev pub ends_seen : Option (End × End) → Option kept.OutcomeEnds
ends_seen None = None
ends_seen (Some ends) = Some (record { lower = end_seen ends.0; upper = end_seen ends.1 })

-- the same of borrowed ends
abbrev pub shown_ends : Option (Bor End × Bor End) → Option kept.OutcomeEnds
shown_ends None = None
shown_ends (Some ends) = Some (record { lower = end_seen ends.0.now; upper = end_seen ends.1.now })

abbrev pub outcome_seen : Head → List TraceLine → Option (End × End) → kept.Outcome
outcome_seen head trace ends = record { head = head_of head; trace = trace; ends = ends_seen ends }
