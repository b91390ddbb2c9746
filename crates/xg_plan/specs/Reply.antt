-- A reply while it is worked out.
use Rattle.std.specs.Prelude.{ℕ, List, length, map, replicate, zip, ℤ, pos}
use Rattle.def_plan.specs.Form.{InformationSet, sequence_count}
use Rattle.def_reply.specs.Reply.{Reply, SetReply}

-- a reply, and a number for each sequence as room for what it is worth
pub record WorkedReply : Type 0 where
  pub reply : Reply
  pub worths : List ℤ

-- the values and the choices of the sets in turn
abbrev pub set_replies : List ℤ → List ℕ → List SetReply
set_replies values choices = map (λ p. record { value = p.0; choice = p.1 }) (zip values choices)

abbrev pub worked : ℤ → List ℤ → List ℕ → List ℤ → WorkedReply
worked total values choices worths =
    record { reply = record { total = total; sets = set_replies values choices }; worths = worths }

-- the first action is chosen at each set, and all else is 0
abbrev pub first_reply : List InformationSet → WorkedReply
first_reply sets = record {
  reply = record { total = pos 0; sets = replicate (length sets) (record { value = pos 0; choice = 1 }) };
  worths = replicate (sequence_count sets) (pos 0);
}
