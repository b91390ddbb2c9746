-- What a run leaves: its head, its trace, and an end for each player where at least one round was asked.
use Rattle.std.specs.Prelude.{ℕ, List, Option}
use Rattle.def_fraction.specs.Fraction.{Fraction}
use Rattle.def_reply.specs.Reply.{Reply}
use Rattle.def_reply.specs.declared.TraceLine.{TraceLine}

-- the game's numbers, with what each leaf pays both players together, and what was asked of the run
pub record Head : Type 0 where
  pub nodes : ℕ
  pub leaves : ℕ
  pub sets_one : ℕ
  pub sets_two : ℕ
  pub sequences_one : ℕ
  pub sequences_two : ℕ
  pub unit : ℕ
  pub sum : Fraction
  pub mass : ℕ
  pub rounds : ℕ
  pub every : ℕ
  pub scale : ℕ

-- a plan, and the other player's reply to it
pub record End : Type 0 where
  pub plan : List ℕ
  pub reply : Reply

-- player one's plan at the lower end, and player two's at the upper one
pub record OutcomeEnds : Type 0 where
  pub lower : End
  pub upper : End

pub record Outcome : Type 0 where
  pub head : Head
  pub trace : List TraceLine
  pub ends : Option OutcomeEnds
