-- What the text of a certificate says, as numbers.
use Rattle.std.specs.Prelude.{ℕ, ◌-◌, List, [], ◌∷◌, ◌++◌, length, slice_index_or, pos, Option}
use Rattle.def_fraction.specs.Fraction.{Fraction}
use Rattle.def_reply.specs.Reply.{Reply}
use Rattle.def_reply.specs.declared.TraceLine.{TraceLine}
use Rattle.def_reply.specs.Outcome.{Head}

-- a plan: its root, and for each set the numbers of its sequences
pub record PrintedPlan : Type 0 where
  pub root : ℕ
  pub weights : List (List ℕ)

-- the trace, both plans with the other player's reply to each, and the last bracket in payoff units
pub record PrintedBounds : Type 0 where
  pub trace : List TraceLine
  pub plan_one : PrintedPlan
  pub reply_two : Reply
  pub plan_two : PrintedPlan
  pub reply_one : Reply
  pub low : Fraction
  pub high : Fraction

-- the head, and the bounds where at least one round was asked
pub record Certificate : Type 0 where
  pub head : Head
  pub bounds : Option PrintedBounds

abbrev pub joined : List (List ℕ) → List ℕ
joined [] = []
joined (ws ∷ wss) = ws ++ joined wss

-- the numbers of all sequences of a printed plan
abbrev pub printed_numbers : PrintedPlan → List ℕ
printed_numbers plan = plan.root ∷ joined plan.weights

-- the last line of a trace, which has one
abbrev pub no_line : TraceLine
no_line = record { round = 0; low_round = 0; low = pos 0; high_round = 0; high = pos 0 }

abbrev pub last_line : List TraceLine → TraceLine
last_line lines = slice_index_or lines (length lines - 1) no_line
