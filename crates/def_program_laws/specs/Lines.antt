-- Worked rows: the lines of the faults of a file that def_program has no row of, and the lines of the statuses.
use Rattle.std.specs.Prelude.{◌≡◌, ◌↔◌, ℕ, ◌≤◌, List, ◌++◌, codes}
use Rattle.def_fraction.specs.declared.fault.NumberFault.TheVariants.{Form, ZeroDenominator}
use Rattle.def_file.specs.declared.FileFault.TheVariants.{TooLong, UnexpectedEnd, TrailingText, Number, PlayerNumber}
use Rattle.def_file.specs.declared.FileFault.TheVariants.{SetUndefined, OutcomeUndefined, OutcomeMismatch, PayoffCount}
use Rattle.def_file.specs.declared.FileFault.TheVariants.{TooManyNodes, ActionCount, ChanceNegative, ChanceSum}
use Rattle.def_file.specs.declared.FileFault.TheVariants.{NotConstantSum, Scale}
use Rattle.def_command.specs.Grammar.{command_of_words}
use Rattle.def_program.specs.TextLines.{fault_line}
use Rattle.def_program.specs.Lines.{IsCheck, IsLine}

pub record OtherFaultLineRows : Type 0 where
  pub too_long : fault_line TooLong ≡ codes "refused 1 TooLong\n"
  pub unexpected_end : fault_line UnexpectedEnd ≡ codes "refused 3 UnexpectedEnd\n"
  pub trailing_text : fault_line (TrailingText 70) ≡ codes "refused 4 TrailingText at 70\n"
  pub form : fault_line (Number 4 Form) ≡ codes "refused 5 Number at 4 Form\n"
  pub zero_denominator : fault_line (Number 61 ZeroDenominator) ≡ codes "refused 5 Number at 61 ZeroDenominator\n"
  pub player_number : fault_line (PlayerNumber 1) ≡ codes "refused 7 PlayerNumber node 1\n"
  pub set_undefined : fault_line (SetUndefined 2) ≡ codes "refused 8 SetUndefined node 2\n"
  pub outcome_undefined : fault_line (OutcomeUndefined 3) ≡ codes "refused 10 OutcomeUndefined node 3\n"
  pub outcome_mismatch : fault_line (OutcomeMismatch 4) ≡ codes "refused 11 OutcomeMismatch node 4\n"
  pub payoff_count : fault_line (PayoffCount 5) ≡ codes "refused 12 PayoffCount node 5\n"
  pub too_many_nodes : fault_line TooManyNodes ≡ codes "refused 13 TooManyNodes\n"
  pub action_count : fault_line (ActionCount 1048576) ≡ codes "refused 14 ActionCount node 1048576\n"
  pub chance_negative : fault_line (ChanceNegative 6) ≡ codes "refused 15 ChanceNegative node 6\n"
  pub chance_sum : fault_line (ChanceSum 7) ≡ codes "refused 16 ChanceSum node 7\n"
  pub not_constant_sum : fault_line (NotConstantSum 8) ≡ codes "refused 17 NotConstantSum node 8\n"
  pub scale : fault_line (Scale 9) ≡ codes "refused 19 Scale node 9\n"

-- whatever the words are, a line goes with this status exactly where it is of these bytes
abbrev HasItsLine : ℕ → List ℕ → Type 0
HasItsLine status bytes = (words : List (List ℕ)) (taken : ℕ) (line : List ℕ)
    → IsLine (IsCheck (command_of_words words)) taken status line ↔ (line ≡ bytes)

-- each status from 2 to 5 has one line, and a line goes with no other status but 1
pub record StatusesHaveTheirLines : Type 0 where
  pub words : HasItsLine 2
      (codes "usage: xg_solve solve FILE [--rounds N] [--every N] [--scale N] [--workers N] [--atomic N]"
      ++ codes " | check FILE CERT | upgrade FILE CERT | info FILE | gen N | drill N | plus FILE | batch FILE...\n")
  pub reading : HasItsLine 3 (codes "read fault\n")
  pub writing : HasItsLine 4 (codes "write fault\n")
  pub memory : HasItsLine 5 (codes "want of memory\n")
  pub no_other : (words : List (List ℕ)) (taken status : ℕ) (line : List ℕ)
      → IsLine (IsCheck (command_of_words words)) taken status line → (1 ≤ status) × (status ≤ 5)
