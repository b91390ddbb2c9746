-- The lines that say why there is no text.
use Rattle.std.specs.Prelude.{ℕ, List, ◌++◌, codes}
use Rattle.std.specs.Fmt.{decimal}
use Rattle.def_fraction.specs.declared.fault.NumberFault.{NumberFault}
use Rattle.def_fraction.specs.declared.fault.NumberFault.TheVariants.{Form, ZeroDenominator, Range}
use Rattle.def_file.specs.declared.FileFault.{FileFault}
use Rattle.def_file.specs.declared.FileFault.TheVariants.{TooLong, Syntax, UnexpectedEnd, TrailingText, Number, Players}
use Rattle.def_file.specs.declared.FileFault.TheVariants.{PlayerNumber, SetUndefined, SetMismatch, OutcomeUndefined}
use Rattle.def_file.specs.declared.FileFault.TheVariants.{OutcomeMismatch, PayoffCount, TooManyNodes, ActionCount}
use Rattle.def_file.specs.declared.FileFault.TheVariants.{ChanceNegative, ChanceSum, NotConstantSum, NotRecall, Scale}
use Rattle.def_program.specs.Text.{line_feed}

abbrev pub number_fault_name : NumberFault → List ℕ
number_fault_name Form = codes "Form"
number_fault_name ZeroDenominator = codes "ZeroDenominator"
number_fault_name Range = codes "Range"

-- the line of a fault of this number and name at a node
abbrev pub node_line : List ℕ → ℕ → List ℕ
node_line fault node = codes "refused " ++ (fault ++ (codes " node " ++ (decimal node ++ line_feed)))

-- the number of the fault, its name and its place
abbrev pub fault_line : FileFault → List ℕ
fault_line TooLong = codes "refused 1 TooLong" ++ line_feed
fault_line (Syntax at) = codes "refused 2 Syntax at " ++ (decimal at ++ line_feed)
fault_line UnexpectedEnd = codes "refused 3 UnexpectedEnd" ++ line_feed
fault_line (TrailingText at) = codes "refused 4 TrailingText at " ++ (decimal at ++ line_feed)
fault_line (Number at fault) =
    codes "refused 5 Number at " ++ (decimal at ++ (codes " " ++ (number_fault_name fault ++ line_feed)))
fault_line (Players count) = codes "refused 6 Players count " ++ (decimal count ++ line_feed)
fault_line (PlayerNumber node) = node_line (codes "7 PlayerNumber") node
fault_line (SetUndefined node) = node_line (codes "8 SetUndefined") node
fault_line (SetMismatch node) = node_line (codes "9 SetMismatch") node
fault_line (OutcomeUndefined node) = node_line (codes "10 OutcomeUndefined") node
fault_line (OutcomeMismatch node) = node_line (codes "11 OutcomeMismatch") node
fault_line (PayoffCount node) = node_line (codes "12 PayoffCount") node
fault_line TooManyNodes = codes "refused 13 TooManyNodes" ++ line_feed
fault_line (ActionCount node) = node_line (codes "14 ActionCount") node
fault_line (ChanceNegative node) = node_line (codes "15 ChanceNegative") node
fault_line (ChanceSum node) = node_line (codes "16 ChanceSum") node
fault_line (NotConstantSum node) = node_line (codes "17 NotConstantSum") node
fault_line (NotRecall node earlier) =
    codes "refused 18 NotRecall node " ++ (decimal node ++ (codes " earlier " ++ (decimal earlier ++ line_feed)))
fault_line (Scale node) = node_line (codes "19 Scale") node

abbrev pub usage_line : List ℕ
usage_line = codes "usage: xg_solve solve FILE [--rounds N] [--every N] [--scale N] [--workers N] [--atomic N]"
    ++ (codes " | check FILE CERT | upgrade FILE CERT | info FILE | gen N | drill N | plus FILE | batch FILE..."
    ++ line_feed)

abbrev pub read_line : List ℕ
read_line = codes "read fault" ++ line_feed

abbrev pub write_line : List ℕ
write_line = codes "write fault" ++ line_feed

abbrev pub memory_line : List ℕ
memory_line = codes "want of memory" ++ line_feed
