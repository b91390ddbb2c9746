use Rattle.std.proofs.Common.{◌+◌}
use Rattle.xg_close_numbers.proofs.comparing.+is_at_most.Given as goal

abbrev pub decreases-is_at_most : goal.decreases-is_at_most
decreases-is_at_most l = l.b + l.d
