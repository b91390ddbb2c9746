use Rattle.std.proofs.Common.{◌≡◌, ◌-◌, ◌<◌, ◌≤◌, length, take}
use Rattle.def_history.specs.History.{stripe_of}
use Rattle.xg_rowcore.specs.Packets.{entry_in}
use Rattle.xg_rowcore.specs.Stripes.{HasGrown}
use Rattle.xg_rowcore.proofs.stripe.add_rows.Given as goal

abbrev pub invariant-loop-i : goal.invariant-loop-i
invariant-loop-i g l = record {
  inside : l.i ≤ length l.packet.entries.list;
  own : l.i < length l.packet.entries.list → stripe_of l.stripes (entry_in l.packet.entries.list l.i).row ≡ l.index;
  grown : HasGrown (take l.i l.packet.entries.list) l.index l.stripes l.initial.totals.list l.totals.list;
}

abbrev pub decreases-loop-i : goal.decreases-loop-i
decreases-loop-i g l = length l.packet.entries.list - l.i
