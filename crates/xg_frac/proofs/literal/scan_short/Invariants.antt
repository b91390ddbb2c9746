use Rattle.std.proofs.Common.{◌≡◌, drop}
use Rattle.xg_frac.specs.Scan.{ScansPart}
use Rattle.xg_frac.proofs.literal.scan_short.Given as goal

abbrev pub invariant-loop-byte : goal.invariant-loop-byte
invariant-loop-byte l = (l.len ≡ l.byte-index) × ScansPart l.fn.start l.fn.bytes l.number l.byte-index (drop l.byte-index l.bytes)
