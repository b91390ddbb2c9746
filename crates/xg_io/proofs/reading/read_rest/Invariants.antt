use Rattle.std.proofs.Common.{◌≡◌, ◌+◌, ◌-◌, ◌≤◌, IsTrue, vec_len}
use Rattle.std.specs.Io.KnownBytes.{Consumes}
use Rattle.xg_io.proofs.reading.read_rest.Given as goal

abbrev pub invariant-loop-n : goal.invariant-loop-n
invariant-loop-n g l = let files = g.F.Files in record {
  file : IsTrue (files.is_open l.files);
  counted : files.taken l.files ≡ vec_len l.bytes;
  within : vec_len l.bytes ≤ l.limit;
  read : Consumes (files.left l.fn.files) (files.left l.files) l.bytes.items;
  same_told : files.told l.files ≡ files.told l.fn.files;
  same_names : files.may_open l.files ≡ files.may_open l.fn.files;
  same_opens : files.opens l.files ≡ files.opens l.fn.files;
  blameless : files.faults l.files ≡ files.faults l.fn.files;
}

abbrev pub decreases-loop-n : goal.decreases-loop-n
decreases-loop-n g l = l.limit + 1 - vec_len l.bytes
