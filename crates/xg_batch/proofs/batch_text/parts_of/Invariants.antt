use Rattle.std.proofs.Common.{◌≡◌, length, take}
use Rattle.std.specs.List.{AllZip}
use Rattle.std.specs.Prelude.{vec_capacity}
use Rattle.xg_batch.specs.Texts.{IsTextPart}
use Rattle.xg_batch.proofs.batch_text.parts_of.Given as goal

abbrev pub invariant-items : goal.invariant-items
invariant-items l = record {
  so_far : AllZip IsTextPart (take l.i l.items) l.parts.items;
  count : length l.parts.items ≡ l.i;
  room : vec_capacity l.parts ≡ length l.items;
}
