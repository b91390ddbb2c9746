use Rattle.std.proofs.Common.{◌≡◌, ◌+◌, ◌<◌, ◌≤◌, ℕ, length}
use Rattle.std.specs.Prelude.{Contains}
use Rattle.xg_words.proofs.crew.join_all.Given as goal

abbrev pub invariant-loop-member : goal.invariant-loop-member
invariant-loop-member g l = record {
  table : l.owner.table ≡ l.initial.owner.table;
  unjoined : l.owner.unjoined + length l.yielded ≡ l.initial.owner.unjoined;
  past : 0 < length l.yielded → (n : ℕ) × Contains l.owner.numbers n × (g.N.RowName.jobs ≤ n);
}
