use Rattle.std.proofs.Common.{◌≡◌, [], length, All}
use Rattle.std.specs.Prelude.{vec_capacity}
use Rattle.xg_batch.proofs.crew.new_crew.Given as goal

abbrev pub invariant-loop : goal.invariant-loop
invariant-loop l = record {
  len : length l.crew.items ≡ l.counter;
  room : vec_capacity l.crew ≡ l.count;
  fresh : All (λ w. w.items.items ≡ []) l.crew.items;
}
