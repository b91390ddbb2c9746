use Rattle.std.proofs.Common.{ℕ, ◌∷◌, ap, sym, ◌∙◌}
use Rattle.xg_words.specs.Holdings.{WorkerClaims}
use Rattle.xg_words.proofs.Claimed.{claimed_complete}
use Rattle.xg_words.proofs.crew.work.Goals as goal

pub returns-in_default : goal.returns-in_default
returns-in_default g c =
    let e = c.in_default.ensures in
    let was = c.loop.member.worker in
    record {
      here = ap (λ (w : WorkerClaims). w.table) e.1 ∙ c.loop.invariant.here;
      complete =
          claimed_complete g.N.RowName.jobs g.N.RowName.rows g.N.RowName.amount c.claim.new.worker e.0 was.numbers (ap (λ (w : WorkerClaims). w.numbers) e.1)
          e.2;
      last = e.0;
      earlier = was.numbers;
      numbers_are = ap (λ (w : WorkerClaims). w.numbers) e.1;
      past = e.2;
    }

pub add-requires-clause-last : goal.add-requires-clause-last
add-requires-clause-last g c =
    let e = c.in-Some-claim.ensures in (
      c.loop.member.worker.numbers,
      ap (λ (w : WorkerClaims). w.numbers) e.1
          ∙ ap (λ (n : ℕ). n ∷ c.loop.member.worker.numbers) (sym (c.packet_into.ensures.job ∙ e.2.0)),
    )
