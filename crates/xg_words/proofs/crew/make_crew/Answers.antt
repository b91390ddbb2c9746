use Rattle.std.proofs.Common.{◌+◌, [], ◌∷◌, length, length-append, ap, ◌∙◌, arith, rules}
use Rattle.std.proofs.lemmas.List.Elements.{All-push}
use Rattle.xg_words.specs.Holdings.{WorkerClaims, OwnerClaims}
use Rattle.xg_words.specs.Running.{IsReadyToClaim}
use Rattle.xg_words.proofs.Claimed.{new_is_ready}
use Rattle.xg_words.proofs.crew.make_crew.Goals as goal

pub loop-number-preserved : goal.loop-number-preserved
loop-number-preserved g c =
    let table = c.args.board.now.table.shared.table_id in
    let crew = c.loop-number.crew.items in
    let items = c.push_reserved.ensures.items in
    let owner = c.loop-number.invariant.owner_is in
    let worker = c.worker-worker.ensures.worker in
    let ready : IsReadyToClaim table g.N.RowName.jobs g.N.RowName.rows g.N.RowName.amount c.args.room c.worker-worker.result c.in_ok-packet.packet.entries =
    new_is_ready table g.N.RowName.jobs g.N.RowName.rows g.N.RowName.amount c.args.room c.worker-worker.result c.in_ok-packet.packet.entries
    (ap (λ (w : WorkerClaims). w.table) worker ∙ ap (λ (o : OwnerClaims). o.table) owner) (ap (λ (w : WorkerClaims). w.numbers) worker)
    (omega (arith, c.in_ok-packet.ensures.room)) in
    record {
      room = search rules;
      len =
          let count = length-append crew (record { number = c.loop-number.number; worker = c.worker-worker.result; packet = c.in_ok-packet.packet } ∷ []) in
          omega (arith, ap length items, count, c.loop-number.invariant.len);
      ready =
          rw items
          (All-push (λ m. IsReadyToClaim table g.N.RowName.jobs g.N.RowName.rows g.N.RowName.amount c.args.room m.worker m.packet.entries) crew
          (record { number = c.loop-number.number; worker = c.worker-worker.result; packet = c.in_ok-packet.packet }) c.loop-number.invariant.ready ready);
      owner_is =
          c.worker-worker.ensures.owner ∙ ap (λ (o : OwnerClaims). record {
            table = o.table;
            numbers = o.numbers;
            made = o.made + 1;
            unjoined = o.unjoined + 1;
          }) owner;
    }
