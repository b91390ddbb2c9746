use Rattle.std.proofs.Common.{◌+◌, [], ◌∷◌, length, length-append, ap, ◌∙◌, arith, rules}
use Rattle.std.proofs.lemmas.List.Elements.{All-push}
use Rattle.xg_locked.specs.Rights.{number_from}
use Rattle.xg_board.specs.Holdings.{Holding}
use Rattle.xg_board.specs.Running.{IsReady}
use Rattle.xg_board.proofs.run.make_crew.Goals as goal

pub loop-number-preserved : goal.loop-number-preserved
loop-number-preserved g c =
    let number = number_from c.args.board.now.jobs c.args.board.now.stripes in
    let crew = c.loop-number.crew.items in
    let items = c.push_reserved.ensures.items in
    let pass = c.pass-pass.ensures.pass in
    let purse = c.loop-number.invariant.purse_is in
    let ready : IsReady number c.args.room c.pass-pass.result c.in_ok-packet.packet.entries = record {
      number_is = ap (λ (h : Holding). h.number) pass ∙ ap (λ p. p.number) purse;
      no_right = ap (λ (h : Holding). h.rights) pass;
      ticket = ap (λ (h : Holding). h.tickets) pass;
      has_room = omega (arith, c.in_ok-packet.ensures.room);
    } in
    record {
      room = search rules;
      len =
          let count = length-append crew (record { pass = c.pass-pass.result; packet = c.in_ok-packet.packet } ∷ []) in
          omega (arith, ap length items, count, c.loop-number.invariant.len);
      ready =
          rw items
          (All-push (λ w. IsReady number c.args.room w.pass w.packet.entries) crew
          (record { pass = c.pass-pass.result; packet = c.in_ok-packet.packet }) c.loop-number.invariant.ready ready);
      purse_is = c.pass-pass.ensures.purse ∙ ap (λ p. record { made = p.made + 1; number = p.number }) purse;
    }
