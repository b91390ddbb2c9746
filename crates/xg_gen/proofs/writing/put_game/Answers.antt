use Rattle.std.proofs.Common.{codes, Ok, Err, arith, rules}
use Rattle.def_outside.specs.Sinks.{Writes}
use Rattle.def_canon.specs.Canon.{game_pieces, prologue_pieces}
use Rattle.xg_gen.proofs.Written.{first_canon, first_part, then_feed, then_part}
use Rattle.xg_gen.proofs.writing.put_game.Goals as goal

pub returns-in_err-put_prologue-clause-text : goal.returns-in_err-put_prologue-clause-text
unfolding game_pieces
returns-in_err-put_prologue-clause-text g c = grind (arith, first_canon, first_part, then_feed, then_part)

pub returns-in_err-put_lines-clause-text : goal.returns-in_err-put_lines-clause-text
unfolding game_pieces
returns-in_err-put_lines-clause-text g c =
    let game = c.args.game.now in
    let prologue = g.O.Sink.written c.put_prologue.new.out in
    let now = g.O.Sink.written c.put_lines.new.out in
    let fact = first_canon (g.O.Sink.written c.args.out.now) now game
    (then_part {T = Unit {0}} {E = Unit {0}} (g.O.Sink.written c.args.out.now) prologue now (prologue_pieces game.prologue) _ (Err tt)
    c.in_ok-put_prologue.ensures.text c.in_err-put_lines.ensures.text) in
    search (rules, fact)

pub returns-clause-text : goal.returns-clause-text
unfolding game_pieces
returns-clause-text g c =
    let game = c.args.game.now in
    let before = g.O.Sink.written c.args.out.now in
    let prologue = g.O.Sink.written c.put_prologue.new.out in
    let lines = g.O.Sink.written c.put_lines.new.out in
    let now = g.O.Sink.written c.write_all.new.sink in
    let feed : Writes lines now (codes "\n") c.write_all.result = search (rules, c.write_all.ensures.appended, c.write_all.ensures.prefix) in
    then_feed before lines now game c.write_all.result
    (then_part {T = Unit {0}} {E = Unit {0}} before prologue lines (prologue_pieces game.prologue) _ (Ok tt) c.in_ok-put_prologue.ensures.text
    c.in_ok-put_lines.ensures.text)
    feed
