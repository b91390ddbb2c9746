use Rattle.std.proofs.Common.{◌≢◌, ◌+◌, ◌-◌, sym, ◌∙◌, arith}
use Rattle.std.proofs.lemmas.Result.{err_from_is_err_and}
use Rattle.def_tree.specs.Tree.{wanted}
use Rattle.xg_read.proofs.EntryByEntry.{entries_next, stopped}
use Rattle.xg_read.proofs.game.read_entries.Goals as goal

pub returns-in_err-take_entry-clause-exact : goal.returns-in_err-take_entry-clause-exact
returns-in_err-take_entry-clause-exact c =
    let unwhole : wanted 1 c.entries.maker.contents.nodes ≢ 0 = λ e. (let whole = sym (c.is_complete.ensures.complete.1 e) ∙ c.if-is_complete.false in cc) in
    let p = err_from_is_err_and c.from_residual.result c.from_residual.ensures.1 in
    rw (p.1, p.2)
    (stopped _ c.take_entry.new.maker.contents (c.args.most - c.entries.counter) c.entries.maker.contents _ c.args.reader.now.whole c.entries.reader.whole
    c.entries.reader.at c.take_entry.new.reader.at _ _ c.entries.invariant.rest c.entries.invariant.whole (omega arith) unwhole
    c.in_err-take_entry.ensures.exact)

pub entries-preserved : goal.entries-preserved
entries-preserved c =
    let step = c.in_ok-take_entry.ensures in
    let unwhole : wanted 1 c.entries.maker.contents.nodes ≢ 0 = λ e. (let whole = sym (c.is_complete.ensures.complete.1 e) ∙ c.if-is_complete.false in cc) in
    record {
      unspent = step.unspent;
      prologue = step.prologue ∙ c.entries.invariant.prologue;
      whole = step.whole ∙ c.entries.invariant.whole;
      rest = c.entries.invariant.rest ∙ entries_next (c.args.most - c.entries.counter) (c.args.most - (c.entries.counter + 1)) c.entries.maker.contents
          c.take_entry.new.maker.contents
          c.args.reader.now.whole c.entries.reader.whole c.entries.reader.at c.take_entry.new.reader.at c.entries.invariant.whole (omega arith) unwhole
          step.exact;
    }
