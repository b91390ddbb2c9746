use Rattle.std.proofs.Common.{◌+◌, ◌-◌, [], ◌∷◌, ◌++◌, length, sym, ◌∙◌, arith}
use Rattle.xg_read.proofs.Names.{names_next}
use Rattle.xg_read.proofs.reader.Reader.names.Goals as goal

pub names-preserved : goal.names-preserved
names-preserved c =
    let whole = c.args.self.now.whole in
    let done = c.names.invariant.0 in
    let text = c.in_ok-text.text in (
      done ++ text ∷ [],
      c.in_ok-text.ensures.whole ∙ c.names.invariant.1,
      c.with_name-names.ensures.first done c.names.invariant.2,
      (let counted = c.names.invariant.3 in omega (arith, c.with_name-names.ensures.count, counted)),
      c.names.invariant.4 ∙ names_next (length whole - c.names.counter) (length whole - (c.names.counter + 1)) done text
          whole c.names.self.whole c.names.self.at c.next_view.new.self.at c.names.invariant.1 (omega arith) (sym c.comes.ensures ∙ c.if-comes.false)
          c.in_ok-text.ensures.exact,
    )
