use Rattle.std.proofs.Common.{◌+◌, ◌-◌, length, sym, ◌∙◌, arith}
use Rattle.xg_read.proofs.Items.{actions_next}
use Rattle.xg_read.proofs.reader.Reader.actions_in_braces.Goals as goal

pub actions-preserved : goal.actions-preserved
actions-preserved c =
    let whole = c.args.self.now.whole in
    record {
      whole = c.in_ok-action.ensures.whole ∙ c.actions.invariant.whole;
      rest = c.actions.invariant.rest ∙ actions_next c.args.kind (length whole - c.actions.counter) (length whole - (c.actions.counter + 1)) c.actions.actions
          c.push.new.self
          whole c.actions.self.whole c.actions.self.at c.action.new.self.at _ c.actions.invariant.whole (omega arith) (sym c.comes.ensures ∙ c.if-comes.false)
          c.in_ok-action.ensures.exact c.in-Ok.ensures.ok;
    }
