use Rattle.std.proofs.Common.{◌+◌, ◌-◌, length, sym, ◌∙◌, arith}
use Rattle.xg_read.proofs.Items.{payoffs_next}
use Rattle.xg_read.proofs.reader.Reader.payoffs_in_braces.Goals as goal

pub payoffs-preserved : goal.payoffs-preserved
payoffs-preserved c =
    let whole = c.args.self.now.whole in
    record {
      whole = c.in_ok-payoff.ensures.whole ∙ c.payoffs.invariant.whole;
      rest = c.payoffs.invariant.rest ∙ payoffs_next (length whole - c.payoffs.counter) (length whole - (c.payoffs.counter + 1)) c.payoffs.payoffs
          c.push.new.self
          whole c.payoffs.self.whole c.payoffs.self.at c.payoff.new.self.at _ c.payoffs.invariant.whole (omega arith) (sym c.comes.ensures ∙ c.if-comes.false)
          c.in_ok-payoff.ensures.exact c.in-Ok.ensures.ok;
    }
