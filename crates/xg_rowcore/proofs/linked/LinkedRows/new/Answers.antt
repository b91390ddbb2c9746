use Rattle.std.proofs.Common.{subst, sym, ◌∙◌, arith}
use Rattle.xg_rowcore.specs.Chains.{AreChains}
use Rattle.xg_rowcore.proofs.Rising.{rising_zeros}
use Rattle.xg_rowcore.proofs.linked.LinkedRows.new.Goals as goal

pub invariant_of-result : goal.invariant_of-result
invariant_of-result c = (
  rising_zeros c.args.rows.items c.requires.rising,
  record {
    first_count = c.link.ensures.first ∙ c.in_ok-chains.ensures.kept.first_count;
    next_count = c.link.ensures.next ∙ c.in_ok-chains.ensures.kept.next_count ∙ c.len.ensures ∙ c.args.rows.ok.0;
    few = omega (arith, c.link.ensures.stripes);
    linked = λ some.
        subst (λ n. AreChains 0 n c.args.rows.items c.link.new.self.first.items c.link.new.self.next.items) (sym c.link.ensures.stripes)
        (subst (λ rows. AreChains 0 16 rows c.link.new.self.first.items c.link.new.self.next.items) c.deref.ensures.value c.link.ensures.linked);
  },
  c.link.ensures.stripes,
)
