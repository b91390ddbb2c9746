use Rattle.def_tree.specs.declared.Player.TheVariants.{One, Two}
use Rattle.xg_engine.proofs.source.RowSource.new.Goals as goal

pub returns-clause-source : goal.returns-clause-source
returns-clause-source g c = record {
  sync = c.requires.sync;
  can = c.requires.can;
  table = c.requires.table;
  form = record {
    order_one = c.facts.ensures.order One;
    order_two = c.facts.ensures.order Two;
    small_mass = c.facts.ensures.mass;
  };
}
