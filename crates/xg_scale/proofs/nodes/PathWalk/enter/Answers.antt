use Rattle.std.proofs.Common.{◌∙◌, subst, sym, rules}
use Rattle.def_game_numbers.specs.Numbers.{tables_of}
use Rattle.xg_scale.specs.Leaf.{TakesIn}
use Rattle.xg_scale.specs.Walked.{MayCome, numbers_below}
use Rattle.xg_scale.specs.declared.path.PathNumbers.{PathNumbers}
use Rattle.xg_scale.proofs.nodes.PathWalk.enter.Goals as goal

pub numbers_at-requires-clause-action : goal.numbers_at-requires-clause-action
numbers_at-requires-clause-action c = subst (MayCome c.args.self.now.game.now) (sym c.innermost.ensures) c.requires.action

pub returns-clause-ok : goal.returns-clause-ok
returns-clause-ok c = record {
  passes = search rules;
  sum = search rules;
  unit = search rules;
  limit = search rules;
  fractions = search rules;
  range = subst (λ (numbers : PathNumbers). TakesIn c.args.node numbers c.args.self.now.expected.range c.judge.new.self.range)
      (c.in-Ok.ensures.1 ∙ (λ i. numbers_below (tables_of c.args.self.now.game.now) (c.innermost.ensures i) c.args.node))
      c.in_ok-judge.ensures.range;
  innermost = search rules;
  outer = search rules;
}
