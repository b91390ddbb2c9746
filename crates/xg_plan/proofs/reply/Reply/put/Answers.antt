use Rattle.std.proofs.Common.{◌-◌, ◌∙◌, ap, arith, length}
use Rattle.std.proofs.Math.ListN.{set}
use Rattle.std.proofs.lemmas.Int.{to_z-of_z}
use Rattle.xg_plan.specs.Reply.{set_replies}
use mir.Syntax.{w128}
use Rattle.xg_plan.proofs.ReplyLemmas.{length-set_replies, set-set_replies}
use Rattle.xg_plan.proofs.reply.Reply.put.Goals as goal

pub index_mut-requires : goal.index_mut-requires
index_mut-requires c =
    omega (
      arith,
      c.requires.from_one,
      c.requires.there,
      ap (λ w. length w.reply.sets) c.self.view_is,
      length-set_replies c.self.inside.values.items c.self.inside.choices.items c.self.invariant,
      c.self.invariant,
    )

pub index_mut-requires-2 : goal.index_mut-requires-2
index_mut-requires-2 c =
    omega (
      arith,
      c.requires.from_one,
      c.requires.there,
      ap (λ w. length w.reply.sets) c.self.view_is,
      length-set_replies c.self.inside.values.items c.self.inside.choices.items c.self.invariant,
      c.self.invariant,
    )

pub returns-clause-sets : goal.returns-clause-sets
returns-clause-sets c =
    ap (λ v. set_replies (set c.self.inside.values.items (c.args.set - 1) v) (set c.self.inside.choices.items (c.args.set - 1) c.args.choice))
    (to_z-of_z w128 c.args.value c.ranges.value)
    ∙ set-set_replies c.self.inside.values.items c.self.inside.choices.items (c.args.set - 1) c.args.value c.args.choice c.self.invariant
    ∙ ap (λ w. set w.reply.sets (c.args.set - 1) (record { value = c.args.value; choice = c.args.choice })) c.self.view_is
