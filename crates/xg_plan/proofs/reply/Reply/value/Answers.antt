use Rattle.std.proofs.Common.{rules, ◌-◌, ◌<◌, ◌∙◌, Some, ap, arith, length, slice_get, sym}
use Rattle.std.proofs.lemmas.Option.{slice_get-get_or}
use mir.Val.{SFits}
use mir.Syntax.{w128}
use Rattle.std.proofs.lemmas.Int.{to_z-of_z}
use Rattle.def_reply.specs.Reply.{values_of}
use Rattle.xg_plan.proofs.ReplyLemmas.{values-set_replies, length-set_replies}
use Rattle.xg_plan.proofs.reply.Reply.value.Goals as goal

pub index-requires : goal.index-requires
index-requires c =
    omega (
      arith,
      c.requires.from_one,
      c.requires.there,
      ap (λ w. length w.reply.sets) c.self.view_is,
      length-set_replies c.self.inside.values.items c.self.inside.choices.items c.self.invariant,
      c.self.invariant,
    )

pub returns : goal.returns
returns c =
    let below : c.args.set - 1 < length c.self.inside.values.items =
    omega (
      arith,
      c.requires.from_one,
      c.requires.there,
      ap (λ w. length w.reply.sets) c.self.view_is,
      length-set_replies c.self.inside.values.items c.self.inside.choices.items c.self.invariant,
      c.self.invariant,
    ) in
    let fits : SFits w128 c.index.result.now = search rules in
    ap (λ w. slice_get (values_of w.reply.sets) (c.args.set - 1)) (sym c.self.view_is)
    ∙ ap (λ xs. slice_get xs (c.args.set - 1)) (values-set_replies c.self.inside.values.items c.self.inside.choices.items c.self.invariant)
    ∙ slice_get-get_or c.self.inside.values.items (c.args.set - 1) c.index.result.now below
    ∙ ap Some (sym c.index.ensures ∙ sym (to_z-of_z w128 c.index.result.now fits))
