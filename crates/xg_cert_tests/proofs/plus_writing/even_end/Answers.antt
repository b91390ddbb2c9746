use Rattle.std.proofs.Common.{ap, sym, subst, ◌∙◌, arith}
use Rattle.std.specs.Prelude.{◌≤◌, length, pos, unsigned_abs}
use Rattle.std.proofs.lemmas.List.{length-replicate}
use Rattle.def_plan.specs.Form.{player_sets}
use Rattle.def_reply.specs.Reply.{SetReply}
use Rattle.def_sums.specs.Limits.{most_row}
use Rattle.xg_plan.specs.Reply.{WorkedReply}
use Rattle.xg_cert_tests.proofs.plus_writing.even_end.Goals as goal

pub returns : goal.returns
returns c =
    let sets = player_sets c.args.form.now c.args.other in
    let none : SetReply = record { value = pos 0; choice = 1 } in
    record {
      plan = c.from_play.ensures.is_plan.all_sequences;
      reply = ap (λ (r : WorkedReply). length r.reply.sets) c.in_ok-reply.ensures ∙ length-replicate (length sets) none;
      root = (omega (arith, c.from_play.ensures.is_plan.root_weight), omega (arith, c.from_play.ensures.is_plan.root_weight));
      total = subst (λ (r : WorkedReply). unsigned_abs r.reply.total ≤ most_row) (sym c.in_ok-reply.ensures) (omega arith);
    }
