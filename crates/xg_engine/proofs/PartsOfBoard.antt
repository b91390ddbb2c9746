-- The ends among the parts of a board are those of the outcome with it.
use Rattle.std.proofs.Common.{◌≡◌, Option, Some, None, refl, sym}
use Rattle.std.proofs.lemmas.Option.{none-some}
use Rattle.std.specs.Option.{option_map}
use Rattle.def_reply.specs.Offers.{KeptEnd}
use Rattle.def_run.specs.Run.{both_ends}
use Rattle.xg_bracket.specs.declared.parts.PlanAndReply.{PlanAndReply}
use Rattle.xg_engine.specs.Runs.{ends_of_parts}

-- where the plans and the replies of both ends are those that are kept, so are the ends
pub ends_of_board : (ends : Option (PlanAndReply × PlanAndReply)) (lower upper : Option KeptEnd)
    → option_map (λ (e : PlanAndReply × PlanAndReply). e.0.plan) ends ≡ option_map (λ (k : KeptEnd). k.plan) lower
    → option_map (λ (e : PlanAndReply × PlanAndReply). e.0.reply.reply) ends ≡ option_map (λ (k : KeptEnd). k.reply) lower
    → option_map (λ (e : PlanAndReply × PlanAndReply). e.1.plan) ends ≡ option_map (λ (k : KeptEnd). k.plan) upper
    → option_map (λ (e : PlanAndReply × PlanAndReply). e.1.reply.reply) ends ≡ option_map (λ (k : KeptEnd). k.reply) upper
    → option_map ends_of_parts ends ≡ both_ends lower upper
ends_of_board None None upper plan_one reply_two plan_two reply_one = refl
ends_of_board None (Some low) None plan_one reply_two plan_two reply_one = refl
ends_of_board None (Some low) (Some high) plan_one reply_two plan_two reply_one = absurd (none-some low.plan plan_one)
ends_of_board (Some e) None upper plan_one reply_two plan_two reply_one = absurd (none-some e.0.plan (sym plan_one))
ends_of_board (Some e) (Some low) None plan_one reply_two plan_two reply_one = absurd (none-some e.1.plan (sym plan_two))
ends_of_board (Some e) (Some low) (Some high) plan_one reply_two plan_two reply_one =
    let p : e.0.plan ≡ low.plan = cc in
    let q : e.0.reply.reply ≡ low.reply = cc in
    let r : e.1.plan ≡ high.plan = cc in
    let s : e.1.reply.reply ≡ high.reply = cc in
    λ i. Some (record { lower = record { plan = p i; reply = q i }; upper = record { plan = r i; reply = s i } })
