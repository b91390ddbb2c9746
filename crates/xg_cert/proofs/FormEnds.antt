-- The ends of an outcome, by their players.
use Rattle.std.proofs.Common.{◌≡◌, length, refl}
use Rattle.def_tree.specs.declared.Player.{Player}
use Rattle.def_tree.specs.declared.Player.TheVariants.{One, Two}
use Rattle.def_plan.specs.Form.{player_sets, sequence_count}
use Rattle.def_cert_accepted.specs.OfOutcome.{printed_plan}
use Rattle.xg_cert.specs.declared.bounds.FormBounds.{FormBounds}
use Rattle.xg_cert.specs.Printed.{plan_in, reply_in}
use Rattle.xg_cert.specs.Writable.{AreFormBounds, end_in, form_bounds, reply_end_in}

pub plan_is : (player : Player) (b : FormBounds)
    → plan_in player (form_bounds b) ≡ printed_plan (player_sets b.form.now player) (end_in player b).plan
plan_is One b = refl
plan_is Two b = refl

pub reply_is : (player : Player) (b : FormBounds) → reply_in player (form_bounds b) ≡ (reply_end_in player b).reply
reply_is One b = refl
reply_is Two b = refl

-- a plan has a number for each sequence of its player
pub plan_length : (player : Player) (b : FormBounds) → AreFormBounds b
    → length (end_in player b).plan ≡ sequence_count (player_sets b.form.now player)
plan_length One b are = are.lower.plan
plan_length Two b are = are.upper.plan

-- and a reply a value for each set
pub reply_length : (player : Player) (b : FormBounds) → AreFormBounds b
    → length (reply_end_in player b).reply.sets ≡ length (player_sets b.form.now player)
reply_length One b are = are.upper.reply
reply_length Two b are = are.lower.reply
