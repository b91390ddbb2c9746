-- What holds of certificates within their ranges, whoever wrote them.
-- Each law is the contract of a function of this crate.
use Rattle.std.specs.Prelude.{◌≡◌, ℕ, ◌*◌, ◌^◌, ◌≤◌, ◌<◌, ◌↔◌, List, length, slice_index, slice_index_or, All, pos}
use Rattle.std.specs.Prelude.{◌*ℤ◌, unsigned_abs, Ok}
use Rattle.def_tree.specs.declared.Player.{Player}
use Rattle.def_tree.specs.Opponent.{opponent}
use Rattle.def_sums.specs.Limits.{most_mass, most_root, most_row}
use Rattle.def_sums.specs.Sum.{nat_sum_over}
use Rattle.def_plan.specs.Form.{InformationSet, placed, Leaf, leaf_sequence}
use Rattle.def_plan.specs.Payoff.{leaf_sum, worth, mass_of}
use Rattle.def_reply.specs.Reply.{Reply, values_of}
use Rattle.def_reply.specs.declared.TraceLine.{TraceLine}
use Rattle.def_reply.specs.Outcome.{Head}
use Rattle.def_cert_verdict.specs.Certificate.{PrintedPlan, Certificate, printed_numbers}
use Rattle.def_plan.specs.Weighed.{WeighedGame}
use Rattle.def_cert_verdict.specs.Verdict.{Verdict, head_only, verdict}
use Rattle.def_cert_verdict.specs.Ranges.{most_line_product, TraceFits, PlanFits, ReplyFits, CertificateFits, HeadFits}
use Rattle.def_fraction.specs.Fraction.{most}
use Rattle.def_tree.specs.Rules.{most_nodes}

-- an accepted certificate shows its head alone exactly where no round was asked
abbrev pub HeadAloneWithoutRounds : Type 0
HeadAloneWithoutRounds = (game : WeighedGame) (c : Certificate) (shown : Verdict) → CertificateFits c
    → verdict game c ≡ Ok shown
    → (shown ≡ head_only) ↔ (c.head.rounds ≡ 0)

-- the products of two lines of a trace, each end times the other line's round, are within the limit in size
pub record ProductsOfLines (a b : TraceLine) : Type 0 where
  pub low : unsigned_abs (a.low *ℤ pos b.low_round) ≤ most_line_product
  pub high : unsigned_abs (a.high *ℤ pos b.high_round) ≤ most_line_product

-- where a trace fits its head, the products of any two of its lines are within the limit in size
abbrev pub TraceProductsAreSmall : Type 0
TraceProductsAreSmall = (head : Head) (lines : List TraceLine) (j k : ℕ) (line : TraceLine) → HeadFits head
    → TraceFits head lines
    → j < length lines → k < length lines → ProductsOfLines (slice_index_or lines j line) (slice_index_or lines k line)

-- the numbers of each set of a plan are at most 2^46 together, and the root times the unit at most both limits' product
pub record SumsOfPlan (unit : ℕ) (plan : PrintedPlan) : Type 0 where
  pub sets : All (λ ws. nat_sum_over (λ n. n) ws ≤ 2 ^ 46) plan.weights
  pub scaled : unit * plan.root ≤ most * most_root

-- where a plan fits and the unit is within the limit of a fraction, the sums of the plan are small
abbrev pub PlanSumsAreSmall : Type 0
PlanSumsAreSmall = (unit sets : ℕ) (plan : PrintedPlan) → unit ≤ most → PlanFits sets plan → SumsOfPlan unit plan

-- all leaves' products with a printed plan are at most the limit of a row together, all printed values at most 2^120,
-- and so each worth is at most 2^121 in size
pub record SumsOfReply (player : Player) (leaves : List Leaf) (sets : List InformationSet) (plan : PrintedPlan)
    (reply : Reply) : Type 0 where
  pub leaf_sums : nat_sum_over (λ z. unsigned_abs (z.weight
      *ℤ pos (slice_index (printed_numbers plan) (leaf_sequence (opponent player) z)))) leaves ≤ most_row
  pub values : nat_sum_over (λ r. unsigned_abs r.value) reply.sets ≤ 2 ^ 120
  pub worths : (s : ℕ)
      → unsigned_abs (worth (leaf_sum player leaves (printed_numbers plan)) (placed sets) (values_of reply.sets) s) ≤ 2
      ^ 121

-- where the mass is within its limit and a plan and a reply fit, the sums of the reply are small
abbrev pub WorthsAreSmall : Type 0
WorthsAreSmall = (player : Player) (leaves : List Leaf) (sets : List InformationSet) (plan_sets reply_sets : ℕ)
    (plan : PrintedPlan) (reply : Reply)
    → mass_of leaves ≤ most_mass → PlanFits plan_sets plan → reply_sets ≤ most_nodes → ReplyFits reply_sets reply
    → SumsOfReply player leaves sets plan reply
