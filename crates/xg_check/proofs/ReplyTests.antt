-- A printed reply by its values and choices, and its ranges by player.
use Rattle.std.proofs.Common.{◌≡◌, ℕ, ◌≤◌, ◌^◌, List, [], ◌∷◌, ℤ, unsigned_abs, All, Some, ap, subst, ◌∙◌}
use Rattle.std.proofs.lemmas.List.Elements.{All-cons, All-head, All-nil, All-tail}
use Rattle.def_fraction.specs.Fraction.{Fraction}
use Rattle.def_tree.specs.declared.Player.{Player}
use Rattle.def_tree.specs.declared.Player.TheVariants.{One, Two}
use Rattle.def_plan.specs.Form.{SequenceForm, player_sets}
use Rattle.def_plan.specs.Payoff.{leaf_sum}
use Rattle.def_reply.specs.Reply.{Reply, SetReply, choices_of, values_of}
use Rattle.def_reply.specs.Outcome.{Head}
use Rattle.def_cert_verdict.specs.Ranges.{BoundsFit, CertificateFits, FitsBelowHead, IsPrintable, PlanFits, ReplyFits}
use Rattle.def_cert_verdict.specs.Certificate.{Certificate, PrintedBounds}
use Rattle.def_cert_verdict.specs.Verdict.{first_failing, whole_reply_tests}
use Rattle.xg_cert.specs.Printed.{bounds_in, plan_in, reply_in, set_count_in}
use Rattle.xg_plan.specs.Reply.{set_replies}
use Rattle.xg_check.specs.Views.{printed_reply}
use Rattle.xg_check.proofs.TestLemmas.{replies_again}

-- where bounds are within their ranges, so is the plan of each player
pub plan_fits : (player : Player) (head : Head) (b : PrintedBounds) → BoundsFit head b
    → PlanFits (set_count_in player head) (plan_in player b)
plan_fits One head b fits = fits.plan_one
plan_fits Two head b fits = fits.plan_two

-- where bounds are within their ranges, so is the reply of each player
pub reply_fits : (player : Player) (head : Head) (b : PrintedBounds) → BoundsFit head b
    → ReplyFits (set_count_in player head) (reply_in player b)
reply_fits One head b fits = fits.reply_one
reply_fits Two head b fits = fits.reply_two

-- values of replies that can be printed are of size 2 ^ 100 at most
pub values_small : (rs : List SetReply) → All (λ r. IsPrintable r.value) rs
    → All (λ v. unsigned_abs v ≤ 2 ^ 100) (values_of rs)
values_small [] all = All-nil (λ v. unsigned_abs v ≤ 2 ^ 100)
values_small (r ∷ rs) all =
    All-cons (λ v. unsigned_abs v ≤ 2 ^ 100) r.value (values_of rs) (All-head (λ (q : SetReply). IsPrintable q.value) r rs all)
    (values_small rs (All-tail (λ (q : SetReply). IsPrintable q.value) r rs all))

-- the bounds of a certificate within its ranges
pub bounds_fit : (c : Certificate) → CertificateFits c → c.bounds ≡ Some (bounds_in c) → BoundsFit c.head (bounds_in c)
bounds_fit c fits e = subst (FitsBelowHead c.head) e fits.below

-- the tests are those of the reply that is printed
pub same_tests : (player : Player) (form form' : SequenceForm) (against against' : List ℕ) (reply : Reply)
    (total traced traced' : ℤ) (bound bound' : Fraction) (scale scale' : ℕ) (vs : List ℤ) (cs : List ℕ)
    → form ≡ form' → against ≡ against' → total ≡ reply.total → traced ≡ traced' → bound ≡ bound' → scale ≡ scale'
    → vs ≡ values_of reply.sets → cs ≡ choices_of reply.sets
    → first_failing (whole_reply_tests player (leaf_sum player form.leaves against) (player_sets form player) (printed_reply total vs cs) traced bound scale)
    ≡ first_failing (whole_reply_tests player (leaf_sum player form'.leaves against') (player_sets form' player) reply traced' bound' scale')
same_tests player form form' against against' reply total traced traced' bound bound' scale scale' vs cs f a e t b s v c =
    let sets : set_replies vs cs ≡ reply.sets =
    ap (λ ws. set_replies ws cs) v ∙ ap (set_replies (values_of reply.sets)) c ∙ replies_again reply.sets in
    let same : printed_reply total vs cs ≡ reply = λ i. record { total = e i; sets = sets i } in
    λ i. first_failing (whole_reply_tests player (leaf_sum player (f i).leaves (a i)) (player_sets (f i) player) (same i) (t i) (b i) (s i))
