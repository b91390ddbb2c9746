-- The numbers of the certificate of a run are within their ranges.
use Rattle.std.proofs.Common.{◌≡◌, ℕ, zero, suc, ◌+◌, ◌-◌, ◌*◌, ◌/◌, ◌^◌, ◌≤◌, ◌<◌, min, List, [], ◌∷◌, map, length, get_or, slice_index, take, drop, All, ℤ}
use Rattle.std.proofs.Common.{pos, unsigned_abs, Option, Some, None, refl, sym, ap, ◌∙◌, subst, arith}
use Rattle.std.specs.List.{AllZip, range_with_len}
use Rattle.std.proofs.Math.Nat.{div-le_self}
use Rattle.std.proofs.lemmas.Nat.{mul-le}
use Rattle.std.proofs.lemmas.Option.{none-some}
use Rattle.std.proofs.lemmas.List.{length-map, length-take, length-drop, get_or-take, get_or-drop, get_or-map}
use Rattle.std.proofs.lemmas.List.FromFn.{get_or-map-range_with_len, length-map-range_with_len}
use Rattle.std.proofs.lemmas.List.Elements.{All-from_get_or, All-cons, All-nil, All-head, All-tail}
use Rattle.def_tree.specs.declared.Player.{Player}
use Rattle.def_tree.specs.declared.Player.TheVariants.{One, Two}
use Rattle.def_sums.specs.Limits.{most_mass, most_rounds, most_scale, most_root}
use Rattle.def_sums.specs.Sum.{nat_sum_over}
use Rattle.def_fraction.specs.Divisors.{gcd}
use Rattle.def_fraction.specs.Fraction.{fraction_of, most}
use Rattle.def_fraction.proofs.FractionLemmas.{fraction_of-reduced, unsigned_abs-without_factor}
use Rattle.def_plan.specs.Form.{InformationSet, PlacedSet, placed_from, placed, IsInOrder, AreInOrder, SequenceForm, player_sets}
use Rattle.def_plan.specs.Plan.{IsPlan}
use Rattle.def_plan.specs.Payoff.{leaf_sum, worth, mass_of}
use Rattle.def_plan.proofs.SizeLaws.{plan-below_root, leaf_sums-below}
use Rattle.def_reply.specs.Reply.{best_reply_to, SetReply, values_of, best_reply, IsTight}
use Rattle.def_reply.proofs.Optimal.{best-tight}
use Rattle.def_reply.proofs.ReplySizes.{values-below, total-below}
use Rattle.def_round.specs.Rounds.{rounds}
use Rattle.def_reply.specs.Bracket.{Evaluation, BracketEnds, ends_of, trace, evaluated_rounds}
use Rattle.def_reply.specs.declared.TraceLine.{TraceLine}
use Rattle.def_reply.specs.BracketLaws.{RoundsAreEvaluated}
use Rattle.def_reply.specs.Outcome.{Head}
use Rattle.def_reply.proofs.EvaluatedRounds.{rounds as rounds_are}
use Rattle.def_reply.proofs.BestEnds.{best_ends}
use Rattle.def_reply.proofs.TraceLines.{trace_lines}
use Rattle.def_run.specs.Run.{outcome, total_against, plain_run, evaluation, evaluations}
use Rattle.def_run.proofs.RunLaws.{evaluations_are_bounds, ends_are_of_their_rounds, runs_have_ends}
use Rattle.def_run.proofs.WeighedEnds.{each_is_of_a_round, divisors_in, some_ends}
use Rattle.def_plan.specs.Weighed.{WeighedGame}
use Rattle.def_tree.specs.Rules.{most_actions}
use Rattle.def_cert_verdict.specs.Ranges.{IsFromTo, IsPrintable, HeadFits, LineFits, PlanWeightsFit, PlanFits, ReplyFits, BoundFits, BoundsFit, CertificateFits}
use Rattle.def_cert_accepted.specs.Laws.{TheCertificateOfARunFits}
use Rattle.def_cert_accepted.specs.OfOutcome.{by_sets, printed_plan, certificate_of}
use Rattle.def_cert_accepted.proofs.OfRun.{own_head, same_head, bounds_of_run, certificate_with, certificate_without}

-- ---- bounds: no part of a fraction in lowest terms is larger than that of the whole one
bound_fits : (total : ℤ) (scale : ℕ) → 1 ≤ scale → unsigned_abs total ≤ 2 ^ 100 → scale ≤ 2 ^ 100
    → BoundFits (fraction_of total scale)
unfolding fraction_of
bound_fits total scale some small few =
    let g : ℕ = gcd (unsigned_abs total) scale in
    record {
      lowest = (fraction_of-reduced total scale some).lowest;
      num = omega (arith, unsigned_abs-without_factor total g, div-le_self (unsigned_abs total) g);
      den = omega (arith, div-le_self scale g);
    }

-- ---- plans
length-by_sets : (hs : List InformationSet) (xs : List ℕ) → length (by_sets hs xs) ≡ length hs
length-by_sets [] xs = refl
length-by_sets (h ∷ hs) xs = ap suc (length-by_sets hs (drop h.actions xs))

-- each element of a part is one of the whole
All-drop : (P : ℕ → Type 0) (n : ℕ) (xs : List ℕ) → All P xs → All P (drop n xs)
All-drop P n xs all k d low = subst P (sym (get_or-drop n xs k d)) (all (n + k) d (omega (arith, length-drop n xs)))

All-take : {A : Type 0} (P : A → Type 0) (n : ℕ) (xs : List A) → All P xs → All P (take n xs)
All-take P n xs all k d low = subst P (sym (get_or-take n xs k d (omega (arith, length-take n xs)))) (all k d (omega (arith, length-take n xs)))

abbrev IsWeight : ℕ → Type 0
IsWeight n = n ≤ most_root

sets_fit : (first : ℕ) (hs : List InformationSet) (xs : List ℕ)
    → nat_sum_over (λ (h : InformationSet). h.actions) hs ≤ length xs → All IsInOrder (placed_from first hs)
    → All (λ (h : InformationSet). h.actions ≤ most_actions) hs → All IsWeight xs → All PlanWeightsFit (by_sets hs xs)
sets_fit first [] xs low order small each = All-nil PlanWeightsFit
sets_fit first (h ∷ hs) xs low order small each =
    let here : PlacedSet = record { first = first; before = h.before; actions = h.actions } in
    let rest = placed_from (first + h.actions) hs in
    let some = (All-head IsInOrder here rest order).0 in
    let few = All-head (λ (g : InformationSet). g.actions ≤ most_actions) h hs small in
    All-cons PlanWeightsFit (take h.actions xs) (by_sets hs (drop h.actions xs))
    (record {
      count = (omega (arith, length-take h.actions xs, some), omega (arith, length-take h.actions xs, few));
      each = All-take IsWeight h.actions xs each;
    })
    (sets_fit (first + h.actions) hs (drop h.actions xs) (omega (arith, length-drop h.actions xs)) (All-tail IsInOrder here rest order)
    (All-tail (λ (g : InformationSet). g.actions ≤ most_actions) h hs small) (All-drop IsWeight h.actions xs each))

-- a plan of a root within the limit, cut by sets
pub plan_fits : (sets : List InformationSet) (root : ℕ) (plan : List ℕ) → AreInOrder sets
    → All (λ (h : InformationSet). h.actions ≤ most_actions) sets → IsPlan sets root plan → root ≤ most_root
    → PlanFits (length sets) (printed_plan sets plan)
plan_fits sets root plan order small is few =
    let all : All IsWeight plan = All-from_get_or IsWeight plan 0 (λ s low. omega (arith, plan-below_root sets root plan order is s, few)) in
    record {
      root = (omega (arith, is.root_weight, is.some_root), omega (arith, is.root_weight, few));
      count = length-by_sets sets (drop 1 plan);
      each = sets_fit 1 sets (drop 1 plan) (omega (arith, length-drop 1 plan, is.all_sequences)) order small (All-drop IsWeight 1 plan all);
    }

-- ---- replies
choices_fit : (player : Player) (w : ℕ → ℤ) (first : ℕ) (hs : List InformationSet) (rs : List SetReply)
    → AllZip (IsTight player w) (placed_from first hs) rs
    → All (λ (h : InformationSet). h.actions ≤ most_actions) hs
    → (length rs ≡ length hs) × All (λ (r : SetReply). IsFromTo 1 most_actions r.choice) rs
choices_fit player w first [] [] tight small = (refl, All-nil (λ (r : SetReply). IsFromTo 1 most_actions r.choice))
choices_fit player w first [] (r ∷ rs) tight small = elim tight [ ]
choices_fit player w first (h ∷ hs) [] tight small = elim tight [ ]
choices_fit player w first (h ∷ hs) (r ∷ rs) tight small =
    let few = All-head (λ (g : InformationSet). g.actions ≤ most_actions) h hs small in
    let rest = choices_fit player w (first + h.actions) hs rs tight.1 (All-tail (λ (g : InformationSet). g.actions ≤ most_actions) h hs small) in
    (ap suc rest.0, All-cons (λ (r : SetReply). IsFromTo 1 most_actions r.choice) r rs (tight.0.an_action.0, omega (arith, tight.0.an_action.1, few)) rest.1)

-- the total of a reply to a plan of the other player's sets
pub small_total : (form : SequenceForm) (player : Player) (sets : List InformationSet) (root : ℕ) (plan : List ℕ)
    → AreInOrder (player_sets form player) → AreInOrder sets → IsPlan sets root plan
    → mass_of form.leaves ≤ most_mass → root ≤ most_root → unsigned_abs (total_against form player plan) ≤ 2 ^ 98
small_total form player sets root plan order other is light few =
    omega (
      arith,
      total-below player (leaf_sum player form.leaves plan) (player_sets form player) order,
      leaf_sums-below player form.leaves (player_sets form player) sets root plan other is,
      mul-le (mass_of form.leaves) root (2 ^ 62) (2 ^ 36) light few,
    )

-- the best reply to it
pub reply_fits : (form : SequenceForm) (player : Player) (sets : List InformationSet) (root : ℕ) (plan : List ℕ)
    → AreInOrder (player_sets form player) → AreInOrder sets → IsPlan sets root plan
    → All (λ (h : InformationSet). h.actions ≤ most_actions) (player_sets form player) → mass_of form.leaves ≤ most_mass
    → root ≤ most_root
    → ReplyFits (length (player_sets form player)) (best_reply_to form player plan)
reply_fits form player sets root plan order other is small light few =
    let sums : ℕ → ℤ = leaf_sum player form.leaves plan in
    let own = player_sets form player in
    let rs : List SetReply = best_reply player sums own in
    let chosen = choices_fit player (worth sums (placed own) (values_of rs)) 1 own rs (best-tight player sums own order) small in
    record {
      total = omega (arith, small_total form player sets root plan order other is light few);
      count = chosen.0;
      values = λ k d low. omega (
        arith,
        values-below player sums own order k d low,
        leaf_sums-below player form.leaves own sets root plan other is,
        mul-le (mass_of form.leaves) root (2 ^ 62) (2 ^ 36) light few,
      );
      choices = chosen.1;
    }

-- and the total of that in payoff units
pub end_fits : (game : WeighedGame) (player : Player) (sets : List InformationSet) (root : ℕ) (plan : List ℕ)
    → AreInOrder (player_sets game.form player) → AreInOrder sets → IsPlan sets root plan
    → mass_of game.form.leaves ≤ most_mass → root ≤ most_root → IsFromTo 1 most game.unit
    → BoundFits (fraction_of (total_against game.form player plan) (game.unit * slice_index plan 0))
end_fits game player sets root plan order other is light few unit =
    let at : slice_index plan 0 ≡ root = is.root_weight in
    bound_fits (total_against game.form player plan) (game.unit * slice_index plan 0)
    (omega (arith, mul-le 1 1 game.unit (slice_index plan 0) unit.0 (omega (arith, is.some_root))))
    (omega (arith, small_total game.form player sets root plan order other is light few))
    (omega (arith, mul-le game.unit (slice_index plan 0) (2 ^ 62) (2 ^ 36) unit.1 (omega (arith, few))))

-- ---- the trace
rounds_evaluated : RoundsAreEvaluated
rounds_evaluated = rounds_are

-- the evaluation at a place is that of its round
evaluation_at : (form : SequenceForm) (scale every last k : ℕ) (d : Evaluation) → 1 ≤ every
    → k < (last + every - 1) / every
    → get_or (evaluations form scale every last) k d ≡ evaluation form scale (min ((k + 1) * every) last)
evaluation_at form scale every last k d some low =
    let n : ℕ = (last + every - 1) / every in
    let of_place : ℕ → ℕ = λ i. min (i * every) last in
    let ks : evaluated_rounds every last ≡ map of_place (range_with_len 1 n) = rounds_evaluated.one_by_one every last some in
    let long : length (map of_place (range_with_len 1 n)) ≡ n = length-map-range_with_len of_place 1 n in
    ap (λ (rs : List ℕ). get_or (map (evaluation form scale) rs) k d) ks
    ∙ get_or-map (evaluation form scale) (map of_place (range_with_len 1 n)) k 0 d (omega arith)
    ∙ ap (evaluation form scale) (get_or-map-range_with_len of_place 1 n k (k + 1) 0 low (omega arith))

length-evaluations : (form : SequenceForm) (scale every last : ℕ) → 1 ≤ every
    → length (evaluations form scale every last) ≡ (last + every - 1) / every
length-evaluations form scale every last some =
    let n : ℕ = (last + every - 1) / every in
    length-map (evaluated_rounds every last) (evaluation form scale) ∙ ap (λ (rs : List ℕ). length rs) (rounds_evaluated.one_by_one every last some)
    ∙ length-map-range_with_len (λ i. min (i * every) last) 1 n

-- an evaluation of a round of the run
record EvaluationFits (last : ℕ) (e : Evaluation) : Type 0 where
  round : IsFromTo 1 last e.round
  low : IsPrintable e.low
  high : IsPrintable e.high

evaluation_fits : (game : WeighedGame) (last every scale r : ℕ) → AreInOrder game.form.sets_one
    → AreInOrder game.form.sets_two → HeadFits (own_head game last every scale) → 1 ≤ r → r ≤ last
    → EvaluationFits r (evaluation game.form scale r)
evaluation_fits game last every scale r order_one order_two fits some low =
    let form = game.form in
    let worth = evaluations_are_bounds form scale r order_one order_two fits.scale.0 some in
    let few : r * scale ≤ most_root = omega (arith, mul-le r scale most_rounds most_scale (omega (arith, fits.rounds)) fits.scale.1) in
    record {
      round = (some, omega arith);
      low = omega (arith, small_total form Two form.sets_one (r * scale) (rounds form scale r).sum_one order_two order_one worth.plan_one fits.mass few);
      high = omega (arith, small_total form One form.sets_two (r * scale) (rounds form scale r).sum_two order_one order_two worth.plan_two fits.mass few);
    }

-- an evaluation at a place up to k
up_to : (game : WeighedGame) (last every scale k place : ℕ) (e : Evaluation) → AreInOrder game.form.sets_one
    → AreInOrder game.form.sets_two → HeadFits (own_head game last every scale)
    → place ≤ k → k < (last + every - 1) / every → get_or (evaluations game.form scale every last) place e ≡ e
    → EvaluationFits (min ((k + 1) * every) last) e
up_to game last every scale k place e order_one order_two fits le low stands =
    let form = game.form in
    let r : ℕ = min ((place + 1) * every) last in
    let n = length-evaluations form scale every last fits.every.0 in
    let is : get_or (evaluations form scale every last) place e ≡ evaluation form scale r = evaluation_at form scale every last place e fits.every.0
    (omega arith) in
    let same : e ≡ evaluation form scale r = sym stands ∙ is in
    let first : 1 ≤ r = subst (λ (d : Evaluation). 1 ≤ d.round) is (each_is_of_a_round form (plain_run form scale) every last place e (omega arith)).some in
    let in_time : r ≤ last = omega arith in
    let not_later : r ≤ min ((k + 1) * every) last = omega (arith, mul-le (place + 1) every (k + 1) every (omega arith) (omega arith)) in
    let here = evaluation_fits game last every scale r order_one order_two fits first in_time in
    subst (EvaluationFits (min ((k + 1) * every) last)) (sym same) (record { round = (first, not_later); low = here.low; high = here.high })

line_fits : (game : WeighedGame) (last every scale : ℕ) → AreInOrder game.form.sets_one → AreInOrder game.form.sets_two
    → HeadFits (own_head game last every scale)
    → (k : ℕ) (line : TraceLine) → k < length (trace (evaluations game.form scale every last))
    → LineFits (own_head game last every scale) k (get_or (trace (evaluations game.form scale every last)) k line)
line_fits game last every scale order_one order_two fits k line within =
    let form = game.form in
    let es : List Evaluation = evaluations form scale every last in
    let head = own_head game last every scale in
    let n = length-evaluations form scale every last fits.every.0 in
    let count = trace_lines.count es in
    let low : k < (last + every - 1) / every = omega arith in
    let none : Evaluation = record { round = 0; divisor = 0; low = pos 0; high = pos 0 } in
    let part : List Evaluation = take (k + 1) es in
    let long : length part ≡ k + 1 = omega (arith, length-take (k + 1) es) in
    let some = some_ends part (omega arith) in
    let ends : BracketEnds = some.0 in
    let after = All-take (λ (e : Evaluation). 1 ≤ e.divisor) (k + 1) es (divisors_in form (plain_run form scale) every last (λ round some. some)) in
    let lower = best_ends.lower part ends after some.1 in
    let upper = best_ends.upper part ends after some.1 in
    let at_lower = sym (get_or-take (k + 1) es lower.place ends.lower (omega (arith, lower.within))) ∙ lower.stands ends.lower in
    let at_upper = sym (get_or-take (k + 1) es upper.place ends.upper (omega (arith, upper.within))) ∙ upper.stands ends.upper in
    let l = up_to game last every scale k lower.place ends.lower order_one order_two fits (omega (arith, lower.within)) low at_lower in
    let u = up_to game last every scale k upper.place ends.upper order_one order_two fits (omega (arith, upper.within)) low at_upper in
    let round : (get_or es k none).round ≡ min ((k + 1) * every) last = ap (λ (e : Evaluation). e.round)
    (evaluation_at form scale every last k none fits.every.0 low) in
    subst (LineFits head k) (sym (trace_lines.each es k ends line none (omega arith) some.1))
    (record {
      round = round;
      low_round = (l.round.0, omega (arith, l.round.1));
      low = l.low;
      high_round = (u.round.0, omega (arith, u.round.1));
      high = u.high;
    })

-- ---- all of it
bounds_fit : (game : WeighedGame) (last every scale : ℕ) (ends : BracketEnds) → AreInOrder game.form.sets_one
    → AreInOrder game.form.sets_two
    → All (λ h. h.actions ≤ most_actions) game.form.sets_one → All (λ h. h.actions ≤ most_actions) game.form.sets_two
    → HeadFits (own_head game last every scale)
    → ends_of (evaluations game.form scale every last) ≡ Some ends
    → BoundsFit (own_head game last every scale) (bounds_of_run game last every scale ends)
bounds_fit game last every scale ends order_one order_two small_one small_two fits are =
    let form = game.form in
    let of_rounds = ends_are_of_their_rounds form scale every last ends are in
    let one : List ℕ = (rounds form scale ends.lower.round).sum_one in
    let two : List ℕ = (rounds form scale ends.upper.round).sum_two in
    let low = evaluations_are_bounds form scale ends.lower.round order_one order_two fits.scale.0 of_rounds.of_lower.some in
    let high = evaluations_are_bounds form scale ends.upper.round order_one order_two fits.scale.0 of_rounds.of_upper.some in
    let few_low : ends.lower.round * scale ≤ most_root = omega (
      arith,
      mul-le ends.lower.round scale most_rounds most_scale
          (omega (arith, of_rounds.of_lower.in_time, fits.rounds)) fits.scale.1,
    ) in
    let few_high : ends.upper.round * scale ≤ most_root = omega (
      arith,
      mul-le ends.upper.round scale most_rounds most_scale
          (omega (arith, of_rounds.of_upper.in_time, fits.rounds)) fits.scale.1,
    ) in
    record {
      asked = omega (arith, of_rounds.of_lower.some, of_rounds.of_lower.in_time);
      trace = record {
        count = trace_lines.count (evaluations form scale every last) ∙ length-evaluations form scale every last fits.every.0;
        each = line_fits game last every scale order_one order_two fits;
      };
      plan_one = plan_fits form.sets_one (ends.lower.round * scale) one order_one small_one low.plan_one few_low;
      reply_two = reply_fits form Two form.sets_one (ends.lower.round * scale) one order_two order_one low.plan_one small_two fits.mass few_low;
      plan_two = plan_fits form.sets_two (ends.upper.round * scale) two order_two small_two high.plan_two few_high;
      reply_one = reply_fits form One form.sets_two (ends.upper.round * scale) two order_one order_two high.plan_two small_one fits.mass few_high;
      low = end_fits game Two form.sets_one (ends.lower.round * scale) one order_two order_one low.plan_one fits.mass few_low fits.unit;
      high = end_fits game One form.sets_two (ends.upper.round * scale) two order_one order_two high.plan_two fits.mass few_high fits.unit;
    }

no_round : (form : SequenceForm) (scale every last : ℕ) → ends_of (evaluations form scale every last) ≡ None → last ≡ 0
no_round form scale every zero e = refl
no_round form scale every (suc n) e =
    let some = runs_have_ends form scale every (suc n) (omega arith) in
    absurd (none-some some.0 (sym e ∙ some.1))

by_ends : (game : WeighedGame) (last every scale : ℕ) → AreInOrder game.form.sets_one → AreInOrder game.form.sets_two
    → All (λ h. h.actions ≤ most_actions) game.form.sets_one → All (λ h. h.actions ≤ most_actions) game.form.sets_two
    → HeadFits (own_head game last every scale)
    → (o : Option BracketEnds) → ends_of (evaluations game.form scale every last) ≡ o
    → CertificateFits (certificate_of game.form (outcome game.form (own_head game last every scale)))
by_ends game last every scale order_one order_two small_one small_two fits None are =
    let none = no_round game.form scale every last are in
    subst CertificateFits (sym (certificate_without game last every scale none)) (record { head = fits; below = none })
by_ends game last every scale order_one order_two small_one small_two fits (Some ends) are =
    subst CertificateFits (sym (certificate_with game last every scale ends are))
    (record { head = fits; below = bounds_fit game last every scale ends order_one order_two small_one small_two fits are })

-- where the head's numbers are in range and no set has too many actions, so are all its certificate's
pub fits_always : TheCertificateOfARunFits
fits_always game head order_one order_two small_one small_two is fits =
    let same : head ≡ own_head game head.rounds head.every head.scale = same_head game head is in
    subst (λ (g : Head). CertificateFits (certificate_of game.form (outcome game.form g))) (sym same)
    (by_ends game head.rounds head.every head.scale order_one order_two small_one small_two (subst HeadFits same fits)
    (ends_of (evaluations game.form head.scale head.every head.rounds)) refl)
