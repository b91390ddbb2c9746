-- Replies from sums that agree at the player's own sequences.
use Rattle.std.proofs.Common.{◌≡◌, ℕ, ◌+◌, ◌<◌, ◌≤◌, List, [], ◌∷◌, map, arith, ap, sym, ◌∙◌, refl, subst}
use Rattle.std.specs.Prelude.{ℤ}
use Rattle.std.specs.List.{AllZip}
use Rattle.def_tree.specs.declared.Player.{Player}
use Rattle.def_sums.specs.Sum.{nat_sum_over}
use Rattle.def_sums.proofs.Ranges.{map-range_same, All-range, range-All}
use Rattle.def_plan.specs.Form.{InformationSet, PlacedSet, placed_from, placed, sequences_of}
use Rattle.def_plan.specs.Plan.{chosen}
use Rattle.def_plan.specs.Payoff.{worth, IsNoBetter}
use Rattle.def_plan.proofs.Worths.{worth_same}
use Rattle.def_reply.specs.Reply.{SetReply, values_of, best_of, first_with, replies_at, IsTight}
use Rattle.def_reply.specs.Laws.{RepliesNeedOwnSums}
use Rattle.def_reply.proofs.Equations.{chosen-at}

replies_same : (player : Player) (sums other : ℕ → ℤ) (first : ℕ) (hs : List InformationSet)
    → ((s : ℕ) → s < first + nat_sum_over (λ h. h.actions) hs → sums s ≡ other s)
    → replies_at player sums (placed_from first hs) ≡ replies_at player other (placed_from first hs)
replies_same player sums other first [] agree = refl
replies_same player sums other first (h ∷ hs) agree =
    let here : PlacedSet = record { first = first; before = h.before; actions = h.actions } in
    let rest : List PlacedSet = placed_from (first + h.actions) hs in
    let later = replies_same player sums other (first + h.actions) hs (λ s low. agree s (omega arith)) in
    let reply : List SetReply → (ℕ → ℤ) → List SetReply =
    λ (rs : List SetReply) (g : ℕ → ℤ). (let worths : List ℤ = map (worth g rest (values_of rs))
    (sequences_of here) in record { value = best_of player worths; choice = first_with (best_of player worths) worths } ∷ rs) in
    let worths_same : map (worth sums rest (values_of (replies_at player other rest))) (sequences_of here)
    ≡ map (worth other rest (values_of (replies_at player other rest))) (sequences_of here) =
    map-range_same (worth sums rest (values_of (replies_at player other rest))) (worth other rest (values_of (replies_at player other rest))) first h.actions
    (λ s low high. worth_same sums other rest (values_of (replies_at player other rest)) s (agree s (omega arith))) in
    ap (λ rs. reply rs sums) later
    ∙ ap (λ ws. record { value = best_of player ws; choice = first_with (best_of player ws) ws } ∷ replies_at player other rest) worths_same

-- a tight reply at a set, by worths that agree there
tight_same : (player : Player) (f g : ℕ → ℤ) (h : PlacedSet) (r : SetReply)
    → ((s : ℕ) → h.first ≤ s → s < h.first + h.actions → f s ≡ g s) → IsTight player f h r → IsTight player g h r
tight_same player f g h r same t =
    let place = chosen-at h r.choice t.an_action.0 t.an_action.1 in
    record {
      no_better = All-range (λ s. IsNoBetter player (g s) r.value) h.first h.actions
          (λ s low high. subst (λ w. IsNoBetter player w r.value) (same s low high)
          (range-All (λ s. IsNoBetter player (f s) r.value) h.first h.actions t.no_better s low high));
      an_action = t.an_action;
      reached = sym (same (chosen h r.choice) place.0 place.1) ∙ t.reached;
    }

all_tight_same : (player : Player) (f g : ℕ → ℤ) (first : ℕ) (hs : List InformationSet) (rs : List SetReply)
    → ((s : ℕ) → s < first + nat_sum_over (λ h. h.actions) hs → f s ≡ g s)
    → AllZip (IsTight player f) (placed_from first hs) rs → AllZip (IsTight player g) (placed_from first hs) rs
all_tight_same player f g first [] [] same all = tt
all_tight_same player f g first [] (r ∷ rs) same all = elim all [ ]
all_tight_same player f g first (h ∷ hs) [] same all = elim all [ ]
all_tight_same player f g first (h ∷ hs) (r ∷ rs) same all = (
  tight_same player f g (record { first = first; before = h.before; actions = h.actions }) r (λ s low high. same s (omega arith)) all.0,
  all_tight_same player f g (first + h.actions) hs rs (λ s low. same s (omega arith)) all.1,
)

-- a reply needs the sums at its player's own sequences alone
pub replies_need_own_sums : RepliesNeedOwnSums
replies_need_own_sums = record {
  replies = λ player sums other sets agree. replies_same player sums other 1 sets agree;
  totals = λ sums other sets replies agree. worth_same sums other (placed sets) (values_of replies) 0 (agree 0 (omega arith));
  tight = λ player sums other sets replies agree.
      all_tight_same player (worth sums (placed sets) (values_of replies)) (worth other (placed sets) (values_of replies)) 1 sets replies
      (λ s low. worth_same sums other (placed sets) (values_of replies) s (agree s low));
}
