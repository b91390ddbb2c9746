-- The best reply solves its equations, and alone does.
use Rattle.std.proofs.Common.{◌≡◌, ℕ, zero, suc, ◌+◌, ◌-◌, ◌≤◌, ◌<◌, Bool, false, cond, eqb, List, [], ◌∷◌, map, zip, filter, length, get_or, drop, ℤ, pos}
use Rattle.std.proofs.Common.{◌+ℤ◌, All, arith, ap, sym, ◌∙◌, refl, subst, ⊎_elim, ne_eqb}
use Rattle.std.specs.List.{AllZip}
use Rattle.std.proofs.lemmas.Bool.{cases_lt}
use Rattle.std.proofs.lemmas.List.FromFn.{get_or-map-range_with_len, length-map-range_with_len}
use Rattle.std.proofs.lemmas.List.Elements.{All-head, All-tail}
use Rattle.def_tree.specs.declared.Player.{Player}
use Rattle.def_sums.specs.Sum.{sum_over}
use Rattle.def_sums.proofs.Ranges.{All-range, range-All}
use Rattle.def_plan.specs.Form.{InformationSet, PlacedSet, placed_from, sequences_of, IsInOrder}
use Rattle.def_plan.specs.Plan.{chosen}
use Rattle.def_plan.specs.Payoff.{worth, IsNoBetter}
use Rattle.def_reply.specs.Reply.{SetReply, values_of, best_of, first_with, replies_at, IsTight, IsFirstTight}
use Rattle.def_reply.proofs.Bests.{no_better-antisym, none-better, best-reached, IsFirstPlaceOf, first_with-is_first}

-- ---- the worth at a set counts later sets alone
dropped : (b : Bool) (p : PlacedSet × ℤ) (ps : List (PlacedSet × ℤ)) → b ≡ false
    → sum_over (λ q. q.1) (cond b (p ∷ ps) ps) ≡ sum_over (λ q. q.1) ps
dropped b p ps e = ap (λ t. sum_over (λ q. q.1) (cond t (p ∷ ps) ps)) e

pub worth-later : (sums : ℕ → ℤ) (h : PlacedSet) (hs : List PlacedSet) (v : ℤ) (vs : List ℤ) (s : ℕ) → h.before < s
    → worth sums (h ∷ hs) (v ∷ vs) s ≡ worth sums hs vs s
worth-later sums h hs v vs s less =
    ap (λ z. sums s +ℤ z) (dropped (eqb h.before s) (h, v) (filter (λ p. eqb p.0.before s) (zip hs vs)) (ne_eqb h.before s (λ e. omega arith)))

-- ---- two worths that agree from a sequence on
first_tight-same : (player : Player) (w w' : ℕ → ℤ) (from : ℕ) → ((s : ℕ) → from ≤ s → w s ≡ w' s)
    → (h : PlacedSet) (r : SetReply) → from ≤ h.first → IsFirstTight player w h r → IsFirstTight player w' h r
first_tight-same player w w' from same h r le f = record {
  tight = record {
    no_better = All-range (λ s. IsNoBetter player (w' s) r.value) h.first h.actions
        (λ s low high. subst (λ z. IsNoBetter player z r.value) (same s (omega arith))
        (range-All (λ s. IsNoBetter player (w s) r.value) h.first h.actions f.tight.no_better s low high));
    an_action = f.tight.an_action;
    reached = sym (same (chosen h r.choice) (omega arith)) ∙ f.tight.reached;
  };
  first = λ c low high e. f.first c low high (same (chosen h c) (omega arith) ∙ e);
}

all_same : (player : Player) (w w' : ℕ → ℤ) (from : ℕ) → ((s : ℕ) → from ≤ s → w s ≡ w' s)
    → (first : ℕ) (hs : List InformationSet) (rs : List SetReply) → from ≤ first
    → AllZip (IsFirstTight player w) (placed_from first hs) rs
    → AllZip (IsFirstTight player w') (placed_from first hs) rs
all_same player w w' from same first [] [] le f = f
all_same player w w' from same first [] (r ∷ rs) le f = f
all_same player w w' from same first (h ∷ hs) [] le f = f
all_same player w w' from same first (h ∷ hs) (r ∷ rs) le f = (
  first_tight-same player w w' from same (record { first = first; before = h.before; actions = h.actions }) r le f.0,
  all_same player w w' from same (first + h.actions) hs rs (omega arith) f.1,
)

-- ---- the reply at one set
abbrev pub reply_at_set : Player → (ℕ → ℤ) → PlacedSet → SetReply
reply_at_set player w h =
    let value = best_of player (map w (sequences_of h)) in record { value = value; choice = first_with value (map w (sequences_of h)) }

at_choice : (w : ℕ → ℤ) (h : PlacedSet) (c : ℕ) (d : ℤ) → 1 ≤ c → c ≤ h.actions
    → get_or (map w (sequences_of h)) (c - 1) d ≡ w (chosen h c)
at_choice w h c d low high = get_or-map-range_with_len w h.first h.actions (c - 1) (chosen h c) d (omega arith) refl

-- at a set with an action the best worth and the first action of that worth solve the set's equations
pub head-first_tight : (player : Player) (w : ℕ → ℤ) (h : PlacedSet) → 1 ≤ h.actions
    → IsFirstTight player w h (reply_at_set player w h)
head-first_tight player w h some =
    let worths : List ℤ = map w (sequences_of h) in
    let value : ℤ = best_of player worths in
    let long : length worths ≡ h.actions = length-map-range_with_len w h.first h.actions in
    let best = best-reached player worths (omega arith) in
    let f : IsFirstPlaceOf value worths (first_with value worths) = first_with-is_first value worths best.0 best.1 best.2 in
    record {
      tight = record {
        no_better = All-range (λ s. IsNoBetter player (w s) value) h.first h.actions
            (λ s low high. subst (λ z. IsNoBetter player z value) (get_or-map-range_with_len w h.first h.actions (s - h.first) s (pos 0) (omega arith)
            (omega arith)) (none-better player worths (s - h.first) (pos 0) (omega arith)));
        an_action = (f.some, omega (arith, f.within));
        reached = sym (at_choice w h (first_with value worths) (pos 0) f.some (omega (arith, f.within))) ∙ f.at (pos 0);
      };
      first = λ c low high e. f.earlier c low high (pos 0) (at_choice w h c (pos 0) low (omega (arith, f.within)) ∙ e);
    }

-- two replies at one set that are first tight are the same
pub chosen-at : (h : PlacedSet) (c : ℕ) → 1 ≤ c → c ≤ h.actions
    → (h.first ≤ chosen h c) × (chosen h c < h.first + h.actions)
chosen-at h c low high = omega arith

value_best : (player : Player) (w : ℕ → ℤ) (h : PlacedSet) (r q : SetReply) → IsTight player w h r
    → IsTight player w h q → IsNoBetter player q.value r.value
value_best player w h r q f g =
    let place = chosen-at h q.choice g.an_action.0 g.an_action.1 in
    subst (λ z. IsNoBetter player z r.value) g.reached (range-All (λ s. IsNoBetter player (w s) r.value) h.first h.actions f.no_better (chosen h q.choice)
    place.0 place.1)

one_head : (player : Player) (w : ℕ → ℤ) (h : PlacedSet) (r q : SetReply) → IsFirstTight player w h r
    → IsFirstTight player w h q → r ≡ q
one_head player w h r q f g =
    let same_value : r.value ≡ q.value = no_better-antisym player r.value q.value (value_best player w h q r g.tight f.tight)
    (value_best player w h r q f.tight g.tight) in
    let same_choice : r.choice ≡ q.choice =
    ⊎_elim (λ less. absurd (g.first r.choice f.tight.an_action.0 less (f.tight.reached ∙ same_value)))
    (λ le. ⊎_elim (λ less. absurd (f.first q.choice g.tight.an_action.0 less (g.tight.reached ∙ sym same_value))) (λ ge. omega arith)
    (cases_lt q.choice r.choice))
    (cases_lt r.choice q.choice)
    in
    λ i. record { value = same_value i; choice = same_choice i }

-- ---- all sets
-- where sets with sequences from `first` on are in order, each one's reply is tight, and no earlier choice would be
pub solves_from : (player : Player) (sums : ℕ → ℤ) (first : ℕ) (hs : List InformationSet)
    → All IsInOrder (placed_from first hs)
    → AllZip (IsFirstTight player (worth sums (placed_from first hs) (values_of (replies_at player sums (placed_from first hs))))) (placed_from first hs)
    (replies_at player sums (placed_from first hs))
solves_from player sums first [] order = tt
solves_from player sums first (h ∷ hs) order =
    let here : PlacedSet = record { first = first; before = h.before; actions = h.actions } in
    let rest : List PlacedSet = placed_from (first + h.actions) hs in
    let ordered = All-head IsInOrder here rest order in
    let rs : List SetReply = replies_at player sums rest in
    let r : SetReply = reply_at_set player (worth sums rest (values_of rs)) here in
    let same : (s : ℕ) → first ≤ s → worth sums rest (values_of rs) s ≡ worth sums (here ∷ rest) (r.value ∷ values_of rs) s = λ s le. sym
    (worth-later sums here rest r.value (values_of rs) s (omega arith)) in (
      first_tight-same player (worth sums rest (values_of rs)) (worth sums (here ∷ rest) (r.value ∷ values_of rs)) first same here r (omega arith)
          (head-first_tight player (worth sums rest (values_of rs)) here ordered.0),
      all_same player (worth sums rest (values_of rs)) (worth sums (here ∷ rest) (r.value ∷ values_of rs)) first same (first + h.actions) hs rs (omega arith)
          (solves_from player sums (first + h.actions) hs (All-tail IsInOrder here rest order)),
    )

-- replies that solve the equations are the best ones, from any first sequence on
pub only_from : (player : Player) (sums : ℕ → ℤ) (first : ℕ) (hs : List InformationSet) (rs : List SetReply)
    → All IsInOrder (placed_from first hs)
    → AllZip (IsFirstTight player (worth sums (placed_from first hs) (values_of rs))) (placed_from first hs) rs
    → rs ≡ replies_at player sums (placed_from first hs)
only_from player sums first [] [] order f = refl
only_from player sums first [] (r ∷ rs) order f = elim f [ ]
only_from player sums first (h ∷ hs) [] order f = elim f [ ]
only_from player sums first (h ∷ hs) (r ∷ rs) order f =
    let here : PlacedSet = record { first = first; before = h.before; actions = h.actions } in
    let rest : List PlacedSet = placed_from (first + h.actions) hs in
    let ordered = All-head IsInOrder here rest order in
    let w : ℕ → ℤ = worth sums rest (values_of rs) in
    let w' : ℕ → ℤ = worth sums (here ∷ rest) (r.value ∷ values_of rs) in
    let same : (s : ℕ) → first ≤ s → w' s ≡ w s = λ s le. worth-later sums here rest r.value (values_of rs) s (omega arith) in
    let later : rs ≡ replies_at player sums rest = only_from player sums (first + h.actions) hs rs (All-tail IsInOrder here rest order)
    (all_same player w' w first same (first + h.actions) hs rs (omega arith) f.1) in
    let head : r ≡ reply_at_set player w here = one_head player w here r (reply_at_set player w here)
    (first_tight-same player w' w first same here r (omega arith) f.0) (head-first_tight player w here ordered.0) in
    ap (λ q. q ∷ rs) head ∙ ap (λ qs. reply_at_set player (worth sums rest (values_of qs)) here ∷ qs) later

-- the best reply from a set on is the reply at those sets alone
pub from_set : (player : Player) (sums : ℕ → ℤ) (k : ℕ) (hs : List PlacedSet)
    → drop k (replies_at player sums hs) ≡ replies_at player sums (drop k hs)
from_set player sums zero hs = refl
from_set player sums (suc k) [] = refl
from_set player sums (suc k) (h ∷ hs) = from_set player sums k hs
