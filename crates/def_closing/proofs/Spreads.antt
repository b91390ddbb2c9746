-- Spreads that every game has.
use Rattle.std.proofs.Common.{◌≡◌, ℕ, ◌+◌, ◌*◌, ◌≤◌, ◌<◌, ◌≢◌, Bool, true, false, cond, eqb, ◌==◌}
use Rattle.std.proofs.Common.{List, [], ◌∷◌, get_or, slice_index, zip, filter, All, arith, ap, sym, refl, subst, ⊎_elim}
use Rattle.std.specs.Prelude.{min, ℤ, pos, ◌+ℤ◌, ◌*ℤ◌, ◌≤ℤ◌, unsigned_abs}
use Rattle.std.specs.List.{range_with_len}
use Rattle.std.proofs.lemmas.Int.{ints}
use Rattle.std.proofs.lemmas.Bool.{cases_eq, cases_lt}
use Rattle.std.proofs.lemmas.List.Elements.{All-head, All-tail}
use Rattle.def_sums.specs.Sum.{sum_over, nat_sum_over}
use Rattle.def_sums.proofs.SumLaws.{nat_sum_over-mono, nat_sum_over-factor}
use Rattle.def_tree.specs.declared.Player.{Player}
use Rattle.def_tree.specs.Opponent.{opponent}
use Rattle.def_plan.specs.Form.{InformationSet, PlacedSet, placed, sequences_of, player_sets, Leaf, leaf_sequence}
use Rattle.def_plan.specs.Payoff.{leaf_sum, worth, mass_of}
use Rattle.def_plan.proofs.SizeLaws.{one_leaf, plan-below_root}
use Rattle.def_plan.proofs.Worths.{AllZip-at}
use Rattle.def_round.specs.Play.{units}
use Rattle.def_round.specs.Round.{own_sum, set_value, values_from, round_values}
use Rattle.def_round.specs.Sizes.{size_of_sums, IsWithin}
use Rattle.def_round.proofs.Averages.{value_within}
use Rattle.def_round.proofs.Growth.{own_sums_small, utility_size}
use Rattle.def_round.proofs.Trees.{values_within}
use Rattle.def_closing.specs.Width.{size_at, size_from, size_after}
use Rattle.def_closing.specs.Laws.{MassIsSpread, SizesAreSpread, LesserIsSpread}
use Rattle.def_closing.proofs.Sizes.{InRow, two_in_row}

-- two numbers of a row are no further apart than the sizes of all
apart_by_sizes : (w : ℕ → ℤ) (a n bound : ℕ) → nat_sum_over (λ s. unsigned_abs (w s)) (range_with_len a n) ≤ bound
    → (s t : ℕ) → InRow a n s → InRow a n t → w s ≤ℤ (w t +ℤ pos bound)
apart_by_sizes w a n bound le s t is_s is_t =
    ⊎_elim
    (λ (same : s ≡ t). let e : w s ≡ w t = ap w same in omega (arith, ints))
    (λ (other : s ≢ t). let two = two_in_row (λ s. unsigned_abs (w s)) a n s t is_s is_t other in omega (arith, ints))
    (cases_eq s t)

-- the mass is a spread of each set
pub mass_is_spread : MassIsSpread
mass_is_spread player form order root play plan whole is k d low s t is_s is_t =
    let sets : List InformationSet = player_sets form player in
    let sums : ℕ → ℤ = own_sum player form.leaves plan in
    let h : PlacedSet = get_or (placed sets) k d in
    let values : List ℤ = round_values sums play sets in
    let within =
    AllZip-at (λ h v. IsWithin (size_of_sums sums sets) sums play sets values h v) (placed sets) values (values_within sums play sets (order player) whole) k d
    (pos 0) low in
    let small = own_sums_small player form.leaves sets (player_sets form (opponent player)) root plan (order (opponent player)) is in
    apart_by_sizes (worth sums (placed sets) values) h.first h.actions (root * mass_of form.leaves) (omega (arith, within.worths, small)) s t is_s is_t

-- ---- the leaves after a set
leaves_small : (other : Player) (plan : List ℕ) (root : ℕ) → ((s : ℕ) → slice_index plan s ≤ root) → (zs : List Leaf)
    → unsigned_abs (sum_over (λ z. z.weight *ℤ pos (slice_index plan (leaf_sequence other z))) zs) ≤ root * nat_sum_over (λ z. unsigned_abs z.weight) zs
leaves_small other plan root small [] = omega (arith, ints)
leaves_small other plan root small (z ∷ zs) =
    omega (
      arith,
      ints,
      one_leaf z.weight (slice_index plan (leaf_sequence other z)) root (small (leaf_sequence other z)),
      leaves_small other plan root small
          zs,
    )

sum_small : (player : Player) (leaves : List Leaf) (plan : List ℕ) (root : ℕ) → ((s : ℕ) → slice_index plan s ≤ root) → (s : ℕ)
    → unsigned_abs (own_sum player leaves plan s) ≤ root * size_at player leaves s
sum_small player leaves plan root small s =
    omega (
      arith,
      utility_size player (leaf_sum player leaves plan s),
      leaves_small (opponent player) plan root small
          (filter (λ z. leaf_sequence player z == s) leaves),
    )

-- worths are at most the root times the sizes of the leaves after them
cond_size : (b : Bool) (v x : ℤ) (n m root : ℕ) → unsigned_abs v ≤ root * n → unsigned_abs x ≤ root * m
    → unsigned_abs (x +ℤ cond b v (pos 0)) ≤ root * (cond b n 0 + m)
cond_size true v x n m root le more = omega (arith, ints)
cond_size false v x n m root le more = omega (arith, ints)

kept-first : (b : Bool) (p : PlacedSet × ℤ) (ps : List (PlacedSet × ℤ))
    → sum_over (λ (q : PlacedSet × ℤ). q.1) (cond b (p ∷ ps) ps) ≡ cond b p.1 (pos 0) +ℤ sum_over (λ (q : PlacedSet × ℤ). q.1) ps
kept-first true p ps = refl
kept-first false p ps = omega (arith, ints)

pub worth_split : (sums : ℕ → ℤ) (h : PlacedSet) (hs : List PlacedSet) (v : ℤ) (vs : List ℤ) (s : ℕ)
    → worth sums (h ∷ hs) (v ∷ vs) s ≡ worth sums hs vs s +ℤ cond (eqb h.before s) v (pos 0)
worth_split sums h hs v vs s =
    omega (arith, ints, kept-first (eqb h.before s) (h, v) (filter (λ p. p.0.before == s) (zip hs vs)))

worth_small : (sums : ℕ → ℤ) (sizes : ℕ → ℕ) (root : ℕ) (play : List ℕ) (hs : List PlacedSet)
    → ((s : ℕ) → unsigned_abs (sums s) ≤ root * sizes s)
    → All (λ h. nat_sum_over (λ s. slice_index play s) (sequences_of h) ≡ units) hs
    → (s : ℕ) → unsigned_abs (worth sums hs (values_from sums play hs) s) ≤ root * size_from sizes hs s
worth_small sums sizes root play [] small whole s = omega (arith, ints, small s)
worth_small sums sizes root play (h ∷ hs) small whole s =
    let later : List ℤ = values_from sums play hs in
    let all = All-head (λ h. nat_sum_over (λ s. slice_index play s) (sequences_of h) ≡ units) h hs whole in
    let below : (s : ℕ) → unsigned_abs (worth sums hs later s) ≤ root * size_from sizes hs s =
    worth_small sums sizes root play hs small (All-tail (λ h. nat_sum_over (λ s. slice_index play s) (sequences_of h) ≡ units) h hs whole) in
    let value = value_within play (worth sums hs later) h all in
    let each : nat_sum_over (λ s. unsigned_abs (worth sums hs later s)) (sequences_of h) ≤ nat_sum_over (λ s. size_from sizes hs s * root) (sequences_of h) =
    nat_sum_over-mono (λ s. unsigned_abs (worth sums hs later s)) (λ s. size_from sizes hs s * root) (sequences_of h) (λ k d low. turned _ _ (below _)) in
    let factor = nat_sum_over-factor root (size_from sizes hs) (sequences_of h) in
    subst (λ z. unsigned_abs z ≤ root * size_from sizes (h ∷ hs) s) (sym (worth_split sums h hs (set_value play (worth sums hs later) h) later s))
    (cond_size (eqb h.before s) (set_value play (worth sums hs later) h) (worth sums hs later s) (nat_sum_over (size_from sizes hs) (sequences_of h))
    (size_from sizes hs s) root
    (omega (arith, value, each, factor)) (below s))
  where
    turned : (a b : ℕ) → a ≤ root * b → a ≤ b * root
    turned a b le = omega arith

-- the sizes of the leaves after a set are a spread
pub sizes_are_spread : SizesAreSpread
sizes_are_spread player form order root play plan whole is k d low s t is_s is_t =
    let sets : List InformationSet = player_sets form player in
    let sums : ℕ → ℤ = own_sum player form.leaves plan in
    let h : PlacedSet = get_or (placed sets) k d in
    let values : List ℤ = round_values sums play sets in
    let sizes : ℕ → ℕ = size_at player form.leaves in
    let small : (s : ℕ) → slice_index plan s ≤ root = plan-below_root (player_sets form (opponent player)) root plan (order (opponent player)) is in
    let each = nat_sum_over-mono (λ s. unsigned_abs (worth sums (placed sets) values s)) (λ s. size_from sizes (placed sets) s * root) (sequences_of h)
    (λ i e l. turned root _ _ (worth_small sums sizes root play (placed sets) (sum_small player form.leaves plan root small) whole _)) in
    let factor = nat_sum_over-factor root (size_from sizes (placed sets)) (sequences_of h) in
    apart_by_sizes (worth sums (placed sets) values) h.first h.actions (root * size_after player form h) (omega (arith, each, factor)) s t is_s is_t
  where
    turned : (root a b : ℕ) → a ≤ root * b → a ≤ b * root
    turned root a b le = omega arith

-- the lesser of two spreads
lesser_bound : (root a b : ℕ) (x y : ℤ) → x ≤ℤ (y +ℤ pos (root * a)) → x ≤ℤ (y +ℤ pos (root * b)) → x ≤ℤ (y +ℤ pos (root * min a b))
lesser_bound root a b x y one two =
    ⊎_elim
    (λ (less : a < b). subst (λ n. x ≤ℤ (y +ℤ pos (root * n))) (omega arith) one)
    (λ (le : b ≤ a). subst (λ n. x ≤ℤ (y +ℤ pos (root * n))) (omega arith) two)
    (cases_lt a b)

pub lesser_is_spread : LesserIsSpread
lesser_is_spread player form spread other one two root play plan whole is k d low s t is_s is_t =
    lesser_bound root (spread (get_or (placed (player_sets form player)) k d)) (other (get_or (placed (player_sets form player)) k d)) _ _
    (one root play plan whole is k d low s t is_s is_t) (two root play plan whole is k d low s t is_s is_t)
