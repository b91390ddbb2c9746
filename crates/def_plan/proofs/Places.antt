-- The sets in their places.
use Rattle.std.proofs.Common.{◌≡◌, ℕ, zero, suc, ◌+◌, ◌<◌, List, [], ◌∷◌, ◌++◌, length, get_or, take, drop, flat_map, arith, ap, ◌∙◌, refl}
use Rattle.std.specs.List.{range_with_len}
use Rattle.def_sums.specs.Sum.{nat_sum_over}
use Rattle.def_sums.proofs.Ranges.{range-append}
use Rattle.def_plan.specs.Form.{InformationSet, PlacedSet, placed_from, placed, sequences_of, sequence_count, sequences}
use Rattle.def_plan.specs.Laws.{SequencesAreNumbered}

abbrev pub total_actions : List InformationSet → ℕ
total_actions hs = nat_sum_over (λ h. h.actions) hs

from_first : (first : ℕ) (hs : List InformationSet)
    → range_with_len first (total_actions hs) ≡ flat_map sequences_of (placed_from first hs)
from_first first [] = refl
from_first first (h ∷ hs) =
    range-append first h.actions (total_actions hs) ∙ ap (λ ss. range_with_len first h.actions ++ ss) (from_first (first + h.actions) hs)

in_turn : (sets : List InformationSet) → sequences sets ≡ 0 ∷ flat_map sequences_of (placed sets)
in_turn sets =
    let one_first : sequence_count sets ≡ suc (total_actions sets) = omega arith in
    ap (λ n. range_with_len 0 n) one_first ∙ ap (λ ss. 0 ∷ ss) (from_first 1 sets)

-- the set k, and the sets from it on
pub at-placed : (first : ℕ) (hs : List InformationSet) (k : ℕ) (h : PlacedSet) (g : InformationSet) → k < length hs
    → get_or (placed_from first hs) k h
    ≡ record { first = first + total_actions (take k hs); before = (get_or hs k g).before; actions = (get_or hs k g).actions }
at-placed first [] k h g low = absurd (omega arith)
at-placed first (a ∷ hs) zero h g low =
    let here : first ≡ first + 0 = omega arith in
    ap (λ n. record { first = n; before = a.before; actions = a.actions }) here
at-placed first (a ∷ hs) (suc k) h g low =
    let later : first + a.actions + total_actions (take k hs) ≡ first + (a.actions + total_actions (take k hs)) = omega arith in
    at-placed (first + a.actions) hs k h g (omega arith) ∙ ap (λ n. record { first = n; before = (get_or hs k g).before; actions = (get_or hs k g).actions })
    later

pub drop-placed : (first k : ℕ) (hs : List InformationSet)
    → drop k (placed_from first hs) ≡ placed_from (first + total_actions (take k hs)) (drop k hs)
drop-placed first zero hs = ap (λ n. placed_from n hs) (omega arith)
drop-placed first (suc k) [] = refl
drop-placed first (suc k) (a ∷ hs) = drop-placed (first + a.actions) k hs ∙ ap (λ n. placed_from n (drop k hs)) (omega arith)

-- the empty sequence and those of each set in turn are all sequences, and a set's place tells its first one
pub numbered : SequencesAreNumbered
numbered = record { in_turn = in_turn; each_set = λ sets k h g low. at-placed 1 sets k h g low }
