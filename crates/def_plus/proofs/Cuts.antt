-- What a cut makes of regrets.
use Rattle.std.proofs.Common.{◌≡◌, ℕ, zero, suc, ◌≤◌, List, [], ◌∷◌, ◌++◌, map, arith, ap, ◌∙◌, refl}
use Rattle.std.specs.Prelude.{ℤ, pos, negsuc, ◌≤ℤ◌, unsigned_abs, flat_map}
use Rattle.std.specs.Int.{int_max}
use Rattle.std.proofs.lemmas.Int.{ints, clamps}
use Rattle.std.proofs.lemmas.List.{length-map}
use Rattle.def_plan.specs.Form.{PlacedSet, placed, sequences_of}
use Rattle.def_round.specs.Shares.{shares}
use Rattle.def_round.specs.Play.{units, positive_part, regret_of, set_play}
use Rattle.def_plus.specs.Cut.{cut}
use Rattle.def_plus.specs.Laws.{CutRegretsAreExact}

-- a cut regret is the greater of 0 and the regret, past the last one too
pub regret_of-cut : (regrets : List ℤ) (s : ℕ) → regret_of (cut regrets) s ≡ int_max (pos 0) (regret_of regrets s)
regret_of-cut [] zero = refl
regret_of-cut [] (suc s) = refl
regret_of-cut (r ∷ rs) zero = refl
regret_of-cut (r ∷ rs) (suc s) = regret_of-cut rs s

is_zero : (r : ℤ) → r ≤ℤ pos 0 → int_max (pos 0) r ≡ pos 0
is_zero r h = omega (arith, ints, clamps)

is_same : (r : ℤ) → pos 0 ≤ℤ r → int_max (pos 0) r ≡ r
is_same r h = omega (arith, ints, clamps)

smaller : (r : ℤ) → unsigned_abs (int_max (pos 0) r) ≤ unsigned_abs r
smaller r = omega (arith, ints, clamps)

-- a cut makes no regret larger
pub size-cut : (regrets : List ℤ) (s : ℕ) → unsigned_abs (regret_of (cut regrets) s) ≤ unsigned_abs (regret_of regrets s)
size-cut regrets s = omega (arith, ap unsigned_abs (regret_of-cut regrets s), smaller (regret_of regrets s))

-- and leaves none below 0
pub not_negative-cut : (regrets : List ℤ) (s : ℕ) → pos 0 ≤ℤ regret_of (cut regrets) s
not_negative-cut regrets s =
    let r : ℤ = regret_of regrets s in
    omega (arith, ints, clamps, regret_of-cut regrets s)

-- ---- what is played next
pub same_part : (r : ℤ) → positive_part (int_max (pos 0) r) ≡ positive_part r
same_part (pos n) = ap positive_part (is_same (pos n) (omega (arith, ints)))
same_part (negsuc n) = ap positive_part (is_zero (negsuc n) (omega (arith, ints)))

same_parts : (regrets : List ℤ) (xs : List ℕ)
    → map (λ s. positive_part (regret_of (cut regrets) s)) xs ≡ map (λ s. positive_part (regret_of regrets s)) xs
same_parts regrets [] = refl
same_parts regrets (x ∷ xs) =
    ap (λ n. n ∷ map (λ s. positive_part (regret_of (cut regrets) s)) xs) (ap positive_part (regret_of-cut regrets x) ∙ same_part (regret_of regrets x))
    ∙ ap (λ ns. positive_part (regret_of regrets x) ∷ ns) (same_parts regrets xs)

same_plays : (regrets : List ℤ) (hs : List PlacedSet) → flat_map (set_play (cut regrets)) hs ≡ flat_map (set_play regrets) hs
same_plays regrets [] = refl
same_plays regrets (h ∷ hs) =
    ap (λ ns. shares units ns ++ flat_map (set_play (cut regrets)) hs) (same_parts regrets (sequences_of h))
    ∙ ap (λ ns. set_play regrets h ++ ns) (same_plays regrets hs)

-- a cut regret is the greater of 0 and the regret, and regret matching plays by the cut ones as by the others
pub cut_regrets_are_exact : CutRegretsAreExact
cut_regrets_are_exact = record {
  all_sequences = λ regrets. length-map regrets (int_max (pos 0));
  greater = regret_of-cut;
  negative = λ regrets s h. regret_of-cut regrets s ∙ is_zero (regret_of regrets s) h;
  others = λ regrets s h. regret_of-cut regrets s ∙ is_same (regret_of regrets s) h;
  sizes = size-cut;
  same_play = λ sets regrets. ap (λ ns. 0 ∷ ns) (same_plays regrets (placed sets));
}
