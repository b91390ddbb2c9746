-- Shares are written into a play one after the other.
use Rattle.std.proofs.Common.{◌≡◌, ℕ, ◌+◌, ◌<◌, ◌≢◌, List, length, get_or, length-set, ◌∙◌, refl, arith, ⊎_elim}
use Rattle.std.proofs.Math.ListN.{set}
use Rattle.std.proofs.lemmas.List.{get_or-set_other, get_or-set_same}
use Rattle.std.proofs.lemmas.Bool.{cases_eq}
use Rattle.xg_closer.specs.Playing.{PlaysFirst}

-- a play that is left as it was has the first 0 shares
pub plays_none : (first : ℕ) (shares before : List ℕ) → PlaysFirst first 0 shares before before
plays_none first shares before = record {
  count = refl;
  given = λ i below. absurd (omega arith);
  earlier = λ s low. refl;
  later = λ s from. refl;
}

-- where the first n shares are written, the next one written behind them makes n + 1
pub plays_more : (first n : ℕ) (shares before after : List ℕ) (share : ℕ) → PlaysFirst first n shares before after
    → first + n < length after → share ≡ get_or shares n 0
    → PlaysFirst first (n + 1) shares before (set after (first + n) share)
plays_more first n shares before after share so_far inside is = record {
  count = length-set after (first + n) share ∙ so_far.count;
  given = λ i below.
      ⊎_elim
      (λ here. rw here (get_or-set_same after (first + n) share 0 inside ∙ is))
      (λ there. let apart : first + i ≢ first + n = λ e. there (omega (arith, e)) in get_or-set_other after (first + n) (first + i) share 0 apart
      ∙ so_far.given i (omega arith))
      (cases_eq i n);
  earlier = λ s low. let apart : s ≢ first + n = omega arith in get_or-set_other after (first + n) s share 0 apart ∙ so_far.earlier s low;
  later = λ s from. let apart : s ≢ first + n = omega arith in get_or-set_other after (first + n) s share 0 apart ∙ so_far.later s (omega arith);
}
