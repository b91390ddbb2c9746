-- Regrets that are cut, one after the other.
use Rattle.std.proofs.Common.{◌≡◌, ◌≢◌, ℕ, ◌+◌, ◌<◌, ◌≤◌, Option, Some, None, List, length, length-set, ap, sym, ◌∙◌, refl, subst, arith, ⊎_elim}
use Rattle.std.specs.Prelude.{ℤ, pos, unsigned_abs}
use Rattle.std.specs.Int.{int_max}
use Rattle.std.proofs.Math.ListN.{set}
use Rattle.std.proofs.lemmas.List.{ext_get_or, get_or-set_other, get_or-set_same}
use Rattle.std.proofs.lemmas.Bool.{cases_eq}
use Rattle.def_plan.specs.FormRows.{amount_of}
use Rattle.def_plus.specs.Cut.{cut}
use Rattle.def_plus.proofs.Cuts.{cut_regrets_are_exact, regret_of-cut, size-cut}
use Rattle.def_round.specs.Play.{regret_of}
use Rattle.xg_closer.specs.Regrets.{AreWithin, KeepsRegrets, kept_regrets}

-- the first n are cut, and the others aren't yet
pub record IsCutUpTo (before : List ℤ) (n : ℕ) (after : List ℤ) : Type 0 where
  pub count : length after ≡ length before
  pub done : (s : ℕ) → s < n → amount_of after s ≡ int_max (pos 0) (amount_of before s)
  pub rest : (s : ℕ) → n ≤ s → amount_of after s ≡ amount_of before s

pub cut_none : (before : List ℤ) → IsCutUpTo before 0 before
cut_none before = record { count = refl; done = λ s below. absurd (omega arith); rest = λ s from. refl }

-- with the next one n + 1 are
pub cut_more : (before after : List ℤ) (n : ℕ) (next : ℤ) → IsCutUpTo before n after → n < length after
    → next ≡ int_max (pos 0) (amount_of after n) → IsCutUpTo before (n + 1) (set after n next)
cut_more before after n next so_far inside is = record {
  count = length-set after n next ∙ so_far.count;
  done = λ s below.
      ⊎_elim
      (λ here. rw here (get_or-set_same after n next (pos 0) inside ∙ is ∙ ap (int_max (pos 0)) (so_far.rest n (omega arith))))
      (λ there. get_or-set_other after n s next (pos 0) there ∙ so_far.done s (omega arith))
      (cases_eq s n);
  rest = λ s from. let apart : s ≢ n = omega arith in get_or-set_other after n s next (pos 0) apart ∙ so_far.rest s (omega arith);
}

-- where all are, they are the cut ones
pub all_cut : (before after : List ℤ) (n : ℕ) → IsCutUpTo before n after → length before ≤ n → after ≡ cut before
all_cut before after n so_far all =
    ext_get_or (pos 0) after (cut before) (so_far.count ∙ sym (cut_regrets_are_exact.all_sequences before))
    (λ s low. so_far.done s (omega (arith, so_far.count)) ∙ sym (cut_regrets_are_exact.greater before s))

-- what is kept of regrets holds of the cut ones too
pub keeps_cut : (most : Option ℕ) (small wide small_cut wide_cut worths small_worths : List ℤ) (rounds : ℕ)
    → length small_cut ≡ length small → length wide_cut ≡ length wide
    → kept_regrets most small_cut wide_cut ≡ cut (kept_regrets most small wide)
    → KeepsRegrets most small wide worths small_worths rounds
    → KeepsRegrets most small_cut wide_cut worths small_worths rounds
keeps_cut most small wide small_cut wide_cut worths small_worths rounds same_small same_wide is keeps =
    let before : List ℤ = kept_regrets most small wide in
    let smaller : (s : ℕ) → unsigned_abs (regret_of (kept_regrets most small_cut wide_cut) s) ≤ unsigned_abs (regret_of before s) =
    λ s. subst (λ rs. unsigned_abs (regret_of rs s) ≤ unsigned_abs (regret_of before s)) (sym is) (size-cut before s)
    in
    record {
      room = keeps.room ∙ sym same_wide;
      small_room = keeps.small_room ∙ sym same_wide;
      small_count = same_small ∙ keeps.small_count ∙ sym same_wide;
      none_of_empty = ap (λ rs. regret_of rs 0) is ∙ regret_of-cut before 0 ∙ ap (int_max (pos 0)) keeps.none_of_empty;
      few_rounds = keeps.few_rounds;
      sizes = λ s. omega (arith, smaller s, keeps.sizes s);
      within = within_cut most small wide small_cut wide_cut keeps.within smaller;
    }
  where
    within_cut : (most : Option ℕ) (small wide small_cut wide_cut : List ℤ) → AreWithin most small
        → ((s : ℕ) → unsigned_abs (regret_of (kept_regrets most small_cut wide_cut) s) ≤ unsigned_abs (regret_of (kept_regrets most small wide) s))
        → AreWithin most small_cut
    within_cut None small wide small_cut wide_cut within smaller = tt
    within_cut (Some most) small wide small_cut wide_cut within smaller = (within.0, λ s. omega (arith, smaller s, within.1 s))
