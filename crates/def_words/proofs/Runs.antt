-- Whatever steps were taken, the rule holds.
use Rattle.std.proofs.Common.{◌≡◌, ℕ, zero, suc, ◌+◌, ◌*◌, List, [], ℤ, replicate, slice_index, refl, sym, ◌∙◌, subst, arith}
use mathlib.Core.Option.{some}
use lib.ListN.{get_elem?}
use Rattle.std.proofs.lemmas.Bool.Decides.{nat_tests}
use Rattle.std.proofs.lemmas.List.{length-replicate}
use Rattle.std.proofs.lemmas.List.Elements.{All-nil, All-push}
use Rattle.def_history.proofs.Counts.{times_from_Contains}
use Rattle.def_words.specs.declared.view.View.{View}
use Rattle.def_words.specs.declared.view.View.TheVariants.{Owner, Worker}
use Rattle.def_words.specs.Views.{first_view}
use Rattle.def_words.specs.Amounts.{AreSmall, word_at}
use Rattle.def_words.specs.Rule.{AreWordsKept, ViewFits}
use Rattle.def_words.specs.Steps.{WordState, WordStep, OneStepLeads, AreWordsReached, opening_words}
use Rattle.def_words.specs.Steps.WordStep.{claim, add, split, join, close}
use Rattle.def_words.specs.Steps.AreWordsReached.{at_first, after_step}
use Rattle.def_words.specs.Laws.{StepsKeepTheRule, TheRuleHolds, Stated, ClosesWithSums}
use Rattle.def_words.proofs.Brought.{times_in_all}
use Rattle.def_words.proofs.Moves.{all_out, claims_few, claims_kept, adds_kept, splits_kept, joins_kept, fits_at}
use Rattle.def_words.proofs.Closing.{closes, all_claimed, jobs_claimed}

-- all words of the opening are 0
pub zero_word : (n i : ℕ) → slice_index (replicate n 0) i ≡ 0
zero_word zero i = refl
zero_word (suc n) zero = refl
zero_word (suc n) (suc i) = zero_word n i

pub opening_kept : (jobs rows : ℕ) (amount : ℕ → ℕ → ℤ) → AreWordsKept jobs rows amount (opening_words rows).words (opening_words rows).views
opening_kept jobs rows amount =
    let first = zero_word (2 * rows + 1) 0 in
    record {
      count = length-replicate (2 * rows + 1) 0;
      claimed = λ n. rw first (grind (arith, nat_tests));
      owner = omega arith;
      unjoined = omega arith;
      past = rw first (omega arith);
      fits = All-push (ViewFits jobs) [] first_view (All-nil (ViewFits jobs)) (record { past = omega arith; made = omega arith });
      sums = λ side row here. zero_word (2 * rows + 1) (word_at side row);
    }

kept_at : (jobs rows : ℕ) (amount : ℕ → ℕ → ℤ) (after : WordState) (words : List ℕ) (views : List View) → after.words ≡ words → after.views ≡ views
    → AreWordsKept jobs rows amount words views → AreWordsKept jobs rows amount after.words after.views
kept_at jobs rows amount after words views same_words same_views kept =
    subst (λ ws. AreWordsKept jobs rows amount ws after.views) (sym same_words) (subst (AreWordsKept jobs rows amount words) (sym same_views) kept)

pub step_keeps : (jobs rows : ℕ) (amount : ℕ → ℕ → ℤ) (before : WordState) (step : WordStep) (after : WordState)
    → AreSmall jobs rows amount → AreWordsKept jobs rows amount before.words before.views
    → OneStepLeads jobs rows amount before step after → AreWordsKept jobs rows amount after.words after.views
step_keeps jobs rows amount before (claim seat) after small kept s =
    kept_at jobs rows amount after _ _ s.words s.views (claims_kept jobs rows amount before.words before.views seat s.numbers s.reached small s.below s.complete
    kept s.worker)
step_keeps jobs rows amount before (add seat row) after small kept s =
    kept_at jobs rows amount after _ _ s.words s.views (adds_kept jobs rows amount before.words before.views seat s.job s.earlier s.reached row small s.is_row
    s.is_job s.from_reached s.between kept s.worker)
step_keeps jobs rows amount before (split seat) after small kept s =
    kept_at jobs rows amount after _ _ s.words s.views (splits_kept jobs rows amount before.words before.views seat s.numbers s.made s.unjoined s.few kept
    s.owner)
step_keeps jobs rows amount before (join seat other) after small kept s =
    kept_at jobs rows amount after _ _ s.words s.views (joins_kept jobs rows amount before.words before.views seat s.numbers s.made s.unjoined other
    s.worker_numbers s.reached s.complete kept s.owner s.worker)
step_keeps jobs rows amount before (close seat) after small kept s = subst (λ (t : WordState). AreWordsKept jobs rows amount t.words t.views) (sym s.same) kept

pub steps_keep : StepsKeepTheRule
steps_keep = record { at_first = opening_kept; step = step_keeps }

-- so it holds in each state that is reached
pub reached_kept : (jobs rows : ℕ) (amount : ℕ → ℕ → ℤ) (state : WordState) → AreSmall jobs rows amount → AreWordsReached jobs rows amount state
    → AreWordsKept jobs rows amount state.words state.views
reached_kept jobs rows amount state small at_first = opening_kept jobs rows amount
reached_kept jobs rows amount state small (after_step {before} step run leads) =
    step_keeps jobs rows amount before step state small (reached_kept jobs rows amount before small run) leads

-- and what it says of single views
pub kept_is_stated : (jobs rows : ℕ) (amount : ℕ → ℕ → ℤ) (state : WordState) → AreWordsKept jobs rows amount state.words state.views
    → Stated jobs rows amount state
kept_is_stated jobs rows amount state k = record {
  once = λ n. times_in_all n state.views ∙ k.claimed n;
  few_claims = claims_few jobs rows amount state.words state.views k;
  owner = λ seat numbers made unjoined at.
      let fit = fits_at jobs state.views seat (Owner numbers made unjoined) k.fits at in
      record {
        few = omega (arith, fit.made);
        past = omega (arith, fit.past);
        unjoined_are = all_out jobs rows amount state.words state.views seat numbers made unjoined k at;
      };
  worker = λ seat numbers reached at. let fit = fits_at jobs state.views seat (Worker numbers reached) k.fits at in omega (arith, fit.past);
  rows_are = k.sums;
}

pub rule_holds : TheRuleHolds
rule_holds jobs rows amount state small run = kept_is_stated jobs rows amount state (reached_kept jobs rows amount state small run)

pub close_with_sums : ClosesWithSums
close_with_sums jobs rows amount before seat after small run s =
    let kept = step_keeps jobs rows amount before (close seat) after small (reached_kept jobs rows amount before small run) s in
    let at : get_elem? after.views seat ≡ some (Owner s.numbers s.made 0) = subst (λ (t : WordState). get_elem? t.views seat ≡ some (Owner s.numbers s.made 0))
    (sym s.same) s.owner in
    let past = s.past in
    let there = times_from_Contains past.0 s.numbers past.1 in
    let claimed = all_claimed jobs rows amount after.words after.views seat s.numbers s.made kept at in
    record {
      all_claimed = claimed;
      all_jobs = jobs_claimed jobs after.words s.numbers claimed past.0 there past.2;
      sums = closes jobs rows amount after.words after.views seat s.numbers s.made kept at past.0 there past.2;
    }
