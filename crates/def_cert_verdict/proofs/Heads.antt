-- The tests of the head.
use Rattle.std.proofs.Common.{◌≡◌, ℕ, suc, ◌+◌, ◌-◌, ◌<◌, ◌≤◌, ◌&&◌, Bool, eqb, List, ◌∷◌, length, Option, refl, sym, ap, subst, arith, ⊎_elim}
use Rattle.std.specs.Bool.{Decides}
use Rattle.std.proofs.lemmas.Bool.{cases_lt}
use Rattle.std.proofs.lemmas.Bool.Decides.{Decides-eqb, Decides-and}
use Rattle.def_plan.specs.Form.{sequence_count}
use Rattle.def_plan.specs.Payoff.{mass_of}
use Rattle.def_reply.specs.Outcome.{Head}
use Rattle.def_cert_verdict.specs.declared.fault.TestFault.{TestFault}
use Rattle.def_cert_verdict.specs.declared.fault.TestFault.TheVariants.{HeadDiffers, NotAPlan, ValueTooGood, ReplyNotTight, TotalDiffers, TraceWidens}
use Rattle.def_cert_verdict.specs.declared.fault.TestFault.TheVariants.{SecondDiffers}
use Rattle.def_plan.specs.Weighed.{WeighedGame}
use Rattle.def_cert_verdict.specs.Verdict.{first_failing, unless, is_same_fraction, head_tests}
use Rattle.def_cert_verdict.specs.Laws.{IsHeadOf}
use Rattle.def_cert_verdict.specs.FaultCauses.{IsFirstNot, NamesLine, HeadFault}
use Rattle.def_cert_verdict.proofs.Fractions.{same_fraction}
use Rattle.def_cert_verdict.proofs.TestsDecide.{TestsDecide, TestsDecide-search, TestsDecide-like, Searches, Searches-end, Searches-step, first_unless}

-- two equations on one line
pub both : (a b c d : ℕ) → Decides (eqb a b && eqb c d) ((a ≡ b) × (c ≡ d))
both a b c d = Decides-and (eqb a b) (eqb c d) (Decides-eqb a b) (Decides-eqb c d)

other_line : (game : WeighedGame) (head : Head) (line : ℕ) → ((1 < line) → (line < 7) → ⊥) → NamesLine game head line
other_line game head line far = record {
  nodes = λ e. absurd (far (omega arith) (omega arith));
  sets = λ e. absurd (far (omega arith) (omega arith));
  sequences = λ e. absurd (far (omega arith) (omega arith));
  unit = λ e. absurd (far (omega arith) (omega arith));
  mass_is = λ e. absurd (far (omega arith) (omega arith));
}

nodes_line : (game : WeighedGame) (head : Head)
    → Decides (eqb head.nodes game.nodes && eqb head.leaves (length game.form.leaves)) (NamesLine game head 2)
nodes_line game head =
    let d = both head.nodes game.nodes head.leaves (length game.form.leaves) in (
      λ e. record {
        nodes = λ l. d.0 e;
        sets = λ l. absurd (omega arith);
        sequences = λ l. absurd (omega arith);
        unit = λ l. absurd (omega arith);
        mass_is = λ l. absurd (omega arith);
      },
      λ s. d.1 (s.nodes refl),
    )

sets_line : (game : WeighedGame) (head : Head)
    → Decides (eqb head.sets_one (length game.form.sets_one) && eqb head.sets_two (length game.form.sets_two)) (NamesLine game head 3)
sets_line game head =
    let d = both head.sets_one (length game.form.sets_one) head.sets_two (length game.form.sets_two) in (
      λ e. record {
        nodes = λ l. absurd (omega arith);
        sets = λ l. d.0 e;
        sequences = λ l. absurd (omega arith);
        unit = λ l. absurd (omega arith);
        mass_is = λ l. absurd (omega arith);
      },
      λ s. d.1 (s.sets refl),
    )

sequences_line : (game : WeighedGame) (head : Head)
    → Decides (eqb head.sequences_one (sequence_count game.form.sets_one) && eqb head.sequences_two (sequence_count game.form.sets_two)) (NamesLine game head 4)
sequences_line game head =
    let d = both head.sequences_one (sequence_count game.form.sets_one) head.sequences_two (sequence_count game.form.sets_two) in (
      λ e. record {
        nodes = λ l. absurd (omega arith);
        sets = λ l. absurd (omega arith);
        sequences = λ l. d.0 e;
        unit = λ l. absurd (omega arith);
        mass_is = λ l. absurd (omega arith);
      },
      λ s. d.1 (s.sequences refl),
    )

unit_line : (game : WeighedGame) (head : Head)
    → Decides (eqb head.unit game.unit && is_same_fraction head.sum game.sum) (NamesLine game head 5)
unit_line game head =
    let d = Decides-and (eqb head.unit game.unit) (is_same_fraction head.sum game.sum) (Decides-eqb head.unit game.unit) (same_fraction head.sum game.sum) in (
      λ e. record {
        nodes = λ l. absurd (omega arith);
        sets = λ l. absurd (omega arith);
        sequences = λ l. absurd (omega arith);
        unit = λ l. d.0 e;
        mass_is = λ l. absurd (omega arith);
      },
      λ s. d.1 (s.unit refl),
    )

mass_line : (game : WeighedGame) (head : Head)
    → Decides (eqb head.mass (mass_of game.form.leaves)) (NamesLine game head 6)
mass_line game head =
    let d = Decides-eqb head.mass (mass_of game.form.leaves) in (
      λ e. record {
        nodes = λ l. absurd (omega arith);
        sets = λ l. absurd (omega arith);
        sequences = λ l. absurd (omega arith);
        unit = λ l. absurd (omega arith);
        mass_is = λ l. d.0 e;
      },
      λ s. d.1 (s.mass_is refl),
    )

-- one test of a line, and those of the lines behind it
pub line_step : (n : ℕ) (b : Bool) (ts : List (Option TestFault)) (Says : ℕ → Type 0) → Decides b (Says 0)
    → Searches TestFault HeadDiffers (first_failing ts) (n + 1) (λ i. Says (suc i))
    → Searches TestFault HeadDiffers (first_failing (unless b (HeadDiffers n) ∷ ts)) n Says
line_step n b ts Says d s =
    subst (λ r. Searches TestFault HeadDiffers r n Says) (sym (first_unless b (HeadDiffers n) ts))
    (Searches-step TestFault HeadDiffers b (first_failing ts) n Says d s)

searched : (game : WeighedGame) (head : Head)
    → Searches TestFault HeadDiffers (first_failing (head_tests game head)) 2 (λ i. NamesLine game head (2 + i))
searched game head =
    line_step 2 _ _ (λ i. NamesLine game head (2 + i)) (nodes_line game head)
    (line_step 3 _ _ (λ i. NamesLine game head (2 + suc i)) (sets_line game head)
    (line_step 4 _ _ (λ i. NamesLine game head (2 + suc (suc i))) (sequences_line game head)
    (line_step 5 _ _ (λ i. NamesLine game head (2 + suc (suc (suc i)))) (unit_line game head)
    (line_step 6 _ _ (λ i. NamesLine game head (2 + suc (suc (suc (suc i))))) (mass_line game head)
    (Searches-end TestFault HeadDiffers 7 (λ i. NamesLine game head (2 + suc (suc (suc (suc (suc i))))))
    (λ i. other_line game head (2 + suc (suc (suc (suc (suc i))))) (λ low high. omega arith)))))))

-- ---- all lines
all_lines : (game : WeighedGame) (head : Head) → IsHeadOf game head → (line : ℕ) → NamesLine game head line
all_lines game head h line = record {
  nodes = λ l. (h.nodes, h.leaves);
  sets = λ l. (h.sets_one, h.sets_two);
  sequences = λ l. (h.sequences_one, h.sequences_two);
  unit = λ l. (h.unit, h.sum_is);
  mass_is = λ l. h.mass_is;
}

head_of : (game : WeighedGame) (head : Head) → ((i : ℕ) → NamesLine game head (2 + i)) → IsHeadOf game head
head_of game head says = record {
  nodes = ((says 0).nodes refl).0;
  leaves = ((says 0).nodes refl).1;
  sets_one = ((says 1).sets refl).0;
  sets_two = ((says 1).sets refl).1;
  sequences_one = ((says 2).sequences refl).0;
  sequences_two = ((says 2).sequences refl).1;
  unit = ((says 3).unit refl).0;
  sum_is = ((says 3).unit refl).1;
  mass_is = (says 4).mass_is refl;
}

from_two : (game : WeighedGame) (head : Head) (i : ℕ) → IsFirstNot (λ k. NamesLine game head (2 + k)) i
    → IsFirstNot (NamesLine game head) (2 + i)
from_two game head i f = record {
  fails = f.fails;
  earlier = λ j low. ⊎_elim (λ less. other_line game head j (λ a b. omega arith))
      (λ more. subst (NamesLine game head) (back j more) (f.earlier (j - 2) (omega arith))) (cases_lt j 2);
}
  where
    back : (j : ℕ) → 2 ≤ j → 2 + (j - 2) ≡ j
    back j more = omega arith

caused : (game : WeighedGame) (head : Head) (f : TestFault) → HeadFault game head f
    → (i : ℕ) × (f ≡ HeadDiffers (2 + i)) × IsFirstNot (λ k. NamesLine game head (2 + k)) i
caused game head (HeadDiffers line) c =
    ⊎_elim (λ less. absurd (c.fails (other_line game head line (λ a b. omega arith))))
    (λ more.
    let back : line ≡ 2 + (line - 2) = omega arith in (
      line - 2,
      ap HeadDiffers back,
      record {
        fails = λ s. c.fails (subst (NamesLine game head) (sym back) s);
        earlier = λ j low. c.earlier (2 + j) (omega arith);
      },
    ))
    (cases_lt line 2)
caused game head (NotAPlan p set) c = absurd c
caused game head (ValueTooGood p set action) c = absurd c
caused game head (ReplyNotTight p set) c = absurd c
caused game head (TotalDiffers end) c = absurd c
caused game head (TraceWidens line) c = absurd c
caused game head SecondDiffers c = absurd c

-- the head's tests pass exactly where it is the game's, else the fault has the first line that differs
pub head_described : (game : WeighedGame) (head : Head)
    → TestsDecide (head_tests game head) (IsHeadOf game head) (HeadFault game head)
head_described game head =
    TestsDecide-like (head_tests game head) _ (IsHeadOf game head) _ (HeadFault game head)
    (TestsDecide-search HeadDiffers (head_tests game head) 2 (λ i. NamesLine game head (2 + i)) (searched game head))
    (head_of game head, λ h i. all_lines game head h (2 + i))
    (λ f. (λ c. subst (HeadFault game head) (sym c.1) (from_two game head c.0 c.2), caused game head f))
