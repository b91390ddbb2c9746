-- The tests of a plan.
use Rattle.std.proofs.Common.{◌≡◌, ℕ, zero, suc, ◌+◌, ◌⊎◌, ◌&&◌, eqb, leb, List, [], ◌∷◌, length, length-append, slice_index, Option, Some, None, All, refl}
use Rattle.std.proofs.Common.{sym, ap, ◌∙◌, subst, arith, ⊎_elim, inl, inr}
use Rattle.std.specs.Bool.{Decides}
use Rattle.std.specs.List.{AllZip}
use Rattle.std.proofs.lemmas.Bool.Decides.{Decides-eqb, Decides-and, Decides-like}
use Rattle.std.proofs.lemmas.Bool.{le-leb}
use Rattle.std.proofs.lemmas.Option.{none-some, same_Some}
use Rattle.std.proofs.lemmas.List.Elements.{All-cons, All-nil, All-head, All-tail}
use Rattle.std.proofs.Common.{leb-true}
use Rattle.def_tree.specs.declared.Player.{Player}
use Rattle.def_sums.specs.Sum.{nat_sum_over}
use Rattle.def_plan.specs.Form.{InformationSet, PlacedSet, placed, sequences_of}
use Rattle.def_plan.specs.Plan.{AddsUp, first_not_adding}
use Rattle.def_cert_verdict.specs.declared.fault.TestFault.{TestFault}
use Rattle.def_cert_verdict.specs.declared.fault.TestFault.TheVariants.{HeadDiffers, NotAPlan, ValueTooGood, ReplyNotTight, TotalDiffers, TraceWidens}
use Rattle.def_cert_verdict.specs.declared.fault.TestFault.TheVariants.{SecondDiffers}
use Rattle.def_cert_verdict.specs.Certificate.{PrintedPlan, joined, printed_numbers}
use Rattle.def_cert_verdict.specs.Verdict.{unless, first_of_other_size, not_a_plan_at, plan_tests}
use Rattle.def_cert_verdict.specs.Laws.{HoldsAsPlan}
use Rattle.def_cert_verdict.specs.FaultCauses.{IsFirstNot, HasPrintedRoot, HasItsActions, AddsUpAt, IsBadPlan, other_root, other_size, not_adding, PlanFault}
use Rattle.def_cert_verdict.proofs.TestsDecide.{TestsDecide, TestsDecide-one, TestsDecide-append, TestsDecide-like, Searches, Searches-end, Searches-stop}
use Rattle.def_cert_verdict.proofs.TestsDecide.{Searches-step}

abbrev itself : ℕ → ℕ
itself n = n

-- ---- sizes
no_set : (i : ℕ) → HasItsActions [] [] i
no_set zero = refl
no_set (suc i) = refl

sizes_searched : (k : ℕ) (hs : List InformationSet) (wss : List (List ℕ))
    → Searches ℕ itself (first_of_other_size k hs wss) k (HasItsActions hs wss)
sizes_searched k [] [] = Searches-end ℕ itself k (HasItsActions [] []) no_set
sizes_searched k [] (ws ∷ wss) = Searches-stop ℕ itself k (HasItsActions [] (ws ∷ wss)) (λ e. none-some (length ws) (sym e))
sizes_searched k (h ∷ hs) [] = Searches-stop ℕ itself k (HasItsActions (h ∷ hs) []) (λ e. none-some h.actions e)
sizes_searched k (h ∷ hs) (ws ∷ wss) =
    Searches-step ℕ itself (eqb (length ws) h.actions) (first_of_other_size (k + 1) hs wss) k (HasItsActions (h ∷ hs) (ws ∷ wss))
    (Decides-like (eqb (length ws) h.actions) (ap Some) (same_Some (length ws) h.actions) (Decides-eqb (length ws) h.actions))
    (sizes_searched (k + 1) hs wss)

sizes_zip : (hs : List InformationSet) (wss : List (List ℕ)) → ((i : ℕ) → HasItsActions hs wss i)
    → AllZip (λ h ws. length ws ≡ h.actions) hs wss
sizes_zip [] [] s = tt
sizes_zip [] (ws ∷ wss) s = absurd (none-some (length ws) (sym (s 0)))
sizes_zip (h ∷ hs) [] s = absurd (none-some h.actions (s 0))
sizes_zip (h ∷ hs) (ws ∷ wss) s = (same_Some (length ws) h.actions (s 0), sizes_zip hs wss (λ i. s (suc i)))

zip_sizes : (hs : List InformationSet) (wss : List (List ℕ)) → AllZip (λ h ws. length ws ≡ h.actions) hs wss → (i : ℕ)
    → HasItsActions hs wss i
zip_sizes [] [] z i = no_set i
zip_sizes [] (ws ∷ wss) z i = elim z [ ]
zip_sizes (h ∷ hs) [] z i = elim z [ ]
zip_sizes (h ∷ hs) (ws ∷ wss) z zero = ap Some z.0
zip_sizes (h ∷ hs) (ws ∷ wss) z (suc i) = zip_sizes hs wss z.1 i

all_numbers : (hs : List InformationSet) (wss : List (List ℕ)) → AllZip (λ h ws. length ws ≡ h.actions) hs wss
    → length (joined wss) ≡ nat_sum_over (λ h. h.actions) hs
all_numbers [] [] h = refl
all_numbers [] (ws ∷ wss) h = elim h [ ]
all_numbers (g ∷ gs) [] h = elim h [ ]
all_numbers (g ∷ gs) (ws ∷ wss) h = omega (arith, length-append ws (joined wss), h.0, all_numbers gs wss h.1)

-- ---- sums
adds_here : (plan : List ℕ) (h : PlacedSet) (hs : List PlacedSet)
    → Decides (eqb (nat_sum_over (λ s. slice_index plan s) (sequences_of h)) (slice_index plan h.before)) (AddsUpAt plan (h ∷ hs) 0)
adds_here plan h hs =
    let d = Decides-eqb (nat_sum_over (λ s. slice_index plan s) (sequences_of h)) (slice_index plan h.before) in
    (λ e g is. subst (AddsUp plan) (same_Some h g is) (d.0 e), λ a. d.1 (a h refl))

no_sum : (plan : List ℕ) (i : ℕ) → AddsUpAt plan [] i
no_sum plan zero h is = absurd (none-some h is)
no_sum plan (suc i) h is = absurd (none-some h is)

sums_searched : (plan : List ℕ) (k : ℕ) (hs : List PlacedSet)
    → Searches ℕ itself (first_not_adding plan k hs) k (AddsUpAt plan hs)
sums_searched plan k [] = Searches-end ℕ itself k (AddsUpAt plan []) (no_sum plan)
sums_searched plan k (h ∷ hs) =
    Searches-step ℕ itself (eqb (nat_sum_over (λ s. slice_index plan s) (sequences_of h)) (slice_index plan h.before)) (first_not_adding plan (k + 1) hs) k
    (AddsUpAt plan (h ∷ hs)) (adds_here plan h hs) (sums_searched plan (k + 1) hs)

all_add : (plan : List ℕ) (hs : List PlacedSet) → ((i : ℕ) → AddsUpAt plan hs i) → All (AddsUp plan) hs
all_add plan [] a = All-nil (AddsUp plan)
all_add plan (h ∷ hs) a = All-cons (AddsUp plan) h hs (a 0 h refl) (all_add plan hs (λ i. a (suc i)))

each_adds : (plan : List ℕ) (hs : List PlacedSet) → All (AddsUp plan) hs → (i : ℕ) → AddsUpAt plan hs i
each_adds plan [] all i = no_sum plan i
each_adds plan (h ∷ hs) all zero = λ g is. subst (AddsUp plan) (same_Some h g is) (All-head (AddsUp plan) h hs all)
each_adds plan (h ∷ hs) all (suc i) = each_adds plan hs (All-tail (AddsUp plan) h hs all) i

-- ---- the three tests
set_described : (player : Player) (r : Option ℕ) (n : ℕ) (Holds : ℕ → Type 0) → Searches ℕ itself r n Holds
    → TestsDecide (not_a_plan_at player r ∷ []) ((i : ℕ) → Holds i) (λ f. (i : ℕ) × (f ≡ NotAPlan player (n + i)) × IsFirstNot Holds i)
set_described player None n Holds s = record {
  none = (λ e. s.none.0 refl, λ h. refl);
  some = λ f. (λ e. absurd (none-some f e), λ c. absurd (c.2.fails (s.none.0 refl c.0)));
}
set_described player (Some k) n Holds s = record {
  none = (λ e. absurd (none-some (NotAPlan player k) (sym e)), λ h. absurd (none-some k (sym (s.none.1 h))));
  some = λ f. (
    λ e. let c = (s.some k).0 refl in (c.0, sym (same_Some (NotAPlan player k) f e) ∙ ap (NotAPlan player) c.1, c.2),
    λ c. ap Some (ap (NotAPlan player) (same_Some k (n + c.0) ((s.some (n + c.0)).1 (c.0, refl, c.2))) ∙ sym c.1),
  );
}

root_decided : (root : ℕ) (plan : PrintedPlan)
    → Decides (leb 1 plan.root && eqb plan.root root) (HasPrintedRoot root plan)
root_decided root plan = Decides-and (leb 1 plan.root) (eqb plan.root root) (leb-true 1 plan.root, le-leb 1 plan.root) (Decides-eqb plan.root root)

holds_as_plan : (sets : List InformationSet) (root : ℕ) (plan : PrintedPlan) → HasPrintedRoot root plan
    → ((i : ℕ) → HasItsActions sets plan.weights i)
    → ((i : ℕ) → AddsUpAt (printed_numbers plan) (placed sets) i) → HoldsAsPlan sets root plan
holds_as_plan sets root plan has sizes adds =
    let zipped = sizes_zip sets plan.weights sizes in
    let long = all_numbers sets plan.weights zipped in
    record {
      root_is = has.1;
      sizes = zipped;
      is_plan = record { all_sequences = omega arith; some_root = has.0; root_weight = refl; each_set = all_add (printed_numbers plan) (placed sets) adds };
    }

named : (player p : Player) (set n : ℕ) → p ≡ player → set ≡ n → NotAPlan p set ≡ NotAPlan player n
named player p set n same e = ap (λ q. NotAPlan q set) same ∙ ap (NotAPlan player) e

-- the same, as the three tests in turn
abbrev InTurn : Player → List InformationSet → ℕ → PrintedPlan → TestFault → Type 0
InTurn player sets root plan f =
    ((f ≡ NotAPlan player 0) × (¬ (HasPrintedRoot root plan)))
    ⊎ (HasPrintedRoot root plan
    × (((i : ℕ) × (f ≡ NotAPlan player (1 + i)) × IsFirstNot (HasItsActions sets plan.weights) i)
    ⊎ (((i : ℕ) → HasItsActions sets plan.weights i) × ((i : ℕ) × (f ≡ NotAPlan player (1 + i))
    × IsFirstNot (AddsUpAt (printed_numbers plan) (placed sets)) i))))

caused : (player : Player) (sets : List InformationSet) (root : ℕ) (plan : PrintedPlan) (f : TestFault)
    → InTurn player sets root plan f → PlanFault player sets root plan f
caused player sets root plan f turn =
    let back : (n : ℕ) → f ≡ NotAPlan player n → IsBadPlan sets root plan n → PlanFault player sets root plan f =
    λ n e bad. subst (PlanFault player sets root plan) (sym e) (refl, bad)
    in
    ⊎_elim (λ c. back 0 c.0 (other_root c.1 refl))
    (λ c. ⊎_elim (λ s. back (1 + s.0) s.1 (other_size c.0 s.0 s.2 refl)) (λ s. back (1 + s.1.0) s.1.1 (not_adding c.0 s.0 s.1.0 s.1.2 refl)) c.1)
    turn

turned : (player : Player) (sets : List InformationSet) (root : ℕ) (plan : PrintedPlan) (p : Player) (set : ℕ)
    → p ≡ player → IsBadPlan sets root plan set
    → InTurn player sets root plan (NotAPlan p set)
turned player sets root plan p set same (other_root bad e) = inl (named player p set 0 same e, bad)
turned player sets root plan p set same (other_size has k first e) = inr (has, inl (k, named player p set (1 + k) same e, first))
turned player sets root plan p set same (not_adding has sizes k first e) = inr (has, inr (sizes, (k, named player p set (1 + k) same e, first)))

in_turn : (player : Player) (sets : List InformationSet) (root : ℕ) (plan : PrintedPlan) (f : TestFault)
    → PlanFault player sets root plan f → InTurn player sets root plan f
in_turn player sets root plan (NotAPlan p set) c = turned player sets root plan p set c.0 c.1
in_turn player sets root plan (HeadDiffers line) c = absurd c
in_turn player sets root plan (ValueTooGood p set action) c = absurd c
in_turn player sets root plan (ReplyNotTight p set) c = absurd c
in_turn player sets root plan (TotalDiffers end) c = absurd c
in_turn player sets root plan (TraceWidens line) c = absurd c
in_turn player sets root plan SecondDiffers c = absurd c

-- a plan's tests pass exactly where it is one of the root, else the fault has what is wrong first
pub plan_described : (player : Player) (sets : List InformationSet) (root : ℕ) (plan : PrintedPlan)
    → TestsDecide (plan_tests player sets root plan) (HoldsAsPlan sets root plan) (PlanFault player sets root plan)
plan_described player sets root plan =
    let r : Option ℕ = first_of_other_size 1 sets plan.weights in
    let q : Option ℕ = first_not_adding (printed_numbers plan) 1 (placed sets) in
    let first = TestsDecide-one (leb 1 plan.root && eqb plan.root root) (NotAPlan player 0) (HasPrintedRoot root plan) (root_decided root plan) in
    let second = set_described player r 1 (HasItsActions sets plan.weights) (sizes_searched 1 sets plan.weights) in
    let third = set_described player q 1 (AddsUpAt (printed_numbers plan) (placed sets)) (sums_searched (printed_numbers plan) 1 (placed sets)) in
    TestsDecide-like (plan_tests player sets root plan) _ (HoldsAsPlan sets root plan) _ (PlanFault player sets root plan)
    (TestsDecide-append (unless (leb 1 plan.root && eqb plan.root root) (NotAPlan player 0) ∷ []) _ _ _ _ _ first
    (TestsDecide-append (not_a_plan_at player r ∷ []) (not_a_plan_at player q ∷ []) _ _ _ _ second third)) (
      λ h. holds_as_plan sets root plan h.0 h.1.0 h.1.1,
      λ h. ((h.is_plan.some_root, h.root_is), (zip_sizes sets plan.weights h.sizes, each_adds (printed_numbers plan) (placed sets) h.is_plan.each_set)),
    )
    (λ f. (caused player sets root plan f, in_turn player sets root plan f))
