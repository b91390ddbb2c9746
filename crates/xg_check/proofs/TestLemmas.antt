-- The first failing test, one action and one set after the other.
use Rattle.std.proofs.Common.{◌≡◌, ℕ, zero, suc, ◌+◌, ◌-◌, ◌<◌, ◌≤◌, Bool, true, false, cond, leb, ◌&&◌, List, [], ◌∷◌, ◌++◌, length, get_or, drop, map, Option}
use Rattle.std.proofs.Common.{Some, None, ℤ, pos, refl, sym, ap, ◌∙◌, arith}
use Rattle.std.specs.Prelude.{is_some}
use Rattle.std.specs.List.{range_with_len}
use Rattle.std.specs.Ordering.{int_eq}
use Rattle.std.proofs.lemmas.List.{drop_more, drop_all}
use Rattle.def_tree.specs.declared.Player.{Player}
use Rattle.def_plan.specs.Form.{InformationSet, PlacedSet, placed}
use Rattle.def_plan.specs.Payoff.{worth}
use Rattle.def_fraction.specs.Fraction.{Fraction, fraction_of}
use Rattle.def_reply.specs.Reply.{SetReply, choices_of, values_of}
use Rattle.def_cert_verdict.specs.declared.fault.TestFault.{TestFault}
use Rattle.def_cert_verdict.specs.declared.fault.TestFault.TheVariants.{ReplyNotTight, TotalDiffers, ValueTooGood}
use Rattle.def_cert_verdict.specs.Verdict.{action_test, end_shown_by, first_failing, is_better, is_same_fraction, reply_tests, set_tests, unless}
use Rattle.def_cert_verdict.specs.Verdict.{whole_reply_tests}
use Rattle.xg_plan.specs.Reply.{set_replies}
use Rattle.xg_plan.proofs.ReplyLemmas.{values-set_replies}
use Rattle.xg_check.specs.Views.{printed_reply, row}

-- ---- lists of tests
-- with a passing test in front, the first fault is that of the tests behind it
pub passes_first : (x : Option TestFault) (xs : List (Option TestFault)) → x ≡ None
    → first_failing (x ∷ xs) ≡ first_failing xs
passes_first None xs e = refl
passes_first (Some f) xs e = absurd cc

-- a failing test in front of all others gives the first fault
pub fails_first : (x : Option TestFault) (xs : List (Option TestFault)) (f : TestFault) → x ≡ Some f
    → first_failing (x ∷ xs) ≡ Some f
fails_first (Some g) xs f e = e
fails_first None xs f e = absurd cc

pub passes_all : (xs ys : List (Option TestFault)) → first_failing xs ≡ None
    → first_failing (xs ++ ys) ≡ first_failing ys
passes_all [] ys e = refl
passes_all (None ∷ xs) ys e = passes_all xs ys e
passes_all (Some f ∷ xs) ys e = absurd cc

pub fails_in : (xs ys : List (Option TestFault)) (f : TestFault) → first_failing xs ≡ Some f
    → first_failing (xs ++ ys) ≡ Some f
fails_in [] ys f e = absurd cc
fails_in (None ∷ xs) ys f e = fails_in xs ys f e
fails_in (Some g ∷ xs) ys f e = e

-- a front of tests stops the rest, or lets them decide
pub front_stops : (found : Option TestFault) (xs ys : List (Option TestFault)) → found ≡ first_failing xs
    → is_some found ≡ true → found ≡ first_failing (xs ++ ys)
front_stops (Some f) xs ys e some = sym (fails_in xs ys f (sym e))
front_stops None xs ys e some = absurd cc

-- where a front of tests finds no fault, the first one of all is that of the rest
pub front_passes : (found : Option TestFault) (xs ys : List (Option TestFault)) → found ≡ first_failing xs
    → is_some found ≡ false → first_failing (xs ++ ys) ≡ first_failing ys
front_passes (Some f) xs ys e none = absurd cc
front_passes None xs ys e none = passes_all xs ys (sym e)

-- ---- the actions of a set: the tests of those from `a` on, and what comes then
abbrev pub from_action : (ℕ → Option TestFault) → ℕ → ℕ → List (Option TestFault) → List (Option TestFault)
from_action test a left more = map test (range_with_len a left) ++ more

pub next_action : (test : ℕ → Option TestFault) (a actions : ℕ) (more : List (Option TestFault)) → a < actions
    → from_action test (a + 1) (actions - a) more ≡ test (a + 1) ∷ from_action test (a + 1 + 1) (actions - (a + 1)) more
next_action test a actions more low =
    let e : actions - a ≡ suc (actions - (a + 1)) = omega arith in
    ap (λ k. from_action test (a + 1) k more) e

pub no_action : (test : ℕ → Option TestFault) (a actions : ℕ) (more : List (Option TestFault)) → actions ≤ a
    → from_action test (a + 1) (actions - a) more ≡ more
no_action test a actions more le =
    let e : actions - a ≡ 0 = omega arith in ap (λ k. from_action test (a + 1) k more) e

abbrev pub last_test : Player → List ℤ → ℕ → PlacedSet → SetReply → List (Option TestFault)
last_test player rows k h r =
    unless ((leb 1 r.choice && leb r.choice h.actions) && int_eq (row rows (h.first + (r.choice - 1))) r.value) (ReplyNotTight player k) ∷ []

action_here : (player : Player) (rows : List ℤ) (k : ℕ) (h : PlacedSet) (r : SetReply) (a : ℕ) (better : Bool)
    → is_better player (row rows (h.first + a)) r.value ≡ better
    → action_test player (row rows) k h r (a + 1) ≡ cond better (Some (ValueTooGood player k (a + 1))) None
action_here player rows k h r a better e =
    let place : h.first + (a + 1 - 1) ≡ h.first + a = omega arith in
    ap (λ (s : ℕ). cond (is_better player (row rows s) r.value) (Some (ValueTooGood player k (a + 1))) None) place
    ∙ ap (λ b. cond b (Some (ValueTooGood player k (a + 1))) None) e

-- the next action is better than the value, or it isn't
pub action_fails : (player : Player) (rows : List ℤ) (k : ℕ) (h : PlacedSet) (r : SetReply) (a : ℕ) → a < h.actions
    → is_better player (row rows (h.first + a)) r.value ≡ true
    → first_failing (from_action (action_test player (row rows) k h r) (a + 1) (h.actions - a) (last_test player rows k h r))
    ≡ Some (ValueTooGood player k (a + 1))
action_fails player rows k h r a low e =
    ap first_failing (next_action (action_test player (row rows) k h r) a h.actions (last_test player rows k h r) low)
    ∙ fails_first _ _ _ (action_here player rows k h r a true e)

-- where the next action isn't better than the value, the tests behind it decide
pub action_passes : (player : Player) (rows : List ℤ) (k : ℕ) (h : PlacedSet) (r : SetReply) (a : ℕ) → a < h.actions
    → is_better player (row rows (h.first + a)) r.value ≡ false
    → first_failing (from_action (action_test player (row rows) k h r) (a + 1) (h.actions - a) (last_test player rows k h r))
    ≡ first_failing (from_action (action_test player (row rows) k h r) (a + 1 + 1) (h.actions - (a + 1)) (last_test player rows k h r))
action_passes player rows k h r a low e =
    ap first_failing (next_action (action_test player (row rows) k h r) a h.actions (last_test player rows k h r) low)
    ∙ passes_first _ _ (action_here player rows k h r a false e)

-- ---- the sets
abbrev pub tests_from : Player → List ℤ → ℕ → List PlacedSet → List SetReply → List (Option TestFault)
tests_from player rows k hs rs = reply_tests player (row rows) k hs rs

abbrev pub tests_at : Player → List ℤ → ℕ → PlacedSet → SetReply → List (Option TestFault)
tests_at player rows k h r = set_tests player (row rows) (k + 1) h r

next_set : (player : Player) (rows : List ℤ) (hs : List PlacedSet) (rs : List SetReply) (k : ℕ) (h : PlacedSet)
    (r : SetReply)
    → k < length hs → k < length rs → get_or hs k h ≡ h → get_or rs k r ≡ r
    → tests_from player rows (k + 1) (drop k hs) (drop k rs)
    ≡ tests_at player rows k h r ++ tests_from player rows (k + 1 + 1) (drop (k + 1) hs) (drop (k + 1) rs)
next_set player rows hs rs k h r low low' is is' =
    ap (λ ys. tests_from player rows (k + 1) ys (drop k rs)) (drop_more hs k h low ∙ ap (λ y. y ∷ drop (k + 1) hs) is)
    ∙ ap (λ ys. tests_from player rows (k + 1) (h ∷ drop (k + 1) hs) ys) (drop_more rs k r low' ∙ ap (λ y. y ∷ drop (k + 1) rs) is')

-- past the last set and the last reply no tests are left
pub no_set : (player : Player) (rows : List ℤ) (hs : List PlacedSet) (rs : List SetReply) (k : ℕ) → length hs ≤ k
    → length rs ≤ k → tests_from player rows (k + 1) (drop k hs) (drop k rs) ≡ []
no_set player rows hs rs k le le' =
    ap (λ ys. tests_from player rows (k + 1) ys (drop k rs)) (drop_all k hs le)
    ∙ ap (λ ys. tests_from player rows (k + 1) [] ys) (drop_all k rs le')

-- a fault that a set's own tests find is the first one of the tests from this set on
pub set_stops : (player : Player) (rows : List ℤ) (hs : List PlacedSet) (rs : List SetReply) (k : ℕ) (h : PlacedSet)
    (r : SetReply) (found : Option TestFault)
    → k < length hs → k < length rs → get_or hs k h ≡ h → get_or rs k r ≡ r
    → found ≡ first_failing (tests_at player rows k h r) → is_some found ≡ true
    → found ≡ first_failing (tests_from player rows (k + 1) (drop k hs) (drop k rs))
set_stops player rows hs rs k h r found low low' is is' e some =
    front_stops found (tests_at player rows k h r) (tests_from player rows (k + 1 + 1) (drop (k + 1) hs) (drop (k + 1) rs)) e some
    ∙ ap first_failing (sym (next_set player rows hs rs k h r low low' is is'))

-- where a set's own tests find no fault, the tests from the next set on decide
pub set_passes : (player : Player) (rows : List ℤ) (hs : List PlacedSet) (rs : List SetReply) (k : ℕ) (h : PlacedSet)
    (r : SetReply) (found : Option TestFault)
    → k < length hs → k < length rs → get_or hs k h ≡ h → get_or rs k r ≡ r
    → found ≡ first_failing (tests_at player rows k h r) → is_some found ≡ false
    → first_failing (tests_from player rows (k + 1) (drop k hs) (drop k rs))
    ≡ first_failing (tests_from player rows (k + 1 + 1) (drop (k + 1) hs) (drop (k + 1) rs))
set_passes player rows hs rs k h r found low low' is is' e none =
    ap first_failing (next_set player rows hs rs k h r low low' is is')
    ∙ front_passes found (tests_at player rows k h r) (tests_from player rows (k + 1 + 1) (drop (k + 1) hs) (drop (k + 1) rs)) e none

-- the reply at a place is the value and the choice at this place
pub reply_there : (vs : List ℤ) (cs : List ℕ) (k : ℕ) (d : SetReply) → length vs ≡ length cs → k < length vs
    → get_or (set_replies vs cs) k d ≡ record { value = get_or vs k (pos 0); choice = get_or cs k 0 }
reply_there [] cs k d e low = absurd (omega arith)
reply_there (v ∷ vs) [] k d e low = absurd (omega arith)
reply_there (v ∷ vs) (c ∷ cs) zero d e low = refl
reply_there (v ∷ vs) (c ∷ cs) (suc k) d e low = reply_there vs cs k d (omega arith) (omega arith)

-- the replies of these values and choices
pub replies_again : (rs : List SetReply) → set_replies (values_of rs) (choices_of rs) ≡ rs
replies_again [] = refl
replies_again (r ∷ rs) = ap (λ ys. r ∷ ys) (replies_again rs)

-- ---- all tests of a reply, where the rows are the worths
abbrev pub sets_part : Player → (ℕ → ℤ) → List InformationSet → List ℤ → List ℕ → List (Option TestFault)
sets_part player w sets vs cs = reply_tests player w 1 (placed sets) (set_replies vs cs)

abbrev pub total_part : Player → (ℕ → ℤ) → ℤ → ℤ → Fraction → ℕ → List (Option TestFault)
total_part player w total traced bound scale =
    unless (int_eq total (w 0) && (int_eq total traced && is_same_fraction bound (fraction_of total scale))) (TotalDiffers (end_shown_by player)) ∷ []

-- where the rows are the worths, the first fault of a reply is that of its sets and its total by the rows
pub by_rows : (player : Player) (sums : ℕ → ℤ) (sets : List InformationSet) (vs : List ℤ) (cs : List ℕ)
    (total traced : ℤ) (bound : Fraction) (scale : ℕ) (rows : List ℤ)
    → length vs ≡ length cs → row rows ≡ worth sums (placed sets) vs
    → first_failing (whole_reply_tests player sums sets (printed_reply total vs cs) traced bound scale)
    ≡ first_failing (sets_part player (row rows) sets vs cs ++ total_part player (row rows) total traced bound scale)
by_rows player sums sets vs cs total traced bound scale rows equal whole =
    ap (λ (w : ℕ → ℤ). first_failing (sets_part player w sets vs cs ++ total_part player w total traced bound scale))
    (ap (worth sums (placed sets)) (values-set_replies vs cs (sym equal)) ∙ sym whole)

-- the first fault of a single test is what this test finds
pub one_test : (x : Option TestFault) → first_failing (x ∷ []) ≡ x
one_test None = refl
one_test (Some f) = refl
