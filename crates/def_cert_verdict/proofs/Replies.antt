-- The tests of a reply.
use Rattle.std.proofs.Common.{◌≡◌, ℕ, zero, suc, ◌+◌, ◌-◌, ◌<◌, ◌⊎◌, ◌↔◌, ◌&&◌, Bool, not, leb, leb-true, List, [], ◌∷◌, map, length, ℤ, Option, Some, None}
use Rattle.std.proofs.Common.{refl, sym, ap, ◌∙◌, subst, arith, ⊎_elim, inl, inr}
use Rattle.std.specs.Prelude.{slice_get}
use Rattle.std.specs.Ordering.{int_eq}
use Rattle.std.specs.Bool.{Decides}
use Rattle.std.specs.List.{AllZip, range_with_len}
use Rattle.std.proofs.lemmas.Bool.{le-leb}
use Rattle.std.proofs.lemmas.Bool.Decides.{Decides-int_eq, Decides-and, Decides-like}
use Rattle.std.proofs.lemmas.Option.{none-some, same_Some, slice_get_past}
use Rattle.def_tree.specs.declared.Player.{Player}
use Rattle.def_tree.specs.declared.Player.TheVariants.{One, Two}
use Rattle.def_fraction.specs.Fraction.{Fraction, fraction_of}
use Rattle.def_sums.proofs.Ranges.{All-range, range-All}
use Rattle.def_plan.specs.Form.{InformationSet, PlacedSet, placed}
use Rattle.def_plan.specs.Plan.{chosen}
use Rattle.def_plan.specs.Payoff.{worth, IsNoBetter}
use Rattle.def_reply.specs.Reply.{Reply, SetReply, values_of, total, IsTight}
use Rattle.def_cert_verdict.specs.declared.fault.TestFault.{TestFault}
use Rattle.def_cert_verdict.specs.declared.fault.TestFault.TheVariants.{HeadDiffers, NotAPlan, ValueTooGood, ReplyNotTight, TotalDiffers, TraceWidens}
use Rattle.def_cert_verdict.specs.declared.fault.TestFault.TheVariants.{SecondDiffers}
use Rattle.def_cert_verdict.specs.Verdict.{first_failing, unless, is_better, action_test, set_tests, reply_tests, is_same_fraction, end_shown_by, total_test}
use Rattle.def_cert_verdict.specs.Verdict.{whole_reply_tests}
use Rattle.def_cert_verdict.specs.Laws.{HoldsAsTotal, HoldsAsReply}
use Rattle.def_cert_verdict.specs.FaultCauses.{IsFirstNot, NoActionBetterAt, ReachedAt, TightAt, IsTooGood, IsNotReached, SetFault, TotalFault, ReplyFault}
use Rattle.def_cert_verdict.proofs.Fractions.{same_fraction}
use Rattle.def_cert_verdict.proofs.TestsDecide.{TestsDecide, TestsDecide-one, TestsDecide-append, TestsDecide-like, TestsDecide-search, Searches, Searches-end}
use Rattle.def_cert_verdict.proofs.TestsDecide.{Searches-step, Searches-like, first_if, not_less-Decides}

-- ---- the actions of a set
better_decided : (player : Player) (a b : ℤ) → Decides (not (is_better player a b)) (IsNoBetter player a b)
better_decided One a b = not_less-Decides b a
better_decided Two a b = not_less-Decides a b

-- at the action i, counted from m, of n actions from there
abbrev BetterFrom : Player → (ℕ → ℤ) → PlacedSet → SetReply → ℕ → ℕ → ℕ → Type 0
BetterFrom player w h r m n i = i < n → IsNoBetter player (w (chosen h (m + i))) r.value

first_action : (player : Player) (w : ℕ → ℤ) (h : PlacedSet) (r : SetReply) (m n : ℕ)
    → Decides (not (is_better player (w (chosen h m)) r.value)) (BetterFrom player w h r m (suc n) 0)
first_action player w h r m n =
    let d = better_decided player (w (chosen h m)) r.value in
    let here : m ≡ m + 0 = omega arith in (
      λ e low. subst (λ k. IsNoBetter player (w (chosen h k)) r.value) here (d.0 e),
      λ b. d.1 (subst (λ k. IsNoBetter player (w (chosen h k)) r.value) (sym here) (b (omega arith))),
    )

later_action : (player : Player) (w : ℕ → ℤ) (h : PlacedSet) (r : SetReply) (m n i : ℕ)
    → BetterFrom player w h r (m + 1) n i ↔ BetterFrom player w h r m (suc n) (suc i)
later_action player w h r m n i =
    let same : m + 1 + i ≡ m + suc i = omega arith in (
      λ b low. subst (λ k. IsNoBetter player (w (chosen h k)) r.value) same (b (omega arith)),
      λ b low. subst (λ k. IsNoBetter player (w (chosen h k)) r.value) (sym same) (b (omega arith)),
    )

actions_searched : (player : Player) (w : ℕ → ℤ) (k : ℕ) (h : PlacedSet) (r : SetReply) (m n : ℕ)
    → Searches TestFault (ValueTooGood player k) (first_failing (map (action_test player w k h r) (range_with_len m n))) m (BetterFrom player w h r m n)
actions_searched player w k h r m zero = Searches-end TestFault (ValueTooGood player k) m (BetterFrom player w h r m 0) (λ i low. absurd (omega arith))
actions_searched player w k h r m (suc n) =
    let rest : List (Option TestFault) = map (action_test player w k h r) (range_with_len (m + 1) n) in
    let bad : Bool = is_better player (w (chosen h m)) r.value in
    subst (λ o. Searches TestFault (ValueTooGood player k) o m (BetterFrom player w h r m (suc n))) (sym (first_if bad (ValueTooGood player k m) rest))
    (Searches-step TestFault (ValueTooGood player k) (not bad) (first_failing rest) m (BetterFrom player w h r m (suc n)) (first_action player w h r m n)
    (Searches-like TestFault (ValueTooGood player k) (first_failing rest) (m + 1) (BetterFrom player w h r (m + 1) n)
    (λ i. BetterFrom player w h r m (suc n) (suc i))
    (later_action player w h r m n) (actions_searched player w k h r (m + 1) n)))

-- ---- a set
reached_decided : (w : ℕ → ℤ) (h : PlacedSet) (r : SetReply)
    → Decides ((leb 1 r.choice && leb r.choice h.actions) && int_eq (w (chosen h r.choice)) r.value) (ReachedAt w (Some h) (Some r))
reached_decided w h r =
    Decides-like ((leb 1 r.choice && leb r.choice h.actions) && int_eq (w (chosen h r.choice)) r.value) (λ p. (p.0.0, p.0.1, p.1)) (λ p. ((p.0, p.1), p.2))
    (Decides-and (leb 1 r.choice && leb r.choice h.actions) (int_eq (w (chosen h r.choice)) r.value)
    (Decides-and (leb 1 r.choice) (leb r.choice h.actions) (leb-true 1 r.choice, le-leb 1 r.choice) (leb-true r.choice h.actions, le-leb r.choice h.actions))
    (Decides-int_eq (w (chosen h r.choice)) r.value))

abbrev SetInTurn : Player → (ℕ → ℤ) → ℕ → PlacedSet → SetReply → TestFault → Type 0
SetInTurn player w k h r f =
    ((i : ℕ) × (f ≡ ValueTooGood player k (1 + i)) × IsFirstNot (BetterFrom player w h r 1 h.actions) i)
    ⊎ (((i : ℕ) → BetterFrom player w h r 1 h.actions i) × ((f ≡ ReplyNotTight player k) × (¬ (ReachedAt w (Some h) (Some r)))))

set_described : (player : Player) (w : ℕ → ℤ) (k : ℕ) (h : PlacedSet) (r : SetReply)
    → TestsDecide (set_tests player w k h r) (((i : ℕ) → BetterFrom player w h r 1 h.actions i) × ReachedAt w (Some h) (Some r)) (SetInTurn player w k h r)
set_described player w k h r =
    let b : Bool = (leb 1 r.choice && leb r.choice h.actions) && int_eq (w (chosen h r.choice)) r.value in
    TestsDecide-append (map (action_test player w k h r) (range_with_len 1 h.actions)) (unless b (ReplyNotTight player k) ∷ []) _ _ _ _
    (TestsDecide-search (ValueTooGood player k) (map (action_test player w k h r) (range_with_len 1 h.actions)) 1 (BetterFrom player w h r 1 h.actions)
    (actions_searched player w k h r 1 h.actions))
    (TestsDecide-one b (ReplyNotTight player k) (ReachedAt w (Some h) (Some r)) (reached_decided w h r))

-- ---- all sets
no_set : (player : Player) (w : ℕ → ℤ) (j : ℕ) → TightAt player w [] [] j
no_set player w zero = (tt, tt)
no_set player w (suc j) = (tt, tt)

before_next : (player : Player) (w : ℕ → ℤ) (h : PlacedSet) (hs : List PlacedSet) (r : SetReply) (rs : List SetReply)
    (k : ℕ)
    → TightAt player w (h ∷ hs) (r ∷ rs) 0
    → ((j : ℕ) → j < k → TightAt player w hs rs j) → (j : ℕ) → j < suc k → TightAt player w (h ∷ hs) (r ∷ rs) j
before_next player w h hs r rs k first rest zero low = first
before_next player w h hs r rs k first rest (suc j) low = rest j (omega arith)

all_next : (player : Player) (w : ℕ → ℤ) (h : PlacedSet) (hs : List PlacedSet) (r : SetReply) (rs : List SetReply)
    → TightAt player w (h ∷ hs) (r ∷ rs) 0
    → ((j : ℕ) → TightAt player w hs rs j) → (j : ℕ) → TightAt player w (h ∷ hs) (r ∷ rs) j
all_next player w h hs r rs first rest zero = first
all_next player w h hs r rs first rest (suc j) = rest j

-- a fault of the sets behind the first, where that is tight
shifted : (player : Player) (w : ℕ → ℤ) (k : ℕ) (h : PlacedSet) (hs : List PlacedSet) (r : SetReply)
    (rs : List SetReply) (f : TestFault)
    → TightAt player w (h ∷ hs) (r ∷ rs) 0 → SetFault player w (k + 1) hs rs f → SetFault player w k (h ∷ hs) (r ∷ rs) f
shifted player w k h hs r rs (ValueTooGood p set action) first c =
    let t = c.1.4 in (
      c.0,
      (
        suc c.1.0,
        c.1.1,
        omega (arith, c.1.2),
        c.1.3,
        record {
          earlier = before_next player w h hs r rs c.1.0 first t.earlier;
          set = t.set;
          reply = t.reply;
          set_there = t.set_there;
          reply_there = t.reply_there;
          action = t.action;
        },
      ),
    )
shifted player w k h hs r rs (ReplyNotTight p set) first c =
    let t = c.1.2 in (
      c.0,
      (
        suc c.1.0,
        omega (arith, c.1.1),
        record {
          earlier = before_next player w h hs r rs c.1.0 first t.earlier;
          no_better = t.no_better;
          not_reached = t.not_reached;
        },
      ),
    )
shifted player w k h hs r rs (HeadDiffers line) first c = absurd c
shifted player w k h hs r rs (NotAPlan p set) first c = absurd c
shifted player w k h hs r rs (TotalDiffers end) first c = absurd c
shifted player w k h hs r rs (TraceWidens line) first c = absurd c
shifted player w k h hs r rs SecondDiffers first c = absurd c

-- a fault at the first set
at_first : (player : Player) (w : ℕ → ℤ) (k : ℕ) (h : PlacedSet) (hs : List PlacedSet) (r : SetReply)
    (rs : List SetReply) (f : TestFault)
    → SetInTurn player w k h r f → SetFault player w k (h ∷ hs) (r ∷ rs) f
at_first player w k h hs r rs f turn =
    ⊎_elim
    (λ c. subst (SetFault player w k (h ∷ hs) (r ∷ rs)) (sym c.1) (
      refl,
      (
        0,
        c.0,
        omega arith,
        refl,
        record {
          earlier = λ j low. absurd (omega arith);
          set = h;
          reply = r;
          set_there = refl;
          reply_there = refl;
          action = c.2;
        },
      ),
    ))
    (λ c. subst (SetFault player w k (h ∷ hs) (r ∷ rs)) (sym c.1.0)
    (refl, (0, omega arith, record { earlier = λ j low. absurd (omega arith); no_better = c.0; not_reached = c.1.1 })))
    turn

-- and the other way: a fault is one at the first set, or that is tight and it is one behind it
abbrev Either : Player → (ℕ → ℤ) → ℕ → PlacedSet → List PlacedSet → SetReply → List SetReply → TestFault → Type 0
Either player w k h hs r rs f = SetInTurn player w k h r f ⊎ (TightAt player w (h ∷ hs) (r ∷ rs) 0 × SetFault player w (k + 1) hs rs f)

too_good : (player p : Player) (set k action i : ℕ) → p ≡ player → set ≡ k → action ≡ 1 + i
    → ValueTooGood p set action ≡ ValueTooGood player k (1 + i)
too_good player p set k action i same e a = ap (λ q. ValueTooGood q set action) same ∙ ap (λ n. ValueTooGood player n action) e ∙ ap (ValueTooGood player k) a

not_tight : (player p : Player) (set k : ℕ) → p ≡ player → set ≡ k → ReplyNotTight p set ≡ ReplyNotTight player k
not_tight player p set k same e = ap (λ q. ReplyNotTight q set) same ∙ ap (ReplyNotTight player) e

too_good_back : (player : Player) (w : ℕ → ℤ) (k : ℕ) (h : PlacedSet) (hs : List PlacedSet) (r : SetReply)
    (rs : List SetReply) (p : Player) (set action : ℕ)
    → p ≡ player
    → (n i : ℕ) → set ≡ k + n → action ≡ 1 + i → IsTooGood player w (h ∷ hs) (r ∷ rs) n i
    → Either player w k h hs r rs (ValueTooGood p set action)
too_good_back player w k h hs r rs p set action same zero i e a t =
    let at : PlacedSet → SetReply → Type 0 = λ g q. IsFirstNot (BetterFrom player w g q 1 g.actions) i in
    let moved : at h r = subst (at h) (sym (same_Some r t.reply t.reply_there)) (subst (λ g. at g t.reply) (sym (same_Some h t.set t.set_there)) t.action) in
    inl (inl (i, too_good player p set k action i same (omega arith) a, moved))
too_good_back player w k h hs r rs p set action same (suc n) i e a t =
    inr (
      t.earlier 0 (omega arith),
      (
        same,
        (
          n,
          i,
          omega (arith, e),
          a,
          record {
            earlier = λ j low. t.earlier (suc j) (omega arith);
            set = t.set;
            reply = t.reply;
            set_there = t.set_there;
            reply_there = t.reply_there;
            action = t.action;
          },
        ),
      ),
    )

not_reached_back : (player : Player) (w : ℕ → ℤ) (k : ℕ) (h : PlacedSet) (hs : List PlacedSet) (r : SetReply)
    (rs : List SetReply) (p : Player) (set : ℕ)
    → p ≡ player
    → (n : ℕ) → set ≡ k + n → IsNotReached player w (h ∷ hs) (r ∷ rs) n
    → Either player w k h hs r rs (ReplyNotTight p set)
not_reached_back player w k h hs r rs p set same zero e t = inl (inr (t.no_better, (not_tight player p set k same (omega arith), t.not_reached)))
not_reached_back player w k h hs r rs p set same (suc n) e t =
    inr (
      t.earlier 0 (omega arith),
      (
        same,
        (
          n,
          omega (arith, e),
          record {
            earlier = λ j low. t.earlier (suc j) (omega arith);
            no_better = t.no_better;
            not_reached = t.not_reached;
          },
        ),
      ),
    )

either : (player : Player) (w : ℕ → ℤ) (k : ℕ) (h : PlacedSet) (hs : List PlacedSet) (r : SetReply) (rs : List SetReply)
    (f : TestFault)
    → SetFault player w k (h ∷ hs) (r ∷ rs) f → Either player w k h hs r rs f
either player w k h hs r rs (ValueTooGood p set action) c = too_good_back player w k h hs r rs p set action c.0 c.1.0 c.1.1 c.1.2 c.1.3 c.1.4
either player w k h hs r rs (ReplyNotTight p set) c = not_reached_back player w k h hs r rs p set c.0 c.1.0 c.1.1 c.1.2
either player w k h hs r rs (HeadDiffers line) c = absurd c
either player w k h hs r rs (NotAPlan p set) c = absurd c
either player w k h hs r rs (TotalDiffers end) c = absurd c
either player w k h hs r rs (TraceWidens line) c = absurd c
either player w k h hs r rs SecondDiffers c = absurd c

-- ---- more sets than replies, or fewer
no_place : {A : Type 0} (none : List A) → length none ≡ 0 → (i : ℕ) (x : A) → slice_get none i ≡ Some x → ⊥
no_place none empty i x e = none-some x (sym (slice_get_past none i (omega arith)) ∙ e)

at_missing : (player : Player) (w : ℕ → ℤ) (k : ℕ) (hs : List PlacedSet) (rs : List SetReply)
    → ¬ (ReachedAt w (slice_get hs 0) (slice_get rs 0))
    → ((i : ℕ) (h : PlacedSet) (r : SetReply) → slice_get hs i ≡ Some h → slice_get rs i ≡ Some r → ⊥)
    → (f : TestFault) → SetFault player w k hs rs f → Some (ReplyNotTight player k) ≡ Some f
at_missing player w k hs rs bad none (ValueTooGood p set action) c = let t = c.1.4 in absurd (none c.1.0 t.set t.reply t.set_there t.reply_there)
at_missing player w k hs rs bad none (ReplyNotTight p set) c = ap Some (sym (not_tight player p set k c.0 (at_once c.1.0 c.1.1 c.1.2)))
  where
    at_once : (n : ℕ) → set ≡ k + n → IsNotReached player w hs rs n → set ≡ k
    at_once zero e t = omega (arith, e)
    at_once (suc n) e t = absurd (bad (t.earlier 0 (omega arith)).1)
at_missing player w k hs rs bad none (HeadDiffers line) c = absurd c
at_missing player w k hs rs bad none (NotAPlan p set) c = absurd c
at_missing player w k hs rs bad none (TotalDiffers end) c = absurd c
at_missing player w k hs rs bad none (TraceWidens line) c = absurd c
at_missing player w k hs rs bad none SecondDiffers c = absurd c

missing : (player : Player) (w : ℕ → ℤ) (k : ℕ) (hs : List PlacedSet) (rs : List SetReply)
    → NoActionBetterAt player w (slice_get hs 0) (slice_get rs 0)
    → ¬ (ReachedAt w (slice_get hs 0) (slice_get rs 0))
    → ((i : ℕ) (h : PlacedSet) (r : SetReply) → slice_get hs i ≡ Some h → slice_get rs i ≡ Some r → ⊥)
    → TestsDecide (Some (ReplyNotTight player k) ∷ []) ((j : ℕ) → TightAt player w hs rs j) (SetFault player w k hs rs)
missing player w k hs rs fine bad none = record {
  none = (λ e. absurd (none-some (ReplyNotTight player k) (sym e)), λ h. absurd (bad (h 0).1));
  some = λ f. (
    λ e. subst (SetFault player w k hs rs) (same_Some (ReplyNotTight player k) f e)
        (refl, (0, omega arith, record { earlier = λ j low. absurd (omega arith); no_better = fine; not_reached = bad })),
    at_missing player w k hs rs bad none f,
  );
}

nothing : (player : Player) (w : ℕ → ℤ) (k : ℕ)
    → TestsDecide [] ((j : ℕ) → TightAt player w [] [] j) (SetFault player w k [] [])
nothing player w k = record {
  none = (λ e. no_set player w, λ h. refl);
  some = λ f. (λ e. absurd (none-some f e), nowhere f);
}
  where
    nowhere : (f : TestFault) → SetFault player w k [] [] f → None ≡ Some f
    nowhere (ValueTooGood p set action) c = let t = c.1.4 in absurd (no_place [] refl c.1.0 t.set t.set_there)
    nowhere (ReplyNotTight p set) c = let t = c.1.2 in absurd (t.not_reached (no_set player w c.1.0).1)
    nowhere (HeadDiffers line) c = absurd c
    nowhere (NotAPlan p set) c = absurd c
    nowhere (TotalDiffers end) c = absurd c
    nowhere (TraceWidens line) c = absurd c
    nowhere SecondDiffers c = absurd c

sets_described : (player : Player) (w : ℕ → ℤ) (k : ℕ) (hs : List PlacedSet) (rs : List SetReply)
    → TestsDecide (reply_tests player w k hs rs) ((j : ℕ) → TightAt player w hs rs j) (SetFault player w k hs rs)
sets_described player w k [] [] = nothing player w k
sets_described player w k [] (r ∷ rs) = missing player w k [] (r ∷ rs) tt (λ h. h) (λ i h q there here. no_place [] refl i h there)
sets_described player w k (h ∷ hs) [] = missing player w k (h ∷ hs) [] tt (λ h. h) (λ i g r there here. no_place [] refl i r here)
sets_described player w k (h ∷ hs) (r ∷ rs) =
    TestsDecide-like (reply_tests player w k (h ∷ hs) (r ∷ rs)) _ ((j : ℕ) → TightAt player w (h ∷ hs) (r ∷ rs) j) _ (SetFault player w k (h ∷ hs) (r ∷ rs))
    (TestsDecide-append (set_tests player w k h r) (reply_tests player w (k + 1) hs rs) _ _ _ _ (set_described player w k h r)
    (sets_described player w (k + 1) hs rs))
    (λ p. all_next player w h hs r rs p.0 p.1, λ t. (t 0, λ j. t (suc j)))
    (λ f. (⊎_elim (at_first player w k h hs r rs f) (λ c. shifted player w k h hs r rs f c.0 c.1), either player w k h hs r rs f))

-- ---- tight at each place is tight
tight_of : (player : Player) (w : ℕ → ℤ) (h : PlacedSet) (r : SetReply) → NoActionBetterAt player w (Some h) (Some r)
    → ReachedAt w (Some h) (Some r) → IsTight player w h r
tight_of player w h r better reached = record {
  no_better = All-range (λ s. IsNoBetter player (w s) r.value) h.first h.actions
      (λ s low high. let place : chosen h (1 + (s - h.first)) ≡ s = omega arith in
      subst (λ t. IsNoBetter player (w t) r.value) place (better (s - h.first) (omega arith)));
  an_action = (reached.0, reached.1);
  reached = reached.2;
}

tight_zip : (player : Player) (w : ℕ → ℤ) (hs : List PlacedSet) (rs : List SetReply)
    → ((j : ℕ) → TightAt player w hs rs j) → AllZip (IsTight player w) hs rs
tight_zip player w [] [] t = tt
tight_zip player w [] (r ∷ rs) t = absurd (t 0).1
tight_zip player w (h ∷ hs) [] t = absurd (t 0).1
tight_zip player w (h ∷ hs) (r ∷ rs) t = (tight_of player w h r (t 0).0 (t 0).1, tight_zip player w hs rs (λ j. t (suc j)))

zip_tight : (player : Player) (w : ℕ → ℤ) (hs : List PlacedSet) (rs : List SetReply) → AllZip (IsTight player w) hs rs
    → (j : ℕ) → TightAt player w hs rs j
zip_tight player w [] [] z j = no_set player w j
zip_tight player w [] (r ∷ rs) z j = elim z [ ]
zip_tight player w (h ∷ hs) [] z j = elim z [ ]
zip_tight player w (h ∷ hs) (r ∷ rs) z zero = (
  λ i low. range-All (λ s. IsNoBetter player (w s) r.value) h.first h.actions z.0.no_better (chosen h (1 + i)) (omega arith) (omega arith),
  (z.0.an_action.0, z.0.an_action.1, z.0.reached),
)
zip_tight player w (h ∷ hs) (r ∷ rs) z (suc j) = zip_tight player w hs rs z.1 j

-- ---- the total
total_decided : (sums : ℕ → ℤ) (sets : List InformationSet) (reply : Reply) (traced : ℤ) (bound : Fraction) (scale : ℕ)
    → Decides (int_eq reply.total (total sums sets reply.sets) && (int_eq reply.total traced && is_same_fraction bound (fraction_of reply.total scale)))
    (HoldsAsTotal sums sets reply traced bound scale)
total_decided sums sets reply traced bound scale =
    Decides-like (int_eq reply.total (total sums sets reply.sets) && (int_eq reply.total traced && is_same_fraction bound (fraction_of reply.total scale)))
    (λ p. record { worth_is = p.0; traced_is = p.1.0; bound_is = p.1.1 }) (λ h. (h.worth_is, (h.traced_is, h.bound_is)))
    (Decides-and (int_eq reply.total (total sums sets reply.sets)) (int_eq reply.total traced && is_same_fraction bound (fraction_of reply.total scale))
    (Decides-int_eq reply.total (total sums sets reply.sets))
    (Decides-and (int_eq reply.total traced) (is_same_fraction bound (fraction_of reply.total scale)) (Decides-int_eq reply.total traced)
    (same_fraction bound (fraction_of reply.total scale))))

total_caused : (player : Player) (sums : ℕ → ℤ) (sets : List InformationSet) (reply : Reply) (traced : ℤ)
    (bound : Fraction) (scale : ℕ) (f : TestFault)
    → TotalFault player sums sets reply traced bound scale f
    → (f ≡ TotalDiffers (end_shown_by player)) × (¬ (HoldsAsTotal sums sets reply traced bound scale))
total_caused player sums sets reply traced bound scale (TotalDiffers end) c = (ap TotalDiffers c.0, c.1)
total_caused player sums sets reply traced bound scale (HeadDiffers line) c = absurd c
total_caused player sums sets reply traced bound scale (NotAPlan p set) c = absurd c
total_caused player sums sets reply traced bound scale (ValueTooGood p set action) c = absurd c
total_caused player sums sets reply traced bound scale (ReplyNotTight p set) c = absurd c
total_caused player sums sets reply traced bound scale (TraceWidens line) c = absurd c
total_caused player sums sets reply traced bound scale SecondDiffers c = absurd c

total_described : (player : Player) (sums : ℕ → ℤ) (sets : List InformationSet) (reply : Reply) (traced : ℤ)
    (bound : Fraction) (scale : ℕ)
    → TestsDecide (total_test player sums sets reply traced bound scale ∷ []) (HoldsAsTotal sums sets reply traced bound scale)
    (TotalFault player sums sets reply traced bound scale)
total_described player sums sets reply traced bound scale =
    TestsDecide-like (total_test player sums sets reply traced bound scale ∷ []) _ _ _ (TotalFault player sums sets reply traced bound scale)
    (TestsDecide-one _ (TotalDiffers (end_shown_by player)) (HoldsAsTotal sums sets reply traced bound scale)
    (total_decided sums sets reply traced bound scale))
    (λ h. h, λ h. h)
    (λ f. (λ c. subst (TotalFault player sums sets reply traced bound scale) (sym c.0) (refl, c.1), total_caused player sums sets reply traced bound scale f))

-- a reply's tests pass exactly where it is tight and its total holds, else the fault has what fails first
pub reply_described : (player : Player) (sums : ℕ → ℤ) (sets : List InformationSet) (reply : Reply) (traced : ℤ)
    (bound : Fraction) (scale : ℕ)
    → TestsDecide (whole_reply_tests player sums sets reply traced bound scale) (HoldsAsReply player sums sets reply traced bound scale)
    (ReplyFault player sums sets reply traced bound scale)
reply_described player sums sets reply traced bound scale =
    let w : ℕ → ℤ = worth sums (placed sets) (values_of reply.sets) in
    TestsDecide-like (whole_reply_tests player sums sets reply traced bound scale) _ (HoldsAsReply player sums sets reply traced bound scale) _
    (ReplyFault player sums sets reply traced bound scale)
    (TestsDecide-append (reply_tests player w 1 (placed sets) reply.sets) (total_test player sums sets reply traced bound scale ∷ []) _ _ _ _
    (sets_described player w 1 (placed sets) reply.sets) (total_described player sums sets reply traced bound scale)) (
      λ p. record { tight = tight_zip player w (placed sets) reply.sets p.0; total_is = p.1 },
      λ h. (zip_tight player w (placed sets) reply.sets h.tight, h.total_is),
    )
    (λ f. (
      ⊎_elim inl (λ c. inr (tight_zip player w (placed sets) reply.sets c.0, c.1)),
      ⊎_elim inl (λ c. inr (zip_tight player w (placed sets) reply.sets c.0, c.1)),
    ))
