-- The first test that is met, where the faults come in the order of their numbers.
use Rattle.std.proofs.Common.{◌≡◌, ℕ, ◌<◌, Bool, true, false, List, [], ◌∷◌, Some, None, ◌⊎◌, ◌↔◌, refl, sym, ap, subst, arith}
use Rattle.std.proofs.Math.Logic.{⊎_elim}
use Rattle.std.proofs.lemmas.Bool.{false≢true}
use Rattle.def_file.specs.declared.FileFault.{FileFault}
use Rattle.def_file.specs.Faults.{first_met, fault_number}

-- each test tells whether its fault holds, where none before it is met
abbrev pub Decide : (FileFault → Type 0) → List (Bool × FileFault) → Type 0
Decide B [] = Unit {0}
Decide B (t ∷ ts) = ((t.0 ≡ true) ↔ B t.1) × (t.0 ≡ false → Decide B ts)

-- the numbers rise, and are above k
abbrev pub Rise : ℕ → List (Bool × FileFault) → Type 0
Rise k [] = Unit {0}
Rise k (t ∷ ts) = (k < fault_number t.1) × Rise (fault_number t.1) ts

-- the fault of one of the tests
abbrev pub Among : FileFault → List (Bool × FileFault) → Type 0
Among f [] = ⊥
Among f (t ∷ ts) = (f ≡ t.1) ⊎ Among f ts

above : (k : ℕ) (ts : List (Bool × FileFault)) → Rise k ts → (f : FileFault) → Among f ts → k < fault_number f
above k [] rise f h = absurd h
above k (t ∷ ts) rise f h =
    ⊎_elim
    (λ same. subst (λ g. k < fault_number g) (sym same) rise.0)
    (λ there. let later = above (fault_number t.1) ts rise.1 f there in let now = rise.0 in omega (arith, later, now))
    h

-- the fault holds, and none of the others with a smaller number
pub record IsLeast (B : FileFault → Type 0) (ts : List (Bool × FileFault)) (f : FileFault) : Type 0 where
  pub holds : B f
  pub none_before : (g : FileFault) → Among g ts → fault_number g < fault_number f → ¬ (B g)

not_below : (f g : FileFault) → f ≡ g → fault_number f < fault_number g → ⊥
not_below f g same less = let e = ap fault_number same in omega (arith, e, less)

-- the first that is met holds, and none before it
pub first_is_least : (B : FileFault → Type 0) (k : ℕ) (ts : List (Bool × FileFault)) → Decide B ts → Rise k ts
    → (f : FileFault) → first_met ts ≡ Some f → IsLeast B ts f
first_is_least B k [] decide rise f e = absurd cc
first_is_least B k ((true, f0) ∷ ts) decide rise f e =
    let same : f0 ≡ f = cc in
    record {
      holds = subst B same (decide.0.0 refl);
      none_before = λ g among less _.
          ⊎_elim
          (λ here. not_below g f0 here (subst (λ x. fault_number g < fault_number x) (sym same) less))
          (λ there. let later = above (fault_number f0) ts rise.1 g there in let under = subst (λ x. fault_number g < fault_number x) (sym same) less in omega
          (arith, later, under))
          among;
    }
first_is_least B k ((false, f0) ∷ ts) decide rise f e =
    let rest = first_is_least B (fault_number f0) ts (decide.1 refl) rise.1 f e in
    record {
      holds = rest.holds;
      none_before = λ g among less is. ⊎_elim (λ here. false≢true (decide.0.1 (subst B here is))) (λ there. rest.none_before g there less is) among;
    }

-- a fault that holds with none before it is the first that is met
pub least_is_first : (B : FileFault → Type 0) (k : ℕ) (ts : List (Bool × FileFault)) → Decide B ts → Rise k ts
    → (f : FileFault) → Among f ts → B f
    → ((g : FileFault) → fault_number g < fault_number f → ¬ (B g)) → first_met ts ≡ Some f
least_is_first B k [] decide rise f among is none = absurd among
least_is_first B k ((true, f0) ∷ ts) decide rise f among is none =
    ⊎_elim (λ here. ap Some (sym here)) (λ there. absurd (none f0 (above (fault_number f0) ts rise.1 f there) (decide.0.0 refl))) among
least_is_first B k ((false, f0) ∷ ts) decide rise f among is none =
    ⊎_elim
    (λ here. absurd (false≢true (decide.0.1 (subst B here is))))
    (λ there. least_is_first B (fault_number f0) ts (decide.1 refl) rise.1 f there is none)
    among

-- where no test is met none of the faults holds, and the other way round
pub none_met_none : (B : FileFault → Type 0) (ts : List (Bool × FileFault)) → Decide B ts → first_met ts ≡ None
    → (g : FileFault) → Among g ts → ¬ (B g)
none_met_none B [] decide e g among is = among
none_met_none B ((true, f0) ∷ ts) decide e g among is = absurd cc
none_met_none B ((false, f0) ∷ ts) decide e g among is =
    ⊎_elim (λ here. false≢true (decide.0.1 (subst B here is))) (λ there. none_met_none B ts (decide.1 refl) e g there is) among

-- where none of the faults holds no test is met
pub none_holds_none_met : (B : FileFault → Type 0) (ts : List (Bool × FileFault)) → Decide B ts
    → ((g : FileFault) → ¬ (B g)) → first_met ts ≡ None
none_holds_none_met B [] decide none = refl
none_holds_none_met B ((true, f0) ∷ ts) decide none = absurd (none f0 (decide.0.0 refl))
none_holds_none_met B ((false, f0) ∷ ts) decide none = none_holds_none_met B ts (decide.1 refl) none
