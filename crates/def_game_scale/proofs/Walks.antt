-- What a walk finds is the first node that fails.
use Rattle.std.proofs.Common.{◌≡◌, Bool, true, false, List, [], ◌∷◌, ◌++◌, refl, ap, sym, ◌∙◌, Some, None, inl, inr, ◌⊎◌}
use Rattle.std.specs.Prelude.{Option, All, ◌↔◌}
use Rattle.std.proofs.lemmas.List.{append-nil, append_assoc}
use Rattle.std.proofs.lemmas.List.Elements.{All-cons, All-nil}
use Rattle.def_game_paths.specs.Paths.{Visit}
use Rattle.def_game_scale.specs.Faults.{GameFault, or_else, passing, NodeTest, found_by}
use Rattle.def_game_scale.specs.First.{EachPasses, FailsFirst}

-- of two tests one after the other there is no fault only where neither has one
pub or_none : (a b : Option GameFault) → or_else a b ≡ None → (a ≡ None) × (b ≡ None)
or_none None b e = (refl, e)
or_none (Some fault) b e = cc

-- of two tests one after the other the fault is the first's, or the second's where the first has none
pub or_some : (a b : Option GameFault) (fault : GameFault) → or_else a b ≡ Some fault
    → (a ≡ Some fault) ⊎ ((a ≡ None) × (b ≡ Some fault))
or_some None b fault e = inr (refl, e)
or_some (Some first) b fault e = inl e

-- no fault: the test is passed, and nothing comes later
pub passing_none : (b : Bool) (first : GameFault) (later : Option GameFault) → passing b first later ≡ None
    → (b ≡ true) × (later ≡ None)
passing_none true first later e = (refl, e)
passing_none false first later e = cc

-- a fault: that of the test, or a later one
pub passing_some : (b : Bool) (first : GameFault) (later : Option GameFault) (fault : GameFault)
    → passing b first later ≡ Some fault →
    ((b ≡ false) × (fault ≡ first)) ⊎ ((b ≡ true) × (later ≡ Some fault))
passing_some true first later fault e = inr (refl, e)
passing_some false first later fault e = inl (refl, cc)

-- a test that is passed leaves what comes later
pub passed : (b : Bool) (first : GameFault) (later : Option GameFault) → b ≡ true → passing b first later ≡ later
passed b first later e = ap (λ t. passing t first later) e

-- a test that is not passed gives its own fault
pub not_passed : (b : Bool) (first : GameFault) (later : Option GameFault) (fault : GameFault) → b ≡ false
    → fault ≡ first → passing b first later ≡ Some fault
not_passed b first later fault e same = ap (λ t. passing t first later) e ∙ ap Some (sym same)

pub none_at : (test : NodeTest) (done rest : List Visit) → found_by test done rest ≡ None →
    (before : List Visit) (v : Visit) (after : List Visit) → rest ≡ before ++ (v ∷ after)
    → test (done ++ before) v ≡ None
none_at test done [] e [] v after p = cc
none_at test done [] e (b ∷ before) v after p = cc
none_at test done (w ∷ rest) e [] v after p =
    let parts = or_none (test done w) (found_by test (done ++ (w ∷ [])) rest) e in
    let head : w ≡ v = cc in
    ap (λ d. test d v) (append-nil done) ∙ ap (test done) (sym head) ∙ parts.0
none_at test done (w ∷ rest) e (b ∷ before) v after p =
    let parts = or_none (test done w) (found_by test (done ++ (w ∷ [])) rest) e in
    let head : w ≡ b = cc in
    let tail : rest ≡ before ++ (v ∷ after) = cc in
    ap (λ x. test (done ++ (x ∷ before)) v) (sym head) ∙ ap (λ d. test d v) (sym (append_assoc done (w ∷ []) before))
    ∙ none_at test (done ++ (w ∷ [])) rest parts.1 before v after tail

pub none_by : (test : NodeTest) (done rest : List Visit)
    → ((before : List Visit) (v : Visit) (after : List Visit) → rest ≡ before ++ (v ∷ after)
    → test (done ++ before) v ≡ None)
    →
    found_by test done rest ≡ None
none_by test done [] h = refl
none_by test done (w ∷ rest) h =
    let later : List Visit = done ++ (w ∷ []) in
    let here : test done w ≡ None = ap (λ d. test d w) (sym (append-nil done)) ∙ h [] w rest refl in
    ap (λ o. or_else o (found_by test later rest)) here
    ∙ none_by test later rest (λ before v after p. ap (λ d. test d v) (append_assoc done (w ∷ []) before) ∙ h (w ∷ before) v after (ap (λ xs. w ∷ xs) p))

-- where a walk finds its fault
pub record FaultFoundAt (test : NodeTest) (done rest : List Visit) (fault : GameFault) : Type 0 where
  pub before : List Visit
  pub node : Visit
  pub after : List Visit
  pub place : rest ≡ before ++ (node ∷ after)
  pub none : found_by test done before ≡ None
  pub is : test (done ++ before) node ≡ Some fault

pub some_at : (test : NodeTest) (done rest : List Visit) (fault : GameFault) → found_by test done rest ≡ Some fault
    → FaultFoundAt test done rest fault
some_at test done [] fault e = cc
some_at test done (w ∷ rest) fault e =
    let further : List Visit = done ++ (w ∷ []) in
    elim (or_some (test done w) (found_by test further rest) fault e) [
      | inl here ↦ record { before = []; node = w; after = rest; place = refl; none = refl; is = ap (λ d. test d w) (append-nil done) ∙ here }
      | inr later ↦
          let found = some_at test further rest fault later.1 in
          record {
            before = w ∷ found.before;
            node = found.node;
            after = found.after;
            place = ap (λ xs. w ∷ xs) found.place;
            none = ap (λ o. or_else o (found_by test further found.before)) later.0 ∙ found.none;
            is = ap (λ d. test d found.node) (sym (append_assoc done (w ∷ []) found.before)) ∙ found.is;
          }
    ]

pub some_by : (test : NodeTest) (done before : List Visit) (v : Visit) (after : List Visit) (fault : GameFault)
    → found_by test done before ≡ None → test (done ++ before) v ≡ Some fault →
    found_by test done (before ++ (v ∷ after)) ≡ Some fault
some_by test done [] v after fault none e =
    let here : test done v ≡ Some fault = ap (λ d. test d v) (sym (append-nil done)) ∙ e in
    ap (λ o. or_else o (found_by test (done ++ (v ∷ [])) after)) here
some_by test done (b ∷ before) v after fault none e =
    let further : List Visit = done ++ (b ∷ []) in
    let parts = or_none (test done b) (found_by test further before) none in
    ap (λ o. or_else o (found_by test further (before ++ (v ∷ after)))) parts.0
    ∙ some_by test further before v after fault parts.1 (ap (λ d. test d v) (append_assoc done (b ∷ []) before) ∙ e)

-- a walk's test says what its words say
pub record IsWalk (test : NodeTest) (Passes : List Visit → Visit → Type 0)
    (Fails : List Visit → Visit → GameFault → Type 0) : Type 0 where
  pub passes : (before : List Visit) (v : Visit) → test before v ≡ None → Passes before v
  pub none : (before : List Visit) (v : Visit) → Passes before v → test before v ≡ None
  pub fails : (before : List Visit) (v : Visit) (fault : GameFault) → EachPasses Passes before
      → test before v ≡ Some fault → Fails before v fault
  pub some : (before : List Visit) (v : Visit) (fault : GameFault) → Fails before v fault → test before v ≡ Some fault

-- a walk finds no fault exactly where each node passes
pub none_iff : (test : NodeTest) (Passes : List Visit → Visit → Type 0)
    (Fails : List Visit → Visit → GameFault → Type 0)
    → IsWalk test Passes Fails → (nodes : List Visit) →
    (found_by test [] nodes ≡ None) ↔ EachPasses Passes nodes
none_iff test Passes Fails walk nodes = (
  λ e before v after p. walk.passes before v (none_at test [] nodes e before v after p),
  λ each. none_by test [] nodes (λ before v after p. walk.none before v (each before v after p)),
)

-- the fault that a walk finds is exactly that of the first node that fails
pub some_iff : (test : NodeTest) (Passes : List Visit → Visit → Type 0)
    (Fails : List Visit → Visit → GameFault → Type 0)
    → IsWalk test Passes Fails → (nodes : List Visit) (fault : GameFault) →
    (found_by test [] nodes ≡ Some fault) ↔ FailsFirst Passes Fails nodes fault
some_iff test Passes Fails walk nodes fault = (
  λ e.
      let found = some_at test [] nodes fault e in
      let earlier = (none_iff test Passes Fails walk found.before).0 found.none in
      record {
        before = found.before;
        node = found.node;
        after = found.after;
        place = found.place;
        earlier = earlier;
        fails = walk.fails found.before found.node fault earlier found.is;
      },
  λ first.
      ap (found_by test []) first.place
      ∙ some_by test [] first.before first.node first.after fault ((none_iff test Passes Fails walk first.before).1 first.earlier)
      (walk.some first.before first.node fault first.fails),
)

-- where what passes doesn't rest on the nodes before, all of them have it
pub each-all : (P : Visit → Type 0) (nodes : List Visit) → EachPasses (λ _ v. P v) nodes → All P nodes
each-all P [] h = All-nil P
each-all P (x ∷ xs) h = All-cons P x xs (h [] x xs refl) (each-all P xs (λ before v after p. h (x ∷ before) v after (ap (λ ys. x ∷ ys) p)))
