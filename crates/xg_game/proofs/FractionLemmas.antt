-- The fractions of tables are in lowest terms and within the limit.
use Rattle.std.proofs.Common.{◌≡◌, ◌-◌, ℕ, List, [], ◌∷◌, ◌++◌, map, set, slice_get, get_or, drop, Option, Result, Ok, Err, Some, sym, subst, ap, ◌∙◌, zero}
use Rattle.std.proofs.Common.{suc}
use Rattle.std.specs.List.{All}
use Rattle.std.specs.Result.{OnOk, OnErr}
use Rattle.std.proofs.lemmas.List.Elements.{All-nil, All-cons, All-head, All-tail, All-push, All-take, All-drop, All-map}
use Rattle.def_file.proofs.Fractions.{zero_small}
use Rattle.def_fraction.specs.Fraction.{Fraction, zero_fraction}
use Rattle.def_file.specs.Content.{Action, SetEntry, OutcomeEntry}
use Rattle.def_file.specs.Game.{IsSmallFraction, chances_of}
use Rattle.xg_game.specs.Actions.{actions_of, actions_in}
use Rattle.xg_game.specs.Outcomes.{HaveSmallPayoffs, outcome_entry_of}
use Rattle.xg_game.specs.Sets.{set_of}
use Rattle.xg_game.proofs.TableLemmas.{KnownOutcome, KnownSet, outcome_added}

-- each action has a probability that is kept, or 0
pub actions_small : (names : List (List ℕ)) (chances : List Fraction) → All IsSmallFraction chances
    → All (λ (a : Action). IsSmallFraction a.chance) (actions_of names chances)
actions_small [] chances h = All-nil (λ (a : Action). IsSmallFraction a.chance)
actions_small (name ∷ names) [] h =
    All-cons (λ (a : Action). IsSmallFraction a.chance) (record { name = name; chance = zero_fraction }) (actions_of names []) zero_small
    (actions_small names [] h)
actions_small (name ∷ names) (chance ∷ chances) h =
    All-cons (λ (a : Action). IsSmallFraction a.chance) (record { name = name; chance = chance }) (actions_of names chances)
    (All-head IsSmallFraction chance chances h) (actions_small names chances (All-tail IsSmallFraction chance chances h))

-- so do the actions of each set
pub sets_small : (actions : List Action) (sets : List (ℕ × KnownSet)) → All (λ (a : Action). IsSmallFraction a.chance) actions
    → All (λ (e : SetEntry). All IsSmallFraction (chances_of e)) (map (set_of actions) sets)
sets_small actions sets h =
    All-map (λ (e : SetEntry). All IsSmallFraction (chances_of e)) (set_of actions) sets (λ k d there.
    let e : ℕ × KnownSet = get_or sets k d in
    All-map IsSmallFraction (λ (a : Action). a.chance) (actions_in actions e.1.value)
    (All-take (λ (a : Action). IsSmallFraction a.chance) (e.1.value.end - e.1.value.start) (drop e.1.value.start actions)
    (All-drop (λ (a : Action). IsSmallFraction a.chance) e.1.value.start actions h)))

-- outcomes with one more, or none more
pub paid_put : {T E : Type 0} (r : Result T E) (es new : List (ℕ × KnownOutcome)) (e : ℕ × KnownOutcome)
    → HaveSmallPayoffs (map outcome_entry_of es) → IsSmallFraction e.1.value.one → IsSmallFraction e.1.value.two
    → OnOk r (new ≡ es ++ e ∷ []) → OnErr r (new ≡ es)
    → HaveSmallPayoffs (map outcome_entry_of new)
paid_put (Ok x) es new e small one two ok err =
    subst HaveSmallPayoffs (sym (ap (map outcome_entry_of) ok ∙ outcome_added es e)) (record {
      one = All-push (λ (o : OutcomeEntry). IsSmallFraction o.one) (map outcome_entry_of es) (outcome_entry_of e) small.one one;
      two = All-push (λ (o : OutcomeEntry). IsSmallFraction o.two) (map outcome_entry_of es) (outcome_entry_of e) small.two two;
    })
paid_put (Err x) es new e small one two ok err = subst (λ (xs : List (ℕ × KnownOutcome)). HaveSmallPayoffs (map outcome_entry_of xs)) (sym err) small

paid_named : (es : List (ℕ × KnownOutcome)) (i : ℕ) (e : ℕ × KnownOutcome) (name : Option (List ℕ))
    → slice_get es i ≡ Some e → HaveSmallPayoffs (map outcome_entry_of es)
    → HaveSmallPayoffs (map outcome_entry_of (set es i (e.0, record e.1 { name = name })))
paid_named [] i e name at small = cc
paid_named (x ∷ es) zero e name at small =
    let same : x ≡ e = cc in
    subst (λ (y : ℕ × KnownOutcome). HaveSmallPayoffs (map outcome_entry_of ((y.0, record y.1 { name = name }) ∷ es))) same (record {
      one = All-cons (λ (o : OutcomeEntry). IsSmallFraction o.one) (outcome_entry_of (x.0, record x.1 { name = name })) (map outcome_entry_of es)
          (All-head (λ (o : OutcomeEntry). IsSmallFraction o.one) (outcome_entry_of x) (map outcome_entry_of es) small.one)
          (All-tail (λ (o : OutcomeEntry). IsSmallFraction o.one) (outcome_entry_of x) (map outcome_entry_of es) small.one);
      two = All-cons (λ (o : OutcomeEntry). IsSmallFraction o.two) (outcome_entry_of (x.0, record x.1 { name = name })) (map outcome_entry_of es)
          (All-head (λ (o : OutcomeEntry). IsSmallFraction o.two) (outcome_entry_of x) (map outcome_entry_of es) small.two)
          (All-tail (λ (o : OutcomeEntry). IsSmallFraction o.two) (outcome_entry_of x) (map outcome_entry_of es) small.two);
    })
paid_named (x ∷ es) (suc i) e name at small =
    let rest : HaveSmallPayoffs (map outcome_entry_of (set es i (e.0, record e.1 { name = name }))) = paid_named es i e name at (record {
      one = All-tail (λ (o : OutcomeEntry). IsSmallFraction o.one) (outcome_entry_of x) (map outcome_entry_of es) small.one;
      two = All-tail (λ (o : OutcomeEntry). IsSmallFraction o.two) (outcome_entry_of x) (map outcome_entry_of es) small.two;
    }) in
    record {
      one = All-cons (λ (o : OutcomeEntry). IsSmallFraction o.one) (outcome_entry_of x) (map outcome_entry_of (set es i (e.0, record e.1 { name = name })))
          (All-head (λ (o : OutcomeEntry). IsSmallFraction o.one) (outcome_entry_of x) (map outcome_entry_of es) small.one) rest.one;
      two = All-cons (λ (o : OutcomeEntry). IsSmallFraction o.two) (outcome_entry_of x) (map outcome_entry_of (set es i (e.0, record e.1 { name = name })))
          (All-head (λ (o : OutcomeEntry). IsSmallFraction o.two) (outcome_entry_of x) (map outcome_entry_of es) small.two) rest.two;
    }

-- or where one of them gets a name, or would
pub paid_given : {T E : Type 0} (r : Result T E) (es new : List (ℕ × KnownOutcome)) (i : ℕ) (e : ℕ × KnownOutcome)
    (name : Option (List ℕ))
    → slice_get es i ≡ Some e → HaveSmallPayoffs (map outcome_entry_of es)
    → OnOk r (new ≡ set es i (e.0, record e.1 { name = name })) → OnErr r (new ≡ es)
    → HaveSmallPayoffs (map outcome_entry_of new)
paid_given (Ok x) es new i e name at small ok err = subst (λ (xs : List (ℕ × KnownOutcome)). HaveSmallPayoffs (map outcome_entry_of xs)) (sym ok)
    (paid_named es i e name at small)
paid_given (Err x) es new i e name at small ok err = subst (λ (xs : List (ℕ × KnownOutcome)). HaveSmallPayoffs (map outcome_entry_of xs)) (sym err) small
