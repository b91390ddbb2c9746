-- What the tests of names, lists and numbers tell.
use Rattle.std.proofs.Common.{◌≡◌, ◌≢◌, ℕ, ◌<◌, Bool, true, false, ◌&&◌, ◌||◌, not, List, [], ◌∷◌, length, map, Option, Some, None, ◌⊎◌, inl, inr, ◌↔◌, refl}
use Rattle.std.proofs.Common.{sym, ap, ◌∙◌, subst}
use Rattle.std.specs.Prelude.{nat_eq, nat_lt, filter, is_none, pos, ◌*ℤ◌}
use Rattle.std.specs.declared.cmp.Ordering.{Ordering}
use Rattle.std.specs.declared.cmp.Ordering.TheVariants.{Less, Equal, Greater}
use Rattle.std.specs.Cmp.{int_cmp_is}
use Rattle.std.proofs.lemmas.Cmp.{int_ranked}
use Rattle.std.specs.Cmp.Lexicographic as texts
use Rattle.std.specs.Cmp.Lexicographic.{pointwise}
use Rattle.std.proofs.Math.Logic.{⊎_elim}
use Rattle.std.proofs.lemmas.Bool.{false≢true, and_parts, and_from, or_cases, or_left, or_right, not-true, not_from_false, false_from_ne_true, eqb-true}
use Rattle.std.proofs.lemmas.Bool.{eqb-false, eq-eqb, ne_eqb, ltb-true, lt-ltb}
use Rattle.def_fraction.specs.Fraction.{Fraction, order_of}
use Rattle.def_fraction.specs.Laws.{HasValue}
use Rattle.def_tree.specs.declared.Kind.{Kind}
use Rattle.def_tree.specs.declared.Kind.TheVariants as movers
use Rattle.def_tree.specs.Rules.{most_actions}
use Rattle.def_file.specs.declared.EntryKind.TheVariants.{Chance, Personal}
use Rattle.def_file.specs.Content.{Action, Record, OutcomeEntry}
use Rattle.def_file.specs.Faults.{same_text, is_equal, same_value, same_action, name_differs, actions_differ, payoffs_differ, has_wrong_count}
use Rattle.def_file.specs.Faults.{has_wrong_payoffs}
use Rattle.def_file.specs.Entries.{first_given}
use Rattle.def_file.specs.EntryRules.{Moves, IsFirstWith, AreSameNumbers, AreSameActions, HasOtherName, HasOtherList}
use Rattle.def_file.proofs.FirstWith.{TellsWhere, given_is_first, first_is_given, first_is_one}

-- Tests joined.

-- a test behind another one that the property needs
pub guarded : (b t : Bool) (P : Type 0) → (P → b ≡ true) → (b ≡ true → (t ≡ true) ↔ P) → ((b && t) ≡ true) ↔ P
guarded b t P needs tells = (λ h. let parts = and_parts b t h in (tells parts.0).0 parts.1, λ p. and_from b t (needs p) ((tells (needs p)).1 p))

-- one test or another tells one property or another
pub either : (a b : Bool) (P Q : Type 0) → (a ≡ true) ↔ P → (b ≡ true) ↔ Q → ((a || b) ≡ true) ↔ (P ⊎ Q)
either a b P Q p q = (λ h. ⊎_elim (λ e. inl (p.0 e)) (λ e. inr (q.0 e)) (or_cases a b h), λ s. ⊎_elim (λ x. or_left a b (p.1 x)) (λ y. or_right a b (q.1 y)) s)

-- Options.

-- the test of None tells
pub none_if : {A : Type 0} (o : Option A) → is_none o ≡ true → o ≡ None
none_if None e = refl
none_if (Some x) e = absurd cc

-- what is not None is given
pub some_if : {A : Type 0} (o : Option A) → o ≢ None → (x : A) × (o ≡ Some x)
some_if None h = absurd (h refl)
some_if (Some x) h = (x, refl)

-- Names.

text_tells : (xs ys : List ℕ) → (same_text xs ys ≡ true) ↔ (xs ≡ ys)
text_tells xs ys = (λ e. texts.same_text xs ys (sym e), λ e. by (pointwise nat_eq xs ys) refl e)
  where
    by : (b : Bool) → b ≡ pointwise nat_eq xs ys → xs ≡ ys → pointwise nat_eq xs ys ≡ true
    by true e same = sym e
    by false e same = absurd (texts.other_text xs ys e same)

record DifferAs (a b : Option (List ℕ)) : Type 0 where
  kept : List ℕ
  given : List ℕ
  keeps : a ≡ Some kept
  gives : b ≡ Some given
  differ : kept ≢ given

names_differ : (a b : Option (List ℕ)) → name_differs a b ≡ true → DifferAs a b
names_differ (Some kept) (Some given) e =
    record {
      kept = kept;
      given = given;
      keeps = refl;
      gives = refl;
      differ = λ same. false≢true
          (sym (not-true (same_text kept given) e) ∙ (text_tells kept given).1 same);
    }
names_differ (Some kept) None e = absurd cc
names_differ None b e = absurd cc

differ_names : (a b : Option (List ℕ)) → DifferAs a b → name_differs a b ≡ true
differ_names a b d =
    ap (λ (o : Option (List ℕ)). name_differs o b) d.keeps ∙ ap (λ (o : Option (List ℕ)). name_differs (Some d.kept) o) d.gives
    ∙ not_from_false (same_text d.kept d.given) (false_from_ne_true (same_text d.kept d.given) (λ e. d.differ ((text_tells d.kept d.given).0 e)))

-- the test of the names tells whether another name is given than the first
pub name_tells : (t : Record → Bool) (P : Record → Type 0) (name : Record → Option (List ℕ)) (rs : List Record)
    (r : Record)
    → TellsWhere t P rs
    → (name_differs (first_given (map name (filter t rs))) (name r) ≡ true) ↔ HasOtherName P name rs r
name_tells t P name rs r tells = (forth, back)
  where
    forth : name_differs (first_given (map name (filter t rs))) (name r) ≡ true → HasOtherName P name rs r
    forth e =
        let d = names_differ (first_given (map name (filter t rs))) (name r) e in
        let first = given_is_first t P name rs tells d.kept d.keeps in
        record { kept = d.kept; given = d.given; entry = first.entry; first = first.first; keeps = first.gives; gives = d.gives; differ = d.differ }

    back : HasOtherName P name rs r → name_differs (first_given (map name (filter t rs))) (name r) ≡ true
    back h =
        let keeps = first_is_given t P name rs tells h.kept h.entry h.first h.keeps in
        differ_names (first_given (map name (filter t rs))) (name r) (record
        { kept = h.kept; given = h.given; keeps = keeps; gives = h.gives; differ = h.differ })

-- Lists.

-- a list is given that the test tells from the kept one
abbrev pub other_list : {A : Type 0} → (A → A → Bool) → A → Option A → Bool
other_list same kept (Some given) = not (same kept given)
other_list same kept None = false

-- a list that is told from the kept one is given
pub other_given : {A : Type 0} (same : A → A → Bool) (kept : A) (o : Option A) → other_list same kept o ≡ true
    → (given : A) × (o ≡ Some given) × (same kept given ≡ false)
other_given same kept (Some given) e = (given, refl, not-true (same kept given) e)
other_given same kept None e = absurd cc

-- the test of the lists tells whether another list is given than that of the first mention
pub list_tells : {A : Type 0} (P : Record → Type 0) (list : Record → Option A) (same : A → A → Bool)
    (Same : A → A → Type 0) (rs : List Record) (r e : Record) (kept : A)
    → ((given : A) → (same kept given ≡ true) ↔ Same kept given) → IsFirstWith P rs e → list e ≡ Some kept
    → (other_list same kept (list r) ≡ true) ↔ HasOtherList P list Same rs r
list_tells {A} P list same Same rs r e kept tells first keeps = (forth, back)
  where
    forth : other_list same kept (list r) ≡ true → HasOtherList P list Same rs r
    forth h =
        let g = other_given same kept (list r) h in
        record { kept = kept; given = g.0; entry = e; first = first; keeps = keeps; gives = g.1; differ = λ is. false≢true (sym g.2 ∙ (tells g.0).1 is) }

    back : HasOtherList P list Same rs r → other_list same kept (list r) ≡ true
    back h =
        let one : h.entry ≡ e = first_is_one P rs h.entry e h.first first in
        let own : list h.entry ≡ list e = ap list one in
        let is : h.kept ≡ kept = cc in
        ap (λ (o : Option A). other_list same kept o) h.gives
        ∙ not_from_false (same kept h.given) (false_from_ne_true (same kept h.given)
        (λ s. h.differ (subst (λ k. Same k h.given) (sym is) ((tells h.given).0 s))))

-- the test of actions compares lists
pub actions_other : (kind : Kind) (kept : List Action) (o : Option (List Action))
    → actions_differ kind kept o ≡ other_list (pointwise (same_action kind)) kept o
actions_other kind kept (Some given) = refl
actions_other kind kept None = refl

-- the test of payoffs compares lists
pub payoffs_other : (kept : OutcomeEntry) (o : Option (List Fraction))
    → payoffs_differ kept o ≡ other_list (pointwise same_value) (kept.one ∷ kept.two ∷ []) o
payoffs_other kept (Some given) = refl
payoffs_other kept None = refl

-- Numbers by their values.

equal_is : (o : Ordering) → is_equal o ≡ true → Equal ≡ o
equal_is Less e = absurd cc
equal_is Equal e = refl
equal_is Greater e = absurd cc

value_tells : (f g : Fraction) → (same_value f g ≡ true) ↔ HasValue f g.num g.den
value_tells f g =
    let a = f.num *ℤ pos g.den in
    let b = g.num *ℤ pos f.den in
    (λ e. int_ranked a b Equal (equal_is (order_of f g) e), λ h. ap is_equal (sym (int_cmp_is a b Equal h)))

-- each number of two lists has one value
pub numbers_tell : (fs gs : List Fraction) → (pointwise same_value fs gs ≡ true) ↔ AreSameNumbers fs gs
numbers_tell [] [] = (λ e. tt, λ h. refl)
numbers_tell [] (g ∷ gs) = (λ e. absurd cc, λ h. absurd h)
numbers_tell (f ∷ fs) [] = (λ e. absurd cc, λ h. absurd h)
numbers_tell (f ∷ fs) (g ∷ gs) =
    let one = value_tells f g in
    let rest = numbers_tell fs gs in (
      λ e. let parts = and_parts (same_value f g) (pointwise same_value fs gs) e in (one.0 parts.0, rest.0 parts.1),
      λ h. and_from (same_value f g) (pointwise same_value fs gs) (one.1 h.0) (rest.1 h.1),
    )

-- Actions: the same names, and of chance the same probabilities.

names_tell : (ks bs : List Action)
    → (pointwise (λ a b. same_text a.name b.name) ks bs ≡ true) ↔ (map (λ a. a.name) ks ≡ map (λ b. b.name) bs)
names_tell [] [] = (λ e. refl, λ h. refl)
names_tell [] (b ∷ bs) = (λ e. absurd cc, λ h. absurd cc)
names_tell (a ∷ ks) [] = (λ e. absurd cc, λ h. absurd cc)
names_tell (a ∷ ks) (b ∷ bs) =
    let one = text_tells a.name b.name in
    let rest = names_tell ks bs in (
      λ e. let parts = and_parts (same_text a.name b.name) (pointwise (λ x y. same_text x.name y.name) ks bs) e in
          let first : a.name ≡ b.name = one.0 parts.0 in
          let later : map (λ x. x.name) ks ≡ map (λ x. x.name) bs = rest.0 parts.1 in
          λ i. first i ∷ later i,
      λ h. let first : a.name ≡ b.name = cc in
          let later : map (λ x. x.name) ks ≡ map (λ x. x.name) bs = cc in
          and_from (same_text a.name b.name) (pointwise (λ x y. same_text x.name y.name) ks bs) (one.1 first) (rest.1 later),
    )

-- the chances of actions, beside their names
chances_split : (ks bs : List Action)
    → pointwise (same_action movers.Chance) ks bs
    ≡ (pointwise (λ a b. same_text a.name b.name) ks bs && pointwise same_value (map (λ a. a.chance) ks) (map (λ b. b.chance) bs))
chances_split [] [] = refl
chances_split [] (b ∷ bs) = refl
chances_split (a ∷ ks) [] = refl
chances_split (a ∷ ks) (b ∷ bs) =
    ap (λ (x : Bool). same_action movers.Chance a b && x) (chances_split ks bs)
    ∙ crossed (same_text a.name b.name) (same_value a.chance b.chance) (pointwise (λ x y. same_text x.name y.name) ks bs)
    (pointwise same_value (map (λ x. x.chance) ks) (map (λ y. y.chance) bs))
  where
    crossed : (x y u v : Bool) → (x && y && (u && v)) ≡ (x && u && (y && v))
    crossed true true u v = refl
    crossed true false true v = refl
    crossed true false false v = refl
    crossed false y u v = refl

-- where a player moves
names_alone : (same : Action → Action → Bool) (ks gs : List Action)
    → ((a b : Action) → same a b ≡ same_text a.name b.name)
    → pointwise same ks gs ≡ pointwise (λ a b. same_text a.name b.name) ks gs
names_alone same [] [] is = refl
names_alone same [] (b ∷ gs) is = refl
names_alone same (a ∷ ks) [] is = refl
names_alone same (a ∷ ks) (b ∷ gs) is =
    ap (λ (x : Bool). x && pointwise same ks gs) (is a b) ∙ ap (λ (x : Bool). same_text a.name b.name && x) (names_alone same ks gs is)

by_name : (r : Record) (who : Kind) → r.kind ≡ Personal
    → ((a b : Action) → same_action who a b ≡ same_text a.name b.name) → (ks gs : List Action)
    → (pointwise (same_action who) ks gs ≡ true) ↔ AreSameActions r.kind ks gs
by_name r who personal is ks gs =
    let alone = names_alone (same_action who) ks gs is in (
      λ e. record { names = (names_tell ks gs).0 (sym alone ∙ e); chances = λ chance. absurd (let no : Personal ≡ Chance = sym personal ∙ chance in cc) },
      λ h. alone ∙ (names_tell ks gs).1 h.names,
    )

-- the test of the actions tells whether they are the same
pub actions_tell : (who : Kind) (r : Record) → Moves who r → (ks gs : List Action)
    → (pointwise (same_action who) ks gs ≡ true) ↔ AreSameActions r.kind ks gs
actions_tell movers.Chance r m ks gs =
    let names = pointwise (λ a b. same_text a.name b.name) ks gs in
    let values = pointwise same_value (map (λ a. a.chance) ks) (map (λ b. b.chance) gs) in
    let numbers = numbers_tell (map (λ a. a.chance) ks) (map (λ b. b.chance) gs) in (
      λ e. let parts = and_parts names values (sym (chances_split ks gs) ∙ e) in record {
        names = (names_tell ks gs).0 parts.0;
        chances = λ _. numbers.0 parts.1;
      },
      λ h. chances_split ks gs ∙ and_from names values ((names_tell ks gs).1 h.names) (numbers.1 (h.chances m)),
    )
actions_tell movers.One r m ks gs = by_name r movers.One m.0 (λ a b. refl) ks gs
actions_tell movers.Two r m ks gs = by_name r movers.Two m.0 (λ a b. refl) ks gs
actions_tell movers.Leaf r m ks gs = absurd m

-- Counts.

-- the test of a first list of actions tells
pub count_tells : (o : Option (List Action))
    → (has_wrong_count o ≡ true)
    ↔ ((given : List Action) × (o ≡ Some given) × ((length given ≡ 0) ⊎ (most_actions < length given)))
count_tells (Some given) = (
  λ e. (
    given,
    refl,
    ⊎_elim (λ h. inl (eqb-true (length given) 0 h)) (λ h. inr (ltb-true most_actions (length given) h))
        (or_cases (nat_eq (length given) 0) (nat_lt most_actions (length given)) e),
  ),
  λ (g, is, h).
      let same : length g ≡ length given = let one : g ≡ given = cc in ap length one in
      ⊎_elim
      (λ none. or_left (nat_eq (length given) 0) (nat_lt most_actions (length given)) (eq-eqb (length given) 0 (sym same ∙ none)))
      (λ many. or_right (nat_eq (length given) 0) (nat_lt most_actions (length given))
      (lt-ltb most_actions (length given) (subst (λ n. most_actions < n) same many)))
      h,
)
count_tells None = (λ e. absurd cc, λ (g, is, h). absurd cc)

-- the test of a first list of payoffs tells
pub two_tells : (o : Option (List Fraction))
    → (has_wrong_payoffs o ≡ true) ↔ ((given : List Fraction) × (o ≡ Some given) × (length given ≢ 2))
two_tells (Some given) = (
  λ e. (given, refl, eqb-false (length given) 2 (not-true (nat_eq (length given) 2) e)),
  λ (g, is, h). let one : g ≡ given = cc in not_from_false (nat_eq (length given) 2) (ne_eqb (length given) 2 (λ e. h (ap length one ∙ e))),
)
two_tells None = (λ e. absurd cc, λ (g, is, h). absurd cc)
