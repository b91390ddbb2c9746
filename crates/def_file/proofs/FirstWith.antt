-- The first entry with a property, by a test that tells the property.
use Rattle.std.proofs.Common.{◌≡◌, ◌≢◌, ℕ, Bool, true, false, cond, ◌&&◌, List, [], ◌∷◌, ◌++◌, map, Option, Some, None, ◌⊎◌, ◌↔◌, refl, sym, ap, ◌∙◌, subst}
use Rattle.std.proofs.Common.{inl, inr}
use Rattle.std.specs.Prelude.{All, filter}
use Rattle.std.proofs.Math.Logic.{⊎_elim}
use Rattle.std.proofs.lemmas.Bool.{false≢true}
use Rattle.std.proofs.lemmas.List.Elements.{All-nil, All-cons, All-head, All-tail}
use Rattle.def_file.specs.Content.{Record}
use Rattle.def_file.specs.Entries.{first_given}
use Rattle.def_file.specs.EntryRules.{NoneWith, IsFirstWith}

-- the test tells the property of each of these entries
abbrev pub TellsWhere : (Record → Bool) → (Record → Type 0) → List Record → Type 0
TellsWhere t P rs = All (λ x. (t x ≡ true) ↔ P x) rs

tells_first : (t : Record → Bool) (P : Record → Type 0) (x : Record) (rs : List Record) → TellsWhere t P (x ∷ rs)
    → (t x ≡ true) ↔ P x
tells_first t P x rs tells = All-head (λ e. (t e ≡ true) ↔ P e) x rs tells

tells_rest : (t : Record → Bool) (P : Record → Type 0) (x : Record) (rs : List Record) → TellsWhere t P (x ∷ rs)
    → TellsWhere t P rs
tells_rest t P x rs tells = All-tail (λ e. (t e ≡ true) ↔ P e) x rs tells

fails : (t : Record → Bool) (P : Record → Type 0) (x : Record) (rs : List Record) → TellsWhere t P (x ∷ rs)
    → t x ≡ false
    → ¬ (P x)
fails t P x rs tells e is = false≢true (sym e ∙ (tells_first t P x rs tells).1 is)

-- two tests one after the other are one
pub filter-filter : (p q : Record → Bool) (rs : List Record) → filter q (filter p rs) ≡ filter (λ x. p x && q x) rs
filter-filter p q [] = refl
filter-filter p q (x ∷ rs) =
    elim (p x) as (λ (b : Bool). filter q (cond b (x ∷ filter p rs) (filter p rs))
    ≡ cond (b && q x) (x ∷ filter (λ y. p y && q y) rs) (filter (λ y. p y && q y) rs))
    [ true ↦ ap (λ (ys : List Record). cond (q x) (x ∷ ys) ys) (filter-filter p q rs) | false ↦ filter-filter p q rs ]

-- no entry has the property where none passes the test

kept_step : (t : Record → Bool) (x : Record) (rs : List Record) (b : Bool) → t x ≡ b
    → filter t (x ∷ rs) ≡ cond b (x ∷ filter t rs) (filter t rs)
kept_step t x rs b e = ap (λ (c : Bool). cond c (x ∷ filter t rs) (filter t rs)) e

none_step : (t : Record → Bool) (P : Record → Type 0) (x : Record) (rs : List Record) (b : Bool) → t x ≡ b
    → TellsWhere t P (x ∷ rs) → (filter t rs ≡ [] → NoneWith P rs) → filter t (x ∷ rs) ≡ [] → NoneWith P (x ∷ rs)
none_step t P x rs true e tells later h = let kept = kept_step t x rs true e in absurd cc
none_step t P x rs false e tells later h = All-cons (λ y. ¬ (P y)) x rs (fails t P x rs tells e) (later (sym (kept_step t x rs false e) ∙ h))

-- where no entry passes the test, none has the property
pub none_with : (t : Record → Bool) (P : Record → Type 0) (rs : List Record) → TellsWhere t P rs → filter t rs ≡ []
    → NoneWith P rs
none_with t P [] tells h = All-nil (λ y. ¬ (P y))
none_with t P (x ∷ rs) tells h = none_step t P x rs (t x) refl tells (none_with t P rs (tells_rest t P x rs tells)) h

-- the first entry

first_here : (P : Record → Type 0) (x : Record) (rs : List Record) → P x → IsFirstWith P (x ∷ rs) x
first_here P x rs is = record { before = []; behind = rs; place = refl; has = is; first = All-nil (λ y. ¬ (P y)) }

first_later : (P : Record → Type 0) (x : Record) (rs : List Record) (e : Record) → ¬ (P x) → IsFirstWith P rs e
    → IsFirstWith P (x ∷ rs) e
first_later P x rs e not is = record {
  before = x ∷ is.before;
  behind = is.behind;
  place = ap (λ ys. x ∷ ys) is.place;
  has = is.has;
  first = All-cons (λ y. ¬ (P y)) x is.before not is.first;
}

split_cases : (P : Record → Type 0) (x : Record) (rs : List Record) (e : Record) (before behind : List Record)
    → x ∷ rs ≡ before ++ e ∷ behind → P e → NoneWith P before → ((x ≡ e) × P e) ⊎ ((¬ (P x)) × IsFirstWith P rs e)
split_cases P x rs e [] behind place has first = inl (cc, has)
split_cases P x rs e (y ∷ before) behind place has first =
    let same : y ≡ x = cc in
    let rest : rs ≡ before ++ e ∷ behind = cc in
    inr (
      subst (λ z. ¬ (P z)) same (All-head (λ z. ¬ (P z)) y before first),
      record { before = before; behind = behind; place = rest; has = has; first = All-tail (λ z. ¬ (P z)) y before first },
    )

-- the first entry of some is the first of all, or it is behind that
pub first_cases : (P : Record → Type 0) (x : Record) (rs : List Record) (e : Record) → IsFirstWith P (x ∷ rs) e
    → ((x ≡ e) × P e) ⊎ ((¬ (P x)) × IsFirstWith P rs e)
first_cases P x rs e is = split_cases P x rs e is.before is.behind is.place is.has is.first

no_first : (P : Record → Type 0) (e : Record) → IsFirstWith P [] e → ⊥
no_first P e is = by is.before is.place
  where
    by : (before : List Record) → [] ≡ before ++ e ∷ is.behind → ⊥
    by [] h = cc
    by (y ∷ ys) h = cc

-- an entry with the property is none of those without it
pub none_is_first : (P Q : Record → Type 0) → ((x : Record) → P x → Q x) → (rs : List Record) (e : Record)
    → NoneWith Q rs → IsFirstWith P rs e → ⊥
none_is_first P Q goes [] e none is = no_first P e is
none_is_first P Q goes (x ∷ rs) e none is =
    ⊎_elim
    (λ here. All-head (λ y. ¬ (Q y)) x rs none (goes x (subst P (sym here.0) here.1)))
    (λ later. none_is_first P Q goes rs e (All-tail (λ y. ¬ (Q y)) x rs none) later.1)
    (first_cases P x rs e is)

first_step : (t : Record → Bool) (P : Record → Type 0) (x : Record) (rs : List Record) (b : Bool) → t x ≡ b
    → TellsWhere t P (x ∷ rs)
    → ((e : Record) (more : List Record) → filter t rs ≡ e ∷ more → IsFirstWith P rs e)
    → (e : Record) (more : List Record) → filter t (x ∷ rs) ≡ e ∷ more → IsFirstWith P (x ∷ rs) e
first_step t P x rs true h tells later e more is =
    let kept = kept_step t x rs true h in
    let same : x ≡ e = cc in
    subst (IsFirstWith P (x ∷ rs)) same (first_here P x rs ((tells_first t P x rs tells).0 h))
first_step t P x rs false h tells later e more is = first_later P x rs e (fails t P x rs tells h) (later e more (sym (kept_step t x rs false h) ∙ is))

-- the first that passes the test has the property first
pub first_with : (t : Record → Bool) (P : Record → Type 0) (rs : List Record) → TellsWhere t P rs
    → (e : Record) (more : List Record) → filter t rs ≡ e ∷ more → IsFirstWith P rs e
first_with t P [] tells e more h = absurd cc
first_with t P (x ∷ rs) tells e more h = first_step t P x rs (t x) refl tells (first_with t P rs (tells_rest t P x rs tells)) e more h

-- The first with the property is one alone.
pub first_is_one : (P : Record → Type 0) (rs : List Record) (d e : Record) → IsFirstWith P rs d → IsFirstWith P rs e
    → d ≡ e
first_is_one P [] d e p q = absurd (no_first P d p)
first_is_one P (x ∷ rs) d e p q =
    ⊎_elim
    (λ here. ⊎_elim (λ there. sym here.0 ∙ there.0) (λ later. absurd (later.0 (subst P (sym here.0) here.1))) (first_cases P x rs e q))
    (λ behind. ⊎_elim (λ there. absurd (behind.0 (subst P (sym there.0) there.1))) (λ later. first_is_one P rs d e behind.1 later.1) (first_cases P x rs e q))
    (first_cases P x rs d p)

-- The first name that is given.

abbrev pub Names : (Record → Type 0) → (Record → Option (List ℕ)) → Record → Type 0
Names P name e = P e × (name e ≢ None)

pub record GivesFirst (P : Record → Type 0) (name : Record → Option (List ℕ)) (rs : List Record) (kept : List ℕ) : Type 0 where
  pub entry : Record
  pub first : IsFirstWith (Names P name) rs entry
  pub gives : name entry ≡ Some kept

gives_later : (P : Record → Type 0) (name : Record → Option (List ℕ)) (x : Record) (rs : List Record) (kept : List ℕ)
    → ¬ (Names P name x) → GivesFirst P name rs kept → GivesFirst P name (x ∷ rs) kept
gives_later P name x rs kept not is = record { entry = is.entry; first = first_later (Names P name) x rs is.entry not is.first; gives = is.gives }

module _ (t : Record → Bool) (P : Record → Type 0) (name : Record → Option (List ℕ)) where
  names_of : List Record → Option (List ℕ)
  names_of rs = first_given (map name (filter t rs))

  own_step : (x : Record) (rs : List Record) (kept : List ℕ) (o : Option (List ℕ)) → name x ≡ o → P x
      → (first_given (map name (filter t rs)) ≡ Some kept → GivesFirst P name rs kept)
      → first_given (o ∷ map name (filter t rs)) ≡ Some kept → GivesFirst P name (x ∷ rs) kept
  own_step x rs kept (Some y) e is later h =
      let same : y ≡ kept = cc in
      record { entry = x; first = first_here (Names P name) x rs (is, λ none. cc); gives = e ∙ ap Some same }
  own_step x rs kept None e is later h = gives_later P name x rs kept (λ names. names.1 e) (later h)

  given_step : (x : Record) (rs : List Record) (kept : List ℕ) (b : Bool) → t x ≡ b → TellsWhere t P (x ∷ rs)
      → (first_given (map name (filter t rs)) ≡ Some kept → GivesFirst P name rs kept)
      → first_given (map name (cond b (x ∷ filter t rs) (filter t rs))) ≡ Some kept → GivesFirst P name (x ∷ rs) kept
  given_step x rs kept true e tells later h = own_step x rs kept (name x) refl ((tells_first t P x rs tells).0 e) later h
  given_step x rs kept false e tells later h = gives_later P name x rs kept (λ names. fails t P x rs tells e names.0) (later h)

  -- the name that is kept is the first one given
  pub given_is_first : (rs : List Record) → TellsWhere t P rs → (kept : List ℕ)
      → first_given (map name (filter t rs)) ≡ Some kept → GivesFirst P name rs kept
  given_is_first [] tells kept h = absurd cc
  given_is_first (x ∷ rs) tells kept h = given_step x rs kept (t x) refl tells (given_is_first rs (tells_rest t P x rs tells) kept) h

  first_named : (x : Record) (rs : List Record) (kept : List ℕ) → t x ≡ true → name x ≡ Some kept
      → first_given (map name (filter t (x ∷ rs))) ≡ Some kept
  first_named x rs kept e gives =
      ap (λ ys. first_given (map name ys)) (kept_step t x rs true e) ∙ ap (λ o. first_given (o ∷ map name (filter t rs))) gives

  unnamed_own : (x : Record) (rs : List Record) (o : Option (List ℕ)) → name x ≡ o → ¬ (name x ≢ None)
      → first_given (o ∷ map name (filter t rs)) ≡ first_given (map name (filter t rs))
  unnamed_own x rs (Some y) e not = absurd (not (λ none. cc))
  unnamed_own x rs None e not = refl

  unnamed : (x : Record) (rs : List Record) (b : Bool) → t x ≡ b → TellsWhere t P (x ∷ rs) → ¬ (Names P name x)
      → first_given (map name (filter t (x ∷ rs))) ≡ first_given (map name (filter t rs))
  unnamed x rs true e tells not =
      ap (λ ys. first_given (map name ys)) (kept_step t x rs true e)
      ∙ unnamed_own x rs (name x) refl (λ some. not ((tells_first t P x rs tells).0 e, some))
  unnamed x rs false e tells not = ap (λ ys. first_given (map name ys)) (kept_step t x rs false e)

  -- the first name given is the one that is kept
  pub first_is_given : (rs : List Record) → TellsWhere t P rs → (kept : List ℕ) (entry : Record)
      → IsFirstWith (Names P name) rs entry → name entry ≡ Some kept → first_given (map name (filter t rs)) ≡ Some kept
  first_is_given [] tells kept entry is gives = absurd (no_first (Names P name) entry is)
  first_is_given (x ∷ rs) tells kept entry is gives =
      ⊎_elim
      (λ here. first_named x rs kept ((tells_first t P x rs tells).1 (subst (Names P name) (sym here.0) here.1).0) (ap name here.0 ∙ gives))
      (λ later. unnamed x rs (t x) refl tells later.0 ∙ first_is_given rs (tells_rest t P x rs tells) kept entry later.1 gives)
      (first_cases (Names P name) x rs entry is)
