-- Each step keeps the rule.
use Rattle.std.proofs.Common.{◌≡◌, ◌≢◌, ℕ, zero, suc, ◌+◌, ◌%◌, ◌<◌, List, [], ◌∷◌, ◌++◌, set, refl, sym, ap, ◌∙◌, subst, ⊎_elim, arith}
use Rattle.std.specs.Prelude.{slice_index}
use mathlib.Core.Option.{some, some-injective, some-ne-none}
use lib.ListN.{get_elem?}
use Rattle.atomic_table.specs.Table.{State, Me, keeps, Allows, Splits, Joins}
use Rattle.atomic_table.proofs.Lists.{at_set, at_snoc, set_again}
use Rattle.xg_locked.specs.declared.view.View.{View}
use Rattle.xg_locked.specs.Rights.{once, job_count_of, stripes_of, rights_for, total_of, whole_view, both, seen, spent, HoldsByNumber, Kept, IsKept, IsLoaded}
use Rattle.xg_locked.specs.Rights.{IsCutInTwo}
use Rattle.def_history.specs.History.{job_numbers}
use Rattle.def_history.specs.Core.{times_right}
use Rattle.xg_locked.proofs.Sums.{times_append, total_set, total_snoc, total_has, total_only, all_once}

abbrev pub rule : ℕ → State (Unit {0}) View → Type 0
rule n s = IsKept n s.words s.views

pub cuts_kept : (n : ℕ) (views : List View) (id : ℕ) (v kept given : View) → IsCutInTwo v kept given → Kept n views
    → get_elem? views id ≡ some v → Kept n (set views id kept ++ given ∷ [])
cuts_kept n views id v kept given cut k at = record {
  rights = λ j s.
      let f : View → ℕ = λ u. times_right j s u.rights in
      let a = total_snoc f (set views id kept) given in
      let b = total_set f views id v kept at in
      let c = cut.rights j s in
      let d = k.rights j s in
      omega arith;
  tickets =
      (let f : View → ℕ = λ u. u.tickets in
      let a = total_snoc f (set views id kept) given in
      let b = total_set f views id v kept at in
      omega (arith, cut.tickets, k.tickets));
  parts =
      (let f : View → ℕ = λ u. u.parts in
      let a = total_snoc f (set views id kept) given in
      let b = total_set f views id v kept at in
      omega (arith, cut.parts, k.parts));
  fits = λ seat u e.
      let number = (k.fits id v at).number_is cut.live in
      ⊎_elim
      (λ was. ⊎_elim
      (λ (x : (seat ≡ id) × (kept ≡ u)). subst (HoldsByNumber n) x.1
      (record { idle = λ none. absurd (omega (arith, cut.some_kept)); number_is = λ _. (cut.numbers.0 ∙ number.0, cut.numbers.1 ∙ number.0) }))
      (λ (x : (seat ≢ id) × (get_elem? views seat ≡ some u)). k.fits seat u x.1)
      (at_set views id seat kept u was))
      (λ (same : given ≡ u). subst (HoldsByNumber n) same
      (record { idle = λ none. absurd (omega (arith, cut.some_given)); number_is = λ _. (cut.numbers.2 ∙ number.0, cut.numbers.3 ∙ number.0) }))
      (at_snoc (set views id kept) given u seat e);
}

-- a seat's view may be cut in two with a new seat for the second part, and the rule is kept
pub cuts : (n id : ℕ) (v kept given : View) → IsCutInTwo v kept given → Splits (rule n) id v kept given
cuts n id v kept given cut s k at = record { word = k.word; kept = cuts_kept n s.views id v kept given cut k.kept at }

poured : (n : ℕ) (views : List View) (id : ℕ) (v : View) (other : ℕ) (w : View) → (f : View → ℕ)
    → f (both v w) ≡ f v + f w → f spent ≡ 0 → get_elem? views id ≡ some v
    → get_elem? (set views id (both v w)) other ≡ some w
    → total_of f (set (set views id (both v w)) other spent) ≡ total_of f views
poured n views id v other w f sum none at there =
    let a = total_set f views id v (both v w) at in
    let b = total_set f (set views id (both v w)) other w spent there in
    omega arith

pub pours_kept : (n : ℕ) (views : List View) (id : ℕ) (v : View) (other : ℕ) (w : View) → 0 < v.parts → 0 < w.parts
    → Kept n views → get_elem? views id ≡ some v → ¬ (other ≡ id) → get_elem? (set views id (both v w)) other ≡ some w
    → Kept n (set (set views id (both v w)) other spent)
pours_kept n views id v other w live also k at apart there =
    let was : get_elem? views other ≡ some w =
    ⊎_elim (λ (x : (other ≡ id) × (both v w ≡ w)). absurd (apart x.0)) (λ (x : (other ≢ id) × (get_elem? views other ≡ some w)). x.1)
    (at_set views id other (both v w) w there) in
    record {
      rights = λ j s. poured n views id v other w (λ u. times_right j s u.rights) (times_append j s v.rights w.rights) refl at there ∙ k.rights j s;
      tickets = poured n views id v other w (λ u. u.tickets) refl refl at there ∙ k.tickets;
      parts = poured n views id v other w (λ u. u.parts) refl refl at there ∙ k.parts;
      fits = λ seat u e.
          ⊎_elim
          (λ (x : (seat ≡ other) × (spent ≡ u)). subst (HoldsByNumber n) x.1 (record { idle = λ _. (refl, refl); number_is = λ some. absurd (omega arith) }))
          (λ (x : (seat ≢ other) × (get_elem? (set views id (both v w)) seat ≡ some u)). ⊎_elim
          (λ (y : (seat ≡ id) × (both v w ≡ u)). subst (HoldsByNumber n) y.1
          (record { idle = λ none. absurd (omega arith); number_is = λ _. (((k.fits id v at).number_is live).0, ((k.fits other w was).number_is also).0) }))
          (λ (y : (seat ≢ id) × (get_elem? views seat ≡ some u)). k.fits seat u y.1)
          (at_set views id seat (both v w) u x.1))
          (at_set (set views id (both v w)) other seat spent u e);
    }

-- a seat may take in the view of another one, where both have a part, and the rule is kept
pub pours : (n id : ℕ) (v : View) (other : ℕ) (w : View) → 0 < v.parts → 0 < w.parts
    → Joins (rule n) id v other w (both v w) spent
pours n id v other w live also s k at apart there = record { word = k.word; kept = pours_kept n s.views id v other w live also k.kept at apart there }

same_word : (ws : List ℕ) → slice_index (set ws 0 (slice_index ws 0)) 0 ≡ slice_index ws 0
same_word [] = refl
same_word (x ∷ xs) = refl

-- what the rule tells of a view
pub loaded : (n : ℕ) (views : List View) (id : ℕ) (v : View) → 0 < v.parts → Kept n views → get_elem? views id ≡ some v
    → IsLoaded n v
loaded n views id v live k at =
    let idle : (g : View → ℕ) → ((u : View) → (u.rights ≡ []) × (u.tickets ≡ 0) → g u ≡ 0) → v.parts ≡ n % 128 + 66 → total_of g views ≡ g v = λ g zero all.
    total_only g (λ u. u.parts) views id v at (λ seat u e none. zero u ((k.fits seat u e).idle none)) (all ∙ sym k.parts) in
    record {
      number_is = (k.fits id v at).number_is live;
      once_at_most = λ j s. let a = total_has (λ u. times_right j s u.rights) views id v at in let b = k.rights j s in omega arith;
      tickets = (let a = total_has (λ u. u.tickets) views id v at in let b = k.tickets in omega arith);
      all_rights = λ all j s. sym (idle (λ u. times_right j s u.rights) (λ u none. ap (times_right j s) none.0) all) ∙ k.rights j s;
      all_tickets = λ all. sym (idle (λ u. u.tickets) (λ u none. none.1) all) ∙ k.tickets;
    }

-- a seat with a part may load word 0, which leaves it as it is and tells it what the rule says of its view
pub looks : (n slots id : ℕ) (me : Me (Unit {0}) View) → 0 < me.0.parts
    → Allows (rule n) slots id me 0 (λ x. x) (λ found now. (now ≡ me) × IsLoaded found me.0)
looks n slots id me live s k homes at fits = (
  me.0,
  keeps,
  tt,
  record { word = same_word s.words ∙ k.word; kept = subst (Kept n) (sym (set_again s.views id me.0 at)) k.kept },
  (refl, subst (λ m. IsLoaded m me.0) (sym k.word) (loaded n s.views id me.0 live k.kept at)),
)

whole_once : (n j s : ℕ) → times_right j s (rights_for (job_numbers (job_count_of n)) (stripes_of n)) ≡ once n j s
unfolding once
whole_once n j s = all_once j s (job_count_of n) (stripes_of n)

-- the table with a number as its word and the whole as its one view keeps the rule
pub opens : (n : ℕ) → IsKept n (n ∷ []) (whole_view n ∷ [])
opens n = record {
  word = refl;
  kept = record {
    rights = λ j s. let a = whole_once n j s in omega arith;
    tickets = refl;
    parts = omega arith;
    fits = one;
  };
}
  where
    one : (seat : ℕ) (v : View) → get_elem? (whole_view n ∷ []) seat ≡ some v → HoldsByNumber n v
    one zero v e = subst (HoldsByNumber n) (some-injective _ _ e) (record { idle = λ none. absurd (omega arith); number_is = λ _. (refl, refl) })
    one (suc seat) v e = absurd (some-ne-none v (sym e))

-- what two views are, once they met
pub met_is : (n : ℕ) (v w : View) → IsLoaded n (both v w)
    → (v.number ≡ w.number)
    × (both v w ≡ seen (v.rights ++ w.rights) (v.tickets + w.tickets) (v.parts + w.parts) v.number)
    × IsLoaded v.number (both v w)
met_is n v w loaded =
    let numbers : v.number ≡ w.number = loaded.number_is.0 ∙ sym loaded.number_is.1 in (
      numbers,
      (λ i. record {
        rights = v.rights ++ w.rights;
        tickets = v.tickets + w.tickets;
        parts = v.parts + w.parts;
        number = v.number;
        met = sym numbers i;
      }),
      subst (λ m. IsLoaded m (both v w)) (sym loaded.number_is.0) loaded,
    )
