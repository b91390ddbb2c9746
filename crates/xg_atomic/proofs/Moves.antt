-- The steps on a table keep its rule.
use Rattle.std.proofs.Common.{◌≡◌, ◌≢◌, ℕ, ◌+◌, ◌-◌, ◌%◌, ◌<◌, ◌≤◌, List, [], ◌∷◌, ◌++◌, All, ℤ, pos, unsigned_abs, slice_index, refl, ⊎_elim}
use mathlib.Core.Option.{some}
use lib.ListN.{get_elem?}
use Rattle.atomic_table.specs.Table.{State, keeps, Allows, Splits, Joins}
use Rattle.atomic_table.proofs.Lists.{at_set}
use Rattle.def_sums.specs.Limits.{most_workers}
use Rattle.def_words.specs.declared.view.View.{View}
use Rattle.def_words.specs.declared.view.View.TheVariants.{Owner, Worker, Spent}
use Rattle.def_words.specs.Amounts.{side_of, word_at, AreSmall, LastIsComplete}
use Rattle.def_words.specs.Rule.{AreWordsKept}
use Rattle.def_words.proofs.Moves.{claims_kept, adds_kept, splits_kept, joins_kept}

abbrev pub rule : ℕ → ℕ → (ℕ → ℕ → ℤ) → State (Unit {0}) View → Type 0
rule jobs rows amount s = AreWordsKept jobs rows amount s.words s.views

pub claims : (jobs rows : ℕ) (amount : ℕ → ℕ → ℤ) (slots id : ℕ) (numbers : List ℕ) (reached : ℕ)
    → AreSmall jobs rows amount → All (λ n. n < jobs) numbers → LastIsComplete jobs rows amount reached numbers
    → Allows (rule jobs rows amount) slots id (Worker numbers reached, []) 0 (λ x. (x + 1) % 18446744073709551616)
    (λ found now. now ≡ (Worker (found ∷ numbers) 0, []))
claims jobs rows amount slots id numbers reached small below complete s k homes at fits =
    (Worker (slice_index s.words 0 ∷ numbers) 0, keeps, tt, claims_kept jobs rows amount s.words s.views id numbers reached small below complete k at, refl)

pub adds : (jobs rows : ℕ) (amount : ℕ → ℕ → ℤ) (slots id : ℕ) (job : ℕ) (earlier : List ℕ) (reached row : ℕ)
    → AreSmall jobs rows amount → row < rows → job < jobs → reached ≤ row → ((r : ℕ) → reached ≤ r → r < row → amount job r ≡ pos 0)
    → Allows (rule jobs rows amount) slots id (Worker (job ∷ earlier) reached, []) (word_at (side_of (amount job row)) row)
    (λ x. (x + unsigned_abs (amount job row)) % 18446744073709551616) (λ found now. now ≡ (Worker (job ∷ earlier) (row + 1), []))
adds jobs rows amount slots id job earlier reached row small below is_job after between s k homes at fits = (
  Worker (job ∷ earlier) (row + 1),
  keeps,
  tt,
  adds_kept jobs rows amount s.words s.views id job earlier reached row small below is_job after between k at,
  refl,
)

pub splits : (jobs rows : ℕ) (amount : ℕ → ℕ → ℤ) (id : ℕ) (numbers : List ℕ) (made unjoined : ℕ) → made < most_workers
    → Splits (rule jobs rows amount) id (Owner numbers made unjoined) (Owner numbers (made + 1) (unjoined + 1)) (Worker [] 0)
splits jobs rows amount id numbers made unjoined few s k at = splits_kept jobs rows amount s.words s.views id numbers made unjoined few k at

pub joins : (jobs rows : ℕ) (amount : ℕ → ℕ → ℤ) (id : ℕ) (numbers : List ℕ) (made unjoined : ℕ) (other : ℕ) (ns : List ℕ) (reached : ℕ)
    → LastIsComplete jobs rows amount reached ns
    → Joins (rule jobs rows amount) id (Owner numbers made unjoined) other (Worker ns reached) (Owner (ns ++ numbers) made (unjoined - 1)) Spent
joins jobs rows amount id numbers made unjoined other ns reached complete s k at apart there =
    let b : View = Owner (ns ++ numbers) made (unjoined - 1) in
    let w : View = Worker ns reached in
    let was : get_elem? s.views other ≡ some w =
    ⊎_elim (λ (x : (other ≡ id) × (b ≡ w)). absurd (apart x.0)) (λ (x : (other ≢ id) × (get_elem? s.views other ≡ some w)). x.1)
    (at_set s.views id other b w there) in
    joins_kept jobs rows amount s.words s.views id numbers made unjoined other ns reached complete k at was
