-- The numbers of the sets at which the sequences end.
use Rattle.std.proofs.Common.{◌≡◌, ℕ, suc, ◌+◌, ◌-◌, ◌<◌, ◌≤◌, List, [], ◌∷◌, ◌++◌, length, get_or, take, map, replicate, refl, ap, sym, subst, ◌∙◌, arith}
use Rattle.std.proofs.Common.{append-nil, append_assoc, length-append, length-take-le, inl, inr}
use Rattle.std.proofs.lemmas.Bool.{cases_lt}
use Rattle.std.proofs.lemmas.List.{get_or-append_right, get_or-replicate, get_or_append_left, length-replicate, replicate-append-replicate, take_more}
use Rattle.def_plan.specs.Form.{InformationSet, PlacedSet, placed_from, sequence_count}
use Rattle.def_plan.proofs.Places.{total_actions}
use Rattle.xg_seq.specs.declared.table.SetPlace.{SetPlace}
use Rattle.xg_seq.specs.Table.{EndsAt, KeepsSets, set_numbers_from, set_of_row}

length-set_numbers_from : (k : ℕ) (rows : List SetPlace)
    → length (set_numbers_from k rows) ≡ total_actions (map set_of_row rows)
length-set_numbers_from k [] = refl
length-set_numbers_from k (row ∷ rows) = omega (
  arith,
  length-append (replicate row.actions k) (set_numbers_from (k + 1) rows),
  length-replicate row.actions k,
  length-set_numbers_from (k + 1) rows,
)

-- a number is kept for each sequence but the empty one
pub numbers_for_all : (rows : List SetPlace) (numbers : List ℕ) → KeepsSets rows numbers
    → length numbers + 1 ≡ sequence_count (map set_of_row rows)
numbers_for_all rows numbers keeps = omega (arith, ap length keeps.numbers, length-set_numbers_from 1 rows)

-- of sets whose first has the number k, and whose sequences are counted from `first` on,
-- sequence s ends at the set of this number
record EndsAmong (k first : ℕ) (sets : List InformationSet) (s number : ℕ) : Type 0 where
  place : ℕ
  is : number ≡ k + place
  there : place < length sets
  from : (d : PlacedSet) → (get_or (placed_from first sets) place d).first ≤ first + s
  end : (d : PlacedSet)
      → first + s < (get_or (placed_from first sets) place d).first + (get_or (placed_from first sets) place d).actions

ends_among : (k first : ℕ) (rows : List SetPlace) (s : ℕ) → s < length (set_numbers_from k rows)
    → EndsAmong k first (map set_of_row rows) s (get_or (set_numbers_from k rows) s 0)
ends_among k first [] s there = absurd (omega arith)
ends_among k first (row ∷ rows) s there =
    let own : List ℕ = replicate row.actions k in
    let later : List ℕ = set_numbers_from (k + 1) rows in
    let long : length own ≡ row.actions = length-replicate row.actions k in
    elim (cases_lt s row.actions) [
      | inl here ↦
          let is_k : get_or (own ++ later) s 0 ≡ k = get_or_append_left own later 0 s (omega arith) ∙ get_or-replicate row.actions s k 0 here in
          record { place = 0; is = omega arith; there = omega arith; from = λ d. omega arith; end = λ d. omega arith }
      | inr behind ↦
          let at_rest : get_or (own ++ later) s 0 ≡ get_or later (s - row.actions) 0 = get_or-append_right own later row.actions s 0 long behind in
          let rest = ends_among (k + 1) (first + row.actions) rows (s - row.actions) (omega (arith, length-append own later)) in
          record {
            place = suc rest.place;
            is = omega (arith, at_rest, rest.is);
            there = omega (arith, rest.there);
            from = λ d. omega (arith, rest.from d);
            end = λ d. omega (arith, rest.end d);
          }
    ]

-- a sequence ends at the set of its number
pub ends_at : (rows : List SetPlace) (numbers : List ℕ) → KeepsSets rows numbers → (sequence number : ℕ) → 1 ≤ sequence
    → sequence < sequence_count (map set_of_row rows) → number ≡ get_or numbers (sequence - 1) 0
    → EndsAt (map set_of_row rows) sequence number
ends_at rows numbers keeps sequence number some there read =
    let found = ends_among 1 1 rows (sequence - 1) (omega (arith, length-set_numbers_from 1 rows)) in
    let is : number ≡ get_or (set_numbers_from 1 rows) (sequence - 1) 0 = read ∙ ap (λ ns. get_or ns (sequence - 1) 0) keeps.numbers in
    let place : number - 1 ≡ found.place = omega (arith, found.is) in
    record {
      from_one = omega (arith, found.is);
      there = omega (arith, found.is, found.there);
      first = λ d. subst (λ n. (get_or (placed_from 1 (map set_of_row rows)) n d).first ≤ sequence) (sym place) (omega (arith, found.from d));
      end = λ d. subst (λ n. sequence < (get_or (placed_from 1 (map set_of_row rows)) n d).first + (get_or (placed_from 1 (map set_of_row rows)) n d).actions)
          (sym place) (omega (arith, found.end d));
    }

numbers-append : (k : ℕ) (rows : List SetPlace) (row : SetPlace)
    → set_numbers_from k (rows ++ row ∷ []) ≡ set_numbers_from k rows ++ replicate row.actions (k + length rows)
numbers-append k [] row =
    let here : k ≡ k + 0 = omega arith in append-nil (replicate row.actions k) ∙ ap (replicate row.actions) here
numbers-append k (r ∷ rows) row =
    let there : k + 1 + length rows ≡ k + suc (length rows) = omega arith in
    ap (λ ns. replicate r.actions k ++ ns) (numbers-append (k + 1) rows row ∙ ap (λ n. set_numbers_from (k + 1) rows ++ replicate row.actions n) there)
    ∙ sym (append_assoc (replicate r.actions k) (set_numbers_from (k + 1) rows) (replicate row.actions (k + suc (length rows))))

-- the numbers of the first i rows' sequences, and of one more row's
pub numbers_more : (rows : List SetPlace) (i : ℕ) (d : SetPlace) → i < length rows
    → set_numbers_from 1 (take (i + 1) rows)
    ≡ set_numbers_from 1 (take i rows) ++ replicate (get_or rows i d).actions (i + 1)
numbers_more rows i d there =
    let long : 1 + length (take i rows) ≡ i + 1 = omega (arith, length-take-le i rows (omega arith)) in
    ap (set_numbers_from 1) (take_more rows i d there) ∙ numbers-append 1 (take i rows) (get_or rows i d)
    ∙ ap (λ n. set_numbers_from 1 (take i rows) ++ replicate (get_or rows i d).actions n) long

-- one more sequence of the set i
pub one_more : (ns : List ℕ) (j n : ℕ) → (ns ++ replicate j n) ++ n ∷ [] ≡ ns ++ replicate (j + 1) n
one_more ns j n = append_assoc ns (replicate j n) (n ∷ []) ∙ ap (λ ms. ns ++ ms) (replicate-append-replicate j 1 n)
