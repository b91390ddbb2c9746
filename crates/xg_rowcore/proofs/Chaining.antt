-- Chains through the places of rows, linked from the last row to the first, and what is found along them.
use Rattle.std.proofs.Common.{◌≡◌, ◌≢◌, ℕ, zero, suc, ◌+◌, ◌-◌, ◌<◌, ◌≤◌, List, [], ◌∷◌, length, set, take}
use Rattle.std.proofs.Common.{refl, sym, ap, subst, ◌∙◌, arith, ⊎_elim, get_or-set_other, get_or-set_same}
use Rattle.std.specs.Prelude.{ℤ, slice_index}
use Rattle.std.proofs.lemmas.List.{length-map}
use Rattle.std.proofs.lemmas.Bool.{cases_eq}
use Rattle.def_sums.specs.Limits.{most_stripes}
use Rattle.def_history.specs.History.{stripe_of}
use Rattle.def_history.specs.Packets.{RowAmount}
use Rattle.xg_rowcore.specs.Packets.{entries_of_rows, entry_in}
use Rattle.xg_rowcore.specs.Stripes.{HasGrown}
use Rattle.xg_rowcore.specs.Chains.{AreChains, IsNextOf, KeepsChains, rows_of_entries}
use Rattle.xg_rowcore.proofs.Adding.{grown_by_other, grown_more}

-- with no chain
pub no_chains : (rows : List ℕ) (room : ℕ) (first next : List ℕ) → length first ≡ most_stripes → length next ≡ room
    → KeepsChains rows room 0 first next
no_chains rows room first next count places = record {
  first_count = count;
  next_count = places;
  few = omega arith;
  linked = λ some. absurd (omega arith);
}

-- behind the last row there is nothing to link
pub none_linked : (stripes : ℕ) (rows first next : List ℕ)
    → ((stripe : ℕ) → stripe < stripes → slice_index first stripe ≡ length rows)
    → AreChains (length rows) stripes rows first next
none_linked stripes rows first next ends = record {
  firsts = λ stripe below. subst (IsNextOf stripes stripe rows (length rows)) (sym (ends stripe below)) (record {
    after = omega arith;
    inside = omega arith;
    own = λ under. absurd (omega arith);
    others = λ i low high. absurd (omega arith);
  });
  nexts = λ i low high. absurd (omega arith);
}

-- a place is the next one of its own stripe
own_place : (stripes : ℕ) (rows : List ℕ) (i : ℕ) → i < length rows
    → IsNextOf stripes (stripe_of stripes (slice_index rows i)) rows i i
own_place stripes rows i below = record {
  after = omega arith;
  inside = omega arith;
  own = λ under. refl;
  others = λ j low high. absurd (omega arith);
}

above : (i j : ℕ) → i ≢ j → i ≤ j → i + 1 ≤ j
above i j apart low = grind arith

-- and is passed by the other stripes
past_place : (stripes stripe : ℕ) (rows : List ℕ) (i place : ℕ) → stripe_of stripes (slice_index rows i) ≢ stripe
    → IsNextOf stripes stripe rows (i + 1) place → IsNextOf stripes stripe rows i place
past_place stripes stripe rows i place apart behind = record {
  after = omega (arith, behind.after);
  inside = behind.inside;
  own = behind.own;
  others = λ j low high.
      ⊎_elim
      (λ here. λ is. apart (ap (λ k. stripe_of stripes (slice_index rows k)) here ∙ is))
      (λ there. let later : i + 1 ≤ j = above i j there low in behind.others j later high)
      (cases_eq i j);
}

-- one place more is linked
pub linked_more : (i stripe stripes : ℕ) (rows first next : List ℕ) → stripe ≡ stripe_of stripes (slice_index rows i)
    → i < length rows → i < length next → stripe < length first → stripe < stripes
    → AreChains (i + 1) stripes rows first next
    → AreChains i stripes rows (set first stripe i) (set next i (slice_index first stripe))
linked_more i stripe stripes rows first next stripe_is below there known few linked = record {
  firsts = λ other under.
      ⊎_elim
      (λ here.
      subst (λ k. IsNextOf stripes k rows i (slice_index (set first stripe i) k)) here
      (subst (IsNextOf stripes stripe rows i) (sym (get_or-set_same first stripe i 0 known))
      (subst (λ k. IsNextOf stripes k rows i i) (sym stripe_is) (own_place stripes rows i below))))
      (λ apart.
      subst (IsNextOf stripes other rows i) (sym (get_or-set_other first stripe other i 0 (λ e. apart (sym e))))
      (past_place stripes other rows i (slice_index first other) (λ is. apart (stripe_is ∙ is)) (linked.firsts other under)))
      (cases_eq stripe other);
  nexts = λ j low high.
      ⊎_elim
      (λ here.
      subst (λ k. IsNextOf stripes (stripe_of stripes (slice_index rows k)) rows (k + 1) (slice_index (set next i (slice_index first stripe)) k)) here
      (subst (IsNextOf stripes (stripe_of stripes (slice_index rows i)) rows (i + 1)) (sym (get_or-set_same next i (slice_index first stripe) 0 there))
      (subst (λ k. IsNextOf stripes k rows (i + 1) (slice_index first stripe)) stripe_is (linked.firsts stripe few))))
      (λ apart.
      let later : i + 1 ≤ j = above i j apart low in
      subst (IsNextOf stripes (stripe_of stripes (slice_index rows j)) rows (j + 1))
      (sym (get_or-set_other next i j (slice_index first stripe) 0 (λ e. apart (sym e))))
      (linked.nexts j later high))
      (cases_eq i j);
}

-- the rows of entries are those that they are made of
pub rows_of-entries_from : (rows : List ℕ) (amounts : List ℤ) → length rows ≡ length amounts
    → rows_of_entries (entries_of_rows rows amounts) ≡ rows
rows_of-entries_from [] amounts same = refl
rows_of-entries_from (row ∷ rows) [] same = absurd (omega arith)
rows_of-entries_from (row ∷ rows) (amount ∷ amounts) same = ap (λ rest. row ∷ rest) (rows_of-entries_from rows amounts (omega arith))

-- each entry has its row
pub row_of_entry : (entries : List RowAmount) (i : ℕ) → slice_index (rows_of_entries entries) i ≡ (entry_in entries i).row
row_of_entry [] i = refl
row_of_entry (entry ∷ entries) zero = refl
row_of_entry (entry ∷ entries) (suc i) = row_of_entry entries i

-- entries of other stripes leave the totals
past_others : (entries : List RowAmount) (index stripes from count : ℕ) (old new : List ℤ) → index < stripes
    → from + count ≤ length entries
    → ((i : ℕ) → from ≤ i → i < from + count → stripe_of stripes (slice_index (rows_of_entries entries) i) ≢ index)
    → HasGrown (take from entries) index stripes old new → HasGrown (take (from + count) entries) index stripes old new
past_others entries index stripes from zero old new is_stripe inside others grown =
    let same : from ≡ from + 0 = omega arith in
    subst (λ k. HasGrown (take k entries) index stripes old new) same grown
past_others entries index stripes from (suc count) old new is_stripe inside others grown =
    let place : ℕ = from + count in
    let e : place + 1 ≡ from + suc count = omega arith in
    let row : ℕ = (entry_in entries place).row in
    let apart : stripe_of stripes row ≢ index =
    λ is. others place (omega arith) (omega arith) (ap (stripe_of stripes) (row_of_entry entries place) ∙ is) in
    let before = past_others entries index stripes from count old new is_stripe (omega arith) (λ i low high. others i low (omega arith)) grown in
    subst (λ k. HasGrown (take k entries) index stripes old new) e
    (grown_more entries place index stripes old new new (omega arith) before
    (grown_by_other index stripes row (entry_in entries place).amount new is_stripe apart))

-- up to the next entry of the stripe
pub grown_to_next : (entries : List RowAmount) (index stripes from place : ℕ) (old new : List ℤ) → index < stripes
    → IsNextOf stripes index (rows_of_entries entries) from place
    → HasGrown (take from entries) index stripes old new → HasGrown (take place entries) index stripes old new
grown_to_next entries index stripes from place old new is_stripe found grown =
    let count = length-map entries (λ (entry : RowAmount). entry.row) in
    let e : from + (place - from) ≡ place = omega (arith, found.after) in
    subst (λ k. HasGrown (take k entries) index stripes old new) e
    (past_others entries index stripes from (place - from) old new is_stripe (omega (arith, e, found.inside, count))
    (λ i low high. found.others i low (omega (arith, e))) grown)

-- what is found is an entry of the stripe, or the end
pub found_inside : (entries : List RowAmount) (stripes stripe from place : ℕ)
    → IsNextOf stripes stripe (rows_of_entries entries) from place → place ≤ length entries
found_inside entries stripes stripe from place found = omega (arith, found.inside, length-map entries (λ (entry : RowAmount). entry.row))

-- what is found before the end is an entry whose row lies in the stripe
pub found_own : (entries : List RowAmount) (stripes stripe from place : ℕ)
    → IsNextOf stripes stripe (rows_of_entries entries) from place → place < length entries
    → stripe_of stripes (entry_in entries place).row ≡ stripe
found_own entries stripes stripe from place found below =
    sym (ap (stripe_of stripes) (row_of_entry entries place)) ∙ found.own (omega (arith, below, length-map entries (λ (entry : RowAmount). entry.row)))
