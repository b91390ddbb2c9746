-- The items of all files, gathered from the last file on.
use Rattle.std.proofs.Common.{◌≡◌, ◌⊎◌, inl, inr, ℕ, zero, suc, ◌+◌, ◌-◌, ◌%◌, ◌<◌, ◌≤◌, List, [], ◌∷◌, ◌++◌, length, reverse, Option, Some, refl, sym, ap, ◌∙◌}
use Rattle.std.proofs.Common.{subst, arith}
use Rattle.std.specs.Prelude.{slice_get, slice_index_or, slice_set, IsSomeAnd, All, false}
use Rattle.std.specs.List.{AllZip, range_with_len}
use Rattle.std.proofs.lemmas.Bool.{cases_eq}
use Rattle.std.proofs.lemmas.Grind.{get_or-set_at}
use Rattle.std.proofs.lemmas.List.{get_or-set_other, length-reverse, length-set, reverse-append}
use Rattle.std.proofs.lemmas.List.FromFn.{length-range_with_len}
use Rattle.std.proofs.lemmas.Nat.{mod_below}
use Rattle.def_command.specs.declared.Settings.{Settings}
use Rattle.xg_batch.specs.Items.{AreItemsOf, IsItemOf, batch_entry_seen}
use Rattle.xg_batch.specs.Shares.{AreItemsAt, HasItemsFrom, HaveShares, HaveSharesBelow, HoldsShare, IsItemAt}
use Rattle.xg_batch.proofs.ItemsInOrder.{holds_less, holds_same_less, holds_some}
use Rattle.xg_batch.specs.declared.entry.Entry.{Entry}
use Rattle.xg_batch.specs.declared.item.Item.{Item}
use Rattle.xg_batch.specs.declared.worker.Batch.{Batch}
use Rattle.xg_batch.specs.declared.worker.Worker.{Worker}

-- no item is gathered yet
pub none_gathered : (batch : Batch) (items : List Item) → items ≡ [] → HasItemsFrom batch (length batch.entries.now) items
none_gathered batch items none =
    let no_file : length batch.entries.now - length batch.entries.now ≡ 0 = omega arith in
    subst (λ count. AreItemsAt batch (range_with_len (length batch.entries.now) count) (reverse items)) (sym no_file)
    (subst (λ (them : List Item). AreItemsAt batch [] (reverse them)) (sym none) tt)

-- the item of the file before those is gathered
pub one_gathered : (batch : Batch) (file : ℕ) (old new : List Item) (item : Item) → file < length batch.entries.now
    → HasItemsFrom batch (file + 1) old → IsItemAt batch.settings batch.entries.now file item → new ≡ old ++ item ∷ []
    → HasItemsFrom batch file new
one_gathered batch file old new item there have is items =
    let count : length batch.entries.now - file ≡ suc (length batch.entries.now - (file + 1)) = omega (arith, there) in
    let order : reverse new ≡ item ∷ reverse old = ap reverse items ∙ reverse-append old (item ∷ []) in
    subst (λ n. AreItemsAt batch (range_with_len file n) (reverse new)) (sym count)
    (subst (AreItemsAt batch (range_with_len file (suc (length batch.entries.now - (file + 1))))) (sym order) (is, have))

-- as many are gathered as there are files
zip_length : {A B : Type 0} (R : A → B → Type 0) (xs : List A) (ys : List B) → AllZip R xs ys → length ys ≡ length xs
zip_length R [] [] are = refl
zip_length R [] (y ∷ ys) are = absurd are
zip_length R (x ∷ xs) [] are = absurd are
zip_length R (x ∷ xs) (y ∷ ys) are = ap suc (zip_length R xs ys are.1)

pub gathered_count : (batch : Batch) (first : ℕ) (items : List Item) → HasItemsFrom batch first items
    → length (reverse items) ≡ length batch.entries.now - first
gathered_count batch first items have =
    zip_length (IsItemAt batch.settings batch.entries.now)
    (range_with_len first (length batch.entries.now - first)) (reverse items) have
    ∙ length-range_with_len first (length batch.entries.now - first)

pub items_count : (settings : Settings) (entries : List Entry) (items : List Item) → AreItemsOf settings entries items
    → length items ≡ length entries
items_count settings entries items are = zip_length (λ entry item. IsItemOf settings (batch_entry_seen entry) item) entries items are

-- all items are gathered
all_of_rest : (settings : Settings) (entries rest : List Entry) (k : ℕ)
    → ((i : ℕ) → slice_get rest i ≡ slice_get entries (k + i)) → (items : List Item)
    → AllZip (IsItemAt settings entries) (range_with_len k (length rest)) items → AreItemsOf settings rest items
all_of_rest settings entries [] k at [] are = tt
all_of_rest settings entries [] k at (item ∷ items) are = absurd are
all_of_rest settings entries (entry ∷ rest) k at [] are = absurd are
all_of_rest settings entries (entry ∷ rest) k at (item ∷ items) are =
    let here : k + 0 ≡ k = omega arith in
    let first : slice_get entries k ≡ Some entry = sym (at zero ∙ ap (slice_get entries) here) in
    let behind : (i : ℕ) → slice_get rest i ≡ slice_get entries (k + 1 + i) =
    λ i. (let next : k + suc i ≡ k + 1 + i = omega arith in at (suc i) ∙ ap (slice_get entries) next) in (
      subst (λ (o : Option Entry). IsSomeAnd o (λ it. IsItemOf settings (batch_entry_seen it) item)) first are.0,
      all_of_rest settings entries rest (k + 1) behind items are.1,
    )

pub all_gathered : (batch : Batch) (old new : List Item) → HasItemsFrom batch 0 old → new ≡ reverse old
    → AreItemsOf batch.settings batch.entries.now new
all_gathered batch old new have items =
    let count : length batch.entries.now - 0 ≡ length batch.entries.now = omega arith in
    let at : (i : ℕ) → slice_get batch.entries.now i ≡ slice_get batch.entries.now (0 + i) =
    λ i. (let same : i ≡ 0 + i = omega arith in ap (slice_get batch.entries.now) same) in
    all_of_rest batch.settings batch.entries.now batch.entries.now 0 at new
    (subst (λ n. AreItemsAt batch (range_with_len 0 n) new) count
    (subst (AreItemsAt batch (range_with_len 0 (length batch.entries.now - 0))) (sym items) have))

-- no worker wants memory
pub shares_are_whole : (batch : Batch) (crew : List Worker) → HaveShares batch crew
    → All (λ (w : Worker). w.wants_memory ≡ false) crew → HaveSharesBelow batch (length batch.entries.now) crew
shares_are_whole batch crew shares done = λ number other below. shares number other below (done number other below)

-- there is room for one item more while a file is left
pub items_room : (batch : Batch) (file : ℕ) (items : List Item) → file < length batch.entries.now
    → HasItemsFrom batch (file + 1) items → length items < length batch.entries.now
items_room batch file items there have =
    omega (arith, there, gathered_count batch (file + 1) items have, length-reverse items)

-- ---- the last item of the worker that a file belongs to
module _ (batch : Batch) (file : ℕ) (crew : List Worker) (old : Worker) (some : 1 ≤ batch.workers)
    (count : length crew ≡ batch.workers) (shares : HaveSharesBelow batch (file + 1) crew)
    (is : old ≡ slice_index_or crew (file % batch.workers) old) where
  there : file % batch.workers < length crew
  there = omega (arith, mod_below file batch.workers some, count)

  held : HoldsShare batch (file % batch.workers) (file + 1) old.items.items
  held = subst (λ (w : Worker). HoldsShare batch (file % batch.workers) (file + 1) w.items.items) (sym is)
      (shares (file % batch.workers) old there)

  pub last_is_there : 0 < length old.items.items
  last_is_there = holds_some batch (file % batch.workers) file old.items.items refl held

  pub last_is_item : (new : Worker) (item : Item) → old.items.items ≡ new.items.items ++ item ∷ []
      → IsItemAt batch.settings batch.entries.now file item
  last_is_item new item items =
      (holds_less batch (file % batch.workers) file old.items.items new.items.items item refl held items).1

  pub shares_less : (new : Worker) (item : Item) → old.items.items ≡ new.items.items ++ item ∷ []
      → HaveSharesBelow batch file (slice_set crew (file % batch.workers) new)
  shares_less new item items = λ number other below. by_number number other
      (omega (arith, below, length-set crew (file % batch.workers) new)) (cases_eq number (file % batch.workers))
    where
      by_number : (number : ℕ) (other : Worker) → number < length crew
          → (number ≡ file % batch.workers) ⊎ (number ≡ file % batch.workers → ⊥)
          → HoldsShare batch number file (slice_index_or (slice_set crew (file % batch.workers) new) number other).items.items
      by_number number other below (inl same) =
          subst (λ (w : Worker). HoldsShare batch number file w.items.items)
          (sym (get_or-set_at crew (file % batch.workers) number new other same there))
          (subst (λ n. HoldsShare batch n file new.items.items) (sym same)
          (holds_less batch (file % batch.workers) file old.items.items new.items.items item refl held items).0)
      by_number number other below (inr not_same) =
          subst (λ (w : Worker). HoldsShare batch number file w.items.items)
          (sym (get_or-set_other crew (file % batch.workers) number new other not_same))
          (holds_same_less batch number file (slice_index_or crew number other).items.items (λ same. not_same (sym same))
          (shares number other below))
