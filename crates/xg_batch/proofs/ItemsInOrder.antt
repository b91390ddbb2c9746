-- The items that a worker adds at the end and gives back from the end, and their order.
use Rattle.std.proofs.Common.{◌≡◌, ◌≢◌, ℕ, suc, ◌+◌, ◌%◌, ◌<◌, Bool, true, false, List, [], ◌∷◌, ◌++◌, length, sym, ap, ◌∙◌, subst, arith}
use Rattle.std.specs.Prelude.{◌==◌, if◌then◌else◌, nat_eq}
use Rattle.std.specs.List.{AllZip}
use Rattle.std.proofs.lemmas.Bool.{eq-eqb, ne_eqb}
use Rattle.xg_batch.specs.Shares.{AreItemsAt, HoldsShare, IsItemAt, share}
use Rattle.xg_batch.specs.declared.item.Item.{Item}
use Rattle.xg_batch.specs.declared.worker.Batch.{Batch}

module _ {A B : Type 0} (R : A → B → Type 0) where
  -- what is put last
  zip_push : (xs : List A) (ys : List B) (x : A) (y : B) → AllZip R xs ys → R x y → AllZip R (xs ++ x ∷ []) (ys ++ y ∷ [])
  zip_push [] [] x y are is = (is, tt)
  zip_push [] (b ∷ ys) x y are is = absurd are
  zip_push (a ∷ xs) [] x y are is = absurd are
  zip_push (a ∷ xs) (b ∷ ys) x y are is = (are.0, zip_push xs ys x y are.1 is)

  -- and what is taken from there
  zip_last : (xs : List A) (ys : List B) (x : A) (y : B) → AllZip R (xs ++ x ∷ []) (ys ++ y ∷ []) → AllZip R xs ys × R x y
  zip_last [] [] x y are = (tt, are.0)
  zip_last [] (b ∷ []) x y are = absurd are.1
  zip_last [] (b ∷ c ∷ ys) x y are = absurd are.1
  zip_last (a ∷ []) [] x y are = absurd are.1
  zip_last (a ∷ c ∷ xs) [] x y are = absurd are.1
  zip_last (a ∷ xs) (b ∷ ys) x y are =
      let rest = zip_last xs ys x y are.1 in
      ((are.0, rest.0), rest.1)

  zip_some : (xs : List A) (ys : List B) (x : A) → AllZip R (xs ++ x ∷ []) ys → 0 < length ys
  zip_some [] [] x are = absurd are
  zip_some (a ∷ xs) [] x are = absurd are
  zip_some [] (b ∷ ys) x are = omega arith
  zip_some (a ∷ xs) (b ∷ ys) x are = omega arith

-- ---- shares
share_more : (workers number file : ℕ) (b : Bool) → (file % workers == number) ≡ b
    → share workers number (file + 1) ≡ (if b then share workers number file ++ file ∷ [] else share workers number file)
share_more workers number file b is =
    let next : file + 1 ≡ suc file = omega arith in
    ap (share workers number) next
    ∙ ap (λ (mine : Bool). if mine then share workers number file ++ file ∷ [] else share workers number file) is

pub share_with : (workers number file : ℕ) → file % workers ≡ number
    → share workers number (file + 1) ≡ share workers number file ++ file ∷ []
share_with workers number file mine = share_more workers number file true (eq-eqb (file % workers) number mine)

pub share_without : (workers number file : ℕ) → file % workers ≢ number
    → share workers number (file + 1) ≡ share workers number file
share_without workers number file other = share_more workers number file false (ne_eqb (file % workers) number other)

module _ (batch : Batch) (number file : ℕ) where
  -- the item of a file of this worker is put last
  pub holds_more : (old new : List Item) (item : Item) → file % batch.workers ≡ number → HoldsShare batch number file old
      → IsItemAt batch.settings batch.entries.now file item → new ≡ old ++ item ∷ []
      → HoldsShare batch number (file + 1) new
  holds_more old new item mine holds is items =
      subst (λ files. AreItemsAt batch files new) (sym (share_with batch.workers number file mine))
      (subst (AreItemsAt batch (share batch.workers number file ++ file ∷ [])) (sym items)
      (zip_push (IsItemAt batch.settings batch.entries.now) (share batch.workers number file) old file item holds is))

  -- and is the last one
  pub holds_less : (old new : List Item) (item : Item) → file % batch.workers ≡ number
      → HoldsShare batch number (file + 1) old → old ≡ new ++ item ∷ []
      → HoldsShare batch number file new × IsItemAt batch.settings batch.entries.now file item
  holds_less old new item mine holds items =
      zip_last (IsItemAt batch.settings batch.entries.now) (share batch.workers number file) new file item
      (subst (AreItemsAt batch (share batch.workers number file ++ file ∷ [])) items
      (subst (λ files. AreItemsAt batch files old) (share_with batch.workers number file mine) holds))

  pub holds_some : (old : List Item) → file % batch.workers ≡ number → HoldsShare batch number (file + 1) old
      → 0 < length old
  holds_some old mine holds =
      zip_some (IsItemAt batch.settings batch.entries.now) (share batch.workers number file) old file
      (subst (λ files. AreItemsAt batch files old) (share_with batch.workers number file mine) holds)

  -- other files are nothing to this worker
  pub holds_same : (items : List Item) → file % batch.workers ≢ number → HoldsShare batch number file items
      → HoldsShare batch number (file + 1) items
  holds_same items other holds =
      subst (λ files. AreItemsAt batch files items) (sym (share_without batch.workers number file other)) holds

  pub holds_same_less : (items : List Item) → file % batch.workers ≢ number → HoldsShare batch number (file + 1) items
      → HoldsShare batch number file items
  holds_same_less items other holds =
      subst (λ files. AreItemsAt batch files items) (share_without batch.workers number file other) holds

  pub holds_same_by_test : (items : List Item) → nat_eq (file % batch.workers) number ≡ false
      → HoldsShare batch number file items → HoldsShare batch number (file + 1) items
  holds_same_by_test items other holds =
      subst (λ files. AreItemsAt batch files items) (sym (share_more batch.workers number file false other)) holds
