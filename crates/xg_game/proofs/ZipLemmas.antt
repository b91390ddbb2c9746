-- Numbers beside what is known of them.
use Rattle.std.proofs.Common.{◌≡◌, ℕ, zero, suc, List, [], ◌∷◌, ◌++◌, length, get_or, set, slice_get, Option, Some, refl, ap, ◌∙◌, arith}
use Rattle.std.specs.List.{zip}
use Rattle.std.proofs.lemmas.Slice.Zip.{length-zip}
use Rattle.def_file.specs.Adding.{kept_name}
use Rattle.xg_game.specs.declared.table.Described.{Described}

module _ {D : Type 0} where
  -- as many as there are numbers
  pub zip-length : (ns : List ℕ) (ks : List D) → length ks ≡ length ns → length (zip ns ks) ≡ length ns
  zip-length ns ks long = omega (arith, length-zip ns ks)

  pub zip-push : (ns : List ℕ) (ks : List D) (n : ℕ) (k : D) → length ks ≡ length ns
      → zip (ns ++ n ∷ []) (ks ++ k ∷ []) ≡ zip ns ks ++ (n, k) ∷ []
  zip-push [] [] n k long = refl
  zip-push [] (x ∷ ks) n k long = absurd (omega arith)
  zip-push (m ∷ ns) [] n k long = absurd (omega arith)
  zip-push (m ∷ ns) (x ∷ ks) n k long = ap (λ rest. (m, x) ∷ rest) (zip-push ns ks n k (omega arith))

  -- a write beside a number
  pub zip-set : (ns : List ℕ) (ks : List D) (i : ℕ) (e : ℕ × D) (k : D) → slice_get (zip ns ks) i ≡ Some e
      → zip ns (set ks i k) ≡ set (zip ns ks) i (e.0, k)
  zip-set [] ks i e k at = cc
  zip-set (n ∷ ns) [] i e k at = cc
  zip-set (n ∷ ns) (x ∷ ks) zero e k at =
      let same : ◌≡◌ {A = ℕ × D} (n, x) e = cc in
      ap (λ (p : ℕ × D). (p.0, k) ∷ zip ns ks) same
  zip-set (n ∷ ns) (x ∷ ks) (suc i) e k at = ap (λ rest. (n, x) ∷ rest) (zip-set ns ks i e k at)

  pub zip-get : (ns : List ℕ) (ks : List D) (i : ℕ) (e : ℕ × D) (d : D) → slice_get (zip ns ks) i ≡ Some e
      → get_or ks i d ≡ e.1
  zip-get [] ks i e d at = cc
  zip-get (n ∷ ns) [] i e d at = cc
  zip-get (n ∷ ns) (x ∷ ks) zero e d at =
      let same : ◌≡◌ {A = ℕ × D} (n, x) e = cc in
      ap (λ (p : ℕ × D). p.1) same
  zip-get (n ∷ ns) (x ∷ ks) (suc i) e d at = zip-get ns ks i e d at

  -- a number with what is known of it, put last
  pub pushed : (ns new : List ℕ) (ks same all : List D) (es : List (ℕ × D)) (n : ℕ) (k : D) → length ks ≡ length ns
      → new ≡ ns ++ n ∷ [] → same ≡ ks → all ≡ same ++ k ∷ [] → zip ns ks ≡ es → zip new all ≡ es ++ (n, k) ∷ []
  pushed ns new ks same all es n k long numbers kept put seen =
      ap (λ (xs : List ℕ). zip xs all) numbers ∙ ap (zip (ns ++ n ∷ [])) (put ∙ ap (λ (xs : List D). xs ++ k ∷ []) kept)
      ∙ zip-push ns ks n k long ∙ ap (λ (xs : List (ℕ × D)). xs ++ (n, k) ∷ []) seen

-- a name that is given at a place
pub named : {D : Type 0} (ns : List ℕ) (ks : List (Described D)) (es : List (ℕ × Described D)) (i : ℕ)
    (e : ℕ × Described D) (kept : Described D) (given new : Option (List ℕ))
    → zip ns ks ≡ es → kept ≡ get_or ks i kept
    → new ≡ kept_name kept.name given → slice_get es i ≡ Some e
    → zip ns (set ks i (record { name = new; value = kept.value }))
    ≡ set es i (e.0, record { name = kept_name e.1.name given; value = e.1.value })
named {D} ns ks es i e kept given new seen is first at =
    let here : slice_get (zip ns ks) i ≡ Some e = ap (λ (xs : List (ℕ × Described D)). slice_get xs i) seen ∙ at in
    let same : kept ≡ e.1 = is ∙ zip-get ns ks i e kept here in
    zip-set ns ks i e (record { name = new; value = kept.value }) here
    ∙ ap (λ (xs : List (ℕ × Described D)). set xs i (e.0, record { name = new; value = kept.value })) seen
    ∙ ap (λ (name : Option (List ℕ)). set es i (e.0, record { name = name; value = kept.value })) first
    ∙ ap (λ (k : Described D). set es i (e.0, record { name = kept_name k.name given; value = k.value })) same
