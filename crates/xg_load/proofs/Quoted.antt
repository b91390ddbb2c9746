-- Texts between quotation marks.
use Rattle.std.proofs.Common.{◌≡◌, ℕ, ◌+◌, ◌<◌, ◌≤◌, Bool, true, false, cond, List, [], ◌∷◌, ◌++◌, length, get_or, take, refl, sym, ap, ◌∙◌}
use Rattle.std.proofs.Common.{append_assoc}
use Rattle.std.specs.Prelude.{nat_eq}
use Rattle.std.proofs.lemmas.List.{take_all, take_more}
use Rattle.def_file_tokens.specs.Texts.{escaped}
use Rattle.def_program.specs.Text.{between_marks}

-- what is escaped piece by piece is escaped whole
pub escaped_append : (xs ys : List ℕ) → escaped (xs ++ ys) ≡ escaped xs ++ escaped ys
unfolding escaped
escaped_append [] ys = refl
escaped_append (x ∷ xs) ys = by_mark (nat_eq x 34) (escaped_append xs ys)
  where
    by_mark : (b : Bool) → escaped (xs ++ ys) ≡ escaped xs ++ escaped ys
        → cond b (92 ∷ x ∷ escaped (xs ++ ys)) (x ∷ escaped (xs ++ ys))
        ≡ cond b (92 ∷ x ∷ escaped xs) (x ∷ escaped xs) ++ escaped ys
    by_mark true rest = ap (λ zs. 92 ∷ x ∷ zs) rest
    by_mark false rest = ap (λ zs. x ∷ zs) rest

-- one byte more of a text is escaped
pub escaped_more : (text : List ℕ) (i : ℕ) (front items new : List ℕ) → i < length text
    → items ≡ front ++ 34 ∷ escaped (take i text) → new ≡ items ++ escaped (get_or text i 0 ∷ [])
    → new ≡ front ++ 34 ∷ escaped (take (i + 1) text)
escaped_more text i front items new there is more =
    let byte : List ℕ = get_or text i 0 ∷ [] in
    more ∙ ap (λ (xs : List ℕ). xs ++ escaped byte) is ∙ append_assoc front (34 ∷ escaped (take i text)) (escaped byte)
    ∙ ap (λ (xs : List ℕ). front ++ 34 ∷ xs)
    (sym (escaped_append (take i text) byte) ∙ ap escaped (sym (take_more text i 0 there)))

-- with the last mark the text is quoted
pub quoted_whole : (text : List ℕ) (i : ℕ) (front items new : List ℕ) → length text ≤ i
    → items ≡ front ++ 34 ∷ escaped (take i text) → new ≡ items ++ 34 ∷ [] → new ≡ front ++ between_marks text
quoted_whole text i front items new all is more =
    more ∙ ap (λ (xs : List ℕ). xs ++ 34 ∷ []) is ∙ append_assoc front (34 ∷ escaped (take i text)) (34 ∷ [])
    ∙ ap (λ (xs : List ℕ). front ++ 34 ∷ (escaped xs ++ 34 ∷ [])) (take_all i text all)
