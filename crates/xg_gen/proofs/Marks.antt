-- The quotation marks of a text, one after another.
use Rattle.std.proofs.Common.{◌≡◌, ℕ, zero, suc, ◌+◌, ◌<◌, List, [], ◌∷◌, ◌++◌, length, take, drop, get_or, refl, sym, ap, ◌∙◌, arith, append_assoc}
use Rattle.std.proofs.lemmas.Bool.{false_from_ne_true, eqb-true}
use Rattle.memchr.specs.Find.{Nowhere, NoneBefore, Passes, is_byte}
use Rattle.def_file_tokens.specs.Texts.{escaped}
use Rattle.xg_lex.proofs.Closing.{NoMarkBelow}

escaped_none : (bs : List ℕ) → NoMarkBelow bs (length bs) → escaped bs ≡ bs
unfolding escaped
escaped_none [] none = refl
escaped_none (b ∷ bs) none =
    rw (none 0 (omega arith)) (ap (λ l. b ∷ l) (escaped_none bs (λ j below. none (suc j) (omega arith))))

escaped_first : (k : ℕ) (bs : List ℕ) → k < length bs → NoMarkBelow bs k → get_or bs k 0 ≡ 34
    → escaped bs ≡ take k bs ++ 92 ∷ 34 ∷ escaped (drop (suc k) bs)
unfolding escaped
escaped_first k [] within none mark = absurd (omega arith)
escaped_first zero (b ∷ bs) within none mark = ap (λ x. escaped (x ∷ bs)) mark
escaped_first (suc k) (b ∷ bs) within none mark =
    rw (none 0 (omega arith)) (ap (λ l. b ∷ l) (escaped_first k bs (omega arith) (λ j below. none (suc j) (omega arith)) mark))

-- up to the first mark, and that mark behind a backslash
pub to_first_mark : (k : ℕ) (bs : List ℕ) → NoneBefore (Passes (is_byte 34) bs) 0 (length bs) k
    → Passes (is_byte 34) bs k
    → escaped bs ≡ (take k bs ++ 92 ∷ 34 ∷ []) ++ escaped (drop (k + 1) bs)
to_first_mark k bs first mark =
    let next : suc k ≡ k + 1 = omega arith in
    escaped_first k bs first.high (λ j below. false_from_ne_true _ (λ passes. first.before j (omega arith) below passes)) (eqb-true _ 34 mark)
    ∙ ap (λ n. take k bs ++ 92 ∷ 34 ∷ escaped (drop n bs)) next
    ∙ sym (append_assoc (take k bs) (92 ∷ 34 ∷ []) (escaped (drop (k + 1) bs)))

-- without a mark all bytes stay
pub no_mark : (bs : List ℕ) → Nowhere (Passes (is_byte 34) bs) 0 (length bs) → escaped bs ≡ bs
no_mark bs none = escaped_none bs (λ j below. false_from_ne_true _ (λ passes. none j (omega arith) below passes))
