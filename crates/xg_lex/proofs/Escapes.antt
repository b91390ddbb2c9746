-- The bytes that an inside stands for, one quotation mark after another.
use Rattle.std.proofs.Common.{◌≡◌, ℕ, zero, suc, ◌+◌, ◌-◌, ◌<◌, ◌≤◌, false, eqb, List, [], ◌∷◌, ◌++◌, length, take, drop, get_or, sym, refl, ap, ◌∙◌, subst}
use Rattle.std.proofs.Common.{arith, append_assoc, length-drop}
use Rattle.std.proofs.lemmas.List.{drop-drop}
use Rattle.std.proofs.lemmas.Bool.{false_from_ne_true, eqb-true}
use Rattle.std.proofs.Common.{⊎_elim}
use Rattle.std.proofs.Math.Bool.{and-false}
use Rattle.std.proofs.str.Laws.{order}
use Rattle.memchr.specs.Find.{Nowhere, NoneBefore, Passes, is_byte}
use Rattle.def_file_tokens.specs.Texts.{MarksEscaped, IsInside, unescaped, begins_with_mark}
use Rattle.def_file_tokens.proofs.TextLemmas.{unescaped-goes}
use Rattle.xg_lex.proofs.Closing.{NoMarkBelow}

-- a mark has a backslash right before it
MarksEscaped-at : (k before : ℕ) (bs : List ℕ) → k < length bs → MarksEscaped before bs → get_or bs k 0 ≡ 34
    → get_or (before ∷ bs) k 0 ≡ 92
MarksEscaped-at zero before [] within all mark = absurd (omega arith)
MarksEscaped-at zero before (b ∷ bs) within all mark = all.0 mark
MarksEscaped-at (suc k) before [] within all mark = absurd (omega arith)
MarksEscaped-at (suc k) before (b ∷ bs) within all mark = MarksEscaped-at k b bs (omega arith) all.1 mark

-- and so have those behind a byte
MarksEscaped-drop : (k before : ℕ) (bs : List ℕ) → k < length bs → MarksEscaped before bs
    → MarksEscaped (get_or bs k 0) (drop (suc k) bs)
MarksEscaped-drop zero before [] within all = absurd (omega arith)
MarksEscaped-drop zero before (b ∷ bs) within all = all.1
MarksEscaped-drop (suc k) before [] within all = absurd (omega arith)
MarksEscaped-drop (suc k) before (b ∷ bs) within all = MarksEscaped-drop k b bs (omega arith) all.1

-- a byte that no mark follows stays
unescaped-cons : (b : ℕ) (bs : List ℕ) → begins_with_mark bs ≡ false → unescaped (b ∷ bs) ≡ b ∷ unescaped bs
unfolding unescaped
unescaped-cons b bs plain = rw (plain, and-false) refl

no_mark_first : (bs : List ℕ) → (0 < length bs → eqb (get_or bs 0 0) 34 ≡ false) → begins_with_mark bs ≡ false
no_mark_first [] none = refl
no_mark_first (b ∷ bs) none = none (omega arith)

-- without marks all stays
unescaped-none : (bs : List ℕ) → NoMarkBelow bs (length bs) → unescaped bs ≡ bs
unfolding unescaped
unescaped-none [] none = refl
unescaped-none (b ∷ bs) none =
    unescaped-cons b bs (no_mark_first bs (λ some. none 1 (omega arith)))
    ∙ ap (λ l. b ∷ l) (unescaped-none bs (λ j below. none (suc j) (omega arith)))

-- and of no bytes none
pub unescaped-empty : (bs : List ℕ) → length bs ≡ 0 → [] ≡ unescaped bs
unfolding unescaped
unescaped-empty [] empty = refl
unescaped-empty (b ∷ bs) empty = absurd (omega arith)

-- of no bytes all stay
pub unescaped-stays : (bs : List ℕ) → length bs ≡ 0 → unescaped bs ≡ bs
unfolding unescaped
unescaped-stays [] empty = refl
unescaped-stays (b ∷ bs) empty = absurd (omega arith)

-- up to a first mark all stays but the backslash before it
unescaped-first : (k : ℕ) (bs : List ℕ) → suc k < length bs → NoMarkBelow bs (suc k) → get_or bs (suc k) 0 ≡ 34
    → get_or bs k 0 ≡ 92 → unescaped bs ≡ take k bs ++ 34 ∷ unescaped (drop (suc (suc k)) bs)
unescaped-first k [] within none mark backslash = absurd (omega arith)
unescaped-first zero (b ∷ []) within none mark backslash = absurd (omega arith)
unescaped-first zero (b ∷ c ∷ bs) within none mark backslash =
    ap (λ x. unescaped (x ∷ c ∷ bs)) backslash ∙ ap (λ x. unescaped (92 ∷ x ∷ bs)) mark ∙ unescaped-goes bs
unescaped-first (suc k) (b ∷ bs) within none mark backslash =
    unescaped-cons b bs (no_mark_first bs (λ some. none 1 (omega arith)))
    ∙ ap (λ l. b ∷ l) (unescaped-first k bs (omega arith) (λ j below. none (suc j) (omega arith)) mark backslash)

-- in an inside a first mark has its backslash
module _ (k : ℕ) (bs : List ℕ) (within : k < length bs) (all : MarksEscaped 34 bs) (mark : get_or bs k 0 ≡ 34) where
  begun : 0 < k
  begun = ⊎_elim (λ positive. positive) (λ none. let zero_k : k ≡ 0 = omega arith in let clash : 34 ≡ 92 = ap (λ n. get_or (34 ∷ bs) n 0) (sym zero_k)
      ∙ MarksEscaped-at k 34 bs within all mark in absurd (omega arith)) (order 0 k)

  first_escape : NoMarkBelow bs k → unescaped bs ≡ take (k - 1) bs ++ 34 ∷ unescaped (drop (k + 1) bs)
  first_escape none =
      let positive = begun in
      let same : suc (k - 1) ≡ k = omega arith in
      let next : suc (suc (k - 1)) ≡ k + 1 = omega arith in
      unescaped-first (k - 1) bs (omega arith) (λ j below. none j (omega arith)) (ap (λ n. get_or bs n 0) same ∙ mark)
      (ap (λ n. get_or (34 ∷ bs) n 0) same ∙ MarksEscaped-at k 34 bs within all mark)
      ∙ ap (λ n. take (k - 1) bs ++ 34 ∷ unescaped (drop n bs)) next

  behind : MarksEscaped 34 (drop (k + 1) bs)
  behind =
      let next : suc k ≡ k + 1 = omega arith in
      subst (λ n. MarksEscaped 34 (drop n bs)) next (subst (λ b. MarksEscaped b (drop (suc k) bs)) mark (MarksEscaped-drop k 34 bs within all))

-- where the copying stands: with what is left it gives what all bytes stand for
pub record IsCopiedSoFar (raw : List ℕ) (at : ℕ) (bytes : List ℕ) : Type 0 where
  pub within : at ≤ length raw
  pub escaped : MarksEscaped 34 (drop at raw)
  pub same : bytes ++ unescaped (drop at raw) ≡ unescaped raw

-- before the first byte of an inside nothing is copied, and all of it is left
pub StandsFor-start : (raw : List ℕ) → IsInside raw → IsCopiedSoFar raw 0 []
StandsFor-start raw inside = record { within = omega arith; escaped = inside.escaped; same = refl }

-- a first mark that memchr found, k bytes behind `at`
module _ (raw : List ℕ) (at k : ℕ) (bytes hay : List ℕ) (is_rest : hay ≡ drop at raw) (on : IsCopiedSoFar raw at bytes)
    (first : NoneBefore (Passes (is_byte 34) hay) 0 (length hay) k) (mark : Passes (is_byte 34) hay k) where
  in_rest : k < length (drop at raw)
  in_rest = omega (arith, first.high, ap length is_rest)

  no_mark : NoMarkBelow (drop at raw) k
  no_mark j below = false_from_ne_true _ (λ passes. first.before j (omega arith) below (ap (λ l. eqb (get_or l j 0) 34) is_rest ∙ passes))

  mark_at : get_or (drop at raw) k 0 ≡ 34
  mark_at = eqb-true _ 34 (ap (λ l. eqb (get_or l k 0) 34) (sym is_rest) ∙ mark)

  pub mark_follows : 0 < k
  mark_follows = begun k (drop at raw) in_rest on.escaped mark_at

  pub mark_within : at + k < length raw
  mark_within = omega (arith, in_rest, length-drop at raw, on.within)

  -- with all up to the found mark copied, but for the backslash right before it, what is left begins behind the mark
  pub StandsFor-next : IsCopiedSoFar raw (at + k + 1) (bytes ++ take (at + k - 1 - at) (drop at raw) ++ 34 ∷ [])
  StandsFor-next =
      let positive = mark_follows in
      let here = mark_within in
      let rest = drop at raw in
      let taken : at + k - 1 - at ≡ k - 1 = omega arith in
      let place : at + (k + 1) ≡ at + k + 1 = omega arith in
      let left : drop (k + 1) rest ≡ drop (at + k + 1) raw = drop-drop (k + 1) at raw ∙ ap (λ n. drop n raw) place in
      record {
        within = omega arith;
        escaped = subst (MarksEscaped 34) left (behind k rest in_rest on.escaped mark_at);
        same =
            append_assoc (bytes ++ take (at + k - 1 - at) rest) (34 ∷ []) (unescaped (drop (at + k + 1) raw))
            ∙ append_assoc bytes (take (at + k - 1 - at) rest) (34 ∷ unescaped (drop (at + k + 1) raw))
            ∙ ap (λ n. bytes ++ (take n rest ++ 34 ∷ unescaped (drop (at + k + 1) raw))) taken
            ∙ ap (λ l. bytes ++ (take (k - 1) rest ++ 34 ∷ unescaped l)) (sym left)
            ∙ ap (λ l. bytes ++ l) (sym (first_escape k rest in_rest on.escaped mark_at no_mark))
            ∙ on.same;
      }

-- where what is left has no quotation mark, it is copied as it is
pub StandsFor-end : (raw : List ℕ) (at : ℕ) (bytes hay : List ℕ) → hay ≡ drop at raw → IsCopiedSoFar raw at bytes
    → Nowhere (Passes (is_byte 34) hay) 0 (length hay) → bytes ++ drop at raw ≡ unescaped raw
StandsFor-end raw at bytes hay is_rest on none =
    ap (λ l. bytes ++ l) (sym (unescaped-none (drop at raw) (λ j below. false_from_ne_true _
    (λ passes. none j (omega arith) (omega (arith, ap length is_rest)) (ap (λ l. eqb (get_or l j 0) 34) is_rest ∙ passes)))))
    ∙ on.same
