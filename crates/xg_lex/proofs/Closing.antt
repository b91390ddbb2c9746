-- The search for a text's closing mark, one quotation mark after another.
use Rattle.std.proofs.Common.{◌≡◌, ℕ, zero, suc, ◌+◌, ◌-◌, ◌<◌, ◌≤◌, true, false, eqb, List, [], ◌∷◌, length, drop, get_or, Some, None, sym, refl, ap, ◌∙◌}
use Rattle.std.proofs.Common.{arith, eq-eqb, add-zero, get_or-drop}
use Rattle.std.proofs.Common.{◌≢◌, length-drop}
use Rattle.std.proofs.lemmas.List.{drop_more, drop-drop}
use Rattle.std.proofs.lemmas.Bool.{false_from_ne_true, ne_eqb}
use Rattle.memchr.specs.Find.{Nowhere, NoneBefore, Passes, is_byte}
use Rattle.def_file_tokens.specs.Texts.{closing_from}

-- no quotation mark stands at the first k places
abbrev pub NoMarkBelow : List ℕ → ℕ → Type 0
NoMarkBelow bs k = (j : ℕ) → j < k → eqb (get_or bs j 0) 34 ≡ false

-- one byte that is no mark
closing_from-cons : (at before b : ℕ) (bs : List ℕ) → eqb b 34 ≡ false
    → closing_from at before (b ∷ bs) ≡ closing_from (at + 1) b bs
unfolding closing_from
closing_from-cons at before b bs plain = rw plain refl

-- the bytes in front of the first mark are passed over
pub closing_from-drop : (k at before : ℕ) (bs : List ℕ) → k ≤ length bs → NoMarkBelow bs k
    → closing_from at before bs ≡ closing_from (at + k) (get_or (before ∷ bs) k 0) (drop k bs)
closing_from-drop zero at before bs within none = rw add-zero refl
closing_from-drop (suc k) at before [] within none = absurd (omega arith)
closing_from-drop (suc k) at before (b ∷ bs) within none =
    let shift : at + 1 + k ≡ at + suc k = omega arith in
    closing_from-cons at before b bs (none 0 (omega arith))
    ∙ closing_from-drop k (at + 1) b bs (omega arith) (λ j h. none (suc j) (omega arith))
    ∙ ap (λ n. closing_from n (get_or (b ∷ bs) k 0) (drop k bs)) shift

-- with no mark there is no closing mark
pub closing_from-none : (at before : ℕ) (bs : List ℕ) → NoMarkBelow bs (length bs) → closing_from at before bs ≡ None
unfolding closing_from
closing_from-none at before [] none = refl
closing_from-none at before (b ∷ bs) none = closing_from-cons at before b bs (none 0 (omega arith))
    ∙ closing_from-none (at + 1) b bs (λ j h. none (suc j) (omega arith))

-- a mark behind a byte that is no backslash closes
closing_from-closes : (at before b : ℕ) (bs : List ℕ) → eqb b 34 ≡ true → eqb before 92 ≡ false
    → closing_from at before (b ∷ bs) ≡ Some at
unfolding closing_from
closing_from-closes at before b bs mark plain = rw (mark, plain) refl

-- a mark behind a backslash doesn't
closing_from-goes_on : (at before b : ℕ) (bs : List ℕ) → eqb b 34 ≡ true → eqb before 92 ≡ true
    → closing_from at before (b ∷ bs) ≡ closing_from (at + 1) b bs
unfolding closing_from
closing_from-goes_on at before b bs mark escaped = rw (mark, escaped) refl

-- a mark right behind the opening one closes
pub closing_from-at_once : (bytes : List ℕ) (start : ℕ) → start + 1 < length bytes → get_or bytes start 0 ≡ 34
    → get_or bytes (start + 1) 0 ≡ 34
    → closing_from (start + 1) (get_or bytes start 0) (drop (start + 1) bytes) ≡ Some (start + 1)
closing_from-at_once bytes start within opening mark =
    let plain : get_or bytes start 0 ≢ 92 = omega arith in
    ap (closing_from (start + 1) (get_or bytes start 0)) (drop_more bytes (start + 1) 0 within)
    ∙ closing_from-closes (start + 1) (get_or bytes start 0) _ _ (eq-eqb _ 34 mark) (ne_eqb _ 92 plain)

-- where the search stands: what is still to search gives what all bytes give
pub record SearchesOn (bytes : List ℕ) (start at : ℕ) : Type 0 where
  pub begun : 0 < at
  pub within : at ≤ length bytes
  pub same : closing_from at (get_or bytes (at - 1) 0) (drop at bytes) ≡ closing_from (start + 1) (get_or bytes start 0)
      (drop (start + 1) bytes)

pub SearchesOn-start : (bytes : List ℕ) (start : ℕ) → start < length bytes → SearchesOn bytes start (start + 1)
SearchesOn-start bytes start h =
    let back : start + 1 - 1 ≡ start = omega arith in
    record { begun = omega arith; within = omega arith; same = ap (λ n. closing_from (start + 1) (get_or bytes n 0) (drop (start + 1) bytes)) back }

-- the byte before the first mark, k bytes behind `at`
byte_before : (bytes : List ℕ) (at k : ℕ) → 0 < at → at ≤ length bytes
    → get_or (get_or bytes (at - 1) 0 ∷ drop at bytes) k 0 ≡ get_or bytes (at + k - 1) 0
byte_before bytes at k begun within =
    let next : at - 1 + 1 ≡ at = omega arith in
    let place : at - 1 + k ≡ at + k - 1 = omega arith in
    ap (λ n. get_or (get_or bytes (at - 1) 0 ∷ drop n bytes) k 0) (sym next)
    ∙ ap (λ l. get_or l k 0) (sym (drop_more bytes (at - 1) 0 (omega arith)))
    ∙ get_or-drop (at - 1) bytes k 0
    ∙ ap (λ n. get_or bytes n 0) place

-- a first mark that memchr found, k bytes behind `at`
module _ (bytes : List ℕ) (start at k : ℕ) (hay : List ℕ) (is_rest : hay ≡ drop at bytes)
    (on : SearchesOn bytes start at) (first : NoneBefore (Passes (is_byte 34) hay) 0 (length hay) k)
    (mark : Passes (is_byte 34) hay k) where
  within : at + k < length bytes
  within = omega (arith, first.high, ap length is_rest, length-drop at bytes, on.within)

  no_mark : NoMarkBelow (drop at bytes) k
  no_mark j below = false_from_ne_true _ (λ passes. first.before j (omega arith) below (ap (λ l. eqb (get_or l j 0) 34) is_rest ∙ passes))

  mark_at : eqb (get_or bytes (at + k) 0) 34 ≡ true
  mark_at = ap (λ n. eqb n 34) (sym (get_or-drop at bytes k 0) ∙ sym (ap (λ l. get_or l k 0) is_rest)) ∙ mark

  -- from the mark on
  from_mark : closing_from (at + k) (get_or bytes (at + k - 1) 0)
      (get_or bytes (at + k) 0 ∷ drop (at + k + 1) bytes) ≡ closing_from (start + 1) (get_or bytes start 0)
      (drop (start + 1) bytes)
  from_mark =
      let here = within in
      ap (λ l. closing_from (at + k) (get_or bytes (at + k - 1) 0) l) (sym (drop_more bytes (at + k) 0 here) ∙ sym (drop-drop k at bytes))
      ∙ ap (λ b. closing_from (at + k) b (drop k (drop at bytes))) (sym (byte_before bytes at k on.begun on.within))
      ∙ sym (closing_from-drop k at (get_or bytes (at - 1) 0) (drop at bytes) (omega (arith, length-drop at bytes, on.within)) no_mark)
      ∙ on.same

  -- the mark that was found, where no backslash stands right before it, is the one that closes the text
  pub SearchesOn-closes : get_or bytes (at + k - 1) 0 ≢ 92
      → Some (at + k) ≡ closing_from (start + 1) (get_or bytes start 0) (drop (start + 1) bytes)
  SearchesOn-closes plain = sym (closing_from-closes (at + k) (get_or bytes (at + k - 1) 0) _ _ mark_at (ne_eqb _ 92 plain)) ∙ from_mark

  -- where a backslash stands right before the mark that was found, the search goes on behind that mark
  pub SearchesOn-next : get_or bytes (at + k - 1) 0 ≡ 92 → SearchesOn bytes start (at + k + 1)
  SearchesOn-next escaped =
      let here = within in
      let back : at + k + 1 - 1 ≡ at + k = omega arith in
      record {
        begun = omega arith;
        within = omega arith;
        same = ap (λ n. closing_from (at + k + 1) (get_or bytes n 0) (drop (at + k + 1) bytes)) back
            ∙ sym (closing_from-goes_on (at + k) (get_or bytes (at + k - 1) 0) _ _ mark_at (eq-eqb _ 92 escaped))
            ∙ from_mark;
      }

-- where what is still to search has no quotation mark, the text has no closing mark
pub SearchesOn-end : (bytes : List ℕ) (start at : ℕ) (hay : List ℕ) → hay ≡ drop at bytes → SearchesOn bytes start at
    → Nowhere (Passes (is_byte 34) hay) 0 (length hay)
    → None ≡ closing_from (start + 1) (get_or bytes start 0) (drop (start + 1) bytes)
SearchesOn-end bytes start at hay is_rest on none =
    sym (closing_from-none at (get_or bytes (at - 1) 0) (drop at bytes) (λ j below. false_from_ne_true _
    (λ passes. none j (omega arith) (omega (arith, ap length is_rest)) (ap (λ l. eqb (get_or l j 0) 34) is_rest ∙ passes))))
    ∙ on.same
