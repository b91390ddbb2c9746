-- The inside of a text, its closing mark, and the bytes that it stands for.
use Rattle.std.proofs.Common.{◌≡◌, ◌≢◌, ℕ, suc, ◌+◌, ◌≤◌, true, false, eqb, ◌-◌, List, [], ◌∷◌, ◌++◌, length, Some, None, sym, refl, ap, ◌∙◌, subst, arith}
use Rattle.std.proofs.Common.{⊎_elim, ◌⊎◌, inl, inr, eq-eqb}
use Rattle.std.specs.List.{slice_range}
use Rattle.std.proofs.Common.{min, take, drop, take-append-drop}
use Rattle.std.proofs.lemmas.List.{length-take, length-drop, drop-drop, take_at, length-append, append_assoc}
use Rattle.std.proofs.lemmas.Bool.{ne_eqb, eqb-true, eqb-false, cases_Bool}
use Rattle.std.proofs.lemmas.Bool.Decides.{eqb_tells}
use Rattle.std.proofs.Math.Bool.{and-false}
use Rattle.def_file_tokens.specs.Texts.{MarksEscaped, EndsPlainly, IsInside, begins_with_mark, unescaped, escaped, closing_from}

-- the last byte, or one that stands before all
abbrev pub last_or : ℕ → List ℕ → ℕ
last_or before [] = before
last_or before (b ∷ bs) = last_or b bs

last_or_push : (before x : ℕ) (front : List ℕ) → last_or before (front ++ x ∷ []) ≡ x
last_or_push before x [] = refl
last_or_push before x (b ∷ front) = last_or_push b x front

-- the bytes behind a first one end in their last byte
split_last : (before : ℕ) (bs : List ℕ) → (front : List ℕ) × (before ∷ bs ≡ front ++ last_or before bs ∷ [])
split_last before [] = ([], refl)
split_last before (b ∷ bs) = let rest = split_last b bs in (before ∷ rest.0, ap (λ l. before ∷ l) rest.1)

-- bytes that don't end with a backslash have another last byte, or none
pub last_or-EndsPlainly : (bytes : List ℕ) → EndsPlainly bytes → last_or 34 bytes ≢ 92
last_or-EndsPlainly [] plain is = absurd (omega (arith, is))
last_or-EndsPlainly (b ∷ bs) plain is = let split = split_last b bs in plain split.0 (split.1 ∙ ap (λ x. split.0 ++ x ∷ []) is)

-- bytes whose last byte isn't a backslash, or that have none, don't end with one
pub EndsPlainly-last_or : (bytes : List ℕ) → last_or 34 bytes ≢ 92 → EndsPlainly bytes
EndsPlainly-last_or bytes plain front is = plain (ap (last_or 34) is ∙ last_or_push 34 92 front)

-- one step of unescaped
unescaped-stays : (b : ℕ) (bs : List ℕ) → (b ≡ 92 → begins_with_mark bs ≡ false) → unescaped (b ∷ bs) ≡ b ∷ unescaped bs
unfolding unescaped
unescaped-stays b bs plain = ⊎_elim (λ is. rw (plain is.1, and-false) refl) (λ other. rw other.0 refl) (eqb_tells b 92)

-- of a backslash before a mark the mark stays
pub unescaped-goes : (bs : List ℕ) → unescaped (92 ∷ 34 ∷ bs) ≡ 34 ∷ unescaped bs
unfolding unescaped
unescaped-goes bs = refl

-- a backslash before a mark, or another byte
data EscapeStep (b : ℕ) (bs : List ℕ) : Type 0 where
  goes : b ≡ 92 → begins_with_mark bs ≡ true → EscapeStep b bs
  stays : (b ≡ 92 → begins_with_mark bs ≡ false) → EscapeStep b bs

step_of : (b : ℕ) (bs : List ℕ) → EscapeStep b bs
step_of b bs =
    ⊎_elim
    (λ backslash. ⊎_elim (λ mark. goes backslash.1 mark) (λ plain. stays (λ _. plain)) (cases_Bool (begins_with_mark bs)))
    (λ other. stays (λ is. absurd (other.1 is)))
    (eqb_tells b 92)

unescaped-escape : (b c : ℕ) (bs : List ℕ) → b ≡ 92 → eqb c 34 ≡ true → unescaped (b ∷ c ∷ bs) ≡ 34 ∷ unescaped bs
unescaped-escape b c bs backslash mark =
    ap (λ x. unescaped (x ∷ c ∷ bs)) backslash ∙ ap (λ x. unescaped (92 ∷ x ∷ bs)) (eqb-true c 34 mark) ∙ unescaped-goes bs

last_or-unescaped : (before : ℕ) (bs : List ℕ) → last_or before (unescaped bs) ≡ last_or before bs
unfolding unescaped
last_or-unescaped before [] = refl
last_or-unescaped before (b ∷ []) = ap (last_or before) (unescaped-stays b [] (λ _. refl))
last_or-unescaped before (b ∷ c ∷ bs) =
    elim (step_of b (c ∷ bs)) [
      | goes backslash mark ↦
          ap (last_or before) (unescaped-escape b c bs backslash mark)
          ∙ last_or-unescaped 34 bs
          ∙ ap (λ x. last_or x bs) (sym (eqb-true c 34 mark))
      | stays plain ↦ ap (last_or before) (unescaped-stays b (c ∷ bs) plain) ∙ last_or-unescaped b (c ∷ bs)
    ]

-- what an inside stands for doesn't end with a backslash
pub EndsPlainly-unescaped : (inside : List ℕ) → IsInside inside → EndsPlainly (unescaped inside)
EndsPlainly-unescaped inside is = EndsPlainly-last_or (unescaped inside) (λ ends. last_or-EndsPlainly inside is.plain_end
    (sym (last_or-unescaped 34 inside) ∙ ends))

-- one step of escaped
escaped-mark : (b : ℕ) (bs : List ℕ) → b ≡ 34 → escaped (b ∷ bs) ≡ 92 ∷ 34 ∷ escaped bs
unfolding escaped
escaped-mark b bs mark = ap (λ x. escaped (x ∷ bs)) mark

escaped-other : (b : ℕ) (bs : List ℕ) → b ≢ 34 → escaped (b ∷ bs) ≡ b ∷ escaped bs
unfolding escaped
escaped-other b bs other = rw (ne_eqb b 34 other) refl

-- an inside is spelled by what it stands for
escaped-unescaped : (before : ℕ) (bs : List ℕ) → MarksEscaped before bs → (before ≡ 92 → begins_with_mark bs ≡ false)
    → escaped (unescaped bs) ≡ bs
unfolding unescaped escaped
escaped-unescaped before [] all apart = refl
escaped-unescaped before (b ∷ []) all apart =
    ap escaped (unescaped-stays b [] (λ _. refl)) ∙ escaped-other b [] (λ mark. eqb-false b 34 (apart (all.0 mark)) mark)
escaped-unescaped before (b ∷ c ∷ bs) all apart =
    elim (step_of b (c ∷ bs)) [
      | goes backslash mark ↦
          ap escaped (unescaped-escape b c bs backslash mark)
          ∙ escaped-mark 34 (unescaped bs) refl
          ∙ ap (λ l. 92 ∷ 34 ∷ l) (escaped-unescaped c bs all.1.1 (λ is. absurd (omega (arith, eqb-true c 34 mark))))
          ∙ ap (λ x. x ∷ 34 ∷ bs) (sym backslash)
          ∙ ap (λ x. b ∷ x ∷ bs) (sym (eqb-true c 34 mark))
      | stays plain ↦
          ap escaped (unescaped-stays b (c ∷ bs) plain)
          ∙ escaped-other b (unescaped (c ∷ bs)) (λ mark. eqb-false b 34 (apart (all.0 mark)) mark)
          ∙ ap (λ l. b ∷ l) (escaped-unescaped b (c ∷ bs) all.1 plain)
    ]

-- what is spelled has its marks escaped, ends as the text does, and stands for it
MarksEscaped-escaped : (before : ℕ) (bs : List ℕ) → MarksEscaped before (escaped bs)
unfolding escaped
MarksEscaped-escaped before [] = tt
MarksEscaped-escaped before (b ∷ bs) =
    ⊎_elim
    (λ mark. subst (MarksEscaped before) (sym (escaped-mark b bs mark.1)) ((λ clash. absurd (omega arith)), ((λ _. refl), MarksEscaped-escaped 34 bs)))
    (λ other. subst (MarksEscaped before) (sym (escaped-other b bs other.1)) ((λ mark. absurd (other.1 mark)), MarksEscaped-escaped b bs))
    (eqb_tells b 34)

last_or-escaped : (before : ℕ) (bs : List ℕ) → last_or before (escaped bs) ≡ last_or before bs
unfolding escaped
last_or-escaped before [] = refl
last_or-escaped before (b ∷ bs) =
    ⊎_elim
    (λ mark. ap (last_or before) (escaped-mark b bs mark.1) ∙ last_or-escaped 34 bs ∙ ap (λ x. last_or x bs) (sym mark.1))
    (λ other. ap (last_or before) (escaped-other b bs other.1) ∙ last_or-escaped b bs)
    (eqb_tells b 34)

plain_front : (bs : List ℕ) → begins_with_mark (escaped bs) ≡ false
unfolding escaped
plain_front [] = refl
plain_front (b ∷ bs) =
    ⊎_elim (λ mark. ap begins_with_mark (escaped-mark b bs mark.1)) (λ other. ap begins_with_mark (escaped-other b bs other.1) ∙ ne_eqb b 34 other.1)
    (eqb_tells b 34)

unescaped-escaped : (bs : List ℕ) → unescaped (escaped bs) ≡ bs
unfolding escaped unescaped
unescaped-escaped [] = refl
unescaped-escaped (b ∷ bs) =
    ⊎_elim
    (λ mark. ap unescaped (escaped-mark b bs mark.1) ∙ unescaped-goes (escaped bs) ∙ ap (λ l. 34 ∷ l) (unescaped-escaped bs) ∙ ap (λ x. x ∷ bs) (sym mark.1))
    (λ other. ap unescaped (escaped-other b bs other.1) ∙ unescaped-stays b (escaped bs) (λ _. plain_front bs) ∙ ap (λ l. b ∷ l) (unescaped-escaped bs))
    (eqb_tells b 34)

-- an inside is what it stands for, with a backslash in front of each quotation mark
pub inside_is_escaped : (inside bytes : List ℕ) → IsInside inside → bytes ≡ unescaped inside
    → EndsPlainly bytes × (inside ≡ escaped bytes)
inside_is_escaped inside bytes is same = (
  subst EndsPlainly (sym same) (EndsPlainly-unescaped inside is),
  sym (ap escaped same ∙ escaped-unescaped 34 inside is.escaped (λ clash. absurd (omega arith))),
)

-- bytes without a backslash at the end, with their marks escaped, are an inside that stands for them
pub escaped_is_inside : (inside bytes : List ℕ) → EndsPlainly bytes → inside ≡ escaped bytes
    → IsInside inside × (bytes ≡ unescaped inside)
escaped_is_inside inside bytes plain same = (
  subst IsInside (sym same) (record {
    escaped = MarksEscaped-escaped 34 bytes;
    plain_end = EndsPlainly-last_or (escaped bytes) (λ ends. last_or-EndsPlainly bytes plain (sym (last_or-escaped 34 bytes) ∙ ends));
  }),
  sym (ap unescaped same ∙ unescaped-escaped bytes),
)

-- what stands before a closing mark
pub record Closes (before : ℕ) (bytes : List ℕ) (len : ℕ) : Type 0 where
  pub inside : List ℕ
  pub after : List ℕ
  pub split : bytes ≡ inside ++ 34 ∷ after
  pub is_len : length inside ≡ len
  pub escaped : MarksEscaped before inside
  pub plain : last_or before inside ≢ 92

-- the test of the closing mark
closing_from-closes : (at before b : ℕ) (bs : List ℕ) → b ≡ 34 → before ≢ 92 → closing_from at before (b ∷ bs) ≡ Some at
unfolding closing_from
closing_from-closes at before b bs mark plain = rw (eq-eqb b 34 mark, ne_eqb before 92 plain) refl

closing_from-goes_on : (at before b : ℕ) (bs : List ℕ) → (b ≡ 34 → before ≡ 92)
    → closing_from at before (b ∷ bs) ≡ closing_from (at + 1) b bs
unfolding closing_from
closing_from-goes_on at before b bs escaped =
    ⊎_elim (λ mark. rw (mark.0, eq-eqb before 92 (escaped mark.1)) refl) (λ other. rw other.0 refl) (eqb_tells b 34)

-- a byte closes the text, or it doesn't
closes_or : (before b : ℕ) → ((b ≡ 34) × (before ≢ 92)) ⊎ (b ≡ 34 → before ≡ 92)
closes_or before b =
    ⊎_elim
    (λ mark. ⊎_elim (λ escaped. inr (λ _. escaped.1)) (λ plain. inl (mark.1, plain.1)) (eqb_tells before 92))
    (λ other. inr (λ mark. absurd (other.1 mark)))
    (eqb_tells b 34)

-- the mark that is found closes: each mark before it is escaped, and it isn't itself
pub closing_from-sound : (at before : ℕ) (bs : List ℕ) (close : ℕ) → closing_from at before bs ≡ Some close
    → (at ≤ close) × Closes before bs (close - at)
unfolding closing_from
closing_from-sound at before [] close is = cc
closing_from-sound at before (b ∷ bs) close is =
    ⊎_elim
    (λ closes.
    let here : at ≡ close = let found = sym (closing_from-closes at before b bs closes.0 closes.1) ∙ is in cc in
    let zero_len : 0 ≡ close - at = omega arith in
    (omega arith, record { inside = []; after = bs; split = ap (λ x. x ∷ bs) closes.0; is_len = zero_len; escaped = tt; plain = closes.1 }))
    (λ escaped.
    let rest = closing_from-sound (at + 1) b bs close (sym (closing_from-goes_on at before b bs escaped) ∙ is) in
    let within = rest.0 in
    let len : length rest.1.inside + 1 ≡ close - at = omega (arith, rest.1.is_len) in (
      omega arith,
      record {
        inside = b ∷ rest.1.inside;
        after = rest.1.after;
        split = ap (λ l. b ∷ l) rest.1.split;
        is_len = omega (arith, len);
        escaped = (escaped, rest.1.escaped);
        plain = rest.1.plain;
      },
    ))
    (closes_or before b)

-- the first mark that isn't escaped is the one that is found
pub closing_from-complete : (at before : ℕ) (inside after : List ℕ) → MarksEscaped before inside
    → last_or before inside ≢ 92 → closing_from at before (inside ++ 34 ∷ after) ≡ Some (at + length inside)
unfolding closing_from
closing_from-complete at before [] after all plain =
    let same : at ≡ at + 0 = omega arith in
    closing_from-closes at before 34 after refl plain ∙ ap Some same
closing_from-complete at before (b ∷ inside) after all plain =
    let shift : at + 1 + length inside ≡ at + suc (length inside) = omega arith in
    closing_from-goes_on at before b (inside ++ 34 ∷ after) all.0 ∙ closing_from-complete (at + 1) b inside after all.1 plain ∙ ap Some shift

-- where no closing mark is found, each mark is escaped
pub closing_from-none : (at before : ℕ) (bs : List ℕ) → closing_from at before bs ≡ None → MarksEscaped before bs
unfolding closing_from
closing_from-none at before [] is = tt
closing_from-none at before (b ∷ bs) is =
    ⊎_elim
    (λ closes. let found = sym (closing_from-closes at before b bs closes.0 closes.1) ∙ is in absurd cc)
    (λ escaped. (escaped, closing_from-none (at + 1) b bs (sym (closing_from-goes_on at before b bs escaped) ∙ is)))
    (closes_or before b)

-- where each mark is escaped, no closing mark is found
pub none-closing_from : (at before : ℕ) (bs : List ℕ) → MarksEscaped before bs → closing_from at before bs ≡ None
unfolding closing_from
none-closing_from at before [] all = refl
none-closing_from at before (b ∷ bs) all = closing_from-goes_on at before b bs all.0 ∙ none-closing_from (at + 1) b bs all.1

-- what stands between the first and the last byte of a span
pub slice_range-inner : (whole : List ℕ) (start end : ℕ) (inside : List ℕ) → end ≤ length whole
    → slice_range whole start end ≡ 34 ∷ (inside ++ 34 ∷ [])
    → (start + 2 ≤ end) × (slice_range whole (start + 1) (end - 1) ≡ inside)
slice_range-inner whole start end inside within quoted =
    let rest = drop (end - start) (drop start whole) in
    let len : length inside + 2 ≡ min (end - start) (length whole - start) = omega
    (arith, ap length quoted, length-take (end - start) (drop start whole), length-drop start whole, length-append inside (34 ∷ [])) in
    let cut : end - 1 - (start + 1) ≡ length inside = omega (arith, len) in
    let split : drop start whole ≡ (34 ∷ (inside ++ 34 ∷ [])) ++ rest = sym (take-append-drop (end - start) (drop start whole)) ∙ ap (λ l. l ++ rest) quoted in
    let behind : drop (start + 1) whole ≡ inside ++ (34 ∷ rest) = sym (drop-drop 1 start whole) ∙ ap (drop 1) split ∙ append_assoc inside (34 ∷ []) rest in (
      omega (arith, len),
      ap (λ n. take n (drop (start + 1) whole)) cut ∙ ap (take (length inside)) behind ∙ take_at inside (34 ∷ rest) (length inside) refl,
    )
