-- What is read as a literal is spelled so, and what is spelled as a literal is read so.
use Rattle.std.proofs.Common.{◌≡◌, ℕ, ◌≤◌, Bool, true, false, cond, ◌&&◌, ◌||◌, eqb, List, [], ◌∷◌, ◌++◌, length, Option, Some, None, refl, sym, ap, ◌∙◌, subst}
use Rattle.std.proofs.Common.{inl, inr, ⊎_elim, arith, ◌⊎◌}
use Rattle.std.specs.Prelude.{◌↔◌, ⊤, IsTrue, nat_le, nat_lt}
use Rattle.std.specs.Option.{option_map}
use Rattle.std.specs.Char.{is_ascii_digit}
use Rattle.std.specs.Str.{all_ascii_digits}
use Rattle.std.proofs.lemmas.Bool.{and_parts, and_from, false≢true, eqb-true, ne_eqb, leb-true, le-leb}
use Rattle.def_fraction.specs.Digits.{is_numeral, leading_digits, after_digits}
use Rattle.def_fraction.specs.Literal.{point, slash, Sign, no_sign, plus_sign, minus_sign, Power, Body, quotient, decimal, Literal, sign_text, point_text}
use Rattle.def_fraction.specs.Literal.{power_text, body_text, literal_text, digits_after, IsPower, IsBody, IsLiteral}
use Rattle.def_fraction.specs.Reading.{sign_of, after_sign, power_of, decimal_of, body_after, body_of, literal_of}

-- ---- digits

-- the bytes of digits go from 48 to 57
pub digit_range : (c : ℕ) → is_ascii_digit c ≡ true → (48 ≤ c) × (c ≤ 57)
digit_range c h = let parts = and_parts _ _ h in (leb-true 48 c parts.0, leb-true c 57 parts.1)

-- digits followed by digits are digits
pub digits-append : (xs ys : List ℕ) → all_ascii_digits xs ≡ true → all_ascii_digits ys ≡ true
    → all_ascii_digits (xs ++ ys) ≡ true
digits-append [] ys p q = q
digits-append (x ∷ xs) ys p q =
    let parts = and_parts (is_ascii_digit x) (all_ascii_digits xs) p in
    and_from _ _ parts.0 (digits-append xs ys parts.1 q)

pub digits-parts : (xs ys : List ℕ) → all_ascii_digits (xs ++ ys) ≡ true
    → (all_ascii_digits xs ≡ true) × (all_ascii_digits ys ≡ true)
digits-parts [] ys p = (refl, p)
digits-parts (x ∷ xs) ys p =
    let parts = and_parts (is_ascii_digit x) (all_ascii_digits (xs ++ ys)) p in
    let rest = digits-parts xs ys parts.1 in
    (and_from _ _ parts.0 rest.0, rest.1)

-- a text that doesn't begin with a digit
abbrev pub BeginsElsewhere : List ℕ → Type 0
BeginsElsewhere [] = ⊤
BeginsElsewhere (c ∷ cs) = is_ascii_digit c ≡ false

-- where digits are followed by a text that doesn't begin with one, they are those that lead
pub leading_digits-append : (ds rest : List ℕ) → all_ascii_digits ds ≡ true → BeginsElsewhere rest
    → leading_digits (ds ++ rest) ≡ ds
leading_digits-append [] [] p q = refl
leading_digits-append [] (c ∷ cs) p q = rw q refl
leading_digits-append (d ∷ ds) rest p q =
    let parts = and_parts (is_ascii_digit d) (all_ascii_digits ds) p in
    rw (parts.0, leading_digits-append ds rest parts.1 q) refl

-- where digits are followed by a text that doesn't begin with one, this text is what stands behind them
pub after_digits-append : (ds rest : List ℕ) → all_ascii_digits ds ≡ true → BeginsElsewhere rest
    → after_digits (ds ++ rest) ≡ rest
after_digits-append [] [] p q = refl
after_digits-append [] (c ∷ cs) p q = rw q refl
after_digits-append (d ∷ ds) rest p q =
    let parts = and_parts (is_ascii_digit d) (all_ascii_digits ds) p in
    rw (parts.0, after_digits-append ds rest parts.1 q) refl

-- the digits at the head and what follows are the whole text
pub digits_split : (bs : List ℕ) → leading_digits bs ++ after_digits bs ≡ bs
digits_split [] = refl
digits_split (c ∷ cs) =
    elim (is_ascii_digit c) as (λ b. cond b (c ∷ leading_digits cs) [] ++ cond b (after_digits cs) (c ∷ cs) ≡ c ∷ cs)
    [ true ↦ ap (λ xs. c ∷ xs) (digits_split cs) | false ↦ refl ]

digits_if : (c : ℕ) (cs : List ℕ) (b : Bool) → is_ascii_digit c ≡ b → all_ascii_digits cs ≡ true
    → all_ascii_digits (cond b (c ∷ cs) []) ≡ true
digits_if c cs true e h = and_from _ _ e h
digits_if c cs false e h = refl

-- the leading digits of a text are all digits
pub leading_digits-digits : (bs : List ℕ) → all_ascii_digits (leading_digits bs) ≡ true
leading_digits-digits [] = refl
leading_digits-digits (c ∷ cs) = digits_if c (leading_digits cs) (is_ascii_digit c) refl (leading_digits-digits cs)

elsewhere_if : (c : ℕ) (cs rest : List ℕ) (b : Bool) → is_ascii_digit c ≡ b → BeginsElsewhere rest
    → BeginsElsewhere (cond b rest (c ∷ cs))
elsewhere_if c cs rest true e h = h
elsewhere_if c cs rest false e h = e

pub after_digits-elsewhere : (bs : List ℕ) → BeginsElsewhere (after_digits bs)
after_digits-elsewhere [] = tt
after_digits-elsewhere (c ∷ cs) = elsewhere_if c cs (after_digits cs) (is_ascii_digit c) refl (after_digits-elsewhere cs)

-- ---- what is spelled as a literal is read so

-- a text that doesn't begin with a sign
abbrev pub BeginsUnsigned : List ℕ → Type 0
BeginsUnsigned [] = ⊤
BeginsUnsigned (c ∷ cs) = (eqb c 43 ≡ false) × (eqb c 45 ≡ false)

digits-unsigned : (ds : List ℕ) → all_ascii_digits ds ≡ true → BeginsUnsigned ds
digits-unsigned [] h = tt
digits-unsigned (d ∷ ds) h =
    let range = digit_range d (and_parts (is_ascii_digit d) (all_ascii_digits ds) h).0 in
    (ne_eqb d 43 (λ e. omega arith), ne_eqb d 45 (λ e. omega arith))

sign_of-text : (s : Sign) (bs : List ℕ) → BeginsUnsigned bs → sign_of (sign_text s ++ bs) ≡ s
sign_of-text no_sign [] h = refl
sign_of-text no_sign (c ∷ cs) h = rw (h.0, h.1) refl
sign_of-text plus_sign bs h = refl
sign_of-text minus_sign bs h = refl

after_sign-text : (s : Sign) (bs : List ℕ) → BeginsUnsigned bs → after_sign (sign_text s ++ bs) ≡ bs
after_sign-text no_sign [] h = refl
after_sign-text no_sign (c ∷ cs) h = rw (h.0, h.1) refl
after_sign-text plus_sign bs h = refl
after_sign-text minus_sign bs h = refl

-- what holds of `e` and of `E` holds of the letter of a power
letter_either : (P : ℕ → Type 0) → P 101 → P 69 → (c : ℕ) → (c ≡ 101) ⊎ (c ≡ 69) → P c
letter_either P small capital c h = ⊎_elim (λ e. subst P (sym e) small) (λ e. subst P (sym e) capital) h

power_of-text : (p : Option Power) → IsPower p → power_of (power_text p) ≡ Some p
unfolding power_of
power_of-text None h = refl
power_of-text (Some p) h =
    let plain = digits-unsigned p.digits (and_parts (all_ascii_digits p.digits) _ h.1).0 in
    let letter : (eqb p.letter 101 || eqb p.letter 69) ≡ true = letter_either (λ c. (eqb c 101 || eqb c 69) ≡ true) refl refl p.letter h.0 in
    rw (after_sign-text p.sign p.digits plain, sign_of-text p.sign p.digits plain, letter, h.1, le-leb (length p.digits) 2 h.2) refl

power-elsewhere : (p : Option Power) → IsPower p → BeginsElsewhere (power_text p)
power-elsewhere None h = tt
power-elsewhere (Some p) h = letter_either (λ c. is_ascii_digit c ≡ false) refl refl p.letter h.0

decimal_of-text : (before : List ℕ) (after : Option (List ℕ)) (p : Option Power)
    → IsTrue (is_numeral (before ++ digits_after after)) → IsPower p
    → decimal_of before after (power_text p) ≡ Some (decimal before after p)
unfolding decimal_of
decimal_of-text before after p digits h =
    let some = (and_parts (all_ascii_digits (before ++ digits_after after)) _ digits).1 in
    rw (some, power_of-text p h) refl

body_after-power : (before : List ℕ) (p : Option Power) → IsPower p
    → body_after before (power_text p) ≡ decimal_of before None (power_text p)
unfolding body_after
body_after-power before None h = refl
body_after-power before (Some p) h =
    let no_slash = letter_either (λ c. eqb c 47 ≡ false) refl refl p.letter h.0 in
    let no_point = letter_either (λ c. eqb c 46 ≡ false) refl refl p.letter h.0 in
    rw (no_slash, no_point) refl

body_of-text : (b : Body) → IsBody b → body_of (body_text b) ≡ Some b
unfolding body_of body_after
body_of-text (quotient above below) h =
    let digits = and_parts (all_ascii_digits above) _ h.0 in
    rw (leading_digits-append above (slash ∷ below) digits.0 refl, after_digits-append above (slash ∷ below) digits.0 refl, digits.1, h.1) refl
body_of-text (decimal before None p) h =
    let digits = digits-parts before [] (and_parts (all_ascii_digits (before ++ [])) _ h.0).0 in
    let elsewhere = power-elsewhere p h.1 in
    rw (leading_digits-append before (power_text p) digits.0 elsewhere, after_digits-append before (power_text p) digits.0 elsewhere)
    (body_after-power before p h.1 ∙ decimal_of-text before None p h.0 h.1)
body_of-text (decimal before (Some after) p) h =
    let digits = digits-parts before after (and_parts (all_ascii_digits (before ++ after)) _ h.0).0 in
    let elsewhere = power-elsewhere p h.1 in
    let tail = point ∷ (after ++ power_text p) in
    rw (
      leading_digits-append before tail digits.0 refl,
      after_digits-append before tail digits.0 refl,
      leading_digits-append after (power_text p) digits.1 elsewhere,
      after_digits-append after (power_text p) digits.1 elsewhere,
    )
    (decimal_of-text before (Some after) p h.0 h.1)

body-unsigned : (b : Body) → IsBody b → BeginsUnsigned (body_text b)
body-unsigned (quotient [] below) h = (refl, refl)
body-unsigned (quotient (d ∷ ds) below) h = digits-unsigned (d ∷ ds) (and_parts (all_ascii_digits (d ∷ ds)) _ h.0).0
body-unsigned (decimal (d ∷ ds) after p) h =
    digits-unsigned (d ∷ ds) (digits-parts (d ∷ ds) (digits_after after) (and_parts (all_ascii_digits ((d ∷ ds) ++ digits_after after)) _ h.0).0).0
body-unsigned (decimal [] (Some after) p) h = (refl, refl)
body-unsigned (decimal [] None p) h = absurd (false≢true h.0)

-- the text of a literal is read as this literal
pub literal_of-text : (l : Literal) → IsBody l.body → literal_of (literal_text l) ≡ Some l
unfolding literal_of
literal_of-text l h =
    let plain = body-unsigned l.body h in
    rw (sign_of-text l.sign (body_text l.body) plain, after_sign-text l.sign (body_text l.body) plain, body_of-text l.body h) refl

-- ---- what is read as a literal is spelled so

cond_some : {A : Type 0} (t : Bool) (x : Option A) (y : A) → cond t x None ≡ Some y → (t ≡ true) × (x ≡ Some y)
cond_some true x y h = (refl, h)
cond_some false x y h = cc

-- where a map gives something, there was something
pub option_map_some : {A B : Type 0} (f : A → B) (o : Option A) (y : B) → option_map f o ≡ Some y
    → (x : A) × (o ≡ Some x) × (f x ≡ y)
option_map_some f None y h = cc
option_map_some f (Some x) y h = (x, refl, cc)

sign_split_if : (c : ℕ) (cs : List ℕ) (a b : Bool) → eqb c 43 ≡ a → eqb c 45 ≡ b
    → sign_text (cond a plus_sign (cond b minus_sign no_sign)) ++ cond a cs (cond b cs (c ∷ cs)) ≡ c ∷ cs
sign_split_if c cs true b e f = ap (λ x. x ∷ cs) (sym (eqb-true c 43 e))
sign_split_if c cs false true e f = ap (λ x. x ∷ cs) (sym (eqb-true c 45 f))
sign_split_if c cs false false e f = refl

pub sign_split : (bs : List ℕ) → sign_text (sign_of bs) ++ after_sign bs ≡ bs
sign_split [] = refl
sign_split (c ∷ cs) = sign_split_if c cs (eqb c 43) (eqb c 45) refl refl

-- a body of the form, with these bytes
record Spells (b : Body) (bytes : List ℕ) : Type 0 where
  formed : IsBody b
  spelled : body_text b ≡ bytes

record SpellsPower (p : Option Power) (bytes : List ℕ) : Type 0 where
  formed : IsPower p
  spelled : power_text p ≡ bytes

letter_from_test : (c : ℕ) (a b : Bool) → eqb c 101 ≡ a → eqb c 69 ≡ b → (a || b) ≡ true → (c ≡ 101) ⊎ (c ≡ 69)
letter_from_test c true b e f h = inl (eqb-true c 101 e)
letter_from_test c false true e f h = inr (eqb-true c 69 f)
letter_from_test c false false e f h = absurd (false≢true h)

power_of-spelled : (bs : List ℕ) (p : Option Power) → power_of bs ≡ Some p → SpellsPower p bs
unfolding power_of
power_of-spelled [] p h = let e : None ≡ p = cc in subst (λ (q : Option Power). SpellsPower q []) e (record { formed = tt; spelled = refl })
power_of-spelled (c ∷ cs) p h =
    let digits = after_sign cs in
    let made : Power = record { letter = c; sign = sign_of cs; digits = digits } in
    let found = cond_some ((eqb c 101 || eqb c 69) && (is_numeral digits && nat_le (length digits) 2)) (Some (Some made)) p h in
    let tests = and_parts (eqb c 101 || eqb c 69) (is_numeral digits && nat_le (length digits) 2) found.0 in
    let short = and_parts (is_numeral digits) (nat_le (length digits) 2) tests.1 in
    let e : Some made ≡ p = cc in
    subst (λ (q : Option Power). SpellsPower q (c ∷ cs)) e (record {
      formed = (letter_from_test c (eqb c 101) (eqb c 69) refl refl tests.0, short.0, leb-true (length digits) 2 short.1);
      spelled = ap (λ xs. c ∷ xs) (sign_split cs);
    })

decimal_of-spelled : (before : List ℕ) (after : Option (List ℕ)) (rest : List ℕ) (b : Body)
    → all_ascii_digits before ≡ true → all_ascii_digits (digits_after after) ≡ true
    → decimal_of before after rest ≡ Some b → Spells b (before ++ (point_text after ++ rest))
unfolding decimal_of
decimal_of-spelled before after rest b p q h =
    let found = cond_some _ _ b h in
    let power = option_map_some (decimal before after) (power_of rest) b found.1 in
    let shown = power_of-spelled rest power.0 power.1 in
    subst (λ (x : Body). Spells x (before ++ (point_text after ++ rest))) power.2 (record {
      formed = (and_from _ _ (digits-append before (digits_after after) p q) found.0, shown.formed);
      spelled = ap (λ xs. before ++ (point_text after ++ xs)) shown.spelled;
    })

body_if : (before : List ℕ) (c : ℕ) (cs : List ℕ) (b : Body) (s t : Bool) → eqb c 47 ≡ s → eqb c 46 ≡ t
    → all_ascii_digits before ≡ true
    → cond s (cond (nat_lt 0 (length before) && is_numeral cs) (Some (quotient before cs)) None)
    (cond t (decimal_of before (Some (leading_digits cs)) (after_digits cs)) (decimal_of before None (c ∷ cs))) ≡ Some b
    → Spells b (before ++ c ∷ cs)
body_if before c cs b true t e f p h =
    let found = cond_some (nat_lt 0 (length before) && is_numeral cs) (Some (quotient before cs)) b h in
    let tests = and_parts (nat_lt 0 (length before)) (is_numeral cs) found.0 in
    let same : quotient before cs ≡ b = cc in
    subst (λ (x : Body). Spells x (before ++ c ∷ cs)) same (record {
      formed = (and_from _ _ p tests.0, tests.1);
      spelled = ap (λ x. before ++ x ∷ cs) (sym (eqb-true c 47 e));
    })
body_if before c cs b false true e f p h =
    let shown = decimal_of-spelled before (Some (leading_digits cs)) (after_digits cs) b p (leading_digits-digits cs) h in
    let bytes : before ++ (point ∷ (leading_digits cs ++ after_digits cs)) ≡ before ++ c ∷ cs = ap (λ xs. before ++ (point ∷ xs)) (digits_split cs)
    ∙ ap (λ x. before ++ x ∷ cs) (sym (eqb-true c 46 f)) in
    record { formed = shown.formed; spelled = shown.spelled ∙ bytes }
body_if before c cs b false false e f p h =
    let shown = decimal_of-spelled before None (c ∷ cs) b p refl h in
    record { formed = shown.formed; spelled = shown.spelled }

body_after-spelled : (before rest : List ℕ) (b : Body) → all_ascii_digits before ≡ true
    → body_after before rest ≡ Some b → Spells b (before ++ rest)
unfolding body_after
body_after-spelled before [] b p h =
    let shown = decimal_of-spelled before None [] b p refl h in
    record { formed = shown.formed; spelled = shown.spelled }
body_after-spelled before (c ∷ cs) b p h = body_if before c cs b (eqb c 47) (eqb c 46) refl refl p h

body_of-spelled : (bs : List ℕ) (b : Body) → body_of bs ≡ Some b → Spells b bs
unfolding body_of
body_of-spelled bs b h =
    let shown = body_after-spelled (leading_digits bs) (after_digits bs) b (leading_digits-digits bs) h in
    record { formed = shown.formed; spelled = shown.spelled ∙ digits_split bs }

pub literal_of-spelled : (bs : List ℕ) (l : Literal) → literal_of bs ≡ Some l → IsLiteral bs l
unfolding literal_of
literal_of-spelled bs l h =
    let found = option_map_some _ (body_of (after_sign bs)) l h in
    let shown = body_of-spelled (after_sign bs) found.0 found.1 in
    subst (λ (x : Literal). IsLiteral bs x) found.2 (record {
      spelled = ap (λ xs. sign_text (sign_of bs) ++ xs) shown.spelled ∙ sign_split bs;
      formed = shown.formed;
    })

-- bytes are read as a literal exactly where they are this literal's text
pub literal_of-IsLiteral : (bs : List ℕ) (l : Literal) → (literal_of bs ≡ Some l) ↔ IsLiteral bs l
literal_of-IsLiteral bs l =
    (literal_of-spelled bs l, λ w. ap literal_of (sym w.spelled) ∙ literal_of-text l w.formed)
