-- Bytes that a text holds as they are.
use Rattle.std.proofs.Common.{◌≡◌, ℕ, ◌<◌, ◌≤◌, ◌^◌, Bool, true, false, List, [], ◌∷◌, ◌++◌, refl, sym, ap, arith, eq-eqb}
use Rattle.std.specs.Prelude.{◌&&◌, ◌||◌, nat_eq, nat_le, not}
use Rattle.std.specs.Char.{is_ascii_digit}
use Rattle.std.specs.Fmt.{decimal}
use Rattle.std.specs.Str.{all_ascii_digits}
use Rattle.std.proofs.lemmas.Bool.{leb-true, ne_eqb, and_parts}
use Rattle.def_file_tokens.specs.Texts.{EndsPlainly, IsInside, escaped, unescaped}
use Rattle.def_file_tokens.proofs.TextLemmas.{escaped_is_inside}
use Rattle.def_fraction.proofs.TextLemmas.{decimal-numeral}
use Rattle.xg_gen.specs.Plain.{is_plain}

-- the first byte is no mark and no backslash
first_plain : (b : ℕ) (bs : List ℕ) → is_plain (b ∷ bs) ≡ true
    → (nat_eq b 34 ≡ false) × (nat_eq b 92 ≡ false) × (is_plain bs ≡ true)
first_plain b bs e = chosen (nat_eq b 34) (nat_eq b 92) e
  where
    chosen : (x y : Bool) → (not (x || y) && is_plain bs) ≡ true → (x ≡ false) × (y ≡ false) × (is_plain bs ≡ true)
    chosen true y e = cc
    chosen false true e = cc
    chosen false false e = (refl, refl, (and_parts true (is_plain bs) e).1)

escaped_plain : (bs : List ℕ) → is_plain bs ≡ true → escaped bs ≡ bs
unfolding escaped
escaped_plain [] e = refl
escaped_plain (b ∷ bs) e =
    let parts = first_plain b bs e in
    rw parts.0 (ap (λ l. b ∷ l) (escaped_plain bs parts.2))

ends_plainly : (bs : List ℕ) → is_plain bs ≡ true → EndsPlainly bs
ends_plainly [] e [] same = cc
ends_plainly [] e (x ∷ front) same = cc
ends_plainly (b ∷ bs) e [] same =
    let parts = first_plain b bs e in
    let is : b ≡ 92 = cc in
    let clash : nat_eq b 92 ≡ true = eq-eqb b 92 is in
    cc
ends_plainly (b ∷ bs) e (x ∷ front) same =
    let rest : bs ≡ front ++ 92 ∷ [] = cc in
    ends_plainly bs (first_plain b bs e).2 front rest

plain_is_inside : (bs : List ℕ) → is_plain bs ≡ true → IsInside bs × (bs ≡ unescaped bs)
plain_is_inside bs e = escaped_is_inside bs bs (ends_plainly bs e) (sym (escaped_plain bs e))

-- bytes without quotation marks and without backslashes may stand between a text's quotation marks
pub plain_inside : (bs : List ℕ) → is_plain bs ≡ true → IsInside bs
plain_inside bs e = (plain_is_inside bs e).0

pub plain_stays : (bs : List ℕ) → is_plain bs ≡ true → unescaped bs ≡ bs
plain_stays bs e = sym (plain_is_inside bs e).1

pub plain_append : (xs ys : List ℕ) → is_plain xs ≡ true → is_plain ys ≡ true → is_plain (xs ++ ys) ≡ true
plain_append [] ys first second = second
plain_append (x ∷ xs) ys first second =
    let parts = first_plain x xs first in
    rw (parts.0, parts.1) (plain_append xs ys parts.2 second)

digits_plain : (ds : List ℕ) → all_ascii_digits ds ≡ true → is_plain ds ≡ true
digits_plain [] e = refl
digits_plain (d ∷ ds) e =
    let parts = and_parts (is_ascii_digit d) (all_ascii_digits ds) e in
    let range = and_parts (nat_le 48 d) (nat_le d 57) parts.0 in
    let low : 48 ≤ d = leb-true 48 d range.0 in
    let high : d ≤ 57 = leb-true d 57 range.1 in
    let no_mark : nat_eq d 34 ≡ false = ne_eqb d 34 (omega arith) in
    let no_backslash : nat_eq d 92 ≡ false = ne_eqb d 92 (omega arith) in
    rw (no_mark, no_backslash) (digits_plain ds parts.1)

pub decimal_plain : (n : ℕ) → n < 2 ^ 64 → is_plain (decimal n) ≡ true
decimal_plain n fits = digits_plain (decimal n) (and_parts _ _ (decimal-numeral n fits)).0
