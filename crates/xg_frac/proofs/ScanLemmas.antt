-- Reading digits from left to right.
use Rattle.std.proofs.Common.{◌≡◌, ℕ, suc, ◌+◌, ◌-◌, ◌*◌, ◌^◌, ◌<◌, ◌≤◌, min, Bool, true, false, cond, Option, Some, None, List, [], ◌∷◌, ◌++◌, length, get_or}
use Rattle.std.proofs.Common.{take, drop, refl, sym, ap, ◌∙◌, subst, ◌⊎◌, ⊎_elim, add-one, ltb, arith}
use Rattle.std.specs.Char.{is_ascii_digit}
use Rattle.std.specs.Str.{all_ascii_digits}
use Rattle.std.proofs.lemmas.Bool.{cases_lt, and_from, and_parts, lt-ltb, ltb-true, eq-eqb, ne_eqb, false_from_ne_true}
use Rattle.std.proofs.lemmas.List.{append-nil, length-append, length-drop}
use Rattle.std.proofs.Math.Seq.{drop-cons, take-length}
use Rattle.std.proofs.lemmas.List.Prefix.{front_rest}
use Rattle.std.proofs.Math.Nat.{one-le-pow, pow-suc, pow-le-pow_right}
use Rattle.std.proofs.lemmas.Nat.{mul-le, pow-add}
use Rattle.def_fraction.specs.Digits.{is_numeral, leading_digits, after_digits, number_of}
use Rattle.def_fraction.proofs.LiteralLemmas.{digit_range, digits_split, leading_digits-append, leading_digits-digits}
use Rattle.std.specs.Option.{option_map}
use Rattle.def_fraction.specs.Literal.{Power, decimal, digits_after, raised, lowered}
use Rattle.def_fraction.specs.Reading.{decimal_of, power_of, body_after}
use Rattle.def_fraction.proofs.NumberLemmas.{number_of-append}
use Rattle.xg_frac.specs.declared.literal.Quotient.{Quotient}
use Rattle.xg_frac.specs.Scan.{capped, past_all, quotient_of, decimal_quotient}

-- the digit at an index is the next one
pub leading_digits-drop : (bs : List ℕ) (i : ℕ) → i < length bs → is_ascii_digit (get_or bs i 0) ≡ true
    → leading_digits (drop i bs) ≡ get_or bs i 0 ∷ leading_digits (drop (i + 1) bs)
leading_digits-drop bs i h digit =
    ap leading_digits (drop-cons bs i 0 h) ∙ ap (λ b. cond b (get_or bs i 0 ∷ leading_digits (drop (suc i) bs)) []) digit
    ∙ ap (λ k. get_or bs i 0 ∷ leading_digits (drop k bs)) (sym (add-one i))

-- and what follows the digits is the same behind it
pub after_digits-drop : (bs : List ℕ) (i : ℕ) → i < length bs → is_ascii_digit (get_or bs i 0) ≡ true
    → after_digits (drop i bs) ≡ after_digits (drop (i + 1) bs)
after_digits-drop bs i h digit =
    ap after_digits (drop-cons bs i 0 h) ∙ ap (λ b. cond b (after_digits (drop (suc i) bs)) (get_or bs i 0 ∷ drop (suc i) bs)) digit
    ∙ ap (λ k. after_digits (drop k bs)) (sym (add-one i))

-- the digits in front are no more than the bytes
pub leading_digits-within : (bs : List ℕ) → length (leading_digits bs) ≤ length bs
leading_digits-within bs = omega (arith, ap length (digits_split bs), length-append (leading_digits bs) (after_digits bs))

times_one : (n p : ℕ) → 1 ≤ p → n ≤ n * p
times_one n p h = omega (arith, mul-le n 1 n p (omega arith) h)

-- below the limit the number is the exact one, and past_all it it stays past_all
joined : (n d p rest m : ℕ) → 1 ≤ p → m ≡ min (n * 10 + d) past_all
    → min (m * p + rest) past_all ≡ min (n * (p * 10) + (d * p + rest)) past_all
joined n d p rest m h e =
    let whole : (n * 10 + d) * p ≡ n * (p * 10) + d * p = omega arith in
    ⊎_elim
    (λ small.
    let exact : m ≡ n * 10 + d = omega arith in
    ap (λ x. min (x * p + rest) past_all) exact ∙ ap (λ x. min x past_all) (omega (arith, whole)))
    (λ large.
    let top : m ≡ past_all = omega arith in
    let first : past_all ≤ past_all * p = times_one past_all p h in
    let second : n * 10 + d ≤ (n * 10 + d) * p = times_one (n * 10 + d) p h in
    ap (λ x. min (x * p + rest) past_all) top ∙ omega (arith, first, second, whole))
    (cases_lt (n * 10 + d) past_all)

-- one digit more
pub capped-digit : (n m c : ℕ) (cs : List ℕ) → m ≡ min (n * 10 + (c - 48)) past_all → capped m cs ≡ capped n (c ∷ cs)
capped-digit n m c cs e =
    let power : 10 ^ length (c ∷ cs) ≡ 10 ^ length cs * 10 = pow-suc 10 (length cs) in
    joined n (c - 48) (10 ^ length cs) (number_of cs) m (one-le-pow (length cs) 10 (omega arith)) e
    ∙ ap (λ q. min (n * q + ((c - 48) * 10 ^ length cs + number_of cs)) past_all) (sym power)

-- ---- a text of digits alone

nothing_left : (xs ys : List ℕ) → length (xs ++ ys) ≤ length xs → ys ≡ []
nothing_left xs [] h = refl
nothing_left xs (y ∷ ys) h = absurd (omega (arith, length-append xs (y ∷ ys)))

-- where the digits in front are as many as the bytes, they are all of them
pub leading_digits-whole : (bs : List ℕ) → length bs ≤ length (leading_digits bs) → leading_digits bs ≡ bs
leading_digits-whole bs h =
    let split = digits_split bs in
    let short : length (leading_digits bs ++ after_digits bs) ≤ length (leading_digits bs) = omega (arith, ap length split) in
    sym (append-nil (leading_digits bs)) ∙ ap (λ ys. leading_digits bs ++ ys) (sym (nothing_left (leading_digits bs) (after_digits bs) short)) ∙ split

-- what follows the digits, as a part of the slice has it
pub after_digits-part : (bs : List ℕ) (k : ℕ) → k ≡ length (leading_digits bs)
    → take (length bs - k) (drop k bs) ≡ after_digits bs
after_digits-part bs k e =
    let split = digits_split bs in
    let front : drop (length (leading_digits bs)) bs ≡ after_digits bs = front_rest bs (leading_digits bs) (after_digits bs) (sym split) in
    let tail : drop k bs ≡ after_digits bs = ap (λ j. drop j bs) e ∙ front in
    let count : length bs - k ≡ length (after_digits bs) = omega (arith, ap length split, length-append (leading_digits bs) (after_digits bs)) in
    ap (λ j. take j (drop k bs)) count ∙ ap (take (length (after_digits bs))) tail ∙ take-length (after_digits bs)

pub leading_digits-digits_only : (bs : List ℕ) → all_ascii_digits bs ≡ true → leading_digits bs ≡ bs
leading_digits-digits_only bs h = ap leading_digits (sym (append-nil bs)) ∙ leading_digits-append bs [] h tt

-- bytes that are digits up to the end, and some, are a numeral
pub numeral_yes : (bs : List ℕ) → (length (leading_digits bs) ≡ 0 → ⊥) → length bs ≤ length (leading_digits bs)
    → is_numeral bs ≡ true
numeral_yes bs some h =
    let whole = leading_digits-whole bs h in
    and_from _ _ (subst (λ (xs : List ℕ). all_ascii_digits xs ≡ true) whole (leading_digits-digits bs)) (lt-ltb 0 (length bs) (omega (arith, ap length whole)))

-- bytes with no digit in front, or with more than the digits, are no numeral
pub numeral_no : (bs : List ℕ) → (length (leading_digits bs) ≡ 0) ⊎ (length (leading_digits bs) < length bs)
    → is_numeral bs ≡ false
numeral_no bs h = false_from_ne_true (is_numeral bs) (λ e.
    let parts = and_parts (all_ascii_digits bs) (ltb 0 (length bs)) e in
    let same = ap length (leading_digits-digits_only bs parts.0) in
    let some = ltb-true 0 (length bs) parts.1 in
    ⊎_elim (λ p. omega arith) (λ p. omega arith) h)

pub number_of-below : (ds : List ℕ) → all_ascii_digits ds ≡ true → number_of ds < 10 ^ length ds
number_of-below [] h = omega arith
number_of-below (d ∷ ds) h =
    let parts = and_parts (is_ascii_digit d) (all_ascii_digits ds) h in
    let range = digit_range d parts.0 in
    let rest = number_of-below ds parts.1 in
    let power : 10 ^ length (d ∷ ds) ≡ 10 ^ length ds * 10 = pow-suc 10 (length ds) in
    let first : (d - 48) * 10 ^ length ds ≤ 9 * 10 ^ length ds = mul-le (d - 48) (10 ^ length ds) 9 (10 ^ length ds) (omega arith) (omega arith) in
    omega (arith, power, first, rest)

-- ---- powers of ten

-- a number other than 0 times ten to more than 38 is past all limits
pub ten_to_39 : (n k : ℕ) → (n ≡ 0 → ⊥) → 38 < k → past_all ≤ n * 10 ^ k
ten_to_39 n k some h =
    let split : 10 ^ k ≡ 10 ^ 39 * 10 ^ (k - 39) = ap (λ j. 10 ^ j) (omega arith) ∙ pow-add 10 39 (k - 39) in
    let more : 10 ^ 39 ≤ 10 ^ 39 * 10 ^ (k - 39) = times_one (10 ^ 39) (10 ^ (k - 39)) (one-le-pow (k - 39) 10 (omega arith)) in
    let times : 10 ^ k ≤ n * 10 ^ k = omega (arith, mul-le 1 (10 ^ k) n (10 ^ k) (omega arith) (omega arith)) in
    omega (arith, split, more, times)

-- ten to at most 38 is below 2 ^ 128
pub ten_below : (k : ℕ) → k ≤ 38 → 10 ^ k < 2 ^ 128
ten_below k h = omega (arith, pow-le-pow_right {n = 10} (omega arith) {i = k} {j = 38} h)

-- ---- decimals

capped_times : (n p : ℕ) → 1 ≤ p → min (min n past_all * p) past_all ≡ min (n * p) past_all
capped_times n p h =
    ⊎_elim
    (λ small. let exact : min n past_all ≡ n = omega arith in ap (λ x. min (x * p) past_all) exact)
    (λ large.
    let top : min n past_all ≡ past_all = omega arith in
    ap (λ x. min (x * p) past_all) top ∙ omega (arith, times_one past_all p h, times_one n p h))
    (cases_lt n past_all)

-- the digits after the point continue the number
pub capped-append : (xs ys : List ℕ) (n : ℕ) → n ≡ min (number_of xs) past_all
    → capped n ys ≡ min (number_of (xs ++ ys)) past_all
capped-append xs ys n e =
    let p = 10 ^ length ys in
    let h : 1 ≤ p = one-le-pow (length ys) 10 (omega arith) in
    let whole = number_of-append xs ys in
    ap (λ x. min (x * p + number_of ys) past_all) e ∙
    ⊎_elim
    (λ small. let exact : min (number_of xs) past_all ≡ number_of xs = omega arith in ap (λ x. min (x * p + number_of ys) past_all) exact
    ∙ ap (λ x. min x past_all) (sym whole))
    (λ large.
    let top : min (number_of xs) past_all ≡ past_all = omega arith in
    ap (λ x. min (x * p + number_of ys) past_all) top ∙ omega (arith, times_one past_all p h, times_one (number_of xs) p h, whole))
    (cases_lt (number_of xs) past_all)

quotient_of-decimal : (before : List ℕ) (after : Option (List ℕ)) (power : Option Power) (n : ℕ)
    → n ≡ min (number_of (before ++ digits_after after)) past_all
    → quotient_of (decimal before after power) ≡ decimal_quotient n (length (digits_after after)) power
quotient_of-decimal before after power n e =
    let make : ℕ → Quotient = λ x. record { num = x; den = min (10 ^ (length (digits_after after) + lowered power - raised power)) past_all } in
    let p = 10 ^ (raised power - (length (digits_after after) + lowered power)) in
    ap make (sym (capped_times (number_of (before ++ digits_after after)) p
    (one-le-pow (raised power - (length (digits_after after) + lowered power)) 10 (omega arith))) ∙ ap (λ x. min (x * p) past_all) (sym e))

option_map-option_map : {A B C : Type 0} (f : A → B) (g : B → C) (h : A → C) → ((x : A) → g (f x) ≡ h x)
    → (o : Option A) → option_map g (option_map f o) ≡ option_map h o
option_map-option_map f g h e None = refl
option_map-option_map f g h e (Some x) = ap Some (e x)

if_some : {A B : Type 0} (b : Bool) (o : Option A) (f : A → B)
    → option_map f (cond b o None) ≡ cond b (option_map f o) None
if_some true o f = refl
if_some false o f = refl

-- a decimal's two kept numbers come of its number, its places and its power, if it has a digit
pub quotient_of-decimal_of : (before : List ℕ) (after : Option (List ℕ)) (rest : List ℕ) (n : ℕ)
    → n ≡ min (number_of (before ++ digits_after after)) past_all
    → option_map quotient_of (decimal_of before after rest)
    ≡ cond (ltb 0 (length (before ++ digits_after after))) (option_map (decimal_quotient n (length (digits_after after))) (power_of rest)) None
unfolding decimal_of
quotient_of-decimal_of before after rest n e =
    if_some (ltb 0 (length (before ++ digits_after after))) (option_map (decimal before after) (power_of rest)) quotient_of
    ∙ ap (λ o. cond (ltb 0 (length (before ++ digits_after after))) o None)
    (option_map-option_map (decimal before after) quotient_of (decimal_quotient n (length (digits_after after)))
    (λ power. quotient_of-decimal before after power n e) (power_of rest))

-- ---- what follows the first digits

-- a slice from its second byte to its end is what is left behind the first byte
pub part-rest : (bs : List ℕ) → take (length bs - 1) (drop 1 bs) ≡ drop 1 bs
part-rest bs = ap (λ k. take k (drop 1 bs)) (sym (length-drop 1 bs)) ∙ take-length (drop 1 bs)

-- digits with a point behind them are a decimal with the digits behind the point as its places
pub body_after-point : (before rest : List ℕ) → 1 ≤ length rest → get_or rest 0 0 ≡ 46
    → body_after before rest ≡ decimal_of before (Some (leading_digits (drop 1 rest))) (after_digits (drop 1 rest))
unfolding body_after
body_after-point before [] h e = absurd (omega arith)
body_after-point before (c ∷ cs) h e = rw (ne_eqb c 47 (λ f. omega arith), eq-eqb c 46 e) refl

-- digits with neither a bar nor a point behind them are a decimal without places
pub body_after-other : (before rest : List ℕ) → (get_or rest 0 0 ≡ 47 → ⊥) → (get_or rest 0 0 ≡ 46 → ⊥)
    → body_after before rest ≡ decimal_of before None rest
unfolding body_after
body_after-other before [] h e = refl
body_after-other before (c ∷ cs) h e = rw (ne_eqb c 47 h, ne_eqb c 46 e) refl

-- no bytes have no first one but the default 0
pub no_first : (xs : List ℕ) (c : ℕ) → length xs < 1 → 0 < c → get_or xs 0 0 ≡ c → ⊥
no_first [] c h p e = omega arith
no_first (x ∷ xs) c h p e = omega arith
