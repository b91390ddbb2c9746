-- A field that is written is read again, and what is read of a field was written so.
use Rattle.std.proofs.Common.{◌≡◌, ℕ, zero, suc, ◌+◌, ◌-◌, ◌*◌, ◌/◌, ◌%◌, ◌^◌, ◌<◌, ◌≤◌, Bool, true, false, cond, eqb, leb, List, [], ◌∷◌, ◌++◌, ◌&&◌, length}
use Rattle.std.proofs.Common.{take, drop, get_or, Option, Some, None, Result, Ok, Err, ℤ, pos, negsuc, unsigned_abs, refl, sym, ap, ◌∙◌, subst, append_assoc}
use Rattle.std.proofs.Common.{arith, ⊎_elim}
use Rattle.std.specs.Prelude.{not}
use Rattle.std.specs.List.{prefix_len}
use Rattle.std.specs.Char.{is_ascii_digit}
use Rattle.std.specs.Str.{all_ascii_digits}
use Rattle.std.specs.Cmp.Lexicographic.{pointwise}
use Rattle.std.specs.Fmt.{decimal, signed_decimal}
use Rattle.std.specs.Option.{option_map}
use Rattle.std.proofs.lemmas.List.{take_at, drop_at, take-append-drop, append-nil}
use Rattle.std.proofs.lemmas.Bool.{and_parts, and_from, leb-true, le-leb, eqb-true, eq-eqb, ne_eqb, cases_eq}
use Rattle.std.proofs.Math.Nat.{one-le-pow, pow-suc}
use Rattle.std.proofs.lemmas.Nat.{mul-le}
use Rattle.std.proofs.lemmas.Fmt.{decimal_digit, decimal_step_wide}
use Rattle.def_fraction.specs.Digits.{is_numeral, number_of}
use Rattle.def_fraction.specs.Divisors.{gcd}
use Rattle.def_fraction.specs.Fraction.{Fraction, negative_of, whole_number}
use Rattle.def_fraction.specs.Literal.{slash}
use Rattle.def_fraction.specs.Text.{fraction_text}
use Rattle.def_fraction.proofs.DivisorLemmas.{gcd-with_one}
use Rattle.def_fraction.proofs.LiteralLemmas.{digit_range, option_map_some}
use Rattle.def_fraction.proofs.TextLemmas.{int_text-canonical}
use Rattle.def_cert_text.specs.declared.fault.CertFault.{CertFault}
use Rattle.def_cert_text.specs.declared.fault.CertFault.TheVariants.{CertSyntax, CertShort}
use Rattle.def_cert_text.specs.Fields.{◌>>=◌, FieldKind, is_field_byte, next_field, behind_field, is_empty, field_fault, if_fit, read_field}
use Rattle.def_cert_text.specs.Numbers.{leads_no_zero, whole_in, integer_in, is_no_slash, over_in, lowest_in, fraction_in}
use Rattle.def_cert_text.specs.Formats.{is_lowest_within}

-- ---- results
-- where two steps in turn give a value, the first gives one, and with it the second gives that value
pub bind_ok : {A B : Type 0} (r : Result A CertFault) (f : A → Result B CertFault) (y : B) → (r >>= f) ≡ Ok y
    → (x : A) × (r ≡ Ok x) × (f x ≡ Ok y)
bind_ok (Ok x) f y e = (x, refl, e)
bind_ok (Err d) f y e = absurd cc

abbrev pub done : {A : Type 0} → A → Result A CertFault
done x = Ok x

-- where two good results are equal, so are their values
pub ok_is : {A : Type 0} (x y : A) → done x ≡ done y → x ≡ y
ok_is x y e = cc

-- ---- the longest front whose bytes pass a test
abbrev pub all_pass : (ℕ → Bool) → List ℕ → Bool
all_pass p [] = true
all_pass p (b ∷ bs) = p b && all_pass p bs

pub pass_append : (p : ℕ → Bool) (xs ys : List ℕ) → all_pass p xs ≡ true → all_pass p ys ≡ true
    → all_pass p (xs ++ ys) ≡ true
pass_append p [] ys h k = k
pass_append p (x ∷ xs) ys h k = let q = and_parts (p x) (all_pass p xs) h in and_from (p x) (all_pass p (xs ++ ys)) q.0 (pass_append p xs ys q.1 k)

run : (p : ℕ → Bool) (front : List ℕ) (b : ℕ) (left : List ℕ) → all_pass p front ≡ true → p b ≡ false
    → prefix_len p (front ++ b ∷ left) ≡ length front
run p [] b left h s = rw s refl
run p (x ∷ xs) b left h s =
    let q = and_parts (p x) (all_pass p xs) h in
    ap (λ t. cond t (1 + prefix_len p (xs ++ b ∷ left)) 0) q.0 ∙ ap (λ n. 1 + n) (run p xs b left q.1 s) ∙ omega arith

-- where all bytes of a front pass a test and the next one fails it, this front is the longest run that passes
pub front_is : (p : ℕ → Bool) (front : List ℕ) (b : ℕ) (left : List ℕ) → all_pass p front ≡ true → p b ≡ false
    → take (prefix_len p (front ++ b ∷ left)) (front ++ b ∷ left) ≡ front
front_is p front b left h s = ap (λ n. take n (front ++ b ∷ left)) (run p front b left h s) ∙ take_at front (b ∷ left) (length front) refl

-- where all bytes of a front pass a test and the next fails it, that and the rest are behind the longest passing run
pub behind_is : (p : ℕ → Bool) (front : List ℕ) (b : ℕ) (left : List ℕ) → all_pass p front ≡ true → p b ≡ false
    → drop (prefix_len p (front ++ b ∷ left)) (front ++ b ∷ left) ≡ b ∷ left
behind_is p front b left h s = ap (λ n. drop n (front ++ b ∷ left)) (run p front b left h s) ∙ drop_at front (b ∷ left) (length front) refl

run_all : (p : ℕ → Bool) (front : List ℕ) → all_pass p front ≡ true → prefix_len p front ≡ length front
run_all p [] h = refl
run_all p (x ∷ xs) h =
    let q = and_parts (p x) (all_pass p xs) h in
    ap (λ t. cond t (1 + prefix_len p xs) 0) q.0 ∙ ap (λ n. 1 + n) (run_all p xs q.1) ∙ omega arith

pub front_all : (p : ℕ → Bool) (front : List ℕ) → all_pass p front ≡ true → take (prefix_len p front) front ≡ front
front_all p front h = ap (λ n. take n front) (run_all p front h) ∙ ap (λ (xs : List ℕ). take (length front) xs) (sym (append-nil front))
    ∙ take_at front [] (length front) refl

-- where all bytes pass a test, nothing stands behind the longest run that passes
pub behind_all : (p : ℕ → Bool) (front : List ℕ) → all_pass p front ≡ true → drop (prefix_len p front) front ≡ []
behind_all p front h = ap (λ n. drop n front) (run_all p front h) ∙ ap (λ (xs : List ℕ). drop (length front) xs) (sym (append-nil front))
    ∙ drop_at front [] (length front) refl

-- the longest run that passes a test and what stands behind it make all the bytes
pub parted : (p : ℕ → Bool) (bytes : List ℕ)
    → take (prefix_len p bytes) bytes ++ drop (prefix_len p bytes) bytes ≡ bytes
parted p bytes = take-append-drop (prefix_len p bytes) bytes

-- the byte behind the front fails it
stops_at : (p : ℕ → Bool) (x : ℕ) (xs : List ℕ) (b : ℕ) (more : List ℕ) (t : Bool)
    → (drop (prefix_len p xs) xs ≡ b ∷ more → p b ≡ false) → p x ≡ t
    → drop (cond (p x) (1 + prefix_len p xs) 0) (x ∷ xs) ≡ b ∷ more → p b ≡ false
stops_at p x xs b more true later h e =
    let one : 1 + prefix_len p xs ≡ suc (prefix_len p xs) = omega arith in
    later (sym (ap (λ t. drop (cond t (1 + prefix_len p xs) 0) (x ∷ xs)) h ∙ ap (λ n. drop n (x ∷ xs)) one) ∙ e)
stops_at p x xs b more false later h e =
    let here : x ∷ xs ≡ b ∷ more = sym (ap (λ t. drop (cond t (1 + prefix_len p xs) 0) (x ∷ xs)) h) ∙ e in
    let same : x ≡ b = cc in
    subst (λ y. p y ≡ false) same h

-- the first byte behind the longest run that passes a test fails this test
pub stops : (p : ℕ → Bool) (bytes : List ℕ) (b : ℕ) (more : List ℕ) → drop (prefix_len p bytes) bytes ≡ b ∷ more
    → p b ≡ false
stops p [] b more e = absurd cc
stops p (x ∷ xs) b more e = stops_at p x xs b more (p x) (stops p xs b more) refl e

-- ---- a field with its separator
abbrev pub rest_of : {A : Type 0} → CertFault → ℕ → ℕ → Option A → List ℕ → Result (A × List ℕ) CertFault
rest_of unfit sep total o r = cond (is_empty r) (Err CertShort) (if_fit unfit sep total o r)

abbrev pub sep_of : {A : Type 0} → ℕ → A → ℕ → List ℕ → Bool → Result (A × List ℕ) CertFault
sep_of total x b left t = cond t (Ok (x, left)) (Err (CertSyntax (total - length (b ∷ left))))

pub field_again : {A : Type 0} (kind : FieldKind) (test : List ℕ → Option A) (sep total : ℕ) (bytes left : List ℕ)
    (x : A)
    → all_pass is_field_byte bytes ≡ true → is_field_byte sep ≡ false → test bytes ≡ Some x
    → read_field kind test sep total ((bytes ++ sep ∷ []) ++ left) ≡ Ok (x, left)
unfolding read_field
field_again {A = A} kind test sep total bytes left x h s t =
    let whole : (bytes ++ sep ∷ []) ++ left ≡ bytes ++ sep ∷ left = append_assoc bytes (sep ∷ []) left in
    let unfit : CertFault = field_fault kind (total - length (bytes ++ sep ∷ left)) in
    ap (λ (bs : List ℕ). rest_of (field_fault kind (total - length bs)) sep total (test (next_field bs)) (behind_field bs)) whole
    ∙ ap (λ (r : List ℕ). rest_of unfit sep total (test (next_field (bytes ++ sep ∷ left))) r) (behind_is is_field_byte bytes sep left h s)
    ∙ ap (λ (f : List ℕ). rest_of unfit sep total (test f) (sep ∷ left)) (front_is is_field_byte bytes sep left h s)
    ∙ ap (λ (o : Option A). rest_of unfit sep total o (sep ∷ left)) t
    ∙ ap (sep_of total x sep left) (eq-eqb sep sep refl)

only_sep : {A : Type 0} (sep total : ℕ) (y : A) (b : ℕ) (more : List ℕ) (x : A) (left : List ℕ) (t : Bool)
    → eqb b sep ≡ t
    → sep_of total y b more (eqb b sep) ≡ Ok (x, left) → (Some y ≡ Some x) × (b ∷ more ≡ sep ∷ left)
only_sep sep total y b more x left true h e =
    let f = ok_is (y, more) (x, left) (sym (ap (sep_of total y b more) h) ∙ e) in
    let first : y ≡ x = ap (λ p. p.0) f in
    let second : more ≡ left = ap (λ p. p.1) f in
    let third : b ≡ sep = eqb-true b sep h in
    (ap Some first, λ i. third i ∷ second i)
only_sep sep total y b more x left false h e = absurd (let bad = sym (ap (sep_of total y b more) h) ∙ e in cc)

only_some : {A : Type 0} (unfit : CertFault) (sep total : ℕ) (o : Option A) (r : List ℕ) (x : A) (left : List ℕ)
    → rest_of unfit sep total o r ≡ Ok (x, left) → (o ≡ Some x) × (r ≡ sep ∷ left)
only_some unfit sep total o [] x left e = absurd cc
only_some unfit sep total None (b ∷ more) x left e = absurd cc
only_some unfit sep total (Some y) (b ∷ more) x left e = only_sep sep total y b more x left (eqb b sep) refl e

pub field_only : {A : Type 0} (kind : FieldKind) (test : List ℕ → Option A) (sep total : ℕ) (bytes : List ℕ) (x : A)
    (left : List ℕ) → read_field kind test sep total bytes ≡ Ok (x, left)
    → (front : List ℕ) × (test front ≡ Some x) × (bytes ≡ (front ++ sep ∷ []) ++ left)
unfolding read_field
field_only kind test sep total bytes x left e =
    let p = only_some (field_fault kind (total - length bytes)) sep total (test (next_field bytes)) (behind_field bytes) x left e in (
      next_field bytes,
      p.0,
      sym (parted is_field_byte bytes) ∙ ap (λ (r : List ℕ). next_field bytes ++ r) p.1
          ∙ sym (append_assoc (next_field bytes) (sep ∷ []) left),
    )

-- ---- words
-- compared byte by byte, a word is equal to itself
pub word_itself : (xs : List ℕ) → pointwise eqb xs xs ≡ true
word_itself [] = refl
word_itself (x ∷ xs) = and_from (eqb x x) (pointwise eqb xs xs) (eq-eqb x x refl) (word_itself xs)

-- ---- whole numbers
digit_inside : (d : ℕ) → is_ascii_digit d ≡ true → is_field_byte d ≡ true
digit_inside d h =
    let r = digit_range d h in
    let a : eqb d 32 ≡ false = ne_eqb d 32 (λ e. omega arith) in
    let b : eqb d 10 ≡ false = ne_eqb d 10 (λ e. omega arith) in
    rw (a, b) refl

digit_no_slash : (d : ℕ) → is_ascii_digit d ≡ true → is_no_slash d ≡ true
digit_no_slash d h =
    let r = digit_range d h in
    let a : eqb d 47 ≡ false = ne_eqb d 47 (λ e. omega arith) in
    rw a refl

digits_pass : (p : ℕ → Bool) → ((d : ℕ) → is_ascii_digit d ≡ true → p d ≡ true) → (ds : List ℕ)
    → all_ascii_digits ds ≡ true → all_pass p ds ≡ true
digits_pass p each [] h = refl
digits_pass p each (d ∷ ds) h = let q = and_parts (is_ascii_digit d) (all_ascii_digits ds) h in and_from (p d) (all_pass p ds) (each d q.0)
    (digits_pass p each ds q.1)

-- digits behind a number
value_behind : (n : ℕ) (cs : List ℕ) → 0 < n → all_ascii_digits cs ≡ true → n * 10 ^ length cs + number_of cs < 10 ^ 64
    → decimal (n * 10 ^ length cs + number_of cs) ≡ decimal n ++ cs
value_behind n [] some d small = let e : n * 1 + 0 ≡ n = omega arith in ap decimal e ∙ sym (append-nil (decimal n))
value_behind n (c ∷ cs) some d small =
    let p = and_parts (is_ascii_digit c) (all_ascii_digits cs) d in
    let r = digit_range c p.0 in
    let m : ℕ = n * 10 + (c - 48) in
    let t = 10 ^ length cs in
    let power : 10 ^ length (c ∷ cs) ≡ t * 10 = pow-suc 10 (length cs) in
    let whole : n * 10 ^ length (c ∷ cs) + ((c - 48) * t + number_of cs) ≡ m * t + number_of cs = ap (λ q. n * q + ((c - 48) * t + number_of cs)) power
    ∙ omega arith in
    let front : m / 10 ≡ n = omega arith in
    let end : 48 + m % 10 ≡ c = omega arith in
    let less : m ≤ m * t + number_of cs = omega (arith, mul-le m 1 m t (omega arith) (one-le-pow (length cs) 10 (omega arith))) in
    ap decimal whole
    ∙ value_behind m cs (omega arith) p.1 (omega arith)
    ∙ ap (λ (x : List ℕ). x ++ cs) (decimal_step_wide m (omega arith) (omega arith) ∙ (λ i. decimal (front i) ++ (end i ∷ [])))
    ∙ append_assoc (decimal n) (c ∷ []) cs

-- digits without a leading zero are the decimal text of their number
pub plain_decimal : (ds : List ℕ) → is_numeral ds ≡ true → leads_no_zero ds ≡ true → number_of ds < 10 ^ 64
    → decimal (number_of ds) ≡ ds
plain_decimal [] h plain small = absurd cc
plain_decimal (d ∷ []) h plain small =
    let p = and_parts (is_ascii_digit d && true) _ h in
    let q = and_parts (is_ascii_digit d) true p.0 in
    let r = digit_range d q.0 in
    ap decimal (omega arith) ∙ decimal_digit (d - 48) (omega arith) ∙ ap (λ (x : ℕ). x ∷ []) (omega arith)
plain_decimal (d ∷ e ∷ cs) h plain small =
    let p = and_parts (all_ascii_digits (d ∷ e ∷ cs)) _ h in
    let q = and_parts (is_ascii_digit d) (all_ascii_digits (e ∷ cs)) p.0 in
    let r = digit_range d q.0 in
    let some : d ≡ 48 → ⊥ = λ z. (let bad = sym (ap not (eq-eqb d 48 z)) ∙ plain in cc) in
    value_behind (d - 48) (e ∷ cs) (omega (arith, some)) q.1 small
    ∙ ap (λ (x : List ℕ). x ++ e ∷ cs) (decimal_digit (d - 48) (omega arith) ∙ ap (λ (x : ℕ). x ∷ []) (omega arith))

pub record IsDecimalOf (n : ℕ) (ds : List ℕ) : Type 0 where
  pub numeral : is_numeral ds ≡ true
  pub plain : leads_no_zero ds ≡ true
  pub value : number_of ds ≡ n

plain_from : (n : ℕ) (ds : List ℕ) → (0 < n → 48 < get_or ds 0 0) → (n ≡ 0 → ds ≡ 48 ∷ []) → leads_no_zero ds ≡ true
plain_from n [] first none = refl
plain_from n (d ∷ []) first none = refl
plain_from n (d ∷ e ∷ ds) first none =
    let some : 0 < n = ⊎_elim (λ z. absurd (let bad = none z in cc)) (λ no. omega (arith, no)) (cases_eq n 0) in
    ap not (ne_eqb d 48 (λ z. omega (arith, first some)))

pub decimal_is : (n : ℕ) → n ≤ 2 ^ 127 → IsDecimalOf n (decimal n)
decimal_is n small =
    let c = int_text-canonical (pos n) small in
    record { numeral = c.numeral; plain = plain_from n (decimal n) c.no_leading_zero c.zero; value = c.value }

-- the decimal text of a whole number of a range, which ends at 2 ^ 127 at most, is read as this number
pub whole_again : (low high n : ℕ) → high ≤ 2 ^ 127 → low ≤ n → n ≤ high → whole_in low high (decimal n) ≡ Some n
unfolding whole_in
whole_again low high n small a b =
    let t = decimal_is n (omega arith) in
    let f : List ℕ = decimal n in
    let inner : (leb low (number_of f) && leb (number_of f) high) ≡ true = and_from _ _ (le-leb low (number_of f) (omega (arith, t.value)))
    (le-leb (number_of f) high (omega (arith, t.value))) in
    ap (λ b. cond b (Some (number_of f)) None) (and_from (is_numeral f) _ t.numeral (and_from (leads_no_zero f) _ t.plain inner)) ∙ ap Some t.value

some_if : (b : Bool) (m n : ℕ) → cond b (Some m) None ≡ Some n → (b ≡ true) × (m ≡ n)
some_if true m n e = (refl, cc)
some_if false m n e = absurd cc

-- bytes read as a number of a range, which ends at 2 ^ 127 at most, are its decimal text, and it is in the range
pub whole_only : (low high n : ℕ) (bytes : List ℕ) → high ≤ 2 ^ 127 → whole_in low high bytes ≡ Some n
    → (low ≤ n) × (n ≤ high) × (bytes ≡ decimal n)
unfolding whole_in
whole_only low high n bytes small e =
    let v = number_of bytes in
    let p = some_if _ v n e in
    let a = and_parts (is_numeral bytes) (leads_no_zero bytes && (leb low v && leb v high)) p.0 in
    let b = and_parts (leads_no_zero bytes) (leb low v && leb v high) a.1 in
    let c = and_parts (leb low v) (leb v high) b.1 in
    let l = leb-true low v c.0 in
    let h = leb-true v high c.1 in
    (omega (arith, p.1), omega (arith, p.1), sym (ap decimal (sym p.1) ∙ plain_decimal bytes a.0 b.0 (omega arith)))

decimal_pass : (p : ℕ → Bool) → ((d : ℕ) → is_ascii_digit d ≡ true → p d ≡ true) → (n : ℕ) → n ≤ 2 ^ 127
    → all_pass p (decimal n) ≡ true
decimal_pass p each n small = digits_pass p each (decimal n) (and_parts (all_ascii_digits (decimal n)) _ (decimal_is n small).numeral).0

-- the decimal text of a whole number up to 2 ^ 127 holds no space and no line feed
pub decimal_inside : (n : ℕ) → n ≤ 2 ^ 127 → all_pass is_field_byte (decimal n) ≡ true
decimal_inside n small = decimal_pass is_field_byte digit_inside n small

-- ---- whole numbers with a sign
some_digit : (n : ℕ) → n ≤ 2 ^ 127 → decimal n ≡ [] → ⊥
some_digit n small e = let t = decimal_is n small in let bad = sym (ap is_numeral e) ∙ t.numeral in cc

first_digit : (n b : ℕ) (ds : List ℕ) → n ≤ 2 ^ 127 → decimal n ≡ b ∷ ds → b ≡ 45 → ⊥
first_digit n b ds small e z =
    let t = decimal_is n small in
    let digits = and_parts (all_ascii_digits (b ∷ ds)) _ (sym (ap is_numeral e) ∙ t.numeral) in
    let first = and_parts (is_ascii_digit b) (all_ascii_digits ds) digits.0 in
    omega (arith, (digit_range b first.0).0)

abbrev by_minus : ℕ → ℕ → List ℕ → Bool → Option ℤ
by_minus most b ds t = cond t (option_map negative_of (whole_in 1 most ds)) (option_map (λ (m : ℕ). pos m) (whole_in 0 most (b ∷ ds)))

not_minus : (most n : ℕ) (bytes : List ℕ) → decimal n ≡ bytes → most ≤ 2 ^ 126 → n ≤ most
    → integer_in most bytes ≡ Some (pos n)
unfolding integer_in
not_minus most n [] e small h = absurd (some_digit n (omega arith) e)
not_minus most n (b ∷ ds) e small h =
    let here : whole_in 0 most (b ∷ ds) ≡ Some n = ap (whole_in 0 most) (sym e) ∙ whole_again 0 most n (omega arith) (omega arith) h in
    let other : eqb b 45 ≡ false = ne_eqb b 45 (λ z. first_digit n b ds (omega arith) e z) in
    ap (by_minus most b ds) other ∙ ap (option_map (λ (m : ℕ). pos m)) here

-- the decimal text of a signed number whose size is within a limit, itself 2 ^ 126 at most, is read as this number
pub integer_again : (most : ℕ) (n : ℤ) → most ≤ 2 ^ 126 → unsigned_abs n ≤ most
    → integer_in most (signed_decimal n) ≡ Some n
unfolding integer_in
integer_again most (pos n) small h = not_minus most n (decimal n) refl small h
integer_again most (negsuc n) small h = ap (option_map negative_of) (whole_again 1 most (suc n) (omega arith) (omega arith) h)

negative_is : (m : ℕ) (n : ℤ) → 1 ≤ m → negative_of m ≡ n → n ≡ negsuc (m - 1)
negative_is zero n h e = absurd (omega arith)
negative_is (suc m) n h e = sym e ∙ ap negsuc (omega arith)

integer_only_by : (most : ℕ) (n : ℤ) (b : ℕ) (ds : List ℕ) (t : Bool) → most ≤ 2 ^ 126 → eqb b 45 ≡ t
    → by_minus most b ds (eqb b 45) ≡ Some n → (unsigned_abs n ≤ most) × (b ∷ ds ≡ signed_decimal n)
integer_only_by most n b ds true small h e =
    let here = sym (ap (by_minus most b ds) h) ∙ e in
    let p = option_map_some negative_of (whole_in 1 most ds) n here in
    let q = whole_only 1 most p.0 ds (omega arith) p.1 in
    let is = negative_is p.0 n q.0 p.2 in
    let next : suc (p.0 - 1) ≡ p.0 = omega (arith, q.0) in
    let first : b ≡ 45 = eqb-true b 45 h in
    subst (λ (z : ℤ). (unsigned_abs z ≤ most) × (b ∷ ds ≡ signed_decimal z)) (sym is)
    (omega (arith, q.1, next), (λ i. first i ∷ ds) ∙ ap (λ (xs : List ℕ). 45 ∷ xs) (q.2 ∙ ap decimal (sym next)))
integer_only_by most n b ds false small h e =
    let here = sym (ap (by_minus most b ds) h) ∙ e in
    let p = option_map_some (λ (m : ℕ). pos m) (whole_in 0 most (b ∷ ds)) n here in
    let q = whole_only 0 most p.0 (b ∷ ds) (omega arith) p.1 in
    subst (λ (z : ℤ). (unsigned_abs z ≤ most) × (b ∷ ds ≡ signed_decimal z)) p.2 (q.1, q.2)

-- bytes read as a signed number within a limit, itself 2 ^ 126 at most, are its decimal text, and it is within it
pub integer_only : (most : ℕ) (n : ℤ) (bytes : List ℕ) → most ≤ 2 ^ 126 → integer_in most bytes ≡ Some n
    → (unsigned_abs n ≤ most) × (bytes ≡ signed_decimal n)
unfolding integer_in
integer_only most n [] small e = absurd cc
integer_only most n (b ∷ ds) small e = integer_only_by most n b ds (eqb b 45) small refl e

integer_pass : (p : ℕ → Bool) → ((d : ℕ) → is_ascii_digit d ≡ true → p d ≡ true) → p 45 ≡ true → (n : ℤ)
    → unsigned_abs n ≤ 2 ^ 127 → all_pass p (signed_decimal n) ≡ true
integer_pass p each sign (pos n) h = decimal_pass p each n h
integer_pass p each sign (negsuc n) h = and_from (p 45) (all_pass p (decimal (suc n))) sign (decimal_pass p each (suc n) h)

-- the decimal text of a signed number whose size is 2 ^ 127 at most holds no space and no line feed
pub integer_inside : (n : ℤ) → unsigned_abs n ≤ 2 ^ 127 → all_pass is_field_byte (signed_decimal n) ≡ true
integer_inside n h = integer_pass is_field_byte digit_inside refl n h

-- ---- fractions
pub record IsLowestWithin (most : ℕ) (f : Fraction) : Type 0 where
  pub positive : 1 ≤ f.den
  pub coprime : gcd (unsigned_abs f.num) f.den ≡ 1
  pub num : unsigned_abs f.num ≤ most
  pub den : f.den ≤ most

-- a fraction that passes the test is in lowest terms, its denominator isn't 0, and both parts are within the limit
pub lowest_parts : (most : ℕ) (f : Fraction) → is_lowest_within most f ≡ true → IsLowestWithin most f
lowest_parts most f fits =
    let a = and_parts (leb 1 f.den && eqb (gcd (unsigned_abs f.num) f.den) 1) (leb (unsigned_abs f.num) most && leb f.den most) fits in
    let b = and_parts (leb 1 f.den) (eqb (gcd (unsigned_abs f.num) f.den) 1) a.0 in
    let c = and_parts (leb (unsigned_abs f.num) most) (leb f.den most) a.1 in
    record {
      positive = leb-true 1 f.den b.0;
      coprime = eqb-true (gcd (unsigned_abs f.num) f.den) 1 b.1;
      num = leb-true (unsigned_abs f.num) most c.0;
      den = leb-true f.den most c.1;
    }

-- a fraction in lowest terms passes the test, where its denominator isn't 0 and both parts are within the limit
pub lowest_from : (most : ℕ) (f : Fraction) → IsLowestWithin most f → is_lowest_within most f ≡ true
lowest_from most f is =
    and_from (leb 1 f.den && eqb (gcd (unsigned_abs f.num) f.den) 1) (leb (unsigned_abs f.num) most && leb f.den most)
    (and_from (leb 1 f.den) (eqb (gcd (unsigned_abs f.num) f.den) 1) (le-leb 1 f.den is.positive) (eq-eqb (gcd (unsigned_abs f.num) f.den) 1 is.coprime))
    (and_from (leb (unsigned_abs f.num) most) (leb f.den most) (le-leb (unsigned_abs f.num) most is.num) (le-leb f.den most is.den))

abbrev text_by : Fraction → Bool → List ℕ
text_by f one = cond one (signed_decimal f.num) (signed_decimal f.num ++ slash ∷ decimal f.den)

fraction_inside_by : (most : ℕ) (f : Fraction) (one : Bool) → most ≤ 2 ^ 126 → IsLowestWithin most f
    → all_pass is_field_byte (text_by f one) ≡ true
fraction_inside_by most f true small is = integer_inside f.num (omega (arith, is.num))
fraction_inside_by most f false small is = pass_append is_field_byte (signed_decimal f.num) (slash ∷ decimal f.den)
    (integer_inside f.num (omega (arith, is.num))) (decimal_inside f.den (omega (arith, is.den)))

-- the text of a fraction in lowest terms whose parts are 2 ^ 126 at most holds no space and no line feed
pub fraction_inside : (most : ℕ) (f : Fraction) → most ≤ 2 ^ 126 → IsLowestWithin most f
    → all_pass is_field_byte (fraction_text f) ≡ true
fraction_inside most f small is = fraction_inside_by most f (eqb f.den 1) small is

no_slash : (most : ℕ) (f : Fraction) → most ≤ 2 ^ 126 → IsLowestWithin most f
    → all_pass is_no_slash (signed_decimal f.num) ≡ true
no_slash most f small is = integer_pass is_no_slash digit_no_slash refl f.num (omega (arith, is.num))

fraction_again_by : (most : ℕ) (f : Fraction) (one : Bool) → most ≤ 2 ^ 126 → IsLowestWithin most f → eqb f.den 1 ≡ one
    → fraction_in most (text_by f one) ≡ Some f
unfolding fraction_in
fraction_again_by most f true small is h =
    let n : List ℕ = signed_decimal f.num in
    let none = no_slash most f small is in
    let den : f.den ≡ 1 = eqb-true f.den 1 h in
    ap (λ (r : List ℕ). lowest_in most (integer_in most (take (prefix_len is_no_slash n) n)) r) (behind_all is_no_slash n none)
    ∙ ap (λ (t : List ℕ). lowest_in most (integer_in most t) []) (front_all is_no_slash n none)
    ∙ ap (λ (o : Option ℤ). lowest_in most o []) (integer_again most f.num small is.num)
    ∙ (λ i. Some (record { num = f.num; den = sym den i }))
fraction_again_by most f false small is h =
    let n : List ℕ = signed_decimal f.num in
    let ds : List ℕ = decimal f.den in
    let whole : List ℕ = n ++ slash ∷ ds in
    let none = no_slash most f small is in
    let two : 2 ≤ f.den = ⊎_elim (λ e. absurd (let bad = sym h ∙ eq-eqb f.den 1 e in cc)) (λ no. omega (arith, no, is.positive)) (cases_eq f.den 1) in
    ap (λ (r : List ℕ). lowest_in most (integer_in most (take (prefix_len is_no_slash whole) whole)) r) (behind_is is_no_slash n slash ds none refl)
    ∙ ap (λ (t : List ℕ). lowest_in most (integer_in most t) (slash ∷ ds)) (front_is is_no_slash n slash ds none refl)
    ∙ ap (λ (o : Option ℤ). lowest_in most o (slash ∷ ds)) (integer_again most f.num small is.num)
    ∙ ap (over_in f.num) (whole_again 2 most f.den (omega arith) two is.den)
    ∙ ap (λ t. cond t (Some f) None) (eq-eqb (gcd (unsigned_abs f.num) f.den) 1 is.coprime)

-- the text of a fraction in lowest terms within a limit, itself 2 ^ 126 at most, is read as this fraction
pub fraction_again : (most : ℕ) (f : Fraction) → most ≤ 2 ^ 126 → IsLowestWithin most f
    → fraction_in most (fraction_text f) ≡ Some f
fraction_again most f small is = fraction_again_by most f (eqb f.den 1) small is refl

slash_is : (b : ℕ) (t : Bool) → eqb b slash ≡ t → is_no_slash b ≡ false → b ≡ slash
slash_is b true h e = eqb-true b slash h
slash_is b false h e = absurd (let bad = sym (ap not h) ∙ e in cc)

over_only : (num : ℤ) (o : Option ℕ) (f : Fraction) → over_in num o ≡ Some f
    → (den : ℕ) × (o ≡ Some den) × (gcd (unsigned_abs num) den ≡ 1) × (record { num = num; den = den } ≡ f)
over_only num None f e = absurd cc
over_only num (Some den) f e = (let p = by (eqb (gcd (unsigned_abs num) den) 1) refl e in (den, refl, p.0, p.1))
  where
    by : (t : Bool) → eqb (gcd (unsigned_abs num) den) 1 ≡ t
        → cond (eqb (gcd (unsigned_abs num) den) 1) (Some (record { num = num; den = den })) None ≡ Some f
        → (gcd (unsigned_abs num) den ≡ 1) × (record { num = num; den = den } ≡ f)
    by true h e = (
      eqb-true (gcd (unsigned_abs num) den) 1 h,
      some_same (record { num = num; den = den })
          (sym (ap (λ t. cond t (Some (record { num = num; den = den })) None) h) ∙ e),
    )
      where
        some_same : (g : Fraction) → Some g ≡ Some f → g ≡ f
        some_same g e = cc
    by false h e = absurd (let bad = sym (ap (λ t. cond t (Some (record { num = num; den = den })) None) h) ∙ e in cc)

only_lowest : (most : ℕ) (front behind : List ℕ) (o : Option ℤ) (f : Fraction) → most ≤ 2 ^ 126 → 1 ≤ most
    → integer_in most front ≡ o → ((b : ℕ) (more : List ℕ) → behind ≡ b ∷ more → is_no_slash b ≡ false)
    → lowest_in most o behind ≡ Some f → IsLowestWithin most f × (front ++ behind ≡ fraction_text f)
only_lowest most front behind None f small one h stop e = absurd cc
only_lowest most front [] (Some num) f small one h stop e =
    let q = integer_only most num front small h in
    let is : whole_number num ≡ f = cc in
    subst (λ (g : Fraction). IsLowestWithin most g × (front ++ [] ≡ fraction_text g)) is
    (record { positive = omega arith; coprime = gcd-with_one (unsigned_abs num); num = q.0; den = one }, append-nil front ∙ q.1)
only_lowest most front (b ∷ ds) (Some num) f small one h stop e =
    let q = integer_only most num front small h in
    let p = over_only num (whole_in 2 most ds) f e in
    let w = whole_only 2 most p.0 ds (omega arith) p.1 in
    let first : b ≡ slash = slash_is b (eqb b slash) refl (stop b ds refl) in
    let two : eqb p.0 1 ≡ false = ne_eqb p.0 1 (λ z. omega (arith, w.0, z)) in
    subst (λ (g : Fraction). IsLowestWithin most g × (front ++ b ∷ ds ≡ fraction_text g)) p.3 (
      record { positive = omega (arith, w.0); coprime = p.2; num = q.0; den = w.1 },
      ap (λ (xs : List ℕ). xs ++ b ∷ ds) q.1 ∙ (λ i. signed_decimal num ++ first i ∷ w.2 i) ∙ sym (ap (text_by (record { num = num; den = p.0 })) two),
    )

-- bytes read as a fraction within a limit from 1 to 2 ^ 126 are its text, and it is within it in lowest terms
pub fraction_only : (most : ℕ) (f : Fraction) (bytes : List ℕ) → most ≤ 2 ^ 126 → 1 ≤ most
    → fraction_in most bytes ≡ Some f → IsLowestWithin most f × (bytes ≡ fraction_text f)
unfolding fraction_in
fraction_only most f bytes small one e =
    let front = take (prefix_len is_no_slash bytes) bytes in
    let behind = drop (prefix_len is_no_slash bytes) bytes in
    let p = only_lowest most front behind (integer_in most front) f small one refl (λ b more h. stops is_no_slash bytes b more h) e in
    (p.0, sym (parted is_no_slash bytes) ∙ p.1)
