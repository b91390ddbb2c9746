-- The laws of a field and its separator, and of a whole number with the end of its line.
use Rattle.std.proofs.Common.{◌≡◌, ℕ, suc, ◌+◌, ◌-◌, ◌^◌, ◌≤◌, Bool, true, false, cond, eqb, leb, List, [], ◌∷◌, ◌++◌, ◌&&◌, ◌||◌, length, take, Option, Some}
use Rattle.std.proofs.Common.{None, Result, Ok, Err, ℤ, unsigned_abs, refl, sym, ap, ◌∙◌, subst, append_assoc, arith}
use Rattle.std.specs.Prelude.{not}
use Rattle.std.specs.List.{prefix_len}
use Rattle.std.specs.Cmp.Lexicographic.{pointwise, same_text}
use Rattle.std.specs.Fmt.{decimal, signed_decimal}
use Rattle.std.proofs.lemmas.List.{append-nil, length-append}
use Rattle.std.proofs.lemmas.Bool.{and_parts, and_from, leb-true, le-leb, eqb-true, eq-eqb, not-true}
use Rattle.def_fraction.specs.Fraction.{Fraction, is_zero}
use Rattle.def_fraction.specs.Text.{fraction_text}
use Rattle.def_fraction.proofs.DivisorLemmas.{gcd-with_one}
use Rattle.def_cert_text.specs.declared.fault.CertFault.{CertFault}
use Rattle.def_cert_text.specs.declared.fault.CertFault.TheVariants.{CertSyntax, CertNumber, CertShort}
use Rattle.def_cert_text.specs.Fields.{◌>>=◌, space, feed, FieldKind, number, TextItem, field, separator, items_text, is_field_byte, next_field, behind_field}
use Rattle.def_cert_text.specs.Fields.{is_empty, field_fault, if_fit, read_field}
use Rattle.def_cert_text.specs.Numbers.{whole_in, integer_in, fraction_in, unless_zero, nonzero_in}
use Rattle.def_cert_text.specs.Formats.{Format, text_of, one_field, whole_field, integer_field, is_lowest_within, fraction_field, nonzero_field, same_bytes}
use Rattle.def_cert_text.specs.Formats.{fixed_field, with_end_if_fit, read_number}
use Rattle.def_cert_text.specs.FirstFault.{Place, of_field, of_separator, place_of_item, StopsReading, cut_short, unfit, HasFirstFault}
use Rattle.def_cert_text.proofs.FieldLaws.{ok_is, all_pass, front_is, behind_is, behind_all, parted, stops, word_itself, whole_again, whole_only}
use Rattle.def_cert_text.proofs.FieldLaws.{decimal_inside, integer_again, integer_only, integer_inside, lowest_parts, lowest_from, fraction_inside}
use Rattle.def_cert_text.proofs.FieldLaws.{fraction_again, fraction_only}
use Rattle.def_cert_text.proofs.FormatLaws.{IsFormat, view_laws}

-- ---- a field with one of some separators, which is part of the value
abbrev any_sep : {A : Type 0} → (ℕ → Bool) → ℕ → A → List ℕ → Result ((A × ℕ) × List ℕ) CertFault
any_sep ok total x [] = Err CertShort
any_sep ok total x (b ∷ left) = cond (ok b) (Ok ((x, b), left)) (Err (CertSyntax (total - length (b ∷ left))))

abbrev any_if_fit : {A : Type 0} → CertFault → (ℕ → Bool) → ℕ → Option A → List ℕ → Result ((A × ℕ) × List ℕ) CertFault
any_if_fit off ok total None left = Err off
any_if_fit off ok total (Some x) left = any_sep ok total x left

abbrev any_rest : {A : Type 0} → CertFault → (ℕ → Bool) → ℕ → Option A → List ℕ → Result ((A × ℕ) × List ℕ) CertFault
any_rest off ok total o left = cond (is_empty left) (Err CertShort) (any_if_fit off ok total o left)

abbrev any_field : {A : Type 0} → FieldKind → (A → Bool) → (A → List ℕ) → (List ℕ → Option A) → (ℕ → Bool)
    → Format (A × ℕ)
any_field kind fits spelled test ok = record {
  fits = λ p. fits p.0 && ok p.1;
  items = λ p. field kind (spelled p.0) ∷ separator p.1 ∷ [];
  read = λ total bytes. any_rest (field_fault kind (total - length bytes)) ok total (test (next_field bytes)) (behind_field bytes);
}

-- the values of a field, and what tests them
pub record IsField (A : Type 0) (fits : A → Bool) (spelled : A → List ℕ) (test : List ℕ → Option A) : Type 0 where
  pub inside : (x : A) → fits x ≡ true → all_pass is_field_byte (spelled x) ≡ true
  pub again : (x : A) → fits x ≡ true → test (spelled x) ≡ Some x
  pub only : (bytes : List ℕ) (x : A) → test bytes ≡ Some x → (fits x ≡ true) × (bytes ≡ spelled x)
  pub some : A
  pub some_fits : fits some ≡ true

record AreSeparators (ok : ℕ → Bool) : Type 0 where
  separates : (b : ℕ) → ok b ≡ true → is_field_byte b ≡ false
  some_sep : ℕ
  some_ok : ok some_sep ≡ true

abbrev pair_sep : {A : Type 0} → CertFault → A → ℕ → List ℕ → Bool → Result ((A × ℕ) × List ℕ) CertFault
pair_sep fault x b left t = cond t (Ok ((x, b), left)) (Err fault)

any_again : (A : Type 0) (kind : FieldKind) (fits : A → Bool) (spelled : A → List ℕ) (test : List ℕ → Option A)
    (ok : ℕ → Bool) → IsField A fits spelled test → AreSeparators ok
    → (total : ℕ) (p : A × ℕ) (left : List ℕ) → (any_field kind fits spelled test ok).fits p ≡ true
    → (any_field kind fits spelled test ok).read total (text_of (any_field kind fits spelled test ok) p ++ left) ≡ Ok (p, left)
unfolding items_text
any_again A kind fits spelled test ok is seps total p left fit =
    let x = p.0 in
    let b = p.1 in
    let q = and_parts (fits x) (ok b) fit in
    let bytes : List ℕ = spelled x in
    let h = is.inside x q.0 in
    let s = seps.separates b q.1 in
    let whole : (bytes ++ b ∷ []) ++ left ≡ bytes ++ b ∷ left = append_assoc bytes (b ∷ []) left in
    let fault : CertFault = field_fault kind (total - length (bytes ++ b ∷ left)) in
    ap ((any_field kind fits spelled test ok).read total) whole
    ∙ ap (λ (r : List ℕ). any_rest fault ok total (test (next_field (bytes ++ b ∷ left))) r) (behind_is is_field_byte bytes b left h s)
    ∙ ap (λ (f : List ℕ). any_rest fault ok total (test f) (b ∷ left)) (front_is is_field_byte bytes b left h s)
    ∙ ap (λ (o : Option A). any_rest fault ok total o (b ∷ left)) (is.again x q.0)
    ∙ ap (pair_sep (CertSyntax (total - length (b ∷ left))) x b left) q.1

sep_only : (A : Type 0) (fault : CertFault) (x : A) (b : ℕ) (more : List ℕ) (p : A × ℕ) (left : List ℕ) (t : Bool)
    → pair_sep fault x b more t ≡ Ok (p, left) → (t ≡ true) × ((x, b) ≡ p) × (more ≡ left)
sep_only A fault x b more p left true e = let f = ok_is ((x, b), more) (p, left) e in (refl, ap (λ q. q.0) f, ap (λ q. q.1) f)
sep_only A fault x b more p left false e = absurd cc

rest_only : (A : Type 0) (fault : CertFault) (ok : ℕ → Bool) (total : ℕ) (o : Option A) (r : List ℕ) (p : A × ℕ)
    (left : List ℕ) → any_rest fault ok total o r ≡ Ok (p, left)
    → (o ≡ Some p.0) × (ok p.1 ≡ true) × (r ≡ p.1 ∷ left)
rest_only A fault ok total o [] p left e = absurd cc
rest_only A fault ok total None (b ∷ more) p left e = absurd cc
rest_only A fault ok total (Some x) (b ∷ more) p left e =
    let q = sep_only A (CertSyntax (total - length (b ∷ more))) x b more p left (ok b) e in
    (ap (λ z. Some z.0) q.1, ap (λ z. ok z.1) (sym q.1) ∙ q.0, (λ i. (q.1 i).1 ∷ q.2 i))

any_only : (A : Type 0) (kind : FieldKind) (fits : A → Bool) (spelled : A → List ℕ) (test : List ℕ → Option A)
    (ok : ℕ → Bool) → IsField A fits spelled test
    → (total : ℕ) (bytes : List ℕ) (p : A × ℕ) (left : List ℕ)
    → (any_field kind fits spelled test ok).read total bytes ≡ Ok (p, left)
    → ((any_field kind fits spelled test ok).fits p ≡ true) × (bytes ≡ text_of (any_field kind fits spelled test ok) p ++ left)
unfolding items_text
any_only A kind fits spelled test ok is total bytes p left e =
    let q = rest_only A (field_fault kind (total - length bytes)) ok total (test (next_field bytes)) (behind_field bytes) p left e in
    let r = is.only (next_field bytes) p.0 q.0 in (
      and_from (fits p.0) (ok p.1) r.0 q.1,
      sym (parted is_field_byte bytes) ∙ (λ i. r.1 i ++ q.2 i) ∙ sym (append_assoc (spelled p.0) (p.1 ∷ []) left),
    )

-- ---- its faults
no_field : (b : ℕ) (more : List ℕ) → is_field_byte b ≡ false → next_field (b ∷ more) ≡ []
no_field b more s = ap (λ t. take (cond t (1 + prefix_len is_field_byte more) 0) (b ∷ more)) s

abbrev failed : {A : Type 0} → CertFault → Result A CertFault
failed fault = Err fault

err_same : (A : Type 0) (a b : CertFault) → failed {A = A} a ≡ failed {A = A} b → a ≡ b
err_same A a b e = cc

sep_err : (A : Type 0) (fault other : CertFault) (x : A) (b : ℕ) (more : List ℕ) (t : Bool)
    → pair_sep other x b more t ≡ Err fault → (t ≡ false) × (fault ≡ other)
sep_err A fault other x b more true e = absurd cc
sep_err A fault other x b more false e = (refl, sym (err_same ((A × ℕ) × List ℕ) other fault e))

first_same : (k : FieldKind) (u v : List ℕ) (us vs : List TextItem) → field k u ∷ us ≡ field k v ∷ vs → u ≡ v
first_same k u v us vs e = cc

second_same : (k : FieldKind) (u v : List ℕ) (a c : ℕ) (us vs : List TextItem)
    → field k u ∷ separator a ∷ us ≡ field k v ∷ separator c ∷ vs → (u ≡ v) × (a ≡ c)
second_same k u v a c us vs e = (cc, cc)

any_fault : (A : Type 0) (kind : FieldKind) (fits : A → Bool) (spelled : A → List ℕ) (test : List ℕ → Option A)
    (ok : ℕ → Bool) → IsField A fits spelled test → AreSeparators ok
    → (total : ℕ) (bytes : List ℕ) (fault : CertFault) (o : Option A) (r : List ℕ) → test (next_field bytes) ≡ o
    → behind_field bytes ≡ r
    → any_rest (field_fault kind (total - length bytes)) ok total o r ≡ Err fault
    → HasFirstFault (any_field kind fits spelled test ok) total bytes fault
unfolding items_text
any_fault A kind fits spelled test ok is seps total bytes fault o [] he hr e = record {
  items = [];
  place = of_field kind;
  left = bytes;
  parts = refl;
  whole_before = λ h. absurd cc;
  needed = (
    field kind (spelled is.some),
    refl,
    (
      (is.some, seps.some_sep),
      separator seps.some_sep ∷ [],
      and_from (fits is.some) (ok seps.some_sep) is.some_fits seps.some_ok,
      refl,
    ),
  );
  stop = cut_short (ap is_empty hr) (sym (err_same ((A × ℕ) × List ℕ) CertShort fault e));
}
any_fault A kind fits spelled test ok is seps total bytes fault None (b ∷ more) he hr e = record {
  items = [];
  place = of_field kind;
  left = bytes;
  parts = refl;
  whole_before = λ h. absurd cc;
  needed = (
    field kind (spelled is.some),
    refl,
    (
      (is.some, seps.some_sep),
      separator seps.some_sep ∷ [],
      and_from (fits is.some) (ok seps.some_sep) is.some_fits seps.some_ok,
      refl,
    ),
  );
  stop = unfit (ap is_empty hr) (λ p.
      (let q = and_parts (fits p.0.0) (ok p.0.1) p.2 in
      let same = first_same kind (spelled p.0.0) (next_field bytes) (separator p.0.1 ∷ []) p.1 p.3 in
      let some : test (next_field bytes) ≡ Some p.0.0 = ap test (sym same) ∙ is.again p.0.0 q.0 in
      let bad = sym he ∙ some in cc)) (sym (err_same ((A × ℕ) × List ℕ) (field_fault kind (total - length bytes)) fault e));
}
any_fault A kind fits spelled test ok is seps total bytes fault (Some x) (b ∷ more) he hr e =
    let q = is.only (next_field bytes) x he in
    let s = sep_err A fault (CertSyntax (total - length (b ∷ more))) x b more (ok b) e in
    record {
      items = field kind (next_field bytes) ∷ [];
      place = of_separator;
      left = b ∷ more;
      parts = sym (parted is_field_byte bytes) ∙ (λ i. sym (append-nil (next_field bytes)) i ++ hr i);
      whole_before = λ h. no_field b more (stops is_field_byte bytes b more hr);
      needed = (
        separator seps.some_sep,
        refl,
        (
          (x, seps.some_sep),
          [],
          and_from (fits x) (ok seps.some_sep) q.0 seps.some_ok,
          ap (λ (u : List ℕ). field kind u ∷ separator seps.some_sep ∷ []) (sym q.1),
        ),
      );
      stop = unfit refl (λ p.
          (let f = and_parts (fits p.0.0) (ok p.0.1) p.2 in
          let same = second_same kind (spelled p.0.0) (next_field bytes) p.0.1 b [] p.1 p.3 in
          let bad = sym s.0 ∙ sym (ap ok same.1) ∙ f.1 in cc)) s.1;
    }

-- ---- the other way round
short_or : (A : Type 0) (kind : FieldKind) (fits : A → Bool) (spelled : A → List ℕ) (test : List ℕ → Option A)
    (ok : ℕ → Bool) → IsField A fits spelled test → AreSeparators ok
    → (total : ℕ) (bytes : List ℕ) (fault : CertFault) (o : Option A) (r : List ℕ) → test (next_field bytes) ≡ o
    → behind_field bytes ≡ r
    → StopsReading (any_field kind fits spelled test ok) [] (of_field kind) total bytes fault
    → any_rest (field_fault kind (total - length bytes)) ok total o r ≡ Err fault
short_or A kind fits spelled test ok is seps total bytes fault o [] he hr (cut_short short f) = ap Err (sym f)
short_or A kind fits spelled test ok is seps total bytes fault o [] he hr (unfit long none f) = absurd (let bad = sym long ∙ ap is_empty hr in cc)
short_or A kind fits spelled test ok is seps total bytes fault o (b ∷ more) he hr (cut_short short f) = absurd (let bad = sym short ∙ ap is_empty hr in cc)
short_or A kind fits spelled test ok is seps total bytes fault None (b ∷ more) he hr (unfit long none f) = ap Err (sym f)
short_or A kind fits spelled test ok is seps total bytes fault (Some x) (b ∷ more) he hr (unfit long none f) =
    let q = is.only (next_field bytes) x he in
    absurd (none (
      (x, seps.some_sep),
      separator seps.some_sep ∷ [],
      and_from (fits x) (ok seps.some_sep) q.0 seps.some_ok,
      ap (λ (u : List ℕ). field kind u ∷ separator seps.some_sep ∷ []) (sym q.1),
    ))

byte_by : (b : ℕ) (more : List ℕ) (t : Bool) → is_field_byte b ≡ t → next_field (b ∷ more) ≡ []
    → is_field_byte b ≡ false
byte_by b more true h e =
    let n = prefix_len is_field_byte more in
    let one : 1 + n ≡ suc n = omega arith in
    let bad : b ∷ take n more ≡ [] = sym (ap (λ t. take (cond t (1 + n) 0) (b ∷ more)) h ∙ ap (λ k. take k (b ∷ more)) one) ∙ e in
    absurd cc
byte_by b more false h e = h

after_field : (A : Type 0) (kind : FieldKind) (fits : A → Bool) (spelled : A → List ℕ) (test : List ℕ → Option A)
    (ok : ℕ → Bool) → IsField A fits spelled test
    → (total : ℕ) (x : A) (left : List ℕ) (fault : CertFault) → fits x ≡ true → next_field left ≡ []
    → StopsReading (any_field kind fits spelled test ok) (field kind (spelled x) ∷ []) of_separator total left fault
    → (any_field kind fits spelled test ok).read total (spelled x ++ left) ≡ Err fault
after_field A kind fits spelled test ok is total x [] fault fx whole (cut_short short f) =
    let bytes : List ℕ = spelled x in
    let none : behind_field (bytes ++ []) ≡ [] = ap behind_field (append-nil bytes) ∙ behind_all is_field_byte bytes (is.inside x fx) in
    ap (any_rest (field_fault kind (total - length (bytes ++ []))) ok total (test (next_field (bytes ++ [])))) none ∙ ap Err (sym f)
after_field A kind fits spelled test ok is total x [] fault fx whole (unfit long none f) = absurd cc
after_field A kind fits spelled test ok is total x (b ∷ more) fault fx whole (cut_short short f) = absurd cc
after_field A kind fits spelled test ok is total x (b ∷ more) fault fx whole (unfit long none f) =
    let bytes : List ℕ = spelled x in
    let h = is.inside x fx in
    let s = byte_by b more (is_field_byte b) refl whole in
    let unfit_there : CertFault = field_fault kind (total - length (bytes ++ b ∷ more)) in
    ap (λ (r : List ℕ). any_rest unfit_there ok total (test (next_field (bytes ++ b ∷ more))) r) (behind_is is_field_byte bytes b more h s)
    ∙ ap (λ (f : List ℕ). any_rest unfit_there ok total (test f) (b ∷ more)) (front_is is_field_byte bytes b more h s)
    ∙ ap (λ (o : Option A). any_rest unfit_there ok total o (b ∷ more)) (is.again x fx)
    ∙ no_sep (ok b) refl
  where
    no_sep : (t : Bool) → ok b ≡ t → pair_sep (CertSyntax (total - length (b ∷ more))) x b more (ok b) ≡ Err fault
    no_sep true h = absurd (none ((x, b), [], and_from (fits x) (ok b) fx h, refl))
    no_sep false h = ap (pair_sep (CertSyntax (total - length (b ∷ more))) x b more) h ∙ ap Err (sym f)

abbrev at_items : {A : Type 0} → Format A → List TextItem → Place → ℕ → List ℕ → CertFault → Type 0
at_items f items place total left fault = StopsReading f items place total left fault

any_found_at : (A : Type 0) (kind : FieldKind) (fits : A → Bool) (spelled : A → List ℕ) (test : List ℕ → Option A)
    (ok : ℕ → Bool) → IsField A fits spelled test → AreSeparators ok
    → (total : ℕ) (fault : CertFault) (items : List TextItem) (item : TextItem) (more : List TextItem) (place : Place) (left : List ℕ) (x : A) (sep : ℕ)
    → fits x ≡ true
    → field kind (spelled x) ∷ separator sep ∷ [] ≡ (items ++ item ∷ []) ++ more → place_of_item item ≡ place
    → (place ≡ of_separator → next_field left ≡ [])
    → StopsReading (any_field kind fits spelled test ok) items place total left fault
    → (any_field kind fits spelled test ok).read total (items_text items ++ left) ≡ Err fault
unfolding items_text
any_found_at A kind fits spelled test ok is seps total fault [] item more place left x sep fx e kinds whole stop =
    let here : item ≡ field kind (spelled x) = cc in
    let at : place ≡ of_field kind = sym kinds ∙ ap place_of_item here in
    short_or A kind fits spelled test ok is seps total left fault (test (next_field left)) (behind_field left) refl refl
    (subst (λ (p : Place). StopsReading (any_field kind fits spelled test ok) [] p total left fault) at stop)
any_found_at A kind fits spelled test ok is seps total fault (i ∷ []) item more place left x sep fx e kinds whole stop =
    let first : i ≡ field kind (spelled x) = cc in
    let second : item ≡ separator sep = cc in
    let at : place ≡ of_separator = sym kinds ∙ ap place_of_item second in
    let there : StopsReading (any_field kind fits spelled test ok) (field kind (spelled x) ∷ []) of_separator total left fault =
    subst (λ (p : Place). StopsReading (any_field kind fits spelled test ok) (field kind (spelled x) ∷ []) p total left fault) at
    (subst (λ (j : TextItem). StopsReading (any_field kind fits spelled test ok) (j ∷ []) place total left fault) first stop) in
    ap (λ (j : TextItem). (any_field kind fits spelled test ok).read total (items_text (j ∷ []) ++ left)) first
    ∙ ap (λ (bs : List ℕ). (any_field kind fits spelled test ok).read total (bs ++ left)) (append-nil (spelled x))
    ∙ after_field A kind fits spelled test ok is total x left fault fx (whole at) there
any_found_at A kind fits spelled test ok is seps total fault (i ∷ j ∷ items) item more place left x sep fx e kinds whole stop =
    let lengths : 2 ≡ length (((i ∷ j ∷ items) ++ item ∷ []) ++ more) = ap length e in
    absurd (omega (arith, lengths, length-append ((i ∷ j ∷ items) ++ item ∷ []) more, length-append (i ∷ j ∷ items) (item ∷ [])))

any_laws : (A : Type 0) (kind : FieldKind) (fits : A → Bool) (spelled : A → List ℕ) (test : List ℕ → Option A)
    (ok : ℕ → Bool) → IsField A fits spelled test → AreSeparators ok
    → IsFormat (A × ℕ) (any_field kind fits spelled test ok)
any_laws A kind fits spelled test ok is seps = record {
  again = any_again A kind fits spelled test ok is seps;
  only = any_only A kind fits spelled test ok is;
  some = (is.some, seps.some_sep);
  some_fits = and_from (fits is.some) (ok seps.some_sep) is.some_fits seps.some_ok;
  clean = λ p fit.
      let q = and_parts (fits p.0) (ok p.1) fit in
      and_from (all_pass is_field_byte (spelled p.0)) (not (is_field_byte p.1) && true) (is.inside p.0 q.0)
      (and_from (not (is_field_byte p.1)) true (ap not (seps.separates p.1 q.1)) refl);
  faults = λ total bytes fault e. any_fault A kind fits spelled test ok is seps total bytes fault (test (next_field bytes)) (behind_field bytes) refl refl e;
  found = λ total bytes fault h.
      let p = h.needed.2 in
      let q = and_parts (fits p.0.0) (ok p.0.1) p.2 in
      ap ((any_field kind fits spelled test ok).read total) h.parts
      ∙ any_found_at A kind fits spelled test ok is seps total fault h.items h.needed.0 p.1 h.place h.left p.0.0 p.0.1 q.0 p.3 h.needed.1 h.whole_before h.stop;
}

-- ---- one separator
abbrev is_it : ℕ → ℕ → Bool
is_it sep b = eqb b sep

one_separator : (sep : ℕ) → is_field_byte sep ≡ false → AreSeparators (is_it sep)
one_separator sep s = record {
  separates = λ b h. ap is_field_byte (eqb-true b sep h) ∙ s;
  some_sep = sep;
  some_ok = eq-eqb sep sep refl;
}

abbrev pub got : {A : Type 0} → A → List ℕ → Result (A × List ℕ) CertFault
got x left = Ok (x, left)

one_sep : (A : Type 0) (fault : CertFault) (x : A) (b : ℕ) (left : List ℕ) (t : Bool)
    → cond t (got x left) (failed fault) ≡ (pair_sep fault x b left t >>= λ p. got p.0.0 p.1)
one_sep A fault x b left true = refl
one_sep A fault x b left false = refl

one_rest : (A : Type 0) (fault : CertFault) (sep total : ℕ) (o : Option A) (r : List ℕ)
    → cond (is_empty r) (Err CertShort) (if_fit fault sep total o r)
    ≡ (any_rest fault (is_it sep) total o r >>= λ p. got p.0.0 p.1)
one_rest A fault sep total o [] = refl
one_rest A fault sep total None (b ∷ left) = refl
one_rest A fault sep total (Some x) (b ∷ left) = one_sep A (CertSyntax (total - length (b ∷ left))) x b left (eqb b sep)

pub one_field_laws : (A : Type 0) (kind : FieldKind) (fits : A → Bool) (spelled : A → List ℕ) (test : List ℕ → Option A)
    (sep : ℕ) → is_field_byte sep ≡ false → IsField A fits spelled test
    → IsFormat A (one_field kind fits spelled test sep)
unfolding read_field
one_field_laws A kind fits spelled test sep s is =
    view_laws (A × ℕ) A (any_field kind fits spelled test (is_it sep)) (one_field kind fits spelled test sep) (λ p. p.0)
    (record {
      fits = λ p fit. (and_parts (fits p.0) (eqb p.1 sep) fit).0;
      back = λ x fit. ((x, sep), and_from (fits x) (eqb sep sep) fit (eq-eqb sep sep refl), refl);
      items = λ p fit. (λ i. field kind (spelled p.0) ∷ separator (sym (eqb-true p.1 sep (and_parts (fits p.0) (eqb p.1 sep) fit).1) i) ∷ []);
      read = λ total bytes. one_rest A (field_fault kind (total - length bytes)) sep total (test (next_field bytes)) (behind_field bytes);
    })
    (any_laws A kind fits spelled test (is_it sep) is (one_separator sep s))

-- ---- the kinds of fields
-- the field of a whole number keeps the laws where its range has a number, ends by 2 ^ 127, and a separator ends it
pub whole_laws : (low high sep : ℕ) → low ≤ high → high ≤ 2 ^ 127 → is_field_byte sep ≡ false
    → IsFormat ℕ (whole_field low high sep)
whole_laws low high sep some small s = one_field_laws ℕ number _ decimal (whole_in low high) sep s (record {
  inside = λ n fits. (let p = and_parts (leb low n) (leb n high) fits in decimal_inside n (omega (arith, leb-true n high p.1)));
  again = λ n fits. (let p = and_parts (leb low n) (leb n high) fits in whole_again low high n small (leb-true low n p.0) (leb-true n high p.1));
  only = λ bytes n e. (let q = whole_only low high n bytes small e in (and_from (leb low n) (leb n high) (le-leb low n q.0) (le-leb n high q.1), q.2));
  some = low;
  some_fits = and_from (leb low low) (leb low high) (le-leb low low (omega arith)) (le-leb low high some);
})

-- the field of a signed number keeps the laws where the limit of its size is 2 ^ 126 at most and a separator ends it
pub integer_laws : (most sep : ℕ) → most ≤ 2 ^ 126 → is_field_byte sep ≡ false → IsFormat ℤ (integer_field most sep)
integer_laws most sep small s = one_field_laws ℤ number _ signed_decimal (integer_in most) sep s (record {
  inside = λ n fits. integer_inside n (omega (arith, leb-true (unsigned_abs n) most fits));
  again = λ n fits. integer_again most n small (leb-true (unsigned_abs n) most fits);
  only = λ bytes n e. (let q = integer_only most n bytes small e in (le-leb (unsigned_abs n) most q.0, q.1));
  some = ℤ.pos 0;
  some_fits = le-leb 0 most (omega arith);
})

-- the field of a fraction keeps the laws where the limit of its parts is from 1 to 2 ^ 126 and a separator ends it
pub fraction_laws : (most sep : ℕ) → 1 ≤ most → most ≤ 2 ^ 126 → is_field_byte sep ≡ false
    → IsFormat Fraction (fraction_field most sep)
fraction_laws most sep one small s = one_field_laws Fraction number (is_lowest_within most) fraction_text (fraction_in most) sep s (record {
  inside = λ f fits. fraction_inside most f small (lowest_parts most f fits);
  again = λ f fits. fraction_again most f small (lowest_parts most f fits);
  only = λ bytes f e. (let q = fraction_only most f bytes small one e in (lowest_from most f q.0, q.1));
  some = record { num = ℤ.pos 0; den = 1 };
  some_fits = lowest_from most (record { num = ℤ.pos 0; den = 1 }) (record { positive = omega arith; coprime = gcd-with_one 0; num = omega arith; den = one });
})

-- a test that takes a fraction takes one that isn't 0, which the test before took
nonzero_only : (o : Option Fraction) (f : Fraction) → unless_zero o ≡ Some f → (o ≡ Some f) × (not (is_zero f) ≡ true)
nonzero_only None f e = absurd cc
nonzero_only (Some g) f e = by (is_zero g) refl e
  where
    by : (t : Bool) → is_zero g ≡ t → cond t None (Some g) ≡ Some f → (Some g ≡ Some f) × (not (is_zero f) ≡ true)
    by true h e = absurd cc
    by false h e = let same : g ≡ f = cc in (e, ap (λ z. not (is_zero z)) (sym same) ∙ ap not h)

-- the same of a fraction that isn't 0
pub nonzero_laws : (most sep : ℕ) → 1 ≤ most → most ≤ 2 ^ 126 → is_field_byte sep ≡ false
    → IsFormat Fraction (nonzero_field most sep)
unfolding nonzero_in
nonzero_laws most sep one small s = one_field_laws Fraction number (λ f. is_lowest_within most f && not (is_zero f)) fraction_text (nonzero_in most) sep s
    (record {
      inside = λ f fits. fraction_inside most f small (lowest_parts most f (parts f fits).0);
      again = λ f fits.
          ap unless_zero (fraction_again most f small (lowest_parts most f (parts f fits).0))
          ∙ ap (λ t. cond t None (Some f)) (not-true (is_zero f) (parts f fits).1);
      only = λ bytes f e.
          let q = nonzero_only (fraction_in most bytes) f e in
          let r = fraction_only most f bytes small one q.0 in
          (and_from (is_lowest_within most f) (not (is_zero f)) (lowest_from most f r.0) q.1, r.1);
      some = record { num = ℤ.pos 1; den = 1 };
      some_fits = and_from (is_lowest_within most (record { num = ℤ.pos 1; den = 1 })) true
          (lowest_from most (record { num = ℤ.pos 1; den = 1 }) (record { positive = omega arith; coprime = gcd-with_one 1; num = one; den = one })) refl;
    })
  where
    parts : (f : Fraction) → (is_lowest_within most f && not (is_zero f)) ≡ true
        → (is_lowest_within most f ≡ true) × (not (is_zero f) ≡ true)
    parts f fits = and_parts (is_lowest_within most f) (not (is_zero f)) fits

the_word : (wanted bytes : List ℕ) (x : Unit {0}) (t : Bool) → pointwise eqb bytes wanted ≡ t
    → cond (pointwise eqb bytes wanted) (Some tt) None ≡ Some x → bytes ≡ wanted
the_word wanted bytes x true h e = same_text bytes wanted (sym h)
the_word wanted bytes x false h e = absurd (let bad = sym (ap (λ t. cond t (Some tt) None) h) ∙ e in cc)

-- a fixed field keeps the laws where it holds no separator and one ends it
pub fixed_laws : (kind : FieldKind) (wanted : List ℕ) (sep : ℕ) → all_pass is_field_byte wanted ≡ true
    → is_field_byte sep ≡ false → IsFormat (Unit {0}) (fixed_field kind wanted sep)
fixed_laws kind wanted sep h s = one_field_laws (Unit {0}) kind (λ _. true) (λ _. wanted) (same_bytes wanted) sep s (record {
  inside = λ x fits. h;
  again = λ x fits. ap (λ t. cond t (Some tt) None) (word_itself wanted);
  only = λ bytes x e. (refl, the_word wanted bytes x (pointwise eqb bytes wanted) refl e);
  some = tt;
  some_fits = refl;
})

-- ---- a whole number with the end of its line
abbrev pub is_from_to : ℕ → ℕ → ℕ → Bool
is_from_to low high n = leb low n && leb n high

abbrev pub number_with_end : ℕ → ℕ → Format (ℕ × Bool)
number_with_end low high = record {
  fits = λ p. is_from_to low high p.0;
  items = λ p. field number (decimal p.0) ∷ separator (cond p.1 feed space) ∷ [];
  read = read_number low high;
}

abbrev is_separator : ℕ → Bool
is_separator b = not (is_field_byte b)

both_separators : AreSeparators is_separator
both_separators = record { separates = λ b h. not-true (is_field_byte b) h; some_sep = space; some_ok = refl }

sep_by : (b : ℕ) (s t : Bool) → eqb b 32 ≡ s → eqb b 10 ≡ t → is_separator b ≡ true → cond (eqb b 10) feed space ≡ b
sep_by b s true h k e = ap (λ t. cond t feed space) k ∙ sym (eqb-true b 10 k)
sep_by b true false h k e = ap (λ t. cond t feed space) k ∙ sym (eqb-true b 32 h)
sep_by b false false h k e =
    let neither : (eqb b 32 || eqb b 10) ≡ false = λ i. h i || k i in
    absurd (let bad = sym (ap (λ t. not (not t)) neither) ∙ e in cc)

end_rest : (fault : CertFault) (total : ℕ) (o : Option ℕ) (r : List ℕ)
    → ((b : ℕ) (more : List ℕ) → r ≡ b ∷ more → is_field_byte b ≡ false)
    → cond (is_empty r) (Err CertShort) (with_end_if_fit fault o r)
    ≡ (any_rest fault is_separator total o r >>= λ p. got (p.0.0, eqb p.0.1 feed) p.1)
end_rest fault total o [] s = refl
end_rest fault total None (b ∷ left) s = refl
end_rest fault total (Some n) (b ∷ left) s = sym (ap (λ t. pair_sep (CertSyntax (total - length (b ∷ left))) n b left (not t) >>= λ p. got
    (p.0.0, eqb p.0.1 feed) p.1) (s b left refl))

-- the field of a number of a range, and whether it ends its line, keeps the laws where the range isn't empty
-- and its end is 2 ^ 127 at most
pub number_laws : (low high : ℕ) → low ≤ high → high ≤ 2 ^ 127 → IsFormat (ℕ × Bool) (number_with_end low high)
unfolding read_number
number_laws low high some small =
    view_laws (ℕ × ℕ) (ℕ × Bool) (any_field number (is_from_to low high) decimal (whole_in low high) is_separator) (number_with_end low high)
    (λ p. (p.0, eqb p.1 feed))
    (record {
      fits = λ p fit. (and_parts (is_from_to low high p.0) (is_separator p.1) fit).0;
      back = λ y fit. back y.0 y.1 fit;
      items = λ p fit. (λ i. field number (decimal p.0) ∷ separator (sep_by p.1 (eqb p.1 32) (eqb p.1 10) refl refl
          (and_parts (is_from_to low high p.0) (is_separator p.1) fit).1 i) ∷ []);
      read = λ total bytes. end_rest (CertNumber (total - length bytes)) total (whole_in low high (next_field bytes)) (behind_field bytes)
          (λ b more h. stops is_field_byte bytes b more h);
    })
    (any_laws ℕ number (is_from_to low high) decimal (whole_in low high) is_separator (record {
      inside = λ n fits. (let p = and_parts (leb low n) (leb n high) fits in decimal_inside n (omega (arith, leb-true n high p.1)));
      again = λ n fits. (let p = and_parts (leb low n) (leb n high) fits in whole_again low high n small (leb-true low n p.0) (leb-true n high p.1));
      only = λ bytes n e. (let q = whole_only low high n bytes small e in (and_from (leb low n) (leb n high) (le-leb low n q.0) (le-leb n high q.1), q.2));
      some = low;
      some_fits = and_from (leb low low) (leb low high) (le-leb low low (omega arith)) (le-leb low high some);
    }) both_separators)
  where
    back : (n : ℕ) (last : Bool) → is_from_to low high n ≡ true
        → (x : ℕ × ℕ) × ((is_from_to low high x.0 && is_separator x.1) ≡ true) × ◌≡◌ {A = ℕ × Bool} (x.0, eqb x.1 feed) (n, last)
    back n true fit = ((n, feed), and_from (is_from_to low high n) true fit refl, refl)
    back n false fit = ((n, space), and_from (is_from_to low high n) true fit refl, refl)
