-- A text that is cut anywhere is short.
use Rattle.std.proofs.Common.{◌≡◌, ℕ, zero, suc, ◌+◌, ◌-◌, ◌<◌, ◌≤◌, true, List, [], ◌∷◌, ◌++◌, length, take, refl, sym, ap, ◌∙◌, append_assoc, arith, ◌⊎◌}
use Rattle.std.proofs.Common.{⊎_elim}
use Rattle.std.proofs.lemmas.List.{length-append, take-append-le}
use Rattle.std.proofs.Math.Seq.{take-append-add}
use Rattle.std.proofs.lemmas.Bool.{and_parts, and_from, cases_lt}
use Rattle.def_cert_text.specs.declared.fault.CertFault.TheVariants.{CertShort}
use Rattle.def_cert_text.specs.Fields.{TextItem, field, separator, item_bytes, items_text, is_field_byte, next_field, is_empty}
use Rattle.def_cert_text.specs.Formats.{Format, text_of}
use Rattle.def_cert_text.specs.Versions.{VersionedCertificate, VersionedFits}
use Rattle.def_cert_text.specs.CertText.{versioned_certificate, read_to_end, versioned_in}
use Rattle.def_cert_text.specs.FirstFault.{of_separator, place_of_item, is_cut_short, HasFirstFault, cut_short, within}
use Rattle.def_cert_text.specs.Laws.{CutsAreShort, CutVersionedTextsAreShort}
use Rattle.def_cert_text.proofs.FieldLaws.{all_pass, behind_all}
use Rattle.def_cert_text.proofs.FormatLaws.{is_clean, all_clean}
use Rattle.def_cert_text.proofs.TextLaws.{IsWithRanges, faults_are_first, of_versions}

-- where the bytes of items are cut: behind some items, within the next
record ItemsAreCut (items : List TextItem) (n : ℕ) : Type 0 where
  front : List TextItem
  item : TextItem
  more : List TextItem
  left : List ℕ
  items_are : items ≡ (front ++ item ∷ []) ++ more
  bytes_are : take n (items_text items) ≡ items_text front ++ left
  short : is_cut_short (place_of_item item) left ≡ true
  whole_before : place_of_item item ≡ of_separator → next_field left ≡ []

pass_take : (n : ℕ) (bs : List ℕ) → all_pass is_field_byte bs ≡ true → all_pass is_field_byte (take n bs) ≡ true
pass_take zero bs h = refl
pass_take (suc n) [] h = refl
pass_take (suc n) (b ∷ bs) h = let q = and_parts (is_field_byte b) (all_pass is_field_byte bs) h in and_from (is_field_byte b)
    (all_pass is_field_byte (take n bs)) q.0 (pass_take n bs q.1)

within_first : (item : TextItem) (items : List TextItem) (n : ℕ) → is_clean item ≡ true → n < length (item_bytes item)
    → ItemsAreCut (item ∷ items) n
unfolding items_text
within_first (field kind bytes) items n clean low = record {
  front = [];
  item = field kind bytes;
  more = items;
  left = take n bytes;
  items_are = refl;
  bytes_are = take-append-le n bytes (items_text items) (omega (arith, low));
  short = ap is_empty (behind_all is_field_byte (take n bytes) (pass_take n bytes clean));
  whole_before = λ h. absurd cc;
}
within_first (separator b) items zero clean low = record {
  front = [];
  item = separator b;
  more = items;
  left = [];
  items_are = refl;
  bytes_are = refl;
  short = refl;
  whole_before = λ h. refl;
}
within_first (separator b) items (suc n) clean low = absurd (omega (arith, low))

cut_at : (items : List TextItem) (n : ℕ) → all_clean items ≡ true → n < length (items_text items) → ItemsAreCut items n
unfolding items_text
cut_at [] n clean low = absurd (omega (arith, low))
cut_at (item ∷ items) n clean low =
    let q = and_parts (is_clean item) (all_clean items) clean in
    let bytes = item_bytes item in
    let where_is : (n < length bytes) ⊎ (length bytes ≤ n) = cases_lt n (length bytes) in
    ⊎_elim
    (λ here. within_first item items n q.0 here)
    (λ later.
    let m : ℕ = n - length bytes in
    let rest = cut_at items m q.1 (omega (arith, low, later, length-append bytes (items_text items))) in
    let sum : n ≡ length bytes + m = omega (arith, later) in
    record {
      front = item ∷ rest.front;
      item = rest.item;
      more = rest.more;
      left = rest.left;
      items_are = ap (λ (ts : List TextItem). item ∷ ts) rest.items_are;
      bytes_are = ap (λ k. take k (bytes ++ items_text items)) sum ∙ take-append-add bytes (items_text items) m
          ∙ ap (λ (bs : List ℕ). bytes ++ bs) rest.bytes_are
          ∙ sym (append_assoc bytes (items_text rest.front) rest.left);
      short = rest.short;
      whole_before = rest.whole_before;
    })
    where_is

cut_fault : (A : Type 0) (f : Format A) (x : A) (n : ℕ) → f.fits x ≡ true → ItemsAreCut (f.items x) n
    → HasFirstFault f (length (take n (text_of f x))) (take n (text_of f x)) CertShort
cut_fault A f x n fits cut = record {
  items = cut.front;
  place = place_of_item cut.item;
  left = cut.left;
  parts = cut.bytes_are;
  whole_before = cut.whole_before;
  needed = (cut.item, refl, (x, cut.more, fits, cut.items_are));
  stop = cut_short cut.short refl;
}

-- the text of a value within its ranges, cut anywhere before its end, is read as short
cuts : (A : Type 0) (f : Format A) (Fits : A → Type 0) → IsWithRanges A f Fits
    → CutsAreShort Fits (text_of f) (read_to_end f)
cuts A f Fits is x n fit low =
    let fits = is.taken x fit in
    (faults_are_first A f Fits is (take n (text_of f x)) CertShort).1 (within (cut_fault A f x n fits (cut_at (f.items x) n (is.laws.clean x fits) low)))

pub cut_versioned : CutVersionedTextsAreShort
unfolding versioned_in
cut_versioned = cuts VersionedCertificate versioned_certificate VersionedFits of_versions
