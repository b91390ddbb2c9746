-- What a format writes it reads again, what it reads was written so, and its faults are the first ones:
-- a law for each way to make a format.
use Rattle.std.proofs.Common.{◌≡◌, ℕ, ◌<◌, ◌≤◌, Bool, true, not, List, [], ◌∷◌, ◌++◌, ◌&&◌, length, Result, Ok, Err, refl, sym, ap, ◌∙◌, subst, append_assoc}
use Rattle.std.proofs.Common.{arith, ◌⊎◌, inl, inr, ⊎_elim}
use Rattle.std.proofs.lemmas.List.{append-nil, append_cancel_left, length-append}
use Rattle.std.proofs.lemmas.Bool.{and_parts, and_from, cases_lt}
use Rattle.def_cert_text.specs.declared.fault.CertFault.{CertFault}
use Rattle.def_cert_text.specs.Fields.{◌>>=◌, TextItem, field, separator, item_bytes, items_text, is_field_byte}
use Rattle.def_cert_text.specs.Formats.{Format, text_of, and_then}
use Rattle.def_cert_text.specs.FirstFault.{Place, item_there, CanGoOn, Needs, StopsReading, cut_short, unfit, HasFirstFault}
use Rattle.def_cert_text.proofs.FieldLaws.{bind_ok, ok_is, all_pass}

-- the text of items with others behind them is the text of the first and then that of the others
pub items_text-append : (xs ys : List TextItem) → items_text (xs ++ ys) ≡ items_text xs ++ items_text ys
unfolding items_text
items_text-append [] ys = refl
items_text-append (x ∷ xs) ys = ap (λ (bs : List ℕ). item_bytes x ++ bs) (items_text-append xs ys)
    ∙ sym (append_assoc (item_bytes x) (items_text xs) (items_text ys))

-- a fault of two readings in turn is the first one's, or the first gives a value and the second has this fault
pub bind_err : {A B : Type 0} (r : Result A CertFault) (k : A → Result B CertFault) (fault : CertFault)
    → (r >>= k) ≡ Err fault → (r ≡ Err fault) ⊎ ((x : A) × (r ≡ Ok x) × (k x ≡ Err fault))
bind_err (Ok x) k fault e = inr (x, refl, e)
bind_err (Err other) k fault e = inl (let same : other ≡ fault = cc in λ i. Err (same i))

-- fields hold no byte that separates, and separators are bytes that do
abbrev pub is_clean : TextItem → Bool
is_clean (field kind bytes) = all_pass is_field_byte bytes
is_clean (separator byte) = not (is_field_byte byte)

abbrev pub all_clean : List TextItem → Bool
all_clean [] = true
all_clean (item ∷ items) = is_clean item && all_clean items

clean_append : (xs ys : List TextItem) → all_clean xs ≡ true → all_clean ys ≡ true → all_clean (xs ++ ys) ≡ true
clean_append [] ys h k = k
clean_append (x ∷ xs) ys h k = let q = and_parts (is_clean x) (all_clean xs) h in and_from (is_clean x) (all_clean (xs ++ ys)) q.0 (clean_append xs ys q.1 k)

-- what holds of a format
pub record IsFormat (A : Type 0) (f : Format A) : Type 0 where
  pub again : (total : ℕ) (x : A) (left : List ℕ) → f.fits x ≡ true → f.read total (text_of f x ++ left) ≡ Ok (x, left)
  pub only : (total : ℕ) (bytes : List ℕ) (x : A) (left : List ℕ) → f.read total bytes ≡ Ok (x, left)
      → (f.fits x ≡ true) × (bytes ≡ text_of f x ++ left)
  pub some : A
  pub some_fits : f.fits some ≡ true
  pub clean : (x : A) → f.fits x ≡ true → all_clean (f.items x) ≡ true
  pub faults : (total : ℕ) (bytes : List ℕ) (fault : CertFault) → f.read total bytes ≡ Err fault
      → HasFirstFault f total bytes fault
  pub found : (total : ℕ) (bytes : List ℕ) (fault : CertFault) → HasFirstFault f total bytes fault
      → f.read total bytes ≡ Err fault

-- ---- the same values under another form
pub record IsView (A B : Type 0) (f : Format A) (g : Format B) (to : A → B) : Type 0 where
  pub fits : (x : A) → f.fits x ≡ true → g.fits (to x) ≡ true
  pub back : (y : B) → g.fits y ≡ true → (x : A) × (f.fits x ≡ true) × (to x ≡ y)
  pub items : (x : A) → f.fits x ≡ true → g.items (to x) ≡ f.items x
  pub read : (total : ℕ) (bytes : List ℕ) → g.read total bytes ≡ (f.read total bytes >>= λ x. Ok (to x.0, x.1))

abbrev put_to : {A B : Type 0} → (A → B) → (A × List ℕ) → Result (B × List ℕ) CertFault
put_to to x = Ok (to x.0, x.1)

to_view : (A B : Type 0) (f : Format A) (g : Format B) (to : A → B) → IsView A B f g to → (items : List TextItem)
    → CanGoOn f items → CanGoOn g items
to_view A B f g to is items p = (to p.0, p.1, is.fits p.0 p.2, is.items p.0 p.2 ∙ p.3)

from_view : (A B : Type 0) (f : Format A) (g : Format B) (to : A → B) → IsView A B f g to → (items : List TextItem)
    → CanGoOn g items → CanGoOn f items
from_view A B f g to is items p =
    let b = is.back p.0 p.2 in
    (b.0, p.1, b.1, sym (is.items b.0 b.1) ∙ ap g.items b.2 ∙ p.3)

stop_by : (A B : Type 0) (f : Format A) (g : Format B) (xs ys : List TextItem) (place : Place) (total : ℕ) (left : List ℕ)
    (fault : CertFault)
    → (CanGoOn g (ys ++ item_there place left ∷ []) → CanGoOn f (xs ++ item_there place left ∷ []))
    → StopsReading f xs place total left fault → StopsReading g ys place total left fault
stop_by A B f g xs ys place total left fault back (cut_short short is) = cut_short short is
stop_by A B f g xs ys place total left fault back (unfit long none is) = unfit long (λ p. none (back p)) is

-- a fault of a format is one of another, where the same items go on
first_by : (A B : Type 0) (f : Format A) (g : Format B) → ((items : List TextItem) → CanGoOn f items → CanGoOn g items)
    → ((items : List TextItem) → CanGoOn g items → CanGoOn f items)
    → (total : ℕ) (bytes : List ℕ) (fault : CertFault) → HasFirstFault f total bytes fault
    → HasFirstFault g total bytes fault
first_by A B f g forth back total bytes fault h = record {
  items = h.items;
  place = h.place;
  left = h.left;
  parts = h.parts;
  whole_before = h.whole_before;
  needed = (h.needed.0, h.needed.1, forth (h.items ++ h.needed.0 ∷ []) h.needed.2);
  stop = stop_by A B f g h.items h.items h.place total h.left fault (back (h.items ++ item_there h.place h.left ∷ [])) h.stop;
}

view_fault : (A B : Type 0) (to : A → B) (r : Result (A × List ℕ) CertFault) (fault : CertFault)
    → (r >>= put_to to) ≡ Err fault → r ≡ Err fault
view_fault A B to (Ok x) fault e = absurd cc
view_fault A B to (Err other) fault e = let same : other ≡ fault = cc in λ i. Err (same i)

-- where a format keeps the laws, so does one that has the same values under another form
pub view_laws : (A B : Type 0) (f : Format A) (g : Format B) (to : A → B) → IsView A B f g to → IsFormat A f
    → IsFormat B g
view_laws A B f g to is laws = record {
  again = λ total y left fits.
      let b = is.back y fits in
      subst (λ (z : B). g.read total (text_of g z ++ left) ≡ Ok (z, left)) b.2
      (is.read total (text_of g (to b.0) ++ left)
      ∙ ap (λ (items : List TextItem). f.read total (items_text items ++ left) >>= put_to to) (is.items b.0 b.1)
      ∙ ap (λ (r : Result (A × List ℕ) CertFault). r >>= put_to to) (laws.again total b.0 left b.1));
  only = λ total bytes y left e.
      let a = bind_ok (f.read total bytes) (put_to to) (y, left) (sym (is.read total bytes) ∙ e) in
      let x = a.0 in
      let one = laws.only total bytes x.0 x.1 a.1 in
      subst (λ (q : B × List ℕ). (g.fits q.0 ≡ true) × (bytes ≡ text_of g q.0 ++ q.1)) (ok_is (to x.0, x.1) (y, left) a.2)
      (is.fits x.0 one.0, one.1 ∙ ap (λ (items : List TextItem). items_text items ++ x.1) (sym (is.items x.0 one.0)));
  some = to laws.some;
  some_fits = is.fits laws.some laws.some_fits;
  clean = λ y fits.
      let b = is.back y fits in
      subst (λ (z : B). all_clean (g.items z) ≡ true) b.2 (ap all_clean (is.items b.0 b.1) ∙ laws.clean b.0 b.1);
  faults = λ total bytes fault e.
      first_by A B f g (to_view A B f g to is) (from_view A B f g to is) total bytes fault
      (laws.faults total bytes fault (view_fault A B to (f.read total bytes) fault (sym (is.read total bytes) ∙ e)));
  found = λ total bytes fault h.
      is.read total bytes
      ∙ ap (λ (r : Result (A × List ℕ) CertFault). r >>= put_to to) (laws.found total bytes fault
      (first_by B A g f (from_view A B f g to is) (to_view A B f g to is) total bytes fault h));
}

-- ---- one value without items
pub record IsNothing (A : Type 0) (f : Format A) (x : A) : Type 0 where
  pub fits : f.fits x ≡ true
  pub alone : (y : A) → f.fits y ≡ true → y ≡ x
  pub items : f.items x ≡ []
  pub read : (total : ℕ) (bytes : List ℕ) → f.read total bytes ≡ Ok (x, bytes)

no_items : (front : List TextItem) (item : TextItem) (more : List TextItem) → [] ≡ (front ++ item ∷ []) ++ more → ⊥
no_items [] item more e = cc
no_items (x ∷ front) item more e = cc

-- a format keeps the laws where it takes one value alone, which has no items and is read from no bytes
pub nothing_laws : (A : Type 0) (f : Format A) (x : A) → IsNothing A f x → IsFormat A f
unfolding items_text
nothing_laws A f x is = record {
  again = λ total y left fits.
      subst (λ (z : A). f.read total (text_of f z ++ left) ≡ Ok (z, left)) (sym (is.alone y fits))
      (is.read total (text_of f x ++ left) ∙ ap (λ (items : List TextItem). Ok (x, items_text items ++ left)) is.items);
  only = λ total bytes y left e.
      subst (λ (q : A × List ℕ). (f.fits q.0 ≡ true) × (bytes ≡ text_of f q.0 ++ q.1)) (ok_is (x, bytes) (y, left) (sym (is.read total bytes) ∙ e))
      (is.fits, ap (λ (items : List TextItem). items_text items ++ bytes) (sym is.items));
  some = x;
  some_fits = is.fits;
  clean = λ y fits. ap (λ z. all_clean (f.items z)) (is.alone y fits) ∙ ap all_clean is.items;
  faults = λ total bytes fault e. absurd (let bad = sym (is.read total bytes) ∙ e in cc);
  found = λ total bytes fault h.
      let p = h.needed.2 in
      absurd (no_items h.items h.needed.0 p.1 (sym (ap f.items (is.alone p.0 p.2) ∙ is.items) ∙ p.3));
}

-- ---- one after another
abbrev second_of : {A B : Type 0} → (A → Format B) → ℕ → (A × List ℕ) → Result ((A × B) × List ℕ) CertFault
second_of g total x = (g x.0).read total x.1 >>= λ y. Ok ((x.0, y.0), y.1)

pair_again : (A B : Type 0) (f : Format A) (g : A → Format B) → IsFormat A f
    → ((x : A) → f.fits x ≡ true → IsFormat B (g x))
    → (total : ℕ) (p : A × B) (left : List ℕ) → (and_then f g).fits p ≡ true
    → (and_then f g).read total (text_of (and_then f g) p ++ left) ≡ Ok (p, left)
pair_again A B f g first second total p left fits =
    let parts = and_parts (f.fits p.0) ((g p.0).fits p.1) fits in
    ap (λ (bytes : List ℕ). f.read total (bytes ++ left) >>= second_of g total) (items_text-append (f.items p.0) ((g p.0).items p.1))
    ∙ ap (λ (bytes : List ℕ). f.read total bytes >>= second_of g total) (append_assoc (text_of f p.0) (text_of (g p.0) p.1) left)
    ∙ ap (λ (r : Result (A × List ℕ) CertFault). r >>= second_of g total) (first.again total p.0 (text_of (g p.0) p.1 ++ left) parts.0)
    ∙ ap (λ (r : Result (B × List ℕ) CertFault). r >>= λ y. Ok ((p.0, y.0), y.1)) ((second p.0 parts.0).again total p.1 left parts.1)

pair_only : (A B : Type 0) (f : Format A) (g : A → Format B) → IsFormat A f
    → ((x : A) → f.fits x ≡ true → IsFormat B (g x))
    → (total : ℕ) (bytes : List ℕ) (p : A × B) (left : List ℕ) → (and_then f g).read total bytes ≡ Ok (p, left)
    → ((and_then f g).fits p ≡ true) × (bytes ≡ text_of (and_then f g) p ++ left)
pair_only A B f g first second total bytes p left e =
    let a = bind_ok (f.read total bytes) (second_of g total) (p, left) e in
    let x = a.0 in
    let one = first.only total bytes x.0 x.1 a.1 in
    let b = bind_ok ((g x.0).read total x.1) (λ y. Ok ((x.0, y.0), y.1)) (p, left) a.2 in
    let y = b.0 in
    let two = (second x.0 one.0).only total x.1 y.0 y.1 b.1 in
    subst (λ (q : (A × B) × List ℕ). ((and_then f g).fits q.0 ≡ true) × (bytes ≡ text_of (and_then f g) q.0 ++ q.1)) (ok_is ((x.0, y.0), y.1) (p, left) b.2) (
      and_from (f.fits x.0) ((g x.0).fits y.0) one.0 two.0,
      one.1 ∙ ap (λ (ys : List ℕ). text_of f x.0 ++ ys) two.1 ∙ sym (append_assoc (text_of f x.0) (text_of (g x.0) y.0) y.1)
          ∙ ap (λ (bs : List ℕ). bs ++ y.1) (sym (items_text-append (f.items x.0) ((g x.0).items y.0))),
    )

-- no value's items go on to another's
one_way : (A : Type 0) (f : Format A) → IsFormat A f → (x y : A) (u v : List TextItem) → f.fits x ≡ true → f.fits y ≡ true
    → f.items x ++ u ≡ f.items y ++ v → x ≡ y
one_way A f laws x y u v fx fy e =
    let bytes : text_of f x ++ items_text u ≡ text_of f y ++ items_text v = sym (items_text-append (f.items x) u) ∙ ap items_text e
    ∙ items_text-append (f.items y) v in
    let same = ok_is (x, items_text u) (y, items_text v) (sym (laws.again 0 x (items_text u) fx) ∙ ap (f.read 0) bytes ∙ laws.again 0 y (items_text v) fy) in
    ap (λ p. p.0) same

-- lists that begin alike
begins : (xs ys us vs : List TextItem) → xs ++ us ≡ ys ++ vs → length ys ≤ length xs
    → (more : List TextItem) × (xs ≡ ys ++ more)
begins xs [] us vs e le = (xs, refl)
begins [] (y ∷ ys) us vs e le = absurd (omega arith)
begins (x ∷ xs) (y ∷ ys) us vs e le =
    let tails : xs ++ us ≡ ys ++ vs = cc in
    let heads : x ≡ y = cc in
    let r = begins xs ys us vs tails (omega arith) in
    (r.0, λ i. heads i ∷ r.1 i)

-- what goes on to a value of the first goes on to one of both
on_first : (A B : Type 0) (f : Format A) (g : A → Format B) → ((x : A) → f.fits x ≡ true → IsFormat B (g x))
    → (items : List TextItem) → CanGoOn f items → CanGoOn (and_then f g) items
on_first A B f g second items p =
    let h = second p.0 p.2 in (
      (p.0, h.some),
      p.1 ++ (g p.0).items h.some,
      and_from (f.fits p.0) ((g p.0).fits h.some) p.2 h.some_fits,
      ap (λ (ts : List TextItem). ts ++ (g p.0).items h.some) p.3 ∙ append_assoc items p.1 ((g p.0).items h.some),
    )

-- and the other way round, where the first isn't over
off_first : (A B : Type 0) (f : Format A) (g : A → Format B) → IsFormat A f
    → (items : List TextItem) (place : Place) (item : TextItem)
    → Needs f items place → CanGoOn (and_then f g) (items ++ item ∷ []) → CanGoOn f (items ++ item ∷ [])
off_first A B f g first items place item needs p =
    let x = p.0.0 in
    let y = p.0.1 in
    let fits = and_parts (f.fits x) ((g x).fits y) p.2 in
    let long : (length items < length (f.items x)) ⊎ (length (f.items x) ≤ length items) = cases_lt (length items) (length (f.items x)) in
    ⊎_elim
    (λ le. (let r = begins (f.items x) (items ++ item ∷ []) ((g x).items y) p.1 p.3 (omega (arith, length-append items (item ∷ []))) in (x, r.0, fits.0, r.1)))
    (λ le.
    let t = needs.0 in
    let z = needs.2.0 in
    let e : f.items x ++ (g x).items y ≡ items ++ (item ∷ p.1) = p.3 ∙ append_assoc items (item ∷ []) p.1 in
    let r = begins items (f.items x) (item ∷ p.1) ((g x).items y) (sym e) le in
    let w : f.items z ≡ f.items x ++ (r.0 ++ (t ∷ needs.2.1)) =
    needs.2.3 ∙ append_assoc items (t ∷ []) needs.2.1 ∙ ap (λ (ts : List TextItem). ts ++ t ∷ needs.2.1) r.1 ∙ append_assoc (f.items x) r.0 (t ∷ needs.2.1) in
    let same : z ≡ x = one_way A f first z x [] (r.0 ++ (t ∷ needs.2.1)) needs.2.2 fits.0 (append-nil (f.items z) ∙ w) in
    let lengths = ap length w in
    absurd (omega (
      arith,
      ap (λ (a : A). length (f.items a)) same,
      lengths,
      length-append (f.items x) (r.0 ++ (t ∷ needs.2.1)),
      length-append r.0 (t ∷ needs.2.1),
    )))
    long

-- what goes on behind a value of the first
on_second : (A B : Type 0) (f : Format A) (g : A → Format B) (x : A) → f.fits x ≡ true → (items : List TextItem)
    → CanGoOn (g x) items → CanGoOn (and_then f g) (f.items x ++ items)
on_second A B f g x fits items p =
    ((x, p.0), p.1, and_from (f.fits x) ((g x).fits p.0) fits p.2, ap (λ (ts : List TextItem). f.items x ++ ts) p.3 ∙ sym (append_assoc (f.items x) items p.1))

at_same : (A B : Type 0) (f : Format A) (g : A → Format B) (x x' : A) → x ≡ x' → (y : B) (whole : List TextItem)
    → (g x').fits y ≡ true → f.items x' ++ (g x').items y ≡ f.items x ++ whole
    → ((g x).fits y ≡ true) × ((g x).items y ≡ whole)
at_same A B f g x x' same =
    subst (λ (z : A). (y : B) (whole : List TextItem) → (g z).fits y ≡ true → f.items z ++ (g z).items y ≡ f.items x ++ whole → ((g x).fits y ≡ true)
    × ((g x).items y ≡ whole)) same
    (λ y whole fits e. (fits, append_cancel_left (f.items x) ((g x).items y) whole e))

off_second : (A B : Type 0) (f : Format A) (g : A → Format B) → IsFormat A f → (x : A) → f.fits x ≡ true
    → (items : List TextItem) → CanGoOn (and_then f g) (f.items x ++ items) → CanGoOn (g x) items
off_second A B f g first x fits items p =
    let x' = p.0.0 in
    let y = p.0.1 in
    let q = and_parts (f.fits x') ((g x').fits y) p.2 in
    let whole : List TextItem = items ++ p.1 in
    let e : f.items x' ++ (g x').items y ≡ f.items x ++ whole = p.3 ∙ append_assoc (f.items x) items p.1 in
    let same : x ≡ x' = sym (one_way A f first x' x ((g x').items y) whole q.0 fits e) in
    let r = at_same A B f g x x' same y whole q.1 e in
    (y, p.1, r.0, r.1)

-- a fault of the first, and a fault behind a value of the first
lift_first : (A B : Type 0) (f : Format A) (g : A → Format B) → IsFormat A f
    → ((x : A) → f.fits x ≡ true → IsFormat B (g x))
    → (total : ℕ) (bytes : List ℕ) (fault : CertFault) → HasFirstFault f total bytes fault
    → HasFirstFault (and_then f g) total bytes fault
lift_first A B f g first second total bytes fault h = record {
  items = h.items;
  place = h.place;
  left = h.left;
  parts = h.parts;
  whole_before = h.whole_before;
  needed = (h.needed.0, h.needed.1, on_first A B f g second (h.items ++ h.needed.0 ∷ []) h.needed.2);
  stop = stop_by A (A × B) f (and_then f g) h.items h.items h.place total h.left fault
      (off_first A B f g first h.items h.place (item_there h.place h.left) h.needed) h.stop;
}

lift_second : (A B : Type 0) (f : Format A) (g : A → Format B) → IsFormat A f → (x : A) → f.fits x ≡ true
    → (total : ℕ) (bytes mid : List ℕ) (fault : CertFault) → bytes ≡ text_of f x ++ mid
    → HasFirstFault (g x) total mid fault → HasFirstFault (and_then f g) total bytes fault
lift_second A B f g first x fits total bytes mid fault is h =
    let t = h.needed in
    let behind : (item : TextItem) → f.items x ++ (h.items ++ item ∷ []) ≡ (f.items x ++ h.items) ++ item
    ∷ [] = λ item. sym (append_assoc (f.items x) h.items (item ∷ [])) in
    record {
      items = f.items x ++ h.items;
      place = h.place;
      left = h.left;
      parts = is ∙ ap (λ (m : List ℕ). text_of f x ++ m) h.parts ∙ sym (append_assoc (text_of f x) (items_text h.items) h.left)
          ∙ ap (λ (b : List ℕ). b ++ h.left) (sym (items_text-append (f.items x) h.items));
      whole_before = h.whole_before;
      needed = (t.0, t.1, subst (λ (ts : List TextItem). CanGoOn (and_then f g) ts) (behind t.0) (on_second A B f g x fits (h.items ++ t.0 ∷ []) t.2));
      stop = stop_by B (A × B) (g x) (and_then f g) h.items (f.items x ++ h.items) h.place total h.left fault
          (λ p. off_second A B f g first x fits (h.items ++ item_there h.place h.left ∷ [])
          (subst (λ (ts : List TextItem). CanGoOn (and_then f g) ts) (sym (behind (item_there h.place h.left))) p)) h.stop;
    }

pair_faults : (A B : Type 0) (f : Format A) (g : A → Format B) → IsFormat A f
    → ((x : A) → f.fits x ≡ true → IsFormat B (g x))
    → (total : ℕ) (bytes : List ℕ) (fault : CertFault) → (and_then f g).read total bytes ≡ Err fault
    → HasFirstFault (and_then f g) total bytes fault
pair_faults A B f g first second total bytes fault e =
    ⊎_elim
    (λ here. lift_first A B f g first second total bytes fault (first.faults total bytes fault here))
    (λ later.
    let x = later.0 in
    let one = first.only total bytes x.0 x.1 later.1 in
    ⊎_elim
    (λ there. lift_second A B f g first x.0 one.0 total bytes x.1 fault one.1 ((second x.0 one.0).faults total x.1 fault there))
    (λ never. absurd (let bad = never.2 in cc))
    (bind_err ((g x.0).read total x.1) (λ y. Ok ((x.0, y.0), y.1)) fault later.2))
    (bind_err (f.read total bytes) (second_of g total) fault e)

-- the other way round: before the end of the first's items, or behind them
found_first : (A B : Type 0) (f : Format A) (g : A → Format B) → IsFormat A f
    → ((x : A) → f.fits x ≡ true → IsFormat B (g x))
    → (total : ℕ) (bytes : List ℕ) (fault : CertFault) (h : HasFirstFault (and_then f g) total bytes fault)
    → Needs f h.items h.place → (and_then f g).read total bytes ≡ Err fault
found_first A B f g first second total bytes fault h needs =
    let low : HasFirstFault f total bytes fault = record {
      items = h.items;
      place = h.place;
      left = h.left;
      parts = h.parts;
      whole_before = h.whole_before;
      needed = needs;
      stop = stop_by (A × B) A (and_then f g) f h.items h.items h.place total h.left fault (on_first A B f g second (h.items ++ item_there h.place h.left ∷ []))
          h.stop;
    } in
    ap (λ (r : Result (A × List ℕ) CertFault). r >>= second_of g total) (first.found total bytes fault low)

stop_at : (A : Type 0) (f : Format A) (xs ys : List TextItem) (place : Place) (total : ℕ) (left : List ℕ)
    (fault : CertFault) → xs ≡ ys → StopsReading f xs place total left fault → StopsReading f ys place total left fault
stop_at A f xs ys place total left fault same = subst (λ (ts : List TextItem). StopsReading f ts place total left fault) same

found_second : (A B : Type 0) (f : Format A) (g : A → Format B) → IsFormat A f
    → ((x : A) → f.fits x ≡ true → IsFormat B (g x)) → (x : A) (y : B) → f.fits x ≡ true → (g x).fits y ≡ true
    → (total : ℕ) (bytes : List ℕ) (fault : CertFault) (h : HasFirstFault (and_then f g) total bytes fault) (items more : List TextItem)
    → h.items ≡ f.items x ++ items
    → (g x).items y ≡ (items ++ h.needed.0 ∷ []) ++ more → (and_then f g).read total bytes ≡ Err fault
found_second A B f g first second x y fx fy total bytes fault h items more is e =
    let mid : List ℕ = items_text items ++ h.left in
    let low : HasFirstFault (g x) total mid fault = record {
      items = items;
      place = h.place;
      left = h.left;
      parts = refl;
      whole_before = h.whole_before;
      needed = (h.needed.0, h.needed.1, (y, more, fy, e));
      stop = stop_by (A × B) B (and_then f g) (g x) (f.items x ++ items) items h.place total h.left fault
          (λ p. subst (λ (ts : List TextItem). CanGoOn (and_then f g) ts) (sym (append_assoc (f.items x) items (item_there h.place h.left ∷ [])))
          (on_second A B f g x fx (items ++ item_there h.place h.left ∷ []) p))
          (stop_at (A × B) (and_then f g) h.items (f.items x ++ items) h.place total h.left fault is h.stop);
    } in
    let whole : bytes ≡ text_of f x ++ mid =
    h.parts ∙ ap (λ (ts : List TextItem). items_text ts ++ h.left) is ∙ ap (λ (b : List ℕ). b ++ h.left) (items_text-append (f.items x) items)
    ∙ append_assoc (text_of f x) (items_text items) h.left in
    ap (λ (b : List ℕ). f.read total b >>= second_of g total) whole
    ∙ ap (λ (r : Result (A × List ℕ) CertFault). r >>= second_of g total) (first.again total x mid fx)
    ∙ ap (λ (r : Result (B × List ℕ) CertFault). r >>= λ z. Ok ((x, z.0), z.1)) ((second x fx).found total mid fault low)

pair_found : (A B : Type 0) (f : Format A) (g : A → Format B) → IsFormat A f
    → ((x : A) → f.fits x ≡ true → IsFormat B (g x))
    → (total : ℕ) (bytes : List ℕ) (fault : CertFault) → HasFirstFault (and_then f g) total bytes fault
    → (and_then f g).read total bytes ≡ Err fault
pair_found A B f g first second total bytes fault h =
    let item = h.needed.0 in
    let p = h.needed.2 in
    let x = p.0.0 in
    let y = p.0.1 in
    let fits = and_parts (f.fits x) ((g x).fits y) p.2 in
    let long : (length h.items < length (f.items x)) ⊎ (length (f.items x) ≤ length h.items) = cases_lt (length h.items) (length (f.items x)) in
    ⊎_elim
    (λ le.
    let r = begins (f.items x) (h.items ++ item ∷ []) ((g x).items y) p.1 p.3 (omega (arith, length-append h.items (item ∷ []))) in
    found_first A B f g first second total bytes fault h (item, h.needed.1, (x, r.0, fits.0, r.1)))
    (λ le.
    let r = begins h.items (f.items x) (item ∷ p.1) ((g x).items y) (sym (p.3 ∙ append_assoc h.items (item ∷ []) p.1)) le in
    let e : f.items x ++ (g x).items y ≡ f.items x ++ ((r.0 ++ item ∷ []) ++ p.1) =
    p.3 ∙ ap (λ (ts : List TextItem). (ts ++ item ∷ []) ++ p.1) r.1 ∙ ap (λ (ts : List TextItem). ts ++ p.1) (append_assoc (f.items x) r.0 (item ∷ []))
    ∙ append_assoc (f.items x) (r.0 ++ item ∷ []) p.1 in
    found_second A B f g first second x y fits.0 fits.1 total bytes fault h r.0 p.1 r.1
    (append_cancel_left (f.items x) ((g x).items y) ((r.0 ++ item ∷ []) ++ p.1) e))
    long

-- where a format keeps the laws, and so does the next one for each value that it takes, the two in turn keep them
pub pair_laws : (A B : Type 0) (f : Format A) (g : A → Format B) → IsFormat A f
    → ((x : A) → f.fits x ≡ true → IsFormat B (g x)) → IsFormat (A × B) (and_then f g)
pair_laws A B f g first second =
    let h = second first.some first.some_fits in
    record {
      again = pair_again A B f g first second;
      only = pair_only A B f g first second;
      some = (first.some, h.some);
      some_fits = and_from (f.fits first.some) ((g first.some).fits h.some) first.some_fits h.some_fits;
      clean = λ p fits.
          let q = and_parts (f.fits p.0) ((g p.0).fits p.1) fits in
          clean_append (f.items p.0) ((g p.0).items p.1) (first.clean p.0 q.0) ((second p.0 q.0).clean p.1 q.1);
      faults = pair_faults A B f g first second;
      found = pair_found A B f g first second;
    }
