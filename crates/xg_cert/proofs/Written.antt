-- Texts that are written in pieces.
use Rattle.std.proofs.Common.{◌≡◌, ℕ, zero, suc, ◌+◌, ◌<◌, ◌≤◌, List, [], ◌∷◌, ◌++◌, map, length, drop, get_or, Option, Result, refl, sym, ap, ◌∙◌, subst}
use Rattle.std.proofs.Common.{append_assoc, arith}
use Rattle.std.specs.Fmt.{decimal}
use Rattle.std.specs.Io.KnownBytes.{append_known}
use Rattle.std.proofs.lemmas.List.{drop_more}
use Rattle.def_outside.specs.Sinks.{AppendsPrefix, Writes}
use Rattle.xg_io.proofs.KnownBytesInPieces.{Progress, whole}
use Rattle.xg_io.proofs.Pieces.{prefix_first, then_rest, goes_on, fails}
use Rattle.def_cert_text.specs.Fields.{space, feed, FieldKind, TextItem, field, separator, items_text}
use Rattle.def_cert_text.proofs.FormatLaws.{items_text-append}
use Rattle.def_reply.specs.Outcome.{Head}
use Rattle.def_cert_text.specs.Formats.{Format, text_of, each_items, row_items}
use Rattle.def_cert_text.specs.CertText.{payoff_lines, head_text_of, asked_line, asked_text}
use Rattle.def_cert_text.specs.declared.version.TextVersion.{TextVersion}
use Rattle.xg_cert.specs.declared.items.Item.{Item}
use Rattle.xg_cert.specs.Items.{field_kind, field_bytes, separator_of, items_of}
use Rattle.xg_cert.specs.Writes.{field_text, counts_items, counts_text, units_items, units_text}

-- ---- items

field-items : (k : FieldKind) (w : List ℕ) (s : ℕ) (items : List TextItem)
    → field_text w s ++ items_text items ≡ items_text (field k w ∷ separator s ∷ items)
unfolding field_text items_text
field-items k w s items = append_assoc w (s ∷ []) (items_text items)

-- a front of the first field is a front of the whole
pub first_field : (before now : Option (List ℕ)) (k : FieldKind) (w : List ℕ) (s : ℕ) (items : List TextItem)
    → AppendsPrefix before now (field_text w s)
    → AppendsPrefix before now (items_text (field k w ∷ separator s ∷ items))
first_field before now k w s items p =
    subst (AppendsPrefix before now) (field-items k w s items) (prefix_first before now (field_text w s) (items_text items) p)

-- the first field, and then the rest
pub then_field : {T E : Type 0} (before middle now : Option (List ℕ)) (k : FieldKind) (w : List ℕ) (s : ℕ)
    (items : List TextItem)
    (r : Result T E) → middle ≡ append_known before (field_text w s) → Writes middle now (items_text items) r
    → Writes before now (items_text (field k w ∷ separator s ∷ items)) r
then_field before middle now k w s items r e w' =
    subst (λ (t : List ℕ). Writes before now t r) (field-items k w s items)
    (then_rest before middle now (field_text w s) (items_text items) r e w')

-- the last field
pub last_field : {T E : Type 0} (before now : Option (List ℕ)) (k : FieldKind) (w : List ℕ) (s : ℕ) (r : Result T E)
    → Writes before now (field_text w s) r → Writes before now (items_text (field k w ∷ separator s ∷ [])) r
unfolding field_text items_text
last_field before now k w s r h = h

-- the items so far are a front of the whole
pub items_first : (before now : Option (List ℕ)) (front items : List TextItem)
    → AppendsPrefix before now (items_text front) → AppendsPrefix before now (items_text (front ++ items))
items_first before now front items p =
    subst (AppendsPrefix before now) (sym (items_text-append front items))
    (prefix_first before now (items_text front) (items_text items) p)

-- the items so far, and then the rest
pub then_items : {T E : Type 0} (before middle now : Option (List ℕ)) (front items : List TextItem) (r : Result T E)
    → middle ≡ append_known before (items_text front) → Writes middle now (items_text items) r
    → Writes before now (items_text (front ++ items)) r
then_items before middle now front items r e h =
    subst (λ (text : List ℕ). Writes before now text r) (sym (items_text-append front items))
    (then_rest before middle now (items_text front) (items_text items) r e h)

-- a front of the first two fields is a front of the whole
pub first_two : (before now : Option (List ℕ)) (k l : FieldKind) (w v : List ℕ) (s t : ℕ) (items : List TextItem)
    → AppendsPrefix before now (items_text (field k w ∷ separator s ∷ field l v ∷ separator t ∷ []))
    → AppendsPrefix before now (items_text (field k w ∷ separator s ∷ field l v ∷ separator t ∷ items))
first_two before now k l w v s t items p = items_first before now (field k w ∷ separator s ∷ field l v ∷ separator t ∷ []) items p

-- where two fields were written whole, writing the rest, or a front of it, has written the whole, or a front of it
pub then_two : {T E : Type 0} (before middle now : Option (List ℕ)) (k l : FieldKind) (w v : List ℕ) (s t : ℕ)
    (items : List TextItem) (r : Result T E)
    → middle ≡ append_known before (items_text (field k w ∷ separator s ∷ field l v ∷ separator t ∷ []))
    → Writes middle now (items_text items) r
    → Writes before now (items_text (field k w ∷ separator s ∷ field l v ∷ separator t ∷ items)) r
then_two before middle now k l w v s t items r e h =
    then_items before middle now (field k w ∷ separator s ∷ field l v ∷ separator t ∷ []) items r e h

-- the lines of the game's numbers are the counts and the units
pub head-parts : (v : TextVersion) (head : Head) → counts_text head ++ units_text v head ≡ head_text_of v head
head-parts v head =
    sym (items_text-append (counts_items head) ((payoff_lines v).items ((head.unit, head.sum), head.mass)))

-- and what was asked stands behind them
pub above-parts : (v : TextVersion) (head : Head)
    → counts_text head ++ items_text (units_items v head ++ asked_line.items (head.rounds, (head.every, head.scale)))
    ≡ head_text_of v head ++ asked_text head
above-parts v head =
    ap (λ (text : List ℕ). counts_text head ++ text) (items_text-append (units_items v head) (asked_line.items (head.rounds, (head.every, head.scale))))
    ∙ sym (append_assoc (counts_text head) (units_text v head) (asked_text head))
    ∙ ap (λ (text : List ℕ). text ++ asked_text head) (head-parts v head)

-- ---- loops

each_left : {A : Type 0} (f : ℕ → Format A) (k : ℕ) (xs : List A) (i : ℕ) (d : A) → i < length xs
    → items_text (each_items f k (drop i xs))
    ≡ text_of (f k) (get_or xs i d) ++ items_text (each_items f (k + 1) (drop (i + 1) xs))
unfolding each_items
each_left f k xs i d lt =
    ap (λ ys. items_text (each_items f k ys)) (drop_more xs i d lt)
    ∙ items_text-append ((f k).items (get_or xs i d)) (each_items f (k + 1) (drop (i + 1) xs))

each_all : {A : Type 0} (f : ℕ → Format A) (k : ℕ) (xs : List A) (i : ℕ) → length xs ≤ i
    → items_text (each_items f k (drop i xs)) ≡ []
unfolding each_items items_text
each_all f k [] zero le = refl
each_all f k [] (suc i) le = refl
each_all f k (x ∷ xs) zero le = absurd (omega arith)
each_all f k (x ∷ xs) (suc i) le = each_all f k xs i (omega arith)

-- one value of many is written
pub each_step : {A : Type 0} (f : ℕ → Format A) (before middle now : Option (List ℕ)) (xs : List A) (i : ℕ) (d : A)
    → i < length xs
    → Progress before middle (items_text (each_items f 1 xs)) (items_text (each_items f (i + 1) (drop i xs)))
    → now ≡ append_known middle (text_of (f (i + 1)) (get_or xs i d))
    → Progress before now (items_text (each_items f 1 xs)) (items_text (each_items f (i + 1 + 1) (drop (i + 1) xs)))
each_step f before middle now xs i d lt p w =
    goes_on before middle now (items_text (each_items f 1 xs)) _ (text_of (f (i + 1)) (get_or xs i d)) _ p (each_left f (i + 1) xs i d lt) w

-- one value of many failed
pub each_fail : {A : Type 0} (f : ℕ → Format A) (before middle now : Option (List ℕ)) (xs : List A) (i : ℕ) (d : A)
    → i < length xs
    → Progress before middle (items_text (each_items f 1 xs)) (items_text (each_items f (i + 1) (drop i xs)))
    → AppendsPrefix middle now (text_of (f (i + 1)) (get_or xs i d))
    → AppendsPrefix before now (items_text (each_items f 1 xs))
each_fail f before middle now xs i d lt p w =
    fails before middle now (items_text (each_items f 1 xs)) _ (text_of (f (i + 1)) (get_or xs i d)) _ p (each_left f (i + 1) xs i d lt) w

-- all of many are written
pub each_end : {A : Type 0} (f : ℕ → Format A) (before now : Option (List ℕ)) (xs : List A) (i : ℕ) → length xs ≤ i
    → Progress before now (items_text (each_items f 1 xs)) (items_text (each_items f (i + 1) (drop i xs)))
    → now ≡ append_known before (items_text (each_items f 1 xs))
each_end f before now xs i le p =
    whole before now (items_text (each_items f 1 xs)) _ p (each_all f (i + 1) xs i le)

-- reading a mapped list
pub get_or-map : {A B : Type 0} (f : A → B) (xs : List A) (i : ℕ) (d : A)
    → get_or (map f xs) i (f d) ≡ f (get_or xs i d)
get_or-map f [] i d = refl
get_or-map f (x ∷ xs) zero d = refl
get_or-map f (x ∷ xs) (suc i) d = get_or-map f xs i d

-- the numbers of a line from a place on, and the last
pub row_left : (ns : List ℕ) (i d : ℕ) → i + 1 < length ns
    → items_text (row_items (drop i ns))
    ≡ field_text (decimal (get_or ns i d)) space ++ items_text (row_items (drop (i + 1) ns))
unfolding items_text field_text
row_left [] i d lt = absurd (omega arith)
row_left (n ∷ []) i d lt = absurd (omega arith)
row_left (n ∷ m ∷ ns) zero d lt = sym (append_assoc (decimal n) (space ∷ []) (items_text (row_items (m ∷ ns))))
row_left (n ∷ m ∷ ns) (suc i) d lt = let e : suc i + 1 ≡ suc (i + 1) = omega arith in rw e (row_left (m ∷ ns) i d (omega arith))

-- the text of a line from its last number on is that number and a line feed
pub row_last : (ns : List ℕ) (i d : ℕ) → i + 1 ≡ length ns
    → items_text (row_items (drop i ns)) ≡ field_text (decimal (get_or ns i d)) feed
unfolding items_text field_text
row_last [] i d e = absurd (omega arith)
row_last (n ∷ []) zero d e = refl
row_last (n ∷ []) (suc i) d e = absurd (omega arith)
row_last (n ∷ m ∷ ns) zero d e = absurd (omega arith)
row_last (n ∷ m ∷ ns) (suc i) d e = row_last (m ∷ ns) i d (omega arith)

-- ---- items as data

items_left : (xs : List Item) (i : ℕ) (d : Item) → i < length xs
    → items_text (items_of (drop i xs))
    ≡ field_text (field_bytes (get_or xs i d)) (separator_of (get_or xs i d)) ++ items_text (items_of (drop (i + 1) xs))
items_left xs i d lt =
    let x = get_or xs i d in
    ap (λ (ys : List Item). items_text (items_of ys)) (drop_more xs i d lt)
    ∙ sym (field-items (field_kind x) (field_bytes x) (separator_of x) (items_of (drop (i + 1) xs)))

items_all : (xs : List Item) (i : ℕ) → length xs ≤ i → items_text (items_of (drop i xs)) ≡ []
unfolding items_text
items_all [] zero le = refl
items_all [] (suc i) le = refl
items_all (x ∷ xs) zero le = absurd (omega arith)
items_all (x ∷ xs) (suc i) le = items_all xs i (omega arith)

-- one item more is written
pub item_step : (before middle now : Option (List ℕ)) (xs : List Item) (i : ℕ) (d : Item) → i < length xs
    → Progress before middle (items_text (items_of xs)) (items_text (items_of (drop i xs)))
    → now ≡ append_known middle (field_text (field_bytes (get_or xs i d)) (separator_of (get_or xs i d)))
    → Progress before now (items_text (items_of xs)) (items_text (items_of (drop (i + 1) xs)))
item_step before middle now xs i d lt p w =
    goes_on before middle now (items_text (items_of xs)) _ (field_text (field_bytes (get_or xs i d)) (separator_of (get_or xs i d))) _ p
    (items_left xs i d lt) w

-- an item failed
pub item_fail : (before middle now : Option (List ℕ)) (xs : List Item) (i : ℕ) (d : Item) → i < length xs
    → Progress before middle (items_text (items_of xs)) (items_text (items_of (drop i xs)))
    → AppendsPrefix middle now (field_text (field_bytes (get_or xs i d)) (separator_of (get_or xs i d)))
    → AppendsPrefix before now (items_text (items_of xs))
item_fail before middle now xs i d lt p w =
    fails before middle now (items_text (items_of xs)) _ (field_text (field_bytes (get_or xs i d)) (separator_of (get_or xs i d))) _ p
    (items_left xs i d lt) w

-- all items are written
pub item_end : (before now : Option (List ℕ)) (xs : List Item) (i : ℕ) → length xs ≤ i
    → Progress before now (items_text (items_of xs)) (items_text (items_of (drop i xs)))
    → now ≡ append_known before (items_text (items_of xs))
item_end before now xs i le p = whole before now (items_text (items_of xs)) _ p (items_all xs i le)
