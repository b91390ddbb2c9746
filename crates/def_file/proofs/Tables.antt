-- Tables of what is known of each number, in the order of first appearance, with one more number.
use Rattle.std.proofs.Common.{◌≡◌, ℕ, suc, ◌+◌, Bool, true, false, cond, not, ◌||◌, List, [], ◌∷◌, ◌++◌, length, map, Option, Some, None, refl, sym, ap, ◌∙◌}
use Rattle.std.proofs.Common.{append-nil, arith}
use Rattle.std.specs.Prelude.{nat_eq, nat_lt, filter, position, slice_set, slice_index_or, unwrap_or}
use Rattle.std.specs.List.{position_or_len}
use Rattle.std.specs.Option.{option_map_or}
use Rattle.std.proofs.lemmas.Bool.{eqb-true, lt-ltb, le-ltb, or_parts}
use Rattle.std.proofs.lemmas.List.{map-append, length-map}
use Rattle.std.proofs.lemmas.List.Elements.{filter-append}
use Rattle.def_file.specs.Entries.{firsts, number_in}
use Rattle.def_file.proofs.Firsts.{among, Distinct, place, nat_eq-same, nat_eq-sym, firsts-new, firsts-seen, among-firsts, firsts-distinct, place-among}
use Rattle.def_file.proofs.Firsts.{place-not_among, place-new}

-- where a table has a number
abbrev pub found : {E : Type 0} (number : E → ℕ) → ℕ → List E → Option ℕ
found number n table = position (λ e. nat_eq n (number e)) table

-- a table with a mention of the number n
abbrev pub noted_with : {E : Type 0} (number : E → ℕ) (none : E) (change : E → E) (fresh : E) → ℕ → List E → List E
noted_with number none change fresh n table = option_map_or (λ i. slice_set table i (change (slice_index_or table i none))) (found number n table)
    (table ++ fresh ∷ [])

place_map : {E : Type 0} (number : E → ℕ) (f : ℕ → E) → ((m : ℕ) → number (f m) ≡ m) → (n : ℕ) (ns : List ℕ)
    → position_or_len (λ e. nat_eq n (number e)) (map f ns) ≡ place n ns
place_map number f is n [] = refl
place_map number f is n (m ∷ ns) =
    ap (λ (k : ℕ). cond (not (nat_eq n (number (f m)))) (1 + k) 0) (place_map number f is n ns)
    ∙ ap (λ (k : ℕ). cond (not (nat_eq n k)) (1 + place n ns) 0) (is m)

pub found-seen : {E : Type 0} (number : E → ℕ) (f : ℕ → E) → ((m : ℕ) → number (f m) ≡ m) → (n : ℕ) (ns : List ℕ)
    → among n ns ≡ true → found number n (map f ns) ≡ Some (place n ns)
found-seen number f is n ns h =
    ap (λ (k : ℕ). cond (nat_lt k (length (map f ns))) (Some k) None) (place_map number f is n ns)
    ∙ ap (λ (k : ℕ). cond (nat_lt (place n ns) k) (Some (place n ns)) None) (length-map ns f)
    ∙ ap (λ (b : Bool). cond b (Some (place n ns)) None) (lt-ltb (place n ns) (length ns) (place-among n ns h))

pub found-new : {E : Type 0} (number : E → ℕ) (f : ℕ → E) → ((m : ℕ) → number (f m) ≡ m) → (n : ℕ) (ns : List ℕ)
    → among n ns ≡ false → found number n (map f ns) ≡ None
found-new number f is n ns h =
    let out : place n ns ≡ length ns = place-not_among n ns h in
    ap (λ (k : ℕ). cond (nat_lt k (length (map f ns))) (Some k) None) (place_map number f is n ns)
    ∙ ap (λ (k : ℕ). cond (nat_lt (place n ns) k) (Some (place n ns)) None) (length-map ns f)
    ∙ ap (λ (b : Bool). cond b (Some (place n ns)) None) (le-ltb (place n ns) (length ns) (omega arith))

-- numbers other than n keep what is known of them
map_stays : {E : Type 0} (f g : ℕ → E) (n : ℕ) → ((m : ℕ) → nat_eq n m ≡ false → g m ≡ f m) → (ns : List ℕ)
    → among n ns ≡ false → map g ns ≡ map f ns
map_stays f g n stays [] h = refl
map_stays f g n stays (m ∷ ns) h =
    let parts = or_parts (nat_eq n m) (among n ns) h in
    let first : g m ≡ f m = stays m parts.0 in
    let rest : map g ns ≡ map f ns = map_stays f g n stays ns parts.1 in
    λ i. first i ∷ rest i

-- at the place of n, its entry is replaced
written_step : {E : Type 0} (f g : ℕ → E) (n : ℕ) → ((m : ℕ) → nat_eq n m ≡ false → g m ≡ f m)
    → (m : ℕ) (ns : List ℕ) (here : Bool) → nat_eq n m ≡ here → Distinct (m ∷ ns) → (here || among n ns) ≡ true
    → (among n ns ≡ true → map g ns ≡ slice_set (map f ns) (place n ns) (g n))
    → map g (m ∷ ns) ≡ slice_set (map f (m ∷ ns)) (cond (not here) (1 + place n ns) 0) (g n)
written_step f g n stays m ns true e distinct h known =
    let same : n ≡ m = eqb-true n m e in
    let first : g m ≡ g n = ap g (sym same) in
    let rest : map g ns ≡ map f ns = map_stays f g n stays ns (ap (λ (k : ℕ). among k ns) same ∙ distinct.0) in
    λ i. first i ∷ rest i
written_step f g n stays m ns false e distinct h known =
    let first : g m ≡ f m = stays m e in
    let rest : map g ns ≡ slice_set (map f ns) (place n ns) (g n) = known h in
    let next : suc (place n ns) ≡ 1 + place n ns = omega arith in
    let front : (map g (m ∷ ns)) ≡ (f m ∷ slice_set (map f ns) (place n ns) (g n)) = λ i. first i ∷ rest i in
    front ∙ ap (λ (k : ℕ). slice_set (map f (m ∷ ns)) k (g n)) next

written : {E : Type 0} (f g : ℕ → E) (n : ℕ) → ((m : ℕ) → nat_eq n m ≡ false → g m ≡ f m) → (ns : List ℕ) → Distinct ns
    → among n ns ≡ true → map g ns ≡ slice_set (map f ns) (place n ns) (g n)
written f g n stays [] distinct h = absurd cc
written f g n stays (m ∷ ns) distinct h = written_step f g n stays m ns (nat_eq n m) refl distinct h (written f g n stays ns distinct.1)

read_step : {E : Type 0} (f : ℕ → E) (none : E) (n m : ℕ) (ns : List ℕ) (here : Bool) → nat_eq n m ≡ here
    → (here || among n ns) ≡ true → (among n ns ≡ true → slice_index_or (map f ns) (place n ns) none ≡ f n)
    → slice_index_or (map f (m ∷ ns)) (cond (not here) (1 + place n ns) 0) none ≡ f n
read_step f none n m ns true e h known = ap f (sym (eqb-true n m e))
read_step f none n m ns false e h known =
    let next : 1 + place n ns ≡ suc (place n ns) = omega arith in
    ap (λ (k : ℕ). slice_index_or (map f (m ∷ ns)) k none) next ∙ known h

-- at the place of n stands its entry
read : {E : Type 0} (f : ℕ → E) (none : E) (n : ℕ) (ns : List ℕ) → among n ns ≡ true
    → slice_index_or (map f ns) (place n ns) none ≡ f n
read f none n [] h = absurd cc
read f none n (m ∷ ns) h = read_step f none n m ns (nat_eq n m) refl h (read f none n ns)

-- what is known of each number by f, and with a mention of the number n after mentions of ns by g
pub record IsNotedWith {E : Type 0} (number : E → ℕ) (change : E → E) (fresh : E) (f g : ℕ → E) (n : ℕ)
    (ns : List ℕ) : Type 0 where
  pub shown : (m : ℕ) → number (f m) ≡ m
  pub stays : (m : ℕ) → nat_eq n m ≡ false → g m ≡ f m
  pub changed : among n ns ≡ true → g n ≡ change (f n)
  pub begun : among n ns ≡ false → g n ≡ fresh

table_step : {E : Type 0} (number : E → ℕ) (none : E) (change : E → E) (fresh : E) (f g : ℕ → E) (n : ℕ) (ns : List ℕ)
    (seen : Bool)
    → among n ns ≡ seen → IsNotedWith number change fresh f g n ns
    → map g (firsts (ns ++ n ∷ [])) ≡ noted_with number none change fresh n (map f (firsts ns))
table_step number none change fresh f g n ns true e is =
    let here : among n (firsts ns) ≡ true = among-firsts n ns ∙ e in
    ap (map g) (firsts-seen n ns e)
    ∙ written f g n is.stays (firsts ns) (firsts-distinct ns) here
    ∙ ap (λ v. slice_set (map f (firsts ns)) (place n (firsts ns)) v) (is.changed e)
    ∙ ap (λ v. slice_set (map f (firsts ns)) (place n (firsts ns)) (change v)) (sym (read f none n (firsts ns) here))
    ∙ ap (λ (o : Option ℕ). option_map_or (λ i. slice_set (map f (firsts ns)) i (change (slice_index_or (map f (firsts ns)) i none))) o
    (map f (firsts ns) ++ fresh ∷ [])) (sym (found-seen number f is.shown n (firsts ns) here))
table_step number none change fresh f g n ns false e is =
    let out : among n (firsts ns) ≡ false = among-firsts n ns ∙ e in
    ap (map g) (firsts-new n ns e)
    ∙ map-append g (firsts ns) (n ∷ [])
    ∙ ap (λ v. map g (firsts ns) ++ v ∷ []) (is.begun e)
    ∙ ap (λ vs. vs ++ fresh ∷ []) (map_stays f g n is.stays (firsts ns) out)
    ∙ ap (λ (o : Option ℕ). option_map_or (λ i. slice_set (map f (firsts ns)) i (change (slice_index_or (map f (firsts ns)) i none))) o
    (map f (firsts ns) ++ fresh ∷ [])) (sym (found-new number f is.shown n (firsts ns) out))

-- the table with a mention more
pub table-noted : {E : Type 0} (number : E → ℕ) (none : E) (change : E → E) (fresh : E) (f g : ℕ → E) (n : ℕ)
    (ns : List ℕ)
    → IsNotedWith number change fresh f g n ns
    → map g (firsts (ns ++ n ∷ [])) ≡ noted_with number none change fresh n (map f (firsts ns))
table-noted number none change fresh f g n ns is = table_step number none change fresh f g n ns (among n ns) refl is

number_step : {E : Type 0} (number : E → ℕ) (f : ℕ → E) → ((m : ℕ) → number (f m) ≡ m)
    → (n : ℕ) (ns : List ℕ) (seen : Bool) → among n ns ≡ seen
    → place n (firsts (ns ++ n ∷ [])) ≡ unwrap_or (found number n (map f (firsts ns))) (length (map f (firsts ns)))
number_step number f shown n ns true e =
    ap (place n) (firsts-seen n ns e)
    ∙ ap (λ (o : Option ℕ). unwrap_or o (length (map f (firsts ns)))) (sym (found-seen number f shown n (firsts ns) (among-firsts n ns ∙ e)))
number_step number f shown n ns false e =
    ap (place n) (firsts-new n ns e)
    ∙ place-new n (firsts ns) (among-firsts n ns ∙ e)
    ∙ sym (length-map (firsts ns) f)
    ∙ ap (λ (o : Option ℕ). unwrap_or o (length (map f (firsts ns)))) (sym (found-new number f shown n (firsts ns) (among-firsts n ns ∙ e)))

-- the number of the last mention, by the table before it
pub number-noted : {E : Type 0} (number : E → ℕ) (f : ℕ → E) → ((m : ℕ) → number (f m) ≡ m) → (n : ℕ) (ns : List ℕ)
    → number_in n (firsts (ns ++ n ∷ []))
    ≡ unwrap_or (found number n (map f (firsts ns))) (length (map f (firsts ns))) + 1
number-noted number f shown n ns = ap (λ (k : ℕ). k + 1) (number_step number f shown n ns (among n ns) refl)

value_step : {E B : Type 0} (number : E → ℕ) (none : E) (h : E → B) (f g : ℕ → E) (v : B) → ((m : ℕ) → number (f m) ≡ m)
    → (n : ℕ) (ns : List ℕ) (seen : Bool) → among n ns ≡ seen
    → (among n ns ≡ true → h (g n) ≡ h (f n)) → (among n ns ≡ false → h (g n) ≡ v)
    → h (g n)
    ≡ option_map_or (λ i. h (slice_index_or (map f (firsts ns)) i none)) (found number n (map f (firsts ns))) v
value_step number none h f g v shown n ns true e kept begun =
    let here : among n (firsts ns) ≡ true = among-firsts n ns ∙ e in
    kept e
    ∙ ap h (sym (read f none n (firsts ns) here))
    ∙ ap (λ (o : Option ℕ). option_map_or (λ i. h (slice_index_or (map f (firsts ns)) i none)) o v) (sym (found-seen number f shown n (firsts ns) here))
value_step number none h f g v shown n ns false e kept begun =
    begun e
    ∙ ap (λ (o : Option ℕ). option_map_or (λ i. h (slice_index_or (map f (firsts ns)) i none)) o v)
    (sym (found-new number f shown n (firsts ns) (among-firsts n ns ∙ e)))

-- what a function h says of the last mention's entry, by the table before it
pub value-noted : {E B : Type 0} (number : E → ℕ) (none : E) (h : E → B) (f g : ℕ → E) (v : B)
    → ((m : ℕ) → number (f m) ≡ m) → (n : ℕ) (ns : List ℕ)
    → (among n ns ≡ true → h (g n) ≡ h (f n)) → (among n ns ≡ false → h (g n) ≡ v)
    → h (g n)
    ≡ option_map_or (λ i. h (slice_index_or (map f (firsts ns)) i none)) (found number n (map f (firsts ns))) v
value-noted number none h f g v shown n ns kept begun = value_step number none h f g v shown n ns (among n ns) refl kept begun

-- mentions, among things with a number each

-- the things with this number
abbrev pub hits : {R : Type 0} (key : R → ℕ) → ℕ → List R → List R
hits key n rs = filter (λ r. nat_eq n (key r)) rs

-- a mention of another number is none of them
pub hits-other : {R : Type 0} (key : R → ℕ) (m : ℕ) (rs : List R) (r : R) → nat_eq (key r) m ≡ false
    → hits key m (rs ++ r ∷ []) ≡ hits key m rs
hits-other key m rs r h =
    filter-append (λ x. nat_eq m (key x)) rs (r ∷ [])
    ∙ ap (λ (b : Bool). hits key m rs ++ cond b (r ∷ []) []) (nat_eq-sym (key r) m h)
    ∙ append-nil (hits key m rs)

-- a mention of the number comes last
pub hits-own : {R : Type 0} (key : R → ℕ) (rs : List R) (r : R)
    → hits key (key r) (rs ++ r ∷ []) ≡ hits key (key r) rs ++ r ∷ []
hits-own key rs r =
    filter-append (λ x. nat_eq (key r) (key x)) rs (r ∷ [])
    ∙ ap (λ (b : Bool). hits key (key r) rs ++ cond b (r ∷ []) []) (nat_eq-same (key r))

-- a number that is not there has none
pub hits-none : {R : Type 0} (key : R → ℕ) (n : ℕ) (rs : List R) → among n (map key rs) ≡ false → hits key n rs ≡ []
hits-none key n [] h = refl
hits-none key n (r ∷ rs) h =
    let parts = or_parts (nat_eq n (key r)) (among n (map key rs)) h in
    ap (λ (b : Bool). cond b (r ∷ hits key n rs) (hits key n rs)) parts.0 ∙ hits-none key n rs parts.1

-- there is a first
abbrev pub HasSome : {R : Type 0} → List R → Type 0
HasSome {R} xs = (x : R) × (rest : List R) × (xs ≡ x ∷ rest)

some_step : {R : Type 0} (key : R → ℕ) (n : ℕ) (r : R) (rs : List R) (here : Bool)
    → (here || among n (map key rs)) ≡ true → (among n (map key rs) ≡ true → HasSome (hits key n rs))
    → HasSome (cond here (r ∷ hits key n rs) (hits key n rs))
some_step key n r rs true h known = (r, hits key n rs, refl)
some_step key n r rs false h known = known h

-- a number that is there has a first
pub hits-some : {R : Type 0} (key : R → ℕ) (n : ℕ) (rs : List R) → among n (map key rs) ≡ true
    → HasSome (hits key n rs)
hits-some key n [] h = absurd cc
hits-some key n (r ∷ rs) h = some_step key n r rs (nat_eq n (key r)) h (hits-some key n rs)

-- A number is new to a table, or the table has what is known of it.
pub data IsNewOrKnown {E R : Type 0} (number : E → ℕ) (none : E) (f : ℕ → E) (key : R → ℕ) (n : ℕ)
    (rs : List R) : Type 0 where
  is_new : found number n (map f (firsts (map key rs))) ≡ None → hits key n rs ≡ []
      → IsNewOrKnown number none f key n rs
  is_known : (i : ℕ) → found number n (map f (firsts (map key rs))) ≡ Some i
      → slice_index_or (map f (firsts (map key rs))) i none ≡ f n → HasSome (hits key n rs)
      → IsNewOrKnown number none f key n rs

-- a number is new or known
pub found-cases : {E R : Type 0} (number : E → ℕ) (none : E) (f : ℕ → E) → ((m : ℕ) → number (f m) ≡ m)
    → (key : R → ℕ) (n : ℕ) (rs : List R) → IsNewOrKnown number none f key n rs
found-cases number none f shown key n rs = by (among n (map key rs)) refl
  where
    by : (b : Bool) → among n (map key rs) ≡ b → IsNewOrKnown number none f key n rs
    by true e =
        let here : among n (firsts (map key rs)) ≡ true = among-firsts n (map key rs) ∙ e in
        is_known (place n (firsts (map key rs))) (found-seen number f shown n (firsts (map key rs)) here) (read f none n (firsts (map key rs)) here)
        (hits-some key n rs e)
    by false e = is_new (found-new number f shown n (firsts (map key rs)) (among-firsts n (map key rs) ∙ e)) (hits-none key n rs e)
