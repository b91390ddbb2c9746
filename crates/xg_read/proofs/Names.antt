-- Reading players' names one by one, and their summary.
use Rattle.std.proofs.Common.{◌≡◌, ◌≢◌, ℕ, zero, suc, ◌+◌, ◌-◌, ◌<◌, ◌≤◌, Bool, true, false, cond, List, [], ◌∷◌, ◌++◌, length, Option, Some, None, Result, Ok}
use Rattle.std.proofs.Common.{Err, refl, sym, ◌∙◌, ap, eq-eqb, ne_eqb, arith}
use Rattle.std.proofs.lemmas.List.{length-append}
use Rattle.def_file.specs.declared.FileFault.{FileFault}
use Rattle.def_file.specs.declared.FileFault.TheVariants.{UnexpectedEnd, Players}
use Rattle.def_file.specs.Reading.{◌>>=◌, next_is, close_byte, close_at, text_at, names_from, checked_names}
use Rattle.xg_read.specs.Mentions.{AreFirstNames}

pub names_closed : (left : ℕ) (done : List (List ℕ)) (whole : List ℕ) (at : ℕ) → 0 < left
    → next_is close_byte whole at ≡ true
    → names_from left done whole at ≡ close_at done whole at
unfolding names_from
names_closed zero done whole at some closes = absurd (omega arith)
names_closed (suc left) done whole at some closes = rw closes refl

pub names_more : (left : ℕ) (done : List (List ℕ)) (whole : List ℕ) (at : ℕ) → 0 < left
    → next_is close_byte whole at ≡ false
    → names_from left done whole at
    ≡ (text_at whole at >>= λ text. names_from (left - 1) (done ++ text.0 ∷ []) whole text.1)
unfolding names_from
names_more zero done whole at some goes = absurd (omega arith)
names_more (suc left) done whole at some goes = let e : suc left - 1 ≡ left = omega arith in rw (e, goes) refl

pub names_full : (left : ℕ) (done : List (List ℕ)) (whole : List ℕ) (at : ℕ) → left ≡ 0
    → names_from left done whole at ≡ Err UnexpectedEnd
unfolding names_from
names_full zero done whole at none = refl
names_full (suc left) done whole at none = absurd (omega arith)

-- the first name, the second, and any other
pub first_named : (done : List (List ℕ)) (text : List ℕ) (one two : Option (List ℕ)) (count : ℕ) → count ≡ 0
    → AreFirstNames done one two count → AreFirstNames (done ++ text ∷ []) (Some text) two 1
first_named [] text one two count none first = record { first_is = refl; second_is = first.second_is; count_is = refl }
first_named (name ∷ done) text one two count none first = absurd (omega (arith, first.count_is))

pub second_named : (done : List (List ℕ)) (text : List ℕ) (one two : Option (List ℕ)) (count : ℕ) → count ≡ 1
    → AreFirstNames done one two count → AreFirstNames (done ++ text ∷ []) one (Some text) 2
second_named [] text one two count single first = absurd (omega (arith, first.count_is))
second_named (name ∷ []) text one two count single first = record { first_is = first.first_is; second_is = refl; count_is = refl }
second_named (name ∷ other ∷ done) text one two count single first = absurd (omega (arith, first.count_is))

pub other_named : (done : List (List ℕ)) (text : List ℕ) (one two : Option (List ℕ)) (count : ℕ) → 2 ≤ count
    → AreFirstNames done one two count → AreFirstNames (done ++ text ∷ []) one two (count + 1)
other_named [] text one two count many first = absurd (omega (arith, first.count_is))
other_named (name ∷ []) text one two count many first = absurd (omega (arith, first.count_is))
other_named (name ∷ other ∷ done) text one two count many first = record {
  first_is = first.first_is;
  second_is = first.second_is;
  count_is = omega (arith, first.count_is, length-append (name ∷ other ∷ done) (text ∷ []));
}

-- what is read from here on is what is read behind the next name
pub names_next : (left after : ℕ) (done : List (List ℕ)) (text whole seen : List ℕ) (at end : ℕ) → seen ≡ whole
    → left ≡ after + 1
    → next_is close_byte seen at ≡ false → text_at seen at ≡ Ok (text, end)
    → names_from left done whole at ≡ names_from after (done ++ text ∷ []) whole end
names_next left after done text whole seen at end same e goes read =
    let some : 0 < left = omega arith in
    let one : left - 1 ≡ after = omega arith in
    names_more left done whole at some (ap (λ (w : List ℕ). next_is close_byte w at) (sym same) ∙ goes)
    ∙ ap (λ (r : Result (List ℕ × ℕ) FileFault). r >>= λ item. names_from (left - 1) (done ++ item.0 ∷ []) whole item.1)
    (ap (λ (w : List ℕ). text_at w at) (sym same) ∙ read)
    ∙ ap (λ (n : ℕ). names_from n (done ++ text ∷ []) whole end) one

-- two names
pub first_there : (done : List (List ℕ)) (two : Option (List ℕ)) (count : ℕ) → count ≡ 2
    → AreFirstNames done None two count
    → ⊥
first_there [] two count pair first = absurd (omega (arith, first.count_is))
first_there (name ∷ done) two count pair first = let clash = first.first_is in cc

pub second_there : (done : List (List ℕ)) (one : Option (List ℕ)) (count : ℕ) → count ≡ 2
    → AreFirstNames done one None count
    → ⊥
second_there [] one count pair first = absurd (omega (arith, first.count_is))
second_there (name ∷ []) one count pair first = absurd (omega (arith, first.count_is))
second_there (name ∷ other ∷ done) one count pair first = let clash = first.second_is in cc

pub checked_two : (names : List (List ℕ)) (at : ℕ) → length names ≡ 2 → checked_names names at ≡ Ok at
checked_two names at pair = ap (λ (b : Bool). cond b (Ok at) (Err (Players (length names)))) (eq-eqb (length names) 2 pair)

pub checked_other : (names : List (List ℕ)) (at : ℕ) → length names ≢ 2
    → checked_names names at ≡ Err (Players (length names))
checked_other names at other = ap (λ (b : Bool). cond b (Ok at) (Err (Players (length names)))) (ne_eqb (length names) 2 other)
