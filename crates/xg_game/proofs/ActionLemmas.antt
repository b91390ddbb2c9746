-- Actions by their names and their probabilities, and those of a set among all of them.
use Rattle.std.proofs.Common.{◌≡◌, ℕ, zero, suc, ◌+◌, ◌-◌, ◌≤◌, ◌<◌, List, [], ◌∷◌, ◌++◌, length, take, drop, slice_get, slice_index_or, Some, refl, sym, ap}
use Rattle.std.proofs.Common.{◌∙◌, arith, replicate, subst}
use Rattle.std.specs.List.{All, slice_range}
use Rattle.std.proofs.lemmas.List.Elements.{All-append, All-replicate}
use Rattle.std.proofs.Math.Seq.{drop-append_seam, take-length}
use Rattle.std.proofs.lemmas.List.{drop-append-le, take-append-le, length-drop, length-append, length-replicate, append_assoc, append-nil, take_all}
use Rattle.def_fraction.specs.Fraction.{Fraction, zero_fraction}
use Rattle.def_file.specs.Content.{action_with}
use Rattle.def_file.proofs.Fractions.{zero_small}
use Rattle.def_file.specs.Game.{IsSmallFraction}
use Rattle.xg_game.specs.Actions.{KeepsChances, actions_of}

-- there is an action for each name
pub length-actions_of : (names : List (List ℕ)) (chances : List Fraction)
    → length (actions_of names chances) ≡ length names
length-actions_of [] chances = refl
length-actions_of (name ∷ names) [] = omega (arith, length-actions_of names [])
length-actions_of (name ∷ names) (chance ∷ chances) = omega (arith, length-actions_of names chances)

-- the action at a place
pub action_at : (names : List (List ℕ)) (chances : List Fraction) (i : ℕ) (name : List ℕ)
    → slice_get names i ≡ Some name
    → slice_get (actions_of names chances) i
    ≡ Some (record { name = name; chance = slice_index_or chances i zero_fraction })
action_at [] chances i name at = cc
action_at (first ∷ names) [] zero name at =
    let same : first ≡ name = cc in ap (λ (n : List ℕ). Some (record { name = n; chance = zero_fraction })) same
action_at (first ∷ names) [] (suc i) name at = action_at names [] i name at
action_at (first ∷ names) (chance ∷ chances) zero name at =
    let same : first ≡ name = cc in ap (λ (n : List ℕ). Some (record { name = n; chance = chance })) same
action_at (first ∷ names) (chance ∷ chances) (suc i) name at = action_at names chances i name at

-- ---- an action more

-- a name without a probability has 0
pub named_last : (names : List (List ℕ)) (chances : List Fraction) (name : List ℕ) → length chances ≤ length names
    → actions_of (names ++ name ∷ []) chances ≡ actions_of names chances ++ action_with name zero_fraction ∷ []
named_last [] [] name short = refl
named_last [] (chance ∷ chances) name short = absurd (omega (arith, short))
named_last (first ∷ names) [] name short =
    ap (λ rest. action_with first zero_fraction ∷ rest) (named_last names [] name (omega arith))
named_last (first ∷ names) (chance ∷ chances) name short =
    ap (λ rest. action_with first chance ∷ rest) (named_last names chances name (omega (arith, short)))

-- a probability of 0 that is kept changes nothing
pub zero_last : (names : List (List ℕ)) (chances : List Fraction) → length chances < length names
    → actions_of names (chances ++ zero_fraction ∷ []) ≡ actions_of names chances
zero_last [] chances short = absurd (omega (arith, short))
zero_last (name ∷ names) [] short = refl
zero_last (name ∷ names) (chance ∷ chances) short =
    ap (λ rest. action_with name chance ∷ rest) (zero_last names chances (omega (arith, short)))

-- nor do several
zeros_last : (n : ℕ) (names : List (List ℕ)) (chances : List Fraction) → length chances + n ≤ length names
    → actions_of names (chances ++ replicate n zero_fraction) ≡ actions_of names chances
zeros_last zero names chances many = ap (actions_of names) (append-nil chances)
zeros_last (suc n) names chances many =
    ap (actions_of names) (sym (append_assoc chances (zero_fraction ∷ []) (replicate n zero_fraction)))
    ∙ zeros_last n names (chances ++ zero_fraction ∷ []) (omega (arith, many, length-append chances (zero_fraction ∷ [])))
    ∙ zero_last names chances (omega (arith, many))

-- probabilities of 0 behind the others, as many in all as there are names
pub record ArePadded (names : List (List ℕ)) (chances new : List Fraction) : Type 0 where
  pub count : length new ≡ length names
  pub same : actions_of names new ≡ actions_of names chances
  pub small : All IsSmallFraction new

pub padded : (names : List (List ℕ)) (chances new : List Fraction) (len n : ℕ) (none : Fraction) → KeepsChances names chances
    → len ≡ length names → n ≡ len - length chances → none ≡ zero_fraction → new ≡ take len chances ++ replicate n none
    → ArePadded names chances new
padded names chances new len n none kept is rest zero_is put =
    let all : new ≡ chances ++ replicate n zero_fraction =
    put ∙ ap (λ (cs : List Fraction). cs ++ replicate n none) (take_all len chances (omega (arith, is, kept.count)))
    ∙ ap (λ (z : Fraction). chances ++ replicate n z) zero_is in
    record {
      count = omega (arith, ap length all, length-append chances (replicate n zero_fraction), length-replicate n zero_fraction, is, rest, kept.count);
      same = ap (actions_of names) all ∙ zeros_last n names chances (omega (arith, is, rest, kept.count));
      small = subst (All IsSmallFraction) (sym all)
          (All-append IsSmallFraction chances (replicate n zero_fraction) kept.small (All-replicate IsSmallFraction n zero_fraction zero_small));
    }

-- the last name has the last probability, where there are as many
pub chance_last : (names : List (List ℕ)) (chances : List Fraction) (name : List ℕ) (chance : Fraction)
    → length chances ≡ length names
    → actions_of (names ++ name ∷ []) (chances ++ chance ∷ [])
    ≡ actions_of names chances ++ action_with name chance ∷ []
chance_last [] [] name chance same = refl
chance_last [] (c ∷ chances) name chance same = absurd (omega (arith, same))
chance_last (first ∷ names) [] name chance same = absurd (omega (arith, same))
chance_last (first ∷ names) (c ∷ chances) name chance same =
    ap (λ rest. action_with first c ∷ rest) (chance_last names chances name chance (omega (arith, same)))

-- ---- those of a set

module _ {A : Type 0} where
  get_behind : (xs : List A) (a i : ℕ) → slice_get (drop a xs) i ≡ slice_get xs (a + i)
  get_behind xs zero i = ap (slice_get xs) (omega arith)
  get_behind [] (suc a) i = refl
  get_behind (x ∷ xs) (suc a) i =
      let next : suc a + i ≡ suc (a + i) = omega arith in
      get_behind xs a i ∙ sym (ap (slice_get (x ∷ xs)) next)

  get_before : (xs : List A) (n i : ℕ) → i < n → slice_get (take n xs) i ≡ slice_get xs i
  get_before xs zero i below = absurd (omega (arith, below))
  get_before [] (suc n) i below = refl
  get_before (x ∷ xs) (suc n) zero below = refl
  get_before (x ∷ xs) (suc n) (suc i) below = get_before xs n i (omega (arith, below))

  -- an element of a part stands so many behind its start
  pub get_part : (xs : List A) (a b i : ℕ) → i < b - a → slice_get (slice_range xs a b) i ≡ slice_get xs (a + i)
  get_part xs a b i below = get_before (drop a xs) (b - a) i below ∙ get_behind xs a i

  -- a part of a list has as many elements as lie between its start and its end
  pub length_part : (xs : List A) (a b : ℕ) → a ≤ b → b ≤ length xs → length (slice_range xs a b) ≡ b - a
  length_part xs a b order within = length_taken (drop a xs) (b - a) (omega (arith, length-drop a xs, order, within))
    where
      length_taken : (ys : List A) (n : ℕ) → n ≤ length ys → length (take n ys) ≡ n
      length_taken ys zero most = refl
      length_taken [] (suc n) most = absurd (omega (arith, most))
      length_taken (y ∷ ys) (suc n) most = omega (arith, length_taken ys n (omega (arith, most)))

  -- what comes behind doesn't change a part
  pub part_stays : (xs ys : List A) (a b : ℕ) → a ≤ b → b ≤ length xs → slice_range (xs ++ ys) a b ≡ slice_range xs a b
  part_stays xs ys a b order within =
      ap (take (b - a)) (drop-append-le a xs ys (omega (arith, order, within)))
      ∙ take-append-le (b - a) (drop a xs) ys (omega (arith, length-drop a xs, order, within))

  -- and is the part from there on
  pub part_behind : (xs ys zs : List A) (a b : ℕ) → zs ≡ xs ++ ys → a ≡ length xs → b ≡ length zs
      → slice_range zs a b ≡ ys
  part_behind xs ys zs a b all from to =
      let size : length zs ≡ length xs + length ys = ap length all ∙ length-append xs ys in
      let long : b - a ≡ length ys = omega (arith, from, to, size) in
      let behind : drop a zs ≡ ys = ap (λ (n : ℕ). drop n zs) from ∙ ap (drop (length xs)) all ∙ drop-append_seam xs ys in
      ap (λ (n : ℕ). take n (drop a zs)) long ∙ ap (take (length ys)) behind ∙ take-length ys

  -- ---- one after another
  take_more : (xs : List A) (i : ℕ) (x : A) → slice_get xs i ≡ Some x → take (suc i) xs ≡ take i xs ++ x ∷ []
  take_more [] i x at = cc
  take_more (y ∷ xs) zero x at = let same : y ≡ x = cc in ap (λ a. a ∷ []) same
  take_more (y ∷ xs) (suc i) x at = ap (λ rest. y ∷ rest) (take_more xs i x at)

  -- the first of a list behind others, and one more
  pub first_more : (front xs : List A) (i : ℕ) (x : A) (now new : List A) → slice_get xs i ≡ Some x
      → now ≡ front ++ take i xs → new ≡ now ++ x ∷ [] → new ≡ front ++ take (i + 1) xs
  first_more front xs i x now new at are put =
      let next : i + 1 ≡ suc i = omega arith in
      put ∙ ap (λ (zs : List A). zs ++ x ∷ []) are ∙ append_assoc front (take i xs) (x ∷ [])
      ∙ ap (λ (zs : List A). front ++ zs) (sym (take_more xs i x at)) ∙ ap (λ (n : ℕ). front ++ take n xs) (sym next)

  -- the first of a list are all, as many as there are
  pub all_first : (front xs : List A) (i : ℕ) (now : List A) → length xs ≤ i → i ≤ length xs
      → now ≡ front ++ take i xs → now ≡ front ++ xs
  all_first front xs i now past within are =
      let all : i ≡ length xs = omega (arith, past, within) in
      are ∙ ap (λ (n : ℕ). front ++ take n xs) all ∙ ap (λ (zs : List A). front ++ zs) (take-length xs)
