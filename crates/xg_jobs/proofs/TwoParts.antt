-- Groups in two parts: the first ones, and those behind them.
use Rattle.std.proofs.Common.{◌≡◌, ℕ, zero, suc, ◌+◌, ◌-◌, ◌<◌, ◌≤◌, max, List, [], ◌∷◌, ◌++◌, length, slice_index, replicate, take, drop, All, ℤ, pos, ◌+ℤ◌}
use Rattle.std.proofs.Common.{unsigned_abs, sym, ap, subst, ◌∙◌, arith, refl, ⊎_elim}
use Rattle.std.proofs.lemmas.List.{get_or-take, get_or-drop, get_or_append_left, get_or-append-add, length-take-le, length-drop, length-append}
use Rattle.std.proofs.lemmas.List.{length-replicate, get_or-replicate, get_or_past}
use Rattle.std.proofs.lemmas.Bool.{cases_lt}  -- `cases_lt` is `lt_or_ge` in other libraries, and gives their `le_total`
use Rattle.std.proofs.Math.Nat.{mul-le-mul}
use Rattle.def_plan.specs.FormRows.{amount_of}
use Rattle.def_sums.proofs.RingLaws.{+ℤ-zero, zero-+ℤ, +ℤ_assoc, unsigned_abs-+ℤ}
use Rattle.xg_jobs.specs.Adding.{CanAddGroups}
use Rattle.xg_jobs.specs.Groups.{GroupLeaf, greatest_of, group_at, group_sum, group_mass, group_part, groups_mass, parts_sum}
use Rattle.xg_jobs.proofs.Greatest.{in_first}
use Rattle.xg_jobs.proofs.Parts.{mass_more, parts_more, parts_size}

-- a group of the first ones, and one of those behind them, are the groups of the whole
pub first_group : (starts : List ℕ) (entries : List GroupLeaf) (cut s : ℕ) → s < cut
    → group_at (take (cut + 1) starts) entries s ≡ group_at starts entries s
first_group starts entries cut s low =
    ap (λ a. take (slice_index (take (cut + 1) starts) (s + 1) - a) (drop a entries)) (get_or-take (cut + 1) starts s 0 (omega arith))
    ∙ ap (λ b. take (b - slice_index starts s) (drop (slice_index starts s) entries)) (get_or-take (cut + 1) starts (s + 1) 0 (omega arith))

pub later_group : (starts : List ℕ) (entries : List GroupLeaf) (cut s : ℕ)
    → group_at (drop cut starts) entries s ≡ group_at starts entries (cut + s)
later_group starts entries cut s =
    ap (λ a. take (slice_index (drop cut starts) (s + 1) - a) (drop a entries)) (get_or-drop cut starts s 0)
    ∙ ap (λ b. take (b - slice_index starts (cut + s)) (drop (slice_index starts (cut + s)) entries)) (get_or-drop cut starts (s + 1) 0)
    ∙ ap (λ k. take (slice_index starts k - slice_index starts (cut + s)) (drop (slice_index starts (cut + s)) entries)) (omega arith)

-- what the first groups bring
pub first_parts : (starts : List ℕ) (entries : List GroupLeaf) (x : List ℕ) (cut n b : ℕ) → n ≤ cut
    → parts_sum (take (cut + 1) starts) entries (take cut x) n b ≡ parts_sum starts entries x n b
first_parts starts entries x cut zero b low = refl
first_parts starts entries x cut (suc n) b low =
    let e : suc n ≡ n + 1 = omega arith in
    ap (λ k. parts_sum (take (cut + 1) starts) entries (take cut x) k b) e
    ∙ parts_more (take (cut + 1) starts) entries (take cut x) n b
    ∙ ap (λ v. v +ℤ group_part (slice_index (take cut x) n) (group_at (take (cut + 1) starts) entries n) b) (first_parts starts entries x cut n b (omega arith))
    ∙ ap (λ k. parts_sum starts entries x n b +ℤ group_part k (group_at (take (cut + 1) starts) entries n) b) (get_or-take cut x n 0 (omega arith))
    ∙ ap (λ group. parts_sum starts entries x n b +ℤ group_part (slice_index x n) group b) (first_group starts entries cut n (omega arith))
    ∙ sym (parts_more starts entries x n b)
    ∙ ap (λ k. parts_sum starts entries x k b) (sym e)

-- what all bring is what the first ones bring and what those behind them bring
pub all_parts : (starts : List ℕ) (entries : List GroupLeaf) (x : List ℕ) (cut n b : ℕ)
    → parts_sum starts entries x (cut + n) b ≡ parts_sum starts entries x cut b +ℤ parts_sum (drop cut starts) entries (drop cut x) n b
all_parts starts entries x cut zero b =
    let e : cut + 0 ≡ cut = omega arith in
    ap (λ k. parts_sum starts entries x k b) e ∙ sym (+ℤ-zero (parts_sum starts entries x cut b))
all_parts starts entries x cut (suc n) b =
    let e : cut + suc n ≡ cut + n + 1 = omega arith in
    let f : suc n ≡ n + 1 = omega arith in
    ap (λ k. parts_sum starts entries x k b) e
    ∙ parts_more starts entries x (cut + n) b
    ∙ ap (λ v. v +ℤ group_part (slice_index x (cut + n)) (group_at starts entries (cut + n)) b) (all_parts starts entries x cut n b)
    ∙ +ℤ_assoc (parts_sum starts entries x cut b) (parts_sum (drop cut starts) entries (drop cut x) n b)
    (group_part (slice_index x (cut + n)) (group_at starts entries (cut + n)) b)
    ∙ ap (λ v. parts_sum starts entries x cut b +ℤ v) (
    ap (λ k. parts_sum (drop cut starts) entries (drop cut x) n b +ℤ group_part k (group_at starts entries (cut + n)) b) (sym (get_or-drop cut x n 0))
    ∙ ap (λ group. parts_sum (drop cut starts) entries (drop cut x) n b +ℤ group_part (slice_index (drop cut x) n) group b)
    (sym (later_group starts entries cut n))
    ∙ sym (parts_more (drop cut starts) entries (drop cut x) n b)
    ∙ ap (λ k. parts_sum (drop cut starts) entries (drop cut x) k b) (sym f)
    )

-- and so their masses
pub first_mass : (starts : List ℕ) (entries : List GroupLeaf) (cut n : ℕ) → n ≤ cut
    → groups_mass (take (cut + 1) starts) entries n ≡ groups_mass starts entries n
first_mass starts entries cut zero low = refl
first_mass starts entries cut (suc n) low =
    let e : suc n ≡ n + 1 = omega arith in
    ap (groups_mass (take (cut + 1) starts) entries) e
    ∙ mass_more (take (cut + 1) starts) entries n
    ∙ ap (λ m. m + group_mass (group_at (take (cut + 1) starts) entries n)) (first_mass starts entries cut n (omega arith))
    ∙ ap (λ group. groups_mass starts entries n + group_mass group) (first_group starts entries cut n (omega arith))
    ∙ sym (mass_more starts entries n)
    ∙ ap (groups_mass starts entries) (sym e)

pub all_mass : (starts : List ℕ) (entries : List GroupLeaf) (cut n : ℕ)
    → groups_mass starts entries (cut + n) ≡ groups_mass starts entries cut + groups_mass (drop cut starts) entries n
all_mass starts entries cut zero =
    let e : cut + 0 ≡ cut = omega arith in
    let k = ap (groups_mass starts entries) e in
    omega (arith, k)
all_mass starts entries cut (suc n) =
    let e : cut + suc n ≡ cut + n + 1 = omega arith in
    let f : suc n ≡ n + 1 = omega arith in
    omega (
      arith,
      ap (groups_mass starts entries) e,
      mass_more starts entries (cut + n),
      all_mass starts entries cut n,
      ap (groups_mass (drop cut starts) entries) f,
      mass_more (drop cut starts) entries n,
      ap group_mass (later_group starts entries cut n),
    )

-- the greatest of some of the numbers
greatest_front : (n : ℕ) (xs : List ℕ) → greatest_of (take n xs) ≤ greatest_of xs
greatest_front zero xs = omega arith
greatest_front (suc n) [] = omega arith
greatest_front (suc n) (x ∷ xs) = let e = greatest_front n xs in grind arith

greatest_back : (n : ℕ) (xs : List ℕ) → greatest_of (drop n xs) ≤ greatest_of xs
greatest_back zero xs = omega arith
greatest_back (suc n) [] = omega arith
greatest_back (suc n) (x ∷ xs) = let e = greatest_back n xs in grind arith

lower : (a b c : ℕ) → a ≤ b → max a c ≤ max b c
lower a b c low = grind arith

-- what the first groups need
can_front : (limit : ℕ) (starts : List ℕ) (entries : List GroupLeaf) (one two : List ℕ) (n : ℕ) (rows : List ℤ) (cut : ℕ)
    → CanAddGroups limit starts entries one two n rows → cut ≤ n
    → CanAddGroups limit (take (cut + 1) starts) entries (take cut one) two cut rows
can_front limit starts entries one two n rows cut can low =
    let e : cut + (n - cut) ≡ n = omega arith in
    let most : max (greatest_of (take cut one)) (greatest_of two) ≤ max (greatest_of one) (greatest_of two) = lower (greatest_of (take cut one))
    (greatest_of one) (greatest_of two) (greatest_front cut one) in
    let mass : groups_mass (take (cut + 1) starts) entries cut ≤ groups_mass starts entries n =
    omega (arith, first_mass starts entries cut cut (omega arith), all_mass starts entries cut (n - cut), ap (groups_mass starts entries) e) in
    record {
      ordered = λ s below. omega (
        arith,
        can.ordered s (omega arith),
        get_or-take (cut + 1) starts s 0 (omega arith),
        get_or-take (cut + 1) starts (s + 1) 0 (omega arith),
      );
      inside = λ s below. omega (arith, can.inside s (omega arith), get_or-take (cut + 1) starts (s + 1) 0 (omega arith));
      all_starts = sym (length-take-le (cut + 1) starts (omega (arith, can.all_starts)));
      ones = sym (length-take-le cut one (omega (arith, can.ones)));
      twos = can.twos;
      within = λ s below. subst (All (λ e. e.other < length two)) (sym (first_group starts entries cut s below)) (can.within s (omega arith));
      small = omega (arith, can.small, most);
      room = λ b. omega (arith, can.room b, mul-le-mul mass most);
    }

pub can_first : (limit : ℕ) (starts : List ℕ) (entries : List GroupLeaf) (one two : List ℕ) (n : ℕ) (rows : List ℤ) (cut : ℕ)
    (front_starts front_one : List ℕ) (k : ℕ)
    → CanAddGroups limit starts entries one two n rows → cut ≤ n
    → front_starts ≡ take (cut + 1) starts → front_one ≡ take cut one → k ≡ cut
    → CanAddGroups limit front_starts entries front_one two k rows
can_first limit starts entries one two n rows cut front_starts front_one k can low a b c =
    subst (λ xs. CanAddGroups limit xs entries front_one two k rows) (sym a)
    (subst (λ xs. CanAddGroups limit (take (cut + 1) starts) entries xs two k rows) (sym b)
    (subst (λ m. CanAddGroups limit (take (cut + 1) starts) entries (take cut one) two m rows) (sym c)
    (can_front limit starts entries one two n rows cut can low)))

-- what those behind them need, with rows that begin with 0
can_back : (limit : ℕ) (starts : List ℕ) (entries : List GroupLeaf) (one two : List ℕ) (n : ℕ) (rows spare : List ℤ) (cut : ℕ)
    → CanAddGroups limit starts entries one two n rows → cut ≤ n → length spare ≡ length rows → ((b : ℕ) → amount_of spare b ≡ pos 0)
    → CanAddGroups limit (drop cut starts) entries (drop cut one) two (n - cut) spare
can_back limit starts entries one two n rows spare cut can low count zeros =
    let e : cut + (n - cut) ≡ n = omega arith in
    let most : max (greatest_of (drop cut one)) (greatest_of two) ≤ max (greatest_of one) (greatest_of two) = lower (greatest_of (drop cut one))
    (greatest_of one) (greatest_of two) (greatest_back cut one) in
    let mass : groups_mass (drop cut starts) entries (n - cut) ≤ groups_mass starts entries n =
    omega (arith, all_mass starts entries cut (n - cut), ap (groups_mass starts entries) e) in
    record {
      ordered = λ s below. omega (
        arith,
        can.ordered (cut + s) (omega arith),
        get_or-drop cut starts s 0,
        get_or-drop cut starts (s + 1) 0,
        ap (slice_index starts) (next s),
      );
      inside = λ s below. omega (arith, can.inside (cut + s) (omega arith), get_or-drop cut starts (s + 1) 0, ap (slice_index starts) (next s));
      all_starts = omega (arith, can.all_starts, length-drop cut starts);
      ones = omega (arith, can.ones, length-drop cut one);
      twos = count ∙ can.twos;
      within = λ s below. subst (All (λ e. e.other < length two)) (sym (later_group starts entries cut s)) (can.within (cut + s) (omega arith));
      small = omega (arith, can.small, most);
      room = λ b. let z = ap unsigned_abs (zeros b) in omega (arith, z, can.room b, mul-le-mul mass most);
    }
  where
    next : (s : ℕ) → cut + (s + 1) ≡ cut + s + 1
    next s = omega arith

pub can_later : (limit : ℕ) (starts : List ℕ) (entries : List GroupLeaf) (one two : List ℕ) (n : ℕ) (rows spare : List ℤ) (cut : ℕ)
    (back_starts back_one : List ℕ) (k : ℕ)
    → CanAddGroups limit starts entries one two n rows → cut ≤ n → length spare ≡ length rows → ((b : ℕ) → amount_of spare b ≡ pos 0)
    → back_starts ≡ drop cut starts → back_one ≡ drop cut one → k ≡ n - cut
    → CanAddGroups limit back_starts entries back_one two k spare
can_later limit starts entries one two n rows spare cut back_starts back_one k can low count zeros a b c =
    subst (λ xs. CanAddGroups limit xs entries back_one two k spare) (sym a)
    (subst (λ xs. CanAddGroups limit (drop cut starts) entries xs two k spare) (sym b)
    (subst (λ m. CanAddGroups limit (drop cut starts) entries (drop cut one) two m spare) (sym c)
    (can_back limit starts entries one two n rows spare cut can low count zeros)))

-- what both parts bring to a row is what all groups bring to it
pub both_bring : (starts : List ℕ) (entries : List GroupLeaf) (x : List ℕ) (cut n b : ℕ) (before first spare later : ℤ)
    → first ≡ before +ℤ parts_sum (take (cut + 1) starts) entries (take cut x) cut b
    → spare ≡ pos 0 → later ≡ spare +ℤ parts_sum (drop cut starts) entries (drop cut x) n b
    → first +ℤ later ≡ before +ℤ parts_sum starts entries x (cut + n) b
both_bring starts entries x cut n b before first spare later one none two =
    let low = parts_sum starts entries x cut b in
    let high = parts_sum (drop cut starts) entries (drop cut x) n b in
    ap (λ v. v +ℤ later) (one ∙ ap (λ v. before +ℤ v) (first_parts starts entries x cut cut b (omega arith)))
    ∙ ap (λ v. (before +ℤ low) +ℤ v) (two ∙ ap (λ v. v +ℤ high) none ∙ zero-+ℤ high)
    ∙ +ℤ_assoc before low high
    ∙ ap (λ v. before +ℤ v) (sym (all_parts starts entries x cut n b))

-- which has room
pub both_fit : (limit : ℕ) (starts : List ℕ) (entries : List GroupLeaf) (one two : List ℕ) (n b : ℕ) (rows : List ℤ) (sum : ℤ)
    → CanAddGroups limit starts entries one two n rows → sum ≡ amount_of rows b +ℤ parts_sum starts entries one n b
    → unsigned_abs sum < limit
both_fit limit starts entries one two n b rows sum can is =
    omega (
      arith,
      ap unsigned_abs is,
      unsigned_abs-+ℤ (amount_of rows b) (parts_sum starts entries one n b),
      parts_size starts entries one (max (greatest_of one) (greatest_of two)) n b (in_first one two),
      can.room b,
    )

-- the sums of both parts one behind the other
pub both_sums : (starts : List ℕ) (entries : List GroupLeaf) (two : List ℕ) (cut : ℕ) (own later : List ℤ) → length own ≡ cut
    → ((s : ℕ) → s < length own → amount_of own s ≡ group_sum two (group_at (take (cut + 1) starts) entries s))
    → ((s : ℕ) → s < length later → amount_of later s ≡ group_sum two (group_at (drop cut starts) entries s))
    → (s : ℕ) → s < length (own ++ later) → amount_of (own ++ later) s ≡ group_sum two (group_at starts entries s)
both_sums starts entries two cut own later count first back s low =
    ⊎_elim
    (λ below. get_or_append_left own later (pos 0) s below ∙ first s below
    ∙ ap (group_sum two) (first_group starts entries cut s (omega (arith, below, count))))
    (λ above.
    let k : ℕ = s - length own in
    let e : s ≡ length own + k = omega (arith, above) in
    let f : cut + k ≡ s = omega (arith, above, count) in
    ap (amount_of (own ++ later)) e ∙ get_or-append-add own later k (pos 0)
    ∙ back k (omega (arith, low, above, length-append own later))
    ∙ ap (group_sum two) (later_group starts entries cut k ∙ ap (group_at starts entries) f))
    (cases_lt s (length own))

-- the same where the parts of the lists are known by equations
pub brings : (starts : List ℕ) (entries : List GroupLeaf) (x : List ℕ) (cut n b : ℕ) (before first spare later : ℤ)
    (front_starts front_one back_starts back_one : List ℕ) (k j : ℕ)
    → front_starts ≡ take (cut + 1) starts → front_one ≡ take cut x → back_starts ≡ drop cut starts → back_one ≡ drop cut x
    → k ≡ cut → cut + j ≡ n
    → first ≡ before +ℤ parts_sum front_starts entries front_one k b
    → spare ≡ pos 0 → later ≡ spare +ℤ parts_sum back_starts entries back_one j b
    → first +ℤ later ≡ before +ℤ parts_sum starts entries x n b
brings starts entries x cut n b before first spare later front_starts front_one back_starts back_one k j fs fo bs bo e f one none two =
    both_bring starts entries x cut j b before first spare later
    (one ∙ ap (λ v. before +ℤ v) (
    ap (λ xs. parts_sum xs entries front_one k b) fs
    ∙ ap (λ xs. parts_sum (take (cut + 1) starts) entries xs k b) fo
    ∙ ap (λ m. parts_sum (take (cut + 1) starts) entries (take cut x) m b) e
    ))
    none
    (two ∙ ap (λ v. spare +ℤ v) (
    ap (λ xs. parts_sum xs entries back_one j b) bs
    ∙ ap (λ xs. parts_sum (drop cut starts) entries xs j b) bo
    ))
    ∙ ap (λ m. before +ℤ parts_sum starts entries x m b) f

pub sums_of_both : (starts : List ℕ) (entries : List GroupLeaf) (two : List ℕ) (cut : ℕ) (front_starts back_starts : List ℕ) (own later : List ℤ)
    → front_starts ≡ take (cut + 1) starts → back_starts ≡ drop cut starts → length own ≡ cut
    → ((s : ℕ) → s < length own → amount_of own s ≡ group_sum two (group_at front_starts entries s))
    → ((s : ℕ) → s < length later → amount_of later s ≡ group_sum two (group_at back_starts entries s))
    → (s : ℕ) → s < length (own ++ later) → amount_of (own ++ later) s ≡ group_sum two (group_at starts entries s)
sums_of_both starts entries two cut front_starts back_starts own later fs bs count first back =
    both_sums starts entries two cut own later count
    (λ s low. first s low ∙ ap (λ xs. group_sum two (group_at xs entries s)) fs)
    (λ s low. back s low ∙ ap (λ xs. group_sum two (group_at xs entries s)) bs)

-- rows of 0 have the amount 0
pub zeros_at : (n b : ℕ) → amount_of (replicate n (pos 0)) b ≡ pos 0
zeros_at n b =
    ⊎_elim
    (λ below. get_or-replicate n b (pos 0) (pos 0) below)
    (λ above. get_or_past (replicate n (pos 0)) b (pos 0) (omega (arith, above, length-replicate n (pos 0))))
    (cases_lt b n)
