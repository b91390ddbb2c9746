-- Numbers in groups, one after another.
use Rattle.std.proofs.Common.{◌≡◌, ℕ, zero, suc, ◌+◌, ◌-◌, ◌≤◌, ◌<◌, List, [], ◌∷◌, ◌++◌, length, take, drop, get_or, slice_index_or, refl, sym, ap, ◌∙◌, arith}
use Rattle.std.proofs.Math.Seq.{drop-length, drop-append_seam, take-length}
use Rattle.std.proofs.lemmas.List.{drop-drop, take-append-drop, drop-append-le, take-append-le, length-drop, length-append}
use Rattle.def_cert_verdict.specs.Certificate.{joined, printed_numbers}
use Rattle.xg_cert.specs.Printed.{cut_at, AreStartsUpTo, IsPlanOf, plan_of}

first_at_most : (start : ℕ) (starts : List ℕ) (size : ℕ) → AreStartsUpTo (start ∷ starts) size → start ≤ size
first_at_most start [] size rise = omega (arith, rise)
first_at_most start (next ∷ starts) size rise = omega (arith, rise.0, first_at_most next starts size rise.1)

joined_from : (start : ℕ) (starts numbers : List ℕ) → AreStartsUpTo (start ∷ starts) (length numbers)
    → joined (cut_at (start ∷ starts) numbers) ≡ drop start numbers
joined_from start [] numbers rise = sym (drop-length numbers) ∙ ap (λ n. drop n numbers) (sym rise)
joined_from start (next ∷ starts) numbers rise =
    let seam : start + (next - start) ≡ next = omega (arith, rise.0) in
    ap (λ ns. take (next - start) (drop start numbers) ++ ns) (joined_from next starts numbers rise.1
    ∙ ap (λ n. drop n numbers) (sym seam) ∙ sym (drop-drop (next - start) start numbers))
    ∙ take-append-drop (next - start) (drop start numbers)

-- the root and the groups are all numbers
pub all_numbers : (numbers starts : List ℕ) → IsPlanOf numbers starts
    → printed_numbers (plan_of numbers starts) ≡ numbers
all_numbers [] starts plan = absurd (omega (arith, plan.root))
all_numbers (n ∷ ns) [] plan = absurd plan.rise
all_numbers (n ∷ ns) (start ∷ starts) plan =
    ap (λ ms. n ∷ ms) (joined_from start starts (n ∷ ns) plan.rise ∙ ap (λ k. drop k (n ∷ ns)) plan.first)

-- there are as many groups as starts before the end
pub length-cut_at : (starts numbers : List ℕ) → length (cut_at starts numbers) ≡ length starts - 1
length-cut_at [] numbers = refl
length-cut_at (start ∷ []) numbers = refl
length-cut_at (start ∷ next ∷ starts) numbers =
    omega (arith, length-cut_at (next ∷ starts) numbers)

-- the group at a place, between its start and the next one
pub record IsGroup (starts numbers : List ℕ) (k from to : ℕ) : Type 0 where
  pub rise : from ≤ to
  pub within : to ≤ length numbers
  pub group : take (to - from) (drop from numbers) ≡ slice_index_or (cut_at starts numbers) k []

group_from : (starts numbers : List ℕ) (k from to : ℕ) → AreStartsUpTo starts (length numbers) → suc k < length starts
    → from ≡ get_or starts k from → to ≡ get_or starts (suc k) to → IsGroup starts numbers k from to
group_from [] numbers k from to rise there a b = absurd (omega (arith, there))
group_from (start ∷ []) numbers k from to rise there a b = absurd (omega (arith, there))
group_from (start ∷ next ∷ starts) numbers zero from to rise there a b =
    let most = first_at_most next starts (length numbers) rise.1 in
    record {
      rise = rw (a, b) rise.0;
      within = rw b most;
      group = ap (λ (n : ℕ). take (n - from) (drop from numbers)) b ∙ ap (λ (n : ℕ). take (next - n) (drop n numbers)) a;
    }
group_from (start ∷ next ∷ starts) numbers (suc k) from to rise there a b =
    let g = group_from (next ∷ starts) numbers k from to rise.1 (omega (arith, there)) a b in
    record { rise = g.rise; within = g.within; group = g.group }

-- the group of a number from 1
pub group_at : (starts numbers : List ℕ) (k from to : ℕ) → AreStartsUpTo starts (length numbers) → 1 ≤ k
    → k < length starts
    → from ≡ get_or starts (k - 1) from → to ≡ get_or starts k to → IsGroup starts numbers (k - 1) from to
group_at starts numbers k from to rise one there a b =
    let next : k ≡ suc (k - 1) = omega (arith, one) in
    group_from starts numbers (k - 1) from to rise (omega (arith, one, there)) a (b ∙ ap (λ (n : ℕ). get_or starts n to) next)

-- ---- a group more
pub starts_grow : (starts : List ℕ) (size more : ℕ) → AreStartsUpTo starts size
    → AreStartsUpTo (starts ++ (size + more) ∷ []) (size + more)
starts_grow [] size more rise = absurd rise
starts_grow (start ∷ []) size more rise = (omega (arith, rise), refl)
starts_grow (start ∷ next ∷ starts) size more rise = (rise.0, starts_grow (next ∷ starts) size more rise.1)

pub cut_grows : (starts numbers row : List ℕ) → AreStartsUpTo starts (length numbers)
    → cut_at (starts ++ (length numbers + length row) ∷ []) (numbers ++ row) ≡ cut_at starts numbers ++ row ∷ []
cut_grows [] numbers row rise = absurd rise
cut_grows (start ∷ []) numbers row rise =
    let size : length numbers + length row - start ≡ length row = omega (arith, rise) in
    let behind : drop start (numbers ++ row) ≡ row = ap (λ n. drop n (numbers ++ row)) rise ∙ drop-append_seam numbers row in
    ap (λ (ns : List ℕ). ns ∷ []) (ap (λ n. take n (drop start (numbers ++ row))) size ∙ ap (take (length row)) behind ∙ take-length row)
cut_grows (start ∷ next ∷ starts) numbers row rise =
    let most = first_at_most next starts (length numbers) rise.1 in
    let front : take (next - start) (drop start (numbers ++ row)) ≡ take (next - start) (drop start numbers) =
    ap (take (next - start)) (drop-append-le start numbers row (omega (arith, rise.0, most)))
    ∙ take-append-le (next - start) (drop start numbers) row (omega (arith, length-drop start numbers, rise.0, most)) in
    ap (λ (ns : List ℕ). ns ∷ cut_at ((next ∷ starts) ++ (length numbers + length row) ∷ []) (numbers ++ row)) front
    ∙ ap (λ (nss : List (List ℕ)). take (next - start) (drop start numbers) ∷ nss) (cut_grows (next ∷ starts) numbers row rise.1)

-- what stands there when a group is put behind the others
pub record HasOneGroupMore (numbers starts row now ends : List ℕ) : Type 0 where
  pub plan : IsPlanOf now ends
  pub root : get_or now 0 0 ≡ get_or numbers 0 0
  pub groups : cut_at ends now ≡ cut_at starts numbers ++ row ∷ []

first_stays : (xs ys : List ℕ) → 1 ≤ length xs → get_or (xs ++ ys) 0 0 ≡ get_or xs 0 0
first_stays [] ys some = absurd (omega (arith, some))
first_stays (x ∷ xs) ys some = refl

some_start : (starts : List ℕ) (size : ℕ) → AreStartsUpTo starts size → 1 ≤ length starts
some_start [] size rise = absurd rise
some_start (start ∷ starts) size rise = omega arith

-- a row behind a plan's numbers, and its end behind the starts, make a plan of the same root with one group more
pub plan_grows : (numbers starts row now ends : List ℕ) → IsPlanOf numbers starts → now ≡ numbers ++ row
    → ends ≡ starts ++ length now ∷ []
    → HasOneGroupMore numbers starts row now ends
plan_grows numbers starts row now ends plan grown started =
    let size : length now ≡ length numbers + length row = ap length grown ∙ length-append numbers row in
    let same : ends ≡ starts ++ (length numbers + length row) ∷ [] = started ∙ ap (λ (n : ℕ). starts ++ n ∷ []) size in
    record {
      plan = record {
        first = rw same (first_stays starts ((length numbers + length row) ∷ []) (some_start starts (length numbers) plan.rise) ∙ plan.first);
        rise = rw (same, size) (starts_grow starts (length numbers) (length row) plan.rise);
        root = omega (arith, size, plan.root);
      };
      root = ap (λ (ns : List ℕ). get_or ns 0 0) grown ∙ first_stays numbers row plan.root;
      groups = rw (same, grown) (cut_grows starts numbers row plan.rise);
    }
