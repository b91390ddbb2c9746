-- An amount at a row of either player.
use Rattle.std.proofs.Common.{◌≡◌, ℕ, ◌<◌, ◌≤◌, ◌-◌, List, ◌++◌, length, set, ℤ, refl, sym, ap, ◌∙◌}
use Rattle.std.proofs.lemmas.List.{set-append_left, set-append_right}

-- an amount that is put at a sequence of player one is put at the same row of all rows
pub put_one : (one two : List ℤ) (row : ℕ) (x y : ℤ) → x ≡ y → row < length one
    → set one row x ++ two ≡ set (one ++ two) row y
put_one one two row x y same low = ap (λ t. set one row t ++ two) same ∙ sym (set-append_left one two row y low)

-- an amount that is put at a sequence of player two is put at the row so far behind those of player one
pub put_two : (one two : List ℤ) (row : ℕ) (x y : ℤ) → x ≡ y → length one ≤ row
    → one ++ set two (row - length one) x ≡ set (one ++ two) row y
put_two one two row x y same high = ap (λ t. one ++ set two (row - length one) t) same ∙ sym (set-append_right one two (length one) row y refl high)
