-- Amounts in one of two widths.
use Rattle.std.specs.Prelude.{ℕ, ℤ, List, Bool, if◌then◌else◌}

-- the amounts, in their order, and how many there is room for
pub record AmountList : Type 0 where
  pub list : List ℤ
  pub room : ℕ

-- the wide ones, or the small ones
abbrev pub in_width : Bool → List ℤ → List ℤ → List ℤ
in_width is_wide small wide = if is_wide then wide else small
