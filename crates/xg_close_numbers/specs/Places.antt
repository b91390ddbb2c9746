-- A long division, place by place.
use Rattle.std.specs.Prelude.{◌≡◌, ℕ, ◌+◌, ◌*◌, ◌^◌, ◌≤◌, ◌<◌}
use Rattle.def_progress.specs.Decimals.{Suffice}

-- so many units of the last place go into num / den, and this rest is left
pub record IsAtPlace (num den number rest places : ℕ) : Type 0 where
  pub value : num * 10 ^ places ≡ number * den + rest
  pub rest_left : rest < den
  pub few : places ≤ 18
  pub first : places ≡ 0 → number < 2 ^ 120
  pub small : number < 2 ^ 125

-- the same, where something was left at each place before
pub record IsFirstPlace (num den number rest places : ℕ) : Type 0 where
  pub value : num * 10 ^ places ≡ number * den + rest
  pub rest_left : rest < den
  pub few : places ≤ 18
  pub fewer : (fewer : ℕ) → fewer < places → Suffice num den fewer → ⊥
  pub size : number < 2 ^ 64 * 10 ^ places
  pub small : number < 2 ^ 124
