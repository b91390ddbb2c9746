-- Texts one after another, by their bytes and the places where they end.
use Rattle.std.specs.Prelude.{◌≡◌, ℕ, ◌-◌, ◌≤◌, List, [], ◌∷◌, take, drop}

-- each text begins where the one before it ends
abbrev pub cut_from : ℕ → List ℕ → List ℕ → List (List ℕ)
cut_from start [] bytes = []
cut_from start (stop ∷ stops) bytes = take (stop - start) (drop start bytes) ∷ cut_from stop stops bytes

-- the places rise, and the last one is where the bytes end
abbrev pub AreEnds : ℕ → List ℕ → ℕ → Type 0
AreEnds start [] size = start ≡ size
AreEnds start (stop ∷ stops) size = (start ≤ stop) × AreEnds stop stops size
