-- An action of a set, by what is given of it.
use Rattle.std.proofs.Common.{◌≡◌, ℕ, zero, suc, List, [], ◌∷◌, get_or, Some}
use Rattle.std.specs.Prelude.{option_map, slice_get}
use Rattle.def_fraction.specs.Fraction.{Fraction}
use Rattle.def_file.specs.Content.{Action}

pub named_at : (xs : List Action) (i : ℕ) (d : Action) (name : List ℕ)
    → option_map (λ a. a.name) (slice_get xs i) ≡ Some name → (get_or xs i d).name ≡ name
named_at [] i d name e = absurd cc
named_at (x ∷ xs) zero d name e = cc
named_at (x ∷ xs) (suc i) d name e = named_at xs i d name e

pub chance_at : (xs : List Action) (i : ℕ) (d : Action) (f : Fraction)
    → option_map (λ a. a.chance) (slice_get xs i) ≡ Some f → (get_or xs i d).chance ≡ f
chance_at [] i d f e = absurd cc
chance_at (x ∷ xs) zero d f e = cc
chance_at (x ∷ xs) (suc i) d f e = chance_at xs i d f e
