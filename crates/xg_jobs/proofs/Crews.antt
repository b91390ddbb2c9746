-- Workers that are let loose one by one.
use Rattle.std.proofs.Common.{◌≡◌, ℕ, ◌<◌, List, length, get_or, All, sym, subst}

-- what is true of each element is true of the one that is read
pub read_at : {X : Type 0} (P : X → Type 0) (xs ys : List X) (i : ℕ) (x : X) → xs ≡ ys → All P ys → i < length xs
    → x ≡ get_or xs i x → P x
read_at P xs ys i x same all below is = subst P (sym is) (subst (All P) (sym same) all i x below)
