-- A forest as a stored value, from which it can be had again.
use Rattle.std.specs.Prelude.{◌≡◌, ℕ, zero, suc, refl}
use Rattle.std.proofs.Common.{sym, ap, ◌∙◌}
use Rattle.std.specs.Coded.{Coded}
use base.Stored.{Gv, gnil, gnum, gcons}
use Rattle.def_tree.specs.declared.Kind.{Kind}
use Rattle.def_tree.specs.declared.Kind.TheVariants.{Chance, One, Two, Leaf}
use Rattle.def_tree.specs.Tree.{Forest, bare, grown}

abbrev kind_number : Kind → ℕ
kind_number Chance = 0
kind_number One = 1
kind_number Two = 2
kind_number Leaf = 3

abbrev numbered_kind : ℕ → Kind
numbered_kind zero = Chance
numbered_kind (suc zero) = One
numbered_kind (suc (suc zero)) = Two
numbered_kind (suc (suc (suc _))) = Leaf

numbered_kind-kind_number : (kind : Kind) → numbered_kind (kind_number kind) ≡ kind
numbered_kind-kind_number Chance = refl
numbered_kind-kind_number One = refl
numbered_kind-kind_number Two = refl
numbered_kind-kind_number Leaf = refl

kind_number-injective : (x y : Kind) → kind_number x ≡ kind_number y → x ≡ y
kind_number-injective x y e = sym (numbered_kind-kind_number x) ∙ ap numbered_kind e ∙ numbered_kind-kind_number y

abbrev stored : Forest → Gv
stored bare = gnil
stored (grown node below beside) =
    gcons (gcons (gcons (gnum (kind_number node.kind)) (gnum node.set))
    (gcons (gnum node.outcome) (gnum node.children))) (gcons (stored below) (stored beside))

pub stored-injective : (x y : Forest) → stored x ≡ stored y → x ≡ y
stored-injective bare bare e = refl
stored-injective (grown n b s) (grown n' b' s') e =
    let kind : n.kind ≡ n'.kind = kind_number-injective n.kind n'.kind (cc) in
    let set : n.set ≡ n'.set = cc in
    let outcome : n.outcome ≡ n'.outcome = cc in
    let children : n.children ≡ n'.children = cc in
    let below : b ≡ b' = stored-injective b b' (cc) in
    let beside : s ≡ s' = stored-injective s s' (cc) in
    λ i. grown (record { kind = kind i; set = set i; outcome = outcome i; children = children i }) (below i) (beside i)
stored-injective bare (grown n b s) e = cc
stored-injective (grown n b s) bare e = cc

abbrev pub forest_code : Coded Forest
forest_code = record { code = stored; inj = stored-injective }
