-- The sizes of sets that a `Builder` keeps: for each kind, how many children the nodes of its first set have, then
-- those of its second, and so on.
use Rattle.std.specs.Prelude.{◌≡◌, ℕ, ◌+◌, ◌-◌, ◌<◌, ◌≤◌, if◌then◌else◌, nat_lt, List, [], ◌∷◌, ◌++◌, length}
use Rattle.std.specs.Prelude.{slice_index, All, Contains}
use Rattle.def_tree.specs.declared.Kind.{Kind}
use Rattle.def_tree.specs.declared.Kind.TheVariants.{Chance, One, Two, Leaf}
use Rattle.def_tree.specs.declared.Node.{Node}
use Rattle.def_tree.specs.Rules.{IsBareLeaf, most_actions, set_count}

pub record SizeLists : Type 0 where
  pub chance : List ℕ
  pub one : List ℕ
  pub two : List ℕ

-- a set with this number and size is the next one, or it has the size of the set of that number
pub record JoinsSizes (sizes : List ℕ) (set children : ℕ) : Type 0 where
  pub counts : 1 ≤ set
  pub next : set ≤ length sizes + 1
  pub some : 1 ≤ children
  pub limit : children ≤ most_actions
  pub agrees : set ≤ length sizes → slice_index sizes (set - 1) ≡ children

abbrev pub FitsSizesAs : Kind → SizeLists → Node → Type 0
FitsSizesAs Chance sizes node = JoinsSizes sizes.chance node.set node.children
FitsSizesAs One sizes node = JoinsSizes sizes.one node.set node.children
FitsSizesAs Two sizes node = JoinsSizes sizes.two node.set node.children
FitsSizesAs Leaf sizes node = IsBareLeaf node

abbrev pub FitsSizes : SizeLists → Node → Type 0
FitsSizes sizes node = FitsSizesAs node.kind sizes node

-- a new set's size is put last
abbrev pub noted : List ℕ → ℕ → ℕ → List ℕ
noted sizes set children = if nat_lt (length sizes) set then sizes ++ children ∷ [] else sizes

abbrev pub noted_as : Kind → SizeLists → Node → SizeLists
noted_as Chance sizes node = record sizes { chance = noted sizes.chance node.set node.children }
noted_as One sizes node = record sizes { one = noted sizes.one node.set node.children }
noted_as Two sizes node = record sizes { two = noted sizes.two node.set node.children }
noted_as Leaf sizes node = sizes

abbrev pub with_size : SizeLists → Node → SizeLists
with_size sizes node = noted_as node.kind sizes node

-- the set of this number is among the sizes, with this size
pub record HasSize (sizes : List ℕ) (set children : ℕ) : Type 0 where
  pub counts : 1 ≤ set
  pub known : set ≤ length sizes
  pub size : slice_index sizes (set - 1) ≡ children

-- these are the sizes of the sets of a kind that the nodes are in
pub record AreSizes (kind : Kind) (nodes : List Node) (sizes : List ℕ) : Type 0 where
  pub count : length sizes ≡ set_count kind nodes
  pub each : All (λ node. node.kind ≡ kind → HasSize sizes node.set node.children) nodes
  pub met : (i : ℕ) → i < length sizes
      → (node : Node)
      × (Contains nodes node × ((node.kind ≡ kind) × ((node.set ≡ i + 1) × (node.children ≡ slice_index sizes i))))

pub record HoldSizes (nodes : List Node) (sizes : SizeLists) : Type 0 where
  pub chance : AreSizes Chance nodes sizes.chance
  pub one : AreSizes One nodes sizes.one
  pub two : AreSizes Two nodes sizes.two
