-- What the definitions of one-card poker say of cards.
use Rattle.std.specs.Prelude.{◌≡◌, ◌≢◌, ℕ, ◌^◌, ◌<◌, ◌≤◌, All, Contains, codes}
use Rattle.std.specs.List.Sorted.{IsStrictlyIncreasing}
use Rattle.def_tree.specs.declared.Player.TheVariants.{One, Two}
use Rattle.def_canon.specs.Poker.{higher, others, poker}

-- the others of n cards beside card i rise; each of them is one of the cards, and not card i; and none is left out
pub record AreOthers (n i : ℕ) : Type 0 where
  pub rise : IsStrictlyIncreasing (others n i)
  pub are_cards : All (λ j. (1 ≤ j) × (j ≤ n)) (others n i)
  pub are_others : All (λ j. i ≢ j) (others n i)
  pub all_there : (j : ℕ) → 1 ≤ j → j ≤ n → i ≢ j → Contains (others n i) j

abbrev pub OthersRise : Type 0
OthersRise = (n i : ℕ) → AreOthers n i

-- of two cards the higher one wins: player one's, where it is greater, and else player two's
pub record HigherCardWins : Type 0 where
  pub one : (i j : ℕ) → j < i → higher i j ≡ One
  pub two : (i j : ℕ) → i ≤ j → higher i j ≡ Two

-- no two games have one title; rows: three cards, and the most
pub record TitlesNameCards : Type 0 where
  pub apart : (m n : ℕ) → m < 2 ^ 64 → n < 2 ^ 64 → (poker m).prologue.title ≡ (poker n).prologue.title → m ≡ n
  pub three : (poker 3).prologue.title ≡ codes "One-card poker 3"
  pub most : (poker 64).prologue.title ≡ codes "One-card poker 64"
