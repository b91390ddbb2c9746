-- The sets of chance, by how they are described.
use Rattle.std.proofs.Common.{◌≡◌, ℕ, zero, suc, ◌+◌, ◌-◌, ◌≤◌, List, [], ◌∷◌, ◌++◌, map, refl, ap, ◌∙◌, arith}
use Rattle.std.specs.Prelude.{codes, false, nat_eq}
use Rattle.std.specs.Fmt.{decimal}
use Rattle.std.specs.List.{range_with_len}
use Rattle.std.proofs.lemmas.Bool.{ne_eqb}
use Rattle.std.proofs.lemmas.List.{append-nil}
use Rattle.def_canon.specs.Poker.{cards, cards_without, deal_one, deal_two, dealt_card, described_set, others}

-- nothing stands behind the number
pub ends_there : (before digits name : List ℕ) → name ≡ before ++ (digits ++ []) → name ≡ before ++ digits
ends_there before digits name e = e ∙ ap (λ (t : List ℕ). before ++ t) (append-nil digits)

-- no card has the number 0
from_one_on : (a k : ℕ) → 1 ≤ a → cards_without 0 (range_with_len a k) ≡ range_with_len a k
from_one_on a zero low = refl
from_one_on a (suc k) low =
    let other : nat_eq 0 a ≡ false = ne_eqb 0 a (omega arith) in
    rw other (ap (λ (l : List ℕ). a ∷ l) (from_one_on (a + 1) k (omega arith)))

pub deal_one_is : (n : ℕ) (name : List ℕ) → name ≡ codes "deal one"
    → described_set 1 name (map (dealt_card n) (others n 0)) ≡ deal_one n
unfolding deal_one
deal_one_is n name e =
    let all : others n 0 ≡ cards n = from_one_on 1 n (omega arith) in
    (λ k. described_set 1 (e k) (map (dealt_card n) (all k)))

pub deal_two_is : (n i : ℕ) (name : List ℕ) → name ≡ codes "deal two " ++ (decimal i ++ [])
    → described_set (1 + i) name (map (dealt_card (n - 1)) (others n i)) ≡ deal_two n i
unfolding deal_two
deal_two_is n i name e =
    ap (λ (t : List ℕ). described_set (1 + i) t (map (dealt_card (n - 1)) (others n i))) (ends_there (codes "deal two ") (decimal i) name e)
