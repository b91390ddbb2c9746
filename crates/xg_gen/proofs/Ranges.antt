-- Cards, one after another.
use Rattle.std.proofs.Common.{◌≡◌, ℕ, suc, ◌+◌, ◌-◌, ◌<◌, ◌≤◌, List, [], ◌∷◌, ◌++◌, map, refl, sym, ap, ◌∙◌, append_assoc, arith, eq-eqb}
use Rattle.std.specs.List.{range_with_len}
use Rattle.std.proofs.lemmas.List.Elements.{filter-append}
use Rattle.std.proofs.lemmas.List.{append-nil}
use Rattle.std.proofs.lemmas.Bool.{ne_eqb}
use Rattle.std.specs.Prelude.{false, nat_eq, not, true}
use Rattle.def_file.specs.Content.{Action, chance_record}
use Rattle.def_canon.specs.Poker.{cards, deal_two, hand, hands, others, rounds_with_cards, cards_without}

range_from : (a k m : ℕ) → k ≡ suc m → range_with_len a k ≡ a ∷ range_with_len (a + 1) m
range_from a k m e = ap (range_with_len a) e

-- from a card on
pub range_next : (n a : ℕ) → a < n + 1 → range_with_len a (n + 1 - a) ≡ a ∷ range_with_len (a + 1) (n + 1 - (a + 1))
range_next n a low = range_from a (n + 1 - a) (n + 1 - (a + 1)) (omega arith)

pub range_none : (n a : ℕ) → n + 1 ≤ a → range_with_len a (n + 1 - a) ≡ []
range_none n a high = let none : n + 1 - a ≡ 0 = omega arith in ap (range_with_len a) none

pub others_next : (n i a : ℕ) → a < n + 1
    → cards_without i (range_with_len a (n + 1 - a))
    ≡ cards_without i (a ∷ []) ++ cards_without i (range_with_len (a + 1) (n + 1 - (a + 1)))
others_next n i a low =
    ap (cards_without i) (range_next n a low) ∙ filter-append (λ j. not (nat_eq i j)) (a ∷ []) (range_with_len (a + 1) (n + 1 - (a + 1)))

map_append : (f : ℕ → Action) (xs ys : List ℕ) → map f (xs ++ ys) ≡ map f xs ++ map f ys
map_append f [] ys = refl
map_append f (x ∷ xs) ys = ap (λ l. f x ∷ l) (map_append f xs ys)

-- the actions so far and those of the cards from a on, all but card i, still make all when that of card a moves over
pub other_pushed : (f : ℕ → Action) (n i a : ℕ) (actions new all : List Action) → a < n + 1
    → actions ++ map f (cards_without i (range_with_len a (n + 1 - a))) ≡ all
    → new ≡ actions ++ map f (cards_without i (a ∷ []))
    → new ++ map f (cards_without i (range_with_len (a + 1) (n + 1 - (a + 1)))) ≡ all
other_pushed f n i a actions new all low so_far push =
    ap (λ (l : List Action). l ++ map f (cards_without i (range_with_len (a + 1) (n + 1 - (a + 1))))) push
    ∙ append_assoc actions (map f (cards_without i (a ∷ []))) (map f (cards_without i (range_with_len (a + 1) (n + 1 - (a + 1)))))
    ∙ ap (λ l. actions ++ l) (sym (map_append f (cards_without i (a ∷ [])) (cards_without i (range_with_len (a + 1) (n + 1 - (a + 1))))))
    ∙ ap (λ l. actions ++ map f l) (sym (others_next n i a low)) ∙ so_far

hands_append : (n i : ℕ) (js ks : List ℕ) → hands n i (js ++ ks) ≡ hands n i js ++ hands n i ks
unfolding hands
hands_append n i [] ks = refl
hands_append n i (j ∷ js) ks =
    ap (λ l. hand n i j ++ l) (hands_append n i js ks) ∙ sym (append_assoc (hand n i j) (hands n i js) (hands n i ks))

-- the play of a card, and of those behind it
pub hands_next : (n i a : ℕ) → a < n + 1
    → hands n i (cards_without i (range_with_len a (n + 1 - a)))
    ≡ hands n i (cards_without i (a ∷ [])) ++ hands n i (cards_without i (range_with_len (a + 1) (n + 1 - (a + 1))))
hands_next n i a low =
    ap (hands n i) (others_next n i a low) ∙ hands_append n i (cards_without i (a ∷ [])) (cards_without i (range_with_len (a + 1) (n + 1 - (a + 1))))

-- where a is above the last card, there is no play against the cards from a on
pub hands_none : (n i a : ℕ) → n + 1 ≤ a → hands n i (cards_without i (range_with_len a (n + 1 - a))) ≡ []
unfolding hands
hands_none n i a high = ap (λ l. hands n i (cards_without i l)) (range_none n a high)

-- a card's own hand, and none of a card that is dealt already
pub one_hand : (n i j : ℕ) → (i ≡ j → ⊥) → hands n i (cards_without i (j ∷ [])) ≡ hand n i j
unfolding hands
one_hand n i j other = let no : nat_eq i j ≡ false = ne_eqb i j other in rw no (append-nil (hand n i j))

-- there is no play against the card that is dealt already
pub no_hand : (n i j : ℕ) → i ≡ j → hands n i (cards_without i (j ∷ [])) ≡ []
unfolding hands
no_hand n i j own = let yes : nat_eq i j ≡ true = eq-eqb i j own in rw yes refl

-- the cards are those from card 1 on
pub all_cards : (n : ℕ) → cards n ≡ range_with_len 1 (n + 1 - 1)
all_cards n = let same : n ≡ n + 1 - 1 = omega arith in ap (range_with_len 1) same

-- from card a on, player one's cards give player two's deal and the play with card a, then what those behind it give
pub rounds_next : (n a : ℕ) → a < n + 1
    → rounds_with_cards n (range_with_len a (n + 1 - a))
    ≡ (chance_record (deal_two n a) ∷ hands n a (others n a)) ++ rounds_with_cards n (range_with_len (a + 1) (n + 1 - (a + 1)))
unfolding rounds_with_cards
rounds_next n a low = ap (rounds_with_cards n) (range_next n a low)

-- where a is above the last card, the cards from a on give no round
pub rounds_none : (n a : ℕ) → n + 1 ≤ a → rounds_with_cards n (range_with_len a (n + 1 - a)) ≡ []
unfolding rounds_with_cards
rounds_none n a high = ap (rounds_with_cards n) (range_none n a high)
