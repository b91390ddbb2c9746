-- The canonical form of one-card poker isn't too long to be read: at most 64 deals of player two's card, each with at
-- most 63 hands of nine entries, and no entry that writes more than 1,400 bytes.
use Rattle.std.proofs.Common.{◌≡◌, ℕ, ◌+◌, ◌-◌, ◌*◌, ◌≤◌, Bool, true, false, cond, List, [], ◌∷◌, ◌++◌, length, map, refl, ap, arith}
use Rattle.std.specs.Prelude.{codes, nat_eq}
use Rattle.std.proofs.lemmas.Bool.{leb-true}
use Rattle.std.specs.Fmt.{decimal, digits}
use Rattle.std.proofs.lemmas.Fmt.{length-decimal-le}
use Rattle.std.proofs.lemmas.List.{length-append}
use Rattle.std.proofs.lemmas.List.FromFn.{length-range_with_len}
use Rattle.def_fraction.specs.Text.{fraction_text}
use Rattle.def_file_tokens.specs.Spelling.{Piece, bytes_of}
use Rattle.def_file_tokens.specs.Texts.{escaped}
use Rattle.def_tree.specs.declared.Kind.{Kind}
use Rattle.def_tree.specs.declared.Kind.TheVariants as movers
use Rattle.def_tree.specs.declared.Player.{Player}
use Rattle.def_tree.specs.declared.Player.TheVariants.{One, Two}
use Rattle.def_file.specs.Adding.{new_set}
use Rattle.def_file.specs.Content.{Action, Record, chance_record, player_record, leaf_record}
use Rattle.def_file.specs.Faults.{mover}
use Rattle.def_canon.specs.Canon.{action_pieces, chance_pieces, described_outcome, each, list_pieces, marker_pieces, name_pieces, payoffs_pieces, player_pieces}
use Rattle.def_canon.specs.Canon.{prologue_pieces, quoted, set_pieces, canon}
use Rattle.def_canon.specs.Canon as canonical
use Rattle.def_canon.specs.Described.{Each}
use Rattle.def_canon.proofs.NoFault.{each_append}
use Rattle.def_canon.proofs.OwnLines.{own_lines, own_pieces}
use Rattle.def_canon.specs.PokerLaws.{PokerIsShort}
use Rattle.def_canon.specs.Poker.{after_bet, after_check, answer, cards, deal_one, deal_two, dealt_card, described_set, entries, facing_bet, hand, hands}
use Rattle.def_canon.specs.Poker.{higher, opening_set, others, poker, prologue, rounds_with_cards, wins_one, wins_two}
use Rattle.def_canon.proofs.Cards.{AreCards, cards_are, others_are, others_count}
use Rattle.def_canon.proofs.PokerSizes.{entries_count}
use Rattle.def_canon.proofs.Written.{lines_are}
use Rattle.def_fraction.specs.Fraction.{one_over}

-- ---- pieces

-- how many bytes they have
abbrev size : List Piece → ℕ
size [] = 0
size (p ∷ ps) = length p.space + length p.bytes + size ps

length_bytes : (ps : List Piece) (rest : List ℕ) → length (bytes_of ps rest) ≡ size ps + length rest
length_bytes [] rest = omega arith
length_bytes (p ∷ ps) rest =
    let later = length_bytes ps rest in
    let first = length-append p.space (p.bytes ++ bytes_of ps rest) in
    let second = length-append p.bytes (bytes_of ps rest) in
    omega (arith, first, second, later)

size_append : (ps qs : List Piece) → size (ps ++ qs) ≡ size ps + size qs
size_append [] qs = omega arith
size_append (p ∷ ps) qs = let later = size_append ps qs in omega (arith, later)

-- ---- texts and numbers

escaped_short : (bs : List ℕ) → length (escaped bs) ≤ 2 * length bs
unfolding escaped
escaped_short [] = omega arith
escaped_short (b ∷ bs) = chosen (nat_eq b 34) (escaped_short bs)
  where
    chosen : (c : Bool) → length (escaped bs) ≤ 2 * length bs
        → length (cond c (92 ∷ b ∷ escaped bs) (b ∷ escaped bs)) ≤ 2 * length (b ∷ bs)
    chosen true later = omega (arith, later)
    chosen false later = omega (arith, later)

quoted_short : (bs : List ℕ) → length (quoted bs) ≤ 2 * length bs + 2
unfolding quoted
quoted_short bs = omega (arith, escaped_short bs, length-append (escaped bs) (34 ∷ []))

decimal_short : (n : ℕ) → n ≤ 200 → length (decimal n) ≤ 3
decimal_short n few = length-decimal-le 3 n (omega arith) (omega arith) (omega arith)

-- one of some cards
part_short : (n : ℕ) → n ≤ 64 → length (fraction_text (one_over n)) ≤ 5
unfolding digits
part_short n few = chosen (nat_eq n 1)
  where
    chosen : (c : Bool) → length (cond c (codes "1") (codes "1" ++ 47 ∷ decimal n)) ≤ 5
    chosen true = omega arith
    chosen false = omega (arith, decimal_short n (omega arith))

-- ---- sets

set_short : (who : Kind) (number : ℕ) (name : List ℕ) (actions : List Action) (letters room : ℕ) → number ≤ 200
    → length name ≤ letters → size (each (action_pieces who) actions) ≤ room
    → size (set_pieces who (new_set (described_set number name actions))) ≤ 2 * letters + room + 12
unfolding set_pieces name_pieces list_pieces
set_short who number name actions letters room few short fits =
    let both = size_append (each (action_pieces who) actions) (canonical.close_piece ∷ []) in
    omega (arith, decimal_short number few, quoted_short name, both)

deals_short : (n : ℕ) → n ≤ 64 → (m : ℕ) → m ≤ 64 → (js : List ℕ) → AreCards m js
    → size (each (action_pieces movers.Chance) (map (dealt_card n) js)) ≤ 16 * length js
unfolding each action_pieces chance_pieces
deals_short n few m most_cards [] are = omega arith
deals_short n few m most_cards (j ∷ js) are =
    let later = deals_short n few m most_cards js are.1 in
    omega (arith, later, quoted_short (decimal j), decimal_short j (omega arith), part_short n few)

-- ---- entries

-- the bytes of its line
abbrev IsShort : Record → Type 0
IsShort r = size (own_pieces (mover r) r) ≤ 1400

deal_is_short : (number : ℕ) (name : List ℕ) (actions : List Action) → number ≤ 200 → length name ≤ 20
    → size (each (action_pieces movers.Chance) actions) ≤ 1024
    → IsShort (chance_record (described_set number name actions))
unfolding player_pieces quoted escaped
deal_is_short number name actions few short fits =
    let set = set_pieces movers.Chance (new_set (described_set number name actions)) in
    let own = set_short movers.Chance number name actions 20 1024 few short fits in
    omega (arith, own, size_append set (canonical.whole_piece 0 ∷ []), decimal_short 0 (omega arith))

-- a player's move, by what it says of its set
move_one_short : (number : ℕ) (name : List ℕ) (actions : List Action) → number ≤ 200 → length name ≤ 20
    → size (each (action_pieces movers.One) actions) ≤ 100
    → IsShort (player_record 1 (described_set number name actions))
unfolding player_pieces quoted escaped
move_one_short number name actions few short fits =
    let set = set_pieces movers.One (new_set (described_set number name actions)) in
    let own = set_short movers.One number name actions 20 100 few short fits in
    omega (arith, own, size_append set (canonical.whole_piece 0 ∷ []), decimal_short 0 (omega arith), decimal_short 1 (omega arith))

move_two_short : (number : ℕ) (name : List ℕ) (actions : List Action) → number ≤ 200 → length name ≤ 20
    → size (each (action_pieces movers.Two) actions) ≤ 100
    → IsShort (player_record 2 (described_set number name actions))
unfolding player_pieces quoted escaped
move_two_short number name actions few short fits =
    let set = set_pieces movers.Two (new_set (described_set number name actions)) in
    let own = set_short movers.Two number name actions 20 100 few short fits in
    omega (arith, own, size_append set (canonical.whole_piece 0 ∷ []), decimal_short 0 (omega arith), decimal_short 2 (omega arith))

win_one : (p : Player) → IsShort (leaf_record (wins_one p))
unfolding player_pieces quoted escaped described_outcome name_pieces payoffs_pieces wins_one digits
win_one One = leb-true _ 1400 refl
win_one Two = leb-true _ 1400 refl

win_two : (p : Player) → IsShort (leaf_record (wins_two p))
unfolding player_pieces quoted escaped described_outcome name_pieces payoffs_pieces wins_two digits
win_two One = leb-true _ 1400 refl
win_two Two = leb-true _ 1400 refl

name_short : (n : ℕ) (more : List ℕ) → n ≤ 64 → length more ≤ 3 → length (decimal n ++ more) ≤ 20
name_short n more few short = omega (arith, length-append (decimal n) more, decimal_short n (omega arith))

module _ (n : ℕ) (two : 2 ≤ n) (limit : n ≤ 64) where
  hand_short : (i j : ℕ) → i ≤ n → j ≤ n → Each IsShort (hand n i j)
  unfolding hand facing_bet opening_set after_check answer after_bet each action_pieces chance_pieces quoted escaped
  hand_short i j i_high j_high = (
    move_one_short i (decimal i) _ (omega arith) (omega (arith, decimal_short i (omega arith))) (omega arith),
    (
      move_two_short j (decimal j ++ codes " c") _ (omega arith) (name_short j (codes " c") (omega arith) (omega arith))
          (omega arith),
      (
        win_one (higher i j),
        (
          move_one_short (n + i) (decimal i ++ codes " cb") _ (omega arith)
              (name_short i (codes " cb") (omega arith) (omega arith)) (omega arith),
          (
            win_one Two,
            (
              win_two (higher i j),
              (
                move_two_short (n + j) (decimal j ++ codes " b") _ (omega arith)
                    (name_short j (codes " b") (omega arith) (omega arith)) (omega arith),
                (win_one One, (win_two (higher i j), tt)),
              ),
            ),
          ),
        ),
      ),
    ),
  )

  hands_short : (i : ℕ) → i ≤ n → (js : List ℕ) → AreCards n js → Each IsShort (hands n i js)
  unfolding hands
  hands_short i high [] are = tt
  hands_short i high (j ∷ js) are =
      each_append IsShort (hand n i j) (hands n i js) (hand_short i j high are.0.1) (hands_short i high js are.1)

  deal_two_short : (i : ℕ) → 1 ≤ i → i ≤ n → IsShort (chance_record (deal_two n i))
  unfolding deal_two
  deal_two_short i low high =
      let count = others_count n i low high in
      deal_is_short (1 + i) (codes "deal two " ++ decimal i) (map (dealt_card (n - 1)) (others n i)) (omega arith)
      (omega (arith, length-append (codes "deal two ") (decimal i), decimal_short i (omega arith)))
      (omega (arith, deals_short (n - 1) (omega arith) n limit (others n i) (others_are n i), count))

  deal_one_short : IsShort (chance_record (deal_one n))
  unfolding deal_one
  deal_one_short =
      let count : length (cards n) ≡ n = length-range_with_len 1 n in
      deal_is_short 1 (codes "deal one") (map (dealt_card n) (cards n)) (omega arith) (omega arith)
      (omega (arith, deals_short n limit n limit (cards n) (cards_are n), count))

  rounds_short : (is : List ℕ) → AreCards n is → Each IsShort (rounds_with_cards n is)
  unfolding rounds_with_cards
  rounds_short [] are = tt
  rounds_short (i ∷ is) are = (
    deal_two_short i are.0.0 are.0.1,
    each_append IsShort (hands n i (others n i)) (rounds_with_cards n is)
        (hands_short i are.0.1 (others n i) (others_are n i)) (rounds_short is are.1),
  )

  entries_short : Each IsShort (entries n)
  unfolding entries
  entries_short = (deal_one_short, rounds_short (cards n) (cards_are n))

  prologue_short : size (prologue_pieces (prologue n)) ≤ 1000
  unfolding prologue prologue_pieces marker_pieces quoted escaped
  prologue_short =
      let title = codes "One-card poker " ++ decimal n in
      omega (
        arith,
        escaped_short title,
        length-append (escaped title) (34 ∷ []),
        length-append (codes "One-card poker ") (decimal n),
        decimal_short n (omega arith),
      )

lines_short : (rs : List Record) → Each IsShort rs → size (own_lines rs) ≤ 1400 * length rs
lines_short [] each_short = omega arith
lines_short (r ∷ rs) each_short =
    omega (arith, size_append (own_pieces (mover r) r) (own_lines rs), each_short.0, lines_short rs each_short.1)

-- the canonical form of one-card poker isn't too long
pub poker_is_short : PokerIsShort
poker_is_short n two limit =
    let pieces : List Piece = prologue_pieces (prologue n) ++ own_lines (entries n) in
    let same : length (canon (poker n)) ≡ length (bytes_of pieces (10 ∷ [])) = ap length (lines_are n two limit) in
    let whole = length_bytes pieces (10 ∷ []) in
    let both = size_append (prologue_pieces (prologue n)) (own_lines (entries n)) in
    omega (
      arith,
      same,
      whole,
      both,
      prologue_short n two limit,
      lines_short (entries n) (entries_short n two limit),
      entries_count n two limit,
    )
