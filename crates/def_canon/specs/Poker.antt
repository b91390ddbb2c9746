-- One-card poker with n cards (for three cards: Kuhn, "A simplified two-person poker", 1950). Both players put in 1 and
-- get one card each; then they check, bet, fold or call, and of two cards that are compared the higher one wins.
--     deal_one n, deal_two n i                        the deals: player one's card, and player two's where player one
--                                                     has card i
--     opening, after_check, answer, after_bet         the players' sets, by the card that the mover sees
--     wins winner stake                               what is won at the end of play
--     hand n i j                                      the play where player one has card i and player two has card j
--     entries n                                       all entries, in prefix order
--     poker n                                         the game
use Rattle.std.specs.Prelude.{ℕ, ℤ, pos, neg_ℤ, ◌+◌, ◌-◌, nat_eq, nat_lt, not, if◌then◌else◌, List, [], ◌∷◌, ◌++◌, map}
use Rattle.std.specs.Prelude.{filter, codes, Some}
use Rattle.std.specs.List.{range_with_len}
use Rattle.std.specs.Fmt.{decimal}
use Rattle.def_fraction.specs.Fraction.{whole_number, one_over}
use Rattle.def_tree.specs.declared.Player.{Player}
use Rattle.def_tree.specs.declared.Player.TheVariants.{One, Two}
use Rattle.def_file.specs.Content.{Prologue, Action, SetMention, OutcomeMention, Record, GameFile, named_action}
use Rattle.def_file.specs.Content.{chance_record, player_record, leaf_record}
use Rattle.def_file.specs.Entries.{game_of_entries}

-- Cards, which count from 1.

abbrev pub cards : ℕ → List ℕ
cards n = range_with_len 1 n

-- what is left of some cards where card i is dealt
abbrev pub cards_without : ℕ → List ℕ → List ℕ
cards_without i js = filter (λ j. not (nat_eq i j)) js

-- the other cards, in rising order
abbrev pub others : ℕ → ℕ → List ℕ
others n i = cards_without i (cards n)

-- Each card is as likely as any other.

abbrev pub dealt_card : ℕ → ℕ → Action
dealt_card n card = record { name = decimal card; chance = one_over n }

abbrev pub described_set : ℕ → List ℕ → List Action → SetMention
described_set number name actions = record { number = number; name = Some name; actions = Some actions }

unfoldable pub deal_one : ℕ → SetMention
deal_one n = described_set 1 (codes "deal one") (map (dealt_card n) (cards n))

unfoldable pub deal_two : ℕ → ℕ → SetMention
deal_two n i = described_set (1 + i) (codes "deal two " ++ decimal i) (map (dealt_card (n - 1)) (others n i))

-- The players' sets.

abbrev pub check_or_bet : List Action
check_or_bet = named_action (codes "check") ∷ named_action (codes "bet") ∷ []

abbrev pub fold_or_call : List Action
fold_or_call = named_action (codes "fold") ∷ named_action (codes "call") ∷ []

-- player one with card i opens
unfoldable pub opening_set : ℕ → SetMention
opening_set i = described_set i (decimal i) check_or_bet

-- player two with card j, after a check
unfoldable pub after_check : ℕ → SetMention
after_check j = described_set j (decimal j ++ codes " c") check_or_bet

-- player one with card i, after a check and a bet
unfoldable pub answer : ℕ → ℕ → SetMention
answer n i = described_set (n + i) (decimal i ++ codes " cb") fold_or_call

-- player two with card j, after a bet
unfoldable pub after_bet : ℕ → ℕ → SetMention
after_bet n j = described_set (n + j) (decimal j ++ codes " b") fold_or_call

-- Outcomes.

abbrev pub mentioned_outcome : ℕ → List ℕ → ℤ → OutcomeMention
mentioned_outcome number name one =
    record { number = number; name = Some name; payoffs = Some (whole_number one ∷ whole_number (neg_ℤ one) ∷ []) }

-- this player wins 1, or 2
unfoldable pub wins_one : Player → OutcomeMention
wins_one One = mentioned_outcome 1 (codes "One wins 1") (pos 1)
wins_one Two = mentioned_outcome 2 (codes "Two wins 1") (neg_ℤ (pos 1))

unfoldable pub wins_two : Player → OutcomeMention
wins_two One = mentioned_outcome 3 (codes "One wins 2") (pos 2)
wins_two Two = mentioned_outcome 4 (codes "Two wins 2") (neg_ℤ (pos 2))

-- who wins where the cards i and j are compared
abbrev pub higher : ℕ → ℕ → Player
higher i j = if nat_lt j i then One else Two

-- Entries. Nodes have no names, and payoffs come at the leaves alone.

-- a player who faces a bet folds or calls
unfoldable pub facing_bet : ℕ → SetMention → OutcomeMention → OutcomeMention → List Record
facing_bet player set folded called = player_record player set ∷ leaf_record folded ∷ leaf_record called ∷ []

-- player one checks and player two checks or bets, or player one bets
unfoldable pub hand : ℕ → ℕ → ℕ → List Record
hand n i j =
    player_record 1 (opening_set i)
    ∷ player_record 2 (after_check j)
    ∷ leaf_record (wins_one (higher i j))
    ∷ (facing_bet 1 (answer n i) (wins_one Two) (wins_two (higher i j))
    ++ facing_bet 2 (after_bet n j) (wins_one One) (wins_two (higher i j)))

-- the play of player one's card i against each of some cards
unfoldable pub hands : ℕ → ℕ → List ℕ → List Record
hands n i [] = []
hands n i (j ∷ js) = hand n i j ++ hands n i js

-- each of some cards for player one, and all that follows
unfoldable pub rounds_with_cards : ℕ → List ℕ → List Record
rounds_with_cards n [] = []
rounds_with_cards n (i ∷ is) = chance_record (deal_two n i) ∷ (hands n i (others n i) ++ rounds_with_cards n is)

unfoldable pub entries : ℕ → List Record
entries n = chance_record (deal_one n) ∷ rounds_with_cards n (cards n)

-- The game.

unfoldable pub prologue : ℕ → Prologue
prologue n = record { title = codes "One-card poker " ++ decimal n; one = codes "One"; two = codes "Two"; comment = [] }

unfoldable pub poker : ℕ → GameFile
poker n = game_of_entries (prologue n) (entries n)
