use Rattle.std.proofs.Common.{refl}
use Rattle.std.specs.Fmt.{digits}
use Rattle.def_file_tokens.specs.Texts.{escaped}
use Rattle.def_canon.specs.Canon.{action_pieces, canon, chance_pieces, described_outcome, each, game_pieces, list_pieces, marker_pieces, name_pieces}
use Rattle.def_canon.specs.Canon.{node_pieces, outcome_pieces, payoffs_pieces, place_pieces, player_pieces, prologue_pieces, quoted, set_pieces}
use Rattle.def_canon.specs.Poker.{after_bet, after_check, answer, deal_one, deal_two, entries, facing_bet, hand, hands, opening_set, poker, prologue}
use Rattle.def_canon.specs.Poker.{rounds_with_cards, wins_one, wins_two}
use Rattle.def_game_laws.proofs.canon.poker.poker_rows.Goals as goal

pub returns : goal.returns
unfolding after_bet after_check answer deal_one deal_two entries facing_bet hand hands opening_set poker prologue rounds_with_cards wins_one wins_two
    action_pieces canon chance_pieces described_outcome each game_pieces list_pieces marker_pieces name_pieces node_pieces outcome_pieces payoffs_pieces
    place_pieces player_pieces prologue_pieces quoted set_pieces escaped digits
returns c = record { two = refl; nodes_of_two = refl; nodes_of_three = refl }
