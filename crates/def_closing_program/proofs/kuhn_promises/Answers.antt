use Rattle.std.proofs.Common.{refl}
use Rattle.def_fraction.specs.Divisors.{gcd}
use Rattle.def_fraction.specs.Fraction.{fraction_of}
use Rattle.def_canon.specs.Poker.{after_bet, after_check, answer, deal_one, deal_two, entries, facing_bet, hand, hands}
use Rattle.def_canon.specs.Poker.{opening_set, poker, rounds_with_cards, wins_one, wins_two}
use Rattle.def_closing_program.proofs.kuhn_promises.Goals as goal

pub returns : goal.returns
unfolding gcd fraction_of after_bet after_check answer deal_one deal_two entries facing_bet hand hands opening_set poker rounds_with_cards wins_one wins_two
returns c = record { plain = refl; of_units = refl; plus = refl }
