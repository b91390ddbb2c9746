-- The fractions of a file's tables.
use Rattle.std.specs.Prelude.{All}
use Rattle.std.proofs.lemmas.List.Elements.{All-map, All-weaker}
use Rattle.def_fraction.specs.Fraction.{IsInLowestTerms}
use Rattle.def_file.specs.Content.{GameFile, SetEntry}
use Rattle.def_file.specs.Game.{HasFractions, IsSmallFraction, chances_of}
use Rattle.def_game_scale.specs.Tables.{AreFractions, PayoffPair}
use Rattle.def_game_numbers.specs.Numbers.{payoffs_given, tables_of}

-- the tables of a game hold fractions in lowest terms, as its sets and outcomes do
pub tables_lowest : (game : GameFile) → HasFractions game.sets game.outcomes → AreFractions (tables_of game)
tables_lowest game h = record {
  chance = All-map (λ row. All IsInLowestTerms row) chances_of game.sets.chance
      (All-weaker (λ (e : SetEntry). All IsSmallFraction (chances_of e)) (λ e. All IsInLowestTerms (chances_of e))
      (λ e all. All-weaker IsSmallFraction IsInLowestTerms (λ f small. small.0) (chances_of e) all) game.sets.chance h.chance);
  outcomes = All-map (λ (p : PayoffPair). IsInLowestTerms p.one × IsInLowestTerms p.two) payoffs_given game.outcomes
      (λ k d there. ((h.one k d there).0, (h.two k d there).0));
}
