-- Sets and outcomes that are described once and mentioned often.
use Rattle.std.specs.Prelude.{◌≡◌, ℕ, ◌+◌, ◌≤◌, ◌++◌, List}
use Rattle.std.specs.Fmt.{decimal}
use Rattle.def_tree.specs.declared.Player.{Player}
use Rattle.def_tree.specs.declared.Player.TheVariants.{One, Two}
use Rattle.def_canon.specs.Poker as def
use Rattle.xg_gen.specs.Described.{mention_of_outcome}
use Rattle.xg_gen.specs.declared.again.PlayerSets.{PlayerSets}
use Rattle.xg_gen.specs.declared.again.Won.{Won}
use Rattle.xg_gen.specs.declared.again.Common.{Common}

-- a player's sets with a card, whose names end so
pub record ArePlayerSets (n card : ℕ) (before facing : List ℕ) (sets : PlayerSets) : Type 0 where
  pub number : sets.before_bet.number ≡ card
  pub name : sets.before_bet.name ≡ decimal card ++ before
  pub facing_number : sets.facing_bet.number ≡ n + card
  pub facing_name : sets.facing_bet.name ≡ decimal card ++ facing

-- the outcomes where this player wins
pub record AreWon (winner : Player) (won : Won) : Type 0 where
  pub one : mention_of_outcome won.one ≡ def.wins_one winner
  pub two : mention_of_outcome won.two ≡ def.wins_two winner
  pub one_number : won.one.number ≤ 4
  pub two_number : won.two.number ≤ 4

pub record AreCommon (common : Common) : Type 0 where
  pub check_or_bet : common.check_or_bet ≡ def.check_or_bet
  pub fold_or_call : common.fold_or_call ≡ def.fold_or_call
  pub by_one : AreWon One common.by_one
  pub by_two : AreWon Two common.by_two
