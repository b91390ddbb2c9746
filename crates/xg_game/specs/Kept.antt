-- A game by the parts that a `Game` keeps.
use Rattle.def_file.specs.Content.{GameFile}
use Rattle.xg_game.specs.Prologues.{prologue_of}
use Rattle.xg_game.specs.declared.game.Game.TheInside.{Inside}

abbrev pub game_of : Inside → GameFile
game_of g = record {
  prologue = prologue_of g.prologue;
  tree = g.tree;
  names = g.names;
  sets = g.sets;
  outcomes = g.outcomes;
}
