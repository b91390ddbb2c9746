-- What a `GameMaker` has of a game; where memory ran out, it is spent.
use Rattle.std.specs.Prelude.{Bool}
use Rattle.def_file.specs.Content.{Prologue, Contents}

pub record Made : Type 0 where
  pub prologue : Prologue
  pub contents : Contents
  pub spent : Bool
