-- The other player of two.
use Rattle.def_tree.specs.declared.Player.{Player}
use Rattle.def_tree.specs.declared.Player.TheVariants.{One, Two}

abbrev pub opponent : Player → Player
opponent One = Two
opponent Two = One
