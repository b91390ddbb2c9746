-- What a writer does.
use Rattle.std.specs.Prelude.{[]}
use Rattle.def_fraction.specs.Fraction.{zero_fraction}
use Rattle.def_file.specs.Content.{Action}

-- stands behind the last action of a list
abbrev pub no_action : Action
no_action = record { name = []; chance = zero_fraction }
