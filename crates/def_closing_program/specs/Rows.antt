-- Worked rows: what is promised of Kuhn poker, which is one-card poker with three cards.
use Rattle.std.specs.Prelude.{◌≡◌, ℕ, pos}
use Rattle.def_fraction.specs.Fraction.{over}
use Rattle.def_canon.specs.Poker.{poker}
use Rattle.def_plus.specs.declared.Variant.TheVariants as variants
use Rattle.def_command.specs.declared.Settings.{Settings}
use Rattle.def_program.specs.Bounds.{written_alone}
use Rattle.def_closing_program.specs.Promises.{promise_of}

abbrev asked : (rounds scale : ℕ) → Settings
asked rounds scale = record { rounds = rounds; every = 1; scale = scale }

pub record KuhnPromises : Type 0 where
  pub plain : promise_of (written_alone variants.Plain (poker 3) (asked 100 1048576)) ≡ over (pos 25698317) 31457280
  pub of_units : promise_of (written_alone variants.Plain (poker 3) (asked 100 1)) ≡ over (pos 1019) 60
  pub plus : promise_of (written_alone variants.Plus (poker 3) (asked 10 16384)) ≡ over (pos 2141409) 360448
