-- Worked rows: limits as plain numbers, where no row of a crate below says them.
use Rattle.std.specs.Prelude.{◌≡◌, [], ◌∷◌, codes, Some, None, false}
use Rattle.def_file.specs.Reading.{most_bytes}
use Rattle.def_check.specs.Check.{most_cert_bytes}
use Rattle.def_command.specs.Grammar.{Drill, Gen, Solve, command_of_words}

pub record LimitRows : Type 0 where
  pub file_bytes : most_bytes ≡ 67108864
  pub certificate_bytes : most_cert_bytes ≡ 268435456
  pub two_cards : command_of_words (codes "gen" ∷ codes "2" ∷ []) ≡ Some (Gen 2)
  pub most_cards : command_of_words (codes "gen" ∷ codes "64" ∷ []) ≡ Some (Gen 64)
  pub drill_of_most_cards : command_of_words (codes "drill" ∷ codes "64" ∷ codes "--rounds=1" ∷ [])
      ≡ Some (Drill 64 (record { rounds = 1; every = 1; scale = 1048576 }) (record { workers = None; atomic = false }))
  pub one_card : command_of_words (codes "drill" ∷ codes "1" ∷ []) ≡ None
  pub many_cards : command_of_words (codes "drill" ∷ codes "65" ∷ []) ≡ None
  pub most_every : command_of_words (codes "solve" ∷ codes "--every=65536" ∷ codes "F1" ∷ [])
      ≡ Some (Solve (codes "F1") (record { rounds = 1000; every = 65536; scale = 1048576 })
      (record { workers = None; atomic = false }))
  pub large_every : command_of_words (codes "solve" ∷ codes "--every=65537" ∷ codes "F1" ∷ []) ≡ None
  pub most_scale : command_of_words (codes "solve" ∷ codes "--scale=1048576" ∷ codes "F1" ∷ [])
      ≡ Some (Solve (codes "F1") (record { rounds = 1000; every = 1000; scale = 1048576 })
      (record { workers = None; atomic = false }))
  pub scale_zero : command_of_words (codes "solve" ∷ codes "--scale=0" ∷ codes "F1" ∷ []) ≡ None
