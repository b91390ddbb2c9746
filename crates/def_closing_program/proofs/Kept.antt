-- Each bracket that words print is within its promise.
use Rattle.std.proofs.Common.{◌≡◌, Option, Some, None, refl}
use Rattle.std.specs.Prelude.{IsSomeAnd}
use Rattle.def_cert_verdict.specs.Certificate.{PrintedBounds}
use Rattle.def_cert_accepted.specs.Bounds.{BoundsHold}
use Rattle.def_program.specs.Bounds.{game_bounds}
use Rattle.def_program.proofs.Played.{each_played}
use Rattle.def_closing_program.specs.Promises.{IsWithinPromise, WrittenBracketsKeepTheirPromises}
use Rattle.def_closing_program.proofs.Accepted.{played_well}
use Rattle.def_closing_program.proofs.Printed.{printed_within}

-- what holds of the bounds, wherever they come from, holds beside what was written with them
beside : (A B C : PrintedBounds → Type 0) (o : Option PrintedBounds) → IsSomeAnd o (λ b. A b × B b)
    → ((b : PrintedBounds) → o ≡ Some b → C b) → IsSomeAnd o (λ b. A b × C b)
beside A B C None is more = absurd is
beside A B C (Some b) is more = (is.0, more b refl)

pub written_brackets_keep_their_promises : WrittenBracketsKeepTheirPromises
written_brackets_keep_their_promises words told out whole part plays some_round =
    let well = played_well words told (λ answer means. (whole answer means).0) part plays in
    beside _ _ (IsWithinPromise part) (game_bounds part.variant part.game part.settings)
    (each_played words told out BoundsHold (λ game variant scale b holds. holds) whole part plays some_round)
    (printed_within part.variant part.game part.settings well.faultless some_round well.some_scale)
