-- What workers are before and after their work.
use Rattle.std.specs.Prelude.{◌≡◌, ℕ, []}
use Rattle.xg_rowcore.specs.Packets.{Listed}
use Rattle.xg_board.specs.Holdings.{Holding}

-- the pass can draw, and the packet has just the room
pub record IsReady (number room : ℕ) (pass : Holding) (entries : Listed) : Type 0 where
  pub number_is : pass.number ≡ number
  pub no_right : pass.rights ≡ []
  pub ticket : pass.tickets ≡ 1
  pub has_room : room ≡ entries.room

-- the pass found the bag empty
pub record IsSpent (pass : Holding) : Type 0 where
  pub no_right : pass.rights ≡ []
  pub spent : pass.tickets ≡ 0
