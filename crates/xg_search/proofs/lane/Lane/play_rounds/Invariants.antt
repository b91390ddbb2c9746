use Rattle.xg_search.specs.Rooms.{AreRoomsOf, IsLaneOf}
use Rattle.xg_search.proofs.lane.Lane.play_rounds.Given as goal

abbrev pub invariant-loop : goal.invariant-loop
invariant-loop l = record { lane : IsLaneOf l.form l.self; rooms : AreRoomsOf l.form l.rooms }
