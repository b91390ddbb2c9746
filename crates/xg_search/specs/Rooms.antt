-- What the numbers of rounds have room for.
use Rattle.std.specs.Prelude.{◌≡◌, ◌<◌, List, length}
use Rattle.def_tree.specs.declared.Player.{Player}
use Rattle.def_tree.specs.declared.Player.TheVariants.{One, Two}
use Rattle.def_plan.specs.Form.{InformationSet, SequenceForm, player_sets, sequence_count}
use Rattle.xg_search.specs.declared.lane.Lane.{Lane}
use Rattle.xg_search.specs.declared.room.Room.{Room}
use Rattle.xg_search.specs.declared.room.Rooms.{Rooms}
use Rattle.xg_search.specs.declared.seat.Seat.{Seat}

-- a seat of a player with these sets
pub record IsSeatOf (sets : List InformationSet) (seat : Seat) : Type 0 where
  pub regrets : length seat.regrets.items ≡ sequence_count sets
  pub play : length seat.play.items ≡ sequence_count sets
  pub plan : length seat.plan ≡ sequence_count sets
  pub sums : length seat.sums.items ≡ sequence_count sets

-- room for a player of the form
pub record IsRoomOf (form : SequenceForm) (player : Player) (room : Room) : Type 0 where
  pub rows : length room.rows.items ≡ sequence_count (player_sets form player)
  pub small_rows : length room.small_rows.items ≡ sequence_count (player_sets form player)
  pub worths : length room.worths.items ≡ sequence_count (player_sets form player)
  pub parts : length room.parts.items ≡ sequence_count (player_sets form player)
  pub numbers : length room.numbers.items ≡ sequence_count (player_sets form player)
  pub reply_sets : length room.reply.reply.sets ≡ length (player_sets form player)
  pub reply_worths : length room.reply.worths ≡ sequence_count (player_sets form player)

pub record AreRoomsOf (form : SequenceForm) (rooms : Rooms) : Type 0 where
  pub shift : rooms.shift < 64
  pub one : IsRoomOf form One rooms.one
  pub two : IsRoomOf form Two rooms.two

-- a lane of both players of the form
pub record IsLaneOf (form : SequenceForm) (lane : Lane) : Type 0 where
  pub one : IsSeatOf form.sets_one lane.one
  pub two : IsSeatOf form.sets_two lane.two
