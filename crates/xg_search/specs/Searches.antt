-- What a search keeps.
use Rattle.std.specs.Prelude.{ℤ}
use Rattle.def_tree.specs.declared.Player.TheVariants.{One, Two}
use Rattle.def_plan.specs.Form.{SequenceForm}
use Rattle.xg_bracket.specs.declared.parts.PlanAndReply.{PlanAndReply}
use Rattle.xg_search.specs.declared.search.Search.{Search}
use Rattle.xg_search.specs.Ends.{IsEndOf}
use Rattle.xg_search.specs.Rooms.{AreRoomsOf, IsLaneOf}

-- player one's plan with player two's best reply to it
abbrev pub lower_of : Search → PlanAndReply
lower_of search = search.lower

-- player two's plan with player one's best reply to it
abbrev pub upper_of : Search → PlanAndReply
upper_of search = search.upper

-- the totals of these replies, between which the value of the game lies
abbrev pub low_of : Search → ℤ
low_of search = (lower_of search).reply.reply.total

abbrev pub high_of : Search → ℤ
high_of search = (upper_of search).reply.reply.total

-- a search of plans of the form: what is kept are such plans and replies, and its lanes have room for the form
pub record IsSearchOf (form : SequenceForm) (search : Search) : Type 0 where
  pub lower : IsEndOf form One (lower_of search)
  pub upper : IsEndOf form Two (upper_of search)
  pub discounted : IsLaneOf form search.discounted
  pub half_predicted : IsLaneOf form search.half_predicted
  pub rooms : AreRoomsOf form search.rooms
