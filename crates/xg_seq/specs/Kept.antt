-- What a form keeps.
use Rattle.def_tree.specs.declared.Player.TheVariants.{One, Two}
use Rattle.def_plan.specs.Form.{SequenceForm, sequence_count}
use Rattle.xg_seq.specs.declared.threads.Threads.{Threads}
use Rattle.xg_seq.specs.Leaves.{KeepsLeaves}
use Rattle.xg_seq.specs.Threads.{KeepsThreads}

pub record KeepsForm (form : SequenceForm) (threads_one threads_two : Threads) : Type 0 where
  pub leaves : KeepsLeaves form
  pub one : KeepsThreads One (sequence_count form.sets_one) form.leaves threads_one.first.items threads_one.next.items
  pub two : KeepsThreads Two (sequence_count form.sets_two) form.leaves threads_two.first.items threads_two.next.items
