-- What writing both players' rows needs.
use Rattle.std.specs.Prelude.{◌≡◌, ℕ, ◌*◌, ◌<◌, max, List, All}
use Rattle.def_tree.specs.declared.Player.TheVariants.{One}
use Rattle.def_plan.specs.Form.{SequenceForm, sequence_count}
use Rattle.xg_seq.specs.Leaves.{HasSequences}
use Rattle.xg_jobs.specs.Entries.{KeepsGroups}
use Rattle.xg_jobs.specs.Grouping.{pair_weights, weights_in}
use Rattle.xg_jobs.specs.Groups.{GroupLeaf, greatest_of}

-- groups by player one's sequences that have the weights of the form's pairs of sequences, with room for each sum of
-- products with the players' numbers
pub record CanWrite (bound : ℕ) (starts : List ℕ) (entries : List GroupLeaf) (form : SequenceForm)
    (numbers_one numbers_two : List ℕ) : Type 0 where
  pub mass : ℕ
  pub kept : KeepsGroups starts entries (sequence_count form.sets_two) mass
  pub weights : weights_in starts entries (sequence_count form.sets_two) ≡ pair_weights form One
  pub known : All (HasSequences form) form.leaves
  pub room : mass * max (greatest_of numbers_one) (greatest_of numbers_two) < bound
