-- What a table of jobs tells of a game: the jobs' ranges of leaves, the weights of each pair of sequences, the sizes of
-- all weights together, and, where packets are made, the rows of each job.
use Rattle.std.specs.Prelude.{◌≡◌, ℕ, Bool, List, [], IsTrue, length, map, ℤ}
use Rattle.def_tree.specs.declared.Player.TheVariants.{One}
use Rattle.def_tree.specs.Tree.{Forest, leaf_count, prefix}
use Rattle.def_tree.specs.Rules.{IsGameTree}
use Rattle.def_history.specs.Ranges.{LeafRange, job_ranges}
use Rattle.def_plan.specs.Form.{SequenceForm}
use Rattle.def_plan.specs.Payoff.{mass_of}
use Rattle.def_sequence_form.specs.Form.{form_of}
use Rattle.xg_touched.specs.Touched.{JobRows, job_rows}
use Rattle.xg_jobs.specs.Grouping.{pair_weights}
use Rattle.xg_jobs.specs.Groups.{greatest_of}

pub record TableOfJobs : Type 0 where
  pub ranges : List LeafRange
  pub weights : List (List ℤ)
  pub mass : ℕ
  pub touched : List JobRows

abbrev pub job_table : SequenceForm → Forest → TableOfJobs
job_table form tree = record {
  ranges = job_ranges tree;
  weights = pair_weights form One;
  mass = mass_of form.leaves;
  touched = map (job_rows form) (job_ranges tree);
}

-- the same without the rows of the jobs
abbrev pub leaf_table : SequenceForm → Forest → TableOfJobs
leaf_table form tree = record {
  ranges = job_ranges tree;
  weights = pair_weights form One;
  mass = mass_of form.leaves;
  touched = [];
}

-- the greatest number of rows that the leaves of one job have
abbrev pub most_touched : List JobRows → ℕ
most_touched touched = greatest_of (map (λ job. length job.rows) touched)

-- the form is that of the tree, with a weight for each leaf
pub record IsFormOf (form : SequenceForm) (tree : Forest) : Type 0 where
  pub weights : List ℤ
  pub count : length weights ≡ leaf_count (prefix tree)
  pub form_is : form ≡ form_of tree weights

-- the table was built from the form and its tree, with the rows of the jobs or without them
pub record HasLeavesOf (form : SequenceForm) (table : TableOfJobs) : Type 0 where
  pub tree : Forest
  pub rules : IsGameTree tree
  pub form_is : IsFormOf form tree
  pub ranges_are : table.ranges ≡ job_ranges tree
  pub weights_are : table.weights ≡ pair_weights form One
  pub mass_is : table.mass ≡ mass_of form.leaves

-- the table was built from the form and its tree, with the rows of the jobs
pub record IsTableOf (form : SequenceForm) (table : TableOfJobs) : Type 0 where
  pub leaves : HasLeavesOf form table
  pub touched_are : table.touched ≡ map (job_rows form) table.ranges

-- the table was built from the form and its tree, and has the rows of the jobs where packets are made
pub record Serves (packets : Bool) (form : SequenceForm) (table : TableOfJobs) : Type 0 where
  pub leaves : HasLeavesOf form table
  pub rows : IsTrue packets → IsTableOf form table
