-- What the leaves of a job add to the rows of a form. A leaf's amount at a row goes by the leaf's number, which counts
-- from 0.
use Rattle.std.specs.Prelude.{ℕ, ℤ, pos, List, take, drop, slice_index_or}
use Rattle.def_plan.specs.Form.{SequenceForm, Leaf}
use Rattle.def_history.specs.Ranges.{LeafRange}
use Rattle.def_plan.specs.FormRows.{amount_in_row}

-- past the end there is no weight
abbrev pub form_leaf : SequenceForm → ℕ → Leaf
form_leaf form leaf = slice_index_or form.leaves leaf (record { sequence_one = 0; sequence_two = 0; weight = pos 0 })

abbrev pub leaf_amount : SequenceForm → List ℕ → List ℕ → ℕ → ℕ → ℤ
leaf_amount form numbers_one numbers_two leaf row = amount_in_row form numbers_one numbers_two (form_leaf form leaf) row

-- the leaves of a job
abbrev pub job_leaves : SequenceForm → LeafRange → List Leaf
job_leaves form range = take range.count (drop range.first form.leaves)
