-- Player one chooses one of three actions, all of which pay nothing, so every evaluation has the same ends.
use Rattle.std.specs.Prelude.{pos, [], ◌∷◌}
use Rattle.def_plan.specs.Form.{SequenceForm, weighted}
use Rattle.def_plan.specs.SmallForms.{three_actions}

abbrev pub three_alike : SequenceForm
three_alike = record {
  sets_one = three_actions;
  sets_two = [];
  leaves = weighted 1 0 (pos 0) ∷ weighted 2 0 (pos 0) ∷ weighted 3 0 (pos 0) ∷ [];
}
