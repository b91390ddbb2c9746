-- A game in which chance deals one of two hands, 1/3 and 2/3. Player one sees it and chooses twice on some paths, and
-- player two doesn't: its sequence form, where the unit is 3.
use Rattle.std.specs.Prelude.{pos, negsuc, [], ◌∷◌}
use Rattle.def_plan.specs.Form.{SequenceForm, weighted}
use Rattle.def_plan.specs.Hidden.{set_after}

abbrev pub two_deals : SequenceForm
two_deals = record {
  sets_one = set_after 0 2 ∷ set_after 1 2 ∷ set_after 0 2 ∷ set_after 6 2 ∷ [];
  sets_two = set_after 0 3 ∷ [];
  leaves =
      weighted 3 1 (pos 0) ∷ weighted 4 1 (pos 0) ∷ weighted 1 2 (negsuc 2) ∷ weighted 1 3 (pos 0) ∷
      weighted 2 1 (negsuc 1) ∷ weighted 2 2 (pos 0) ∷ weighted 2 3 (pos 1) ∷
      weighted 5 1 (pos 0) ∷ weighted 5 2 (pos 0) ∷ weighted 5 3 (pos 0) ∷
      weighted 6 1 (negsuc 1) ∷ weighted 7 2 (negsuc 7) ∷ weighted 8 2 (pos 8) ∷ weighted 6 3 (pos 0) ∷ [];
}
