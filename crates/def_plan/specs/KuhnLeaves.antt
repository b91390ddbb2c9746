-- The leaves of Kuhn poker, written out deal by deal in the order of the game's tree. A deal has the chance 1/6 and the
-- unit is 6, so a leaf's weight is what player one wins.
use Rattle.std.specs.Prelude.{pos, negsuc, List, [], ◌∷◌}
use Rattle.def_plan.specs.Form.{Leaf, weighted}

abbrev pub written_leaves : List Leaf
written_leaves =
    -- the cards 1 and 2
    weighted 1 1 (negsuc 0) ∷ weighted 3 2 (negsuc 0) ∷ weighted 4 2 (negsuc 1) ∷ weighted 2 3 (pos 1)
    ∷ weighted 2 4 (negsuc 1) ∷
    -- the cards 1 and 3
    weighted 1 5 (negsuc 0) ∷ weighted 3 6 (negsuc 0) ∷ weighted 4 6 (negsuc 1) ∷ weighted 2 7 (pos 1)
    ∷ weighted 2 8 (negsuc 1) ∷
    -- the cards 2 and 1
    weighted 5 9 (pos 1) ∷ weighted 7 10 (negsuc 0) ∷ weighted 8 10 (pos 2) ∷ weighted 6 11 (pos 1)
    ∷ weighted 6 12 (pos 2) ∷
    -- the cards 2 and 3
    weighted 5 5 (negsuc 0) ∷ weighted 7 6 (negsuc 0) ∷ weighted 8 6 (negsuc 1) ∷ weighted 6 7 (pos 1)
    ∷ weighted 6 8 (negsuc 1) ∷
    -- the cards 3 and 1
    weighted 9 9 (pos 1) ∷ weighted 11 10 (negsuc 0) ∷ weighted 12 10 (pos 2) ∷ weighted 10 11 (pos 1)
    ∷ weighted 10 12 (pos 2) ∷
    -- the cards 3 and 2
    weighted 9 1 (pos 1) ∷ weighted 11 2 (negsuc 0) ∷ weighted 12 2 (pos 2) ∷ weighted 10 3 (pos 1)
    ∷ weighted 10 4 (pos 2) ∷ []
