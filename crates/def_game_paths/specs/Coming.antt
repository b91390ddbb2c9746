-- The node that comes after the first ones in prefix order.
use Rattle.std.specs.Prelude.{ℕ, [], slice_index_or}
use Rattle.def_tree.specs.declared.Kind.TheVariants.{Leaf}
use Rattle.def_tree.specs.Tree.{Forest}
use Rattle.def_game_paths.specs.Paths.{Visit, visits}

abbrev pub no_visit : Visit
no_visit = record { path = []; node = record { kind = Leaf; set = 0; outcome = 0; children = 0 } }

-- the node after the first n, with its path
abbrev pub visit_after : Forest → ℕ → Visit
visit_after tree n = slice_index_or (visits tree) n no_visit
