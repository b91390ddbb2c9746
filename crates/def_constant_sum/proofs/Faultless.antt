-- The game of a file without a fault is complete and of constant sum.
use Rattle.std.proofs.Common.{◌≡◌, ◌≢◌, ◌-◌, ◌<◌, List, [], length, get_or, map, ap, sym, subst, ◌∙◌, arith}
use Rattle.std.proofs.lemmas.List.{get_or-map, length-map}
use Rattle.def_tree.specs.declared.Kind.TheVariants.{Chance, Leaf}
use Rattle.def_tree.specs.declared.Node.{Node}
use Rattle.def_tree.specs.Tree.{prefix}
use Rattle.def_fraction.specs.Fraction.{Fraction}
use Rattle.def_game_paths.specs.Paths.{visits}
use Rattle.def_game_paths.proofs.Visits.{map-visits_from}
use Rattle.def_game_paths.proofs.Order.{visited_node}
use Rattle.def_game_scale.specs.Tables.{probabilities}
use Rattle.def_game_scale.specs.Faults.{game_fault}
use Rattle.def_game_scale.proofs.Sound.{sound}
use Rattle.def_file.specs.Content.{GameFile, sets_of_kind}
use Rattle.def_file.specs.Faults.{no_set}
use Rattle.def_file.specs.Game.{GoesWith, IsInSet, chances_of}
use Rattle.def_game_numbers.specs.Numbers.{tables_of}
use Rattle.def_game_numbers.proofs.Fractions.{tables_lowest}
use Rattle.def_game_numbers.proofs.WholeSums.{none_found}
use Rattle.def_constant_sum.specs.Laws.{FaultlessGamesAreComplete}

-- each probability of a chance node's set is that of a child
one_each : (game : GameFile) (node : Node) → node.kind ≡ Chance → GoesWith game.sets game.outcomes node
    → length (probabilities (tables_of game) node.set) ≡ node.children
one_each game node is with =
    let no_leaf : node.kind ≢ Leaf = λ leaf. chance_is_no_leaf (sym is ∙ leaf) in
    let set : IsInSet game.sets.chance node = subst (λ kind. IsInSet (sets_of_kind kind game.sets) node) is (with.set no_leaf) in
    let there : node.set - 1 < length game.sets.chance = omega (arith, set.from_one, set.there) in
    ap (λ (fs : List Fraction). length fs) (get_or-map chances_of game.sets.chance (node.set - 1) no_set [] there) ∙ set.chances
  where
    chance_is_no_leaf : Chance ≡ Leaf → ⊥
    chance_is_no_leaf e = cc

pub faultless : FaultlessGamesAreComplete
faultless game whole fractions none =
    let lowest = tables_lowest game fractions in
    let is = sound (tables_of game) game.tree lowest (none_found (game_fault (tables_of game) game.tree) none) in
    record {
      complete = record {
        game_tree = record { tree = whole.tree; rules = whole.together.rules; limit = whole.together.limit };
        fractions = lowest;
        chances = λ k d there chance. record {
          count =
              let nodes : map visited_node (visits game.tree) ≡ prefix game.tree = map-visits_from (λ _. []) 1 game.tree in
              let many : length (prefix game.tree) ≡ length (visits game.tree) = sym (ap length nodes) ∙ length-map (visits game.tree) visited_node in
              let node : get_or (prefix game.tree) k d.node ≡ (get_or (visits game.tree) k d).node =
              ap (λ ns. get_or ns k d.node) (sym nodes) ∙ get_or-map visited_node (visits game.tree) k d d.node there in
              one_each game (get_or (visits game.tree) k d).node chance (rw node at (whole.together.tables k d.node (omega arith)));
          total = (is.numbers.chance k d there chance).total;
        };
        recall = is.recall;
      };
      constant_sum = is.numbers.constant_sum;
    }
