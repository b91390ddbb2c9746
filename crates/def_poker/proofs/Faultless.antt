-- One-card poker has no fault.
use Rattle.std.proofs.Common.{◌≡◌, ◌≤◌, List, [], ◌∷◌, length, map, sym, ap, ◌∙◌, subst, arith}
use Rattle.std.specs.Prelude.{All}
use Rattle.std.proofs.lemmas.List.{length-map}
use Rattle.def_tree.specs.Tree.{Forest, forest_of}
use Rattle.def_tree.proofs.Forests.{prefix-forest_of}
use Rattle.def_file.specs.Content.{Record}
use Rattle.def_file.specs.Entries.{node_of}
use Rattle.def_file_form.proofs.WholeGames.{stands_for_whole_game}
use Rattle.def_game_paths.specs.Paths.{visits}
use Rattle.def_game_paths.proofs.Visits.{map-visits_from}
use Rattle.def_game_scale.specs.Tables.{AreFractions}
use Rattle.def_game_scale.proofs.First.{game_first}
use Rattle.def_game_numbers.specs.Numbers.{as_file_fault}
use Rattle.def_game_numbers.proofs.Fractions.{tables_lowest}
use Rattle.def_canon.specs.Canon.{canon}
use Rattle.def_canon.specs.Described.{Each}
use Rattle.def_canon.specs.Poker.{entries, poker}
use Rattle.def_canon.proofs.Described.{entries_describe, outcome_of_poker, set_with}
use Rattle.def_canon.proofs.PokerSizes.{entries_count}
use Rattle.def_canon.proofs.Written.{poker_is_read_back}
use Rattle.def_poker.specs.Faultless.{PokerHasNoFault}
use Rattle.def_poker.proofs.Known.{Known, all_known}
use Rattle.def_poker.proofs.Trees.{HasOwn, poker_tree, tree_is}
use Rattle.def_poker.proofs.Visits.{Good, all_good, told}
use Rattle.def_poker.proofs.Numbers.{passes, recalls}

own_each : (rs all : List Record) → Each (Known all) rs → Each (HasOwn (node_of all) 0) rs
own_each [] all e = tt
own_each (r ∷ rs) all e = (e.0.children, own_each rs all e.1)

pub poker_has_no_fault : PokerHasNoFault
unfolding poker
poker_has_no_fault n least limit =
    let known = all_known (set_with n) outcome_of_poker (entries n) (entries_describe n least limit) in
    let tree : Forest = forest_of (map (node_of (entries n)) (entries n)) in
    let is : tree ≡ poker_tree (node_of (entries n)) n = tree_is (node_of (entries n)) n (own_each (entries n) (entries n) known) in
    let good : All (Good n) (visits tree) = subst (λ t. All (Good n) (visits t)) (sym is) (all_good n least limit known) in
    let lowest : AreFractions (told n) = tables_lowest (poker n) (stands_for_whole_game (canon (poker n)) (poker n) (poker_is_read_back n least limit).0).1 in
    let long : length (visits tree) ≡ length (entries n) =
    sym (length-map (visits tree) (λ v. v.node)) ∙ ap length (map-visits_from (λ _. []) 1 tree)
    ∙ ap length (prefix-forest_of (map (node_of (entries n)) (entries n)))
    ∙ length-map (entries n) (node_of (entries n)) in
    let count : length (visits tree) ≤ 36353 = omega (arith, long, entries_count n least limit) in
    ap as_file_fault ((game_first (told n) tree lowest).none.1 (passes n least limit lowest tree good count, recalls n least limit lowest tree good count))
