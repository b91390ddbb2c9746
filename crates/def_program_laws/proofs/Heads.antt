-- The numbers of an accepted file's game are within the ranges of a certificate's head.
use Rattle.std.proofs.Common.{◌≡◌, ℕ, ◌≤◌, List, Option, refl, ap, arith}
use Rattle.std.specs.Prelude.{Ok, nat_le, unsigned_abs}
use Rattle.std.proofs.lemmas.Bool.{and_parts, leb-true}
use Rattle.std.proofs.lemmas.List.Elements.{All-head}
use Rattle.std.proofs.lemmas.List.Sums.{count_by-le-length}
use Rattle.def_tree.specs.declared.Kind.TheVariants.{One, Two}
use Rattle.def_tree.specs.Tree.{Forest, bare, grown, prefix, node_count, tree_count, is_leaf_node}
use Rattle.def_tree.specs.Rules.{IsGameTree}
use Rattle.def_tree.proofs.HasLeaf.{has_leaf, have_children}
use Rattle.def_file.specs.Content.{GameFile}
use Rattle.def_file_form.proofs.WholeGames.{stands_for_whole_game}
use Rattle.def_fraction.specs.Fraction.{IsInLowestTerms, most}
use Rattle.def_game_scale.specs.Tables.{AreFractions, Tables, game_sum}
use Rattle.def_game_scale.specs.Scale.{all_expected}
use Rattle.def_game_scale.proofs.Expected.{fractions-lowest}
use Rattle.def_game_scale.proofs.First.{number_first}
use Rattle.def_game_numbers.specs.Numbers.{GameWeights, refused_or, tables_of, weigh, weights_of_game}
use Rattle.def_game_numbers.proofs.Fractions.{tables_lowest}
use Rattle.def_game_numbers.proofs.Weighing.{fitting}
use Rattle.def_check.specs.Accepted.{IsAccepted}
use Rattle.def_check.proofs.FileAccepted.{accepted_games_sound}
use Rattle.def_check.proofs.InNumbers.{some_unit}
use Rattle.def_sequence_form.proofs.Sets.{form_numbers_as_the_tree}
use Rattle.def_cert_verdict.specs.Ranges.{FractionFits, HeadFits}
use Rattle.def_command.specs.declared.Settings.{Settings}
use Rattle.def_command.specs.GrammarLaws.{InRange}
use Rattle.def_program.specs.Text.{game_head}

some_nodes : (trees : Forest) → tree_count trees ≡ 1 → 1 ≤ node_count trees
some_nodes bare one = absurd (omega (arith, one))
some_nodes (grown node below beside) one = omega arith

module _ (bytes : List ℕ) (game : GameFile) (is : IsAccepted bytes game) where
  -- the tree of an accepted file's game is one tree that keeps the rules, within the limit of nodes
  pub game_tree : IsGameTree game.tree
  game_tree =
      let whole = (stands_for_whole_game bytes game is.readable.stands).0 in
      record { tree = whole.tree; rules = whole.together.rules; limit = whole.together.limit }

  -- the sum of an accepted file's game is in lowest terms, and no part of it is past the limit
  sum_fits : FractionFits most (game_sum (tables_of game) game.tree)
  sum_fits =
      let tables : Tables = tables_of game in
      let given : GameWeights = weights_of_game tables game.tree in
      let low : AreFractions tables =
      tables_lowest game (stands_for_whole_game bytes game is.readable.stands).1 in
      let none = (number_first tables game.tree low).none.1 is.numbers in
      let weighed : weigh game ≡ Ok given = ap (λ o. refused_or o given) none in
      let parts = and_parts (nat_le (unsigned_abs given.sum.num) most) (nat_le given.sum.den most)
      (fitting game given low weighed).sum_fits in
      record {
        lowest = All-head IsInLowestTerms given.sum (all_expected tables game.tree) (fractions-lowest tables game.tree low);
        num = leb-true (unsigned_abs given.sum.num) most parts.0;
        den = leb-true given.sum.den most parts.1;
      }

  -- the head of an accepted file's game fits, with settings in their ranges
  pub head_fits : (settings : Settings) (workers : Option ℕ) → InRange settings workers → HeadFits (game_head game settings)
  head_fits settings workers range =
      let tree = game_tree in
      let sound = (accepted_games_sound bytes game is).numbers in
      let one = form_numbers_as_the_tree game.tree tree One refl in
      let two = form_numbers_as_the_tree game.tree tree Two refl in
      let leaves = has_leaf game.tree tree.tree.children (omega (arith, tree.tree.one))
      (have_children (prefix game.tree) tree.rules) in
      record {
        nodes = (some_nodes game.tree tree.tree.one, tree.limit);
        leaves = (leaves, omega (arith, tree.limit, count_by-le-length is_leaf_node (prefix game.tree)));
        sets_one = omega (arith, one.few_sets, tree.limit);
        sets_two = omega (arith, two.few_sets, tree.limit);
        sequences_one = (omega arith, omega (arith, one.few_sequences, tree.limit));
        sequences_two = (omega arith, omega (arith, two.few_sequences, tree.limit));
        unit = (some_unit bytes game is.readable.stands, sound.unit_within);
        sum = sum_fits;
        mass = sound.mass_within;
        rounds = range.few_rounds;
        every = (range.some_every, range.small_every);
        scale = (range.some_scale, range.small_scale);
      }
