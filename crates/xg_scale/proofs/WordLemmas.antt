-- What an exact answer says in the words of the game.
use Rattle.std.proofs.Common.{◌≡◌, ◌∙◌, length, subst}
use Rattle.std.specs.Prelude.{Result, Ok, Err, IfOk, OnOk}
use Rattle.std.specs.List.{AllZip}
use Rattle.std.proofs.lemmas.Slice.Zip.{AllZip-long}
use Rattle.def_tree.specs.Tree.{leaf_count, prefix}
use Rattle.def_file.specs.declared.FileFault.{FileFault}
use Rattle.def_file.specs.Content.{GameFile}
use Rattle.def_game_paths.specs.Paths.{leaf_visits}
use Rattle.def_game_scale.specs.Tables.{AreFractions}
use Rattle.def_game_scale.specs.Laws.{IsWeightOf}
use Rattle.def_game_scale.specs.First.{PassNumbers}
use Rattle.def_game_scale.specs.FaultLaws.{HasSoundNumbers}
use Rattle.def_game_scale.proofs.Sound.{passing_numbers}
use Rattle.def_game_numbers.specs.Laws.{AreWeights}
use Rattle.def_game_numbers.specs.Numbers.{GameWeights, tables_of, weigh}
use Rattle.def_game_numbers.proofs.Weighing.{weighing}
use Rattle.def_sequence_form.proofs.Leaves.{leaves_counted}
use Rattle.xg_game.specs.declared.fault.Refused.{Refused}
use Rattle.xg_game.specs.declared.fault.Refused.TheVariants.{File}
use Rattle.xg_game.specs.Refusals.{Answers}
use Rattle.xg_scale.specs.Words.{HasNoNumberFault, IsCommonMultiple, IsFirstNumberFault, IsLeastCommonMultiple}

-- the answer that is exact is each that is known
pub answers_known : (r : Result GameWeights Refused) (a b : Result GameWeights FileFault) → Answers r a → a ≡ b
    → Answers r b
answers_known r a b answers same = subst (Answers r) same answers

module _ (game : GameFile) (lowest : AreFractions (tables_of game)) where
  -- a fault that is answered is the first
  pub first_answered : (r : Result GameWeights Refused) (fault : FileFault) → Answers r (weigh game)
      → r ≡ Err (File fault) → IsFirstNumberFault game fault
  first_answered r fault answers is = ((weighing game lowest).refused fault).0 (subst (λ q. Answers q (weigh game)) is answers)

  -- and the first is answered
  pub fault_answered : (r : Result GameWeights Refused) (fault : FileFault) → Answers r (weigh game)
      → IsFirstNumberFault game fault → Answers r (Err fault)
  fault_answered r fault answers first = answers_known r (weigh game) (Err fault) answers (((weighing game lowest).refused fault).1 first)

  -- a game without a fault is answered with its weights
  pub weights_answered : (r : Result GameWeights Refused) (weights : GameWeights) → Answers r (weigh game)
      → PassNumbers (tables_of game) game.tree → AreWeights (tables_of game) game.tree weights → Answers r (Ok weights)
  weights_answered r weights answers passes are = answers_known r (weigh game) (Ok weights) answers (((weighing game lowest).accepted weights).1 (passes, are))

  accepted : (weights : GameWeights) → weigh game ≡ Ok weights
      → PassNumbers (tables_of game) game.tree × AreWeights (tables_of game) game.tree weights
  accepted weights is = ((weighing game lowest).accepted weights).0 is

  -- what is weighed passes each walk
  pub answer_passes : (r : Result GameWeights Refused) → Answers r (weigh game) → OnOk r (HasNoNumberFault game)
  answer_passes (Ok weights) is = (accepted weights is).0
  answer_passes (Err _) is = tt

  -- and has sound numbers
  pub answer_sound : (r : Result GameWeights Refused) → Answers r (weigh game)
      → OnOk r (HasSoundNumbers (tables_of game) game.tree)
  answer_sound (Ok weights) is = passing_numbers (tables_of game) game.tree lowest (accepted weights is).0
  answer_sound (Err _) is = tt

  -- the unit is the least common multiple
  pub answer_unit : (r : Result GameWeights Refused) → Answers r (weigh game)
      → IfOk r (λ weights. IsCommonMultiple game weights.unit)
  answer_unit (Ok weights) is = (accepted weights is).1.multiple
  answer_unit (Err _) is = tt

  -- of all common multiples
  pub answer_least : (r : Result GameWeights Refused) → Answers r (weigh game)
      → IfOk r (λ weights. IsLeastCommonMultiple game weights.unit)
  answer_least (Ok weights) is = (accepted weights is).1.least
  answer_least (Err _) is = tt

  -- each leaf has its weight
  pub answer_leaves : (r : Result GameWeights Refused) → Answers r (weigh game)
      → IfOk r (λ weights. AllZip (IsWeightOf (tables_of game) weights.unit) (leaf_visits game.tree) weights.leaves)
  answer_leaves (Ok weights) is = (accepted weights is).1.leaves
  answer_leaves (Err _) is = tt

  -- and there are as many
  pub answer_count : (r : Result GameWeights Refused) → Answers r (weigh game)
      → IfOk r (λ weights. length weights.leaves ≡ leaf_count (prefix game.tree))
  answer_count (Ok weights) is = AllZip-long (IsWeightOf (tables_of game) weights.unit) (leaf_visits game.tree) weights.leaves (accepted weights is).1.leaves
      ∙ leaves_counted game.tree
  answer_count (Err _) is = tt
