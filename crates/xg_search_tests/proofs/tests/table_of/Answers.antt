use Rattle.std.proofs.Common.{◌≡◌, ◌∙◌, ap, subst, sym}
use Rattle.def_plan.specs.Weighed.{WeighedGame}
use Rattle.def_file.specs.Content.{GameFile}
use Rattle.def_game_numbers.specs.Numbers.{tables_of}
use Rattle.def_plan.specs.Form.{SequenceForm}
use Rattle.def_sequence_form.specs.Form.{form_of_game}
use Rattle.xg_jobs.specs.Table.{IsFormOf}
use Rattle.xg_search_tests.proofs.GameFormIsOfTree.{form_of_tree}
use Rattle.xg_search_tests.proofs.tests.table_of.Goals as goal

pub without_rows-requires : goal.without_rows-requires
without_rows-requires c =
    let game : GameFile = c.args.game.now in
    let form_is : c.form.result.now ≡ form_of_game (tables_of game) game.tree =
    c.form.ensures ∙ ap (λ (numbers : WeighedGame). numbers.form) c.requires in
    subst (λ (form : SequenceForm). IsFormOf form c.tree.result.now) (sym form_is)
    (subst (IsFormOf (form_of_game (tables_of game) game.tree)) (sym c.tree.ensures.tree) (form_of_tree (tables_of game) game.tree))
