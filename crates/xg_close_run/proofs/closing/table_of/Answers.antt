use Rattle.std.proofs.Common.{◌≡◌, ◌∙◌, ap, subst, sym}
use Rattle.def_plan.specs.Weighed.{WeighedGame}
use Rattle.def_file.specs.Content.{GameFile}
use Rattle.def_game_numbers.specs.Numbers.{tables_of}
use Rattle.def_plan.specs.Form.{SequenceForm}
use Rattle.def_sequence_form.specs.Form.{form_of_game}
use Rattle.xg_jobs.specs.Table.{IsFormOf}
use Rattle.xg_engine.proofs.GameFormIsOfTree.{form_of_tree}
use Rattle.xg_close_run.proofs.closing.table_of.Goals as goal

pub without_rows-requires : goal.without_rows-requires
without_rows-requires c =
    let game : GameFile = c.args.accepted.now in
    let form_is : c.form.result.now ≡ form_of_game (tables_of game) game.tree =
    c.form.ensures ∙ ap (λ (numbers : WeighedGame). numbers.form) c.numbers.ensures in
    let tree_is : c.tree.result.now ≡ game.tree =
    c.tree.ensures.tree ∙ ap (λ (g : GameFile). g.tree) c.game-game.ensures in
    subst (λ (form : SequenceForm). IsFormOf form c.tree.result.now) (sym form_is)
    (subst (IsFormOf (form_of_game (tables_of game) game.tree)) (sym tree_is) (form_of_tree (tables_of game) game.tree))
