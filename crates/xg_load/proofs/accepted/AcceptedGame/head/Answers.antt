use Rattle.std.proofs.Common.{◌∙◌, ap}
use Rattle.def_file.specs.Content.{GameFile}
use Rattle.def_plan.specs.Weighed.{WeighedGame}
use Rattle.def_program.specs.Text.{game_head}
use Rattle.xg_engine.specs.State.{head_with}
use Rattle.xg_load.proofs.Heads.{run_head_is}
use Rattle.xg_load.proofs.accepted.AcceptedGame.head.Goals as goal

pub returns : goal.returns
returns c =
    let settings = c.args.settings in
    c.head_with.ensures.exact
    ∙ ap (λ (numbers : WeighedGame). head_with numbers settings) c.self.invariant.0
    ∙ run_head_is c.self.inside.game settings
    ∙ ap (λ (game : GameFile). game_head game settings) c.self.view_is
