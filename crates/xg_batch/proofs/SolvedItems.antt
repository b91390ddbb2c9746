-- What accepting a file and playing its game give together.
use Rattle.std.proofs.Common.{◌≡◌, ℕ, List, Ok, subst, sym}
use Rattle.std.specs.Prelude.{IfSome, IsOkAnd, Result}
use Rattle.def_file.specs.declared.FileFault.{FileFault}
use Rattle.def_file.specs.Content.{GameFile}
use Rattle.def_game_numbers.specs.Weighed.{weighed_game}
use Rattle.def_check.specs.Accepting.{read_as_accepted}
use Rattle.def_batch.specs.Batch.{Kept}
use Rattle.def_command.specs.declared.Settings.{Settings}
use Rattle.def_plan.specs.Weighed.{WeighedGame}
use Rattle.def_cert_accepted.specs.Writable.{IsOutcomeOf}
use Rattle.def_plus.specs.declared.Variant.TheVariants.{Plain}
use Rattle.xg_engine.specs.Left.{IsLeftOf}
use Rattle.xg_engine.specs.State.{EngineState}
use Rattle.xg_batch.specs.Items.{IsItemOf, IsPlayedItem, IsPlayedEngine}
use Rattle.xg_batch.specs.declared.item.Item.{Item}
use Rattle.xg_batch.specs.declared.item.Item.TheVariants.{Solved, Refused}

-- what was played of an accepted game is the item of its file
pub item_of_accepted : (settings : Settings) (bytes : List ℕ) (game : GameFile) (item : Item)
    → read_as_accepted bytes ≡ Ok game → IsPlayedItem settings (weighed_game game) item
    → IsItemOf settings (Kept bytes) item
item_of_accepted settings bytes game (Solved engine) accepts is =
    subst (λ (r : Result GameFile FileFault). IsOkAnd r (λ it. IsPlayedEngine settings (weighed_game it) engine)) (sym accepts) is
item_of_accepted settings bytes game (Refused fault) accepts is = absurd is

-- what a run leaves is what was played
pub played_of_left : (settings : Settings) (game : WeighedGame) (old new : EngineState) → old.game ≡ game
    → new.game ≡ old.game → IsLeftOf Plain old.game settings new → IsPlayedEngine settings game new
played_of_left settings game old new opened same left =
    subst (λ (it : WeighedGame). IsPlayedEngine settings it new) opened (record {
      game_is = same;
      outcome_is = left.outcome;
      writable = subst (λ (it : WeighedGame). IfSome new.outcome (IsOutcomeOf it.form)) (sym same) left.writable;
    })
