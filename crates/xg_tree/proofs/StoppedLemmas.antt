-- A visitor that does nothing more once something has stopped it.
use Rattle.std.proofs.Common.{sym, subst, Some, None}
use Rattle.std.specs.Prelude.{Option}
use Rattle.xg_tree.specs.Stopped.{Steps, UnlessStopped}

module _ {S : Type 0} (Stops : S → Type 0) where
  -- it was stopped by this, or it stands so
  abbrev pub OrStopped : Option S → Type 0 → Type 0
  OrStopped (Some stop) Stands = Stops stop
  OrStopped None Stands = Stands

  pub may_step : (stop : Option S) {A B : Type 0} → OrStopped stop A → (A → B) → UnlessStopped stop B
  may_step (Some s) stands may = tt
  may_step None stands may = may stands

  pub stepped : (old new : Option S) {R : S → Type 0} {A G B : Type 0} → OrStopped old A → Steps old new R G
      → ((s : S) → A → R s → Stops s) → (A → G → B) → OrStopped new B
  stepped (Some s) new {R} {A} {G} {B} stands same stops on = subst (λ o. OrStopped o B) (sym same) stands
  stepped None (Some s) stands step stops on = stops s stands step
  stepped None None stands step stops on = on stands step
