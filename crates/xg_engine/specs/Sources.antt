-- What a run asks of the source of its rows.
use Rattle.std.specs.Borrow.{RattleType}
use Rattle.std.specs.Thread.{IsSync}
use Rattle.xg_jobs.specs.Table.{Serves}
use Rattle.xg_jobs.specs.declared.maker.RowMaker as makers
use Rattle.xg_engine.specs.Players.{IsSoundForm}
use Rattle.xg_engine.specs.declared.source.RowSource.{RowSource}

-- threads may share the runtime, the maker can make rows, and the table has what the maker asks for of the form
pub record CanMakeRows (Rt : RattleType) {M : Type 0} (members : makers.Ghosts M)
    (source : RowSource Rt.Denot M) : Type 0 where
  pub sync : IsSync Rt
  pub can : members.can_make source.maker.now
  pub table : Serves (members.by_packets source.maker.now) source.form.now source.jobs.now
  pub form : IsSoundForm source.form.now
