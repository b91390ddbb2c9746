use Rattle.std.proofs.Common.{◌≡◌, ◌≤◌}
use Rattle.std.specs.Prelude.{IsTrue}
use Rattle.xg_io.specs.Calls.{sink_call}
use Rattle.xg_search.specs.Searches.{IsSearchOf}
use Rattle.xg_close_run.specs.Said.{SaysProgress}
use Rattle.xg_close_run.specs.Searched.{IsTrueOf}
use Rattle.xg_close_run.proofs.searching.search_on.Given as goal

abbrev pub invariant-loop-left : goal.invariant-loop-left
invariant-loop-left g l = record {
  search : IsSearchOf l.game.form.now l.search;
  few : l.left ≤ l.asked.rounds;
  said : SaysProgress (IsTrueOf l.game l.asked.width) l.asked.quiet l.is_heard (sink_call g.E.Sink l.fn.err l.err);
  quiet : IsTrue l.asked.quiet → l.err ≡ l.fn.err;
}

abbrev pub decreases-loop-left : goal.decreases-loop-left
decreases-loop-left g l = l.left
