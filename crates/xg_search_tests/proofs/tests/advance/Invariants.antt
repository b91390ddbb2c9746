use Rattle.xg_search.specs.Searches.{IsSearchOf}
use Rattle.xg_search_tests.proofs.tests.advance.Given as goal

abbrev pub invariant-loop : goal.invariant-loop
invariant-loop l = IsSearchOf l.form l.search
