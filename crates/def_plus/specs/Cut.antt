-- Regrets that are cut at 0: a negative one is forgotten (regret matching plus, Tammelin 2014).
use Rattle.std.specs.Prelude.{ℤ, pos, List, map}
use Rattle.std.specs.Int.{int_max}

-- each regret, or 0 where that is greater
abbrev pub cut : List ℤ → List ℤ
cut regrets = map (int_max (pos 0)) regrets
