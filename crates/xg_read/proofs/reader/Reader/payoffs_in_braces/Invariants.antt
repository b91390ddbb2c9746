use Rattle.std.proofs.Common.{◌≡◌, ◌-◌, [], length}
use Rattle.def_file.specs.Reading.{payoffs_from}
use Rattle.xg_read.proofs.reader.Reader.payoffs_in_braces.Given as goal

-- what is read of all payoffs is what is read from here on
abbrev pub invariant-payoffs : goal.invariant-payoffs
invariant-payoffs l = record {
  whole : l.self.whole ≡ l.fn.self.whole;
  rest : payoffs_from (length l.fn.self.whole) [] l.fn.self.whole l.fn.self.at
      ≡ payoffs_from (length l.fn.self.whole - l.counter) l.payoffs l.fn.self.whole l.self.at;
}
