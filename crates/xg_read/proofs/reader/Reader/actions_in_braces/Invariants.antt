use Rattle.std.proofs.Common.{◌≡◌, ◌-◌, [], length}
use Rattle.def_file.specs.Reading.{actions_from}
use Rattle.xg_read.proofs.reader.Reader.actions_in_braces.Given as goal

-- what is read of all actions is what is read from here on
abbrev pub invariant-actions : goal.invariant-actions
invariant-actions l = record {
  whole : l.self.whole ≡ l.fn.self.whole;
  rest : actions_from l.kind (length l.fn.self.whole) [] l.fn.self.whole l.fn.self.at
      ≡ actions_from l.kind (length l.fn.self.whole - l.counter) l.actions l.fn.self.whole l.self.at;
}
