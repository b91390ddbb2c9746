use Rattle.std.proofs.Common.{◌≡◌, ℕ, ◌-◌, List, [], length}
use Rattle.def_file.specs.Reading.{names_from}
use Rattle.xg_read.specs.Mentions.{AreFirstNames}
use Rattle.xg_read.proofs.reader.Reader.names.Given as goal

-- what is read of all names is what is read from here on, behind those that were read
abbrev pub invariant-names : goal.invariant-names
invariant-names l =
    (done : List (List ℕ)) × (l.self.whole ≡ l.fn.self.whole) × AreFirstNames done l.names.one l.names.two l.names.count × (l.names.count ≡ l.counter)
    × (names_from (length l.fn.self.whole) [] l.fn.self.whole l.fn.self.at ≡ names_from (length l.fn.self.whole - l.counter) done l.fn.self.whole l.self.at)
