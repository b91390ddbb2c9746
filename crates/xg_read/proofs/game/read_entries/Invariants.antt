use Rattle.std.proofs.Common.{◌≡◌, ◌-◌, false}
use Rattle.def_file.specs.Reading.{entries_from}
use Rattle.xg_read.proofs.game.read_entries.Given as goal

-- what is read of all entries is what is read from here on
abbrev pub invariant-entries : goal.invariant-entries
invariant-entries l = record {
  unspent : l.maker.spent ≡ false;
  prologue : l.maker.prologue ≡ l.fn.maker.prologue;
  whole : l.reader.whole ≡ l.fn.reader.whole;
  rest : entries_from l.most l.fn.maker.contents l.fn.reader.whole l.fn.reader.at
      ≡ entries_from (l.most - l.counter) l.maker.contents l.fn.reader.whole l.reader.at;
}
