use Rattle.std.proofs.Common.{[], ◌∷◌, sym, subst, arith}
use Rattle.xg_gen.specs.declared.entries.Entry.{Entry}
use Rattle.xg_gen.specs.Described.{IsNumbered, record_of}
use Rattle.xg_gen.specs.Taken.{GainsEntries, Takes}
use Rattle.xg_gen.proofs.EntriesInOrder.{none_left, numbered_at, records_left}
use Rattle.xg_gen.proofs.EntriesTakenInPieces.{all_taken, goes_on, next_takes}
use Rattle.xg_gen.proofs.entries.put_all.Goals as goal

pub put_entry-requires-clause-numbered : goal.put_entry-requires-clause-numbered
put_entry-requires-clause-numbered c =
    subst IsNumbered (sym c.index-entries-i.is) (numbered_at c.args.entries.now c.entries.i _ c.entries-test.true c.requires.numbered)

pub put_entry-requires-clause-takes : goal.put_entry-requires-clause-takes
put_entry-requires-clause-takes c =
    subst (λ (e : Entry). Takes c.entries.maker (record_of e ∷ [])) (sym c.index-entries-i.is)
    (next_takes _ _ _ _ _ _ c.entries.invariant (records_left c.args.entries.now c.entries.i _ c.entries-test.true))

pub entries-preserved : goal.entries-preserved
entries-preserved c =
    goes_on _ _ _ _ _ _ _ c.entries.invariant (records_left c.args.entries.now c.entries.i _ c.entries-test.true)
    (subst (λ (e : Entry). GainsEntries c.entries.maker c.put_entry.new.maker (record_of e ∷ [])) c.index-entries-i.is c.in_ok-put_entry.ensures)

pub returns : goal.returns
returns c = all_taken _ _ _ _ c.entries.invariant (none_left c.args.entries.now c.entries.i (omega (arith, c.entries-test.false)))
