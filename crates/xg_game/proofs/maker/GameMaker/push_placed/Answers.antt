use Rattle.std.proofs.Common.{◌≡◌, None, sym, subst, ◌∙◌}
use Rattle.def_file.specs.Adding.{with_record}
use Rattle.def_file.specs.Faults.{record_fault}
use Rattle.def_file.specs.Game.{AreTogether}
use Rattle.xg_record.specs.Entry.{entry_seen}
use Rattle.def_file.proofs.TablesGoWithNodes.{together_with}
use Rattle.xg_io.proofs.ResultCases.{without_err}
use Rattle.xg_game.proofs.maker.GameMaker.push_placed.Goals as goal

pub invariant_of-self-else-is_err : goal.invariant_of-self-else-is_err
invariant_of-self-else-is_err c unspent =
    let none : record_fault c.self.inside.tables (entry_seen c.args.entry.now) ≡ None = sym c.fault.ensures ∙ c.in_default.is in
    let kept : c.keep.new.self ≡ with_record c.self.inside.tables (entry_seen c.args.entry.now) =
    without_err c.keep.result (sym c.is_err.ensures.value ∙ c.if-is_err.false) c.keep.ensures in
    subst AreTogether (sym kept) (together_with c.self.inside.tables (entry_seen c.args.entry.now) (c.self.invariant unspent) none)
