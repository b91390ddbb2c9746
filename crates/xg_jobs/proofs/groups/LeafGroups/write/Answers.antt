use Rattle.std.proofs.Common.{map, sym, ap, ◌∙◌}
use Rattle.xg_jobs.specs.Entries.{leaves_of_group, small_leaf, tiny_leaf, wide_leaf}
use Rattle.xg_jobs.proofs.FormRows.{can_write}
use Rattle.xg_jobs.proofs.groups.LeafGroups.write.Goals as goal

pub write_rows-requires-clause-can : goal.write_rows-requires-clause-can
write_rows-requires-clause-can g c κs within =
    can_write c.self.invariant.0 c.self.view_is c.requires.groups c.facts.ensures.sequences c.deref-starts.ensures.value
    (ap (map tiny_leaf) c.deref.ensures.value ∙ sym (ap leaves_of_group c.in-Tiny.is)) c.requires.room

pub write_rows-requires-in-Small-clause-can : goal.write_rows-requires-in-Small-clause-can
write_rows-requires-in-Small-clause-can g c κs within =
    can_write c.self.invariant.0 c.self.view_is c.requires.groups c.facts.ensures.sequences c.deref-starts.ensures.value
    (ap (map small_leaf) c.deref-in-Small.ensures.value ∙ sym (ap leaves_of_group c.in-Small.is)) c.requires.room

pub write_rows-requires-in-Wide-clause-can : goal.write_rows-requires-in-Wide-clause-can
write_rows-requires-in-Wide-clause-can g c κs within =
    can_write c.self.invariant.0 c.self.view_is c.requires.groups c.facts.ensures.sequences c.deref-starts.ensures.value
    (ap (map wide_leaf) c.deref-in-Wide.ensures.value ∙ sym (ap leaves_of_group c.in-Wide.is)) c.requires.room
