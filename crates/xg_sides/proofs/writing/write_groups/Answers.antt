use Rattle.std.proofs.Common.{map, refl, sym, ap, ◌∙◌}
use Rattle.xg_jobs.specs.Entries.{leaves_of_group, small_leaf, tiny_leaf, wide_leaf}
use Rattle.xg_sides.proofs.Passing.{can_write_alone}
use Rattle.xg_sides.proofs.writing.write_groups.Goals as goal

pub write_alone-requires-clause-can : goal.write_alone-requires-clause-can
write_alone-requires-clause-can g c =
    can_write_alone c.groups.ensures.kept refl (c.groups.ensures.weights ∙ c.requires.table.weights_are) c.facts.ensures.sequences refl
    (ap (map tiny_leaf) c.deref.ensures.value ∙ sym (ap leaves_of_group c.in-Tiny.is)) c.requires.room

pub write_alone-requires-in-Small-clause-can : goal.write_alone-requires-in-Small-clause-can
write_alone-requires-in-Small-clause-can g c =
    can_write_alone c.groups.ensures.kept refl (c.groups.ensures.weights ∙ c.requires.table.weights_are) c.facts.ensures.sequences refl
    (ap (map small_leaf) c.deref-in-Small.ensures.value ∙ sym (ap leaves_of_group c.in-Small.is)) c.requires.room

pub write_alone-requires-in-Wide-clause-can : goal.write_alone-requires-in-Wide-clause-can
write_alone-requires-in-Wide-clause-can g c =
    can_write_alone c.groups.ensures.kept refl (c.groups.ensures.weights ∙ c.requires.table.weights_are) c.facts.ensures.sequences refl
    (ap (map wide_leaf) c.deref-in-Wide.ensures.value ∙ sym (ap leaves_of_group c.in-Wide.is)) c.requires.room
