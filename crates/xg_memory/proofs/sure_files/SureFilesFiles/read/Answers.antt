use Rattle.std.proofs.Common.{List, Some, ap, sym, ◌∙◌}
use Rattle.xg_memory.specs.declared.stored.Stored.{Stored}
use Rattle.xg_memory.specs.Stored.{sure_bytes_at}
use Rattle.xg_memory.proofs.FilesInMemory.{reads_on, reads_none}
use Rattle.xg_memory.proofs.sure_files.SureFilesFiles.read.Goals as goal

pub returns-clause-bytes : goal.returns-clause-bytes
returns-clause-bytes c = reads_on (λ place. Some (sure_bytes_at c.args.self.now.files.items place)) c.args.self.now.current c.in-Some.place
    c.args.self.now.taken c.copy_front-n.result c.bytes_at-bytes.result.now c.from_place.result.now _ c.in-Some.is
    (ap Some (ap (λ (files : List Stored). sure_bytes_at files c.in-Some.place) (sym c.as_slice.ensures.value) ∙ sym c.bytes_at-bytes.ensures))
    c.from_place.ensures c.copy_front-n.ensures.copied

pub returns-clause-end : goal.returns-clause-end
returns-clause-end c = reads_none (λ place. Some (sure_bytes_at c.args.self.now.files.items place)) c.args.self.now.current c.in-Some.place
    c.args.self.now.taken c.copy_front-n.result _ c.bytes_at-bytes.result.now c.from_place.result.now c.in-Some.is
    (ap Some (ap (λ (files : List Stored). sure_bytes_at files c.in-Some.place) (sym c.as_slice.ensures.value) ∙ sym c.bytes_at-bytes.ensures))
    c.from_place.ensures c.copy_front-n.ensures.count c.requires.room
