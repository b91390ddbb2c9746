use Rattle.std.proofs.Common.{refl, nat_eq}
use Rattle.std.specs.Cmp.Lexicographic.{pointwise}
use Rattle.std.specs.Option.{option_map}
use Rattle.xg_memory.specs.declared.stored.Stored.{Stored}
use Rattle.xg_memory.proofs.FilesInMemory.{absent, located, in_list}
use Rattle.xg_memory.proofs.stored.find_file.Goals as goal

pub returns-clause-found : goal.returns-clause-found
returns-clause-found c = located (option_map (λ (file : Stored). file.bytes.items)) (λ file. pointwise nat_eq file.name.items c.args.name.now) c.args.files.now
    _ c.position_of.ensures

pub returns-clause-absent : goal.returns-clause-absent
returns-clause-absent c = absent (option_map (λ (file : Stored). file.bytes.items)) (λ file. pointwise nat_eq file.name.items c.args.name.now) c.args.files.now
    _ refl c.position_of.ensures

pub returns-clause-within : goal.returns-clause-within
returns-clause-within c = in_list (λ (file : Stored). pointwise nat_eq file.name.items c.args.name.now) c.args.files.now _ c.position_of.ensures
