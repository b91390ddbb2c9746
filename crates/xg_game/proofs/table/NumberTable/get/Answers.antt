use Rattle.std.proofs.Common.{length, slice_get, Some, ap, sym, ◌∙◌, arith}
use Rattle.std.specs.Map.{values_of}
use Rattle.std.proofs.lemmas.Slice.Zip.{seconds-zip}
use Rattle.std.proofs.lemmas.Option.{slice_get-get_or}
use Rattle.xg_game.proofs.ZipLemmas.{zip-length}
use Rattle.xg_game.proofs.table.NumberTable.get.Goals as goal

pub index-requires : goal.index-requires
index-requires g c =
    let long = sym (zip-length c.self.inside.numbers c.self.inside.known.items c.self.invariant) ∙ ap length c.self.view_is in
    omega (arith, long, c.requires, c.self.invariant)

pub returns : goal.returns
returns g c =
    let long = sym (zip-length c.self.inside.numbers c.self.inside.known.items c.self.invariant) ∙ ap length c.self.view_is in
    ap (λ ks. slice_get ks c.args.i) (ap values_of (sym c.self.view_is) ∙ seconds-zip c.self.inside.numbers c.self.inside.known.items c.self.invariant)
    ∙ slice_get-get_or c.self.inside.known.items c.args.i c.index.result.now (omega (arith, long, c.requires, c.self.invariant))
    ∙ ap Some (sym c.index.ensures)
