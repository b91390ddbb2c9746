use Rattle.std.proofs.Common.{ℕ, List, length, slice_get, ap, sym, ◌∙◌, arith}
use Rattle.std.specs.Map.{keys_of}
use Rattle.std.proofs.lemmas.Map.Made.{keys_of-zip}
use Rattle.xg_game.proofs.ZipLemmas.{zip-length}
use Rattle.xg_game.proofs.table.NumberTable.number.Goals as goal

pub get-requires : goal.get-requires
get-requires g c =
    let long = sym (zip-length c.self.inside.numbers c.self.inside.known.items c.self.invariant) ∙ ap length c.self.view_is in
    omega (arith, long, c.requires)

pub returns : goal.returns
returns g c =
    ap (λ (ns : List ℕ). slice_get ns c.args.i) (ap keys_of (sym c.self.view_is) ∙ keys_of-zip c.self.inside.numbers c.self.inside.known.items c.self.invariant)
    ∙ c.get.ensures
