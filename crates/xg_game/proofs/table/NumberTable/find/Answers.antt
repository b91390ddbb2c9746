use Rattle.std.proofs.Common.{◌<◌, ℕ, length, position, nat_eq, ap, sym, ◌∙◌, subst}
use Rattle.std.specs.Prelude.{IfSome}
use Rattle.std.specs.Map.{keys_of}
use Rattle.std.proofs.lemmas.Map.Made.{keys_of-zip}
use Rattle.xg_game.proofs.ZipLemmas.{zip-length}
use Rattle.xg_game.proofs.table.NumberTable.find.Goals as goal

pub returns-clause-place : goal.returns-clause-place
returns-clause-place g c =
    c.find.ensures.place ∙ ap (position (nat_eq c.args.number)) (sym (keys_of-zip c.self.inside.numbers c.self.inside.known.items c.self.invariant)
    ∙ ap keys_of c.self.view_is)

pub returns-clause-within : goal.returns-clause-within
returns-clause-within g c =
    let long = sym (zip-length c.self.inside.numbers c.self.inside.known.items c.self.invariant) ∙ ap length c.self.view_is in
    subst (λ (n : ℕ). IfSome c.find.result (λ i. i < n)) long c.find.ensures.within
