use Rattle.std.proofs.Common.{ℕ, List, Option, [], ◌∷◌, ◌++◌, length, position, nat_eq, ap, sym, ◌∙◌, arith}
use Rattle.std.specs.Map.{keys_of}
use Rattle.std.proofs.lemmas.Map.Made.{keys_of-zip}
use Rattle.xg_game.proofs.ZipLemmas.{zip-length, pushed}
use Rattle.xg_game.proofs.table.NumberTable.push.Goals as goal

pub push-requires-clause-new : goal.push-requires-clause-new
push-requires-clause-new g c =
    ap (position (nat_eq c.args.number)) (sym (keys_of-zip c.self.inside.numbers c.self.inside.known.items c.self.invariant) ∙ ap keys_of c.self.view_is)
    ∙ c.requires.new

pub push-requires-clause-room : goal.push-requires-clause-room
push-requires-clause-room g c =
    let long = sym (zip-length c.self.inside.numbers c.self.inside.known.items c.self.invariant) ∙ ap length c.self.view_is in
    omega (arith, long, c.requires.room)

pub returns-clause-ok : goal.returns-clause-ok
returns-clause-ok g c =
    pushed c.self.inside.numbers c.push.new.self c.self.inside.known.items c.reserve.new.self.items c.push_reserved.new.self.items c.args.self.now c.args.number
    (record { name = c.in_ok-name.name; value = c.args.value }) c.self.invariant
    c.in_default.ensures.ok c.reserve.ensures.items c.push_reserved.ensures.items c.self.view_is
    ∙ ap (λ (name : Option (List ℕ)). c.args.self.now ++ (c.args.number, record { name = name; value = c.args.value }) ∷ []) c.in_ok-name.ensures
