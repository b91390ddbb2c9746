use Rattle.std.proofs.Common.{length, ap, sym, ◌∙◌, arith}
use Rattle.std.proofs.lemmas.Result.{on_ok_weaker}
use Rattle.xg_game.proofs.ZipLemmas.{zip-length, named}
use Rattle.xg_game.proofs.table.NumberTable.name.Goals as goal

pub index_mut-requires : goal.index_mut-requires
index_mut-requires g c =
    let long = sym (zip-length c.self.inside.numbers c.self.inside.known.items c.self.invariant) ∙ ap length c.self.view_is in
    omega (arith, long, c.requires, c.self.invariant)

pub returns-clause-ok : goal.returns-clause-ok
returns-clause-ok g c e at =
    on_ok_weaker c.keep_name.result (λ kept.
    named c.self.inside.numbers c.self.inside.known.items c.args.self.now c.args.i e c.index_mut.result.now c.args.name.now c.keep_name.new.kept c.self.view_is
    c.index_mut.ensures.value kept at) c.keep_name.ensures.ok
