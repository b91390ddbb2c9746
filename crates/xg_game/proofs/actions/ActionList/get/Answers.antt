use Rattle.std.proofs.Common.{◌≡◌, ◌-◌, ℕ, List, length, slice_get, ap, sym, ◌∙◌, arith}
use Rattle.def_file.specs.Content as content
use Rattle.xg_game.proofs.ActionLemmas.{get_part, length_part}
use Rattle.xg_game.proofs.actions.ActionList.get.Goals as goal

pub returns : goal.returns
returns c =
    let all : List content.Action = c.self.inside.all.now in
    let start : ℕ = c.self.inside.start in
    let end : ℕ = c.self.inside.end in
    let long : length c.args.self.now ≡ end - start =
    sym (ap (length {A = content.Action}) c.self.view_is) ∙ length_part all start end c.self.invariant.0 c.self.invariant.1 in
    ap (λ (xs : List content.Action). slice_get xs c.args.i) (sym c.self.view_is)
    ∙ get_part all start end c.args.i (omega (arith, long, c.requires))
    ∙ c.get.ensures
