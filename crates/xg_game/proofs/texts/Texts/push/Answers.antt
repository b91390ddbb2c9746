use Rattle.std.proofs.Common.{List, ℕ, ◌+◌, [], ◌∷◌, ◌++◌, ◌∙◌, length, ap, arith}
use Rattle.xg_game.proofs.TextLemmas.{put_last}
use Rattle.xg_game.proofs.texts.Texts.push.Goals as goal

pub invariant_of-self-2 : goal.invariant_of-self-2
invariant_of-self-2 c =
    let put = put_last c.self.inside.ends.items c.self.inside.bytes.items c.args.text.now c.push_reserved.new.self.items c.extend.new.bytes.items
    (c.len.result + length c.args.text.now) c.self.invariant (omega (arith, c.len.ensures)) c.in_ok-extend.ensures.ok
    (c.push_reserved.ensures.items ∙ ap (λ (ns : List ℕ). ns ++ (c.len.result + length c.args.text.now) ∷ []) c.reserve.ensures.items) in
    put.rise

pub returns-clause-ok : goal.returns-clause-ok
returns-clause-ok c =
    let put = put_last c.self.inside.ends.items c.self.inside.bytes.items c.args.text.now c.push_reserved.new.self.items c.extend.new.bytes.items
    (c.len.result + length c.args.text.now) c.self.invariant (omega (arith, c.len.ensures)) c.in_ok-extend.ensures.ok
    (c.push_reserved.ensures.items ∙ ap (λ (ns : List ℕ). ns ++ (c.len.result + length c.args.text.now) ∷ []) c.reserve.ensures.items) in
    put.texts ∙ ap (λ (ts : List (List ℕ)). ts ++ c.args.text.now ∷ []) c.self.view_is
