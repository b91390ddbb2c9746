use Rattle.std.proofs.Common.{List, ℕ, ◌<◌, ◌-◌, ◌∷◌, ◌∙◌, length, take, drop, get_or, slice_get, Some, ap, sym, arith}
use Rattle.xg_game.proofs.TextLemmas.{length-cut_from, text_at}
use Rattle.xg_game.proofs.texts.Texts.get.Goals as goal

pub start_of-requires : goal.start_of-requires
start_of-requires c =
    let ends : List ℕ = c.self.inside.ends.items in
    let bytes : List ℕ = c.self.inside.bytes.items in
    let there : c.args.i < length ends = omega (arith, length-cut_from 0 ends bytes, ap (length {A = List ℕ}) c.self.view_is, c.requires) in
    omega (arith, there, ap (length {A = ℕ}) c.deref-2.ensures.value)

pub index-requires : goal.index-requires
index-requires c =
    let ends : List ℕ = c.self.inside.ends.items in
    let bytes : List ℕ = c.self.inside.bytes.items in
    let there : c.args.i < length ends = omega (arith, length-cut_from 0 ends bytes, ap (length {A = List ℕ}) c.self.view_is, c.requires) in
    omega (arith, there)

pub slice_bounds-result-count : goal.slice_bounds-result-count
slice_bounds-result-count c =
    let ends : List ℕ = c.self.inside.ends.items in
    let bytes : List ℕ = c.self.inside.bytes.items in
    let there : c.args.i < length ends = omega (arith, length-cut_from 0 ends bytes, ap (length {A = List ℕ}) c.self.view_is, c.requires) in
    let text = text_at 0 ends bytes c.args.i c.start_of.result c.index.result.now c.self.invariant there
    (c.start_of.ensures ∙ ap (λ (ns : List ℕ). get_or (0 ∷ ns) c.args.i 0) c.deref-2.ensures.value) c.index.ensures in
    text.rise

pub slice_bounds-result-start : goal.slice_bounds-result-start
slice_bounds-result-start c =
    let ends : List ℕ = c.self.inside.ends.items in
    let bytes : List ℕ = c.self.inside.bytes.items in
    let there : c.args.i < length ends = omega (arith, length-cut_from 0 ends bytes, ap (length {A = List ℕ}) c.self.view_is, c.requires) in
    let text = text_at 0 ends bytes c.args.i c.start_of.result c.index.result.now c.self.invariant there
    (c.start_of.ensures ∙ ap (λ (ns : List ℕ). get_or (0 ∷ ns) c.args.i 0) c.deref-2.ensures.value) c.index.ensures in
    text.rise

pub slice_bounds-result-end : goal.slice_bounds-result-end
slice_bounds-result-end c =
    let ends : List ℕ = c.self.inside.ends.items in
    let bytes : List ℕ = c.self.inside.bytes.items in
    let there : c.args.i < length ends = omega (arith, length-cut_from 0 ends bytes, ap (length {A = List ℕ}) c.self.view_is, c.requires) in
    let text = text_at 0 ends bytes c.args.i c.start_of.result c.index.result.now c.self.invariant there
    (c.start_of.ensures ∙ ap (λ (ns : List ℕ). get_or (0 ∷ ns) c.args.i 0) c.deref-2.ensures.value) c.index.ensures in
    rw c.deref.ensures.value text.within

pub returns : goal.returns
returns c =
    let ends : List ℕ = c.self.inside.ends.items in
    let bytes : List ℕ = c.self.inside.bytes.items in
    let there : c.args.i < length ends = omega (arith, length-cut_from 0 ends bytes, ap (length {A = List ℕ}) c.self.view_is, c.requires) in
    let text = text_at 0 ends bytes c.args.i c.start_of.result c.index.result.now c.self.invariant there
    (c.start_of.ensures ∙ ap (λ (ns : List ℕ). get_or (0 ∷ ns) c.args.i 0) c.deref-2.ensures.value) c.index.ensures in
    ap (λ (ts : List (List ℕ)). slice_get ts c.args.i) (sym c.self.view_is) ∙ text.text
    ∙ ap Some (ap (λ (bs : List ℕ). take (c.index.result.now - c.start_of.result) (drop c.start_of.result bs)) (sym c.deref.ensures.value))
