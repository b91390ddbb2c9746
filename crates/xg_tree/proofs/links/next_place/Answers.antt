use Rattle.std.proofs.Common.{◌≡◌, ◌<◌, ◌≤◌, ap, sym, ◌∙◌, arith, length}
use Rattle.xg_tree.specs.Linked.{links_at, place_from}
use Rattle.xg_tree.proofs.LinkedLemmas.{place-up}
use Rattle.xg_tree.proofs.links.next_place.Goals as goal

pub loop-place-preserved : goal.loop-place-preserved
loop-place-preserved c =
    let links = c.args.links.now in
    let k = c.loop-place.place.parent in
    let within : k ≤ length links = c.loop-place.invariant.within in
    let before : (links_at links k).parent < k = c.requires.ordered k (omega arith) in
    let above : c.links_at-in-loop-place.result.parent ≡ (links_at links k).parent = ap (λ l. l.parent) c.links_at-in-loop-place.ensures in
    let none : (links_at links k).next_sibling ≡ 0 = ap (λ l. l.next_sibling) (sym c.links_at.ensures) ∙ c.if-links_at-eq0.true in
    record {
      within = omega arith;
      going = ap (λ n. place_from (length links) links n k) above
          ∙ sym (place-up (length links) links k c.loop-place.place.previous c.requires.ordered (omega arith) within none) ∙ c.loop-place.invariant.going;
    }
