use Rattle.std.proofs.Common.{rules, ◌≡◌, ◌+◌, ◌-◌, ◌≤◌, List, [], ◌∷◌, ◌++◌, length, ap, ◌∙◌, arith, length-append}
use Rattle.xg_tree.specs.declared.links.Links.{Links}
use Rattle.xg_tree.specs.Linked.{link_numbers, links_at, next_place, with_next}
use Rattle.xg_tree.proofs.LinkedLemmas.{place_low, previous_low, length-with_next, put_is, told_front}
use Rattle.xg_tree.proofs.links.put_next.Goals as goal

pub links_at-to_come-requires : goal.links_at-to_come-requires
links_at-to_come-requires c =
    let links : List Links = c.args.links.now.items in
    let low : (next_place links).parent ≤ length links = place_low links c.requires.ordered in
    omega (arith, ap (λ p. p.parent) (c.next_place-place.ensures ∙ ap next_place c.deref.ensures.value), ap length c.deref-2.ensures.value)

pub set_next-requires : goal.set_next-requires
set_next-requires c =
    let links : List Links = c.args.links.now.items in
    let x : Links = link_numbers c.next_place-place.result.parent c.first_below.result c.args.children in
    let low : (next_place links).previous ≤ length links = previous_low links c.requires.ordered in
    let pushed : c.push_reserved.new.self.items ≡ links ++ x ∷ [] = search rules in
    omega (arith, ap (λ p. p.previous) (c.next_place-place.ensures ∙ ap next_place c.deref.ensures.value), ap length pushed, length-append links (x ∷ []))

pub set_next-requires-2 : goal.set_next-requires-2
set_next-requires-2 c =
    let links : List Links = c.args.links.now.items in
    let x : Links = link_numbers c.next_place-place.result.parent c.first_below.result c.args.children in
    let low : (next_place links).parent ≤ length links = place_low links c.requires.ordered in
    let pushed : c.push_reserved.new.self.items ≡ links ++ x ∷ [] = search rules in
    omega (
      arith,
      ap (λ p. p.parent) (c.next_place-place.ensures ∙ ap next_place c.deref.ensures.value),
      ap length pushed,
      length-append links (x ∷ []),
      ap length c.set_next.ensures,
      length-with_next c.push_reserved.new.self.items c.next_place-place.result.previous (c.len.result + 1),
    )

pub returns : goal.returns
returns c =
    let links : List Links = c.args.links.now.items in
    let place = c.next_place-place.result in
    let x : Links = link_numbers place.parent c.first_below.result c.args.children in
    let pushed : c.push_reserved.new.self.items ≡ links ++ x ∷ [] = search rules in
    let is : place ≡ next_place links = c.next_place-place.ensures ∙ ap next_place c.deref.ensures.value in
    let parent_low : (next_place links).parent ≤ length links = place_low links c.requires.ordered in
    let before_low : (next_place links).previous ≤ length links = previous_low links c.requires.ordered in
    let to_come : c.saturating_sub.result ≡ (links_at links place.parent).next_sibling - 1 =
    c.saturating_sub.ensures ∙ ap (λ l. l.next_sibling - 1) (c.links_at-to_come.ensures ∙ ap (λ l. links_at l place.parent) c.deref-2.ensures.value)
    in let count : c.len.result ≡ length links = c.len.ensures ∙ c.args.links.now.ok.0 in
    c.set_next-2.ensures ∙ ap (λ l. with_next l place.parent c.saturating_sub.result)
    (c.set_next.ensures ∙ ap (λ l. with_next l place.previous (c.len.result + 1)) pushed)
    ∙ told_front links x place.previous (c.len.result + 1) place.parent c.saturating_sub.result (omega (arith, ap (λ p. p.previous) is))
    (omega (arith, ap (λ p. p.parent) is))
    ∙ put_is links place c.len.result c.first_below.result c.saturating_sub.result c.args.children is count c.first_below.ensures to_come
