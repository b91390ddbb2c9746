use Rattle.std.proofs.Common.{◌≡◌, ◌≤◌, ◌+◌, ◌++◌, ◌∷◌, [], ℕ, List, length, get_or, take, sym, ap, ◌∙◌, arith, inl, inr, length-append, Some, None, slice_get}
use Rattle.std.proofs.lemmas.List.{append_assoc, append-nil, length-take, take_all, take_more}
use Rattle.std.proofs.lemmas.Option.{get_or_from_slice_get, slice_get-get_or, slice_get_within}
use Rattle.std.proofs.lemmas.Bool.{cases_lt}
use Rattle.def_tree.specs.Links.{children_of}
use Rattle.def_tree.proofs.Linking.{links_tell_children}
use Rattle.xg_jobs.proofs.LinkedChildren.{child_at}
use Rattle.xg_jobs.proofs.cutting.push_children.Goals as goal

pub loop-next-init : goal.loop-next-init
loop-next-init c = (
  0,
  sym (append-nil c.args.jobs.now.items),
  c.first_child-next.ensures ∙ (links_tell_children c.args.tree.now c.facts.ensures.rules.tree).first_child c.args.k,
)

pub next_sibling-next-requires : goal.next_sibling-next-requires
next_sibling-next-requires c =
    let child = child_at c.args.tree.now c.args.k c.loop-next.invariant.0 c.in-Some.child c.facts.ensures.rules.tree
    c.requires.from_one c.requires.there (sym c.loop-next.invariant.2 ∙ c.in-Some.is) in
    record { from_one = child.from_one; there = child.there }

pub loop-next-smaller : goal.loop-next-smaller
loop-next-smaller c =
    let children : List ℕ = children_of c.args.tree.now c.args.k in
    let put : ℕ = c.loop-next.invariant.0 in
    let low = slice_get_within children put c.in-Some.child (sym c.loop-next.invariant.2 ∙ c.in-Some.is) in
    omega (
      arith,
      low,
      ap length c.loop-next.invariant.1,
      length-append c.args.jobs.now.items (take put children),
      length-take put children,
      ap length c.in_ok-push.ensures.items,
      length-append c.loop-next.jobs.items (c.in-Some.child ∷ []),
    )

pub loop-next-preserved : goal.loop-next-preserved
loop-next-preserved c =
    let children : List ℕ = children_of c.args.tree.now c.args.k in
    let put : ℕ = c.loop-next.invariant.0 in
    let child : ℕ = c.in-Some.child in
    let at : slice_get children put ≡ Some child = sym c.loop-next.invariant.2 ∙ c.in-Some.is in
    let low = slice_get_within children put child at in
    let is = get_or_from_slice_get children put child child at in
    let more = take_more children put child low ∙ ap (λ n. take put children ++ n ∷ []) is in
    let tree = c.facts.ensures.rules.tree in (
      put + 1,
      c.in_ok-push.ensures.items
          ∙ ap (λ xs. xs ++ child ∷ []) c.loop-next.invariant.1
          ∙ append_assoc c.args.jobs.now.items (take put children) (child ∷ [])
          ∙ ap (λ xs. c.args.jobs.now.items ++ xs) (sym more),
      c.next_sibling-next.ensures
          ∙ (child_at c.args.tree.now c.args.k put child tree c.requires.from_one c.requires.there at).next,
    )

-- behind the last place there is nothing
past_all : (xs : List ℕ) (i : ℕ) → slice_get xs i ≡ None → length xs ≤ i
past_all xs i none = elim (cases_lt i (length xs)) [
  | inl low ↦ let no : Some (get_or xs i 0) ≡ None = sym (slice_get-get_or xs i 0 low) ∙ none in cc no
  | inr past ↦ past
]

pub returns : goal.returns
returns c =
    let children : List ℕ = children_of c.args.tree.now c.args.k in
    let put : ℕ = c.loop-next.invariant.0 in
    let past : length children ≤ put = past_all children put (sym c.loop-next.invariant.2 ∙ c.in_default.is) in
    c.loop-next.invariant.1 ∙ ap (λ xs. c.args.jobs.now.items ++ xs) (take_all put children past)
