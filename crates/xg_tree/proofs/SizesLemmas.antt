-- The sizes of sets tell which nodes fit.
use Rattle.std.proofs.Common.{◌≡◌, ℕ, ◌+◌, ◌-◌, ◌<◌, ◌≤◌, max, true, false, cond, List, [], ◌∷◌, ◌++◌, length, get_or, refl, ap, sym, subst, ◌∙◌, arith, inl}
use Rattle.std.proofs.Common.{inr, ◌↔◌, length-append}
use Rattle.std.proofs.lemmas.List.Elements.{All-contains, All-push, Contains-append_left, Contains-push}
use Rattle.std.proofs.lemmas.Bool.{cases_lt, le-ltb, lt-ltb}
use Rattle.std.proofs.Math.ListN.{get_or-append}
use Rattle.std.proofs.Math.Seq.{get_or-append_seam}
use Rattle.def_tree.specs.declared.Kind.{Kind}
use Rattle.def_tree.specs.declared.Kind.TheVariants.{Chance, One, Two, Leaf}
use Rattle.def_tree.specs.declared.Node.{Node}
use Rattle.def_tree.specs.Rules.{is_same_kind, set_count, AgreeOnSize, JoinsSet, Fits, FitsAs}
use Rattle.def_tree.proofs.Sets.{is_same_kind_self, set_count-push_same, set_count-push_other}
use Rattle.xg_tree.specs.Sizes.{SizeLists, JoinsSizes, FitsSizes, FitsSizesAs, noted, with_size, noted_as, HasSize, AreSizes, HoldSizes}

pub joins_set_of_sizes : (kind : Kind) (nodes : List Node) (sizes : List ℕ) (node : Node) → node.kind ≡ kind
    → AreSizes kind nodes sizes → JoinsSizes sizes node.set node.children → JoinsSet nodes node
joins_set_of_sizes kind nodes sizes node is held joins =
    let count : length sizes ≡ set_count kind nodes = held.count in
    let same : set_count node.kind nodes ≡ set_count kind nodes = ap (λ k. set_count k nodes) is in
    let next : node.set ≤ length sizes + 1 = joins.next in
    record {
      counts = joins.counts;
      next = omega arith;
      some = joins.some;
      limit = joins.limit;
      agrees = λ k d there kinds sets.
          let has = held.each k d there (kinds ∙ is) in
          let known : (get_or nodes k d).set ≤ length sizes = has.known in
          let here : node.set ≤ length sizes = omega (arith, sets) in
          sym has.size ∙ ap (λ n. get_or sizes (n - 1) 0) sets ∙ joins.agrees here;
    }

pub joins_sizes_of_set : (kind : Kind) (nodes : List Node) (sizes : List ℕ) (node : Node) → node.kind ≡ kind
    → AreSizes kind nodes sizes → JoinsSet nodes node → JoinsSizes sizes node.set node.children
joins_sizes_of_set kind nodes sizes node is held joins =
    let count : length sizes ≡ set_count kind nodes = held.count in
    let same : set_count node.kind nodes ≡ set_count kind nodes = ap (λ k. set_count k nodes) is in
    let counts : 1 ≤ node.set = joins.counts in
    let next : node.set ≤ set_count node.kind nodes + 1 = joins.next in
    record {
      counts = joins.counts;
      next = omega arith;
      some = joins.some;
      limit = joins.limit;
      agrees = λ here.
          let met = held.met (node.set - 1) (omega arith) in
          let number : met.0.set ≡ node.set - 1 + 1 = met.1.1.1.0 in
          sym met.1.1.1.1 ∙ All-contains (λ earlier. AgreeOnSize earlier node) nodes met.0 joins.agrees met.1.0 (met.1.1.0 ∙ sym is) (omega arith);
    }

fits_as : (kind : Kind) (nodes : List Node) (sizes : SizeLists) (node : Node) → node.kind ≡ kind → HoldSizes nodes sizes
    → FitsSizesAs kind sizes node ↔ FitsAs kind nodes node
fits_as Chance nodes sizes node is held = (
  joins_set_of_sizes Chance nodes sizes.chance node is held.chance,
  joins_sizes_of_set Chance nodes sizes.chance node is held.chance,
)
fits_as One nodes sizes node is held = (joins_set_of_sizes One nodes sizes.one node is held.one, joins_sizes_of_set One nodes sizes.one node is held.one)
fits_as Two nodes sizes node is held = (joins_set_of_sizes Two nodes sizes.two node is held.two, joins_sizes_of_set Two nodes sizes.two node is held.two)
fits_as Leaf nodes sizes node is held = (λ h. h, λ h. h)

-- the sizes tell exactly which nodes keep the rules
pub fits_iff : (nodes : List Node) (sizes : SizeLists) (node : Node) → HoldSizes nodes sizes
    → FitsSizes sizes node ↔ Fits nodes node
fits_iff nodes sizes node held = fits_as node.kind nodes sizes node refl held

-- where there are no nodes yet, there are no sizes of sets
pub no_sizes : (kind : Kind) → AreSizes kind [] []
no_sizes kind = record { count = refl; each = λ k d h. absurd (omega arith); met = λ i h. absurd (omega arith) }

-- a node of another kind leaves the sizes as they are
pub sizes-push_other : (kind : Kind) (nodes : List Node) (sizes : List ℕ) (node : Node)
    → is_same_kind kind node.kind ≡ false → AreSizes kind nodes sizes → AreSizes kind (nodes ++ node ∷ []) sizes
sizes-push_other kind nodes sizes node other held = record {
  count = held.count ∙ sym (set_count-push_other kind nodes node other);
  each = All-push (λ x. x.kind ≡ kind → HasSize sizes x.set x.children) nodes node held.each
      (λ same. let e : true ≡ false = sym (is_same_kind_self kind node.kind same) ∙ other in cc e);
  met = λ i h. let met = held.met i h in (met.0, (Contains-append_left nodes (node ∷ []) met.0 met.1.0, met.1.1));
}

-- one of the kind, in a set that came before
sizes-push_seen : (kind : Kind) (nodes : List Node) (sizes : List ℕ) (node : Node) → node.kind ≡ kind
    → AreSizes kind nodes sizes → JoinsSizes sizes node.set node.children → node.set ≤ length sizes
    → AreSizes kind (nodes ++ node ∷ []) sizes
sizes-push_seen kind nodes sizes node is held joins here =
    let count : length sizes ≡ set_count kind nodes = held.count in
    let more : set_count kind (nodes ++ node ∷ []) ≡ max node.set (set_count kind nodes) = set_count-push_same kind nodes node
    (is_same_kind_self kind node.kind is) in
    record {
      count = omega arith;
      each = All-push (λ x. x.kind ≡ kind → HasSize sizes x.set x.children) nodes node held.each
          (λ same. record { counts = joins.counts; known = here; size = joins.agrees here });
      met = λ i h. let met = held.met i h in (met.0, (Contains-append_left nodes (node ∷ []) met.0 met.1.0, met.1.1));
    }

-- and in a new one
sizes-push_new : (kind : Kind) (nodes : List Node) (sizes : List ℕ) (node : Node) → node.kind ≡ kind
    → AreSizes kind nodes sizes → JoinsSizes sizes node.set node.children → length sizes < node.set
    → AreSizes kind (nodes ++ node ∷ []) (sizes ++ node.children ∷ [])
sizes-push_new kind nodes sizes node is held joins beyond =
    let count : length sizes ≡ set_count kind nodes = held.count in
    let more : set_count kind (nodes ++ node ∷ []) ≡ max node.set (set_count kind nodes) = set_count-push_same kind nodes node
    (is_same_kind_self kind node.kind is) in
    let next : node.set ≤ length sizes + 1 = joins.next in
    let long : length (sizes ++ node.children ∷ []) ≡ length sizes + 1 = length-append sizes (node.children ∷ []) in
    let last : get_or (sizes ++ node.children ∷ []) (length sizes) 0 ≡ node.children = get_or-append_seam sizes node.children [] 0 in
    let number : node.set - 1 ≡ length sizes = omega arith in
    record {
      count = omega arith;
      each = All-push (λ x. x.kind ≡ kind → HasSize (sizes ++ node.children ∷ []) x.set x.children) nodes node
          (λ k d there same.
          let has = held.each k d there same in
          let counts : 1 ≤ (get_or nodes k d).set = has.counts in
          let known : (get_or nodes k d).set ≤ length sizes = has.known in
          record {
            counts = counts;
            known = omega arith;
            size = get_or-append sizes (node.children ∷ []) 0 ((get_or nodes k d).set - 1) (omega arith) ∙ has.size;
          })
          (λ same. record { counts = joins.counts; known = omega arith; size = ap (λ n. get_or (sizes ++ node.children ∷ []) n 0) number ∙ last });
      met = λ i h. elim (cases_lt i (length sizes)) [
        | inr past ↦ let e : i ≡ length sizes = omega arith in
            (node, (Contains-push nodes node, (is, (omega arith, sym (ap (λ n. get_or (sizes ++ node.children ∷ []) n 0) e ∙ last)))))
        | inl before ↦ let met = held.met i before in (
          met.0,
          (
            Contains-append_left nodes (node ∷ []) met.0 met.1.0,
            (met.1.1.0, (met.1.1.1.0, met.1.1.1.1 ∙ sym (get_or-append sizes (node.children ∷ []) 0 i before))),
          ),
        )
      ];
    }

-- one of the kind, in a set that fits
pub sizes-push_same : (kind : Kind) (nodes : List Node) (sizes : List ℕ) (node : Node) → node.kind ≡ kind
    → AreSizes kind nodes sizes → JoinsSizes sizes node.set node.children
    → AreSizes kind (nodes ++ node ∷ []) (noted sizes node.set node.children)
sizes-push_same kind nodes sizes node is held joins = elim (cases_lt (length sizes) node.set) [
  | inl beyond ↦ subst (AreSizes kind (nodes ++ node ∷ [])) (sym (ap (λ b. cond b (sizes ++ node.children ∷ []) sizes) (lt-ltb (length sizes) node.set beyond)))
      (sizes-push_new kind nodes sizes node is held joins beyond)
  | inr here ↦ subst (AreSizes kind (nodes ++ node ∷ [])) (sym (ap (λ b. cond b (sizes ++ node.children ∷ []) sizes) (le-ltb (length sizes) node.set here)))
      (sizes-push_seen kind nodes sizes node is held joins here)
]

push_as : (kind : Kind) (nodes : List Node) (sizes : SizeLists) (node : Node) → node.kind ≡ kind → HoldSizes nodes sizes
    → FitsSizesAs kind sizes node → HoldSizes (nodes ++ node ∷ []) (noted_as kind sizes node)
push_as Chance nodes sizes node is held fits = record {
  chance = sizes-push_same Chance nodes sizes.chance node is held.chance fits;
  one = sizes-push_other One nodes sizes.one node (ap (is_same_kind One) is) held.one;
  two = sizes-push_other Two nodes sizes.two node (ap (is_same_kind Two) is) held.two;
}
push_as One nodes sizes node is held fits = record {
  chance = sizes-push_other Chance nodes sizes.chance node (ap (is_same_kind Chance) is) held.chance;
  one = sizes-push_same One nodes sizes.one node is held.one fits;
  two = sizes-push_other Two nodes sizes.two node (ap (is_same_kind Two) is) held.two;
}
push_as Two nodes sizes node is held fits = record {
  chance = sizes-push_other Chance nodes sizes.chance node (ap (is_same_kind Chance) is) held.chance;
  one = sizes-push_other One nodes sizes.one node (ap (is_same_kind One) is) held.one;
  two = sizes-push_same Two nodes sizes.two node is held.two fits;
}
push_as Leaf nodes sizes node is held fits = record {
  chance = sizes-push_other Chance nodes sizes.chance node (ap (is_same_kind Chance) is) held.chance;
  one = sizes-push_other One nodes sizes.one node (ap (is_same_kind One) is) held.one;
  two = sizes-push_other Two nodes sizes.two node (ap (is_same_kind Two) is) held.two;
}

-- the sizes with that of a node that fits are those of all the nodes
pub HoldSizes-push : (nodes : List Node) (sizes : SizeLists) (node : Node) → HoldSizes nodes sizes → Fits nodes node
    → HoldSizes (nodes ++ node ∷ []) (with_size sizes node)
HoldSizes-push nodes sizes node held fits = push_as node.kind nodes sizes node refl held ((fits_iff nodes sizes node held).1 fits)
