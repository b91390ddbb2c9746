-- A test of the order of sets, for sets that are written out.
use Rattle.std.proofs.Common.{◌≡◌, ℕ, ◌+◌, Bool, true, ◌&&◌, leb, ltb, List, [], ◌∷◌, All, leb-true, ltb-true}
use Rattle.std.proofs.lemmas.Bool.{and_parts}
use Rattle.std.proofs.lemmas.List.Elements.{All-cons, All-nil}
use Rattle.def_plan.specs.Form.{InformationSet, PlacedSet, placed_from, IsInOrder, AreInOrder}

abbrev pub in_order_from : ℕ → List InformationSet → Bool
in_order_from first [] = true
in_order_from first (h ∷ hs) = (leb 1 h.actions && ltb h.before first) && in_order_from (first + h.actions) hs

tested : (first : ℕ) (hs : List InformationSet) → in_order_from first hs ≡ true → All IsInOrder (placed_from first hs)
tested first [] e = All-nil IsInOrder
tested first (h ∷ hs) e =
    let here : PlacedSet = record { first = first; before = h.before; actions = h.actions } in
    let parts = and_parts (leb 1 h.actions && ltb h.before first) (in_order_from (first + h.actions) hs) e in
    let both = and_parts (leb 1 h.actions) (ltb h.before first) parts.0 in
    All-cons IsInOrder here (placed_from (first + h.actions) hs) (leb-true 1 h.actions both.0, ltb-true h.before first both.1)
    (tested (first + h.actions) hs parts.1)

-- sets that pass the test are in order
pub in_order-tested : (sets : List InformationSet) → in_order_from 1 sets ≡ true → AreInOrder sets
in_order-tested sets e = tested 1 sets e
