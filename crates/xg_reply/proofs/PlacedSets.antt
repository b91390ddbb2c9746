-- What a form tells of a set, for the set in its place.
use Rattle.std.proofs.Common.{◌≡◌, ℕ, ◌+◌, ◌-◌, ◌<◌, ◌≤◌, List, [], ◌∷◌, length, get_or, take, drop}
use Rattle.std.proofs.Common.{Some, slice_get, ap, sym, arith, take-append-drop}
use Rattle.std.proofs.lemmas.List.{take_more}
use Rattle.std.proofs.lemmas.List.Elements.{All-get_or}
use Rattle.std.proofs.lemmas.Option.{get_or_from_slice_get}
use Rattle.def_sums.proofs.SumLaws.{nat_sum_over-append}
use Rattle.def_plan.specs.Form.{AreInOrder, InformationSet, IsInOrder, PlacedSet, placed, sequence_count}
use Rattle.def_plan.proofs.BadSets.{length-placed}
use Rattle.def_plan.proofs.Places.{total_actions, numbered}
use Rattle.xg_reply.specs.Replies.{placed_set}

module _ (sets : List InformationSet) (set : ℕ) (from_one : 1 ≤ set) (there : set ≤ length sets) where
  abbrev none : PlacedSet
  none = record { first = 0; before = 0; actions = 0 }

  abbrev g : InformationSet
  g = get_or sets (set - 1) (record { before = 0; actions = 0 })

  abbrev h : PlacedSet
  h = placed_set sets set

  low : set - 1 < length sets
  low = omega arith

  placed_low : set - 1 < length (placed sets)
  placed_low = omega (arith, length-placed 1 sets)

  -- where the set stands among all sets
  is_numbered : h ≡ record { first = 1 + total_actions (take (set - 1) sets); before = g.before; actions = g.actions }
  is_numbered = numbered.each_set sets (set - 1) none (record { before = 0; actions = 0 }) low

  -- the place that a form tells is the set's
  pub place_is : (p : PlacedSet) → slice_get (placed sets) (set - 1) ≡ Some p → p ≡ h
  place_is p is = sym (get_or_from_slice_get (placed sets) (set - 1) p none is)

  -- a set's sequences are among all sequences
  pub sequences_there : h.first + h.actions ≤ sequence_count sets
  sequences_there =
      omega (
        arith,
        ap (λ (p : PlacedSet). p.first) is_numbered,
        ap (λ (p : PlacedSet). p.actions) is_numbered,
        ap total_actions (take_more sets (set - 1) (record { before = 0; actions = 0 }) low),
        nat_sum_over-append (λ (s : InformationSet). s.actions) (take (set - 1) sets) (g ∷ []),
        ap total_actions (take-append-drop (set - 1 + 1) sets),
        nat_sum_over-append (λ (s : InformationSet). s.actions) (take (set - 1 + 1) sets) (drop (set - 1 + 1) sets),
      )

  -- a set has an action, and the sequence before it is an earlier one
  pub in_order : AreInOrder sets → IsInOrder h
  in_order order = All-get_or IsInOrder (placed sets) (set - 1) none placed_low order
