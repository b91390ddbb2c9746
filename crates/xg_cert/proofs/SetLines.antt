-- The numbers, values and choices of sets, one after another.
use Rattle.std.proofs.Common.{◌≡◌, ℕ, zero, suc, ◌+◌, List, [], ◌∷◌, length, take, drop, get_or, slice_get, slice_index_or, Some, refl, ap, ◌∙◌, ℤ}
use Rattle.std.proofs.lemmas.List.{drop-drop}
use Rattle.def_plan.specs.Form.{InformationSet, PlacedSet, placed_from}
use Rattle.def_reply.specs.Reply.{SetReply, values_of, choices_of}
use Rattle.def_cert_accepted.specs.OfOutcome.{by_sets}

-- there are numbers for each set
pub length-by_sets : (sets : List InformationSet) (numbers : List ℕ) → length (by_sets sets numbers) ≡ length sets
length-by_sets [] numbers = refl
length-by_sets (h ∷ hs) numbers = ap suc (length-by_sets hs (drop h.actions numbers))

-- those of a set begin with its first sequence
pub numbers_of_set : (sets : List InformationSet) (first k : ℕ) (plan : List ℕ) (place : PlacedSet)
    → slice_get (placed_from first sets) k ≡ Some place
    → slice_index_or (by_sets sets (drop first plan)) k [] ≡ take place.actions (drop place.first plan)
numbers_of_set [] first k plan place e = absurd cc
numbers_of_set (h ∷ hs) first zero plan place e =
    let same : record { first = first; before = h.before; actions = h.actions } ≡ place = cc in
    ap (λ (p : PlacedSet). take p.actions (drop p.first plan)) same
numbers_of_set (h ∷ hs) first (suc k) plan place e =
    ap (λ (ns : List ℕ). slice_index_or (by_sets hs ns) k []) (drop-drop h.actions first plan)
    ∙ numbers_of_set hs (first + h.actions) k plan place e

-- a set's reply is its value and its choice
pub reply_at : (rs : List SetReply) (i : ℕ) (value : ℤ) (choice : ℕ) (d : SetReply)
    → slice_get (values_of rs) i ≡ Some value → slice_get (choices_of rs) i ≡ Some choice
    → get_or rs i d ≡ record { value = value; choice = choice }
reply_at [] i value choice d ev ec = absurd cc
reply_at (r ∷ rs) zero value choice d ev ec =
    let v : r.value ≡ value = cc in
    let c : r.choice ≡ choice = cc in
    (λ i. record { value = v i; choice = c i })
reply_at (r ∷ rs) (suc i) value choice d ev ec = reply_at rs i value choice d ev ec
