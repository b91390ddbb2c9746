-- The leaves of a job, one after the other.
use Rattle.std.proofs.Common.{◌≡◌, ℕ, ◌+◌, ◌-◌, ◌<◌, ◌≤◌, List, [], ◌∷◌, ◌++◌, length, take, drop, All, Some, sym, ap, subst, ◌∙◌, arith, pos}
use Rattle.std.specs.Prelude.{Contains, slice_get, flat_map}
use Rattle.std.proofs.Math.Nat.{add-sub_cancel}
use Rattle.std.proofs.lemmas.Option.{get_or_from_slice_get}
use Rattle.std.proofs.lemmas.List.{take_more, get_or-take, get_or-drop, length-take, length-drop, get_or_default, append_assoc}
use Rattle.std.proofs.lemmas.Grind.{flat_map-append}
use Rattle.def_plan.specs.Form.{SequenceForm, Leaf}
use Rattle.def_history.specs.Ranges.{LeafRange}
use Rattle.def_history.specs.JobRows.{form_leaf, job_leaves}
use Rattle.std.proofs.lemmas.List.Elements.{All-take, All-drop}
use Rattle.xg_seq.specs.Leaves.{HasSequences}
use Rattle.xg_touched.specs.Touched.{both_rows}

-- a leaf by its number, which counts from 1
pub leaf_read : (form : SequenceForm) (before : ℕ) (x : Leaf) → slice_get form.leaves (before + 1 - 1) ≡ Some x
    → form_leaf form before ≡ x
leaf_read form before x e =
    let nothing : Leaf = record { sequence_one = 0; sequence_two = 0; weight = pos 0 } in
    get_or_from_slice_get form.leaves before x nothing (subst (λ k. slice_get form.leaves k ≡ Some x) (add-sub_cancel before 1) e)

-- one more leaf of a job
pub leaves_more : (form : SequenceForm) (first k : ℕ) → first + k < length form.leaves
    → take (k + 1) (drop first form.leaves) ≡ take k (drop first form.leaves) ++ form_leaf form (first + k) ∷ []
leaves_more form first k there =
    let d : Leaf = record { sequence_one = 0; sequence_two = 0; weight = pos 0 } in
    let inside : k < length (drop first form.leaves) = omega (arith, length-drop first form.leaves) in
    take_more (drop first form.leaves) k d inside ∙ ap (λ x. take k (drop first form.leaves) ++ x ∷ []) (get_or-drop first form.leaves k d)

-- both rows of one more leaf
pub both_more : (form : SequenceForm) (first k one two : ℕ) (rows : List ℕ) → first + k < length form.leaves
    → rows ≡ flat_map (both_rows form) (take k (drop first form.leaves))
    → one ∷ two ∷ [] ≡ both_rows form (form_leaf form (first + k))
    → (rows ++ one ∷ []) ++ two ∷ [] ≡ flat_map (both_rows form) (take (k + 1) (drop first form.leaves))
both_more form first k one two rows there before both =
    append_assoc rows (one ∷ []) (two ∷ [])
    ∙ (λ i. before i ++ both i)
    ∙ sym (flat_map-append (both_rows form) (take k (drop first form.leaves)) (form_leaf form (first + k) ∷ []))
    ∙ ap (flat_map (both_rows form)) (sym (leaves_more form first k there))

-- a leaf of a job is among its leaves
pub leaf_there : (form : SequenceForm) (first count k : ℕ) → k < count → first + count ≤ length form.leaves
    → Contains (job_leaves form (record { first = first; count = count })) (form_leaf form (first + k))
leaf_there form first count k low within =
    let x : Leaf = form_leaf form (first + k) in
    let nothing : Leaf = record { sequence_one = 0; sequence_two = 0; weight = pos 0 } in
    let rest = drop first form.leaves in
    let inside : k < length (job_leaves form (record { first = first; count = count })) =
    omega (arith, length-take count rest, length-drop first form.leaves) in
    let default = get_or_default form.leaves (first + k) x nothing (omega arith) in
    (k, inside, get_or-take count rest k x low ∙ get_or-drop first form.leaves k x ∙ default)

-- a job's leaves have sequences of the form
pub job_fits : (form : SequenceForm) (range : LeafRange) → All (HasSequences form) form.leaves
    → All (HasSequences form) (job_leaves form range)
job_fits form range fit = All-take (HasSequences form) range.count (drop range.first form.leaves) (All-drop (HasSequences form) range.first form.leaves fit)
