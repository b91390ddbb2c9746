-- What a game without a fault is.
use Rattle.std.proofs.Common.{◌≡◌, ℕ, ◌≤◌, true, false, cond, List, [], ◌∷◌, ◌++◌, refl, ap, sym, subst, ◌∙◌, arith, None}
use Rattle.std.specs.Prelude.{All, filter, unsigned_abs}
use Rattle.std.proofs.lemmas.List.{append-nil, append_assoc}
use Rattle.std.proofs.lemmas.List.Quantifiers.{Any-push}
use Rattle.std.proofs.lemmas.List.Elements.{All-cons, All-head, All-nil, All-tail}
use Rattle.def_tree.specs.Tree.{Forest}
use Rattle.def_fraction.specs.Fraction.{Fraction, most}
use Rattle.def_game_paths.specs.Paths.{Visit, visits, is_leaf}
use Rattle.def_game_scale.specs.Tables.{Tables, AreFractions, game_sum, paid_together}
use Rattle.def_game_scale.specs.Scale.{game_unit, mass_so_far, sum_so_far, unit_so_far, weight_of}
use Rattle.def_game_scale.proofs.Running.{grows, inner-sum, sum-behind}
use Rattle.def_game_scale.specs.Faults.{game_fault, number_fault}
use Rattle.def_game_scale.specs.First.{PassNumbers, SignsPass, SumsPass}
use Rattle.def_game_scale.specs.FaultLaws.{HasSoundNumbers, IsSound}
use Rattle.def_game_scale.proofs.Walks.{each-all}
use Rattle.def_game_scale.proofs.First.{game_first, number_first}

-- what holds of each node that is a leaf holds of each leaf
leaves-all : (P : Visit → Type 0) (nodes : List Visit) → All (λ v. is_leaf v ≡ true → P v) nodes
    → All P (filter is_leaf nodes)
leaves-all P [] h = All-nil P
leaves-all P (v ∷ rest) h =
    let Holds : Visit → Type 0 = λ w. is_leaf w ≡ true → P w in
    let later = leaves-all P rest (All-tail Holds v rest h) in
    elim (is_leaf v) as (λ b. is_leaf v ≡ b → All P (cond b (v ∷ filter is_leaf rest) (filter is_leaf rest))) [
      | true ↦ λ leaf. All-cons P v (filter is_leaf rest) (All-head Holds v rest h leaf) later
      | false ↦ λ inner. later
    ] refl

-- what only grows at leaves and is within the limit at each of them is so at the end
within_along : (f : List Visit → ℕ)
    → ((before : List Visit) (v : Visit) → is_leaf v ≡ false → f (before ++ (v ∷ [])) ≡ f before)
    → (done rest : List Visit) → f done ≤ most →
    ((before : List Visit) (v : Visit) (after : List Visit) → rest ≡ before ++ (v ∷ after) → is_leaf v ≡ true
    → f ((done ++ before) ++ (v ∷ [])) ≤ most)
    → f (done ++ rest) ≤ most
within_along f inner done [] start each = subst (λ d. f d ≤ most) (sym (append-nil done)) start
within_along f inner done (v ∷ rest) start each =
    let next : f (done ++ (v ∷ [])) ≤ most = elim (is_leaf v) as (λ b. is_leaf v ≡ b → f (done ++ (v ∷ [])) ≤ most) [
      | true ↦ λ leaf. subst (λ d. f (d ++ (v ∷ [])) ≤ most) (append-nil done) (each [] v rest refl leaf)
      | false ↦ λ other. subst (λ m. m ≤ most) (sym (inner done v other)) start
    ] refl in
    subst (λ d. f d ≤ most) (append_assoc done (v ∷ []) rest)
    (within_along f inner (done ++ (v ∷ [])) rest next
    (λ before w after p leaf. subst (λ d. f (d ++ (w ∷ [])) ≤ most) (sym (append_assoc done (v ∷ []) before))
    (each (v ∷ before) w after (ap (λ xs. v ∷ xs) p) leaf)))

-- the sum up to a leaf is that of all nodes
sum-at_leaf : (tables : Tables) (nodes before : List Visit) (v : Visit) (after : List Visit)
    → nodes ≡ before ++ (v ∷ after) → is_leaf v ≡ true
    → sum_so_far tables (before ++ (v ∷ [])) ≡ sum_so_far tables nodes
sum-at_leaf tables nodes before v after p leaf =
    sym (ap (sum_so_far tables) (p ∙ sym (append_assoc before (v ∷ []) after))
    ∙ sum-behind tables (before ++ (v ∷ [])) after (Any-push (λ w. is_leaf w ≡ true) before v leaf))

-- numbers are sound where the tables' fractions are in lowest terms and each node passes each walk over the numbers
pub passing_numbers : (tables : Tables) (tree : Forest) → AreFractions tables → PassNumbers tables tree
    → HasSoundNumbers tables tree
passing_numbers tables tree h numbers =
    let nodes : List Visit = visits tree in
    let unit : ℕ = game_unit tables tree in
    let sum : Fraction = game_sum tables tree in
    let PaysIt : Visit → Type 0 = λ v. paid_together tables v ≡ sum in
    let signs = each-all (SignsPass tables []) nodes numbers.signs in
    let sums = each-all (SumsPass tables []) nodes numbers.sums in
    record {
      chance = λ k d there chance. record { positive = signs k d there chance; total = (sums k d there chance).1 };
      constant_sum = leaves-all PaysIt nodes (each-all (λ v. is_leaf v ≡ true → PaysIt v) nodes
          (λ before v after p leaf. ((numbers.nodes before v after p).leaf leaf).pays_the_sum ∙ sum-at_leaf tables nodes before v after p leaf));
      unit_within =
          within_along (unit_so_far tables) (λ before v other. (grows tables h unit before v).inner_unit other) [] nodes (omega arith)
          (λ before v after p leaf. ((numbers.nodes before v after p).leaf leaf).unit_fits);
      whole_sum_within = within_along (λ vs. unsigned_abs (weight_of unit (sum_so_far tables vs)))
          (λ before v other. ap (λ f. unsigned_abs (weight_of unit f)) (inner-sum tables before v other)) [] nodes (omega arith)
          (λ before v after p leaf. subst (λ f. unsigned_abs (weight_of unit f) ≤ most) (sym (sum-at_leaf tables nodes before v after p leaf))
          (numbers.whole before v after p leaf));
      mass_within = within_along (mass_so_far tables unit) (λ before v other. (grows tables h unit before v).inner_mass other) [] nodes (omega arith)
          (λ before v after p leaf. numbers.masses before v after p leaf);
    }

-- numbers without a fault are probabilities and payoffs of constant sum, with unit, sum and mass within the limit
pub sound_numbers : (tables : Tables) (tree : Forest) → AreFractions tables → number_fault tables tree ≡ None
    → HasSoundNumbers tables tree
sound_numbers tables tree h e = passing_numbers tables tree h ((number_first tables tree h).none.0 e)

-- a game without a fault has sound numbers and perfect recall
pub sound : (tables : Tables) (tree : Forest) → AreFractions tables → game_fault tables tree ≡ None
    → IsSound tables tree
sound tables tree h e = let pass = (game_first tables tree h).none.0 e in record { numbers = passing_numbers tables tree h pass.0; recall = pass.1 }
