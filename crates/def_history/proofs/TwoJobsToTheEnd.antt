-- The worked run, step by step.
use Rattle.std.proofs.Common.{◌≡◌, ℕ, List, [], ◌∷◌, ◌++◌, refl, arith}
use Rattle.std.proofs.lemmas.List.Sorted.{IsPermutation-refl, IsPermutation-swap}
use Rattle.std.proofs.lemmas.List.Elements.{All-nil, All-cons}
use Rattle.def_history.specs.Core.{State, Right, Draws, Adds, none, first}
use Rattle.def_history.specs.Worked.{TwoJobsRunToTheEnd}

right : ℕ → ℕ → Right
right job stripe = record { job = job; stripe = stripe }

holding : List ℕ → List Right → List ℕ → List ℕ → State
holding bag rights one two = record { bag = bag; passes = rights ∷ []; histories = one ∷ two ∷ [] }

drawn : (job : ℕ) (bag one two : List ℕ)
    → Draws (holding (job ∷ bag) [] one two) 0 job (holding bag (right job 0 ∷ right job 1 ∷ []) one two)
unfolding right holding
drawn job bag one two = record {
  is_pass = omega arith;
  takes_job = record {
    held_none = refl;
    leaves_bag = IsPermutation-refl (job ∷ bag);
    gets_rights = IsPermutation-refl (right job 0 ∷ right job 1 ∷ []);
  };
  other_passes = refl;
  histories = refl;
}

added_first : (job : ℕ) (bag : List ℕ) (rights : List Right) (one two : List ℕ)
    → Adds (holding bag (right job 0 ∷ rights) one two) 0 job 0 (holding bag rights (one ++ job ∷ []) two)
unfolding right holding
added_first job bag rights one two = record {
  is_pass = omega arith;
  gives_up = record {
    gives_right = IsPermutation-refl (right job 0 ∷ rights);
    joins_history = refl;
  };
  other_passes = refl;
  other_histories = refl;
  bag = refl;
}

added_second : (job : ℕ) (bag one two : List ℕ)
    → Adds (holding bag (right job 1 ∷ []) one two) 0 job 1 (holding bag [] one (two ++ job ∷ []))
unfolding right holding
added_second job bag one two = record {
  is_pass = omega arith;
  gives_up = record { gives_right = IsPermutation-refl (right job 1 ∷ []); joins_history = refl };
  other_passes = refl;
  other_histories = refl;
  bag = refl;
}

second_before_first : (job : ℕ) (bag one two : List ℕ)
    → Adds (holding bag (right job 0 ∷ right job 1 ∷ []) one two) 0 job 1 (holding bag (right job 0 ∷ []) one (two ++ job ∷ []))
unfolding right holding
second_before_first job bag one two = record {
  is_pass = omega arith;
  gives_up = record {
    gives_right = IsPermutation-swap (right job 0 ∷ right job 1 ∷ [])
        (right job 1 ∷ right job 0 ∷ []) 0 1 (omega arith) (omega arith) refl;
    joins_history = refl;
  };
  other_passes = refl;
  other_histories = refl;
  bag = refl;
}

-- one pass draws two jobs and adds each into both stripes, from an opening to the end
pub runs_to_the_end : TwoJobsRunToTheEnd
unfolding right holding
runs_to_the_end = (
  record {
    bag = IsPermutation-refl (0 ∷ 1 ∷ []);
    passes = All-cons (λ rights. rights ≡ []) [] [] refl (All-nil (λ rights. rights ≡ []));
    histories = All-cons (λ history. history ≡ []) [] ([] ∷ []) refl (All-cons (λ history. history ≡ []) [] [] refl (All-nil (λ history. history ≡ [])));
  },
  first (drawn 0 (1 ∷ []) [] []) (first (second_before_first 0 (1 ∷ []) [] []) (first (added_first 0 (1 ∷ []) [] [] (0 ∷ []))
      (first (drawn 1 [] (0 ∷ []) (0 ∷ [])) (first (added_first 1 [] (right 1 1 ∷ []) (0 ∷ []) (0 ∷ []))
      (first (added_second 1 [] (0 ∷ 1 ∷ []) (0 ∷ [])) none))))),
)
