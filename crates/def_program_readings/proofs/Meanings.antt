-- What is said of each answer that words mean.
use Rattle.std.proofs.Common.{◌≡◌, ℕ, List, [], ◌∷◌, Option, sym, subst}
use Rattle.std.specs.Prelude.{All, Contains, IsSome}
use Rattle.std.proofs.lemmas.List.Elements.{All-nil, All-cons, All-contains, All-head, Contains-get_or}
use Rattle.def_command.specs.Grammar.{named_files}
use Rattle.def_program_readings.specs.Meanings.{FilesAreNamed, MeaningsAreRead}

pub meanings : MeaningsAreRead
meanings = record {
  each = λ words told status. (λ h. h, λ h. h);
  only = λ words told answer. (λ h. h, λ h. h);
  ends = λ status result. (λ h. h, λ h. h);
}

module _ (told : List ℕ → Option (List ℕ)) where
  abbrev IsTold : List ℕ → Type 0
  IsTold file = IsSome (told file)

  none_named : (files : List (List ℕ)) → files ≡ [] → All IsTold files
  none_named files none = subst (All IsTold) (sym none) (All-nil IsTold)

  one_named : (files : List (List ℕ)) (file : List ℕ) → files ≡ file ∷ []
      → (All IsTold files → IsTold file) × (IsTold file → All IsTold files)
  one_named files file one = (
    λ all. All-head IsTold file [] (subst (All IsTold) one all),
    λ is. subst (All IsTold) (sym one) (All-cons IsTold file [] is (All-nil IsTold)),
  )

pub files_named : FilesAreNamed
files_named = record {
  each = λ words told. (
    λ all file there. All-contains (IsTold told) (named_files words) file all there,
    λ each k d within. each _ (Contains-get_or (named_files words) k d within),
  );
  none = λ words told is. none_named told (named_files words) is;
  one = λ words told file is. one_named told (named_files words) file is;
}
