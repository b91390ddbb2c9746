-- What is said of each answer that words mean.
use Rattle.std.specs.Prelude.{◌≡◌, ◌↔◌, ◌⊎◌, ℕ, List, [], ◌∷◌, Contains, Option, IsSome}
use Rattle.def_command.specs.Grammar.{named_files}
use Rattle.def_program.specs.Meaning.{EachMeant, EndsWith, FilesAreTold, Means, MeansOnly}
use Rattle.def_program.specs.Program.{Answer}

-- of each answer that is meant something holds, where it follows of an answer from its being meant; no other one is
-- meant than this one, where each is this one; and an end has the status, or that of want of memory
pub record MeaningsAreRead : Type 0 where
  pub each : (words : List (List ℕ)) (told : List ℕ → Option (List ℕ)) (status : ℕ)
      → EachMeant (Means words told) (λ answer. answer.status ≡ status)
      ↔ ((answer : Answer) → Means words told answer → answer.status ≡ status)
  pub only : (words : List (List ℕ)) (told : List ℕ → Option (List ℕ)) (answer : Answer)
      → MeansOnly (Means words told) answer ↔ ((other : Answer) → Means words told other → other ≡ answer)
  pub ends : (status result : ℕ) → EndsWith status result ↔ ((result ≡ status) ⊎ (result ≡ 5))

-- all named files are told where each is; rows: no file, and one
pub record FilesAreNamed : Type 0 where
  pub each : (words : List (List ℕ)) (told : List ℕ → Option (List ℕ))
      → FilesAreTold words told ↔ ((file : List ℕ) → Contains (named_files words) file → IsSome (told file))
  pub none : (words : List (List ℕ)) (told : List ℕ → Option (List ℕ)) → named_files words ≡ []
      → FilesAreTold words told
  pub one : (words : List (List ℕ)) (told : List ℕ → Option (List ℕ)) (file : List ℕ) → named_files words ≡ file ∷ []
      → FilesAreTold words told ↔ IsSome (told file)
