-- What the words mean is what their command means, and the files that they name are those of their command.
use Rattle.std.proofs.Common.{◌≡◌, ℕ, zero, suc, ◌<◌, List, [], ◌∷◌, length, get_or, map, Option, Some, None, refl, ap, sym, subst, arith}
use Rattle.std.specs.Prelude.{◌↔◌, All, IsNone}
use Rattle.std.specs.Borrow.{Bor}
use Rattle.std.proofs.lemmas.List.{length-map}
use Rattle.def_outside.specs.Calls.{FilesCall, HasNoFault, IsUntouched, OpensAtMost, SinkCall}
use Rattle.def_command.specs.Grammar.{Command, command_of_words, file_words, files_of}
use Rattle.def_program.specs.Lines.{IsCheck}
use Rattle.def_program.specs.Meaning.{IsMeant}
use Rattle.xg_load.specs.declared.ending.Ending.{Ending}
use Rattle.xg_run.specs.Concludes.{Concludes, ConcludesWords, EndsCall}

module _ (told : List ℕ → Option (List ℕ)) (files : FilesCall) (out : SinkCall) where
  -- the end of a command is that of the words that name it
  pub by_command : (words : List (List ℕ)) (command : Command) → command_of_words words ≡ Some command
      → (ending : Ending) → Concludes (IsCheck (Some command)) (IsMeant (Some command) told) files out ending
      → OpensAtMost files (length (file_words command)) → EndsCall (command_of_words words) told files out (Some ending)
  by_command words command same ending is few =
      subst (λ (c : Option Command). EndsCall c told files out (Some ending)) (sym same) (is, few)

  -- and so it is where they name none
  pub by_none : (words : List (List ℕ)) → command_of_words words ≡ None → HasNoFault files.faults → IsUntouched out
      → OpensAtMost files 0 → EndsCall (command_of_words words) told files out None
  by_none words same read untouched few =
      subst (λ (c : Option Command). EndsCall c told files out None) (sym same)
      (record { means = λ answer means. means; read = read; untouched = untouched }, few)

  -- what such an end shows
  pub record Shows (command : Option Command) (ending : Option Ending) : Type 0 where
    pub concludes : ConcludesWords (IsCheck command) (IsMeant command told) files out ending
    pub opens : OpensAtMost files (length (files_of command))
    pub usage : IsNone ending ↔ IsNone command

  pub end_shows : (command : Option Command) (ending : Option Ending) → EndsCall command told files out ending
      → Shows command ending
  end_shows (Some command) (Some ending) ends =
      record { concludes = ends.0; opens = ends.1; usage = (λ none. absurd cc, λ none. absurd cc) }
  end_shows (Some command) None ends = absurd ends
  end_shows None (Some ending) ends = absurd ends
  end_shows None None ends = record { concludes = ends.0; opens = ends.1; usage = (λ none. refl, λ none. refl) }

-- ---- the names of a batch, which the words hold

name_at : (names : List (Bor (List ℕ))) (k : ℕ) (d : Bor (List ℕ)) → k < length names
    → get_or (map (λ (name : Bor (List ℕ)). name.now) names) k d.now ≡ (get_or names k d).now
name_at [] k d low = absurd (omega arith)
name_at (name ∷ names) zero d low = refl
name_at (name ∷ names) (suc k) d low = name_at names k d (omega arith)

-- what holds of each name's bytes
pub of_each_name : (P : List ℕ → Type 0) (names : List (Bor (List ℕ)))
    → All P (map (λ (name : Bor (List ℕ)). name.now) names) → All (λ (name : Bor (List ℕ)). P name.now) names
of_each_name P names all k d low =
    let within : k < length (map (λ (name : Bor (List ℕ)). name.now) names) =
    omega (arith, length-map names (λ (name : Bor (List ℕ)). name.now), low) in
    subst P (name_at names k d low) (all k d.now within)

-- what is told of them
pub told_of_names : (told : List ℕ → Option (List ℕ)) (names : List (Bor (List ℕ)))
    → map (λ (name : Bor (List ℕ)). told name.now) names ≡ map told (map (λ (name : Bor (List ℕ)). name.now) names)
told_of_names told [] = refl
told_of_names told (name ∷ names) = ap (λ rest. told name.now ∷ rest) (told_of_names told names)

-- no more files are opened than a batch names
pub few_named : (files : FilesCall) (names items : List (Bor (List ℕ))) → names ≡ items
    → OpensAtMost files (length names) → OpensAtMost files (length (map (λ (name : Bor (List ℕ)). name.now) items))
few_named files names items same few =
    omega (arith, ap length same, length-map items (λ (name : Bor (List ℕ)). name.now), few)
