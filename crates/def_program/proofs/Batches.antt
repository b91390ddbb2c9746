-- What a batch means is what is computed of it, and its text has a part for each file.
use Rattle.std.proofs.Common.{◌≡◌, ℕ, ◌+◌, List, [], ◌∷◌, ◌++◌, length, map, Option, Some, None, Result, Ok, Err, refl, sym, ◌∙◌, ap, subst, arith}
use Rattle.std.specs.Prelude.{All, IsSome}
use Rattle.std.specs.List.{AllZip}
use Rattle.std.specs.Option.{option_and_then, option_map}
use Rattle.std.proofs.lemmas.List.{append_assoc}
use Rattle.std.proofs.lemmas.List.Elements.{All-head, All-tail}
use Rattle.std.proofs.lemmas.Option.{same_Some}
use Rattle.def_file.specs.declared.FileFault.{FileFault}
use Rattle.def_file.specs.Content.{GameFile}
use Rattle.def_batch.specs.Batch.{BatchEntry, Kept, Long, batch_entries, batch_room, item_of}
use Rattle.def_batch.proofs.Entries.{computed}
use Rattle.def_batch.proofs.Judged.{judged_alone}
use Rattle.def_command.specs.declared.Settings.{Settings}
use Rattle.def_program.specs.BatchText.{batch_items, batch_text, file_line, part_text, parts_text}
use Rattle.def_program.specs.Text.{solve_text}
use Rattle.def_program.specs.Program.{Answer, all_told, success}
use Rattle.def_program.specs.Meaning.{AllMean, BatchMeans, IsItemOfEntry}

-- ---- the files that are told

told_with : (first : Option (List ℕ)) (rest : Option (List (List ℕ))) (file : List ℕ) (files : List (List ℕ))
    → first ≡ Some file → rest ≡ Some files
    → option_and_then (λ bytes. option_map (λ others. bytes ∷ others) rest) first ≡ Some (file ∷ files)
told_with first rest file files is are =
    ap (option_and_then (λ bytes. option_map (λ others. bytes ∷ others) rest)) is
    ∙ ap (option_map (λ others. file ∷ others)) are

pub all_told_is : (told : List ℕ → Option (List ℕ)) (names files : List (List ℕ)) → map told names ≡ map Some files
    → all_told told names ≡ Some files
all_told_is told [] [] are = refl
all_told_is told [] (file ∷ files) are = absurd cc
all_told_is told (name ∷ names) [] are = absurd cc
all_told_is told (name ∷ names) (file ∷ files) are =
    let rest : map told names ≡ map Some files = cc in
    let first : told name ≡ Some file = cc in
    told_with (told name) (all_told told names) file files first (all_told_is told names files rest)

-- the bytes of all these files
pub record AreTold (told : List ℕ → Option (List ℕ)) (names : List (List ℕ)) : Type 0 where
  pub files : List (List ℕ)
  pub each : map told names ≡ map Some files
  pub all : all_told told names ≡ Some files

with_first : (told : List ℕ → Option (List ℕ)) (name : List ℕ) (names : List (List ℕ)) (content : Option (List ℕ))
    → told name ≡ content → IsSome content → AreTold told names → AreTold told (name ∷ names)
with_first told name names None is some rest = absurd cc
with_first told name names (Some bytes) is some rest = record {
  files = bytes ∷ rest.files;
  each = λ i. is i ∷ rest.each i;
  all = told_with (told name) (all_told told names) bytes rest.files is rest.all;
}

pub are_told : (told : List ℕ → Option (List ℕ)) (names : List (List ℕ)) → All (λ file. IsSome (told file)) names
    → AreTold told names
are_told told [] told_each = record { files = []; each = refl; all = refl }
are_told told (name ∷ names) told_each =
    with_first told name names (told name) refl (All-head (λ file. IsSome (told file)) name names told_each)
    (are_told told names (All-tail (λ file. IsSome (told file)) name names told_each))

-- where all are told, so is each
from_parts : (told : List ℕ → Option (List ℕ)) (name : List ℕ) (names files : List (List ℕ))
    → all_told told (name ∷ names) ≡ Some files
    → ((others : List (List ℕ)) → all_told told names ≡ Some others → AreTold told names)
    → (first : Option (List ℕ)) (rest : Option (List (List ℕ))) → told name ≡ first → all_told told names ≡ rest
    → AreTold told (name ∷ names)
from_parts told name names files is more None rest first_is rest_is =
    let none : ◌≡◌ {A = Option (List (List ℕ))} None (Some files) =
    sym (ap (option_and_then (λ bytes. option_map (λ others. bytes ∷ others) (all_told told names))) first_is) ∙ is in
    absurd cc
from_parts told name names files is more (Some bytes) None first_is rest_is =
    let none : ◌≡◌ {A = Option (List (List ℕ))} None (Some files) =
    sym (ap (option_and_then (λ b. option_map (λ others. b ∷ others) (all_told told names))) first_is
    ∙ ap (option_map (λ others. bytes ∷ others)) rest_is) ∙ is in
    absurd cc
from_parts told name names files is more (Some bytes) (Some others) first_is rest_is =
    with_first told name names (Some bytes) first_is refl (more others rest_is)

from_all : (told : List ℕ → Option (List ℕ)) (names files : List (List ℕ)) → all_told told names ≡ Some files
    → AreTold told names
from_all told [] files is = record { files = []; each = refl; all = refl }
from_all told (name ∷ names) files is =
    from_parts told name names files is (λ others others_are. from_all told names others others_are) (told name)
    (all_told told names) refl refl

-- ---- the items

item_is : (entry : BatchEntry) (item : Result GameFile FileFault) → IsItemOfEntry entry item → item ≡ item_of entry
item_is (Kept bytes) (Ok game) is = sym (((judged_alone bytes).accepted game).1 is)
item_is (Kept bytes) (Err fault) is = sym (((judged_alone bytes).refused fault).1 is)
item_is Long item is = is

items_are : (entries : List BatchEntry) (items : List (Result GameFile FileFault)) → AllZip IsItemOfEntry entries items
    → items ≡ map item_of entries
items_are [] [] are = refl
items_are [] (item ∷ items) are = absurd are
items_are (entry ∷ entries) [] are = absurd are
items_are (entry ∷ entries) (item ∷ items) are = λ i. item_is entry item are.0 i ∷ items_are entries items are.1 i

its_item : (entry : BatchEntry) (item : Result GameFile FileFault) → item_of entry ≡ item → IsItemOfEntry entry item
its_item (Kept bytes) (Ok game) is = ((judged_alone bytes).accepted game).0 is
its_item (Kept bytes) (Err fault) is = ((judged_alone bytes).refused fault).0 is
its_item Long item is = sym is

their_items : (entries : List BatchEntry) → AllZip IsItemOfEntry entries (map item_of entries)
their_items [] = tt
their_items (entry ∷ entries) = (its_item entry (item_of entry) refl, their_items entries)

-- ---- the answer

module _ (settings : Settings) where
  -- an answer that is meant of a batch has the text that is computed
  files_computed : (files : List (List ℕ)) (answer : Answer) → BatchMeans settings files answer
      → answer ≡ success (batch_text settings files)
  files_computed files answer means =
      let entries_are : batch_entries batch_room files ≡ means.entries = (computed batch_room files means.entries).0 means.have in
      means.text ∙ ap (λ items. success (parts_text settings 1 items))
      (items_are means.entries means.items means.stand ∙ ap (map item_of) (sym entries_are))

  files_meant : (files : List (List ℕ)) → BatchMeans settings files (success (batch_text settings files))
  files_meant files = record {
    entries = batch_entries batch_room files;
    items = batch_items files;
    have = (computed batch_room files (batch_entries batch_room files)).1 refl;
    stand = their_items (batch_entries batch_room files);
    text = refl;
  }

  module _ (told : List ℕ → Option (List ℕ)) (names : List (List ℕ)) (answer : Answer) where
    pub batch_computed : AllMean settings (map told names) answer
        → option_map (λ files. success (batch_text settings files)) (all_told told names) ≡ Some answer
    batch_computed means =
        ap (option_map (λ files. success (batch_text settings files))) (all_told_is told names means.0 means.1)
        ∙ ap Some (sym (files_computed means.0 answer means.2))

    pub batch_meant : option_map (λ files. success (batch_text settings files)) (all_told told names) ≡ Some answer
        → AllMean settings (map told names) answer
    batch_meant is = by_told (all_told told names) refl is
      where
        by_told : (o : Option (List (List ℕ))) → all_told told names ≡ o
            → option_map (λ files. success (batch_text settings files)) o ≡ Some answer
            → AllMean settings (map told names) answer
        by_told None told_is is = absurd cc
        by_told (Some files) told_is is =
            let told_all = from_all told names files told_is in
            let same : told_all.files ≡ files = same_Some told_all.files files (sym told_all.all ∙ told_is) in
            let said : success (batch_text settings files) ≡ answer = cc in (
              files,
              told_all.each ∙ ap (map Some) same,
              subst (BatchMeans settings files) said (files_meant files),
            )

-- ---- the text in its parts

-- so many parts are followed by the others, which are counted on
pub parts_on : (settings : Settings) (n : ℕ) (before behind : List (Result GameFile FileFault))
    → parts_text settings n (before ++ behind)
    ≡ parts_text settings n before ++ parts_text settings (n + length before) behind
parts_on settings n [] behind = ap (λ k. parts_text settings k behind) (omega arith)
parts_on settings n (item ∷ before) behind =
    let more : (n + 1) + length before ≡ n + length (item ∷ before) = omega arith in
    ap (λ text. part_text settings n item ++ text) (parts_on settings (n + 1) before behind
    ∙ ap (λ k. parts_text settings (n + 1) before ++ parts_text settings k behind) more)
    ∙ sym (append_assoc (part_text settings n item) (parts_text settings (n + 1) before) (parts_text settings (n + length (item ∷ before)) behind))

-- the text of a game stands behind the parts before it and the line with its number
pub text_between : (settings : Settings) (before : List (Result GameFile FileFault)) (game : GameFile)
    (behind : List (Result GameFile FileFault))
    → parts_text settings 1 (before ++ Ok game ∷ behind)
    ≡ (parts_text settings 1 before ++ file_line (length before + 1))
    ++ (solve_text game settings ++ parts_text settings (length before + 2) behind)
text_between settings before game behind =
    let front : List ℕ = parts_text settings 1 before in
    let here : 1 + length before ≡ length before + 1 = omega arith in
    let next : (length before + 1) + 1 ≡ length before + 2 = omega arith in
    let back : List ℕ = parts_text settings (length before + 2) behind in
    let line : List ℕ = file_line (length before + 1) in
    parts_on settings 1 before (Ok game ∷ behind)
    ∙ ap (λ k. front ++ parts_text settings k (Ok game ∷ behind)) here
    ∙ ap (λ k. front ++ ((line ++ solve_text game settings) ++ parts_text settings k behind)) next
    ∙ ap (λ text. front ++ text) (append_assoc line (solve_text game settings) back)
    ∙ sym (append_assoc front line (solve_text game settings ++ back))
