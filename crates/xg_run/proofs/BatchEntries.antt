-- The entries of a batch, file by file, and how a batch ends on the files that were read.
use Rattle.std.proofs.Common.{◌≡◌, ℕ, ◌+◌, ◌-◌, ◌<◌, ◌≤◌, List, [], ◌∷◌, ◌++◌, length, map, get_or, take, All, Option, Some, IfSome, refl, sym, ap, ◌∙◌, subst}
use Rattle.std.proofs.Common.{arith}
use Rattle.std.specs.Borrow.{Bor}
use Rattle.std.specs.Option.{option_map}
use Rattle.std.proofs.lemmas.List.{map-append, take_more}
use Rattle.std.proofs.lemmas.List.Elements.{All-push}
use Rattle.std.proofs.lemmas.Option.{same_Some}
use Rattle.def_outside.specs.Calls.{FilesCall, HasNoFault, SinkCall}
use Rattle.def_batch.specs.Batch.{BatchEntry, batch_entries, batch_entry, batch_room, entry_bytes, item_of, kept_bytes}
use Rattle.def_file.specs.Reading.{most_bytes}
use Rattle.def_command.specs.declared.Settings.{Settings}
use Rattle.def_program.specs.BatchText.{batch_text, parts_text}
use Rattle.def_program.specs.Meaning.{AllMean, MeansOnly}
use Rattle.def_program.specs.Program.{success}
use Rattle.def_program.proofs.Batches.{all_told_is, batch_computed}
use Rattle.xg_batch.specs.Items.{HasAtMost, batch_entry_seen}
use Rattle.xg_batch.specs.declared.entry.Entry.{Entry}
use Rattle.xg_load.specs.declared.ending.Ending.{Ending}
use Rattle.xg_load.specs.declared.ending.Ending.TheVariants.{Done, Refused, ReadFault, WriteFault, NoMemory}
use Rattle.xg_run.specs.Batches.{HaveContents}
use Rattle.xg_load.specs.Endings.{Tells}
use Rattle.xg_run.specs.Concludes.{Concludes}

-- one file more is read
pub one_more : (room : ℕ) (contents : List (Option (List ℕ))) (entries : List BatchEntry) (content : Option (List ℕ))
    (entry : BatchEntry) → HaveContents room contents entries
    → IfSome content (λ bytes. batch_entry (room - kept_bytes entries) bytes ≡ entry)
    → HaveContents room (contents ++ content ∷ []) (entries ++ entry ∷ [])
one_more room [] [] content entry have is =
    let all : room - 0 ≡ room = omega arith in
    (subst (λ n. IfSome content (λ bytes. batch_entry n bytes ≡ entry)) all is, tt)
one_more room [] (first ∷ entries) content entry have is = absurd have
one_more room (first ∷ contents) [] content entry have is = absurd have
one_more room (told ∷ contents) (first ∷ entries) content entry have is =
    let left : room - (entry_bytes first + kept_bytes entries) ≡ (room - entry_bytes first) - kept_bytes entries = omega arith in (
      have.0,
      one_more (room - entry_bytes first) contents entries content entry have.1
          (subst (λ n. IfSome content (λ bytes. batch_entry n bytes ≡ entry)) left is),
    )

-- what is kept with one file more
kept_more : (entries : List BatchEntry) (entry : BatchEntry)
    → kept_bytes (entries ++ entry ∷ []) ≡ kept_bytes entries + entry_bytes entry
kept_more [] entry = omega arith
kept_more (first ∷ entries) entry = omega (arith, kept_more entries entry)

module _ (i : ℕ) (old new : List Entry) (entry : Entry) (room : ℕ) (pushed : new ≡ old ++ entry ∷ [])
    (left : room ≡ batch_room - kept_bytes (map batch_entry_seen old)) where
  seen_is : map batch_entry_seen new ≡ map batch_entry_seen old ++ batch_entry_seen entry ∷ []
  seen_is = ap (map batch_entry_seen) pushed ∙ map-append batch_entry_seen old (entry ∷ [])

  -- the file of one name more is read, whose bytes are told as before
  pub one_read : (before now : List ℕ → Option (List ℕ)) (names : List (Bor (List ℕ))) (d : Bor (List ℕ)) → i < length names
      → now ≡ before → HaveContents batch_room (map (λ name. before name.now) (take i names)) (map batch_entry_seen old)
      → IfSome (now (get_or names i d).now) (λ bytes. batch_entry room bytes ≡ batch_entry_seen entry)
      → HaveContents batch_room (map (λ name. before name.now) (take (i + 1) names)) (map batch_entry_seen new)
  one_read before now names d there same have is =
      let told : Bor (List ℕ) → Option (List ℕ) = λ name. before name.now in
      let contents : map told (take (i + 1) names) ≡ map told (take i names) ++ told (get_or names i d) ∷ [] =
      ap (map told) (take_more names i d there) ∙ map-append told (take i names) (get_or names i d ∷ []) in
      let here : IfSome (told (get_or names i d))
      (λ bytes. batch_entry (batch_room - kept_bytes (map batch_entry_seen old)) bytes ≡ batch_entry_seen entry) =
      subst (λ n. IfSome (told (get_or names i d)) (λ bytes. batch_entry n bytes ≡ batch_entry_seen entry)) left
      (subst (λ (it : List ℕ → Option (List ℕ)). IfSome (it (get_or names i d).now) (λ bytes. batch_entry room bytes ≡ batch_entry_seen entry)) same is) in
      subst (λ them. HaveContents batch_room them (map batch_entry_seen new)) (sym contents)
      (subst (HaveContents batch_room (map told (take i names) ++ told (get_or names i d) ∷ [])) (sym seen_is)
      (one_more batch_room (map told (take i names)) (map batch_entry_seen old) (told (get_or names i d)) (batch_entry_seen entry) have here))

  module _ (within : entry_bytes (batch_entry_seen entry) ≤ room) where
    -- the room that is left
    pub room_left : room - entry_bytes (batch_entry_seen entry) ≡ batch_room - kept_bytes (map batch_entry_seen new)
    room_left =
        let more : kept_bytes (map batch_entry_seen new) ≡ kept_bytes (map batch_entry_seen old) + entry_bytes (batch_entry_seen entry) =
        ap kept_bytes seen_is ∙ kept_more (map batch_entry_seen old) (batch_entry_seen entry) in
        omega (arith, left, more)

    -- and no file has more bytes than a file may have
    pub still_within : All (HasAtMost most_bytes) old → All (HasAtMost most_bytes) new
    still_within all =
        let few : HasAtMost most_bytes entry = omega (arith, within, left) in
        subst (All (HasAtMost most_bytes)) (sym pushed) (All-push (HasAtMost most_bytes) old entry all few)

-- where all files are told, the entries are theirs
entries_are : (room : ℕ) (files : List (List ℕ)) (entries : List BatchEntry) → HaveContents room (map Some files) entries
    → batch_entries room files ≡ entries
entries_are room [] [] have = refl
entries_are room [] (entry ∷ entries) have = absurd have
entries_are room (file ∷ files) [] have = absurd have
entries_are room (file ∷ files) (entry ∷ entries) have =
    (λ i. have.0 i ∷ batch_entries (room - entry_bytes (have.0 i)) files)
    ∙ ap (λ (rest : List BatchEntry). entry ∷ rest) (entries_are (room - entry_bytes entry) files entries have.1)

module _ (settings : Settings) (contents : List (Option (List ℕ))) (entries : List BatchEntry)
    (have : HaveContents batch_room contents entries) where
  abbrev text : List ℕ
  text = parts_text settings 1 (map item_of entries)

  -- only the text of the entries that were read is meant
  means_text : MeansOnly (AllMean settings contents) (success text)
  means_text answer means =
      let files : List (List ℕ) = means.0 in
      let told : List ℕ → Option (List ℕ) = λ bytes. Some bytes in
      let said : success (batch_text settings files) ≡ answer =
      same_Some (success (batch_text settings files)) answer
      (sym (ap (option_map (λ them. success (batch_text settings them))) (all_told_is told files files refl))
      ∙ batch_computed settings told files answer (files, refl, means.2)) in
      let are : batch_entries batch_room files ≡ entries =
      entries_are batch_room files entries (subst (λ them. HaveContents batch_room them entries) means.1 have) in
      sym said ∙ ap (λ (them : List BatchEntry). success (parts_text settings 1 (map item_of them))) are

  -- all files were read, and the text was written or cut off
  module _ (files : FilesCall) (out : SinkCall) (read : HasNoFault files.faults) where
    pub ended : (ending : Ending) → Tells text out ending → Concludes ⊥ (AllMean settings contents) files out ending
    ended Done tells =
        record { text = text; means = means_text; read = read; written = tells.0; wrote = tells.1 }
    ended WriteFault tells =
        record { text = text; means = means_text; read = read; cause = tells.0; front = tells.1 }
    ended NoMemory untouched = untouched
    ended (Refused line) tells = absurd tells
    ended ReadFault tells = absurd tells
