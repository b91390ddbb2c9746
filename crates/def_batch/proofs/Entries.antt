-- The entries of a batch, file by file.
use Rattle.std.proofs.Common.{◌≡◌, ℕ, zero, suc, ◌-◌, ◌<◌, ◌≤◌, Bool, true, false, List, [], ◌∷◌, length, take, Some, refl, sym, ap, ◌∙◌, subst, arith}
use Rattle.std.specs.Prelude.{nat_lt, if◌then◌else◌, slice_get}
use Rattle.std.proofs.lemmas.Bool.{le-ltb, ltb-false, ltb-true}
use Rattle.def_batch.specs.Batch.{BatchEntry, Kept, Long, batch_entries, batch_entry, entry_bytes, kept_bytes}
use Rattle.def_batch.specs.Laws.{EmptyFilesFit, EntriesAreComputed, HasEntry, HaveEntries, KeptBytesAreWithin, LongFilesTakeNothing, ShortFilesAreKept}

-- a file is short or long
by_room : (room n : ℕ) (P : Bool → Type 0) → (n ≤ room → P false) → (room < n → P true) → P (nat_lt room n)
by_room room n P short long = by_test (nat_lt room n) refl
  where
    by_test : (b : Bool) → nat_lt room n ≡ b → P b
    by_test true is = long (ltb-true room n is)
    by_test false is = short (ltb-false room n is)

abbrev entry_by : Bool → List ℕ → BatchEntry
entry_by b file = if b then Long else Kept file

-- what a file takes of the room is there
entry_within : (room : ℕ) (file : List ℕ) → entry_bytes (batch_entry room file) ≤ room
entry_within room file =
    by_room room (length file) (λ b. entry_bytes (entry_by b file) ≤ room) (λ short. short) (λ long. omega arith)

short_entry : (room : ℕ) (file : List ℕ) → length file ≤ room → batch_entry room file ≡ Kept file
short_entry room file short = ap (λ b. entry_by b file) (le-ltb room (length file) short)

-- the first file's entry, by the words
first_has : (room : ℕ) (file : List ℕ) → HasEntry room [] file (batch_entry room file)
first_has room file =
    by_room room (length file) (λ b. HasEntry room [] file (entry_by b file))
    (λ short. record { fits = λ within. refl; too_long = λ past. absurd (omega (arith, short, past)) })
    (λ long. record { fits = λ within. absurd (omega (arith, long, within)); too_long = λ past. refl })

first_is : (room : ℕ) (file : List ℕ) (entry : BatchEntry) → HasEntry room [] file entry → batch_entry room file ≡ entry
first_is room file entry has =
    by_room room (length file) (λ b. entry_by b file ≡ entry)
    (λ short. sym (has.fits (omega (arith, short)))) (λ long. sym (has.too_long (omega (arith, long))))

-- the entries behind the first file have the room that it leaves
module _ (room : ℕ) (first : BatchEntry) (within : entry_bytes first ≤ room) (earlier : List BatchEntry) (file : List ℕ)
    (entry : BatchEntry) where
  has_behind : HasEntry room (first ∷ earlier) file entry → HasEntry (room - entry_bytes first) earlier file entry
  has_behind has = record {
    fits = λ fits. has.fits (omega (arith, within, fits));
    too_long = λ past. has.too_long (omega (arith, within, past));
  }

  has_before : HasEntry (room - entry_bytes first) earlier file entry → HasEntry room (first ∷ earlier) file entry
  has_before has = record {
    fits = λ fits. has.fits (omega (arith, within, fits));
    too_long = λ past. has.too_long (omega (arith, within, past));
  }

some_same : {X : Type 0} (x y : X) → Some x ≡ Some y → x ≡ y
some_same x y same = cc

-- what is computed has the words
module _ (room : ℕ) (file : List ℕ) (files : List (List ℕ))
    (behind : HaveEntries (room - entry_bytes (batch_entry room file)) files
    (batch_entries (room - entry_bytes (batch_entry room file)) files)) where
  each_has : (i : ℕ) (it : List ℕ) (entry : BatchEntry) → slice_get (file ∷ files) i ≡ Some it
      → slice_get (batch_entries room (file ∷ files)) i ≡ Some entry
      → HasEntry room (take i (batch_entries room (file ∷ files))) it entry
  each_has zero it entry is has =
      subst (λ e. HasEntry room [] it e) (some_same (batch_entry room file) entry has)
      (subst (λ f. HasEntry room [] f (batch_entry room file)) (some_same file it is) (first_has room file))
  each_has (suc i) it entry is has =
      has_before room (batch_entry room file) (entry_within room file)
      (take i (batch_entries (room - entry_bytes (batch_entry room file)) files)) it entry (behind.each i it entry is has)

entries_have : (room : ℕ) (files : List (List ℕ)) → HaveEntries room files (batch_entries room files)
entries_have room [] = record { count = refl; each = λ i file entry none. absurd cc }
entries_have room (file ∷ files) =
    let behind = entries_have (room - entry_bytes (batch_entry room file)) files in
    record { count = ap suc behind.count; each = each_has room file files behind }

-- and nothing else has them
entries_are : (room : ℕ) (files : List (List ℕ)) (entries : List BatchEntry) → HaveEntries room files entries
    → batch_entries room files ≡ entries
entries_are room [] [] have = refl
entries_are room [] (entry ∷ entries) have = absurd (omega (arith, have.count))
entries_are room (file ∷ files) [] have = absurd (omega (arith, have.count))
entries_are room (file ∷ files) (entry ∷ entries) have =
    let first = first_is room file entry (have.each zero file entry refl refl) in
    let within = subst (λ e. entry_bytes e ≤ room) first (entry_within room file) in
    let behind : HaveEntries (room - entry_bytes entry) files entries = record {
      count = omega (arith, have.count);
      each = λ i it e is has.
          has_behind room entry within (take i entries) it e (have.each (suc i) it e is has);
    } in
    ap (λ e. e ∷ batch_entries (room - entry_bytes e) files) first
    ∙ ap (λ es. entry ∷ es) (entries_are (room - entry_bytes entry) files entries behind)

pub computed : EntriesAreComputed
computed room files entries =
    (entries_are room files entries, λ same. subst (HaveEntries room files) same (entries_have room files))

pub kept_within : KeptBytesAreWithin
kept_within room [] = omega arith
kept_within room (file ∷ files) =
    omega (arith, entry_within room file, kept_within (room - entry_bytes (batch_entry room file)) files)

pub long_nothing : LongFilesTakeNothing
long_nothing room [] file behind is =
    let long : batch_entry room file ≡ Long = some_same (batch_entry room file) Long is in
    let all_room : room - 0 ≡ room = omega arith in
    ap (λ e. e ∷ batch_entries (room - entry_bytes e) behind) long ∙ ap (λ r. Long ∷ batch_entries r behind) all_room
long_nothing room (first ∷ before) file behind is =
    ap (λ es. batch_entry room first ∷ es)
    (long_nothing (room - entry_bytes (batch_entry room first)) before file behind is)

pub empty_fits : EmptyFilesFit
empty_fits room [] i none = absurd cc
empty_fits room (file ∷ files) zero is =
    let empty : file ≡ [] = some_same file [] is in
    ap (λ f. Some (batch_entry room f)) empty ∙ ap Some (short_entry room [] (omega arith))
empty_fits room (file ∷ files) (suc i) is = empty_fits (room - entry_bytes (batch_entry room file)) files i is

pub short_kept : ShortFilesAreKept
short_kept room [] short = refl
short_kept room (file ∷ files) short =
    ap (λ e. e ∷ batch_entries (room - entry_bytes e) files) (short_entry room file (omega (arith, short)))
    ∙ ap (λ es. Kept file ∷ es) (short_kept (room - length file) files (omega (arith, short)))

-- what is kept of a file is kept of all
pub bytes_of_one : (entries : List BatchEntry) (i : ℕ) (entry : BatchEntry) → slice_get entries i ≡ Some entry
    → entry_bytes entry ≤ kept_bytes entries
bytes_of_one [] i entry none = absurd cc
bytes_of_one (first ∷ entries) zero entry is =
    let same : entry_bytes first ≡ entry_bytes entry = ap entry_bytes (some_same first entry is) in
    omega (arith, same)
bytes_of_one (first ∷ entries) (suc i) entry is = omega (arith, bytes_of_one entries i entry is)
