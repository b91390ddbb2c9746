-- What the status of an ending shows, by the endings.
use Rattle.std.proofs.Common.{◌≡◌, ◌≢◌, ℕ, ◌<◌, ◌≤◌, List, [], Option, Some, None, refl, sym, ◌∙◌, ap, subst, inl, inr, arith}
use Rattle.std.specs.Prelude.{Bool, true, false, IfSome, IsSomeAnd, Result, Ok, Err, string_bytes}
use Rattle.def_fraction.specs.Fraction.{Fraction}
use Rattle.def_outside.specs.Calls.{FilesCall, SinkCall, HasFailed, HasFailedOnce, HasNoFault, MayHaveFailed, Wrote, WroteFront, WroteNothing, IsUntouched}
use Rattle.def_outside.proofs.Fronts.{once_may}
use Rattle.def_file.specs.declared.FileFault.{FileFault}
use Rattle.def_file.specs.declared.FileFault.TheVariants.{TooLong}
use Rattle.def_file.specs.Content.{GameFile}
use Rattle.def_file.specs.Reading.{most_bytes}
use Rattle.def_check.specs.Accepted.{IsAccepted}
use Rattle.def_check.specs.Accepting.{read_as_accepted}
use Rattle.def_check.proofs.FileAccepted.{accepted_whole_file}
use Rattle.def_close.specs.Plans.{pair_high, pair_low, pair_text}
use Rattle.def_close.proofs.Texts.{texts_hold}
use Rattle.def_program.specs.Lines.{of_file, of_memory, of_reading, of_writing}
use Rattle.def_program.specs.Meaning.{EachMeant, EndsWith, FileMeans, MeansOnly}
use Rattle.def_program.specs.Program.{Answer, game_answer, refusal}
use Rattle.def_program.specs.Text.{form_of_file, info_text}
use Rattle.def_program.specs.TextLines.{fault_line, memory_line, read_line, write_line}
use Rattle.def_game_numbers.specs.Weighed.{weighed_game}
use Rattle.def_progress.specs.Progress.{Standing}
use Rattle.def_program.proofs.Meant.{file_computed}
use Rattle.xg_load.specs.Loads.{LoadHasCause, Loads}
use Rattle.xg_load.specs.declared.loading.LoadFault.{LoadFault}
use Rattle.xg_load.specs.declared.loading.LoadFault.TheVariants as faults
use Rattle.xg_close_run.specs.Brackets.{GoesWithInfo, InfoMeans, IsNarrowEnough, IsTooWide, IsTrueWhereTold, IsWritten}
use Rattle.xg_load.specs.Endings.{IsLineIfRoom, IsUnloaded, line_at_end}
use Rattle.xg_close_run.specs.Endings.{Closes, Concludes, HasPairText, IsRead, IsRefused, status_of_search}
use Rattle.xg_close_run.specs.Searched.{IsTrueIn}
use Rattle.xg_close_run.specs.Said.{IsLineAtEnd, of_bracket, of_fault}
use Rattle.xg_load.specs.declared.ending.Ending.{Ending}
use Rattle.xg_load.specs.declared.ending.Ending.TheVariants.{Done, Refused, ReadFault, WriteFault, NoMemory}

-- ---- what is written of a file that was loaded

-- only the answer of what was loaded is meant
loaded_means : (content : Option (List ℕ)) (r : Result GameFile FileFault)
    → IfSome content (λ bytes. read_as_accepted bytes ≡ r) → MeansOnly (InfoMeans content) (game_answer info_text r)
loaded_means content r is answer means = by_content content is means
  where
    by_content : (told : Option (List ℕ)) → IfSome told (λ bytes. read_as_accepted bytes ≡ r)
        → IsSomeAnd told (λ bytes. FileMeans info_text bytes answer) → answer ≡ game_answer info_text r
    by_content None is means = absurd means
    by_content (Some bytes) is means = sym (file_computed info_text bytes answer means) ∙ ap (game_answer info_text) is

-- the text of plans of the game that was loaded is one of a bracket of the file
pub written_of : (content : Option (List ℕ)) (game : GameFile)
    (IsSo : List ℕ → Fraction → Fraction → Type 0) (IsSoOf : GameFile → List ℕ → Fraction → Fraction → Type 0)
    → Loads content (Ok game) → ((text : List ℕ) (low high : Fraction) → IsSo text low high → IsSoOf game text low high)
    → HasPairText game IsSo → IsWritten content IsSoOf
written_of None game IsSo IsSoOf loaded turn has = tt
written_of (Some bytes) game IsSo IsSoOf loaded turn has =
    let is : IsAccepted bytes game = (accepted_whole_file bytes game).0 loaded in
    record {
      game = game;
      accepted = is;
      text = pair_text game has.one has.two;
      low = pair_low game has.one has.two;
      high = pair_high game has.one has.two;
      bracket = texts_hold bytes game has.one has.two is has.plans;
      so = turn (pair_text game has.one has.two) (pair_low game has.one has.two) (pair_high game has.one has.two) has.so;
    }

-- a line that is true of the game that was loaded is true of the file
pub true_of_file : (asked : Option Fraction) (content : Option (List ℕ)) (game : GameFile) → Loads content (Ok game)
    → (standing : Standing) → IsTrueIn (form_of_file game) (weighed_game game).unit asked standing
    → IsTrueWhereTold asked content standing
true_of_file asked None game loaded standing is = tt
true_of_file asked (Some bytes) game loaded standing is = record {
  game = game;
  accepted = (accepted_whole_file bytes game).0 loaded;
  one = is.one;
  two = is.two;
  plans = is.plans;
  low = is.low;
  high = is.high;
  width = is.width;
  asked_is = is.asked_is;
}

module _ (asked : Option Fraction) (content : Option (List ℕ)) (files : FilesCall) (out : SinkCall) where
  module _ (game : GameFile) (loaded : Loads content (Ok game)) (read : HasNoFault files.faults) where
    is_read : IsRead content files
    is_read = record {
      means = λ answer means. ap (λ (a : Answer). a.status) (loaded_means content (Ok game) loaded answer means);
      read = read;
    }

    -- the end of a search on the game is that of the run
    pub ended : (narrow : Bool) (ending : Ending) → Closes asked game out narrow ending
        → Concludes asked content files out narrow ending
    ended true Done closes = (
      is_read,
      closes.0,
      written_of content game
          (λ text low high. Wrote out text × IsNarrowEnough asked game low high)
          (λ game text low high. Wrote out text × IsNarrowEnough asked game low high) loaded (λ text low high so. so) closes.1,
    )
    ended false Done closes = (
      is_read,
      closes.0,
      written_of content game
          (λ text low high. Wrote out text × IsTooWide asked game low high)
          (λ game text low high. Wrote out text × IsTooWide asked game low high) loaded (λ text low high so. so) closes.1,
    )
    ended narrow WriteFault closes = (
      is_read,
      closes.0,
      written_of content game (λ text low high. WroteFront out text)
          (λ game text low high. WroteFront out text) loaded (λ text low high so. so) closes.1,
    )
    ended narrow NoMemory closes = closes
    ended narrow (Refused line) closes = absurd closes
    ended narrow ReadFault closes = absurd closes

  module _ (untouched : IsUntouched out) where
    turned_back : (narrow : Bool) (fault : FileFault) (ending : Ending) → IsLineIfRoom (fault_line fault) ending
        → Loads content (Err (faults.Refused fault)) → (fault ≡ TooLong → most_bytes < files.taken)
        → HasNoFault files.faults → Concludes asked content files out narrow ending
    turned_back narrow fault (Refused line) is loaded counted read = record {
      means = λ answer means. loaded_means content (Err fault) loaded answer means ∙ ap refusal (sym is);
      fits = of_file fault refl is counted;
      read = read;
      untouched = untouched;
    }
    turned_back narrow fault NoMemory is loaded counted read = untouched
    turned_back narrow fault Done is loaded counted read = absurd is
    turned_back narrow fault ReadFault is loaded counted read = absurd is
    turned_back narrow fault WriteFault is loaded counted read = absurd is

    -- no game was loaded: the file has this first fault, the files failed, or memory ran out
    pub turned_down : (narrow : Bool) (why : LoadFault) (ending : Ending) → IsUnloaded why ending
        → Loads content (Err why) → (why ≡ faults.Refused TooLong → most_bytes < files.taken)
        → LoadHasCause {T = GameFile} files.faults.before files.faults.now (Err why)
        → Concludes asked content files out narrow ending
    turned_down narrow (faults.Refused fault) ending is loaded counted cause =
        turned_back narrow fault ending is loaded (λ e. counted (ap faults.Refused e)) cause
    turned_down narrow faults.ReadFault ending is loaded counted cause =
        subst (λ (e : Ending). Concludes asked content files out narrow e) (sym is) (cause, untouched)
    turned_down narrow faults.NoMemory ending is loaded counted cause =
        subst (λ (e : Ending). Concludes asked content files out narrow e) (sym is) untouched

-- ---- the promises of the status, and of the line that goes with it
pub record KeepsStatus (asked : Option Fraction) (content : Option (List ℕ)) (files : FilesCall) (out : SinkCall)
    (status : ℕ) (line : List ℕ) : Type 0 where
  pub range : status ≤ 6
  pub taken : status ≢ 2
  pub refused : status ≡ 1 → EachMeant (InfoMeans content) (λ answer. answer.status ≡ 1)
  pub complete : (MayHaveFailed files.faults → ⊥) → EachMeant (InfoMeans content) (λ answer.
      (answer.status ≡ 0 → MayHaveFailed out.faults → ⊥) → GoesWithInfo answer.status status)
  pub read_fault : status ≡ 3 → HasFailedOnce files.faults
  pub files_failed : HasFailed files.faults → EndsWith 3 status
  pub write_fault : status ≡ 4 → HasFailedOnce out.faults
  pub out_failed : HasFailed out.faults → status ≡ 4
  pub narrow : status ≡ 0 → IsWritten content (λ game text low high. Wrote out text × IsNarrowEnough asked game low high)
  pub wide : status ≡ 6 → IsWritten content (λ game text low high. Wrote out text × IsTooWide asked game low high)
  pub front : status ≡ 4 → IsWritten content (λ game text low high. WroteFront out text)
  pub nothing : status ≢ 0 → status ≢ 4 → status ≢ 6 → WroteNothing out
  pub fits : IsLineAtEnd files.taken status line
  pub answered : status ≡ 1 → EachMeant (InfoMeans content) (λ answer. answer.line ≡ line)

-- no count is greater where it is as before
kept : (before now : ℕ) (P : Type 0) → now ≡ before → before < now → P
kept before now P same h = absurd (omega arith)

module _ (asked : Option Fraction) (content : Option (List ℕ)) (files : FilesCall) (out : SinkCall) where
  abbrev Keeps : ℕ → List ℕ → Type 0
  Keeps status line = KeepsStatus asked content files out status line

  narrow_shown : Concludes asked content files out true Done → Keeps 0 []
  narrow_shown is = record {
    range = omega arith;
    taken = λ e. absurd cc;
    refused = λ e. absurd cc;
    complete = λ sound answer means fine. inl (inl (sym (is.0.means answer means)));
    read_fault = λ e. absurd cc;
    files_failed = kept files.faults.before files.faults.now (EndsWith 3 0) is.0.read;
    write_fault = λ e. absurd cc;
    out_failed = kept out.faults.before out.faults.now (0 ≡ 4) is.1;
    narrow = λ e. is.2;
    wide = λ e. absurd cc;
    front = λ e. absurd cc;
    nothing = λ other _ _. absurd (other refl);
    fits = of_bracket (inl refl) refl;
    answered = λ e. absurd cc;
  }

  wide_shown : Concludes asked content files out false Done → Keeps 6 []
  wide_shown is = record {
    range = omega arith;
    taken = λ e. absurd cc;
    refused = λ e. absurd cc;
    complete = λ sound answer means fine. inr (is.0.means answer means, refl);
    read_fault = λ e. absurd cc;
    files_failed = kept files.faults.before files.faults.now (EndsWith 3 6) is.0.read;
    write_fault = λ e. absurd cc;
    out_failed = kept out.faults.before out.faults.now (6 ≡ 4) is.1;
    narrow = λ e. absurd cc;
    wide = λ e. is.2;
    front = λ e. absurd cc;
    nothing = λ _ _ other. absurd (other refl);
    fits = of_bracket (inr refl) refl;
    answered = λ e. absurd cc;
  }

  refused_shown : (line : List ℕ) → IsRefused content files out line → Keeps 1 line
  refused_shown line is = record {
    range = omega arith;
    taken = λ e. absurd cc;
    refused = λ _ answer means. ap (λ (a : Answer). a.status) (is.means answer means);
    complete = λ sound answer means fine. inl (inl (sym (ap (λ (a : Answer). a.status) (is.means answer means))));
    read_fault = λ e. absurd cc;
    files_failed = kept files.faults.before files.faults.now (EndsWith 3 1) is.read;
    write_fault = λ e. absurd cc;
    out_failed = kept out.faults.before out.faults.now (1 ≡ 4) is.untouched.1;
    narrow = λ e. absurd cc;
    wide = λ e. absurd cc;
    front = λ e. absurd cc;
    nothing = λ _ _ _. is.untouched.0;
    fits = of_fault is.fits;
    answered = λ _ answer means. ap (λ (a : Answer). a.line) (is.means answer means);
  }

  unread_shown : HasFailedOnce files.faults × IsUntouched out → Keeps 3 read_line
  unread_shown is = record {
    range = omega arith;
    taken = λ e. absurd cc;
    refused = λ e. absurd cc;
    complete = λ sound. absurd (sound (once_may files.faults is.0));
    read_fault = λ _. is.0;
    files_failed = λ _. inl refl;
    write_fault = λ e. absurd cc;
    out_failed = kept out.faults.before out.faults.now (3 ≡ 4) is.1.1;
    narrow = λ e. absurd cc;
    wide = λ e. absurd cc;
    front = λ e. absurd cc;
    nothing = λ _ _ _. is.1.0;
    fits = of_fault (of_reading refl refl);
    answered = λ e. absurd cc;
  }

  cut_shown : IsRead content files × HasFailedOnce out.faults
      × IsWritten content (λ game text low high. WroteFront out text) → Keeps 4 write_line
  cut_shown is = record {
    range = omega arith;
    taken = λ e. absurd cc;
    refused = λ e. absurd cc;
    complete = λ sound answer means fine. absurd (fine (is.0.means answer means) (once_may out.faults is.1));
    read_fault = λ e. absurd cc;
    files_failed = kept files.faults.before files.faults.now (EndsWith 3 4) is.0.read;
    write_fault = λ _. is.1;
    out_failed = λ _. refl;
    narrow = λ e. absurd cc;
    wide = λ e. absurd cc;
    front = λ e. is.2;
    nothing = λ _ other _. absurd (other refl);
    fits = of_fault (of_writing refl refl);
    answered = λ e. absurd cc;
  }

  without_memory_shown : IsUntouched out → Keeps 5 memory_line
  without_memory_shown is = record {
    range = omega arith;
    taken = λ e. absurd cc;
    refused = λ e. absurd cc;
    complete = λ sound answer means fine. inl (inr refl);
    read_fault = λ e. absurd cc;
    files_failed = λ _. inr refl;
    write_fault = λ e. absurd cc;
    out_failed = kept out.faults.before out.faults.now (5 ≡ 4) is.1;
    narrow = λ e. absurd cc;
    wide = λ e. absurd cc;
    front = λ e. absurd cc;
    nothing = λ _ _ _. is.0;
    fits = of_fault (of_memory refl refl);
    answered = λ e. absurd cc;
  }

  shown : (narrow : Bool) (ending : Ending) → Concludes asked content files out narrow ending
      → Keeps (status_of_search narrow ending) (line_at_end ending)
  shown true Done is = narrow_shown is
  shown true (Refused line) is = refused_shown (string_bytes line) is
  shown true ReadFault is = unread_shown is
  shown true WriteFault is = cut_shown is
  shown true NoMemory is = without_memory_shown is
  shown false Done is = wide_shown is
  shown false (Refused line) is = refused_shown (string_bytes line) is
  shown false ReadFault is = unread_shown is
  shown false WriteFault is = cut_shown is
  shown false NoMemory is = without_memory_shown is

  -- the same of a number that is its status
  pub status_shown : (narrow : Bool) (ending : Ending) → Concludes asked content files out narrow ending → (status : ℕ)
      → status ≡ status_of_search narrow ending → Keeps status (line_at_end ending)
  status_shown narrow ending is status same =
      subst (λ (n : ℕ). Keeps n (line_at_end ending)) (sym same) (shown narrow ending is)
