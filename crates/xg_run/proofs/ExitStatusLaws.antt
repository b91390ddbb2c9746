-- What the status of an ending shows, by the endings.
use Rattle.std.proofs.Common.{◌≡◌, ◌≢◌, ℕ, ◌<◌, ◌≤◌, List, [], Option, Some, None, refl, sym, subst, inl, inr, arith}
use Rattle.std.specs.Prelude.{IsNone, string_bytes}
use Rattle.def_outside.specs.Calls.{FilesCall, SinkCall, HasFailed, HasFailedOnce, MayHaveFailed, Wrote, WroteFront, WroteNothing, IsUntouched}
use Rattle.def_outside.proofs.Fronts.{once_may}
use Rattle.def_program.specs.TextLines.{usage_line, read_line, write_line, memory_line}
use Rattle.def_program.specs.Program.{Answer, success, refusal, usage}
use Rattle.def_program.specs.Meaning.{EachMeant, EndsWith, MeansOnly}
use Rattle.def_program.specs.Lines.{IsLine, of_words, of_reading, of_writing, of_memory}
use Rattle.xg_load.specs.declared.ending.Ending.{Ending}
use Rattle.xg_load.specs.declared.ending.Ending.TheVariants.{Done, Refused, ReadFault, WriteFault, NoMemory}
use Rattle.xg_load.specs.Endings.{status_of, line_at_end}
use Rattle.xg_run.specs.Endings.{line_said, status_answered}
use Rattle.xg_run.specs.Concludes.{Concludes, ConcludesWords, IsDone, IsRefused, IsUsage, IsUnread, IsCut}

-- the promises of the status, and of the line that goes with it
pub record KeepsStatus (checks : Type 0) (meant : Answer → Type 0) (files : FilesCall) (out : SinkCall)
    (status : ℕ) (line : List ℕ) : Type 0 where
  pub refused : status ≡ 1 → EachMeant meant (λ answer. answer.status ≡ 1)
  pub complete : (MayHaveFailed files.faults → ⊥) → EachMeant meant (λ answer.
      (answer.status ≡ 0 → MayHaveFailed out.faults → ⊥) → EndsWith answer.status status)
  pub read_fault : status ≡ 3 → HasFailedOnce files.faults
  pub files_failed : HasFailed files.faults → EndsWith 3 status
  pub write_fault : status ≡ 4 → HasFailedOnce out.faults
  pub out_failed : HasFailed out.faults → status ≡ 4
  pub whole : status ≡ 0 → EachMeant meant (λ answer. (answer.status ≡ 0) × Wrote out answer.text)
  pub front : status ≡ 4 → EachMeant meant (λ answer. (answer.status ≡ 0) × WroteFront out answer.text)
  pub nothing : status ≢ 0 → status ≢ 4 → WroteNothing out
  pub fits : status ≢ 0 → IsLine checks files.taken status line
  pub answered : status ≡ 1 → EachMeant meant (λ answer. answer.line ≡ line)

-- the status answers what is meant, unless the sink failed on its text
abbrev Answered : SinkCall → ℕ → Answer → Type 0
Answered out status answer = (answer.status ≡ 0 → MayHaveFailed out.faults → ⊥) → EndsWith answer.status status

-- no count is greater where it is as before
kept : (before now : ℕ) (P : Type 0) → now ≡ before → before < now → P
kept before now P same h = absurd (omega arith)

module _ (checks : Type 0) (meant : Answer → Type 0) (files : FilesCall) (out : SinkCall) where
  -- each answer that is meant is this one
  by_answer : (answer : Answer) → MeansOnly meant answer → (P : Answer → Type 0) → P answer → EachMeant meant P
  by_answer answer only P holds other means = subst P (sym (only other means)) holds

  done : IsDone meant files out → KeepsStatus checks meant files out 0 []
  done is = record {
    refused = λ e. absurd cc;
    complete = λ _. by_answer (success is.text) is.means (Answered out 0) (λ _. inl refl);
    read_fault = λ e. absurd cc;
    files_failed = kept files.faults.before files.faults.now (EndsWith 3 0) is.read;
    write_fault = λ e. absurd cc;
    out_failed = kept out.faults.before out.faults.now (0 ≡ 4) is.written;
    whole = λ _. by_answer (success is.text) is.means (λ a. (a.status ≡ 0) × Wrote out a.text) (refl, is.wrote);
    front = λ e. absurd cc;
    nothing = λ other _. absurd (other refl);
    fits = λ other. absurd (other refl);
    answered = λ e. absurd cc;
  }

  said : (line : List ℕ) → IsRefused checks meant files out line → KeepsStatus checks meant files out 1 line
  said line is = record {
    refused = λ _. by_answer (refusal line) is.means (λ a. a.status ≡ 1) refl;
    complete = λ _. by_answer (refusal line) is.means (Answered out 1) (λ _. inl refl);
    read_fault = λ e. absurd cc;
    files_failed = kept files.faults.before files.faults.now (EndsWith 3 1) is.read;
    write_fault = λ e. absurd cc;
    out_failed = kept out.faults.before out.faults.now (1 ≡ 4) is.untouched.1;
    whole = λ e. absurd cc;
    front = λ e. absurd cc;
    nothing = λ _ _. is.untouched.0;
    fits = λ _. is.fits;
    answered = λ _. by_answer (refusal line) is.means (λ a. a.line ≡ line) refl;
  }

  unknown : IsUsage meant files out → KeepsStatus checks meant files out 2 usage_line
  unknown is = record {
    refused = λ e. absurd cc;
    complete = λ _. by_answer usage is.means (Answered out 2) (λ _. inl refl);
    read_fault = λ e. absurd cc;
    files_failed = kept files.faults.before files.faults.now (EndsWith 3 2) is.read;
    write_fault = λ e. absurd cc;
    out_failed = kept out.faults.before out.faults.now (2 ≡ 4) is.untouched.1;
    whole = λ e. absurd cc;
    front = λ e. absurd cc;
    nothing = λ _ _. is.untouched.0;
    fits = λ _. of_words refl refl;
    answered = λ e. absurd cc;
  }

  unread : IsUnread files out → KeepsStatus checks meant files out 3 read_line
  unread is = record {
    refused = λ e. absurd cc;
    complete = λ sound. absurd (sound (once_may files.faults is.cause));
    read_fault = λ _. is.cause;
    files_failed = λ _. inl refl;
    write_fault = λ e. absurd cc;
    out_failed = kept out.faults.before out.faults.now (3 ≡ 4) is.untouched.1;
    whole = λ e. absurd cc;
    front = λ e. absurd cc;
    nothing = λ _ _. is.untouched.0;
    fits = λ _. of_reading refl refl;
    answered = λ e. absurd cc;
  }

  cut : IsCut meant files out → KeepsStatus checks meant files out 4 write_line
  cut is = record {
    refused = λ e. absurd cc;
    complete = λ _. by_answer (success is.text) is.means (Answered out 4) (λ sound. absurd (sound refl (once_may out.faults is.cause)));
    read_fault = λ e. absurd cc;
    files_failed = kept files.faults.before files.faults.now (EndsWith 3 4) is.read;
    write_fault = λ _. is.cause;
    out_failed = λ _. refl;
    whole = λ e. absurd cc;
    front = λ _. by_answer (success is.text) is.means (λ a. (a.status ≡ 0) × WroteFront out a.text) (refl, is.front);
    nothing = λ _ other. absurd (other refl);
    fits = λ _. of_writing refl refl;
    answered = λ e. absurd cc;
  }

  without_memory : IsUntouched out → KeepsStatus checks meant files out 5 memory_line
  without_memory untouched = record {
    refused = λ e. absurd cc;
    complete = λ _ answer _ _. inr refl;
    read_fault = λ e. absurd cc;
    files_failed = λ _. inr refl;
    write_fault = λ e. absurd cc;
    out_failed = kept out.faults.before out.faults.now (5 ≡ 4) untouched.1;
    whole = λ e. absurd cc;
    front = λ e. absurd cc;
    nothing = λ _ _. untouched.0;
    fits = λ _. of_memory refl refl;
    answered = λ e. absurd cc;
  }

  -- what an ending shows
  shown : (ending : Ending) → Concludes checks meant files out ending
      → KeepsStatus checks meant files out (status_of ending) (line_at_end ending)
  shown Done is = done is
  shown (Refused line) is = said (string_bytes line) is
  shown ReadFault is = unread is
  shown WriteFault is = cut is
  shown NoMemory is = without_memory is

  -- the same of words that may name no command
  shown_of_words : (ending : Option Ending) → ConcludesWords checks meant files out ending
      → KeepsStatus checks meant files out (status_answered ending) (line_said ending)
  shown_of_words (Some ending) is = shown ending is
  shown_of_words None is = unknown is

  -- and of a number that is the status
  pub status_shown : (ending : Option Ending) → ConcludesWords checks meant files out ending → (status : ℕ)
      → status ≡ status_answered ending → KeepsStatus checks meant files out status (line_said ending)
  status_shown ending is status same =
      subst (λ (n : ℕ). KeepsStatus checks meant files out n (line_said ending)) (sym same) (shown_of_words ending is)

-- the status of an ending is one of 0 to 5
pub status_range : (ending : Option Ending) (status : ℕ) → status ≡ status_answered ending → status ≤ 5
status_range ending status same = subst (λ (n : ℕ). n ≤ 5) (sym same) (by_ending ending)
  where
    by_ending : (e : Option Ending) → status_answered e ≤ 5
    by_ending None = omega arith
    by_ending (Some Done) = omega arith
    by_ending (Some (Refused line)) = omega arith
    by_ending (Some ReadFault) = omega arith
    by_ending (Some WriteFault) = omega arith
    by_ending (Some NoMemory) = omega arith

-- and it is 2 where there is none
pub no_ending : (ending : Option Ending) → status_answered ending ≡ 2 → IsNone ending
no_ending None is = refl
no_ending (Some Done) is = absurd cc
no_ending (Some (Refused line)) is = absurd cc
no_ending (Some ReadFault) is = absurd cc
no_ending (Some WriteFault) is = absurd cc
no_ending (Some NoMemory) is = absurd cc

pub status_2 : (ending : Option Ending) → IsNone ending → status_answered ending ≡ 2
status_2 None is = refl
status_2 (Some ending) is = absurd cc
