-- What was said, piece by piece.
use Rattle.std.proofs.Common.{◌≡◌, ℕ, List, [], ◌∷◌, ◌++◌, Option, Result, Ok, Err, Bool, true, false, refl, sym, ◌∙◌, subst, arith}
use Rattle.std.specs.Prelude.{IsTrue, is_ok}
use Rattle.std.specs.Io.KnownBytes.{append_known}
use Rattle.std.proofs.lemmas.List.{append-nil}
use Rattle.std.proofs.lemmas.List.Folds.{concat-append}
use Rattle.std.proofs.lemmas.List.Elements.{All-append, All-cons, All-nil}
use Rattle.def_outside.specs.Calls.{SinkCall, Says, in_whole, cut_off, HasNoFault}
use Rattle.def_outside.specs.Cause.{HasCause, RoseByOne}
use Rattle.def_outside.specs.Sinks.{Writes}
use Rattle.def_outside.proofs.Fronts.{append_known-nil}
use Rattle.def_progress.specs.Progress.{AreProgress, IsProgressLine, Standing, progress_line}
use Rattle.xg_io.specs.Calls.{sink_call}
use Rattle.xg_io.specs.declared.outside.Sink as sinks
use Rattle.xg_io.proofs.Pieces.{prefix_first, prefix_then, then_rest}
use Rattle.xg_close_run.specs.Said.{SaysBy, SaysProgress}

-- a call of a sink
abbrev pub call : Option (List ℕ) → Option (List ℕ) → ℕ → ℕ → ℕ → SinkCall
call before now failed faults_before faults_now = record {
  before = before;
  now = now;
  failed_length = failed;
  faults = record { before = faults_before; now = faults_now };
}

-- a text was said whole or as a front
pub record IsSaid (sink : SinkCall) (text : List ℕ) : Type 0 where
  pub heard : Bool
  pub said : SaysBy heard sink text

-- ---- lines of progress
no_lines : (P : Standing → Type 0) → AreProgress P []
no_lines P = record { lines = []; text_is = refl; each = All-nil (IsProgressLine P) }

more_lines : (P : Standing → Type 0) (xs ys : List ℕ) → AreProgress P xs → AreProgress P ys → AreProgress P (xs ++ ys)
more_lines P xs ys front back = record {
  lines = front.lines ++ back.lines;
  text_is = (λ i. front.text_is i ++ back.text_is i) ∙ sym (concat-append front.lines back.lines);
  each = All-append (IsProgressLine P) front.lines back.lines front.each back.each;
}

one_more : (P : Standing → Type 0) (standing : Standing) → P standing → AreProgress P (progress_line standing)
one_more P standing is = record {
  lines = progress_line standing ∷ [];
  text_is = sym (append-nil (progress_line standing));
  each = All-cons (IsProgressLine P) (progress_line standing) [] (record { standing = standing; text = refl; is_true = is })
      (All-nil (IsProgressLine P));
}

-- what is true by one rule is true by another
mapped : (P Q : Standing → Type 0) → ((standing : Standing) → P standing → Q standing) → (text : List ℕ)
    → AreProgress P text → AreProgress Q text
mapped P Q turn text are = record {
  lines = are.lines;
  text_is = are.text_is;
  each = λ k d low. let line = are.each k d low in
      record { standing = line.standing; text = line.text; is_true = turn line.standing line.is_true };
}

pub progress_mapped : (P Q : Standing → Type 0) (quiet heard : Bool) (err : SinkCall)
    → ((standing : Standing) → P standing → Q standing) → SaysProgress P quiet heard err → SaysProgress Q quiet heard err
progress_mapped P Q quiet heard err turn says = record {
  progress = says.progress;
  lines = mapped P Q turn says.progress says.lines;
  none = says.none;
  said = says.said;
}

-- ---- nothing was said
pub nothing_said : (P : Standing → Type 0) (quiet : Bool) (heard : Bool) (err : SinkCall) → heard ≡ true
    → err.now ≡ err.before → HasNoFault err.faults → SaysProgress P quiet heard err
nothing_said P quiet heard err is same fault = record {
  progress = [];
  lines = no_lines P;
  none = λ _. refl;
  said = subst (λ (b : Bool). SaysBy b err []) (sym is) (fault, same ∙ sym (append_known-nil err.before));
}

-- ---- a line was said, or cut off
says_by : {T E : Type 0} (err : SinkCall) (line : List ℕ) (r : Result T E) → Writes err.before err.now line r
    → HasCause err.faults.before err.faults.now r → SaysBy (is_ok r) err line
says_by err line (Ok x) writes cause = (cause, writes)
says_by err line (Err x) writes cause = (cause, writes)

pub line_said : {T E : Type 0} (P : Standing → Type 0) (quiet heard : Bool) (standing : Standing) (err : SinkCall)
    (r : Result T E) → quiet ≡ false → heard ≡ is_ok r → P standing
    → Writes err.before err.now (progress_line standing) r → HasCause err.faults.before err.faults.now r
    → SaysProgress P quiet heard err
line_said P quiet heard standing err r loud is holds writes cause = record {
  progress = progress_line standing;
  lines = one_more P standing holds;
  none = λ silent. let never : IsTrue false = subst IsTrue loud silent in absurd cc;
  said = subst (λ (b : Bool). SaysBy b err (progress_line standing)) (sym is)
      (says_by err (progress_line standing) r writes cause);
}

-- ---- piece by piece
module _ (before middle now : Option (List ℕ)) (first_failed last_failed first_faults middle_faults last_faults : ℕ) where
  abbrev first : SinkCall
  first = call before middle first_failed first_faults middle_faults

  abbrev last : SinkCall
  last = call middle now last_failed middle_faults last_faults

  abbrev whole : SinkCall
  whole = call before now last_failed first_faults last_faults

  said_then : (heard : Bool) (xs ys : List ℕ) → SaysBy true first xs → SaysBy heard last ys → SaysBy heard whole (xs ++ ys)
  said_then true xs ys front back =
      (back.0 ∙ front.0, then_rest {T = Unit {0}} {E = Unit {0}} before middle now xs ys (Ok tt) front.1 back.1)
  said_then false xs ys front back =
      (subst (λ (n : ℕ). RoseByOne n last_faults) front.0 back.0, prefix_then before middle now xs ys front.1 back.1)

  pub progress_then : (P : Standing → Type 0) (quiet heard : Bool) → SaysProgress P quiet true first
      → SaysProgress P quiet heard last → SaysProgress P quiet heard whole
  progress_then P quiet heard front back = record {
    progress = front.progress ++ back.progress;
    lines = more_lines P front.progress back.progress front.lines back.lines;
    none = λ silent. (λ i. front.none silent i ++ back.none silent i);
    said = said_then heard front.progress back.progress front.said back.said;
  }

  -- the line at the end, where all before it was taken
  pub line_then : (xs line : List ℕ) → SaysBy true first xs → Says last line → IsSaid whole (xs ++ line)
  line_then xs line front (in_whole none wrote) = record { heard = true; said = said_then true xs line front (none, wrote) }
  line_then xs line front (cut_off once cut) = record {
    heard = false;
    said = said_then false xs line front (
      once,
      record {
        count = cut.count;
        appended = cut.appended;
        some_left = λ _. omega (arith, cut.rest, cut.some_left);
      },
    );
  }

-- where a write failed before, a front of the lines is one of all
pub line_unheard : (err : SinkCall) (xs line : List ℕ) → SaysBy false err xs → IsSaid err (xs ++ line)
line_unheard err xs line is = record {
  heard = false;
  said = (is.0, prefix_first err.before err.now xs line is.1);
}

module _ {S : Type 0} (sink : sinks.Ghosts S) (old middle new : S) where
  -- the line of the end, behind what was said before it
  pub said_at_end : (P : Standing → Type 0) (quiet heard : Bool) (line : List ℕ)
      → (says : SaysProgress P quiet heard (sink_call sink old middle)) → (heard ≡ false → new ≡ middle)
      → (heard ≡ true → Says (sink_call sink middle new) line) → IsSaid (sink_call sink old new) (says.progress ++ line)
  said_at_end P quiet true line says same at_end =
      line_then (sink.written old) (sink.written middle) (sink.written new) (sink.failed_length middle)
      (sink.failed_length new) (sink.faults old) (sink.faults middle) (sink.faults new) says.progress line says.said
      (at_end refl)
  said_at_end P quiet false line says same at_end =
      subst (λ (e : S). IsSaid (sink_call sink old e) (says.progress ++ line)) (sym (same refl))
      (line_unheard (sink_call sink old middle) says.progress line says.said)

  -- more lines, behind those before
  pub progress_after : (P : Standing → Type 0) (quiet heard : Bool) → SaysProgress P quiet true (sink_call sink old middle)
      → SaysProgress P quiet heard (sink_call sink middle new) → SaysProgress P quiet heard (sink_call sink old new)
  progress_after P quiet heard front back =
      progress_then (sink.written old) (sink.written middle) (sink.written new) (sink.failed_length middle)
      (sink.failed_length new) (sink.faults old) (sink.faults middle) (sink.faults new) P quiet heard front back

-- where nothing is said, an empty line is
pub says_nothing : (sink : SinkCall) → sink.now ≡ sink.before → HasNoFault sink.faults → Says sink []
says_nothing sink same fault = in_whole fault (same ∙ sym (append_known-nil sink.before))
