-- Parts of a file that were read, by their tokens up to an offset.
use Rattle.std.proofs.Common.{◌≡◌, ℕ, ◌≤◌, List, [], ◌∷◌, ◌++◌, length, Option, Result, Ok, Err, sym, refl, ap, ◌∙◌, subst, arith, append-nil}
use Rattle.def_file_tokens.specs.declared.Token.TheVariants as kinds
use Rattle.def_file_tokens.specs.declared.Lexeme.{Lexeme}
use Rattle.def_file.specs.declared.FileFault.{FileFault}
use Rattle.def_file.specs.Content.{Record}
use Rattle.def_file.specs.Reading.{name_at, PrologueHead, head_at, entry_at}
use Rattle.def_file_form.specs.Form.{Spelled, number, IsName, IsHead, IsEntry, spelled_at}
use Rattle.def_file_form.proofs.TokenByToken.{StandUpTo, Read}
use Rattle.def_file_form.proofs.SoundParts.{name_read}
use Rattle.def_file_form.proofs.SoundEntries.{IsPrologueHead, entry_read, head_read}
use Rattle.def_file_form.specs.Offends.{AreNext, IsFront, EndsWhole}
use Rattle.def_file_form.specs.First.{IsHeadTokens, IsCommentTokens, IsEntryTokens, IsHeadUpTo, IsCommentFrom, IsEntryFrom}
use Rattle.def_file_form.proofs.Languages.{Alike, Stuck, stuck_walk, PartEndsAt, ends_walk}
use Rattle.def_file_form.proofs.NextByteTellsToken.{step_grows}
use Rattle.def_file_form.proofs.SuccessiveReadings.{HasWord, Goes}
use Rattle.def_file_form.proofs.OneTokenParts.{Part, NoFirst, name_goes}
use Rattle.def_file_form.proofs.EntryParts.{MayFollow, entry_goes}
use Rattle.def_file_form.proofs.Heads.{head_goes}

-- Tokens from one offset up to another.

pub are_next : (whole : List ℕ) (at : ℕ) (ss : List Spelled) (end : ℕ) → StandUpTo whole at ss end
    → AreNext whole at ss end
are_next whole at [] end takes = takes
are_next whole at (s ∷ ss) end takes = let step = takes.1 in (takes.0, step.next, step.not_end, step.spelled, are_next whole takes.0.end ss end takes.2)

-- tokens that come one after another end no earlier than they begin, and within the bytes
pub next_order : (whole : List ℕ) (at : ℕ) (ss : List Spelled) (end : ℕ) → at ≤ length whole → AreNext whole at ss end
    → (at ≤ end) × (end ≤ length whole)
next_order whole at [] end within next = (omega (arith, next), omega (arith, next, within))
next_order whole at (s ∷ ss) end within next =
    let grown = step_grows whole at within next.0 (record { next = next.1; not_end = next.2 }) in
    let later = next_order whole next.0.end ss end grown.1 next.4 in
    (omega (arith, grown.0, later.0), later.1)

-- up to one offset there are no other tokens
pub next_once : (whole : List ℕ) (at : ℕ) (ss ts : List Spelled) (end : ℕ) → at ≤ length whole → AreNext whole at ss end
    → AreNext whole at ts end → ss ≡ ts
next_once whole at [] [] end within a b = refl
next_once whole at [] (t ∷ ts) end within a b =
    let grown = step_grows whole at within b.0 (record { next = b.1; not_end = b.2 }) in
    let later = next_order whole b.0.end ts end grown.1 b.4 in
    absurd (omega (arith, grown.0, later.0, a))
next_once whole at (s ∷ ss) [] end within a b =
    let grown = step_grows whole at within a.0 (record { next = a.1; not_end = a.2 }) in
    let later = next_order whole a.0.end ss end grown.1 a.4 in
    absurd (omega (arith, grown.0, later.0, b))
next_once whole at (s ∷ ss) (t ∷ ts) end within a b =
    let same : a.0 ≡ b.0 = let e = sym a.1 ∙ b.1 in cc in
    let first : s ≡ t = sym a.3 ∙ ap (spelled_at whole) same ∙ b.3 in
    let grown = step_grows whole at within a.0 (record { next = a.1; not_end = a.2 }) in
    let later = next_once whole a.0.end ss ts end grown.1 a.4 (subst (λ (l : Lexeme). AreNext whole l.end ts end) (sym same) b.4) in
    ap (λ x. x ∷ ss) first ∙ ap (λ l. t ∷ l) later

-- A part that is whole, with nothing behind it.

abbrev pub WholeOf : {A : Type 0} → (A → List Spelled → List Spelled → Type 0) → List Spelled → Type 0
WholeOf {A} R tokens = (v : A) × R v tokens []

abbrev pub Nothing : List Spelled → Type 0
Nothing ss = ss ≡ []

whole_alike : {A : Type 0} (R : A → List Spelled → List Spelled → Type 0) → Alike (WholeOf R) (Part R Nothing)
whole_alike R = record { to = λ ss w. (w.0, [], w.1, refl); back = λ ss l. (l.0, subst (λ rest. R l.0 ss rest) l.3 l.2) }

-- behind nothing that may come nothing goes on
nothing_ends : (whole : List ℕ) (end : ℕ) → PartEndsAt Nothing whole end end
nothing_ends whole end = record {
  tokens = [];
  before = refl;
  word = refl;
  ends = record { token = λ t next front. let e = front.1 in cc; no_text = λ p next takes. let e = takes.2.1 in cc };
  no_number = λ bytes front. let e = front.1 in cc;
}

-- a part that was read, with all of its tokens, behind which nothing goes on
pub record WholeRead {A : Type 0} (L : List Spelled → Type 0) (R : A → List Spelled → List Spelled → Type 0)
    (whole : List ℕ) (at : ℕ) (v : A) (end : ℕ) : Type 0 where
  pub tokens : List Spelled
  pub next : AreNext whole at tokens end
  pub is : R v tokens []
  pub ends : EndsWhole L whole tokens end
  pub no_number : (bytes : List ℕ) → IsFront L (tokens ++ number bytes ∷ []) → ⊥
  pub within : end ≤ length whole

module _ {A : Type 0} (L : List Spelled → Type 0) (R : A → List Spelled → List Spelled → Type 0)
    (alike : Alike L (Part R Nothing)) (least : ℕ) (F : (List Spelled → Type 0) → Type 0) (none_follows : F Nothing)
    (whole : List ℕ) (at : ℕ) (at_within : at ≤ length whole) (r : Result (A × ℕ) FileFault)
    (goes : Goes least F (Part R) whole at r) where
  pub whole_stuck : (fault : FileFault) → r ≡ Err fault → Stuck L whole at fault
  whole_stuck fault e = (stuck_walk whole fault).alike L (Part R Nothing) at alike (goes.stuck fault e Nothing none_follows)

  pub whole_read : (x : A × ℕ) → r ≡ Ok x → Read whole at x.1 (R x.0) → WholeRead L R whole at x.0 x.1
  whole_read x e read =
      let p = goes.past x e in
      let ends = (ends_walk whole x.1).alike L (Part R Nothing) at alike (p.along (λ L n. PartEndsAt L whole x.1 n) (ends_walk whole x.1) Nothing none_follows
      (nothing_ends whole x.1)) in
      let next = are_next whole at read.tokens x.1 read.takes in
      let same : ends.tokens ≡ read.tokens = next_once whole at ends.tokens read.tokens x.1 at_within ends.before next in
      record {
        tokens = read.tokens;
        next = next;
        is = subst (λ ss. R x.0 ss []) (append-nil read.tokens) (read.is []);
        ends = subst (λ ss. EndsWhole L whole ss x.1) same ends.ends;
        no_number = subst (λ ss. (bytes : List ℕ) → IsFront L (ss ++ number bytes ∷ []) → ⊥) same ends.no_number;
        within = p.within;
      }

none_first : NoFirst kinds.Text Nothing
none_first = record { word = ([], refl); apart = λ s ss e same. let clash = e in cc }

none_behind : MayFollow Nothing
none_behind = record { word = ([], refl); no_text = λ s ss e same. let clash = e in cc; no_open = λ s ss e same. let clash = e in cc }

-- Entries.

-- where reading an entry ends with a fault, it is stuck with this fault
pub entry_stuck : (whole : List ℕ) (at : ℕ) → at ≤ length whole → (fault : FileFault) → entry_at whole at ≡ Err fault
    → Stuck IsEntryTokens whole at fault
entry_stuck whole at within fault e = whole_stuck IsEntryTokens IsEntry (whole_alike IsEntry) 1 MayFollow none_behind whole at within (entry_at whole at)
    (entry_goes whole at within) fault e

-- an entry that was read has all the tokens up to its end, and none goes on behind them
pub entry_whole : (whole : List ℕ) (at : ℕ) → at ≤ length whole → (x : Record × ℕ) → entry_at whole at ≡ Ok x
    → WholeRead IsEntryTokens IsEntry whole at x.0 x.1
entry_whole whole at within x e = whole_read IsEntryTokens IsEntry (whole_alike IsEntry) 1 MayFollow none_behind whole at within (entry_at whole at)
    (entry_goes whole at within) x e (entry_read whole at within x e)

-- an entry with all the tokens up to its end is one from its offset on
pub entry_from : (whole : List ℕ) (at : ℕ) (r : Record) (end : ℕ) → WholeRead IsEntryTokens IsEntry whole at r end
    → IsEntryFrom whole at r end
entry_from whole at r end w = record { tokens = w.tokens; next = w.next; entry = w.is; ends = w.ends }

-- The comment.

-- where reading the comment ends with a fault, it is stuck with this fault
pub comment_stuck : (whole : List ℕ) (at : ℕ) → at ≤ length whole → (fault : FileFault) → name_at whole at ≡ Err fault
    → Stuck IsCommentTokens whole at fault
comment_stuck whole at within fault e = whole_stuck IsCommentTokens IsName (whole_alike IsName) 0 (NoFirst kinds.Text) none_first whole at within
    (name_at whole at) (name_goes whole at within) fault e

-- a comment that was read, or none, has all the tokens up to its end, and none goes on behind them
pub comment_whole : (whole : List ℕ) (at : ℕ) → at ≤ length whole → (x : Option (List ℕ) × ℕ) → name_at whole at ≡ Ok x
    → WholeRead IsCommentTokens IsName whole at x.0 x.1
comment_whole whole at within x e = whole_read IsCommentTokens IsName (whole_alike IsName) 0 (NoFirst kinds.Text) none_first whole at within (name_at whole at)
    (name_goes whole at within) x e (name_read whole at within x e)

-- a comment with all the tokens up to its end is one from its offset on
pub comment_from : (whole : List ℕ) (at : ℕ) (comment : Option (List ℕ)) (end : ℕ)
    → WholeRead IsCommentTokens IsName whole at comment end → IsCommentFrom whole at comment end
comment_from whole at comment end w = record { tokens = w.tokens; next = w.next; name = w.is; ends = w.ends }

-- The head.

head_alike : Alike IsHeadTokens (Part IsPrologueHead Nothing)
head_alike = record { to = λ ss h. ((h.0, h.1), [], h.2, refl); back = λ ss l. (l.0.0, l.0.1, subst (λ rest. IsHead l.0.0 l.0.1 ss rest) l.3 l.2) }

-- where reading the head ends with a fault, it is stuck with this fault
pub head_stuck : (whole : List ℕ) (fault : FileFault) → head_at whole 0 ≡ Err fault → Stuck IsHeadTokens whole 0 fault
head_stuck whole fault e = whole_stuck IsHeadTokens IsPrologueHead head_alike 1 HasWord ([], refl) whole 0 (omega arith) (head_at whole 0)
    (head_goes whole 0 (omega arith)) fault e

-- a head that was read has all the tokens up to its end, and none goes on behind them
pub head_whole : (whole : List ℕ) (x : PrologueHead × ℕ) → head_at whole 0 ≡ Ok x
    → WholeRead IsHeadTokens IsPrologueHead whole 0 x.0 x.1
head_whole whole x e = whole_read IsHeadTokens IsPrologueHead head_alike 1 HasWord ([], refl) whole 0 (omega arith) (head_at whole 0)
    (head_goes whole 0 (omega arith)) x e (head_read whole 0 (omega arith) x e)

-- a head with all the tokens up to its end is one from the beginning of the bytes
pub head_up_to : (whole title : List ℕ) (names : List (List ℕ)) (end : ℕ)
    → WholeRead IsHeadTokens IsPrologueHead whole 0 (title, names) end → IsHeadUpTo whole title names end
head_up_to whole title names end w = record { tokens = w.tokens; next = w.next; head = w.is }
