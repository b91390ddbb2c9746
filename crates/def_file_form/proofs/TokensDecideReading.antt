-- With the first fault reading stops.
use Rattle.std.proofs.Common.{◌≡◌, ℕ, ◌≤◌, List, [], length, Option, Result, Ok, Err, refl, ap, ◌∙◌, subst, arith}
use Rattle.def_file.specs.declared.FileFault.{FileFault}
use Rattle.def_file.specs.Content.{Record}
use Rattle.def_file.specs.Reading.{name_at, entry_at, PrologueHead, head_at}
use Rattle.def_file_form.specs.Form.{Spelled, IsName, IsEntry}
use Rattle.def_file_form.proofs.SoundEntries.{IsPrologueHead}
use Rattle.def_file_form.specs.Offends.{AreNext, Offends, EndsWhole}
use Rattle.def_file_form.specs.First.{IsHeadTokens, IsCommentTokens, IsEntryTokens, IsHeadUpTo, IsCommentFrom, IsEntryFrom}
use Rattle.def_file_form.proofs.Languages.{Stuck, offends}
use Rattle.def_file_form.proofs.TokensOfReadParts.{WholeRead, entry_stuck, entry_whole, comment_stuck, comment_whole, head_stuck, head_whole}
use Rattle.def_file_form.proofs.OneEndOrOneFault.{one_offence, IsEnded, one_end, stuck_no_end, offence_no_end}
use Rattle.def_file_form.proofs.TokensHaveOneMeaning.{AreTokens, next_tokens, entry_once, name_once, head_once, head_ends}

-- A part's reading is decided by its tokens.

module _ {A : Type 0} (L : List Spelled → Type 0) (R : A → List Spelled → List Spelled → Type 0)
    (word : (v : A) (ss : List Spelled) → R v ss [] → L ss)
    (once : (ss : List Spelled) → AreTokens ss → (v w : A) → R v ss [] → R w ss [] → v ≡ w) (whole : List ℕ) (at : ℕ)
    (within : at ≤ length whole) (r : Result (A × ℕ) FileFault)
    (stuck : (fault : FileFault) → r ≡ Err fault → Stuck L whole at fault)
    (read : (x : A × ℕ) → r ≡ Ok x → WholeRead L R whole at x.0 x.1) where
  ended : (v : A) (end : ℕ) → (w : WholeRead L R whole at v end) → IsEnded L whole at w.tokens end
  ended v end w = record { next = w.next; word = word v w.tokens w.is; ends = w.ends }

  decided : (v : A) (ss : List Spelled) (end : ℕ) → AreNext whole at ss end → R v ss [] → EndsWhole L whole ss end
      → r ≡ Ok (v, end)
  decided v ss end next is ends = by_reading r refl
    where
      here : IsEnded L whole at ss end
      here = record { next = next; word = word v ss is; ends = ends }

      by_reading : (t : Result (A × ℕ) FileFault) → r ≡ t → r ≡ Ok (v, end)
      by_reading (Err fault) e = absurd (stuck_no_end L whole at ss end here fault (stuck fault e))
      by_reading (Ok x) e =
          let w = read x e in
          let same = one_end L whole at w.tokens ss x.1 end (ended x.0 x.1 w) here in
          let value : x.0 ≡ v = once ss (next_tokens whole at ss end within next) x.0 v (subst (λ tokens. R x.0 tokens []) same.0 w.is) is in
          e ∙ (λ i. Ok (value i, same.1 i))

  offended : (fault : FileFault) → Offends L whole at fault → r ≡ Err fault
  offended fault o = by_reading r refl
    where
      by_reading : (t : Result (A × ℕ) FileFault) → r ≡ t → r ≡ Err fault
      by_reading (Err other) e = e ∙ ap Err (one_offence L whole at other fault (offends L whole at other (stuck other e)) o)
      by_reading (Ok x) e = let w = read x e in absurd (offence_no_end L whole at w.tokens x.1 (ended x.0 x.1 w) fault w.no_number o)

-- where an entry stands that goes on while it can, just this one is read, up to its end
pub entry_decided : (whole : List ℕ) (at : ℕ) → at ≤ length whole → (r : Record) (end : ℕ) → IsEntryFrom whole at r end
    → entry_at whole at ≡ Ok (r, end)
entry_decided whole at within r end is = decided IsEntryTokens IsEntry (λ v ss w. (v, w)) entry_once whole at within (entry_at whole at)
    (entry_stuck whole at within) (entry_whole whole at within) r is.tokens end is.next is.entry is.ends

-- the fault of the first token that can't be taken for an entry is what reading the entry ends with
pub entry_offended : (whole : List ℕ) (at : ℕ) → at ≤ length whole → (fault : FileFault)
    → Offends IsEntryTokens whole at fault → entry_at whole at ≡ Err fault
entry_offended whole at within fault o = offended IsEntryTokens IsEntry (λ v ss w. (v, w)) entry_once whole at within (entry_at whole at)
    (entry_stuck whole at within) (entry_whole whole at within) fault o

-- where a comment stands, or none, it is read so, up to its end
pub comment_decided : (whole : List ℕ) (at : ℕ) → at ≤ length whole → (comment : Option (List ℕ)) (end : ℕ)
    → IsCommentFrom whole at comment end → name_at whole at ≡ Ok (comment, end)
comment_decided whole at within comment end is = decided IsCommentTokens IsName (λ v ss w. (v, w)) name_once whole at within (name_at whole at)
    (comment_stuck whole at within) (comment_whole whole at within) comment is.tokens end is.next is.name is.ends

-- the fault of the first token that can't be taken for a comment is what reading the comment ends with
pub comment_offended : (whole : List ℕ) (at : ℕ) → at ≤ length whole → (fault : FileFault)
    → Offends IsCommentTokens whole at fault → name_at whole at ≡ Err fault
comment_offended whole at within fault o = offended IsCommentTokens IsName (λ v ss w. (v, w)) name_once whole at within (name_at whole at)
    (comment_stuck whole at within) (comment_whole whole at within) fault o

head_of_once : (ss : List Spelled) → AreTokens ss → (v w : PrologueHead) → IsPrologueHead v ss []
    → IsPrologueHead w ss [] → v ≡ w
head_of_once ss are v w a b = let same = head_once v.0 w.0 v.1 w.1 ss [] [] a b in (λ i. (same.0 i, same.1 i))

-- where the prologue's head stands, its title and its names are read, up to its end
pub head_decided : (whole title : List ℕ) (names : List (List ℕ)) (end : ℕ) → IsHeadUpTo whole title names end
    → head_at whole 0 ≡ Ok ((title, names), end)
head_decided whole title names end is =
    decided IsHeadTokens IsPrologueHead (λ v ss w. (v.0, v.1, w)) head_of_once whole 0 (omega arith) (head_at whole 0) (head_stuck whole) (head_whole whole)
    (title, names) is.tokens end is.next is.head (head_ends whole end title names is.tokens is.head)

-- the fault of the first token that can't be taken for the head is what reading the head ends with
pub head_offended : (whole : List ℕ) (fault : FileFault) → Offends IsHeadTokens whole 0 fault
    → head_at whole 0 ≡ Err fault
head_offended whole fault o = offended IsHeadTokens IsPrologueHead (λ v ss w. (v.0, v.1, w)) head_of_once whole 0 (omega arith) (head_at whole 0)
    (head_stuck whole) (head_whole whole) fault o
