-- The fault with which reading stops is the first.
use Rattle.std.proofs.Common.{◌≡◌, ◌≢◌, ℕ, zero, suc, ◌+◌, ◌<◌, ◌≤◌, Bool, true, false, cond, List, [], ◌∷◌, ◌++◌, length, Option, Some, None, Result, Ok, Err}
use Rattle.std.proofs.Common.{sym, refl, ap, ◌∙◌, subst, arith, length-append}
use Rattle.std.specs.Prelude.{nat_eq, unwrap_or}
use Rattle.std.proofs.lemmas.Bool.{eqb-true, eqb-false}
use Rattle.def_file_tokens.specs.declared.Token.TheVariants as kinds
use Rattle.def_file_tokens.specs.declared.Lexeme.{Lexeme}
use Rattle.def_file_tokens.specs.declared.LexFault.{LexFault}
use Rattle.def_file_tokens.specs.declared.LexFault.TheVariants as lexing
use Rattle.def_file_tokens.specs.Tokens.{next_from}
use Rattle.def_file_tokens.specs.Spelling.{IsFirstByteFrom}
use Rattle.def_file_tokens.proofs.TokenLemmas.{next_from-syntax, next_from-unclosed}
use Rattle.def_tree.specs.Tree.{wanted, Begins}
use Rattle.def_tree.proofs.Lists.{Begins-append}
use Rattle.def_file.specs.declared.FileFault.{FileFault}
use Rattle.def_file.specs.declared.FileFault.TheVariants.{TrailingText, Players}
use Rattle.def_file.specs.Content.{Prologue, Record, Contents, no_contents}
use Rattle.def_tree.specs.Rules.{most_nodes}
use Rattle.def_file.specs.Faults.{record_fault}
use Rattle.def_file.specs.Adding.{with_record, node_with}
use Rattle.def_file.specs.Reading.{◌>>=◌, is_kind, name_at, checked_names, nth_name, prologue_at, entry_at, unless_fault, judged, entries_from, trailing}
use Rattle.def_file.specs.Reading.{nothing_at, game_at, PrologueHead, head_at, behind_head}
use Rattle.def_file.specs.Entries.{contents_of}
use Rattle.def_file.proofs.OneMore.{one_more}
use Rattle.def_file_form.specs.Form.{IsEntry}
use Rattle.def_file_form.proofs.TokenByToken.{then_ok}
use Rattle.def_file.proofs.EntryFaults.{entry_fault_is_first_broken}
use Rattle.def_file.proofs.NoFault.{nothing_at_fault, no_fault_more, entries_limit}
use Rattle.def_file_form.proofs.Entries.{judged_ok}
use Rattle.def_file_form.proofs.SoundEntries.{IsPrologueHead, two_names}
use Rattle.def_file_form.specs.First.{IsHeadTokens, IsEntryTokens, IsHeadUpTo, IsEntryFrom, AreEntriesFrom, IsPrologueUpTo, IsReadUpTo, FirstFault, in_head}
use Rattle.def_file_form.specs.First.{in_players, in_comment, in_entry, in_rules, behind_tree}
use Rattle.def_file_form.proofs.Languages.{offends}
use Rattle.def_file_form.proofs.NextByteTellsToken.{token_first_byte}
use Rattle.def_file_form.proofs.Heads.{prologue_is}
use Rattle.def_file_form.proofs.TokensOfReadParts.{WholeRead, entry_stuck, entry_whole, entry_from, comment_stuck, comment_whole, comment_from, head_stuck}
use Rattle.def_file_form.proofs.TokensOfReadParts.{head_whole, head_up_to}

-- one reading after another that gives a fault
pub bind_err : {A B G : Type 0} (r : Result A FileFault) (f : A → Result B FileFault) (fault : FileFault)
    → (r >>= f) ≡ Err fault → (r ≡ Err fault → G) → ((x : A) → r ≡ Ok x → f x ≡ Err fault → G) → G
bind_err (Ok x) f fault e bad go = go x refl e
bind_err (Err d) f fault e bad go = let same : d ≡ fault = cc in bad (ap Err same)

-- two names, and another number of them
pub data Checked (names : List (List ℕ)) (at : ℕ) : Type 0 where
  two : length names ≡ 2 → checked_names names at ≡ Ok at → Checked names at
  others : length names ≢ 2 → checked_names names at ≡ Err (Players (length names)) → Checked names at

-- two names pass, and any other number is the fault of the players
pub checked : (names : List (List ℕ)) (at : ℕ) → Checked names at
checked names at = chosen (nat_eq (length names) 2) refl
  where
    chosen : (b : Bool) → nat_eq (length names) 2 ≡ b → Checked names at
    chosen true is = two (eqb-true (length names) 2 is) (rw is refl)
    chosen false is = others (eqb-false (length names) 2 is) (rw is refl)

-- The prologue.

pub record PrologueRead (whole : List ℕ) (p : Prologue) (end : ℕ) : Type 0 where
  pub is : IsPrologueUpTo whole p end
  pub within : end ≤ length whole

module _ (whole : List ℕ) (head : PrologueHead × ℕ)
    (w : WholeRead IsHeadTokens IsPrologueHead whole 0 head.0 head.1) where
  abbrev comment_made : Option (List ℕ) × ℕ → Prologue
  comment_made comment = record { title = head.0.0; one = nth_name head.0.1 0; two = nth_name head.0.1 1; comment = unwrap_or comment.0 [] }

  two_head : length head.0.1 ≡ 2 → IsHeadUpTo whole head.0.0 (nth_name head.0.1 0 ∷ nth_name head.0.1 1 ∷ []) head.1
  two_head count = subst (λ ns. IsHeadUpTo whole head.0.0 ns head.1) (two_names head.0.1 count) (head_up_to whole head.0.0 head.0.1 head.1 w)

  behind_two : checked_names head.0.1 head.1 ≡ Ok head.1
      → behind_head whole head ≡ (name_at whole head.1 >>= λ comment. Ok (
        record
            { title = head.0.0; one = nth_name head.0.1 0; two = nth_name head.0.1 1; comment = unwrap_or comment.0 [] },
        comment.1,
      ))
  unfolding behind_head
  behind_two is = ap (λ r. r >>= λ behind. (name_at whole behind >>= λ comment. Ok
      (record { title = head.0.0; one = nth_name head.0.1 0; two = nth_name head.0.1 1; comment = unwrap_or comment.0 [] }, comment.1))) is

  behind_others : checked_names head.0.1 head.1 ≡ Err (Players (length head.0.1))
      → behind_head whole head ≡ Err (Players (length head.0.1))
  unfolding behind_head
  behind_others is = ap (λ r. r >>= λ behind. (name_at whole behind >>= λ comment. Ok
      (record { title = head.0.0; one = nth_name head.0.1 0; two = nth_name head.0.1 1; comment = unwrap_or comment.0 [] }, comment.1))) is

  behind_fault : (fault : FileFault) → behind_head whole head ≡ Err fault → FirstFault whole fault
  behind_fault fault e = elim (checked head.0.1 head.1) [
    | others count is ↦
        let same : Players (length head.0.1) ≡ fault = let both = sym (behind_others is) ∙ e in cc in
        in_players (record {
          title = head.0.0;
          names = head.0.1;
          end = head.1;
          head = head_up_to whole head.0.0 head.0.1 head.1 w;
          count = count;
          fault_is = sym same;
        })
    | two count is ↦
        bind_err (name_at whole head.1) _ fault (sym (behind_two is) ∙ e)
        (λ bad. in_comment (record {
          title = head.0.0;
          one = nth_name head.0.1 0;
          two = nth_name head.0.1 1;
          end = head.1;
          head = two_head count;
          offends = offends _ whole head.1 fault (comment_stuck whole head.1 w.within fault bad);
        }))
        (λ comment ok none. absurd cc)
  ]

  behind_read : (x : Prologue × ℕ) → behind_head whole head ≡ Ok x → PrologueRead whole x.0 x.1
  behind_read x e = elim (checked head.0.1 head.1) [
    | others count is ↦ let clash = sym (behind_others is) ∙ e in absurd cc
    | two count is ↦
        then_ok (name_at whole head.1) _ x (sym (behind_two is) ∙ e) (λ comment ok e.
        let c = comment_whole whole head.1 w.within comment ok in
        let same : (comment_made comment, comment.1) ≡ x = cc in
        subst (λ (y : Prologue × ℕ). PrologueRead whole y.0 y.1) same (record {
          is = record { behind = head.1; comment = comment.0; head = two_head count; remark = comment_from whole head.1 comment.0 comment.1 c; text = refl };
          within = c.within;
        }))
  ]

pub prologue_fault : (whole : List ℕ) (fault : FileFault) → prologue_at whole 0 ≡ Err fault → FirstFault whole fault
prologue_fault whole fault e =
    bind_err (head_at whole 0) (behind_head whole) fault (sym (prologue_is whole 0) ∙ e)
    (λ bad. in_head (offends _ whole 0 fault (head_stuck whole fault bad)))
    (λ head ok e. behind_fault whole head (head_whole whole head ok) fault e)

pub prologue_read : (whole : List ℕ) (x : Prologue × ℕ) → prologue_at whole 0 ≡ Ok x → PrologueRead whole x.0 x.1
prologue_read whole x e =
    then_ok (head_at whole 0) (behind_head whole) x (sym (prologue_is whole 0) ∙ e) (λ head ok e. behind_read whole head (head_whole whole head ok) x e)

-- Entries.

-- one more entry
entries_more : (whole : List ℕ) (at mid : ℕ) (rs : List Record) (r : Record) (end : ℕ) → AreEntriesFrom whole at rs mid
    → IsEntryFrom whole mid r end → AreEntriesFrom whole at (rs ++ r ∷ []) end
entries_more whole at mid [] r end are is = (end, subst (λ n. IsEntryFrom whole n r end) (sym are) is, refl)
entries_more whole at mid (x ∷ xs) r end are is = (are.0, are.1, entries_more whole are.0 mid xs r end are.2 is)

pub read_more : (whole : List ℕ) (p : Prologue) (rs : List Record) (at : ℕ) (r : Record) (end : ℕ)
    → IsReadUpTo whole p rs at → 0 < wanted 1 (contents_of rs).nodes → IsEntryFrom whole at r end
    → record_fault (contents_of rs) r ≡ None → IsReadUpTo whole p (rs ++ r ∷ []) end
read_more whole p rs at r end read some is none = record {
  behind = read.behind;
  prologue = read.prologue;
  entries = entries_more whole read.behind at rs r end read.entries is;
  no_fault = no_fault_more rs r read.no_fault none;
  begins = subst (λ (c : Contents). Begins 1 c.nodes) (sym (one_more rs r))
      (Begins-append 1 (contents_of rs).nodes (node_with (contents_of rs) r ∷ []) read.begins (some, tt));
}

judged_err : (contents : Contents) (r : Record) (fault : FileFault) → judged contents r ≡ Err fault
    → record_fault contents r ≡ Some fault
unfolding judged
judged_err contents r fault e = unless (record_fault contents r) e
  where
    unless : (found : Option FileFault) → unless_fault found (with_record contents r) ≡ Err fault → found ≡ Some fault
    unless None e = absurd cc
    unless (Some other) e = cc

-- all entries of a whole tree
pub record AllRead (whole : List ℕ) (p : Prologue) (x : Contents × ℕ) : Type 0 where
  pub entries : List Record
  pub read : IsReadUpTo whole p entries x.1
  pub whole_tree : wanted 1 (contents_of entries).nodes ≡ 0
  pub known : x.0 ≡ contents_of entries
  pub within : x.1 ≤ length whole

-- what reading entries gives: all of them, or the first fault
abbrev AnswersEntries : List ℕ → Prologue → Result (Contents × ℕ) FileFault → Type 0
AnswersEntries whole p (Ok x) = AllRead whole p x
AnswersEntries whole p (Err fault) = FirstFault whole fault

module _ (whole : List ℕ) (p : Prologue) (most : ℕ) (most_is : most ≡ most_nodes) where
  entries_answer : (left : ℕ) (rs : List Record) (contents : Contents) (at : ℕ) → contents ≡ contents_of rs
      → at ≤ length whole → IsReadUpTo whole p rs at → most < length rs + left
      → AnswersEntries whole p (entries_from left contents whole at)
  unfolding entries_from
  entries_answer zero rs contents at known within read fuel = let limit = entries_limit most most_is rs read.no_fault in absurd (omega (arith, limit, fuel))
  entries_answer (suc left) rs contents at known within read fuel =
      chosen (nat_eq (wanted 1 contents.nodes) 0) refl (λ r end inner next known more. entries_answer left (rs ++ r ∷ []) next end known inner more
      (omega (arith, fuel, length-append rs (r ∷ []))))
    where
      Again : Type 0
      Again = (r : Record) (end : ℕ) → end ≤ length whole → (next : Contents) → next ≡ contents_of (rs ++ r ∷ []) → IsReadUpTo whole p (rs ++ r ∷ []) end
          → AnswersEntries whole p (entries_from left next whole end)

      judge : 0 < wanted 1 (contents_of rs).nodes → (x : Record × ℕ) → WholeRead IsEntryTokens IsEntry whole at x.0 x.1
          → (j : Result Contents FileFault) → judged contents x.0 ≡ j → Again
          → AnswersEntries whole p (j >>= λ next. entries_from left next whole x.1)
      judge some x w (Ok next) is again =
          let ok = judged_ok contents x.0 next is in
          again x.0 x.1 w.within next (ok.1 ∙ ap (λ c. with_record c x.0) known ∙ sym (one_more rs x.0))
          (read_more whole p rs at x.0 x.1 read some (entry_from whole at x.0 x.1 w) (ap (λ c. record_fault c x.0) (sym known) ∙ ok.0))
      judge some x w (Err fault) is again = in_rules (record {
        prologue = p;
        entries = rs;
        end = at;
        read = read;
        open_tree = λ none. omega (arith, some, none);
        entry = x.0;
        behind = x.1;
        next = entry_from whole at x.0 x.1 w;
        rule = (entry_fault_is_first_broken rs x.0 fault read.no_fault).0 (ap (λ c. record_fault c x.0) (sym known) ∙ judged_err contents x.0 fault is);
      })

      entry : 0 < wanted 1 (contents_of rs).nodes → (e : Result (Record × ℕ) FileFault) → entry_at whole at ≡ e → Again
          → AnswersEntries whole p (e >>= λ x. judged contents x.0 >>= λ next. entries_from left next whole x.1)
      entry some (Ok x) is again = judge some x (entry_whole whole at within x is) (judged contents x.0) refl again
      entry some (Err fault) is again = in_entry (record {
        prologue = p;
        entries = rs;
        end = at;
        read = read;
        open_tree = λ none. omega (arith, some, none);
        offends = offends _ whole at fault (entry_stuck whole at within fault is);
      })

      chosen : (b : Bool) → nat_eq (wanted 1 contents.nodes) 0 ≡ b → Again
          → AnswersEntries whole p (cond b (Ok (contents, at)) (entry_at whole at >>= λ x. judged contents x.0 >>= λ next. entries_from left next whole x.1))
      chosen true is again = record {
        entries = rs;
        read = read;
        whole_tree = ap (λ (c : Contents). wanted 1 c.nodes) (sym known) ∙ eqb-true _ 0 is;
        known = known;
        within = within;
      }
      chosen false is again =
          let none : wanted 1 contents.nodes ≢ 0 = eqb-false _ 0 is in
          let same : wanted 1 contents.nodes ≡ wanted 1 (contents_of rs).nodes = ap (λ (c : Contents). wanted 1 c.nodes) known in
          entry (omega (arith, none, same)) (entry_at whole at) refl again

answered : (whole : List ℕ) (p : Prologue) (r t : Result (Contents × ℕ) FileFault) → r ≡ t → AnswersEntries whole p r
    → AnswersEntries whole p t
answered whole p r t same a = subst (AnswersEntries whole p) same a

-- from the beginning
nothing_read : (whole : List ℕ) (p : Prologue) (end : ℕ) → IsPrologueUpTo whole p end → IsReadUpTo whole p [] end
nothing_read whole p end is = record { behind = end; prologue = is; entries = refl; no_fault = nothing_at_fault; begins = tt }

pub tree_answer : (whole : List ℕ) (p : Prologue) (at : ℕ) → PrologueRead whole p at
    → AnswersEntries whole p (entries_from (most_nodes + 1) no_contents whole at)
tree_answer whole p at w = from (most_nodes) refl
  where
    from : (most : ℕ) → most ≡ most_nodes → AnswersEntries whole p (entries_from (most + 1) no_contents whole at)
    from most is = entries_answer whole p most is (most + 1) [] no_contents at refl w.within (nothing_read whole p at w.is) (omega arith)

-- Behind the tree.

-- what stands behind the tree is the fault of the rest
pub nothing_fault : (whole : List ℕ) (at : ℕ) → at ≤ length whole → (fault : FileFault)
    → nothing_at whole at ≡ Err fault → (place : ℕ) × IsFirstByteFrom whole at place × (fault ≡ TrailingText place)
unfolding nothing_at
nothing_fault whole at within fault e = by_next (next_from whole at) refl e
  where
    chosen : (l : Lexeme) (b : Bool) → is_kind kinds.End l.kind ≡ b → next_from whole at ≡ Ok l
        → cond b (Ok l.end) (Err (TrailingText l.start)) ≡ Err fault
        → (place : ℕ) × IsFirstByteFrom whole at place × (fault ≡ TrailingText place)
    chosen l true is next e = absurd cc
    chosen l false is next e = (
      l.start,
      token_first_byte whole at within l
          (record { next = next; not_end = λ ends. let clash : true ≡ false = sym (ap (is_kind kinds.End) ends) ∙ is in cc }),
      cc,
    )

    by_next : (r : Result Lexeme LexFault) → next_from whole at ≡ r → trailing r ≡ Err fault
        → (place : ℕ) × IsFirstByteFrom whole at place × (fault ≡ TrailingText place)
    by_next (Ok l) next e = chosen l (is_kind kinds.End l.kind) refl next e
    by_next (Err (lexing.Syntax place)) next e = (place, (next_from-syntax whole at within place next).first, cc)
    by_next (Err (lexing.Unclosed place)) next e = (place, (next_from-unclosed whole at within place next).first, cc)

-- the law: the fault with which reading stops is the first
pub fault_first : (whole : List ℕ) (fault : FileFault) → game_at whole ≡ Err fault → FirstFault whole fault
unfolding game_at
fault_first whole fault e =
    bind_err (prologue_at whole 0) _ fault e (prologue_fault whole fault) (λ head ok e.
    let w = prologue_read whole head ok in
    bind_err (entries_from (most_nodes + 1) no_contents whole head.1) _ fault e
    (λ bad. answered whole head.0 _ (Err fault) bad (tree_answer whole head.0 head.1 w))
    (λ body ok e.
    let a : AllRead whole head.0 body = answered whole head.0 _ (Ok body) ok (tree_answer whole head.0 head.1 w) in
    bind_err (nothing_at whole body.1) _ fault e
    (λ bad. let n = nothing_fault whole body.1 a.within fault bad in behind_tree
    (record { prologue = head.0; entries = a.entries; end = body.1; read = a.read; whole_tree = a.whole_tree; place = n.0; byte = n.1; fault_is = n.2 }))
    (λ end ok e. absurd cc)))
