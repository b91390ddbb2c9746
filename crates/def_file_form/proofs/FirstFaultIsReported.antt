-- With the first fault reading stops.
use Rattle.std.proofs.Common.{◌≡◌, ◌≢◌, ℕ, zero, suc, ◌+◌, ◌-◌, ◌≤◌, List, [], ◌∷◌, ◌++◌, length, Some, Result, Ok, Err, sym, refl, ap, ◌∙◌, subst, arith}
use Rattle.std.proofs.Common.{append_assoc, append-nil, eq-eqb}
use Rattle.std.specs.Prelude.{unwrap_or}
use Rattle.std.proofs.lemmas.Bool.{ne_eqb}
use Rattle.def_tree.specs.Tree.{wanted, Begins}
use Rattle.def_file.specs.declared.FileFault.{FileFault}
use Rattle.def_file.specs.declared.FileFault.TheVariants.{Players}
use Rattle.def_file.specs.Content.{Prologue, Record, Contents, no_contents}
use Rattle.def_tree.specs.Rules.{most_nodes}
use Rattle.def_file.specs.Faults.{record_fault}
use Rattle.def_file.specs.Adding.{with_record}
use Rattle.def_file.specs.Reading.{◌>>=◌, name_at, checked_names, prologue_at, entry_at, unless_fault, judged, entries_from, nothing_at, game_at, behind_head}
use Rattle.def_file.specs.Entries.{contents_of}
use Rattle.def_file.specs.EntryLaws.{HaveNoFault}
use Rattle.def_file.proofs.OneMore.{one_more}
use Rattle.def_file.proofs.EntryFaults.{entry_fault_is_first_broken}
use Rattle.def_file.proofs.NoFault.{no_fault_here, entries_limit}
use Rattle.def_file_form.proofs.Entries.{entry_wanted, ok_judged}
use Rattle.def_file_form.specs.Offends.{Offends}
use Rattle.def_file_form.specs.First.{IsHeadUpTo, AreEntriesFrom, IsPrologueUpTo, IsReadUpTo, IsPlayersFault, IsCommentFault, IsEntryFault, IsRuleFault}
use Rattle.def_file_form.specs.First.{IsTrailingFault, FirstFault, in_head, in_players, in_comment, in_entry, in_rules, behind_tree, IsHeadTokens}
use Rattle.def_file_form.proofs.Heads.{prologue_is}
use Rattle.def_file_form.proofs.TokensOfReadParts.{next_order}
use Rattle.def_file_form.proofs.ReportedFaultIsFirst.{Checked, two, others, checked}
use Rattle.def_file_form.proofs.TokensDecideReading.{entry_decided, entry_offended, comment_decided, comment_offended, head_decided, head_offended}
use Rattle.def_file_form.proofs.Trailing.{trailing_decided}

-- a first reading that gives a fault
err_first : {A B : Type 0} (r : Result A FileFault) (f : A → Result B FileFault) (fault : FileFault) → r ≡ Err fault
    → (r >>= f) ≡ Err fault
err_first (Ok x) f fault e = absurd cc
err_first (Err other) f fault e = let same : other ≡ fault = cc in ap Err same

-- The prologue.

head_within : (whole title : List ℕ) (names : List (List ℕ)) (end : ℕ) → IsHeadUpTo whole title names end
    → end ≤ length whole
head_within whole title names end is = (next_order whole 0 is.tokens end (omega arith) is.next).1

behind_is : (whole title : List ℕ) (names : List (List ℕ)) (end : ℕ) → IsHeadUpTo whole title names end
    → prologue_at whole 0 ≡ behind_head whole ((title, names), end)
behind_is whole title names end is = prologue_is whole 0 ∙ ap (λ r. r >>= behind_head whole) (head_decided whole title names end is)

behind_two : (whole title one second : List ℕ) (end : ℕ)
    → behind_head whole ((title, one ∷ second ∷ []), end)
    ≡ (name_at whole end >>= λ comment. Ok (record { title = title; one = one; two = second; comment = unwrap_or comment.0 [] }, comment.1))
unfolding behind_head
behind_two whole title one second end = refl

prologue_decided : (whole : List ℕ) (p : Prologue) (end : ℕ) → IsPrologueUpTo whole p end
    → (prologue_at whole 0 ≡ Ok (p, end)) × (end ≤ length whole)
prologue_decided whole p end is =
    let within = head_within whole p.title (p.one ∷ p.two ∷ []) is.behind is.head in
    let comment = comment_decided whole is.behind within is.comment end is.remark in (
      behind_is whole p.title (p.one ∷ p.two ∷ []) is.behind is.head
          ∙ behind_two whole p.title p.one p.two is.behind
          ∙ ap (λ r. r >>= λ comment. Ok (record { title = p.title; one = p.one; two = p.two; comment = unwrap_or comment.0 [] }, comment.1)) comment
          ∙ ap (λ c. Ok (record { title = p.title; one = p.one; two = p.two; comment = c }, end)) (sym is.text),
      (next_order whole is.behind is.remark.tokens end within is.remark.next).1,
    )

-- Entries.

-- where the tree is open another entry is read, and where it is whole none
more_here : (left : ℕ) (contents : Contents) (whole : List ℕ) (at : ℕ) → wanted 1 contents.nodes ≢ 0
    → entries_from (suc left) contents whole at
    ≡ (entry_at whole at >>= λ x. judged contents x.0 >>= λ next. entries_from left next whole x.1)
unfolding entries_from
more_here left contents whole at some = rw (ne_eqb (wanted 1 contents.nodes) 0 some) refl

none_here : (left : ℕ) (contents : Contents) (whole : List ℕ) (at : ℕ) → wanted 1 contents.nodes ≡ 0
    → entries_from (suc left) contents whole at ≡ Ok (contents, at)
unfolding entries_from
none_here left contents whole at none = rw (eq-eqb (wanted 1 contents.nodes) 0 none) refl

-- an entry with a fault gives the fault
pub judged_fault : (contents : Contents) (r : Record) (fault : FileFault) → record_fault contents r ≡ Some fault
    → judged contents r ≡ Err fault
unfolding judged
judged_fault contents r fault is = ap (λ found. unless_fault found (with_record contents r)) is

-- entries that are read behind others
entries_run : (whole : List ℕ) (done rs : List Record) (at end fuel left : ℕ) → at ≤ length whole
    → AreEntriesFrom whole at rs end → HaveNoFault (done ++ rs) → Begins 1 (contents_of (done ++ rs)).nodes
    → fuel ≡ length rs + left
    → (entries_from fuel (contents_of done) whole at ≡ entries_from left (contents_of (done ++ rs)) whole end)
    × (end ≤ length whole)
entries_run whole done [] at end fuel left within are no_fault begins fuel_is =
    let same : fuel ≡ left = omega (arith, fuel_is) in
    ((λ i. entries_from (same i) (contents_of (sym (append-nil done) i)) whole (are i)), omega (arith, are, within))
entries_run whole done (r ∷ rs) at end zero left within are no_fault begins fuel_is = absurd (omega (arith, fuel_is))
entries_run whole done (r ∷ rs) at end (suc fuel) left within are no_fault begins fuel_is =
    let mid = are.0 in
    let some = entry_wanted done r rs begins in
    let here = entry_decided whole at within r mid are.1 in
    let judge = ok_judged (contents_of done) r (no_fault_here done r rs no_fault) in
    let inner = (next_order whole at are.1.tokens mid within are.1.next).1 in
    let regrouped : done ++ r ∷ [] ++ rs ≡ done ++ r ∷ rs = append_assoc done (r ∷ []) rs in
    let later = entries_run whole (done ++ r ∷ []) rs mid end fuel left inner are.2 (subst HaveNoFault (sym regrouped) no_fault)
    (subst (λ l. Begins 1 (contents_of l).nodes) (sym regrouped) begins) (omega (arith, fuel_is)) in (
      more_here fuel (contents_of done) whole at (λ none. omega (arith, some, none))
          ∙ ap (λ e. e >>= λ x. judged (contents_of done) x.0 >>= λ next. entries_from fuel next whole x.1) here
          ∙ ap (λ j. j >>= λ next. entries_from fuel next whole mid) judge
          ∙ ap (λ c. entries_from fuel c whole mid) (sym (one_more done r))
          ∙ later.0
          ∙ ap (λ l. entries_from left (contents_of l) whole end) regrouped,
      later.1,
    )

-- what is read up to an offset, and what is still to come
record ReadOn (whole : List ℕ) (p : Prologue) (rs : List Record) (at : ℕ) : Type 0 where
  behind : ℕ
  prologue : prologue_at whole 0 ≡ Ok (p, behind)
  left : ℕ
  entries : entries_from (most_nodes + 1) no_contents whole behind ≡ entries_from (suc left) (contents_of rs) whole at
  within : at ≤ length whole

read_on : (whole : List ℕ) (p : Prologue) (rs : List Record) (at : ℕ) → IsReadUpTo whole p rs at → ReadOn whole p rs at
read_on whole p rs at read = from most_nodes refl
  where
    from : (most : ℕ) → most ≡ most_nodes → ReadOn whole p rs at
    from most is =
        let p_is = prologue_decided whole p read.behind read.prologue in
        let limit = entries_limit most is rs read.no_fault in
        let fuel : most + 1 ≡ length rs + suc (most - length rs) = omega (arith, limit) in
        let run = entries_run whole [] rs read.behind at (most + 1) (suc (most - length rs)) p_is.1 read.entries read.no_fault read.begins fuel in
        record {
          behind = read.behind;
          prologue = p_is.0;
          left = most - length rs;
          entries = ap (λ n. entries_from (n + 1) no_contents whole read.behind) (sym is) ∙ run.0;
          within = run.1;
        }

-- The faults.

game_behind : (whole : List ℕ) (fault : FileFault) → prologue_at whole 0 ≡ Err fault → game_at whole ≡ Err fault
unfolding game_at
game_behind whole fault is = err_first (prologue_at whole 0) _ fault is

game_entries : (whole : List ℕ) (p : Prologue) (behind : ℕ) (fault : FileFault) → prologue_at whole 0 ≡ Ok (p, behind)
    → entries_from (most_nodes + 1) no_contents whole behind ≡ Err fault → game_at whole ≡ Err fault
unfolding game_at
game_entries whole p behind fault is bad = rw (is, bad) refl

game_end : (whole : List ℕ) (p : Prologue) (behind : ℕ) (contents : Contents) (at : ℕ) (fault : FileFault)
    → prologue_at whole 0 ≡ Ok (p, behind) → entries_from (most_nodes + 1) no_contents whole behind ≡ Ok (contents, at)
    → nothing_at whole at ≡ Err fault → game_at whole ≡ Err fault
unfolding game_at
game_end whole p behind contents at fault is entries bad = rw (is, entries, bad) refl

head_faulted : (whole : List ℕ) (fault : FileFault) → Offends IsHeadTokens whole 0 fault
    → prologue_at whole 0 ≡ Err fault
head_faulted whole fault o = prologue_is whole 0 ∙ ap (λ r. r >>= behind_head whole) (head_offended whole fault o)

behind_others : (whole title : List ℕ) (names : List (List ℕ)) (end : ℕ) → length names ≢ 2 → Checked names end
    → behind_head whole ((title, names), end) ≡ Err (Players (length names))
unfolding behind_head
behind_others whole title names end count (two is same) = absurd (count is)
behind_others whole title names end count (others is same) = err_first (checked_names names end) _ (Players (length names)) same

players_faulted : (whole : List ℕ) (fault : FileFault) → IsPlayersFault whole fault → prologue_at whole 0 ≡ Err fault
players_faulted whole fault is = behind_is whole is.title is.names is.end is.head
    ∙ behind_others whole is.title is.names is.end is.count (checked is.names is.end) ∙ ap Err (sym is.fault_is)

comment_faulted : (whole : List ℕ) (fault : FileFault) → IsCommentFault whole fault → prologue_at whole 0 ≡ Err fault
comment_faulted whole fault is =
    behind_is whole is.title (is.one ∷ is.two ∷ []) is.end is.head ∙ behind_two whole is.title is.one is.two is.end
    ∙ err_first (name_at whole is.end) _ fault (comment_offended whole is.end (head_within whole is.title (is.one ∷ is.two ∷ []) is.end is.head) fault
    is.offends)

entry_faulted : (whole : List ℕ) (fault : FileFault) → IsEntryFault whole fault → game_at whole ≡ Err fault
entry_faulted whole fault is =
    let on = read_on whole is.prologue is.entries is.end is.read in
    game_entries whole is.prologue on.behind fault on.prologue
    (on.entries ∙ more_here on.left (contents_of is.entries) whole is.end is.open_tree
    ∙ err_first (entry_at whole is.end) _ fault (entry_offended whole is.end on.within fault is.offends))

rule_faulted : (whole : List ℕ) (fault : FileFault) → IsRuleFault whole fault → game_at whole ≡ Err fault
rule_faulted whole fault is =
    let on = read_on whole is.prologue is.entries is.end is.read in
    let contents = contents_of is.entries in
    game_entries whole is.prologue on.behind fault on.prologue
    (on.entries ∙ more_here on.left contents whole is.end is.open_tree
    ∙ ap (λ r. r >>= λ x. judged contents x.0 >>= λ next. entries_from on.left next whole x.1) (entry_decided whole is.end on.within is.entry is.behind is.next)
    ∙ ap (λ r. r >>= λ next. entries_from on.left next whole is.behind) (judged_fault contents is.entry fault
    ((entry_fault_is_first_broken is.entries is.entry fault is.read.no_fault).1 is.rule)))

trailing_faulted : (whole : List ℕ) (fault : FileFault) → IsTrailingFault whole fault → game_at whole ≡ Err fault
trailing_faulted whole fault is =
    let on = read_on whole is.prologue is.entries is.end is.read in
    game_end whole is.prologue on.behind (contents_of is.entries) is.end fault on.prologue
    (on.entries ∙ none_here on.left (contents_of is.entries) whole is.end is.whole_tree)
    (trailing_decided whole is.end on.within is.place is.byte ∙ ap Err (sym is.fault_is))

-- the law: with the first fault reading stops
pub first_faulted : (whole : List ℕ) (fault : FileFault) → FirstFault whole fault → game_at whole ≡ Err fault
first_faulted whole fault (in_head o) = game_behind whole fault (head_faulted whole fault o)
first_faulted whole fault (in_players is) = game_behind whole fault (players_faulted whole fault is)
first_faulted whole fault (in_comment is) = game_behind whole fault (comment_faulted whole fault is)
first_faulted whole fault (in_entry is) = entry_faulted whole fault is
first_faulted whole fault (in_rules is) = rule_faulted whole fault is
first_faulted whole fault (behind_tree is) = trailing_faulted whole fault is
