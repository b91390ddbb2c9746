-- Reading entries one after another.
use Rattle.std.proofs.Common.{◌≡◌, ◌≢◌, ℕ, zero, suc, ◌+◌, ◌-◌, ◌<◌, Bool, cond, List, Some, None, Result, Ok, Err, refl, sym, ◌∙◌, ap, eq-eqb, ne_eqb, arith}
use Rattle.std.specs.Prelude.{OnOk}
use Rattle.def_tree.specs.Tree.{wanted}
use Rattle.def_file.specs.declared.FileFault.{FileFault}
use Rattle.def_file.specs.declared.FileFault.TheVariants.{TooManyNodes}
use Rattle.def_file.specs.Content.{Record, Contents}
use Rattle.def_file.specs.Faults.{record_fault}
use Rattle.def_file.specs.Adding.{with_record}
use Rattle.def_file.specs.Reading.{◌>>=◌, entry_at, judged, entries_from}
use Rattle.def_file_form.proofs.Entries.{ok_judged}
use Rattle.def_file_form.proofs.FirstFaultIsReported.{judged_fault}
use Rattle.xg_game.specs.Made.{Made}
use Rattle.xg_game.specs.declared.fault.Refused.{Refused}
use Rattle.xg_game.specs.declared.fault.Refused.TheVariants.{File, NoMemory}
use Rattle.xg_read.specs.Gives.{next_at, GivesNext}

-- the next entry is taken, or has a fault
next_taken : (contents : Contents) (whole : List ℕ) (at end : ℕ) (r : Record) → entry_at whole at ≡ Ok (r, end)
    → record_fault contents r ≡ None
    → next_at contents whole at ≡ Ok (with_record contents r, end)
next_taken contents whole at end r read sound = rw (read, ok_judged contents r sound) refl

next_judged : (contents : Contents) (whole : List ℕ) (at end : ℕ) (r : Record) (fault : FileFault)
    → entry_at whole at ≡ Ok (r, end) → record_fault contents r ≡ Some fault
    → next_at contents whole at ≡ Err fault
next_judged contents whole at end r fault read bad = rw (read, judged_fault contents r fault bad) refl

-- a whole tree has no further entry
pub entries_done : (left : ℕ) (contents : Contents) (whole : List ℕ) (at : ℕ) → 0 < left → wanted 1 contents.nodes ≡ 0
    → entries_from left contents whole at ≡ Ok (contents, at)
unfolding entries_from
entries_done zero contents whole at some done = absurd (omega arith)
entries_done (suc left) contents whole at some done =
    ap (λ (b : Bool). cond b (Ok (contents, at)) (entry_at whole at >>= λ entry. judged contents entry.0 >>= λ next. entries_from left next whole entry.1))
    (eq-eqb (wanted 1 contents.nodes) 0 done)

abbrev paired : ℕ → Contents → Result (Contents × ℕ) FileFault
paired end next = Ok (next, end)

-- one reading after another, regrouped
regrouped : (left : ℕ) (whole : List ℕ) (contents : Contents) (read : Result (Record × ℕ) FileFault)
    → (read >>= λ entry. judged contents entry.0 >>= λ next. entries_from left next whole entry.1)
    ≡ ((read >>= λ entry. judged contents entry.0 >>= paired entry.1) >>= λ next. entries_from left next.0 whole next.1)
regrouped left whole contents (Ok entry) = behind (judged contents entry.0) entry.1
  where
    behind : (known : Result Contents FileFault) (end : ℕ)
        → (known >>= λ next. entries_from left next whole end)
        ≡ ((known >>= paired end) >>= λ next. entries_from left next.0 whole next.1)
    behind (Ok next) end = refl
    behind (Err fault) end = refl
regrouped left whole contents (Err fault) = refl

-- one more comes
entries_more : (left : ℕ) (contents : Contents) (whole : List ℕ) (at : ℕ) → 0 < left → wanted 1 contents.nodes ≢ 0
    → entries_from left contents whole at
    ≡ (next_at contents whole at >>= λ next. entries_from (left - 1) next.0 whole next.1)
unfolding entries_from
entries_more zero contents whole at some goes = absurd (omega arith)
entries_more (suc left) contents whole at some goes =
    let e : suc left - 1 ≡ left = omega arith in
    rw e
    (ap (λ (b : Bool). cond b (Ok (contents, at)) (entry_at whole at >>= λ entry. judged contents entry.0 >>= λ next. entries_from left next whole entry.1))
    (ne_eqb (wanted 1 contents.nodes) 0 goes)
    ∙ regrouped left whole contents (entry_at whole at))

-- it stops there
pub entries_stopped : (left : ℕ) (contents : Contents) (whole : List ℕ) (at : ℕ) (fault : FileFault) → 0 < left
    → wanted 1 contents.nodes ≢ 0
    → next_at contents whole at ≡ Err fault → entries_from left contents whole at ≡ Err fault
entries_stopped left contents whole at fault some goes bad =
    entries_more left contents whole at some goes ∙ ap (λ (x : Result (Contents × ℕ) FileFault). x >>= λ next. entries_from (left - 1) next.0 whole next.1) bad

-- no more may come
pub entries_full : (left : ℕ) (contents : Contents) (whole : List ℕ) (at : ℕ) → left ≡ 0
    → entries_from left contents whole at ≡ Err TooManyNodes
unfolding entries_from
entries_full zero contents whole at none = refl
entries_full (suc left) contents whole at none = absurd (omega arith)

-- what is read from here on is what is read behind the next entry
pub entries_next : (left after : ℕ) (contents next : Contents) (whole seen : List ℕ) (at end : ℕ) → seen ≡ whole
    → left ≡ after + 1 → wanted 1 contents.nodes ≢ 0
    → next_at contents seen at ≡ Ok (next, end)
    → entries_from left contents whole at ≡ entries_from after next whole end
entries_next left after contents next whole seen at end same e goes read =
    let some : 0 < left = omega arith in
    let one : left - 1 ≡ after = omega arith in
    entries_more left contents whole at some goes
    ∙ ap (λ (x : Result (Contents × ℕ) FileFault). x >>= λ known. entries_from (left - 1) known.0 whole known.1)
    (ap (λ (w : List ℕ). next_at contents w at) (sym same) ∙ read)
    ∙ ap (λ (n : ℕ). entries_from n next whole end) one

-- an entry that was pushed
pub pushed : (result : Result (Unit {0}) Refused) (old new : Made) (whole : List ℕ) (at end : ℕ) (r : Record)
    → entry_at whole at ≡ Ok (r, end)
    → OnOk result (record_fault old.contents r ≡ None)
    → OnOk result (new ≡ record old { contents = with_record old.contents r })
    → ((fault : FileFault) → result ≡ Err (File fault) → (record_fault old.contents r ≡ Some fault) × (new ≡ old))
    → GivesNext result new.contents end (next_at old.contents whole at)
pushed (Ok _) old new whole at end r read sound put refused =
    next_taken old.contents whole at end r read sound ∙ ap (λ (known : Contents). Ok (known, end)) (sym (ap (λ (made : Made). made.contents) put))
pushed (Err (File fault)) old new whole at end r read sound put refused = next_judged old.contents whole at end r fault read (refused fault refl).0
pushed (Err NoMemory) old new whole at end r read sound put refused = tt

-- reading stops with the next entry
pub stopped : (refused : Refused) (next : Contents) (left : ℕ) (contents last : Contents) (whole seen : List ℕ)
    (at end place : ℕ) (all : Result (Contents × ℕ) FileFault)
    → all ≡ entries_from left contents whole at → seen ≡ whole → 0 < left → wanted 1 contents.nodes ≢ 0
    → GivesNext {X = Unit {0}} (Err refused) next end (next_at contents seen at)
    → GivesNext {X = Unit {0}} (Err refused) last place all
stopped (File fault) next left contents last whole seen at end place all same seen_is some goes given =
    same ∙ entries_stopped left contents whole at fault some goes (ap (λ (w : List ℕ). next_at contents w at) (sym seen_is) ∙ given)
stopped NoMemory next left contents last whole seen at end place all same seen_is some goes given = tt
