-- Entries one after another, with what is known after those before.
use Rattle.std.proofs.Common.{◌≡◌, ℕ, zero, suc, ◌+◌, ◌-◌, ◌<◌, ◌≤◌, Bool, true, false, cond, List, [], ◌∷◌, ◌++◌, length, Option, Some, None, Ok, sym, refl}
use Rattle.std.proofs.Common.{ap, ◌∙◌, subst, arith, eq-eqb, append_assoc, append-nil}
use Rattle.std.specs.Prelude.{nat_eq}
use Rattle.std.proofs.lemmas.Bool.{eqb-true, eqb-false, ne_eqb}
use Rattle.def_tree.specs.declared.Node.{Node}
use Rattle.def_tree.specs.Tree.{wanted, Begins, IsWhole}
use Rattle.def_tree.proofs.Lists.{Begins-append}
use Rattle.def_file.specs.declared.FileFault.{FileFault}
use Rattle.def_file.specs.Content.{Record, Contents}
use Rattle.def_file.specs.Faults.{record_fault}
use Rattle.def_file.specs.Adding.{with_record, node_with}
use Rattle.def_file.specs.Reading.{◌>>=◌, entry_at, unless_fault, judged, entries_from}
use Rattle.def_file.specs.Entries.{contents_of}
use Rattle.def_file.specs.EntryLaws.{HaveNoFault}
use Rattle.def_file.proofs.NoFault.{no_fault_more, no_fault_here}
use Rattle.def_file.proofs.OneMore.{one_more}
use Rattle.def_file_form.specs.Form.{Spelled, IsEntry, AreEntries}
use Rattle.def_file_form.proofs.TokenByToken.{then_ok, Read, read_none, read_then}
use Rattle.def_file_form.proofs.SoundEntries.{entry_read}
use Rattle.def_file_form.proofs.TokensAhead.{Ahead, ReadsValue}
use Rattle.def_file_form.proofs.CompleteEntries.{clear_entries, entry_taken}

-- the nodes with one more entry
nodes_more : (rs : List Record) (r : Record)
    → (contents_of (rs ++ r ∷ [])).nodes ≡ (contents_of rs).nodes ++ node_with (contents_of rs) r ∷ []
nodes_more rs r = ap (λ (c : Contents). c.nodes) (one_more rs r)

-- the nodes of more entries
nodes_behind : (rs more : List Record)
    → (extra : List Node) × ((contents_of (rs ++ more)).nodes ≡ (contents_of rs).nodes ++ extra)
nodes_behind rs [] = ([], ap (λ l. (contents_of l).nodes) (append-nil rs) ∙ sym (append-nil (contents_of rs).nodes))
nodes_behind rs (r ∷ more) =
    let later = nodes_behind (rs ++ r ∷ []) more in
    let node = node_with (contents_of rs) r in (
      node ∷ later.0,
      ap (λ l. (contents_of l).nodes) (sym (append_assoc rs (r ∷ []) more)) ∙ later.1 ∙ ap (λ ns. ns ++ later.0) (nodes_more rs r)
          ∙ append_assoc (contents_of rs).nodes (node ∷ []) later.0,
    )

-- a node comes only where one is wanted
Begins-wanted : (n : ℕ) (xs : List Node) (y : Node) (ys : List Node) → Begins n (xs ++ y ∷ ys) → 0 < wanted n xs
Begins-wanted n [] y ys begins = begins.0
Begins-wanted n (x ∷ xs) y ys begins = Begins-wanted (n + x.children - 1) xs y ys begins.1

-- an entry that comes is wanted by those before it
pub entry_wanted : (rs : List Record) (r : Record) (more : List Record) → Begins 1 (contents_of (rs ++ r ∷ more)).nodes
    → 0 < wanted 1 (contents_of rs).nodes
entry_wanted rs r more begins =
    let later = nodes_behind (rs ++ r ∷ []) more in
    let node = node_with (contents_of rs) r in
    let split : (contents_of (rs ++ r ∷ more)).nodes ≡ (contents_of rs).nodes ++ node ∷ later.0 =
    ap (λ l. (contents_of l).nodes) (sym (append_assoc rs (r ∷ []) more)) ∙ later.1 ∙ ap (λ ns. ns ++ later.0) (nodes_more rs r)
    ∙ append_assoc (contents_of rs).nodes (node ∷ []) later.0 in
    Begins-wanted 1 (contents_of rs).nodes node later.0 (subst (Begins 1) split begins)

-- Reading.

unless_ok : (fault : Option FileFault) (contents next : Contents) → unless_fault fault contents ≡ Ok next
    → (fault ≡ None) × (next ≡ contents)
unless_ok None contents next e = (refl, cc)
unless_ok (Some fault) contents next e = absurd cc

-- an entry that is let through has no fault, and adds just itself to what is known
pub judged_ok : (contents : Contents) (r : Record) (next : Contents) → judged contents r ≡ Ok next
    → (record_fault contents r ≡ None) × (next ≡ with_record contents r)
unfolding judged
judged_ok contents r next e = unless_ok (record_fault contents r) (with_record contents r) next e

-- an entry without a fault is let through, and adds itself to what is known
pub ok_judged : (contents : Contents) (r : Record) → record_fault contents r ≡ None
    → judged contents r ≡ Ok (with_record contents r)
unfolding judged
ok_judged contents r none = ap (λ fault. unless_fault fault (with_record contents r)) none

-- entries one after another, and then the rest
abbrev pub AreEntriesThen : List Record → List Spelled → List Spelled → Type 0
AreEntriesThen [] tokens rest = tokens ≡ rest
AreEntriesThen (r ∷ rs) tokens rest = (done : List Spelled) × IsEntry r tokens done × AreEntriesThen rs done rest

-- entries behind which nothing is left are all that the tokens are
pub entries_then : (rs : List Record) (tokens : List Spelled) → AreEntriesThen rs tokens [] → AreEntries rs tokens
entries_then [] tokens are = are
entries_then (r ∷ rs) tokens are = (are.0, are.1, entries_then rs are.0 are.2)

-- entries that were read behind others
pub record EntriesRead (done : List Record) (whole : List ℕ) (at : ℕ) (read : Contents × ℕ) : Type 0 where
  pub more : List Record
  pub known : read.0 ≡ contents_of (done ++ more)
  pub no_fault : HaveNoFault (done ++ more)
  pub is_whole : IsWhole read.0.nodes
  pub taken : Read whole at read.1 (AreEntriesThen more)

-- entries that are read behind others are in the form, have no fault, and make the tree whole
pub entries_read : (left : ℕ) (done : List Record) (contents : Contents) → contents ≡ contents_of done
    → HaveNoFault done → Begins 1 contents.nodes → (whole : List ℕ) (at : ℕ) → at ≤ length whole → (read : Contents × ℕ)
    → entries_from left contents whole at ≡ Ok read
    → EntriesRead done whole at read
unfolding entries_from
entries_read zero done contents known none begins whole at within read e = absurd cc
entries_read (suc left) done contents known none begins whole at within read e =
    chosen (nat_eq (wanted 1 contents.nodes) 0) refl e (λ entry next known none begins within e. entries_read left (done ++ entry.0 ∷ []) next known none begins
    whole entry.1 within read e)
  where
    chosen : (b : Bool) → nat_eq (wanted 1 contents.nodes) 0 ≡ b
        → cond b (Ok (contents, at)) (entry_at whole at >>= λ entry. judged contents entry.0 >>= λ next. entries_from left next whole entry.1) ≡ Ok read
        → ((entry : Record × ℕ) (next : Contents) → next ≡ contents_of (done ++ entry.0 ∷ [])
        → HaveNoFault (done ++ entry.0 ∷ []) → Begins 1 next.nodes → entry.1 ≤ length whole
        → entries_from left next whole entry.1 ≡ Ok read
        → EntriesRead (done ++ entry.0 ∷ []) whole entry.1 read)
        → EntriesRead done whole at read
    chosen true is e again =
        let same : (contents, at) ≡ read = cc in
        subst (EntriesRead done whole at) same (record {
          more = [];
          known = known ∙ ap contents_of (sym (append-nil done));
          no_fault = subst HaveNoFault (sym (append-nil done)) none;
          is_whole = record { begins = begins; ends = eqb-true (wanted 1 contents.nodes) 0 is };
          taken = read_none whole at within;
        })
    chosen false is e again =
        then_ok (entry_at whole at) _ _ e (λ entry e0 e.
        then_ok (judged contents entry.0) _ _ e (λ next e1 e.
        let r = entry.0 in
        let here = entry_read whole at within entry e0 in
        let j = judged_ok contents r next e1 in
        let some : 0 < wanted 1 contents.nodes = omega (arith, eqb-false _ 0 is) in
        let grown = Begins-append 1 contents.nodes (node_with contents r ∷ []) begins (some, tt) in
        let later = again entry next (j.1 ∙ ap (λ c. with_record c r) known ∙ sym (one_more done r))
        (no_fault_more done r none (ap (λ c. record_fault c r) (sym known) ∙ j.0))
        (subst (λ (c : Contents). Begins 1 c.nodes) (sym j.1) grown) here.within e in
        let regrouped : done ++ r ∷ [] ++ later.more ≡ done ++ r ∷ later.more = append_assoc done (r ∷ []) later.more in
        record {
          more = r ∷ later.more;
          known = later.known ∙ ap contents_of regrouped;
          no_fault = subst HaveNoFault regrouped later.no_fault;
          is_whole = later.is_whole;
          taken = read_then whole at entry.1 read.1 (IsEntry r) (AreEntriesThen later.more) here later.taken;
        }))

-- where entries without a fault come that make the tree whole, all of them are read
pub entries_taken : (left : ℕ) (done more : List Record) (contents : Contents) → contents ≡ contents_of done
    → HaveNoFault (done ++ more) → IsWhole (contents_of (done ++ more)).nodes → length more < left
    → (whole : List ℕ) (at : ℕ) (tokens : List Spelled) → AreEntries more tokens
    → Ahead whole at tokens → ReadsValue whole (entries_from left contents whole at) (contents_of (done ++ more)) []
unfolding entries_from
entries_taken zero done more contents known none is_whole fuel whole at tokens are ahead = absurd (omega (arith, fuel))
entries_taken (suc left) done [] contents known none is_whole fuel whole at tokens are ahead =
    let same : contents ≡ contents_of (done ++ []) = known ∙ ap contents_of (sym (append-nil done)) in
    let ends : nat_eq (wanted 1 contents.nodes) 0 ≡ true = eq-eqb _ 0 (ap (λ (c : Contents). wanted 1 c.nodes) same ∙ is_whole.ends) in
    record { mid = at; ok = rw ends (ap (λ c. Ok (c, at)) same); ahead = subst (Ahead whole at) are ahead }
entries_taken (suc left) done (r ∷ more) contents known none is_whole fuel whole at tokens are ahead =
    let some = entry_wanted done r more is_whole.begins in
    let yet : nat_eq (wanted 1 contents.nodes) 0 ≡ false = ne_eqb _ 0 (λ zero_wanted. absurd
    (omega (arith, some, ap (λ (c : Contents). wanted 1 c.nodes) known, zero_wanted))) in
    let here = entry_taken whole at r tokens are.0 are.1 (clear_entries more are.0 are.2) ahead in
    let judge = ok_judged contents r (ap (λ c. record_fault c r) known ∙ no_fault_here done r more none) in
    let regrouped : done ++ r ∷ [] ++ more ≡ done ++ r ∷ more = append_assoc done (r ∷ []) more in
    let later = entries_taken left (done ++ r ∷ []) more (with_record contents r) (ap (λ c. with_record c r) known ∙ sym (one_more done r))
    (subst HaveNoFault (sym regrouped) none) (subst (λ rs. IsWhole (contents_of rs).nodes) (sym regrouped) is_whole) (omega (arith, fuel)) whole here.mid
    are.0 are.2 here.ahead in
    record { mid = later.mid; ok = rw (yet, here.ok, judge) (later.ok ∙ ap (λ rs. Ok (contents_of rs, later.mid)) regrouped); ahead = later.ahead }
