-- Entries without a fault, one more and one less.
use Rattle.std.proofs.Common.{◌≡◌, ◌≢◌, ℕ, ◌+◌, ◌≤◌, List, [], ◌∷◌, ◌++◌, length, None, ◌⊎◌, inl, inr, refl, sym, ap, ◌∙◌, subst, append-nil, arith}
use Rattle.std.proofs.Math.Logic.{⊎_elim}
use Rattle.std.proofs.lemmas.List.{append_assoc, length-append}
use Rattle.def_tree.specs.Rules.{most_nodes}
use Rattle.def_file.specs.declared.FileFault.TheVariants.{TooManyNodes}
use Rattle.def_file.specs.Content.{Record}
use Rattle.def_file.specs.Faults.{record_fault}
use Rattle.def_file.specs.Entries.{contents_of}
use Rattle.def_file.specs.EntryRules.{BreaksNone}
use Rattle.def_file.specs.EntryLaws.{HaveNoFault}
use Rattle.def_file.proofs.EntryFaults.{no_fault_breaks_none}

not_nil : (before behind : List Record) (r : Record) → [] ≡ before ++ r ∷ behind → ⊥
not_nil [] behind r e = cc
not_nil (x ∷ before) behind r e = cc

-- without entries there is none
pub nothing_at_fault : HaveNoFault []
nothing_at_fault before behind r e = absurd (not_nil before behind r e)

-- an entry of these and one more is the last, or one of these
last_or_earlier : (rs : List Record) (last : Record) (before behind : List Record) (r : Record)
    → rs ++ last ∷ [] ≡ before ++ r ∷ behind
    → ((rs ≡ before) × (last ≡ r)) ⊎ ((more : List Record) × (rs ≡ before ++ r ∷ more))
last_or_earlier [] last [] behind r e = inl (refl, cc)
last_or_earlier [] last (x ∷ before) behind r e = let rest : [] ≡ before ++ r ∷ behind = cc in absurd (not_nil before behind r rest)
last_or_earlier (y ∷ rs) last [] behind r e = let same : y ≡ r = cc in inr (rs, ap (λ x. x ∷ rs) same)
last_or_earlier (y ∷ rs) last (x ∷ before) behind r e =
    let same : y ≡ x = cc in
    let rest : rs ++ last ∷ [] ≡ before ++ r ∷ behind = cc in
    ⊎_elim
    (λ here. let front : rs ≡ before = here.0 in inl (λ i. same i ∷ front i, here.1))
    (λ earlier. let front : rs ≡ before ++ r ∷ earlier.0 = earlier.1 in inr (earlier.0, λ i. same i ∷ front i))
    (last_or_earlier rs last before behind r rest)

-- one more entry without a fault
pub no_fault_more : (rs : List Record) (r : Record) → HaveNoFault rs → record_fault (contents_of rs) r ≡ None
    → HaveNoFault (rs ++ r ∷ [])
no_fault_more rs r fine none before behind x e =
    ⊎_elim
    (λ here. subst (λ ys. BreaksNone ys x) here.0 (subst (BreaksNone rs) here.1 ((no_fault_breaks_none rs r fine).0 none)))
    (λ earlier. fine before earlier.0 x earlier.1)
    (last_or_earlier rs r before behind x e)

-- the entries before an entry have none
no_fault_before : (rs : List Record) (r : Record) (more : List Record) → HaveNoFault (rs ++ r ∷ more) → HaveNoFault rs
no_fault_before rs r more fine before behind x e =
    fine before (behind ++ r ∷ more) x (ap (λ ys. ys ++ r ∷ more) e ∙ append_assoc before (x ∷ behind) (r ∷ more))

-- and it has none behind them
pub no_fault_here : (rs : List Record) (r : Record) (more : List Record) → HaveNoFault (rs ++ r ∷ more)
    → record_fault (contents_of rs) r ≡ None
no_fault_here rs r more fine = (no_fault_breaks_none rs r (no_fault_before rs r more fine)).1 (fine rs more r refl)

limit_from : (most : ℕ) → most ≡ most_nodes → (done rest : List Record) → HaveNoFault (done ++ rest)
    → length done ≤ most → length (done ++ rest) ≤ most
limit_from most is done [] fine within = subst (λ ys. length ys ≤ most) (sym (append-nil done)) within
limit_from most is done (r ∷ rest) fine within =
    let not_full : length done ≢ most = λ e. fine done rest r refl TooManyNodes (e ∙ is) in
    let one : length (done ++ r ∷ []) ≡ length done + 1 = length-append done (r ∷ []) in
    let next : length (done ++ r ∷ []) ≤ most = omega arith in
    let regrouped : (done ++ r ∷ []) ++ rest ≡ done ++ r ∷ rest = append_assoc done (r ∷ []) rest in
    subst (λ ys. length ys ≤ most) regrouped (limit_from most is (done ++ r ∷ []) rest (subst HaveNoFault (sym regrouped) fine) next)

-- there are no more of them than a game has nodes
pub entries_limit : (most : ℕ) → most ≡ most_nodes → (rs : List Record) → HaveNoFault rs → length rs ≤ most
entries_limit most is rs fine = limit_from most is [] rs fine (omega arith)
