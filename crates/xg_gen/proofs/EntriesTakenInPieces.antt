-- Entries that a maker takes in pieces.
use Rattle.std.proofs.Common.{◌≡◌, List, [], ◌∷◌, ◌++◌, refl, sym, ap, ◌∙◌, subst, append_assoc}
use Rattle.std.proofs.lemmas.List.{append-nil}
use Rattle.def_file.specs.Content.{Record, Contents}
use Rattle.def_file.specs.Adding.{with_record}
use Rattle.xg_game.specs.Made.{Made}
use Rattle.xg_gen.specs.Taken.{AreWanted, with_entries, Takes, GainsEntries}

with_append : (contents : Contents) (rs ts : List Record)
    → with_entries contents (rs ++ ts) ≡ with_entries (with_entries contents rs) ts
with_append contents [] ts = refl
with_append contents (r ∷ rs) ts = with_append (with_record contents r) rs ts

wanted_first : (contents : Contents) (rs ts : List Record) → AreWanted contents (rs ++ ts) → AreWanted contents rs
wanted_first contents [] ts w = tt
wanted_first contents (r ∷ rs) ts w = (w.0, w.1, wanted_first (with_record contents r) rs ts w.2)

wanted_then : (contents : Contents) (rs ts : List Record) → AreWanted contents (rs ++ ts)
    → AreWanted (with_entries contents rs) ts
wanted_then contents [] ts w = w
wanted_then contents (r ∷ rs) ts w = wanted_then (with_record contents r) rs ts w.2

-- the first of them
pub takes_first : (maker : Made) (rs ts : List Record) → Takes maker (rs ++ ts) → Takes maker rs
takes_first maker rs ts takes = record { unspent = takes.unspent; wanted = wanted_first maker.contents rs ts takes.wanted }

-- and then the others
pub takes_then : (maker next : Made) (rs ts : List Record) → Takes maker (rs ++ ts) → GainsEntries maker next rs
    → Takes next ts
takes_then maker next rs ts takes adds = record {
  unspent = ap (λ (m : Made). m.spent) adds.same ∙ takes.unspent;
  wanted = subst (λ (m : Made). AreWanted m.contents ts) (sym adds.same) (wanted_then maker.contents rs ts takes.wanted);
}

-- where some entries are added and then others, both are added, one after the other
pub adds_then : (maker next last : Made) (rs ts : List Record) → GainsEntries maker next rs → GainsEntries next last ts
    → GainsEntries maker last (rs ++ ts)
adds_then maker next last rs ts first second = record {
  same = second.same ∙ ap (λ (m : Made). record m { contents = with_entries m.contents ts }) first.same
      ∙ ap (λ (c : Contents). record maker { contents = c }) (sym (with_append maker.contents rs ts));
}

-- The same of one entry and others.

-- a maker that takes an entry and others takes that entry alone
pub takes_one : (maker : Made) (r : Record) (ts : List Record) → Takes maker (r ∷ ts) → Takes maker (r ∷ [])
takes_one maker r ts takes = takes_first maker (r ∷ []) ts takes

-- where a maker takes an entry and others, with that entry added it takes the others
pub takes_more : (maker next : Made) (r : Record) (ts : List Record) → Takes maker (r ∷ ts)
    → GainsEntries maker next (r ∷ [])
    → Takes next ts
takes_more maker next r ts takes adds = takes_then maker next (r ∷ []) ts takes adds

-- where an entry is added and then others, all are added, that entry first
pub adds_more : (maker next last : Made) (r : Record) (ts : List Record) → GainsEntries maker next (r ∷ [])
    → GainsEntries next last ts
    → GainsEntries maker last (r ∷ ts)
adds_more maker next last r ts first second = adds_then maker next last (r ∷ []) ts first second

-- nothing is added
pub adds_none : (maker : Made) → GainsEntries maker maker []
adds_none maker = record { same = refl }

-- of all entries some were taken, and these are left
pub record TookEntries (before now : Made) (all left : List Record) : Type 0 where
  pub taken : List Record
  pub split : taken ++ left ≡ all
  pub adds : GainsEntries before now taken
  pub takes : Takes now left

-- at the start, where a maker takes all entries, none of them was added and all are left
pub begin : (maker : Made) (all left : List Record) → Takes maker all → all ≡ left → TookEntries maker maker all left
begin maker all left takes same = record { taken = []; split = sym same; adds = adds_none maker; takes = subst (Takes maker) same takes }

-- where the next of the entries that are left are added, the rest of them is left
pub goes_on : (before now next : Made) (all left some rest : List Record) → TookEntries before now all left
    → left ≡ some ++ rest
    → GainsEntries now next some → TookEntries before next all rest
goes_on before now next all left some rest goes is adds = record {
  taken = goes.taken ++ some;
  split = append_assoc goes.taken some rest ∙ ap (λ (rs : List Record). goes.taken ++ rs) (sym is) ∙ goes.split;
  adds = adds_then before now next goes.taken some goes.adds adds;
  takes = takes_then now next some rest (subst (Takes now) is goes.takes) adds;
}

-- where some of all entries were taken, the maker takes the next of those that are left
pub next_takes : (before now : Made) (all left some rest : List Record) → TookEntries before now all left
    → left ≡ some ++ rest
    → Takes now some
next_takes before now all left some rest goes is = takes_first now some rest (subst (Takes now) is goes.takes)

-- where no entry is left, all were added
pub all_taken : (before now : Made) (all left : List Record) → TookEntries before now all left → left ≡ []
    → GainsEntries before now all
all_taken before now all left goes is =
    subst (GainsEntries before now) (sym (append-nil goes.taken) ∙ ap (λ (rs : List Record). goes.taken ++ rs) (sym is) ∙ goes.split) goes.adds
