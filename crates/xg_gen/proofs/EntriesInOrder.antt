-- Entries, one after another.
use Rattle.std.proofs.Common.{◌≡◌, ℕ, zero, suc, ◌+◌, ◌<◌, ◌≤◌, List, [], ◌∷◌, ◌++◌, length, drop, get_or, ap, arith}
use Rattle.std.proofs.lemmas.List.{drop_all, drop_more}
use Rattle.xg_gen.specs.declared.entries.Entry.{Entry}
use Rattle.xg_gen.specs.Described.{AreNumbered, IsNumbered, record_of, records_of}

-- the next of the entries that are left, and those behind it
pub records_left : (es : List Entry) (i : ℕ) (d : Entry) → i < length es
    → records_of (drop i es) ≡ (record_of (get_or es i d) ∷ []) ++ records_of (drop (i + 1) es)
records_left es i d lt = ap records_of (drop_more es i d lt)

pub none_left : (es : List Entry) (i : ℕ) → length es ≤ i → records_of (drop i es) ≡ []
none_left es i le = ap records_of (drop_all i es le)

pub numbered_at : (es : List Entry) (i : ℕ) (d : Entry) → i < length es → AreNumbered es → IsNumbered (get_or es i d)
numbered_at [] i d lt all = absurd (omega arith)
numbered_at (e ∷ es) zero d lt all = all.0
numbered_at (e ∷ es) (suc i) d lt all = numbered_at es i d (omega arith) all.1
