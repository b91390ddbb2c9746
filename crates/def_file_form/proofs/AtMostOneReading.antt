-- A file has one reading at most.
use Rattle.std.proofs.Common.{◌≡◌, ℕ, List, [], ◌∷◌, Result, Ok, sym, refl, ap, ◌∙◌, subst}
use Rattle.std.specs.Prelude.{map, codes}
use Rattle.def_file_tokens.specs.declared.Token.TheVariants as kinds
use Rattle.def_file_tokens.specs.declared.Lexeme.{Lexeme}
use Rattle.def_file.specs.declared.EntryKind.{EntryKind}
use Rattle.def_file.specs.declared.EntryKind.TheVariants.{Chance, Personal, Leaf}
use Rattle.def_file.specs.declared.FileFault.{FileFault}
use Rattle.def_file.specs.Content.{Prologue, Record}
use Rattle.def_file.specs.Reading.{entry_at, prologue_at}
use Rattle.def_file_form.specs.Form.{Spelled, spelled, word, IsEntryAs, AreEntries, IsFile}
use Rattle.def_file_form.proofs.TokensAhead.{AllFrom, Ahead}
use Rattle.def_file_form.proofs.CompleteEntries.{clear_entries, entry_taken, prologue_taken}
use Rattle.def_file_form.proofs.Pieces.{ahead_pieces}

-- a reading gives one value
read_once : {A : Type 0} (reading : Result (A × ℕ) FileFault) (v w : A) (m n : ℕ) → reading ≡ Ok (v, m)
    → reading ≡ Ok (w, n) → (v ≡ w) × (m ≡ n)
read_once {A} reading v w m n a b =
    let both = sym a ∙ b in
    let same : ◌≡◌ {A = A × ℕ} (v, m) (w, n) = cc in
    (ap (λ (p : A × ℕ). p.0) same, ap (λ (p : A × ℕ). p.1) same)

-- an entry has a token
entry_some : (kind : EntryKind) (r : Record) (tokens rest : List Spelled) → IsEntryAs kind r tokens rest
    → (s : Spelled) × (ss : List Spelled) × (tokens ≡ s ∷ ss)
entry_some Chance r tokens rest is = (word (codes "c"), is.headed, is.head)
entry_some Personal r tokens rest is = (word (codes "p"), is.headed, is.head)
entry_some Leaf r tokens rest is = (word (codes "t"), is.headed, is.head)

end_or_more : (whole : List ℕ) (at : ℕ) (s : Spelled) (ss : List Spelled) → AllFrom whole at []
    → AllFrom whole at (s ∷ ss) → ⊥
end_or_more whole at s ss none some =
    let same = sym none ∙ some.1.next in
    let l : Lexeme = some.0 in
    let ends : l.kind ≡ kinds.End = cc in
    some.1.not_end ends

no_entry : (whole : List ℕ) (at : ℕ) (r : Record) (rs : List Record) (ss us : List Spelled) → AreEntries [] ss
    → AreEntries (r ∷ rs) us → Ahead whole at ss → Ahead whole at us → ⊥
no_entry whole at r rs ss us none some a b =
    let first = entry_some r.kind r us some.0 some.1 in
    end_or_more whole at first.0 first.1 (subst (AllFrom whole at) none a.next) (subst (AllFrom whole at) first.2 b.next)

entries_once : (whole : List ℕ) (at : ℕ) (rs ts : List Record) (ss us : List Spelled) → AreEntries rs ss
    → AreEntries ts us → Ahead whole at ss → Ahead whole at us → rs ≡ ts
entries_once whole at [] [] ss us are others a b = refl
entries_once whole at [] (t ∷ ts) ss us are others a b = absurd (no_entry whole at t ts ss us are others a b)
entries_once whole at (r ∷ rs) [] ss us are others a b = absurd (no_entry whole at r rs us ss others are b a)
entries_once whole at (r ∷ rs) (t ∷ ts) ss us are others a b =
    let x = entry_taken whole at r ss are.0 are.1 (clear_entries rs are.0 are.2) a in
    let y = entry_taken whole at t us others.0 others.1 (clear_entries ts others.0 others.2) b in
    let same = read_once (entry_at whole at) r t x.mid y.mid x.ok y.ok in
    let later = entries_once whole y.mid rs ts are.0 others.0 are.2 others.2 (subst (λ n. Ahead whole n are.0) same.1 x.ahead) y.ahead in
    ap (λ x. x ∷ rs) same.0 ∙ ap (λ l. t ∷ l) later

-- the law: a file has one reading at most
pub one_reading : (bytes : List ℕ) (p q : Prologue) (rs ts : List Record) → IsFile bytes p rs → IsFile bytes q ts
    → (p ≡ q) × (rs ≡ ts)
one_reading bytes p q rs ts f g =
    let x = prologue_taken bytes 0 p (map spelled f.pieces) f.behind f.prologue (clear_entries rs f.behind f.entries)
    (ahead_pieces bytes f.pieces f.space f.in_turn f.spelling) in
    let y = prologue_taken bytes 0 q (map spelled g.pieces) g.behind g.prologue (clear_entries ts g.behind g.entries)
    (ahead_pieces bytes g.pieces g.space g.in_turn g.spelling) in
    let same = read_once (prologue_at bytes 0) p q x.mid y.mid x.ok y.ok in
    (same.0, entries_once bytes y.mid rs ts f.behind g.behind f.entries g.entries (subst (λ n. Ahead bytes n f.behind) same.1 x.ahead) y.ahead)
