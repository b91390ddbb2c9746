-- The line that an entry makes of what it says itself.
use Rattle.std.proofs.Common.{◌≡◌, ℕ, ◌≤◌, ◌⊎◌, Bool, true, false, cond, List, [], ◌∷◌, ◌++◌, refl, sym, ap, subst, arith}
use Rattle.std.specs.Prelude.{if◌then◌else◌, nat_eq}
use Rattle.std.proofs.Math.Logic.{⊎_elim}
use Rattle.std.proofs.lemmas.Bool.{ne_eqb}
use Rattle.def_fraction.specs.Fraction.{most}
use Rattle.def_file_tokens.specs.Spelling.{Piece}
use Rattle.def_tree.specs.declared.Kind.{Kind}
use Rattle.def_tree.specs.declared.Kind.TheVariants as movers
use Rattle.def_file.specs.declared.EntryKind.{EntryKind}
use Rattle.def_file.specs.declared.EntryKind.TheVariants.{Chance, Personal, Leaf}
use Rattle.def_file.specs.Content.{SetMention, OutcomeMention, Record, no_outcome_mention}
use Rattle.def_file.specs.Faults.{has_set, mover, mover_as}
use Rattle.def_file.specs.Adding.{new_set, new_outcome}
use Rattle.def_file_form.specs.Form.{AreEntries, IsEntry, IsEntryAs, IsOutcome, IsSet, IsWholeNumber, Spelled, spelled}
use Rattle.def_canon.specs.Canon.{described_outcome, letter, player_pieces, set_pieces, text_piece, whole_piece}
use Rattle.def_canon.specs.Described.{Each}
use Rattle.def_canon.specs.Writable.{HasOwnMover, IsWritable, IsWritableOutcome, IsWritableSet}
use Rattle.def_canon.proofs.Spelled.{MovesAs, chance_moves_as, one_moves_as, outcome_is, set_is, spell, spell_append, text_is, two_moves_as, whole_is}

abbrev pub own_place : Kind → SetMention → List Piece
own_place movers.Leaf m = []
own_place movers.Chance m = set_pieces movers.Chance (new_set m)
own_place movers.One m = set_pieces movers.One (new_set m)
own_place movers.Two m = set_pieces movers.Two (new_set m)

abbrev pub own_outcome : OutcomeMention → List Piece
own_outcome m = if nat_eq m.number 0 then whole_piece 0 ∷ [] else described_outcome (new_outcome m)

abbrev pub own_pieces : Kind → Record → List Piece
own_pieces who r = letter who ∷ text_piece r.name ∷ (player_pieces who ++ (own_place who r.set ++ own_outcome r.outcome))

outcome_any : (m : OutcomeMention) (rest : List Spelled) → (m ≡ no_outcome_mention) ⊎ IsWritableOutcome m
    → IsOutcome m (spell (own_outcome m) rest) rest
outcome_any m rest w =
    ⊎_elim
    (λ none. subst (λ (o : OutcomeMention). IsOutcome o (spell (own_outcome o) rest) rest) (sym none)
    (record { numbered = rest; named = rest; number = whole_is 0 rest (omega arith); name = refl; payoffs = refl }))
    (λ some. let no : nat_eq m.number 0 ≡ false = ne_eqb m.number 0 some.not_null in
    subst (λ (b : Bool). IsOutcome m (spell (cond b (whole_piece 0 ∷ []) (described_outcome (new_outcome m))) rest) rest) (sym no) (outcome_is m rest some))
    w

-- the set, and then the outcome
set_part : (who : Kind) (kind : EntryKind) → MovesAs who kind → (r : Record) (rest : List Spelled)
    → IsWritableSet kind r.set
    → IsSet kind r.set (spell (set_pieces who (new_set r.set) ++ own_outcome r.outcome) rest) (spell (own_outcome r.outcome) rest)
set_part who kind moves r rest w =
    subst (λ (tokens : List Spelled). IsSet kind r.set tokens (spell (own_outcome r.outcome) rest))
    (sym (spell_append (set_pieces who (new_set r.set)) (own_outcome r.outcome) rest)) (set_is who kind moves r.set (spell (own_outcome r.outcome) rest) w)

player_is : (p q : ℕ) (rest : List Spelled) → p ≡ q → q ≤ most → IsWholeNumber p (spelled (whole_piece q) ∷ rest) rest
player_is p q rest same small = subst (λ (n : ℕ). IsWholeNumber n (spelled (whole_piece q) ∷ rest) rest) (sym same) (whole_is q rest small)

entry_as : (r : Record) (kind : EntryKind) (rest : List Spelled) → r.kind ≡ kind → IsWritable r
    → HasOwnMover kind r → (has_set kind ≡ true → IsWritableSet kind r.set)
    → IsEntryAs kind r (spell (own_pieces (mover_as kind r.player) r) rest) rest
unfolding player_pieces
entry_as r Chance rest is w own set = record {
  headed = _;
  named = _;
  placed = _;
  head = refl;
  name = text_is r.name _ w.name;
  no_player = own;
  set = set_part movers.Chance Chance chance_moves_as r rest (set refl);
  outcome = outcome_any r.outcome rest w.outcome;
}
entry_as r Personal rest is w own set =
    ⊎_elim
    (λ one. subst (λ (who : Kind). IsEntryAs Personal r (spell (own_pieces who r) rest) rest) (sym (ap (λ (p : ℕ). mover_as Personal p) one)) (record {
      headed = _;
      named = _;
      moved = _;
      placed = _;
      head = refl;
      name = text_is r.name _ w.name;
      player = player_is r.player 1 _ one (omega arith);
      set = set_part movers.One Personal one_moves_as r rest (set refl);
      outcome = outcome_any r.outcome rest w.outcome;
    }))
    (λ two. subst (λ (who : Kind). IsEntryAs Personal r (spell (own_pieces who r) rest) rest) (sym (ap (λ (p : ℕ). mover_as Personal p) two)) (record {
      headed = _;
      named = _;
      moved = _;
      placed = _;
      head = refl;
      name = text_is r.name _ w.name;
      player = player_is r.player 2 _ two (omega arith);
      set = set_part movers.Two Personal two_moves_as r rest (set refl);
      outcome = outcome_any r.outcome rest w.outcome;
    }))
    own
entry_as r Leaf rest is w own set = record {
  headed = _;
  named = _;
  head = refl;
  name = text_is r.name _ w.name;
  no_player = own.0;
  no_set = own.1;
  outcome = outcome_any r.outcome rest w.outcome;
}

pub entry_is : (r : Record) (rest : List Spelled) → IsWritable r → IsEntry r (spell (own_pieces (mover r) r) rest) rest
entry_is r rest w = entry_as r r.kind rest refl w w.mover w.set

-- the lines of entries
abbrev pub own_lines : List Record → List Piece
own_lines [] = []
own_lines (r ∷ rs) = own_pieces (mover r) r ++ own_lines rs

-- the tokens of the lines of writable entries say these entries in turn, and nothing behind them
pub entries_are : (rs : List Record) → Each IsWritable rs → AreEntries rs (spell (own_lines rs) [])
entries_are [] w = refl
entries_are (r ∷ rs) w = (
  spell (own_lines rs) [],
  subst (λ (tokens : List Spelled). IsEntry r tokens (spell (own_lines rs) [])) (sym (spell_append (own_pieces (mover r) r) (own_lines rs) []))
      (entry_is r (spell (own_lines rs) []) w.0),
  entries_are rs w.1,
)
