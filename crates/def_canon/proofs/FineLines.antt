-- The tokens of prologues and entries may stand one behind another.
use Rattle.std.proofs.Common.{◌≡◌, ◌≢◌, ℕ, ◌⊎◌, Bool, true, false, cond, List, [], ◌∷◌, ◌++◌, Option, Some, None, refl, sym, ap, subst, arith}
use Rattle.std.specs.Prelude.{codes, nat_eq, unwrap_or}
use Rattle.def_file_tokens.specs.declared.Token.TheVariants.{Number, Text, Word}
use Rattle.std.proofs.Math.Logic.{⊎_elim}
use Rattle.std.proofs.lemmas.Bool.{ne_eqb}
use Rattle.def_fraction.specs.Fraction.{Fraction}
use Rattle.def_file_tokens.specs.Spelling.{ArePieces, Piece}
use Rattle.def_tree.specs.declared.Kind.{Kind}
use Rattle.def_tree.specs.declared.Kind.TheVariants as movers
use Rattle.def_file.specs.declared.EntryKind.{EntryKind}
use Rattle.def_file.specs.declared.EntryKind.TheVariants as kinds
use Rattle.def_file.specs.Content.{Prologue, Action, SetMention, OutcomeMention, Record, no_outcome_mention}
use Rattle.def_file.specs.Faults.{mover, mover_as}
use Rattle.def_file.specs.Adding.{new_set, new_outcome}
use Rattle.def_file.specs.Game.{IsSmallFraction}
use Rattle.def_canon.specs.Canon.{on_new_line, open_piece, quoted, text_piece, marker_pieces, prologue_pieces, spaced, action_pieces, chance_pieces}
use Rattle.def_canon.specs.Canon.{close_piece, described_outcome, each, list_pieces, name_pieces, payoffs_pieces, player_pieces, set_pieces, whole_piece}
use Rattle.def_canon.specs.Described.{Each}
use Rattle.def_canon.specs.Writable.{IsPlainPrologue, AreWritableActions, IsChanceOf, IsPlainName, IsWritable, IsWritableOutcome, IsWritableSet}
use Rattle.def_canon.proofs.OwnLines.{own_lines, own_outcome, own_pieces}
use Rattle.def_canon.proofs.FineTokens.{IsFine, fine_digits, fine_line, fine_word, first_word, EachFine, fine_append, fine_close, fine_comma, fine_fraction}
use Rattle.def_canon.proofs.FineTokens.{fine_letter, fine_open, fine_text, fine_whole}
use Rattle.def_canon.proofs.Tables.{mover_has_set}

name_fine : (name : Option (List ℕ)) → IsPlainName name → EachFine (name_pieces name)
unfolding name_pieces
name_fine None plain = tt
name_fine (Some name) plain = (fine_text name plain, tt)

-- the kind of entry of a kind of node
abbrev pub kind_of : Kind → EntryKind
kind_of movers.Chance = kinds.Chance
kind_of movers.One = kinds.Personal
kind_of movers.Two = kinds.Personal
kind_of movers.Leaf = kinds.Leaf

chance_fine : (who : Kind) (f : Fraction) → IsChanceOf (kind_of who) f → EachFine (chance_pieces who f)
unfolding chance_pieces
chance_fine movers.Chance f small = (fine_fraction f small.1, tt)
chance_fine movers.One f none = tt
chance_fine movers.Two f none = tt
chance_fine movers.Leaf f none = tt

actions_fine : (who : Kind) (actions : List Action) → AreWritableActions (kind_of who) actions
    → EachFine (each (action_pieces who) actions)
unfolding each action_pieces
actions_fine who [] w = tt
actions_fine who (a ∷ more) w =
    (fine_text a.name w.0, fine_append (chance_pieces who a.chance) (each (action_pieces who) more) (chance_fine who a.chance w.1) (actions_fine who more w.2))

set_fine : (who : Kind) (m : SetMention) → IsWritableSet (kind_of who) m → EachFine (set_pieces who (new_set m))
unfolding set_pieces list_pieces
set_fine who m w =
    let own : w.actions ≡ unwrap_or m.actions [] = ap (λ o. unwrap_or o []) (sym w.gives) in (
      fine_whole m.number w.limit,
      fine_append (name_pieces m.name) _ (name_fine m.name w.name) (
        fine_open,
        fine_append (each (action_pieces who) (unwrap_or m.actions [])) (close_piece ∷ [])
            (actions_fine who (unwrap_or m.actions []) (subst (AreWritableActions (kind_of who)) own w.writable)) (fine_close, tt),
      ),
    )

payoffs_fine : (one two : Fraction) → IsSmallFraction one → IsSmallFraction two → EachFine (payoffs_pieces one two)
unfolding payoffs_pieces
payoffs_fine one two small_one small_two = (fine_open, (fine_fraction one small_one.1, (fine_comma, (fine_fraction two small_two.1, (fine_close, tt)))))

outcome_fine : (m : OutcomeMention) → IsWritableOutcome m → EachFine (described_outcome (new_outcome m))
unfolding described_outcome
outcome_fine m w =
    let one = (new_outcome m).one in
    let two = (new_outcome m).two in
    let same_one : w.one ≡ one = ap (λ (o : Option (List Fraction)). (new_outcome (record m { payoffs = o })).one) (sym w.gives) in
    let same_two : w.two ≡ two = ap (λ (o : Option (List Fraction)). (new_outcome (record m { payoffs = o })).two) (sym w.gives) in (
      fine_whole m.number w.limit,
      fine_append (name_pieces m.name) (payoffs_pieces one two) (name_fine m.name w.name)
          (payoffs_fine one two (subst IsSmallFraction same_one w.one_small) (subst IsSmallFraction same_two w.two_small)),
    )

any_outcome_fine : (m : OutcomeMention) → (m ≡ no_outcome_mention) ⊎ IsWritableOutcome m → EachFine (own_outcome m)
any_outcome_fine m w =
    ⊎_elim
    (λ none. let null : EachFine (whole_piece 0 ∷ []) = (fine_whole 0 (omega arith), tt) in
    subst (λ (o : OutcomeMention). EachFine (own_outcome o)) (sym none) null)
    (λ some. let no : nat_eq m.number 0 ≡ false = ne_eqb m.number 0 some.not_null in
    subst (λ (b : Bool). EachFine (cond b (whole_piece 0 ∷ []) (described_outcome (new_outcome m)))) (sym no) (outcome_fine m some))
    w

pieces_fine : (who : Kind) (r : Record) → IsWritable r → (who ≢ movers.Leaf → IsWritableSet (kind_of who) r.set)
    → EachFine (own_pieces who r)
unfolding player_pieces
pieces_fine movers.Chance r w set = (
  fine_letter 99 refl refl,
  (
    fine_text r.name w.name,
    fine_append (set_pieces movers.Chance (new_set r.set)) (own_outcome r.outcome)
        (set_fine movers.Chance r.set (set (λ e. cc))) (any_outcome_fine r.outcome w.outcome),
  ),
)
pieces_fine movers.One r w set = (
  fine_letter 112 refl refl,
  (
    fine_text r.name w.name,
    (
      fine_whole 1 (omega arith),
      fine_append (set_pieces movers.One (new_set r.set)) (own_outcome r.outcome)
          (set_fine movers.One r.set (set (λ e. cc))) (any_outcome_fine r.outcome w.outcome),
    ),
  ),
)
pieces_fine movers.Two r w set = (
  fine_letter 112 refl refl,
  (
    fine_text r.name w.name,
    (
      fine_whole 2 (omega arith),
      fine_append (set_pieces movers.Two (new_set r.set)) (own_outcome r.outcome)
          (set_fine movers.Two r.set (set (λ e. cc))) (any_outcome_fine r.outcome w.outcome),
    ),
  ),
)
pieces_fine movers.Leaf r w set = (fine_letter 116 refl refl, (fine_text r.name w.name, any_outcome_fine r.outcome w.outcome))

-- the mover's kind is the entry's own
pub own_kind : (kind : EntryKind) (player : ℕ) → kind_of (mover_as kind player) ≡ kind
own_kind kinds.Chance player = refl
own_kind kinds.Personal player = chosen (nat_eq player 1)
  where
    chosen : (b : Bool) → kind_of (cond b movers.One movers.Two) ≡ kinds.Personal
    chosen true = refl
    chosen false = refl
own_kind kinds.Leaf player = refl

-- each token of the lines of writable entries may stand behind any other
pub lines_fine : (rs : List Record) → Each IsWritable rs → EachFine (own_lines rs)
lines_fine [] w = tt
lines_fine (r ∷ rs) w =
    fine_append (own_pieces (mover r) r) (own_lines rs)
    (pieces_fine (mover r) r w.0 (λ some. subst (λ (k : EntryKind). IsWritableSet k r.set) (sym (own_kind r.kind r.player))
    (w.0.set (mover_has_set r.kind r.player some))))
    (lines_fine rs w.1)

-- the first token has no white space before it
pub prologue_fine : (p : Prologue) → IsPlainPrologue p → (rest : List Piece) → EachFine rest
    → ArePieces (prologue_pieces p ++ rest) (10 ∷ [])
unfolding prologue_pieces marker_pieces
prologue_fine p plain rest fine =
    let number : IsFine (spaced Number (codes "2")) = fine_digits (codes "2") refl refl in
    let word : IsFine (spaced Word (codes "R")) = fine_word 82 refl refl in
    let tail : List Piece = spaced Number (codes "2") ∷ spaced Word (codes "R") ∷ text_piece p.title ∷ open_piece ∷ text_piece p.one ∷ text_piece p.two
    ∷ close_piece ∷ on_new_line Text (quoted p.comment) ∷ rest in
    let behind : EachFine tail = (
      number,
      (
        word,
        (
          fine_text p.title plain.title,
          (fine_open, (fine_text p.one plain.one, (fine_text p.two plain.two, (fine_close, (fine_line p.comment plain.comment, fine))))),
        ),
      ),
    ) in
    first_word tail behind
