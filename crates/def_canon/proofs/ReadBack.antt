-- The canonical form of a game of described entries stands for it.
use Rattle.std.proofs.Common.{◌≡◌, ◌≢◌, ℕ, ◌-◌, ◌≤◌, Bool, true, false, cond, List, [], ◌∷◌, ◌++◌, length, map, refl, sym, ap, ◌∙◌, subst, append_assoc, arith}
use Rattle.std.specs.Prelude.{nat_eq}
use Rattle.std.specs.List.{zip}
use Rattle.std.proofs.lemmas.Bool.{ne_eqb}
use Rattle.def_tree.specs.declared.Kind.{Kind}
use Rattle.def_tree.specs.declared.Kind.TheVariants as movers
use Rattle.def_tree.specs.declared.Node.{Node}
use Rattle.def_tree.specs.Rules.{most_nodes}
use Rattle.def_tree.specs.Tree.{IsWhole}
use Rattle.def_tree.proofs.Forests.{prefix-forest_of}
use Rattle.def_file_tokens.specs.Spelling.{Piece, bytes_of}
use Rattle.def_file.specs.declared.EntryKind.{EntryKind}
use Rattle.def_file.specs.declared.EntryKind.TheVariants as kinds
use Rattle.def_file.specs.Content.{SetMention, OutcomeMention, Prologue, Record, SetEntry, SetTables, GameFile, sets_of_kind}
use Rattle.def_file.specs.Faults.{has_set, mover, mover_as, outcome_at, set_at}
use Rattle.def_file.specs.Adding.{new_set, new_outcome}
use Rattle.def_file.specs.Entries.{contents_of, game_of_entries, node_of, number_in, outcome_numbers, outcome_table, set_numbers, set_table}
use Rattle.def_file_form.specs.Form.{IsPrologue, Spelled}
use Rattle.def_file_form.specs.Laws.{StandsFor}
use Rattle.def_file_form.proofs.FileReadingIsExact.{game_taken}
use Rattle.def_canon.specs.Canon.{canon, described_outcome, each, game_pieces, lines_pieces, node_pieces, outcome_pieces, place_pieces, player_pieces}
use Rattle.def_canon.specs.Canon.{prologue_pieces, set_pieces, text_piece, letter, whole_piece}
use Rattle.def_canon.specs.Described.{Describes, Each}
use Rattle.def_canon.specs.Laws.{CanonIsReadBack, CanonStandsForGame, IsOfEntries}
use Rattle.def_canon.specs.Writable.{IsPlainPrologue, IsWritable}
use Rattle.def_canon.proofs.FineLines.{lines_fine, prologue_fine}
use Rattle.def_canon.proofs.Lookups.{outcome_found, set_found}
use Rattle.def_canon.proofs.NoFault.{described_have_no_fault, each_before}
use Rattle.def_canon.proofs.OwnLines.{entries_are, own_lines, own_outcome, own_place}
use Rattle.def_canon.proofs.Spelled.{prologue_is, spell, spell_append, spell_map}

sets_are : (who : Kind) → who ≢ movers.Leaf → (rs : List Record)
    → sets_of_kind who (contents_of rs).sets ≡ set_table who rs
sets_are movers.Chance some rs = refl
sets_are movers.One some rs = refl
sets_are movers.Two some rs = refl
sets_are movers.Leaf some rs = absurd (some refl)

place_is : (who : Kind) → who ≢ movers.Leaf → (sets : SetTables) (n : ℕ) (m : SetMention)
    → set_at (sets_of_kind who sets) (n - 1) ≡ new_set m → place_pieces who sets n ≡ own_place who m
unfolding place_pieces
place_is movers.Chance some sets n m found = ap (set_pieces movers.Chance) found
place_is movers.One some sets n m found = ap (set_pieces movers.One) found
place_is movers.Two some sets n m found = ap (set_pieces movers.Two) found
place_is movers.Leaf some sets n m found = refl

has_mover : (kind : EntryKind) (player : ℕ) → has_set kind ≡ true → mover_as kind player ≢ movers.Leaf
has_mover kinds.Chance player has leaf = cc
has_mover kinds.Personal player has leaf = chosen (nat_eq player 1) leaf
  where
    chosen : (b : Bool) → cond b movers.One movers.Two ≡ movers.Leaf → ⊥
    chosen true e = cc
    chosen false e = cc
has_mover kinds.Leaf player has leaf = cc

leaf_mover : (kind : EntryKind) (player : ℕ) → has_set kind ≡ false → mover_as kind player ≡ movers.Leaf
leaf_mover kinds.Chance player has = cc
leaf_mover kinds.Personal player has = cc
leaf_mover kinds.Leaf player has = refl

no_place : (who : Kind) → who ≡ movers.Leaf → (sets : SetTables) (n : ℕ) (m : SetMention)
    → place_pieces who sets n ≡ own_place who m
unfolding place_pieces
no_place movers.Chance leaf sets n m = cc
no_place movers.One leaf sets n m = cc
no_place movers.Two leaf sets n m = cc
no_place movers.Leaf leaf sets n m = refl

module _ (sets : Kind → ℕ → SetMention) (outcomes : ℕ → OutcomeMention) (rs : List Record)
    (each_described : Each (Describes sets outcomes) rs) where
  place_own : (before : List Record) (r : Record) (behind : List Record) → rs ≡ before ++ r ∷ behind
      → place_pieces (mover r) (contents_of rs).sets (node_of rs r).set ≡ own_place (mover r) r.set
  place_own before r behind split = chosen (has_set r.kind) refl
    where
      chosen : (b : Bool) → has_set r.kind ≡ b
          → place_pieces (mover r) (contents_of rs).sets (cond b (number_in r.set.number (set_numbers (mover r) rs)) 0)
          ≡ own_place (mover r) r.set
      chosen true has =
          let some = has_mover r.kind r.player has in
          let d = (each_before (Describes sets outcomes) before r behind (subst (Each (Describes sets outcomes)) split each_described)).1 in
          place_is (mover r) some (contents_of rs).sets _ r.set
          (ap (λ (table : List SetEntry). set_at table (number_in r.set.number (set_numbers (mover r) rs) - 1)) (sets_are (mover r) some rs)
          ∙ set_found sets outcomes rs before r behind split each_described some (d.set has).same)
      chosen false has = no_place (mover r) (leaf_mover r.kind r.player has) (contents_of rs).sets 0 r.set

  outcome_own : (before : List Record) (r : Record) (behind : List Record) → rs ≡ before ++ r ∷ behind
      → outcome_pieces (outcome_table rs) (node_of rs r).outcome ≡ own_outcome r.outcome
  unfolding outcome_pieces
  outcome_own before r behind split = chosen (nat_eq r.outcome.number 0) refl
    where
      chosen : (b : Bool) → nat_eq r.outcome.number 0 ≡ b
          → outcome_pieces (outcome_table rs) (cond b 0 (number_in r.outcome.number (outcome_numbers rs)))
          ≡ cond b (whole_piece 0 ∷ []) (described_outcome (new_outcome r.outcome))
      chosen true null = refl
      chosen false some =
          let d = (each_before (Describes sets outcomes) before r behind (subst (Each (Describes sets outcomes)) split each_described)).1 in
          let n = number_in r.outcome.number (outcome_numbers rs) in
          let positive : nat_eq n 0 ≡ false = ne_eqb n 0 (omega arith) in
          ap (λ b. cond b (whole_piece 0 ∷ []) (described_outcome (outcome_at (outcome_table rs) (n - 1)))) positive
          ∙ ap described_outcome (outcome_found sets outcomes rs before r behind split each_described some d.outcome.same)

  lines_own : (before rest : List Record) → rs ≡ before ++ rest
      → lines_pieces (contents_of rs).sets (outcome_table rs) (zip (map (node_of rs) rest) (map (λ r. r.name) rest))
      ≡ own_lines rest
  unfolding each node_pieces
  lines_own before [] split = refl
  lines_own before (r ∷ rest) split =
      let place = place_own before r rest split in
      let outcome = outcome_own before r rest split in
      (λ i. (letter (mover r) ∷ text_piece r.name ∷ (player_pieces (mover r) ++ (place i ++ outcome i)))
      ++ lines_own (before ++ r ∷ []) rest (split ∙ sym (append_assoc before (r ∷ []) rest)) i)

game_lines : (p : Prologue) (rs : List Record)
    → lines_pieces (contents_of rs).sets (outcome_table rs) (zip (contents_of rs).nodes (contents_of rs).names)
    ≡ own_lines rs
    → game_pieces (game_of_entries p rs) ≡ prologue_pieces p ++ own_lines rs
unfolding game_pieces
game_lines p rs own =
    ap (λ (ns : List Node). prologue_pieces p ++ lines_pieces (contents_of rs).sets (outcome_table rs) (zip ns (contents_of rs).names))
    (prefix-forest_of (contents_of rs).nodes)
    ∙ ap (λ l. prologue_pieces p ++ l) own

stands : (p : Prologue) (rs : List Record) (sets : Kind → ℕ → SetMention) (outcomes : ℕ → OutcomeMention)
    → IsPlainPrologue p
    → Each (Describes sets outcomes) rs → Each IsWritable rs → length rs ≤ most_nodes → IsWhole (contents_of rs).nodes
    → StandsFor (canon (game_of_entries p rs)) (game_of_entries p rs)
unfolding canon
stands p rs sets outcomes plain described writable few whole =
    let pieces = game_lines p rs (lines_own sets outcomes rs described [] rs refl) in
    record {
      prologue = p;
      entries = rs;
      file = record {
        pieces = prologue_pieces p ++ own_lines rs;
        space = 10 ∷ [];
        in_turn = prologue_fine p plain (own_lines rs) (lines_fine rs writable);
        spelling = ap (λ (ps : List Piece). bytes_of ps (10 ∷ [])) pieces;
        behind = spell (own_lines rs) [];
        prologue = subst (λ (tokens : List Spelled). IsPrologue p tokens (spell (own_lines rs) []))
            (sym (spell_map (prologue_pieces p ++ own_lines rs) ∙ spell_append (prologue_pieces p) (own_lines rs) []))
            (prologue_is p (spell (own_lines rs) []) plain);
        entries = entries_are rs writable;
        whole = whole;
      };
      no_fault = described_have_no_fault sets outcomes rs described few;
      game_is = refl;
    }

-- the canonical form stands for the game, where its entries are one whole tree within the limit of nodes,
-- describe their sets and outcomes whole, each in one way, and can be written
pub canon_stands_for_game : CanonStandsForGame
canon_stands_for_game game of =
    subst (λ (g : GameFile). StandsFor (canon g) g) (sym of.game_is)
    (stands of.prologue of.entries of.sets of.outcomes of.plain of.described of.writable of.few of.whole)

-- the canonical form has the lines of the entries behind the prologue
pub canon_of_lines : (game : GameFile) (of : IsOfEntries game)
    → canon game ≡ bytes_of (prologue_pieces of.prologue ++ own_lines of.entries) (10 ∷ [])
unfolding canon
canon_of_lines game of =
    ap canon of.game_is
    ∙ ap (λ (ps : List Piece). bytes_of ps (10 ∷ [])) (game_lines of.prologue of.entries
    (lines_own of.sets of.outcomes of.entries of.described [] of.entries refl))

-- the canonical form of a game of such entries is read as this game
pub canon_is_read_back : CanonIsReadBack
canon_is_read_back game of = game_taken (canon game) game (canon_stands_for_game game of)
