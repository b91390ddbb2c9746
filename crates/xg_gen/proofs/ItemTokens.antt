-- The tokens of a prologue, of a node, of a set and of an outcome, by the items that are written.
use Rattle.std.proofs.Common.{◌≡◌, ℕ, ◌-◌, List, [], ◌∷◌, ◌++◌, Option, refl, ap, ◌∙◌, append_assoc}
use Rattle.std.specs.Prelude.{false, nat_eq}
use Rattle.std.proofs.lemmas.Bool.{ne_eqb}
use Rattle.std.proofs.lemmas.List.{append-nil}
use Rattle.def_fraction.specs.Fraction.{Fraction}
use Rattle.def_file_tokens.specs.declared.Token.TheVariants as kinds
use Rattle.def_file_tokens.specs.Spelling.{Piece}
use Rattle.def_file.specs.Content.{OutcomeEntry, Prologue, SetEntry, SetTables}
use Rattle.def_file.specs.Faults.{outcome_at}
use Rattle.def_tree.specs.declared.Kind.{Kind}
use Rattle.def_tree.specs.declared.Node.{Node}
use Rattle.def_tree.specs.declared.Player.TheVariants.{One, Two}
use Rattle.def_canon.specs.Canon.{action_pieces, close_piece, comma_piece, described_outcome, each, fraction, letter, list_pieces, marker_pieces, name_pieces}
use Rattle.def_canon.specs.Canon.{node_pieces, on_new_line, open_piece, outcome_pieces, payoffs_pieces, place_pieces, player_pieces, prologue_pieces, quoted}
use Rattle.def_canon.specs.Canon.{set_pieces, text_piece, whole_piece}
use Rattle.xg_game.specs.Access.{outcome_numbered, payoff_to}

pub prologue_tokens : (p : Prologue) (title one two comment : List ℕ) → title ≡ p.title → one ≡ p.one → two ≡ p.two
    → comment ≡ p.comment
    → marker_pieces ++ (text_piece title ∷ open_piece ∷ text_piece one ∷ text_piece two ∷ close_piece
    ∷ on_new_line kinds.Text (quoted comment) ∷ [])
    ≡ prologue_pieces p
unfolding prologue_pieces
prologue_tokens p title one two comment et eo ew ec =
    (λ k. marker_pieces ++ (text_piece (et k) ∷ open_piece ∷ text_piece (eo k) ∷ text_piece (ew k) ∷ close_piece
    ∷ on_new_line kinds.Text (quoted (ec k)) ∷ []))

pub node_tokens : (sets : SetTables) (outcomes : List OutcomeEntry) (node : Node) (name : List ℕ)
    → (letter node.kind ∷ text_piece name ∷ (player_pieces node.kind ++ []))
    ++ (place_pieces node.kind sets node.set ++ outcome_pieces outcomes node.outcome)
    ≡ node_pieces sets outcomes node name
unfolding node_pieces
node_tokens sets outcomes node name =
    ap (λ (ps : List Piece). letter node.kind ∷ text_piece name ∷ (ps ++ (place_pieces node.kind sets node.set ++ outcome_pieces outcomes node.outcome)))
    (append-nil (player_pieces node.kind))

pub set_tokens : (kind : Kind) (entry : SetEntry) (number : ℕ) (name : Option (List ℕ)) → number ≡ entry.number
    → name ≡ entry.name
    → (whole_piece number ∷ (name_pieces name ++ open_piece ∷ [])) ++ (each (action_pieces kind) entry.actions ++ close_piece ∷ [])
    ≡ set_pieces kind entry
unfolding set_pieces list_pieces
set_tokens kind entry number name en em =
    ap (λ (ps : List Piece). whole_piece number ∷ ps)
    (append_assoc (name_pieces name) (open_piece ∷ []) (each (action_pieces kind) entry.actions ++ close_piece ∷ []))
    ∙ (λ k. whole_piece (en k) ∷ (name_pieces (em k) ++ open_piece ∷ (each (action_pieces kind) entry.actions ++ close_piece ∷ [])))

pub outcome_tokens : (outcomes : List OutcomeEntry) (n number : ℕ) (name : Option (List ℕ)) (one two : Fraction)
    → (n ≡ 0 → ⊥) → number ≡ (outcome_at outcomes (n - 1)).number → name ≡ (outcome_at outcomes (n - 1)).name
    → one ≡ payoff_to One (outcome_numbered n outcomes) → two ≡ payoff_to Two (outcome_numbered n outcomes)
    → whole_piece number ∷ (name_pieces name ++ (open_piece ∷ fraction one ∷ comma_piece ∷ fraction two ∷ close_piece ∷ []))
    ≡ outcome_pieces outcomes n
unfolding outcome_pieces described_outcome payoffs_pieces
outcome_tokens outcomes n number name one two some en em eo ew =
    let no : nat_eq n 0 ≡ false = ne_eqb n 0 some in
    let known : outcome_numbered n outcomes ≡ outcome_at outcomes (n - 1) = rw no refl in
    let first : one ≡ (outcome_at outcomes (n - 1)).one = eo ∙ ap (λ (o : OutcomeEntry). o.one) known in
    let second : two ≡ (outcome_at outcomes (n - 1)).two = ew ∙ ap (λ (o : OutcomeEntry). o.two) known in
    rw no (λ k. whole_piece (en k)
    ∷ (name_pieces (em k) ++ (open_piece ∷ fraction (first k) ∷ comma_piece ∷ fraction (second k) ∷ close_piece ∷ [])))
