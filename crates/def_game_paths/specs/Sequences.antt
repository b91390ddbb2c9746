-- A player's information sets in the order of their first nodes,
-- and the numbers of the player's sequences (von Stengel 1996).
-- Sequence 0 is the empty one. Then come the sequences that end at set 1, in the order of its actions,
-- then those of set 2, and so on.
use Rattle.std.specs.Prelude.{All, AllPairs, Bool, IsSome, List, None, Option, Some, [], false, if◌then◌else◌, length}
use Rattle.std.specs.Prelude.{map, nat_eq, nat_lt, not, slice_index, slice_index_or, suc, sum, take, true, zero, ℕ}
use Rattle.std.specs.Prelude.{◌&&◌, ◌+◌, ◌-◌, ◌<◌, ◌≤◌, ◌↔◌, ◌∷◌, ◌≡◌}
use Rattle.def_tree.specs.declared.Kind.{Kind}
use Rattle.def_tree.specs.Tree.{Forest, is_leaf_kind, node_count, prefix}
use Rattle.def_tree.specs.Rules.{is_same_kind, set_count, IsGameTree, most_actions}
use Rattle.def_game_paths.specs.Recall.{HasPerfectRecall, RecallBreak, first_break, first_of_set, is_personal}
use Rattle.def_game_paths.specs.Recall.{recall_break}
use Rattle.def_game_paths.specs.Paths.{Visit, visits, Choice, own_choices}

-- the first nodes of the sets of a kind whose numbers are above `seen`
abbrev pub set_firsts : Kind → ℕ → List Visit → List Visit
set_firsts kind seen [] = []
set_firsts kind seen (v ∷ rest) =
    if is_same_kind kind v.node.kind && nat_eq v.node.set (seen + 1) then v
    ∷ set_firsts kind (seen + 1) rest else set_firsts kind seen rest

-- how many actions each of the kind's sets has that these nodes are in
abbrev pub sizes_so_far : Kind → List Visit → List ℕ
sizes_so_far kind vs = map (λ v. v.node.children) (set_firsts kind 0 vs)

abbrev pub set_sizes : Kind → Forest → List ℕ
set_sizes kind tree = sizes_so_far kind (visits tree)

-- the number of the first sequence that ends at a set
abbrev pub first_sequence : List ℕ → ℕ → ℕ
first_sequence sizes set = 1 + sum (take (set - 1) sizes)

-- the number of the sequence that ends with these choices, the last of which comes first
abbrev pub sequence_number : List ℕ → List Choice → ℕ
sequence_number sizes [] = 0
sequence_number sizes (choice ∷ _) = first_sequence sizes choice.set + (choice.action - 1)

-- a player's sequence at a node
abbrev pub sequence_at : Kind → Forest → Visit → ℕ
sequence_at kind tree v = sequence_number (set_sizes kind tree) (own_choices kind v.path)

-- the set and the action at which a sequence ends:
-- the n-th of those that end at these sets, the first of which has this number
abbrev pub choice_from : ℕ → List ℕ → ℕ → Option Choice
choice_from set [] n = None
choice_from set (size ∷ rest) n = if nat_lt n size then Some (record { set = set; action = n + 1 }) else choice_from
    (set + 1) rest (n - size)

-- the choice that a sequence ends with, and none for the empty one
abbrev pub choice_of : List ℕ → ℕ → Option Choice
choice_of sizes zero = None
choice_of sizes (suc n) = choice_from 1 sizes n

-- a set of this many sets, and one of its actions
pub record IsChoiceOf (sizes : List ℕ) (choice : Choice) : Type 0 where
  pub counts : 1 ≤ choice.set
  pub known : choice.set ≤ length sizes
  pub some : 1 ≤ choice.action
  pub limit : choice.action ≤ slice_index sizes (choice.set - 1)

-- the sequence before each of the kind's sets
abbrev pub sequences_before : Kind → Forest → List ℕ
sequences_before kind tree = map (sequence_at kind tree) (set_firsts kind 0 (visits tree))

-- the sequence before a set has a smaller number than those that end at it
abbrev pub SetsAreInOrder : Type 0
SetsAreInOrder = (tree : Forest) → IsGameTree tree → (kind : Kind) → is_leaf_kind kind ≡ false → (i : ℕ)
    → i < length (sequences_before kind tree) →
    slice_index (sequences_before kind tree) i < first_sequence (set_sizes kind tree) (i + 1)

-- with perfect recall, the number of a player's sequence at a node tells which choices the player has made there
abbrev pub NumbersTellChoices : Type 0
NumbersTellChoices = (tree : Forest) → IsGameTree tree → HasPerfectRecall tree → (kind : Kind) → is_personal kind ≡ true
    →
    AllPairs (λ v w. (sequence_at kind tree v ≡ sequence_at kind tree w)
    ↔ (own_choices kind v.path ≡ own_choices kind w.path)) (visits tree)

-- a sequence's number names the set and the action at which it ends, and each choice the sequence that ends with it
pub record SequencesNameChoices : Type 0 where
  pub of_choice : (sizes : List ℕ) (choice : Choice) (rest : List Choice) → IsChoiceOf sizes choice
      → choice_of sizes (sequence_number sizes (choice ∷ rest)) ≡ Some choice
  pub of_number : (sizes : List ℕ) (sequence : ℕ) (choice : Choice) → choice_of sizes sequence ≡ Some choice
      → IsChoiceOf sizes choice × (sequence_number sizes (choice ∷ []) ≡ sequence)
  pub each : (sizes : List ℕ) (sequence : ℕ) → 1 ≤ sequence → sequence ≤ sum sizes → IsSome (choice_of sizes sequence)
  pub none : (sizes : List ℕ) → choice_of sizes 0 ≡ None

-- the last own choice at a node is one that its set has, and the number of the player's sequence there is one of all
pub record SequencesAreInRange (tree : Forest) (kind : Kind) (v : Visit) : Type 0 where
  pub choices : All (IsChoiceOf (set_sizes kind tree)) (own_choices kind v.path)
  pub below : sequence_at kind tree v < 1 + sum (set_sizes kind tree)

abbrev pub EachSequenceIsInRange : Type 0
EachSequenceIsInRange = (tree : Forest) → IsGameTree tree → (kind : Kind) → is_leaf_kind kind ≡ false
    → All (SequencesAreInRange tree kind) (visits tree)

-- the sets of a kind have 1 to 1,024 actions each,
-- and a game has no more sets and no more sequences of a kind than nodes
pub record HasFewSequences (tree : Forest) (kind : Kind) : Type 0 where
  pub actions : All (λ size. (1 ≤ size) × (size ≤ most_actions)) (set_sizes kind tree)
  pub sets : length (set_sizes kind tree) ≡ set_count kind (prefix tree)
  pub few_sets : length (set_sizes kind tree) ≤ node_count tree
  pub few_sequences : 1 + sum (set_sizes kind tree) ≤ node_count tree

abbrev pub SequencesAreFew : Type 0
SequencesAreFew = (tree : Forest) → IsGameTree tree → (kind : Kind) → is_leaf_kind kind ≡ false
    → HasFewSequences tree kind

-- the i-th of the first nodes is in set number i, and a search for the first node of this set finds it
pub record IsFirstOfSet (kind : Kind) (visits_of : List Visit) (set : ℕ) (v : Visit) : Type 0 where
  pub kinds : v.node.kind ≡ kind
  pub sets : v.node.set ≡ set
  pub first : (number : ℕ) × (first_of_set 1 v.node visits_of ≡ Some (record { number = number; visit = v }))

abbrev pub FirstsAreFirst : Type 0
FirstsAreFirst = (tree : Forest) → IsGameTree tree → (kind : Kind) → is_leaf_kind kind ≡ false → (i : ℕ) (d : Visit)
    → i < set_count kind (prefix tree) →
    IsFirstOfSet kind (visits tree) (i + 1) (slice_index_or (set_firsts kind 0 (visits tree)) i d)

-- a sequence's number is known once its node is reached: the sets of the nodes before it tell it
abbrev pub NumbersAreKnownOnTheWay : Type 0
NumbersAreKnownOnTheWay = (tree : Forest) → IsGameTree tree → (kind : Kind) → is_leaf_kind kind ≡ false
    → (k : ℕ) (d : Visit) → k < length (visits tree) →
    let v = slice_index_or (visits tree) k d in
    sequence_number (sizes_so_far kind (take k (visits tree))) (own_choices kind v.path) ≡ sequence_at kind tree v

-- the player's sequences at the two nodes have other numbers
abbrev pub differ_in_number : Forest → Visit → Visit → Bool
differ_in_number tree first v = not (nat_eq (sequence_at first.node.kind tree first) (sequence_at v.node.kind tree v))

-- the first node whose sequence has another number than that of its set's first node
abbrev pub number_break : Forest → Option RecallBreak
number_break tree = first_break (differ_in_number tree) (visits tree) 1 (visits tree)

-- numbers find the break of recall
abbrev pub NumbersFindTheBreak : Type 0
NumbersFindTheBreak = (tree : Forest) → IsGameTree tree → number_break tree ≡ recall_break tree
