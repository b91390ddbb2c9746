-- A player's sets so far, and the player's sequence at each node so far.
use Rattle.std.specs.Prelude.{◌≡◌, ◌≢◌, ℕ, ◌+◌, ◌-◌, ◌≤◌, List, [], ◌∷◌, ◌++◌, length, slice_get, slice_set, Option}
use Rattle.std.specs.Prelude.{Some, None, Result, Ok, Err}
use Rattle.def_tree.specs.declared.Node.{Node}
use Rattle.def_tree.specs.Rules.{most_nodes}
use Rattle.xg_sets.specs.declared.table.FoundSet.{FoundSet}
use Rattle.xg_sets.specs.declared.building.RecallFault.{RecallFault}
use Rattle.xg_sets.specs.declared.building.RecallFault.TheVariants.{NotRecall, NoMemory}

-- `next` is the first sequence of the next set
pub record SetsUpTo : Type 0 where
  pub rows : List FoundSet
  pub at_nodes : List ℕ
  pub next : ℕ

abbrev pub HasFewRows : SetsUpTo → Type 0
HasFewRows table = length table.rows ≤ most_nodes

-- node k begins the next set, and the sequence before it is `before`
abbrev pub with_set : SetsUpTo → ℕ → Node → ℕ → SetsUpTo
with_set table k node before = record table {
  rows = table.rows ++ record { first = table.next; before = before; actions = node.children; node = k; last = k } ∷ [];
  next = table.next + node.children;
}

-- node k begins a set, whose first sequence is answered
abbrev pub BeginsSet : SetsUpTo → ℕ → Node → ℕ → SetsUpTo → Result ℕ RecallFault → Type 0
BeginsSet old k node before new (Ok first) = (first ≡ old.next) × (new ≡ with_set old k node before)
BeginsSet old k node before new (Err NoMemory) = Unit {0}
BeginsSet old k node before new (Err (NotRecall _ _)) = ⊥

-- the row's set has a last node so far, for which there is a next one or none
abbrev pub LastIsThere : Option FoundSet → List (Option ℕ) → Type 0
LastIsThere None next = Unit {0}
LastIsThere (Some row) next = (1 ≤ row.last) × (row.last ≤ length next)

-- node k is the last one so far of the set with this row
abbrev pub with_last : SetsUpTo → ℕ → FoundSet → ℕ → SetsUpTo
with_last table i row k = record table { rows = slice_set table.rows i (record row { last = k }) }

-- node k joins the set of row i, whose first sequence is answered where the sequence before it is the same, and whose
-- first node otherwise. It comes next after the set's last node so far
abbrev pub JoinsRow : ℕ → FoundSet → SetsUpTo → ℕ → ℕ → SetsUpTo → Result ℕ RecallFault → List (Option ℕ)
    → List (Option ℕ) → Type 0
JoinsRow i row old k before new (Ok first) next new_next =
    (row.before ≡ before) × (first ≡ row.first) × (new ≡ with_last old i row k)
    × (new_next ≡ slice_set next (row.last - 1) (Some k))
JoinsRow i row old k before new (Err NoMemory) next new_next = ⊥
JoinsRow i row old k before new (Err (NotRecall node earlier)) next new_next = (row.before ≢ before) × (node ≡ k)
    × (earlier ≡ row.node)

abbrev pub NotesIn : Option FoundSet → SetsUpTo → ℕ → Node → ℕ → SetsUpTo → Result ℕ RecallFault → List (Option ℕ)
    → List (Option ℕ) → Type 0
NotesIn None old k node before new result next new_next = BeginsSet old k node before new result × (new_next ≡ next)
NotesIn (Some row) old k node before new result next new_next = JoinsRow (node.set - 1) row old k before new result next
    new_next

-- node k is noted in its set's row, or begins the next set
abbrev pub Notes : SetsUpTo → ℕ → Node → ℕ → SetsUpTo → Result ℕ RecallFault → List (Option ℕ) → List (Option ℕ)
    → Type 0
Notes old k node before new result next new_next = NotesIn (slice_get old.rows (node.set - 1)) old k node before new
    result next new_next
