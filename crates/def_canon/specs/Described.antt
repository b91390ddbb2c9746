-- Entries that describe their sets and their outcomes whole, each in one way.
--     Each P rs                         each of the entries has the property
--     Describes sets outcomes r         the entry describes its set and its outcome as these say
--     DescribedHaveNoFault              such entries have no fault
use Rattle.std.specs.Prelude.{◌≡◌, ◌≢◌, ℕ, ◌≤◌, ◌⊎◌, true, List, [], ◌∷◌, length, Some, None}
use Rattle.def_fraction.specs.Fraction.{Fraction}
use Rattle.def_tree.specs.declared.Kind.{Kind}
use Rattle.def_tree.specs.Rules.{most_actions, most_nodes}
use Rattle.def_file.specs.declared.EntryKind.TheVariants.{Personal}
use Rattle.def_file.specs.Content.{Action, SetMention, OutcomeMention, Record}
use Rattle.def_file.specs.Faults.{mover, has_set}
use Rattle.def_file.specs.EntryLaws.{HaveNoFault}

abbrev pub Each : (Record → Type 0) → List Record → Type 0
Each P [] = Unit {0}
Each P (r ∷ rs) = P r × Each P rs

-- the mention of its set is this one, with 1 to 1,024 actions
pub record DescribesSet (sets : Kind → ℕ → SetMention) (r : Record) : Type 0 where
  pub same : r.set ≡ sets (mover r) r.set.number
  pub actions : List Action
  pub gives : r.set.actions ≡ Some actions
  pub some : 1 ≤ length actions
  pub few : length actions ≤ most_actions

-- the mention of its outcome is this one, with two payoffs, and of the null outcome with none
pub record DescribesOutcome (outcomes : ℕ → OutcomeMention) (r : Record) : Type 0 where
  pub same : r.outcome ≡ outcomes r.outcome.number
  pub null : r.outcome.number ≡ 0 → r.outcome.payoffs ≡ None
  pub two : r.outcome.number ≢ 0 → (one two : Fraction) × (r.outcome.payoffs ≡ Some (one ∷ two ∷ []))

-- an entry describes its set and its outcome as the tables do, and a player's entry is of player 1 or 2
pub record Describes (sets : Kind → ℕ → SetMention) (outcomes : ℕ → OutcomeMention) (r : Record) : Type 0 where
  pub player : r.kind ≡ Personal → (r.player ≡ 1) ⊎ (r.player ≡ 2)
  pub set : has_set r.kind ≡ true → DescribesSet sets r
  pub outcome : DescribesOutcome outcomes r

-- entries that describe their sets and outcomes have no fault, up to the limit of nodes
abbrev pub DescribedHaveNoFault : Type 0
DescribedHaveNoFault = (sets : Kind → ℕ → SetMention) (outcomes : ℕ → OutcomeMention) (rs : List Record)
    → Each (Describes sets outcomes) rs → length rs ≤ most_nodes → HaveNoFault rs
