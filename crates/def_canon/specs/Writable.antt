-- Entries whose texts, numbers and fractions can be written.
--     IsWritable r      an entry says all of its set and its outcome, within the limits of the format
--     GivesWritable r   what an entry says is within these limits, however much it leaves out
use Rattle.std.specs.Prelude.{◌≡◌, ◌≢◌, ℕ, ◌≤◌, ◌⊎◌, true, List, [], ◌∷◌, All, Option, Some, None, IfSome}
use Rattle.def_fraction.specs.Fraction.{Fraction, most, zero_fraction}
use Rattle.def_file_tokens.specs.Texts.{EndsPlainly}
use Rattle.def_file.specs.declared.EntryKind.{EntryKind}
use Rattle.def_file.specs.declared.EntryKind.TheVariants.{Chance, Personal, Leaf}
use Rattle.def_file.specs.Content.{Action, Prologue, SetMention, OutcomeMention, Record, no_set_mention}
use Rattle.def_file.specs.Content.{no_outcome_mention}
use Rattle.def_file.specs.Faults.{has_set}
use Rattle.def_file.specs.Game.{IsSmallFraction}

-- no text ends with a backslash
abbrev pub IsPlainName : Option (List ℕ) → Type 0
IsPlainName None = Unit {0}
IsPlainName (Some name) = EndsPlainly name

pub record IsPlainPrologue (p : Prologue) : Type 0 where
  pub title : EndsPlainly p.title
  pub one : EndsPlainly p.one
  pub two : EndsPlainly p.two
  pub comment : EndsPlainly p.comment

-- a probability where chance moves, and else none
abbrev pub IsChanceOf : EntryKind → Fraction → Type 0
IsChanceOf Chance f = IsSmallFraction f
IsChanceOf Personal f = f ≡ zero_fraction
IsChanceOf Leaf f = f ≡ zero_fraction

abbrev pub AreWritableActions : EntryKind → List Action → Type 0
AreWritableActions kind [] = Unit {0}
AreWritableActions kind (a ∷ more) = EndsPlainly a.name × IsChanceOf kind a.chance × AreWritableActions kind more

pub record IsWritableSet (kind : EntryKind) (m : SetMention) : Type 0 where
  pub from_one : 1 ≤ m.number
  pub limit : m.number ≤ most
  pub name : IsPlainName m.name
  pub actions : List Action
  pub gives : m.actions ≡ Some actions
  pub writable : AreWritableActions kind actions

-- an outcome with its two payoffs
pub record IsWritableOutcome (m : OutcomeMention) : Type 0 where
  pub not_null : m.number ≢ 0
  pub limit : m.number ≤ most
  pub name : IsPlainName m.name
  pub one : Fraction
  pub two : Fraction
  pub gives : m.payoffs ≡ Some (one ∷ two ∷ [])
  pub one_small : IsSmallFraction one
  pub two_small : IsSmallFraction two

-- the player's number, and no set at a leaf
abbrev pub HasOwnMover : EntryKind → Record → Type 0
HasOwnMover Chance r = r.player ≡ 0
HasOwnMover Personal r = (r.player ≡ 1) ⊎ (r.player ≡ 2)
HasOwnMover Leaf r = (r.player ≡ 0) × (r.set ≡ no_set_mention)

pub record IsWritable (r : Record) : Type 0 where
  pub name : EndsPlainly r.name
  pub mover : HasOwnMover r.kind r
  pub set : has_set r.kind ≡ true → IsWritableSet r.kind r.set
  pub outcome : (r.outcome ≡ no_outcome_mention) ⊎ IsWritableOutcome r.outcome

-- a set's number, and its name and its actions where they are given
pub record GivesWritableSet (kind : EntryKind) (m : SetMention) : Type 0 where
  pub from_one : 1 ≤ m.number
  pub limit : m.number ≤ most
  pub name : IsPlainName m.name
  pub actions : IfSome m.actions (AreWritableActions kind)

-- an outcome's number, and its name and its payoffs where they are given
pub record GivesWritableOutcome (m : OutcomeMention) : Type 0 where
  pub limit : m.number ≤ most
  pub name : IsPlainName m.name
  pub payoffs : IfSome m.payoffs (All IsSmallFraction)

pub record GivesWritable (r : Record) : Type 0 where
  pub name : EndsPlainly r.name
  pub set : has_set r.kind ≡ true → GivesWritableSet r.kind r.set
  pub outcome : GivesWritableOutcome r.outcome
