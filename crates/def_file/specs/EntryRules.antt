-- The rules of an entry in the format's words, over the entries before it (the profile's own rules on top of Gambit's
-- manual, "The extensive game (.efg) file format").
--     Moves who r                       who moves at an entry
--     MentionOneSet, MentionOneOutcome  two entries mention one set, and one outcome other than 0
--     IsFirstWith P rs e                the first of some entries with a property
--     Breaks rs r fault                 behind these entries, an entry breaks the rule of this fault
--     IsFirstBroken rs r fault          the rule of the least number that is broken
use Rattle.std.specs.Prelude.{◌≡◌, ◌≢◌, ℕ, ◌+◌, ◌<◌, ◌⊎◌, List, [], ◌∷◌, ◌++◌, length, map, All, Option, Some, None}
use Rattle.std.specs.List.{AllZip}
use Rattle.def_fraction.specs.Fraction.{Fraction, zero_fraction}
use Rattle.def_fraction.specs.Laws.{HasValue}
use Rattle.def_tree.specs.declared.Kind.{Kind}
use Rattle.def_tree.specs.declared.Kind.TheVariants as movers
use Rattle.def_tree.specs.Rules.{most_actions, most_nodes}
use Rattle.def_file.specs.declared.EntryKind.{EntryKind}
use Rattle.def_file.specs.declared.EntryKind.TheVariants.{Chance, Personal}
use Rattle.def_file.specs.declared.FileFault.{FileFault}
use Rattle.def_file.specs.declared.FileFault.TheVariants.{PlayerNumber, SetUndefined, SetMismatch, OutcomeUndefined}
use Rattle.def_file.specs.declared.FileFault.TheVariants.{OutcomeMismatch, PayoffCount, TooManyNodes, ActionCount}
use Rattle.def_file.specs.Content.{Action, Record}
use Rattle.def_file.specs.Faults.{fault_number}

-- chance moves, or the player of this number; nobody moves at a leaf
abbrev pub Moves : Kind → Record → Type 0
Moves movers.Chance r = r.kind ≡ Chance
Moves movers.One r = (r.kind ≡ Personal) × (r.player ≡ 1)
Moves movers.Two r = (r.kind ≡ Personal) × (r.player ≡ 2)
Moves movers.Leaf r = ⊥

-- chance and each player number their sets apart
pub record MentionOneSet (r e : Record) : Type 0 where
  pub who : Kind
  pub here : Moves who r
  pub there : Moves who e
  pub number : r.set.number ≡ e.set.number

-- outcome 0 is mentioned by nobody: it counts as described before
pub record MentionOneOutcome (r e : Record) : Type 0 where
  pub number : r.outcome.number ≡ e.outcome.number
  pub not_null : r.outcome.number ≢ 0

-- no entry of these has the property
abbrev pub NoneWith : (Record → Type 0) → List Record → Type 0
NoneWith P rs = All (λ e. ¬ (P e)) rs

pub record IsFirstWith (P : Record → Type 0) (rs : List Record) (e : Record) : Type 0 where
  pub before : List Record
  pub behind : List Record
  pub place : rs ≡ before ++ e ∷ behind
  pub has : P e
  pub first : NoneWith P before

-- What is described again.

-- numbers by their values
abbrev pub AreSameNumbers : List Fraction → List Fraction → Type 0
AreSameNumbers fs gs = AllZip (λ f g. HasValue f g.num g.den) fs gs

-- the same names in order, and where chance moves the same probabilities
pub record AreSameActions (kind : EntryKind) (kept given : List Action) : Type 0 where
  pub names : map (λ a. a.name) kept ≡ map (λ a. a.name) given
  pub chances : kind ≡ Chance → AreSameNumbers (map (λ a. a.chance) kept) (map (λ a. a.chance) given)

-- a name is given that isn't the first one given by the entries with the property
pub record HasOtherName (P : Record → Type 0) (name : Record → Option (List ℕ)) (rs : List Record) (r : Record) : Type
    0 where
  pub kept : List ℕ
  pub given : List ℕ
  pub entry : Record
  pub first : IsFirstWith (λ e. P e × (name e ≢ None)) rs entry
  pub keeps : name entry ≡ Some kept
  pub gives : name r ≡ Some given
  pub differ : kept ≢ given

-- a list is given that isn't that of the first entry with the property
pub record HasOtherList {A : Type 0} (P : Record → Type 0) (list : Record → Option A) (Same : A → A → Type 0)
    (rs : List Record) (r : Record) : Type 0 where
  pub kept : A
  pub given : A
  pub entry : Record
  pub first : IsFirstWith P rs entry
  pub keeps : list entry ≡ Some kept
  pub gives : list r ≡ Some given
  pub differ : ¬ (Same kept given)

-- The rules that an entry breaks behind others.

-- the player's number is neither 1 nor 2
pub record HasNoPlayer (r : Record) : Type 0 where
  pub personal : r.kind ≡ Personal
  pub not_one : r.player ≢ 1
  pub not_two : r.player ≢ 2

-- the first mention of a set
pub record IsNewSet (rs : List Record) (r : Record) : Type 0 where
  pub who : Kind
  pub moves : Moves who r
  pub none : NoneWith (MentionOneSet r) rs

-- the first mention of an outcome other than 0
pub record IsNewOutcome (rs : List Record) (r : Record) : Type 0 where
  pub not_null : r.outcome.number ≢ 0
  pub none : NoneWith (MentionOneOutcome r) rs

-- a later mention of a set has another name or other actions
abbrev pub HasOtherSet : List Record → Record → Type 0
HasOtherSet rs r =
    HasOtherName (MentionOneSet r) (λ e. e.set.name) rs r
    ⊎ HasOtherList (MentionOneSet r) (λ e. e.set.actions) (AreSameActions r.kind) rs r

-- outcome 0 has payoffs other than 0 and 0
pub record HasOtherZeros (r : Record) : Type 0 where
  pub null : r.outcome.number ≡ 0
  pub given : List Fraction
  pub gives : r.outcome.payoffs ≡ Some given
  pub differ : ¬ (AreSameNumbers (zero_fraction ∷ zero_fraction ∷ []) given)

-- a later mention of an outcome has another name or other payoffs
abbrev pub HasOtherOutcome : List Record → Record → Type 0
HasOtherOutcome rs r =
    HasOtherName (MentionOneOutcome r) (λ e. e.outcome.name) rs r
    ⊎ (HasOtherList (MentionOneOutcome r) (λ e. e.outcome.payoffs) AreSameNumbers rs r ⊎ HasOtherZeros r)

-- other than two payoffs
abbrev pub HasOtherThanTwo : Record → Type 0
HasOtherThanTwo r = (given : List Fraction) × (r.outcome.payoffs ≡ Some given) × (length given ≢ 2)

-- no action, or more than 1,024
abbrev pub HasNoneOrTooMany : Record → Type 0
HasNoneOrTooMany r = (given : List Action) × (r.set.actions ≡ Some given)
    × ((length given ≡ 0) ⊎ (most_actions < length given))

-- The faults of an entry count its node, from 1. No other fault is an entry's.
abbrev pub Breaks : List Record → Record → FileFault → Type 0
Breaks rs r (PlayerNumber node) = (node ≡ length rs + 1) × HasNoPlayer r
Breaks rs r (SetUndefined node) = (node ≡ length rs + 1) × IsNewSet rs r × (r.set.actions ≡ None)
Breaks rs r (SetMismatch node) = (node ≡ length rs + 1) × HasOtherSet rs r
Breaks rs r (OutcomeUndefined node) = (node ≡ length rs + 1) × IsNewOutcome rs r × (r.outcome.payoffs ≡ None)
Breaks rs r (OutcomeMismatch node) = (node ≡ length rs + 1) × HasOtherOutcome rs r
Breaks rs r (PayoffCount node) = (node ≡ length rs + 1) × IsNewOutcome rs r × HasOtherThanTwo r
Breaks rs r TooManyNodes = length rs ≡ most_nodes
Breaks rs r (ActionCount node) = (node ≡ length rs + 1) × IsNewSet rs r × HasNoneOrTooMany r
Breaks rs r _ = ⊥

abbrev pub BreaksNone : List Record → Record → Type 0
BreaksNone rs r = (fault : FileFault) → ¬ (Breaks rs r fault)

-- the rule of the least number that is broken
pub record IsFirstBroken (rs : List Record) (r : Record) (fault : FileFault) : Type 0 where
  pub broken : Breaks rs r fault
  pub none_before : (other : FileFault) → fault_number other < fault_number fault → ¬ (Breaks rs r other)
