-- The tables of entries that describe their sets and their outcomes whole.
use Rattle.std.proofs.Common.{◌≡◌, ◌≢◌, ℕ, ◌≤◌, Bool, true, false, cond, List, [], ◌∷◌, ◌++◌, length, map, Option, Some, None, refl, sym, ap, ◌∙◌, subst, arith}
use Rattle.std.proofs.lemmas.Bool.{eqb-true}
use Rattle.std.specs.Prelude.{filter, nat_eq, unwrap_or}
use Rattle.def_tree.specs.declared.Kind.{Kind}
use Rattle.def_tree.specs.declared.Kind.TheVariants.{Leaf}
use Rattle.def_tree.specs.Rules.{is_same_kind}
use Rattle.def_tree.proofs.Sets.{is_same_kind_refl, is_same_kind-true}
use Rattle.def_file.specs.declared.EntryKind.{EntryKind}
use Rattle.def_file.specs.declared.EntryKind.TheVariants as entry
use Rattle.def_file.specs.Content.{SetMention, OutcomeMention, Record}
use Rattle.def_file.specs.Faults.{mover, mover_as, has_set}
use Rattle.def_file.specs.Entries.{first_given, given_first, of_kind, mentions}
use Rattle.def_file.proofs.Firsts.{nat_eq-same}
use Rattle.def_canon.specs.Described.{Each, Describes}

-- where each entry has a property from which another follows, each has the other one
pub each_map : (P Q : Record → Type 0) → ((r : Record) → P r → Q r) → (rs : List Record) → Each P rs → Each Q rs
each_map P Q f [] each = tt
each_map P Q f (r ∷ rs) each = (f r each.0, each_map P Q f rs each.1)

-- what passes a test
pub filter_each : (p : Record → Bool) (P Q : Record → Type 0) → ((r : Record) → P r → p r ≡ true → Q r)
    → (rs : List Record)
    → Each P rs → Each Q (filter p rs)
filter_each p P Q f [] each = tt
filter_each p P Q f (r ∷ rs) each = chosen (p r) refl (filter_each p P Q f rs each.1)
  where
    chosen : (b : Bool) → p r ≡ b → Each Q (filter p rs) → Each Q (cond b (r ∷ filter p rs) (filter p rs))
    chosen true is later = (f r each.0 is, later)
    chosen false is later = later

-- one that passes is left
pub filter_some : (p : Record → Bool) (before : List Record) (r : Record) (behind : List Record) → p r ≡ true
    → (front : List Record) × (filter p (before ++ r ∷ behind) ≡ front ++ r ∷ filter p behind)
filter_some p [] r behind is = ([], ap (λ b. cond b (r ∷ filter p behind) (filter p behind)) is)
filter_some p (x ∷ before) r behind is = chosen (p x) (filter_some p before r behind is)
  where
    chosen : (b : Bool) → (front : List Record) × (filter p (before ++ r ∷ behind) ≡ front ++ r ∷ filter p behind)
        → (front : List Record)
        × (cond b (x ∷ filter p (before ++ r ∷ behind)) (filter p (before ++ r ∷ behind)) ≡ front ++ r ∷ filter p behind)
    chosen true later = (x ∷ later.0, ap (λ (ys : List Record). x ∷ ys) later.1)
    chosen false later = later

-- a kind of entry whose mover isn't Leaf has a set
pub mover_has_set : (kind : EntryKind) (player : ℕ) → mover_as kind player ≢ Leaf → has_set kind ≡ true
mover_has_set entry.Chance player some = refl
mover_has_set entry.Personal player some = refl
mover_has_set entry.Leaf player some = absurd (some refl)

-- all mentions of a set are one
module _ (sets : Kind → ℕ → SetMention) (outcomes : ℕ → OutcomeMention) where
  -- of a kind other than leaf, all mentions of a set among described entries are the one that describes it
  pub mentions_same : (kind : Kind) → kind ≢ Leaf → (n : ℕ) (rs : List Record) → Each (Describes sets outcomes) rs
      → Each (λ r. r.set ≡ sets kind n) (mentions kind n rs)
  mentions_same kind some n rs each =
      filter_each _ (λ r. (mover r ≡ kind) × Describes sets outcomes r) _
      (λ r known is.
      let number : n ≡ r.set.number = eqb-true n r.set.number is in
      let own : has_set r.kind ≡ true = mover_has_set r.kind r.player (λ leaf. some (sym known.0 ∙ leaf)) in
      (known.1.set own).same ∙ (λ i. sets (known.0 i) (sym number i)))
      (of_kind kind rs)
      (filter_each _ (Describes sets outcomes) _ (λ r known is. (is_same_kind-true kind (mover r) is, known)) rs each)

-- with one in the midst there is one
pub front_some : (front : List Record) (x : Record) (more : List Record) → 1 ≤ length (front ++ x ∷ more)
front_some [] x more = omega arith
front_some (y ∷ front) x more = omega arith

-- a mention is among them
pub mention_some : (before : List Record) (r : Record) (behind : List Record)
    → 1 ≤ length (mentions (mover r) r.set.number (before ++ r ∷ behind))
mention_some before r behind =
    let first = filter_some (λ x. is_same_kind (mover r) (mover x)) before r behind (is_same_kind_refl (mover r)) in
    let second = filter_some (λ x. nat_eq r.set.number x.set.number) first.0 r (of_kind (mover r) behind) (nat_eq-same r.set.number) in
    let split : mentions (mover r) r.set.number (before ++ r ∷ behind) ≡ second.0 ++ r ∷ mentions (mover r) r.set.number behind =
    ap (filter (λ x. nat_eq r.set.number x.set.number)) first.1 ∙ second.1 in
    subst (λ (xs : List Record). 1 ≤ length xs) (sym split) (front_some second.0 r (mentions (mover r) r.set.number behind))

-- what the mentions give, where all are one
pub given_same : (v : SetMention) (rs : List Record) → 1 ≤ length rs → Each (λ r. r.set ≡ v) rs
    → given_first (map (λ r. r.set.actions) rs) ≡ unwrap_or v.actions []
given_same v [] some each = absurd (omega arith)
given_same v (r ∷ rs) some each = ap (λ (m : SetMention). unwrap_or m.actions []) each.0

-- names that are all this one
abbrev pub AreAllNamed : Option (List ℕ) → List (Option (List ℕ)) → Type 0
AreAllNamed name [] = Unit {0}
AreAllNamed name (x ∷ xs) = (x ≡ name) × AreAllNamed name xs

names_are : (v : SetMention) (rs : List Record) → Each (λ r. r.set ≡ v) rs
    → AreAllNamed v.name (map (λ r. r.set.name) rs)
names_are v [] each = tt
names_are v (r ∷ rs) each = (ap (λ (m : SetMention). m.name) each.0, names_are v rs each.1)

-- of one or more names that are all this one, the first that is given is this one
pub first_name : (name : Option (List ℕ)) (os : List (Option (List ℕ))) → 1 ≤ length os → AreAllNamed name os
    → first_given os ≡ name
first_name name [] some are = absurd (omega arith)
first_name (Some name) (o ∷ os) some are = ap (λ (x : Option (List ℕ)). first_given (x ∷ os)) are.0
first_name None (o ∷ []) some are = ap (λ (x : Option (List ℕ)). first_given (x ∷ [])) are.0
first_name None (o ∷ p ∷ os) some are =
    ap (λ (x : Option (List ℕ)). first_given (x ∷ p ∷ os)) are.0 ∙ first_name None (p ∷ os) (omega arith) are.1

-- of one or more entries with the same set mention, the first name that is given is the mention's
pub first_same : (v : SetMention) (rs : List Record) → 1 ≤ length rs → Each (λ r. r.set ≡ v) rs
    → first_given (map (λ r. r.set.name) rs) ≡ v.name
first_same v [] some each = absurd (omega arith)
first_same v (r ∷ rs) some each = first_name v.name (map (λ r. r.set.name) (r ∷ rs)) (omega arith) (names_are v (r ∷ rs) each)
