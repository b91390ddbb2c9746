-- Entries that describe their sets and their outcomes whole have no fault.
use Rattle.std.proofs.Common.{◌≡◌, ℕ, ◌<◌, true, List, [], ◌∷◌, ◌++◌, length, map, Option, Some, None, refl, sym, ap, ◌∙◌, subst, arith}
use Rattle.std.proofs.Math.Logic.{⊎_elim}
use Rattle.std.proofs.lemmas.List.{length-append}
use Rattle.def_fraction.specs.Fraction.{Fraction}
use Rattle.def_tree.specs.declared.Kind.{Kind}
use Rattle.def_tree.specs.declared.Kind.TheVariants as movers
use Rattle.def_tree.specs.Rules.{most_nodes}
use Rattle.def_file.specs.declared.EntryKind.TheVariants.{Personal}
use Rattle.def_file.specs.declared.FileFault.{FileFault}
use Rattle.def_file.specs.declared.FileFault.TheVariants.{PlayerNumber, SetUndefined, SetMismatch, OutcomeUndefined, OutcomeMismatch, PayoffCount, TooManyNodes}
use Rattle.def_file.specs.declared.FileFault.TheVariants.{ActionCount}
use Rattle.def_file.specs.Content.{Action, SetMention, OutcomeMention, Record}
use Rattle.def_file.specs.Faults.{mover, mover_as, has_set}
use Rattle.def_file.specs.EntryRules.{Moves, MentionOneSet, MentionOneOutcome, IsFirstWith, AreSameNumbers, AreSameActions, HasOtherName, HasOtherList, Breaks}
use Rattle.def_canon.specs.Described.{Each, Describes, DescribedHaveNoFault}

-- what holds of each entry holds of each one before some entry, and of this entry
pub each_before : (P : Record → Type 0) (before : List Record) (r : Record) (behind : List Record)
    → Each P (before ++ r ∷ behind) → Each P before × P r
each_before P [] r behind each = (tt, each.0)
each_before P (x ∷ before) r behind each = let later = each_before P before r behind each.1 in ((each.0, later.0), later.1)

-- what holds of each entry of two lists holds of each entry of the one list behind the other
pub each_append : (P : Record → Type 0) (rs ts : List Record) → Each P rs → Each P ts → Each P (rs ++ ts)
each_append P [] ts first second = second
each_append P (r ∷ rs) ts first second = (first.0, each_append P rs ts first.1 second)

-- who moves is the mover, and has a set
moved : (who : Kind) (r : Record) → Moves who r → (mover r ≡ who) × (has_set r.kind ≡ true)
moved movers.Chance r moves = (ap (λ k. mover_as k r.player) moves, ap has_set moves)
moved movers.One r moves = (ap (λ k. mover_as k r.player) moves.0 ∙ ap (λ (p : ℕ). mover_as Personal p) moves.1, ap has_set moves.0)
moved movers.Two r moves = (ap (λ k. mover_as k r.player) moves.0 ∙ ap (λ (p : ℕ). mover_as Personal p) moves.1, ap has_set moves.0)
moved movers.Leaf r moves = absurd moves

same_numbers : (fs : List Fraction) → AreSameNumbers fs fs
same_numbers [] = tt
same_numbers (f ∷ fs) = (refl, same_numbers fs)

module _ (sets : Kind → ℕ → SetMention) (outcomes : ℕ → OutcomeMention) where
  same_set : (r e : Record) → Describes sets outcomes r → Describes sets outcomes e → MentionOneSet r e → r.set ≡ e.set
  same_set r e dr de one =
      let mr = moved one.who r one.here in
      let me = moved one.who e one.there in
      let sr = dr.set mr.1 in
      let se = de.set me.1 in
      sr.same ∙ (λ i. sets (mr.0 i) (one.number i)) ∙ ap (λ k. sets k e.set.number) (sym me.0) ∙ sym se.same

  same_outcome : (r e : Record) → Describes sets outcomes r → Describes sets outcomes e → MentionOneOutcome r e
      → r.outcome ≡ e.outcome
  same_outcome r e dr de one = dr.outcome.same ∙ ap outcomes one.number ∙ sym de.outcome.same

  first_describes : (P : Record → Type 0) (rs : List Record) (e : Record) → IsFirstWith P rs e
      → Each (Describes sets outcomes) rs → Describes sets outcomes e
  first_describes P rs e first each =
      (each_before (Describes sets outcomes) first.before e first.behind (subst (Each (Describes sets outcomes)) first.place each)).1

  no_other_name : (P : Record → Type 0) (name : Record → Option (List ℕ)) (rs : List Record) (r : Record)
      → ((e : Record) → Describes sets outcomes e → P e → name r ≡ name e)
      → Each (Describes sets outcomes) rs → HasOtherName P name rs r → ⊥
  no_other_name P name rs r same each other =
      let e = first_describes _ rs other.entry other.first each in
      let as_before : name r ≡ name other.entry = same other.entry e other.first.has.0 in
      let both : Some other.kept ≡ Some other.given = sym other.keeps ∙ sym as_before ∙ other.gives in
      let kept_is : other.kept ≡ other.given = cc in
      other.differ kept_is

  no_other_list : {A : Type 0} (P : Record → Type 0) (list : Record → Option A) (Same : A → A → Type 0)
      (rs : List Record) (r : Record)
      → ((e : Record) → Describes sets outcomes e → P e → list r ≡ list e) → ((x : A) → Same x x)
      → Each (Describes sets outcomes) rs → HasOtherList P list Same rs r → ⊥
  no_other_list P list Same rs r same reflexive each other =
      let e = first_describes _ rs other.entry other.first each in
      let as_before = same other.entry e other.first.has in
      let both : Some other.kept ≡ Some other.given = sym other.keeps ∙ sym as_before ∙ other.gives in
      let kept_is : other.kept ≡ other.given = cc in
      other.differ (subst (Same other.kept) kept_is (reflexive other.kept))

  same_actions : (kind : _) (xs : List Action) → AreSameActions kind xs xs
  same_actions kind xs = record { names = refl; chances = λ _. same_numbers (map (λ a. a.chance) xs) }

  refute : (rs : List Record) (r : Record) → Each (Describes sets outcomes) rs → Describes sets outcomes r
      → length rs < most_nodes → (fault : FileFault) → Breaks rs r fault → ⊥
  refute rs r each d few (PlayerNumber node) b = ⊎_elim b.1.not_one b.1.not_two (d.player b.1.personal)
  refute rs r each d few (SetUndefined node) b =
      let s = d.set (moved b.1.who r b.1.moves).1 in
      let clash : Some s.actions ≡ None = sym s.gives ∙ b.2 in
      cc
  refute rs r each d few (SetMismatch node) b =
      ⊎_elim
      (no_other_name (MentionOneSet r) (λ e. e.set.name) rs r (λ e de one. ap (λ (m : SetMention). m.name) (same_set r e d de one)) each)
      (no_other_list (MentionOneSet r) (λ e. e.set.actions) (AreSameActions r.kind) rs r
      (λ e de one. ap (λ (m : SetMention). m.actions) (same_set r e d de one)) (same_actions r.kind) each)
      b.1
  refute rs r each d few (OutcomeUndefined node) b =
      let two = d.outcome.two b.1.not_null in
      let clash : Some (two.0 ∷ two.1 ∷ []) ≡ None = sym two.2 ∙ b.2 in
      cc
  refute rs r each d few (OutcomeMismatch node) b =
      ⊎_elim
      (no_other_name (MentionOneOutcome r) (λ e. e.outcome.name) rs r (λ e de one. ap (λ (m : OutcomeMention). m.name) (same_outcome r e d de one)) each)
      (⊎_elim
      (no_other_list (MentionOneOutcome r) (λ e. e.outcome.payoffs) AreSameNumbers rs r
      (λ e de one. ap (λ (m : OutcomeMention). m.payoffs) (same_outcome r e d de one)) same_numbers each)
      (λ zeros. let clash : Some zeros.given ≡ None = sym zeros.gives ∙ d.outcome.null zeros.null in cc))
      b.1
  refute rs r each d few (PayoffCount node) b =
      let two = d.outcome.two b.1.not_null in
      let same : Some (two.0 ∷ two.1 ∷ []) ≡ Some b.2.0 = sym two.2 ∙ b.2.1 in
      let list : two.0 ∷ two.1 ∷ [] ≡ b.2.0 = cc in
      b.2.2 (sym (ap length list))
  refute rs r each d few TooManyNodes b = absurd (omega (arith, few, b))
  refute rs r each d few (ActionCount node) b =
      let s = d.set (moved b.1.who r b.1.moves).1 in
      let same : Some s.actions ≡ Some b.2.0 = sym s.gives ∙ b.2.1 in
      let list : s.actions ≡ b.2.0 = cc in
      ⊎_elim (λ none. absurd (omega (arith, s.some, none, ap length list))) (λ many. absurd (omega (arith, s.few, many, ap length list))) b.2.2
  refute rs r each d few _ b = b

-- entries within the limit of nodes have no fault if they describe their sets and outcomes whole, each in one way
pub described_have_no_fault : DescribedHaveNoFault
described_have_no_fault sets outcomes rs each few before behind r split fault =
    let parts = each_before (Describes sets outcomes) before r behind (subst (Each (Describes sets outcomes)) split each) in
    refute sets outcomes before r parts.0 parts.1 (omega (arith, ap length split, length-append before (r ∷ behind), few)) fault
