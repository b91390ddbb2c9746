-- Entries with the whole description of their sets and their outcomes can be written, where what each one gives can be.
use Rattle.std.proofs.Common.{◌≡◌, ℕ, ◌⊎◌, inl, inr, Bool, true, false, cond, List, [], ◌∷◌, ◌++◌, map, Option, Some, None, unwrap_or, refl, sym, ap, ◌∙◌}
use Rattle.std.proofs.Common.{subst}
use Rattle.std.specs.Prelude.{IfSome, nat_eq, not}
use Rattle.std.specs.List.{All}
use Rattle.std.proofs.lemmas.Bool.{eqb-false}
use Rattle.def_fraction.specs.Fraction.{Fraction}
use Rattle.def_tree.specs.declared.Kind.{Kind}
use Rattle.def_tree.specs.Rules.{is_same_kind}
use Rattle.def_tree.specs.Tree.{IsWhole}
use Rattle.def_tree.proofs.Sets.{is_same_kind-true}
use Rattle.def_file.specs.declared.EntryKind.{EntryKind}
use Rattle.def_file.specs.declared.EntryKind.TheVariants as kinds
use Rattle.def_file.specs.Content.{Action, Prologue, Record, no_set_mention, no_outcome_mention}
use Rattle.def_file.specs.Faults.{has_set, mover}
use Rattle.def_file.specs.Adding.{nth_payoff}
use Rattle.def_file.specs.Game.{IsSmallFraction}
use Rattle.def_file.proofs.Fractions.{zero_small, nth_small}
use Rattle.def_file.specs.Entries.{contents_of, first_given, given_first, mentions, of_kind, outcome_mentions, with_outcome}
use Rattle.def_file.specs.EntryLaws.{HaveNoFault}
use Rattle.def_canon.specs.Described.{Each}
use Rattle.def_canon.specs.Writable.{AreWritableActions, GivesWritable, GivesWritableOutcome, GivesWritableSet, HasOwnMover, IsPlainName, IsWritable}
use Rattle.def_canon.specs.Writable.{IsWritableOutcome, IsWritableSet}
use Rattle.def_canon.proofs.Filled.{each_mapped, filled, filled_set, own_player, paid_outcome, whole_set}
use Rattle.def_canon.proofs.FilledRules.{each_placed, player_known}
use Rattle.def_canon.proofs.FineLines.{kind_of, own_kind}
use Rattle.def_canon.proofs.NoFault.{each_before}
use Rattle.def_canon.proofs.Tables.{each_map, filter_each}

-- the first name that is given is one of them
first_plain : (name : Record → Option (List ℕ)) (ms : List Record) → Each (λ r. IsPlainName (name r)) ms
    → IsPlainName (first_given (map name ms))
first_plain name [] each = tt
first_plain name (m ∷ ms) each = chosen (name m) each.0 (first_plain name ms each.1)
  where
    chosen : (o : Option (List ℕ)) → IsPlainName o → IsPlainName (first_given (map name ms))
        → IsPlainName (first_given (o ∷ map name ms))
    chosen (Some x) plain later = plain
    chosen None plain later = later

first_actions : (kind : EntryKind) (ms : List Record) → Each (λ r. IfSome r.set.actions (AreWritableActions kind)) ms
    → AreWritableActions kind (given_first (map (λ r. r.set.actions) ms))
first_actions kind [] each = tt
first_actions kind (m ∷ ms) each = chosen m.set.actions each.0
  where
    chosen : (o : Option (List Action)) → IfSome o (AreWritableActions kind) → AreWritableActions kind (unwrap_or o [])
    chosen (Some actions) writable = writable
    chosen None writable = tt

first_small : (i : ℕ) (ms : List Record) → Each (λ r. IfSome r.outcome.payoffs (All IsSmallFraction)) ms
    → IsSmallFraction (nth_payoff (given_first (map (λ r. r.outcome.payoffs) ms)) i)
first_small i [] each = zero_small
first_small i (m ∷ ms) each = chosen m.outcome.payoffs each.0
  where
    chosen : (o : Option (List Fraction)) → IfSome o (All IsSmallFraction)
        → IsSmallFraction (nth_payoff (unwrap_or o []) i)
    chosen (Some fs) small = nth_small fs i small
    chosen None small = zero_small

-- who moves, and what an entry gives
abbrev GivesAs : Kind → Record → Type 0
GivesAs who x = (mover x ≡ who) × GivesWritable x

module _ (p : Prologue) (rs : List Record) (fine : HaveNoFault rs) (whole : IsWhole (contents_of rs).nodes)
    (gives : Each GivesWritable rs) where
  -- the mentions of a set are of one kind of entry
  mentions_give : (who : Kind) (n : ℕ) → Each (GivesAs who) (mentions who n rs)
  mentions_give who n =
      filter_each (λ x. nat_eq n x.set.number) (GivesAs who) (GivesAs who) (λ x known _. known) (of_kind who rs)
      (filter_each (λ x. is_same_kind who (mover x)) GivesWritable (GivesAs who) (λ x known is. (is_same_kind-true who (mover x) is, known)) rs gives)

  outcomes_give : (n : ℕ) → Each (λ x. GivesWritableOutcome x.outcome) (outcome_mentions n rs)
  outcomes_give n =
      filter_each (λ x. nat_eq n x.outcome.number) GivesWritable _ (λ x known _. known.outcome) (with_outcome rs)
      (filter_each (λ x. not (nat_eq x.outcome.number 0)) GivesWritable GivesWritable (λ x known _. known) rs gives)

  -- what another entry with the same mover gives of its set
  set_given : (r x : Record) → has_set r.kind ≡ true → GivesAs (mover r) x → GivesWritableSet r.kind x.set
  set_given r x has one =
      let same : x.kind ≡ r.kind = sym (own_kind x.kind x.player) ∙ ap kind_of one.0 ∙ own_kind r.kind r.player in
      subst (λ (k : EntryKind). GivesWritableSet k x.set) same (one.1.set (ap has_set same ∙ has))

  set_writable : (r : Record) → GivesWritable r → has_set r.kind ≡ true
      → IsWritableSet r.kind (whole_set rs (mover r) r.set.number)
  set_writable r known has =
      let ms = mentions (mover r) r.set.number rs in
      let each : Each (λ x. GivesWritableSet r.kind x.set) ms =
      each_map (GivesAs (mover r)) _ (λ x one. set_given r x has one) ms (mentions_give (mover r) r.set.number) in
      record {
        from_one = (known.set has).from_one;
        limit = (known.set has).limit;
        name = first_plain (λ x. x.set.name) ms (each_map (λ x. GivesWritableSet r.kind x.set) _ (λ x one. one.name) ms each);
        actions = given_first (map (λ x. x.set.actions) ms);
        gives = refl;
        writable = first_actions r.kind ms (each_map (λ x. GivesWritableSet r.kind x.set) _ (λ x one. one.actions) ms each);
      }

  paid_writable : (r : Record) → GivesWritable r → nat_eq r.outcome.number 0 ≡ false
      → IsWritableOutcome (paid_outcome rs r.outcome.number)
  paid_writable r known some =
      let n = r.outcome.number in
      let ms = outcome_mentions n rs in
      let payoffs : Each (λ x. IfSome x.outcome.payoffs (All IsSmallFraction)) ms =
      each_map (λ x. GivesWritableOutcome x.outcome) _ (λ x one. one.payoffs) ms (outcomes_give n) in
      record {
        not_null = eqb-false n 0 some;
        limit = known.outcome.limit;
        name = first_plain (λ x. x.outcome.name) ms (each_map (λ x. GivesWritableOutcome x.outcome) _ (λ x one. one.name) ms (outcomes_give n));
        one = nth_payoff (given_first (map (λ x. x.outcome.payoffs) ms)) 0;
        two = nth_payoff (given_first (map (λ x. x.outcome.payoffs) ms)) 1;
        gives = refl;
        one_small = first_small 0 ms payoffs;
        two_small = first_small 1 ms payoffs;
      }

  outcome_writable : (r : Record) → GivesWritable r
      → ((filled rs r).outcome ≡ no_outcome_mention) ⊎ IsWritableOutcome (filled rs r).outcome
  outcome_writable r known = chosen (nat_eq r.outcome.number 0) refl
    where
      chosen : (b : Bool) → nat_eq r.outcome.number 0 ≡ b
          → (cond b no_outcome_mention (paid_outcome rs r.outcome.number) ≡ no_outcome_mention)
          ⊎ IsWritableOutcome (cond b no_outcome_mention (paid_outcome rs r.outcome.number))
      chosen true null = inl refl
      chosen false some = inr (paid_writable r known some)

  mover_own : (before : List Record) (r : Record) (behind : List Record) → rs ≡ before ++ r ∷ behind
      → (kind : EntryKind) → r.kind ≡ kind
      → HasOwnMover kind (filled rs r)
  mover_own before r behind split kinds.Chance is = ap (λ k. own_player k r.player) is
  mover_own before r behind split kinds.Personal is =
      subst (λ (n : ℕ). (n ≡ 1) ⊎ (n ≡ 2)) (sym (ap (λ k. own_player k r.player) is)) (player_known p rs fine whole before r behind split is)
  mover_own before r behind split kinds.Leaf is =
      (ap (λ k. own_player k r.player) is, ap (λ k. cond (has_set k) (whole_set rs (mover r) r.set.number) no_set_mention) is)

  entry_writable : (before : List Record) (r : Record) (behind : List Record) → rs ≡ before ++ r ∷ behind
      → IsWritable (filled rs r)
  entry_writable before r behind split =
      let known = (each_before GivesWritable before r behind (subst (Each GivesWritable) split gives)).1 in
      record {
        name = known.name;
        mover = mover_own before r behind split r.kind refl;
        set = λ has. subst (IsWritableSet r.kind) (sym (filled_set rs r has)) (set_writable r known has);
        outcome = outcome_writable r known;
      }

  -- faultless entries of one whole tree that give what can be written can be written once they are filled
  pub filled_writable : Each IsWritable (map (filled rs) rs)
  filled_writable = each_mapped IsWritable (filled rs) rs (each_placed (λ r. IsWritable (filled rs r)) rs [] rs refl entry_writable)
