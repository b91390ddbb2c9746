-- Entries without a fault, each with the whole description of its set and its outcome, describe them in one way.
use Rattle.std.proofs.Common.{◌≡◌, ◌≢◌, ℕ, ◌+◌, ◌⊎◌, inl, inr, Bool, true, false, List, [], ◌∷◌, ◌++◌, length, map, refl, sym, ap, ◌∙◌, subst, append_assoc}
use Rattle.std.specs.Prelude.{◌||◌, nat_eq}
use Rattle.std.specs.List.{All}
use Rattle.std.proofs.Math.Logic.{⊎_elim}
use Rattle.std.proofs.lemmas.Bool.{eqb-true, ne_eqb}
use Rattle.std.proofs.lemmas.Bool.Decides.{eqb_tells}
use Rattle.std.proofs.lemmas.List.Elements.{All-head, All-tail}
use Rattle.def_tree.specs.declared.Kind.{Kind}
use Rattle.def_tree.specs.declared.Kind.TheVariants as movers
use Rattle.def_tree.specs.Rules.{is_same_kind}
use Rattle.def_tree.specs.Tree.{IsWhole}
use Rattle.def_tree.proofs.Sets.{is_same_kind_refl}
use Rattle.def_file.specs.declared.EntryKind.TheVariants.{Personal}
use Rattle.def_file.specs.declared.FileFault.TheVariants.{PlayerNumber}
use Rattle.def_file.specs.Content.{Prologue, SetMention, Record}
use Rattle.def_file.specs.Faults.{has_set, mover}
use Rattle.def_file.specs.Game.{HasFewActions}
use Rattle.def_file.specs.Entries.{contents_of, of_kind, outcome_entry, set_entry, set_numbers, set_table}
use Rattle.def_file.specs.EntryRules.{HasNoPlayer}
use Rattle.def_file.specs.EntryLaws.{HaveNoFault}
use Rattle.def_file.proofs.Firsts.{among, among-firsts}
use Rattle.def_file.proofs.WholeGames.{entries_make_whole_game}
use Rattle.def_canon.specs.Described.{Describes, DescribesOutcome, DescribesSet, Each}
use Rattle.def_canon.proofs.Filled.{each_mapped, filled, filled_mover, filled_set, outcome_kept, own_player, paid_is, whole_outcome, whole_set}
use Rattle.def_canon.proofs.Lookups.{among_here}
use Rattle.def_canon.proofs.Sizes.{not_leaf}
use Rattle.def_canon.proofs.Tables.{filter_some}

-- what holds of each entry by its place
pub each_placed : (P : Record → Type 0) (rs before rest : List Record) → rs ≡ before ++ rest
    → ((front : List Record) (r : Record) (behind : List Record) → rs ≡ front ++ r ∷ behind → P r) → Each P rest
each_placed P rs before [] split is = tt
each_placed P rs before (r ∷ rest) split is =
    (is before r rest split, each_placed P rs (before ++ r ∷ []) rest (split ∙ sym (append_assoc before (r ∷ []) rest)) is)

-- what holds of each of a table holds of what is known of one of its numbers
all_at : {E : Type 0} (Q : E → Type 0) (f : ℕ → E) (n : ℕ) (ns : List ℕ) → among n ns ≡ true → All Q (map f ns)
    → Q (f n)
all_at Q f n [] is all = absurd cc
all_at Q f n (m ∷ ns) is all = chosen (nat_eq n m) refl is (λ later. all_at Q f n ns later (All-tail Q (f m) (map f ns) all))
  where
    chosen : (here : Bool) → nat_eq n m ≡ here → (here || among n ns) ≡ true → (among n ns ≡ true → Q (f n)) → Q (f n)
    chosen true same there later = subst (λ (k : ℕ). Q (f k)) (sym (eqb-true n m same)) (All-head Q (f m) (map f ns) all)
    chosen false other there later = later there

module _ (p : Prologue) (rs : List Record) (fine : HaveNoFault rs) (whole : IsWhole (contents_of rs).nodes) where
  counted : (who : Kind) → who ≢ movers.Leaf → All HasFewActions (set_table who rs)
  counted movers.Chance some = (entries_make_whole_game p rs fine whole).together.chance.few
  counted movers.One some = (entries_make_whole_game p rs fine whole).together.one.few
  counted movers.Two some = (entries_make_whole_game p rs fine whole).together.two.few
  counted movers.Leaf some = absurd (some refl)

  -- a set that is mentioned has 1 to 1,024 actions
  set_counted : (before : List Record) (r : Record) (behind : List Record) → rs ≡ before ++ r ∷ behind
      → has_set r.kind ≡ true
      → HasFewActions (set_entry (mover r) rs r.set.number)
  set_counted before r behind split has =
      let kept = filter_some (λ x. is_same_kind (mover r) (mover x)) before r behind (is_same_kind_refl (mover r)) in
      let mine : of_kind (mover r) rs ≡ kept.0 ++ r ∷ of_kind (mover r) behind = ap (of_kind (mover r)) split ∙ kept.1 in
      let here : among r.set.number (map (λ x. x.set.number) (of_kind (mover r) rs)) ≡ true =
      ap (λ (xs : List Record). among r.set.number (map (λ x. x.set.number) xs)) mine
      ∙ among_here (λ x. x.set.number) kept.0 r (of_kind (mover r) behind) in
      all_at HasFewActions (set_entry (mover r) rs) r.set.number (set_numbers (mover r) rs)
      (among-firsts r.set.number (map (λ x. x.set.number) (of_kind (mover r) rs)) ∙ here) (counted (mover r) (not_leaf r.kind r.player has))

  -- of faultless entries of one whole tree, each personal one has player 1 or 2
  pub player_known : (before : List Record) (r : Record) (behind : List Record) → rs ≡ before ++ r ∷ behind
      → r.kind ≡ Personal
      → (r.player ≡ 1) ⊎ (r.player ≡ 2)
  player_known before r behind split personal =
      ⊎_elim
      (λ one. inl one.1)
      (λ not_one. ⊎_elim
      (λ two. inr two.1)
      (λ not_two.
      let none : HasNoPlayer r = record { personal = personal; not_one = not_one.1; not_two = not_two.1 } in
      absurd (fine before behind r split (PlayerNumber (length before + 1)) (refl, none)))
      (eqb_tells r.player 2))
      (eqb_tells r.player 1)

  set_described : (before : List Record) (r : Record) (behind : List Record) → rs ≡ before ++ r ∷ behind
      → has_set r.kind ≡ true
      → DescribesSet (whole_set rs) (filled rs r)
  set_described before r behind split has =
      let own = filled_set rs r has in
      let moves = filled_mover rs r in
      let number : (filled rs r).set.number ≡ r.set.number = ap (λ (m : SetMention). m.number) own in
      let count = set_counted before r behind split has in
      record {
        same = own ∙ (λ i. whole_set rs (sym moves i) (sym number i));
        actions = (set_entry (mover r) rs r.set.number).actions;
        gives = ap (λ (m : SetMention). m.actions) own;
        some = count.0;
        few = count.1;
      }

  outcome_described : (r : Record) → DescribesOutcome (whole_outcome rs) (filled rs r)
  outcome_described r =
      let n = r.outcome.number in
      let kept = outcome_kept rs n in
      record {
        same = ap (whole_outcome rs) (sym kept);
        null = λ none. ap (λ (k : ℕ). (whole_outcome rs k).payoffs) (sym kept ∙ none);
        two = λ some. (
          (outcome_entry rs n).one,
          (outcome_entry rs n).two,
          ap (λ o. o.payoffs) (paid_is rs n (ne_eqb n 0 (λ none. some (kept ∙ none)))),
        );
      }

  entry_described : (before : List Record) (r : Record) (behind : List Record) → rs ≡ before ++ r ∷ behind
      → Describes (whole_set rs) (whole_outcome rs) (filled rs r)
  entry_described before r behind split = record {
    player = λ personal.
        let own : r.player ≡ own_player r.kind r.player = sym (ap (λ kind. own_player kind r.player) personal) in
        subst (λ (k : ℕ). (k ≡ 1) ⊎ (k ≡ 2)) own (player_known before r behind split personal);
    set = set_described before r behind split;
    outcome = outcome_described r;
  }

  -- faultless entries of one whole tree, once filled, describe their sets and outcomes whole, each in one way
  pub filled_described : Each (Describes (whole_set rs) (whole_outcome rs)) (map (filled rs) rs)
  filled_described =
      each_mapped (Describes (whole_set rs) (whole_outcome rs)) (filled rs) rs
      (each_placed (λ r. Describes (whole_set rs) (whole_outcome rs) (filled rs r)) rs [] rs refl entry_described)
