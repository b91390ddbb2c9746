-- Nodes and tables go together, with one entry more.
use Rattle.std.proofs.Common.{◌≡◌, ◌≢◌, ℕ, ◌+◌, ◌-◌, ◌<◌, ◌≤◌, max, Bool, true, false, cond, ◌&&◌, nat_eq, List, [], ◌∷◌, ◌++◌, length, get_or, set, is_none}
use Rattle.std.proofs.Common.{Option, Some, None, unwrap_or, refl, ap, sym, subst, ◌∙◌, arith, length-append, ⊎_elim}
use Rattle.std.specs.List.{All, position_or_len}
use Rattle.std.specs.Option.{option_map_or}
use Rattle.std.proofs.lemmas.Bool.{eqb-false, cases_eq}
use Rattle.std.proofs.lemmas.List.{get_or-set_same, get_or-set_other, length-set, length-map}
use Rattle.std.proofs.lemmas.List.Elements.{All-push, All-set}
use Rattle.std.proofs.Math.ListN.{get_or-append}
use Rattle.std.proofs.Math.Seq.{get_or-append_seam}
use Rattle.def_tree.specs.declared.Kind.{Kind}
use Rattle.def_tree.specs.declared.Kind.TheVariants as movers
use Rattle.def_tree.specs.declared.Node.{Node}
use Rattle.def_tree.specs.Rules.{most_actions, most_nodes, is_same_kind, set_count, JoinsSet}
use Rattle.def_tree.proofs.Sets.{set_count-push_same, set_count-push_other, KeepRules-push}
use Rattle.def_file.specs.declared.EntryKind.{EntryKind}
use Rattle.def_file.specs.declared.EntryKind.TheVariants.{Chance, Personal, Leaf}
use Rattle.def_file.specs.Content.{SetEntry, SetMention, OutcomeEntry, OutcomeMention, SetTables, Record, Contents, sets_of_kind, with_sets, no_contents}
use Rattle.def_file.specs.Faults.{mover_as, has_set, no_set, set_at, set_place_of, outcome_place_of, outcome_at, has_wrong_count, is_set_undefined}
use Rattle.def_file.specs.Faults.{is_set_miscounted, record_fault}
use Rattle.def_file.specs.Adding.{kept_name, new_set, noted_set, new_outcome, noted_outcome, set_number, outcome_number, action_count, with_record}
use Rattle.def_file.specs.Game.{IsInSet, GoesWith, AreSetsOf, GoTogether, AreTogether, HasFewActions}
use Rattle.def_file.proofs.Faultless.{at_first, faultless, place-lt, given_count}

-- A table with a mention more.

record Grows (table more : List SetEntry) : Type 0 where
  longer : length table ≤ length more
  kept : (i : ℕ) → i < length table → length (set_at more i).actions ≡ length (set_at table i).actions

same_table : (table : List SetEntry) → Grows table table
same_table table = record { longer = omega arith; kept = λ i there. refl }

-- the set of a mention, by its number and its count of actions
record IsMentioned (table more : List SetEntry) (number children : ℕ) : Type 0 where
  grows : Grows table more
  from_one : 1 ≤ number
  count : length more ≡ max number (length table)
  next : number ≤ length table + 1
  old : number ≤ length table → length (set_at table (number - 1)).actions ≡ children
  here : length (set_at more (number - 1)).actions ≡ children
  few : (1 ≤ children) × (children ≤ most_actions)
  all_few : All HasFewActions more

module _ (table : List SetEntry) (m : SetMention) (small : All HasFewActions table) where
  abbrev renamed : ℕ → SetEntry
  renamed i = record (set_at table i) { name = kept_name (set_at table i).name m.name }

  known : (i : ℕ) → i < length table
      → IsMentioned table (set table i (renamed i)) (i + 1) (length (set_at table i).actions)
  known i there =
      let long : length (set table i (renamed i)) ≡ length table = length-set table i (renamed i) in
      let back : i + 1 - 1 ≡ i = omega arith in
      let here : set_at (set table i (renamed i)) i ≡ renamed i = get_or-set_same table i (renamed i) no_set there in
      let few : HasFewActions (set_at table i) = small i no_set there in
      record {
        grows = record {
          longer = omega arith;
          kept = λ j within.
              ⊎_elim
              (λ (same : j ≡ i). ap (λ k. length (set_at (set table i (renamed i)) k).actions) same ∙ ap (λ (e : SetEntry). length e.actions) here
              ∙ ap (λ k. length (set_at table k).actions) (sym same))
              (λ other. ap (λ (e : SetEntry). length e.actions) (get_or-set_other table i j (renamed i) no_set other))
              (cases_eq j i);
        };
        from_one = omega arith;
        count = omega arith;
        next = omega arith;
        old = λ _. ap (λ k. length (set_at table k).actions) back;
        here = ap (λ k. length (set_at (set table i (renamed i)) k).actions) back ∙ ap (λ (e : SetEntry). length e.actions) here;
        few = few;
        all_few = All-set HasFewActions table i (renamed i) few small;
      }

  fresh : HasFewActions (new_set m)
      → IsMentioned table (table ++ new_set m ∷ []) (length table + 1) (length (new_set m).actions)
  fresh few =
      let long : length (table ++ new_set m ∷ []) ≡ length table + 1 = length-append table (new_set m ∷ []) in
      let back : length table + 1 - 1 ≡ length table = omega arith in
      record {
        grows = record {
          longer = omega arith;
          kept = λ j within. ap (λ (e : SetEntry). length e.actions) (get_or-append table (new_set m ∷ []) no_set j within);
        };
        from_one = omega arith;
        count = omega arith;
        next = omega arith;
        old = λ within. absurd (omega (arith, within));
        here = ap (λ k. length (set_at (table ++ new_set m ∷ []) k).actions) back
            ∙ ap (λ (e : SetEntry). length e.actions) (get_or-append_seam table (new_set m) [] no_set);
        few = few;
        all_few = All-push HasFewActions table (new_set m) small few;
      }

  noted_by : (place : Option ℕ) → set_place_of m.number table ≡ place → is_none place && is_none m.actions ≡ false
      → is_none place && has_wrong_count m.actions ≡ false
      → IsMentioned table (option_map_or (λ i. set table i (renamed i)) place (table ++ new_set m ∷ [])) (unwrap_or place (length table) + 1)
      (option_map_or (λ i. length (set_at table i).actions) place (length (new_set m).actions))
  noted_by (Some i) at defined counted = known i (place-lt m.number table i at)
  noted_by None at defined counted = fresh (given_count m.actions defined counted)

  noted : is_set_undefined table m ≡ false → is_set_miscounted table m ≡ false
      → IsMentioned table (noted_set table m) (set_number table m) (action_count table m)
  noted defined counted = noted_by (set_place_of m.number table) refl defined counted

-- The outcomes with a mention more.

record AreNoted (outcomes more : List OutcomeEntry) (number : ℕ) : Type 0 where
  longer : length outcomes ≤ length more
  next : length more ≤ length outcomes + 1
  there : number ≤ length more

outcomes_noted : (outcomes : List OutcomeEntry) (m : OutcomeMention)
    → AreNoted outcomes (noted_outcome outcomes m) (outcome_number outcomes m)
outcomes_noted outcomes m = by (nat_eq m.number 0) (outcome_place_of m.number outcomes) refl
  where
    by : (null : Bool) (place : Option ℕ) → outcome_place_of m.number outcomes ≡ place
        → AreNoted outcomes (cond null outcomes (option_map_or (λ i. set outcomes i
        (record (outcome_at outcomes i) { name = kept_name (outcome_at outcomes i).name m.name })) place (outcomes ++ new_outcome m ∷ [])))
        (cond null 0 (unwrap_or place (length outcomes) + 1))
    by true place at = record { longer = omega arith; next = omega arith; there = omega arith }
    by false (Some i) at =
        let within : i < length outcomes = at_first (position_or_len (λ e. nat_eq m.number e.number) outcomes) i (length outcomes) _ refl at in
        let long = length-set outcomes i (record (outcome_at outcomes i) { name = kept_name (outcome_at outcomes i).name m.name }) in
        record { longer = omega (arith, long); next = omega (arith, long); there = omega (arith, long, within) }
    by false None at =
        let long = length-append outcomes (new_outcome m ∷ []) in
        record { longer = omega (arith, long); next = omega (arith, long); there = omega (arith, long) }

-- Nodes with a node more.

in_set : (table : List SetEntry) (node : Node) → 1 ≤ node.set → node.set ≤ length table
    → length (set_at table (node.set - 1)).actions ≡ node.children → IsInSet table node
in_set table node low high actions = record {
  from_one = low;
  there = high;
  actions = actions;
  chances = length-map (set_at table (node.set - 1)).actions (λ a. a.chance) ∙ actions;
}

-- what goes with tables goes with those that grow
goes_on : (sets more : SetTables) (outcomes longer : List OutcomeEntry)
    → ((kind : Kind) → Grows (sets_of_kind kind sets) (sets_of_kind kind more)) → length outcomes ≤ length longer
    → (node : Node) → GoesWith sets outcomes node → GoesWith more longer node
goes_on sets more outcomes longer grow long node with' = record {
  set = λ not_leaf.
      let is = with'.set not_leaf in
      let grown = grow node.kind in
      let low : 1 ≤ node.set = is.from_one in
      let high : node.set ≤ length (sets_of_kind node.kind sets) = is.there in
      in_set (sets_of_kind node.kind more) node low (let longer = grown.longer in omega arith) (grown.kept (node.set - 1) (omega arith) ∙ is.actions);
  outcome = let within : node.outcome ≤ length outcomes = with'.outcome in omega arith;
}

grow_all : (kind k : Kind) (sets : SetTables) (more : List SetEntry) → Grows (sets_of_kind kind sets) more
    → Grows (sets_of_kind k sets) (sets_of_kind k (with_sets kind more sets))
grow_all movers.Chance movers.Chance sets more g = g
grow_all movers.One movers.One sets more g = g
grow_all movers.Two movers.Two sets more g = g
grow_all movers.Chance k sets more g = same_table (sets_of_kind k sets)
grow_all movers.One k sets more g = same_table (sets_of_kind k sets)
grow_all movers.Two k sets more g = same_table (sets_of_kind k sets)
grow_all movers.Leaf k sets more g = same_table (sets_of_kind k sets)

own_sets : (kind : Kind) (table more : List SetEntry) (nodes : List Node) (node : Node)
    → is_same_kind kind node.kind ≡ true → length more ≡ max node.set (length table) → All HasFewActions more
    → AreSetsOf kind nodes table → AreSetsOf kind (nodes ++ node ∷ []) more
own_sets kind table more nodes node same count few is = record {
  count = let pushed = set_count-push_same kind nodes node same in let old : length table
      ≡ set_count kind nodes = is.count in omega (arith, pushed, count, old);
  few = few;
}

other_sets : (kind : Kind) (table : List SetEntry) (nodes : List Node) (node : Node)
    → is_same_kind kind node.kind ≡ false → AreSetsOf kind nodes table → AreSetsOf kind (nodes ++ node ∷ []) table
other_sets kind table nodes node other is = record { count = is.count ∙ sym (set_count-push_other kind nodes node other); few = is.few }

module _ (contents : Contents) (name : List ℕ) (m : SetMention) (o : OutcomeMention) (held : AreTogether contents)
    (room : nat_eq (length contents.nodes) most_nodes ≡ false) where
  abbrev node_as : Kind → Node
  node_as kind = record {
    kind = kind;
    set = set_number (sets_of_kind kind contents.sets) m;
    outcome = outcome_number contents.outcomes o;
    children = action_count (sets_of_kind kind contents.sets) m;
  }

  abbrev leaf : Node
  leaf = record { kind = movers.Leaf; set = 0; outcome = outcome_number contents.outcomes o; children = 0 }

  limit : (node : Node) → length (contents.nodes ++ node ∷ []) ≤ most_nodes
  limit node =
      let within : length contents.nodes ≤ most_nodes = held.limit in
      let not_full : length contents.nodes ≢ most_nodes = eqb-false (length contents.nodes) most_nodes room in
      omega (arith, within, not_full, length-append contents.nodes (node ∷ []))

  named : (node : Node) → length (contents.names ++ name ∷ []) ≡ length (contents.nodes ++ node ∷ [])
  named node = omega (arith, held.named, length-append contents.names (name ∷ []), length-append contents.nodes (node ∷ []))

  paid : (node : Node) → length (noted_outcome contents.outcomes o) ≤ length (contents.nodes ++ node ∷ [])
  paid node = let next = (outcomes_noted contents.outcomes o).next in let short = held.few_outcomes in omega
      (arith, next, short, length-append contents.nodes (node ∷ []))

  -- a node of a set fits those before it, which go with the table
  joins : (kind : Kind) → kind ≢ movers.Leaf → length (sets_of_kind kind contents.sets) ≡ set_count kind contents.nodes
      → IsMentioned (sets_of_kind kind contents.sets) (noted_set (sets_of_kind kind contents.sets) m) (set_number (sets_of_kind kind contents.sets) m)
      (action_count (sets_of_kind kind contents.sets) m)
      → JoinsSet contents.nodes (node_as kind)
  joins kind not_leaf count n = record {
    counts = n.from_one;
    next = let next = n.next in omega (arith, next, count);
    some = n.few.0;
    limit = n.few.1;
    agrees = λ k d within same_kind same_set.
        let x = get_or contents.nodes k d in
        let is = (held.tables k d within).set (λ leaf. not_leaf (sym same_kind ∙ leaf)) in
        let placed : IsInSet (sets_of_kind kind contents.sets) x = subst (λ who. IsInSet (sets_of_kind who contents.sets) x) same_kind is in
        let there : x.set ≤ length (sets_of_kind kind contents.sets) = placed.there in
        sym placed.actions ∙ ap (λ s. length (set_at (sets_of_kind kind contents.sets) (s - 1)).actions) same_set
        ∙ n.old (subst (λ s. s ≤ length (sets_of_kind kind contents.sets)) same_set there);
  }

  tables : (kind : Kind) (more : List SetEntry) (node : Node) → Grows (sets_of_kind kind contents.sets) more
      → GoesWith (with_sets kind more contents.sets) (noted_outcome contents.outcomes o) node
      → All (GoesWith (with_sets kind more contents.sets) (noted_outcome contents.outcomes o)) (contents.nodes ++ node ∷ [])
  tables kind more node grows new =
      All-push (GoesWith (with_sets kind more contents.sets) (noted_outcome contents.outcomes o)) contents.nodes node
      (λ k d within. goes_on contents.sets (with_sets kind more contents.sets) contents.outcomes (noted_outcome contents.outcomes o)
      (λ who. grow_all kind who contents.sets more grows) (outcomes_noted contents.outcomes o).longer
      (get_or contents.nodes k d) (held.tables k d within))
      new

  new_goes : (kind : Kind) (more : List SetEntry) → sets_of_kind kind (with_sets kind more contents.sets) ≡ more
      → IsMentioned (sets_of_kind kind contents.sets) more (set_number (sets_of_kind kind contents.sets) m) (action_count (sets_of_kind kind contents.sets) m)
      → GoesWith (with_sets kind more contents.sets) (noted_outcome contents.outcomes o) (node_as kind)
  new_goes kind more own n = record {
    set = λ _. subst (λ table. IsInSet table (node_as kind)) (sym own) (in_set more (node_as kind) n.from_one (let count = n.count in omega (arith, count))
        n.here);
    outcome = (outcomes_noted contents.outcomes o).there;
  }

  abbrev GoOnTogether : Kind → List SetEntry → Node → Type 0
  GoOnTogether kind more node = GoTogether (contents.nodes ++ node ∷ []) (contents.names ++ name ∷ []) (with_sets kind more contents.sets)
      (noted_outcome contents.outcomes o)

  chance_after : is_set_undefined contents.sets.chance m ≡ false → is_set_miscounted contents.sets.chance m ≡ false
      → GoOnTogether movers.Chance (noted_set contents.sets.chance m) (node_as movers.Chance)
  chance_after defined counted =
      let n = noted contents.sets.chance m held.chance.few defined counted in
      let node = node_as movers.Chance in record {
        rules = KeepRules-push contents.nodes node held.rules (joins movers.Chance (λ e. cc) held.chance.count n);
        limit = limit node;
        named = named node;
        tables = tables movers.Chance (noted_set contents.sets.chance m) node n.grows (new_goes movers.Chance (noted_set contents.sets.chance m) refl n);
        chance = own_sets movers.Chance contents.sets.chance (noted_set contents.sets.chance m) contents.nodes node refl n.count n.all_few held.chance;
        one = other_sets movers.One contents.sets.one contents.nodes node refl held.one;
        two = other_sets movers.Two contents.sets.two contents.nodes node refl held.two;
        few_outcomes = paid node;
      }

  one_after : is_set_undefined contents.sets.one m ≡ false → is_set_miscounted contents.sets.one m ≡ false
      → GoOnTogether movers.One (noted_set contents.sets.one m) (node_as movers.One)
  one_after defined counted =
      let n = noted contents.sets.one m held.one.few defined counted in
      let node = node_as movers.One in record {
        rules = KeepRules-push contents.nodes node held.rules (joins movers.One (λ e. cc) held.one.count n);
        limit = limit node;
        named = named node;
        tables = tables movers.One (noted_set contents.sets.one m) node n.grows (new_goes movers.One (noted_set contents.sets.one m) refl n);
        chance = other_sets movers.Chance contents.sets.chance contents.nodes node refl held.chance;
        one = own_sets movers.One contents.sets.one (noted_set contents.sets.one m) contents.nodes node refl n.count n.all_few held.one;
        two = other_sets movers.Two contents.sets.two contents.nodes node refl held.two;
        few_outcomes = paid node;
      }

  two_after : is_set_undefined contents.sets.two m ≡ false → is_set_miscounted contents.sets.two m ≡ false
      → GoOnTogether movers.Two (noted_set contents.sets.two m) (node_as movers.Two)
  two_after defined counted =
      let n = noted contents.sets.two m held.two.few defined counted in
      let node = node_as movers.Two in record {
        rules = KeepRules-push contents.nodes node held.rules (joins movers.Two (λ e. cc) held.two.count n);
        limit = limit node;
        named = named node;
        tables = tables movers.Two (noted_set contents.sets.two m) node n.grows (new_goes movers.Two (noted_set contents.sets.two m) refl n);
        chance = other_sets movers.Chance contents.sets.chance contents.nodes node refl held.chance;
        one = other_sets movers.One contents.sets.one contents.nodes node refl held.one;
        two = own_sets movers.Two contents.sets.two (noted_set contents.sets.two m) contents.nodes node refl n.count n.all_few held.two;
        few_outcomes = paid node;
      }

  leaf_after : GoOnTogether movers.Leaf [] leaf
  leaf_after = record {
    rules = KeepRules-push contents.nodes leaf held.rules (record { set = refl; children = refl });
    limit = limit leaf;
    named = named leaf;
    tables = tables movers.Leaf [] leaf (same_table []) (record {
      set = λ not_leaf. absurd (not_leaf refl);
      outcome = (outcomes_noted contents.outcomes o).there;
    });
    chance = other_sets movers.Chance contents.sets.chance contents.nodes leaf refl held.chance;
    one = other_sets movers.One contents.sets.one contents.nodes leaf refl held.one;
    two = other_sets movers.Two contents.sets.two contents.nodes leaf refl held.two;
    few_outcomes = paid leaf;
  }

  abbrev node_by : EntryKind → Kind → Node
  node_by kind who = record {
    kind = who;
    set = cond (has_set kind) (set_number (sets_of_kind who contents.sets) m) 0;
    outcome = outcome_number contents.outcomes o;
    children = cond (has_set kind) (action_count (sets_of_kind who contents.sets) m) 0;
  }

  by_player : (b : Bool) → is_set_undefined (sets_of_kind (cond b movers.One movers.Two) contents.sets) m ≡ false
      → is_set_miscounted (sets_of_kind (cond b movers.One movers.Two) contents.sets) m ≡ false
      → GoOnTogether (cond b movers.One movers.Two) (noted_set (sets_of_kind (cond b movers.One movers.Two) contents.sets) m)
      (node_by Personal (cond b movers.One movers.Two))
  by_player true defined counted = one_after defined counted
  by_player false defined counted = two_after defined counted

  by_kind : (kind : EntryKind) (player : ℕ)
      → has_set kind && is_set_undefined (sets_of_kind (mover_as kind player) contents.sets) m ≡ false
      → has_set kind && is_set_miscounted (sets_of_kind (mover_as kind player) contents.sets) m ≡ false
      → GoOnTogether (mover_as kind player) (noted_set (sets_of_kind (mover_as kind player) contents.sets) m) (node_by kind (mover_as kind player))
  by_kind Chance player defined counted = chance_after defined counted
  by_kind Personal player defined counted = by_player (nat_eq player 1) defined counted
  by_kind Leaf player defined counted = leaf_after

-- without entries
pub nothing_together : AreTogether no_contents
nothing_together = record {
  rules = λ k d within. absurd (omega (arith, within));
  limit = omega arith;
  named = refl;
  tables = λ k d within. absurd (omega (arith, within));
  chance = record { count = refl; few = λ k d within. absurd (omega (arith, within)) };
  one = record { count = refl; few = λ k d within. absurd (omega (arith, within)) };
  two = record { count = refl; few = λ k d within. absurd (omega (arith, within)) };
  few_outcomes = omega arith;
}

-- with one entry more that has no fault
pub together_with : (contents : Contents) (r : Record) → AreTogether contents → record_fault contents r ≡ None
    → AreTogether (with_record contents r)
together_with contents r held none =
    let fine = faultless contents r none in
    by_kind contents r.name r.set r.outcome held fine.room r.kind r.player fine.defined fine.counted
