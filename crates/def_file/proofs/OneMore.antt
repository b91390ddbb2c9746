-- What is known with one more entry is what all entries say.
use Rattle.std.proofs.Common.{◌≡◌, ℕ, Bool, true, false, cond, not, List, [], ◌∷◌, ◌++◌, length, map, refl, sym, ap, ◌∙◌}
use Rattle.std.specs.Prelude.{nat_eq}
use Rattle.std.proofs.lemmas.Bool.{or_left, or_right}
use Rattle.std.proofs.lemmas.List.{map-append}
use Rattle.def_tree.specs.declared.Kind.{Kind}
use Rattle.def_tree.specs.declared.Kind.TheVariants as movers
use Rattle.def_tree.specs.declared.Node.{Node}
use Rattle.def_tree.specs.Rules.{is_same_kind}
use Rattle.def_tree.proofs.Sets.{is_same_kind_refl}
use Rattle.def_file.specs.declared.EntryKind.{EntryKind}
use Rattle.def_file.specs.declared.EntryKind.TheVariants.{Chance, Personal, Leaf}
use Rattle.def_file.specs.Content.{Record, SetEntry, sets_of_kind}
use Rattle.def_file.specs.Faults.{mover, mover_as, has_set}
use Rattle.def_file.specs.Adding.{with_record, node_with, set_number, action_count}
use Rattle.def_file.specs.Entries.{firsts, number_in, of_kind, set_numbers, set_entry, set_table, with_outcome, outcome_numbers, node_of, contents_of}
use Rattle.def_file.proofs.Firsts.{nat_eq-same, among, number-stays}
use Rattle.def_file.proofs.EntryAddsToTables.{set_key, set_known, numbers_more, set_number_more, action_count_more, set_number_stays, action_count_stays}
use Rattle.def_file.proofs.EntryAddsToTables.{own_kind, other_kind, set_tables_of, sets_more, outcome_key, some_outcome, null_mention, outcome_table_more}
use Rattle.def_file.proofs.EntryAddsToTables.{outcome_number_step}

-- Nodes.

set_known_step : (kind : Kind) (rs : List Record) (r : Record) (n : ℕ) (b : Bool) → is_same_kind kind (mover r) ≡ b
    → among n (map set_key (of_kind kind rs)) ≡ true
    → (number_in n (set_numbers kind (rs ++ r ∷ [])) ≡ number_in n (set_numbers kind rs))
    × (length (set_entry kind (rs ++ r ∷ []) n).actions ≡ length (set_entry kind rs n).actions)
set_known_step kind rs r n true e h = (
  ap (λ xs. number_in n (firsts (map set_key xs))) (own_kind kind rs r e) ∙ set_number_stays n (of_kind kind rs) r h,
  ap (λ xs. length (set_known xs n).actions) (own_kind kind rs r e) ∙ action_count_stays n (of_kind kind rs) r h,
)
set_known_step kind rs r n false e h = (
  ap (λ xs. number_in n (firsts (map set_key xs))) (other_kind kind rs r e),
  ap (λ xs. length (set_known xs n).actions) (other_kind kind rs r e),
)

outcome_known_step : (rs : List Record) (r : Record) (n : ℕ) (b : Bool) → nat_eq r.outcome.number 0 ≡ b
    → among n (map outcome_key (with_outcome rs)) ≡ true
    → number_in n (outcome_numbers (rs ++ r ∷ [])) ≡ number_in n (outcome_numbers rs)
outcome_known_step rs r n true e h = ap (λ xs. number_in n (firsts (map outcome_key xs))) (null_mention rs r e)
outcome_known_step rs r n false e h =
    ap (λ xs. number_in n (firsts (map outcome_key xs))) (some_outcome rs r e)
    ∙ ap (number_in n) (numbers_more outcome_key (with_outcome rs) r) ∙ number-stays n r.outcome.number (map outcome_key (with_outcome rs)) h

-- a mention of the entry's set, and of its outcome other than 0, is among these entries
record IsKnown (rs : List Record) (x : Record) : Type 0 where
  set : among x.set.number (map set_key (of_kind (mover x) rs)) ≡ true
  outcome : nat_eq x.outcome.number 0 ≡ false → among x.outcome.number (map outcome_key (with_outcome rs)) ≡ true

abbrev AreKnown : List Record → List Record → Type 0
AreKnown rs [] = Unit {0}
AreKnown rs (x ∷ xs) = IsKnown rs x × AreKnown rs xs

among_behind : (key : Record → ℕ) (n : ℕ) (b : Bool) (y : Record) (rs : List Record) → among n (map key rs) ≡ true
    → among n (map key (cond b (y ∷ rs) rs)) ≡ true
among_behind key n true y rs h = or_right (nat_eq n (key y)) (among n (map key rs)) h
among_behind key n false y rs h = h

known_behind : (y : Record) (rs xs : List Record) → AreKnown rs xs → AreKnown (y ∷ rs) xs
known_behind y rs [] h = tt
known_behind y rs (x ∷ xs) h = (
  record {
    set = among_behind set_key x.set.number (is_same_kind (mover x) (mover y)) y (of_kind (mover x) rs) h.0.set;
    outcome = λ e. among_behind outcome_key x.outcome.number (not (nat_eq y.outcome.number 0)) y (with_outcome rs) (h.0.outcome e);
  },
  known_behind y rs xs h.1,
)

first_known : (x : Record) (rs : List Record) → IsKnown (x ∷ rs) x
first_known x rs = record {
  set = ap (λ (b : Bool). among x.set.number (map set_key (cond b (x ∷ of_kind (mover x) rs) (of_kind (mover x) rs)))) (is_same_kind_refl (mover x))
      ∙ or_left (nat_eq x.set.number x.set.number) (among x.set.number (map set_key (of_kind (mover x) rs))) (nat_eq-same x.set.number);
  outcome = λ e. ap (λ (b : Bool). among x.outcome.number (map outcome_key (cond (not b) (x ∷ with_outcome rs) (with_outcome rs)))) e
      ∙ or_left (nat_eq x.outcome.number x.outcome.number) (among x.outcome.number (map outcome_key (with_outcome rs))) (nat_eq-same x.outcome.number);
}

all_known : (rs : List Record) → AreKnown rs rs
all_known [] = tt
all_known (x ∷ rs) = (first_known x rs, known_behind x rs rs (all_known rs))

outcome_stays : (rs : List Record) (r x : Record) (b : Bool) → nat_eq x.outcome.number 0 ≡ b → IsKnown rs x
    → cond b 0 (number_in x.outcome.number (outcome_numbers (rs ++ r ∷ [])))
    ≡ cond b 0 (number_in x.outcome.number (outcome_numbers rs))
outcome_stays rs r x true e known = refl
outcome_stays rs r x false e known = outcome_known_step rs r x.outcome.number (nat_eq r.outcome.number 0) refl (known.outcome e)

-- the node of an earlier entry stays
node_stays : (rs : List Record) (r x : Record) → IsKnown rs x → node_of (rs ++ r ∷ []) x ≡ node_of rs x
node_stays rs r x known =
    let set = set_known_step (mover x) rs r x.set.number (is_same_kind (mover x) (mover r)) refl known.set in
    let outcome = outcome_stays rs r x (nat_eq x.outcome.number 0) refl known in
    λ i. record { kind = mover x; set = cond (has_set x.kind) (set.0 i) 0; outcome = outcome i; children = cond (has_set x.kind) (set.1 i) 0 }

nodes_stay : (rs : List Record) (r : Record) (xs : List Record) → AreKnown rs xs
    → map (node_of (rs ++ r ∷ [])) xs ≡ map (node_of rs) xs
nodes_stay rs r [] h = refl
nodes_stay rs r (x ∷ xs) h =
    let first = node_stays rs r x h.0 in
    let rest = nodes_stay rs r xs h.1 in
    λ i. first i ∷ rest i

-- the table of the sets of an entry's mover
pub own_sets : (kind : EntryKind) (player : ℕ) (rs : List Record) → has_set kind ≡ true
    → sets_of_kind (mover_as kind player) (set_tables_of rs) ≡ set_table (mover_as kind player) rs
own_sets Chance player rs h = refl
own_sets Personal player rs h = elim (nat_eq player 1) as (λ (b : Bool). sets_of_kind (cond b movers.One movers.Two) (set_tables_of rs)
    ≡ set_table (cond b movers.One movers.Two) rs) [ true ↦ refl | false ↦ refl ]
own_sets Leaf player rs h = absurd cc

last_set : (rs : List Record) (r : Record) (b : Bool) → has_set r.kind ≡ b
    → cond b (number_in r.set.number (set_numbers (mover r) (rs ++ r ∷ []))) 0
    ≡ cond b (set_number (sets_of_kind (mover r) (set_tables_of rs)) r.set) 0
last_set rs r true e =
    ap (λ xs. number_in r.set.number (firsts (map set_key xs))) (own_kind (mover r) rs r (is_same_kind_refl (mover r)))
    ∙ set_number_more (of_kind (mover r) rs) r ∙ ap (λ (table : List SetEntry). set_number table r.set) (sym (own_sets r.kind r.player rs e))
last_set rs r false e = refl

last_count : (rs : List Record) (r : Record) (b : Bool) → has_set r.kind ≡ b
    → cond b (length (set_entry (mover r) (rs ++ r ∷ []) r.set.number).actions) 0
    ≡ cond b (action_count (sets_of_kind (mover r) (set_tables_of rs)) r.set) 0
last_count rs r true e =
    ap (λ xs. length (set_known xs r.set.number).actions) (own_kind (mover r) rs r (is_same_kind_refl (mover r)))
    ∙ action_count_more (of_kind (mover r) rs) r ∙ ap (λ (table : List SetEntry). action_count table r.set) (sym (own_sets r.kind r.player rs e))
last_count rs r false e = refl

last_node : (rs : List Record) (r : Record) → node_of (rs ++ r ∷ []) r ≡ node_with (contents_of rs) r
last_node rs r =
    let set = last_set rs r (has_set r.kind) refl in
    let outcome = outcome_number_step rs r (nat_eq r.outcome.number 0) refl in
    let children = last_count rs r (has_set r.kind) refl in
    λ i. record { kind = mover r; set = set i; outcome = outcome i; children = children i }

nodes_more : (rs : List Record) (r : Record)
    → map (node_of (rs ++ r ∷ [])) (rs ++ r ∷ []) ≡ map (node_of rs) rs ++ node_with (contents_of rs) r ∷ []
nodes_more rs r =
    map-append (node_of (rs ++ r ∷ [])) rs (r ∷ [])
    ∙ ap (λ (nodes : List Node). nodes ++ node_of (rs ++ r ∷ []) r ∷ []) (nodes_stay rs r rs (all_known rs))
    ∙ ap (λ (node : Node). map (node_of rs) rs ++ node ∷ []) (last_node rs r)

-- the law: what is known with one more entry
pub one_more : (rs : List Record) (r : Record) → contents_of (rs ++ r ∷ []) ≡ with_record (contents_of rs) r
one_more rs r =
    let nodes = nodes_more rs r in
    let names = map-append (λ (x : Record). x.name) rs (r ∷ []) in
    let sets = sets_more rs r in
    let outcomes = outcome_table_more rs r in
    λ i. record { nodes = nodes i; names = names i; sets = sets i; outcomes = outcomes i }
