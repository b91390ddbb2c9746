-- Entries with the whole description of their sets and their outcomes make the same contents.
use Rattle.std.proofs.Common.{◌≡◌, ◌≢◌, ℕ, Bool, true, false, cond, List, [], ◌∷◌, length, map, Option, Some, unwrap_or, refl, sym, ap, ◌∙◌, arith}
use Rattle.std.specs.Prelude.{if◌then◌else◌, filter, nat_eq, not}
use Rattle.std.proofs.lemmas.Bool.{eqb-true, not-true}
use Rattle.def_fraction.specs.Fraction.{Fraction}
use Rattle.def_tree.specs.declared.Kind.{Kind}
use Rattle.def_tree.specs.declared.Kind.TheVariants as movers
use Rattle.def_tree.specs.Rules.{is_same_kind}
use Rattle.def_tree.proofs.Sets.{is_same_kind-true}
use Rattle.def_file.specs.declared.EntryKind.{EntryKind}
use Rattle.def_file.specs.declared.EntryKind.TheVariants as kinds
use Rattle.def_file.specs.Content.{SetMention, OutcomeMention, Record, SetEntry, no_set_mention, no_outcome_mention}
use Rattle.def_file.specs.Faults.{has_set, mover, mover_as}
use Rattle.def_file.specs.Adding.{nth_payoff}
use Rattle.def_file.specs.Entries.{contents_of, first_given, firsts, given_first, mentions, node_of, number_in, of_kind, outcome_entry, outcome_mentions}
use Rattle.def_file.specs.Entries.{outcome_numbers, outcome_table, set_entry, set_numbers, set_table, with_outcome}
use Rattle.def_canon.specs.Described.{Each}
use Rattle.def_canon.proofs.Lookups.{outcome_name_same, payoffs_same}
use Rattle.def_canon.proofs.Sizes.{not_leaf}
use Rattle.def_canon.proofs.Tables.{each_map, filter_each, first_same, given_same, mover_has_set}

-- the player's number, where a player moves
abbrev pub own_player : EntryKind → ℕ → ℕ
own_player kinds.Chance player = 0
own_player kinds.Personal player = player
own_player kinds.Leaf player = 0

-- what the entries say of a set, in one mention
abbrev pub whole_set : List Record → Kind → ℕ → SetMention
whole_set rs who n = record { number = n; name = (set_entry who rs n).name; actions = Some (set_entry who rs n).actions }

-- what the entries say of an outcome
abbrev pub paid_outcome : List Record → ℕ → OutcomeMention
paid_outcome rs n = record {
  number = n;
  name = (outcome_entry rs n).name;
  payoffs = Some ((outcome_entry rs n).one ∷ (outcome_entry rs n).two ∷ []);
}

-- the null outcome has its number alone
abbrev pub whole_outcome : List Record → ℕ → OutcomeMention
whole_outcome rs n = if nat_eq n 0 then no_outcome_mention else paid_outcome rs n

-- an entry with all that the entries say of its set and its outcome
abbrev pub filled : List Record → Record → Record
filled rs r = record {
  kind = r.kind;
  name = r.name;
  player = own_player r.kind r.player;
  set = if has_set r.kind then whole_set rs (mover r) r.set.number else no_set_mention;
  outcome = whole_outcome rs r.outcome.number;
}

own_mover : (kind : EntryKind) (player : ℕ) → mover_as kind (own_player kind player) ≡ mover_as kind player
own_mover kinds.Chance player = refl
own_mover kinds.Personal player = refl
own_mover kinds.Leaf player = refl

-- the same moves
pub filled_mover : (rs : List Record) (r : Record) → mover (filled rs r) ≡ mover r
filled_mover rs r = own_mover r.kind r.player

-- a filled entry of a kind that has a set mentions its own set with all that the entries say of it
pub filled_set : (rs : List Record) (r : Record) → has_set r.kind ≡ true
    → (filled rs r).set ≡ whole_set rs (mover r) r.set.number
filled_set rs r has = ap (λ (b : Bool). cond b (whole_set rs (mover r) r.set.number) no_set_mention) has

-- of an outcome that isn't the null one, the whole mention is what the entries say of it
pub paid_is : (rs : List Record) (n : ℕ) → nat_eq n 0 ≡ false → whole_outcome rs n ≡ paid_outcome rs n
paid_is rs n some = ap (λ (b : Bool). cond b no_outcome_mention (paid_outcome rs n)) some

-- an outcome keeps its number
pub outcome_kept : (rs : List Record) (n : ℕ) → (whole_outcome rs n).number ≡ n
outcome_kept rs n = chosen (nat_eq n 0) refl
  where
    chosen : (b : Bool) → nat_eq n 0 ≡ b → (cond b no_outcome_mention (paid_outcome rs n)).number ≡ n
    chosen true null = sym (eqb-true n 0 null)
    chosen false some = refl

-- Lists of entries.

pub each_all : (P : Record → Type 0) → ((r : Record) → P r) → (rs : List Record) → Each P rs
each_all P is [] = tt
each_all P is (r ∷ rs) = (is r, each_all P is rs)

-- what holds of f of each entry holds of each entry of the list mapped by f
pub each_mapped : (P : Record → Type 0) (f : Record → Record) (rs : List Record) → Each (λ r. P (f r)) rs
    → Each P (map f rs)
each_mapped P f [] each = tt
each_mapped P f (r ∷ rs) each = (each.0, each_mapped P f rs each.1)

-- a test that each one passes as before
filter_mapped : (p : Record → Bool) (f : Record → Record) (rs : List Record) → Each (λ r. p (f r) ≡ p r) rs
    → filter p (map f rs) ≡ map f (filter p rs)
filter_mapped p f [] same = refl
filter_mapped p f (r ∷ rs) same =
    ap (λ (b : Bool). cond b (f r ∷ filter p (map f rs)) (filter p (map f rs))) same.0
    ∙ ap (λ (xs : List Record). cond (p r) (f r ∷ xs) xs) (filter_mapped p f rs same.1)
    ∙ pulled (p r)
  where
    pulled : (b : Bool)
        → cond b (f r ∷ map f (filter p rs)) (map f (filter p rs)) ≡ map f (cond b (r ∷ filter p rs) (filter p rs))
    pulled true = refl
    pulled false = refl

-- what each one has as before
map_mapped : {A : Type 0} (g : Record → A) (f : Record → Record) (rs : List Record) → Each (λ r. g (f r) ≡ g r) rs
    → map g (map f rs) ≡ map g rs
map_mapped g f [] same = refl
map_mapped g f (r ∷ rs) same =
    let first = same.0 in
    let rest = map_mapped g f rs same.1 in
    λ i. first i ∷ rest i

-- the movers of a kind's entries
pub movers_of : (who : Kind) (rs : List Record) → Each (λ r. mover r ≡ who) (of_kind who rs)
movers_of who rs =
    filter_each (λ r. is_same_kind who (mover r)) (λ r. Unit {0}) (λ r. mover r ≡ who) (λ r _ is. is_same_kind-true who (mover r) is) rs
    (each_all (λ r. Unit {0}) (λ r. tt) rs)

-- mentions that are all one give what is known from them already
known_same : (f : Record → Record) (v : SetMention) (ms : List Record) → Each (λ r. (f r).set ≡ v) ms
    → v.name ≡ first_given (map (λ r. r.set.name) ms)
    → unwrap_or v.actions [] ≡ given_first (map (λ r. r.set.actions) ms)
    → (first_given (map (λ r. r.set.name) (map f ms)) ≡ first_given (map (λ r. r.set.name) ms))
    × (given_first (map (λ r. r.set.actions) (map f ms)) ≡ given_first (map (λ r. r.set.actions) ms))
known_same f v [] each name actions = (refl, refl)
known_same f v (m ∷ ms) each name actions =
    let all : Each (λ r. r.set ≡ v) (f m ∷ map f ms) = each_mapped (λ r. r.set ≡ v) f (m ∷ ms) each in
    (first_same v (f m ∷ map f ms) (omega arith) all ∙ name, given_same v (f m ∷ map f ms) (omega arith) all ∙ actions)

-- the same of outcomes
record PaidSame (f : Record → Record) (ms : List Record) : Type 0 where
  name : first_given (map (λ r. r.outcome.name) (map f ms)) ≡ first_given (map (λ r. r.outcome.name) ms)
  one : nth_payoff (given_first (map (λ r. r.outcome.payoffs) (map f ms))) 0
      ≡ nth_payoff (given_first (map (λ r. r.outcome.payoffs) ms)) 0
  two : nth_payoff (given_first (map (λ r. r.outcome.payoffs) (map f ms))) 1
      ≡ nth_payoff (given_first (map (λ r. r.outcome.payoffs) ms)) 1

paid_same : (f : Record → Record) (v : OutcomeMention) (one two : Fraction) (ms : List Record)
    → Each (λ r. (f r).outcome ≡ v) ms
    → v.name ≡ first_given (map (λ r. r.outcome.name) ms) → v.payoffs ≡ Some (one ∷ two ∷ [])
    → one ≡ nth_payoff (given_first (map (λ r. r.outcome.payoffs) ms)) 0
    → two ≡ nth_payoff (given_first (map (λ r. r.outcome.payoffs) ms)) 1
    → PaidSame f ms
paid_same f v one two [] each name pays is_one is_two = record { name = refl; one = refl; two = refl }
paid_same f v one two (m ∷ ms) each name pays is_one is_two =
    let all : Each (λ r. r.outcome ≡ v) (f m ∷ map f ms) = each_mapped (λ r. r.outcome ≡ v) f (m ∷ ms) each in
    let listed : given_first (map (λ r. r.outcome.payoffs) (f m ∷ map f ms)) ≡ one ∷ two ∷ [] =
    payoffs_same v (f m ∷ map f ms) (omega arith) all ∙ ap (λ (o : Option (List Fraction)). unwrap_or o []) pays in
    record {
      name = outcome_name_same v (f m ∷ map f ms) (omega arith) all ∙ name;
      one = ap (λ (fs : List Fraction). nth_payoff fs 0) listed ∙ is_one;
      two = ap (λ (fs : List Fraction). nth_payoff fs 1) listed ∙ is_two;
    }

module _ (rs : List Record) where
  of_kind_filled : (who : Kind) → of_kind who (map (filled rs) rs) ≡ map (filled rs) (of_kind who rs)
  of_kind_filled who =
      filter_mapped (λ r. is_same_kind who (mover r)) (filled rs) rs
      (each_all (λ r. is_same_kind who (mover (filled rs r)) ≡ is_same_kind who (mover r)) (λ r. ap (is_same_kind who) (filled_mover rs r)) rs)

  number_kept : (who : Kind) → who ≢ movers.Leaf → Each (λ r. (filled rs r).set.number ≡ r.set.number) (of_kind who rs)
  number_kept who some =
      each_map (λ r. mover r ≡ who) (λ r. (filled rs r).set.number ≡ r.set.number)
      (λ r moves. ap (λ (m : SetMention). m.number) (filled_set rs r (mover_has_set r.kind r.player (λ leaf. some (sym moves ∙ leaf)))))
      (of_kind who rs) (movers_of who rs)

  set_numbers_filled : (who : Kind) → who ≢ movers.Leaf → set_numbers who (map (filled rs) rs) ≡ set_numbers who rs
  set_numbers_filled who some =
      ap (λ (xs : List Record). firsts (map (λ r. r.set.number) xs)) (of_kind_filled who)
      ∙ ap firsts (map_mapped (λ r. r.set.number) (filled rs) (of_kind who rs) (number_kept who some))

  mentions_filled : (who : Kind) → who ≢ movers.Leaf → (n : ℕ)
      → mentions who n (map (filled rs) rs) ≡ map (filled rs) (mentions who n rs)
  mentions_filled who some n =
      ap (filter (λ r. nat_eq n r.set.number)) (of_kind_filled who)
      ∙ filter_mapped (λ r. nat_eq n r.set.number) (filled rs) (of_kind who rs)
      (each_map (λ r. (filled rs r).set.number ≡ r.set.number) _ (λ r same. ap (nat_eq n) same) (of_kind who rs) (number_kept who some))

  mentions_whole : (who : Kind) → who ≢ movers.Leaf → (n : ℕ)
      → Each (λ r. (filled rs r).set ≡ whole_set rs who n) (mentions who n rs)
  mentions_whole who some n =
      filter_each (λ r. nat_eq n r.set.number) (λ r. mover r ≡ who) (λ r. (filled rs r).set ≡ whole_set rs who n)
      (λ r moves is.
      let number : n ≡ r.set.number = eqb-true n r.set.number is in
      let has : has_set r.kind ≡ true = mover_has_set r.kind r.player (λ leaf. some (sym moves ∙ leaf)) in
      filled_set rs r has ∙ (λ i. whole_set rs (moves i) (sym number i)))
      (of_kind who rs) (movers_of who rs)

  -- what is known of a set stays
  set_entry_filled : (who : Kind) → who ≢ movers.Leaf → (n : ℕ)
      → set_entry who (map (filled rs) rs) n ≡ set_entry who rs n
  set_entry_filled who some n =
      let same = known_same (filled rs) (whole_set rs who n) (mentions who n rs) (mentions_whole who some n) refl refl in
      let named = ap (λ (xs : List Record). first_given (map (λ r. r.set.name) xs)) (mentions_filled who some n) ∙ same.0 in
      let listed = ap (λ (xs : List Record). given_first (map (λ r. r.set.actions) xs)) (mentions_filled who some n) ∙ same.1 in
      (λ i. record { number = n; name = named i; actions = listed i })

  set_table_filled : (who : Kind) → who ≢ movers.Leaf → set_table who (map (filled rs) rs) ≡ set_table who rs
  set_table_filled who some = λ i. map (λ n. set_entry_filled who some n i) (set_numbers_filled who some i)

  with_outcome_filled : with_outcome (map (filled rs) rs) ≡ map (filled rs) (with_outcome rs)
  with_outcome_filled =
      filter_mapped (λ r. not (nat_eq r.outcome.number 0)) (filled rs) rs
      (each_all _ (λ r. ap (λ (n : ℕ). not (nat_eq n 0)) (outcome_kept rs r.outcome.number)) rs)

  outcome_numbers_filled : outcome_numbers (map (filled rs) rs) ≡ outcome_numbers rs
  outcome_numbers_filled =
      ap (λ (xs : List Record). firsts (map (λ r. r.outcome.number) xs)) with_outcome_filled
      ∙ ap firsts (map_mapped (λ r. r.outcome.number) (filled rs) (with_outcome rs)
      (each_all _ (λ r. outcome_kept rs r.outcome.number) (with_outcome rs)))

  outcome_mentions_filled : (n : ℕ) → outcome_mentions n (map (filled rs) rs) ≡ map (filled rs) (outcome_mentions n rs)
  outcome_mentions_filled n =
      ap (filter (λ r. nat_eq n r.outcome.number)) with_outcome_filled
      ∙ filter_mapped (λ r. nat_eq n r.outcome.number) (filled rs) (with_outcome rs)
      (each_all _ (λ r. ap (nat_eq n) (outcome_kept rs r.outcome.number)) (with_outcome rs))

  outcomes_whole : (n : ℕ) → Each (λ r. (filled rs r).outcome ≡ paid_outcome rs n) (outcome_mentions n rs)
  outcomes_whole n =
      filter_each (λ r. nat_eq n r.outcome.number) (λ r. nat_eq r.outcome.number 0 ≡ false) (λ r. (filled rs r).outcome ≡ paid_outcome rs n)
      (λ r some is. paid_is rs r.outcome.number some ∙ ap (paid_outcome rs) (sym (eqb-true n r.outcome.number is)))
      (with_outcome rs)
      (filter_each (λ r. not (nat_eq r.outcome.number 0)) (λ r. Unit {0}) (λ r. nat_eq r.outcome.number 0 ≡ false)
      (λ r _ is. not-true (nat_eq r.outcome.number 0) is) rs (each_all (λ r. Unit {0}) (λ r. tt) rs))

  outcome_entry_filled : (n : ℕ) → outcome_entry (map (filled rs) rs) n ≡ outcome_entry rs n
  outcome_entry_filled n =
      let entry = outcome_entry rs n in
      let same = paid_same (filled rs) (paid_outcome rs n) entry.one entry.two (outcome_mentions n rs) (outcomes_whole n) refl refl refl refl in
      let named = ap (λ (xs : List Record). first_given (map (λ r. r.outcome.name) xs)) (outcome_mentions_filled n) ∙ same.name in
      let one = ap (λ (xs : List Record). nth_payoff (given_first (map (λ r. r.outcome.payoffs) xs)) 0) (outcome_mentions_filled n) ∙ same.one in
      let two = ap (λ (xs : List Record). nth_payoff (given_first (map (λ r. r.outcome.payoffs) xs)) 1) (outcome_mentions_filled n) ∙ same.two in
      (λ i. record { number = n; name = named i; one = one i; two = two i })

  outcome_table_filled : outcome_table (map (filled rs) rs) ≡ outcome_table rs
  outcome_table_filled = λ i. map (λ n. outcome_entry_filled n i) (outcome_numbers_filled i)

  -- an entry is the same node
  node_set_filled : (r : Record) → (node_of (map (filled rs) rs) (filled rs r)).set ≡ (node_of rs r).set
  node_set_filled r = chosen (has_set r.kind) refl
    where
      chosen : (b : Bool) → has_set r.kind ≡ b
          → cond b (number_in (filled rs r).set.number (set_numbers (mover (filled rs r)) (map (filled rs) rs))) 0
          ≡ cond b (number_in r.set.number (set_numbers (mover r) rs)) 0
      chosen true has =
          let number : (filled rs r).set.number ≡ r.set.number = ap (λ (m : SetMention). m.number) (filled_set rs r has) in
          let moves = filled_mover rs r in
          (λ i. number_in (number i) (set_numbers (moves i) (map (filled rs) rs)))
          ∙ ap (number_in r.set.number) (set_numbers_filled (mover r) (not_leaf r.kind r.player has))
      chosen false has = refl

  node_children_filled : (r : Record) → (node_of (map (filled rs) rs) (filled rs r)).children ≡ (node_of rs r).children
  node_children_filled r = chosen (has_set r.kind) refl
    where
      chosen : (b : Bool) → has_set r.kind ≡ b
          → cond b (length (set_entry (mover (filled rs r)) (map (filled rs) rs) (filled rs r).set.number).actions) 0
          ≡ cond b (length (set_entry (mover r) rs r.set.number).actions) 0
      chosen true has =
          let number : (filled rs r).set.number ≡ r.set.number = ap (λ (m : SetMention). m.number) (filled_set rs r has) in
          let moves = filled_mover rs r in
          (λ i. length (set_entry (moves i) (map (filled rs) rs) (number i)).actions)
          ∙ ap (λ (e : SetEntry). length e.actions) (set_entry_filled (mover r) (not_leaf r.kind r.player has) r.set.number)
      chosen false has = refl

  node_outcome_filled : (r : Record) → (node_of (map (filled rs) rs) (filled rs r)).outcome ≡ (node_of rs r).outcome
  node_outcome_filled r =
      ap (λ (n : ℕ). cond (nat_eq n 0) 0 (number_in n (outcome_numbers (map (filled rs) rs)))) (outcome_kept rs r.outcome.number)
      ∙ ap (λ (ns : List ℕ). cond (nat_eq r.outcome.number 0) 0 (number_in r.outcome.number ns)) outcome_numbers_filled

  node_filled : (r : Record) → node_of (map (filled rs) rs) (filled rs r) ≡ node_of rs r
  node_filled r =
      let moves = filled_mover rs r in
      let set = node_set_filled r in
      let outcome = node_outcome_filled r in
      let children = node_children_filled r in
      λ i. record { kind = moves i; set = set i; outcome = outcome i; children = children i }

  nodes_filled : (xs : List Record) → map (node_of (map (filled rs) rs)) (map (filled rs) xs) ≡ map (node_of rs) xs
  nodes_filled [] = refl
  nodes_filled (r ∷ xs) =
      let first = node_filled r in
      let rest = nodes_filled xs in
      λ i. first i ∷ rest i

  -- the contents stay
  pub filled_contents : contents_of (map (filled rs) rs) ≡ contents_of rs
  filled_contents =
      let nodes = nodes_filled rs in
      let names = map_mapped (λ r. r.name) (filled rs) rs (each_all (λ r. (filled rs r).name ≡ r.name) (λ r. refl) rs) in
      let chance = set_table_filled movers.Chance (λ e. cc) in
      let one = set_table_filled movers.One (λ e. cc) in
      let two = set_table_filled movers.Two (λ e. cc) in
      let outcomes = outcome_table_filled in
      λ i. record { nodes = nodes i; names = names i; sets = record { chance = chance i; one = one i; two = two i }; outcomes = outcomes i }
