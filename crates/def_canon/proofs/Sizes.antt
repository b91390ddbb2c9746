-- How many nodes are wanted after entries that describe their sets whole.
use Rattle.std.proofs.Common.{◌≡◌, ◌≢◌, ℕ, ◌+◌, ◌-◌, ◌≤◌, ◌<◌, Bool, true, false, cond, List, [], ◌∷◌, ◌++◌, length, map, refl, sym, ap, ◌∙◌, subst}
use Rattle.std.proofs.Common.{append_assoc}
use Rattle.std.specs.Prelude.{if◌then◌else◌, nat_eq, unwrap_or}
use Rattle.def_tree.specs.declared.Kind.{Kind}
use Rattle.def_tree.specs.declared.Kind.TheVariants.{One, Two, Leaf}
use Rattle.def_tree.specs.Tree.{wanted, Begins}
use Rattle.def_file.specs.declared.EntryKind.{EntryKind}
use Rattle.def_file.specs.declared.EntryKind.TheVariants as entry
use Rattle.def_file.specs.Content.{SetMention, OutcomeMention, Record}
use Rattle.def_file.specs.Faults.{mover, mover_as, has_set}
use Rattle.def_file.specs.Entries.{contents_of, mentions, node_of, set_entry}
use Rattle.def_canon.specs.Described.{Each, Describes}
use Rattle.def_canon.proofs.NoFault.{each_before}
use Rattle.def_canon.proofs.Tables.{mentions_same, mention_some, given_same}

-- the actions that the entry itself gives
abbrev pub own_children : Record → ℕ
own_children r = if has_set r.kind then length (unwrap_or r.set.actions []) else 0

abbrev pub wanted_behind : ℕ → List Record → ℕ
wanted_behind n [] = n
wanted_behind n (r ∷ rs) = wanted_behind (n + own_children r - 1) rs

abbrev pub EntriesBegin : ℕ → List Record → Type 0
EntriesBegin n [] = Unit {0}
EntriesBegin n (r ∷ rs) = (0 < n) × EntriesBegin (n + own_children r - 1) rs

-- the mover of a kind of entry that has a set isn't Leaf, whatever the player's number
pub not_leaf : (kind : EntryKind) (player : ℕ) → has_set kind ≡ true → mover_as kind player ≢ Leaf
not_leaf entry.Chance player has leaf = cc
not_leaf entry.Personal player has leaf = chosen (nat_eq player 1) leaf
  where
    chosen : (b : Bool) → cond b One Two ≡ Leaf → ⊥
    chosen true e = cc
    chosen false e = cc
not_leaf entry.Leaf player has leaf = cc

module _ (sets : Kind → ℕ → SetMention) (outcomes : ℕ → OutcomeMention) where
  -- a node has the children that its own entry gives
  pub own_node : (all before : List Record) (r : Record) (behind : List Record) → all ≡ before ++ r ∷ behind
      → Each (Describes sets outcomes) all → (node_of all r).children ≡ own_children r
  own_node all before r behind split each = chosen (has_set r.kind) refl
    where
      chosen : (b : Bool) → has_set r.kind ≡ b
          → cond b (length (set_entry (mover r) all r.set.number).actions) 0
          ≡ cond b (length (unwrap_or r.set.actions [])) 0
      chosen true has =
          let d = (each_before (Describes sets outcomes) before r behind (subst (Each (Describes sets outcomes)) split each)).1 in
          let given = given_same (sets (mover r) r.set.number) _
          (subst (λ (xs : List Record). 1 ≤ length (mentions (mover r) r.set.number xs)) (sym split) (mention_some before r behind))
          (mentions_same sets outcomes (mover r) (not_leaf r.kind r.player has) r.set.number all each) in
          ap length (given ∙ ap (λ (m : SetMention). unwrap_or m.actions []) (sym (d.set has).same))
      chosen false has = refl

  wanted_here : (all before rest : List Record) (n : ℕ) → all ≡ before ++ rest → Each (Describes sets outcomes) all
      → wanted n (map (node_of all) rest) ≡ wanted_behind n rest
  wanted_here all before [] n split each = refl
  wanted_here all before (r ∷ rest) n split each =
      let own = own_node all before r rest split each in
      ap (λ (k : ℕ). wanted (n + k - 1) (map (node_of all) rest)) own
      ∙ wanted_here all (before ++ r ∷ []) rest (n + own_children r - 1) (split ∙ sym (append_assoc before (r ∷ []) rest)) each

  begins_here : (all before rest : List Record) (n : ℕ) → all ≡ before ++ rest → Each (Describes sets outcomes) all
      → EntriesBegin n rest → Begins n (map (node_of all) rest)
  begins_here all before [] n split each begins = tt
  begins_here all before (r ∷ rest) n split each begins =
      let own = own_node all before r rest split each in (
        begins.0,
        subst (λ (k : ℕ). Begins (n + k - 1) (map (node_of all) rest)) (sym own)
            (begins_here all (before ++ r ∷ []) rest (n + own_children r - 1) (split ∙ sym (append_assoc before (r ∷ []) rest)) each begins.1),
      )

  -- behind the nodes of described entries as many are wanted as by the actions that each entry itself gives
  pub wanted_described : (rs : List Record) (n : ℕ) → Each (Describes sets outcomes) rs
      → wanted n (contents_of rs).nodes ≡ wanted_behind n rs
  wanted_described rs n each = wanted_here rs [] rs n refl each

  -- described entries that each come where one is wanted, by the actions they give, make nodes that do so
  pub begins_described : (rs : List Record) (n : ℕ) → Each (Describes sets outcomes) rs → EntriesBegin n rs
      → Begins n (contents_of rs).nodes
  begins_described rs n each begins = begins_here rs [] rs n refl each begins

-- behind two lists as many are wanted as behind the second, where it begins with what the first leaves wanted
pub wanted_behind-append : (n : ℕ) (rs ts : List Record)
    → wanted_behind n (rs ++ ts) ≡ wanted_behind (wanted_behind n rs) ts
wanted_behind-append n [] ts = refl
wanted_behind-append n (r ∷ rs) ts = wanted_behind-append (n + own_children r - 1) rs ts

-- two lists have each entry where one is wanted, if the first does, and the second does behind the first
pub begin-append : (n : ℕ) (rs ts : List Record) → EntriesBegin n rs → EntriesBegin (wanted_behind n rs) ts
    → EntriesBegin n (rs ++ ts)
begin-append n [] ts first second = second
begin-append n (r ∷ rs) ts first second = (first.0, begin-append (n + own_children r - 1) rs ts first.1 second)

-- an entry comes where a node is wanted
pub begin_here : (n : ℕ) (rs : List Record) (r : Record) (ts : List Record) → EntriesBegin n (rs ++ r ∷ ts)
    → 0 < wanted_behind n rs
begin_here n [] r ts begins = begins.0
begin_here n (x ∷ rs) r ts begins = begin_here (n + own_children x - 1) rs r ts begins.1
