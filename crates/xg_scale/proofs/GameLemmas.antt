-- A node's set and outcome are in the game's tables, which hold the probabilities and the payoffs.
use Rattle.std.proofs.Common.{◌≡◌, ◌≢◌, ℕ, zero, suc, ◌+◌, ◌-◌, ◌≤◌, List, [], length, cond, refl, ap, sym, subst, ◌∙◌, arith, inl, inr, ◌⊎◌, Bool, true, false}
use Rattle.std.proofs.Common.{Some, None, slice_get}
use Rattle.std.specs.Prelude.{All, option_map}
use Rattle.std.proofs.lemmas.List.{get_or-map, length-map}
use Rattle.std.proofs.lemmas.Option.{get_or_from_slice_get, slice_get-map, slice_get_past}
use Rattle.std.proofs.lemmas.Bool.{cases_lt, ne_eqb}
use Rattle.def_tree.specs.declared.Kind.TheVariants.{Chance, Leaf}
use Rattle.def_tree.specs.declared.Node.{Node}
use Rattle.def_tree.specs.declared.Player.{Player}
use Rattle.def_tree.specs.declared.Player.TheVariants.{One, Two}
use Rattle.def_tree.specs.Tree.{prefix}
use Rattle.def_tree.specs.Rules.{IsGameTree, is_same_kind}
use Rattle.def_tree.proofs.Sets.{is_same_kind-true}
use Rattle.def_fraction.specs.Fraction.{Fraction, zero_fraction}
use Rattle.def_file.specs.Content.{Action, GameFile, OutcomeEntry, sets_of_kind}
use Rattle.def_file.specs.Faults.{no_set, null_outcome, outcome_at, set_at}
use Rattle.def_file.specs.Game.{GoesWith, IsInSet, IsWholeGame, chances_of}
use Rattle.def_game_scale.specs.Tables.{payoffs_of, probabilities, probability}
use Rattle.def_game_numbers.specs.Numbers.{payoffs_given, tables_of}
use Rattle.xg_game.specs.Access.{outcome_numbered, payoff_to}
use Rattle.xg_scale.specs.Walked.{paid_to}

-- an element that is read keeps what all keep
pub kept_at : {X : Type 0} (P : X → Type 0) (xs : List X) (i : ℕ) (x : X) → All P xs → slice_get xs i ≡ Some x → P x
kept_at P xs i x all read = elim (cases_lt i (length xs)) [
  | inl there ↦ subst P (get_or_from_slice_get xs i x x read) (all i x there)
  | inr past ↦ let none : None ≡ Some x = sym (slice_get_past xs i past) ∙ read in cc none
]

-- a whole game's tree keeps the rules
pub tree_rules : (game : GameFile) → IsWholeGame game → IsGameTree game.tree
tree_rules game whole = record { tree = whole.tree; rules = whole.together.rules; limit = whole.together.limit }

-- a node's set and outcome are in the tables
pub goes_with : (game : GameFile) → IsWholeGame game → (k : ℕ) (x : Node)
    → slice_get (prefix game.tree) (k + 1 - 1) ≡ Some x → GoesWith game.sets game.outcomes x
goes_with game whole k x read = kept_at (GoesWith game.sets game.outcomes) (prefix game.tree) (k + 1 - 1) x whole.together.tables read

chance-not_leaf : Chance ≢ Leaf
chance-not_leaf e = cc e

-- a chance node's set is in the table
pub in_chance_set : (game : GameFile) → IsWholeGame game → (k : ℕ) (x : Node)
    → slice_get (prefix game.tree) (k + 1 - 1) ≡ Some x → x.kind ≡ Chance → IsInSet game.sets.chance x
in_chance_set game whole k x read chance =
    let inner : x.kind ≢ Leaf = λ leaf. chance-not_leaf (sym chance ∙ leaf) in
    subst (λ kind. IsInSet (sets_of_kind kind game.sets) x) chance ((goes_with game whole k x read).set inner)

-- the probabilities of a set are those of its actions
pub probabilities_are : (game : GameFile) (set : ℕ) → 1 ≤ set → set ≤ length game.sets.chance
    → probabilities (tables_of game) set ≡ chances_of (set_at game.sets.chance (set - 1))
probabilities_are game set from_one there = get_or-map chances_of game.sets.chance (set - 1) no_set [] (omega arith)

-- as many as there are actions
pub probabilities_count : (game : GameFile) (set : ℕ) → 1 ≤ set → set ≤ length game.sets.chance
    → length (probabilities (tables_of game) set) ≡ length (set_at game.sets.chance (set - 1)).actions
probabilities_count game set from_one there =
    ap length (probabilities_are game set from_one there) ∙ length-map (set_at game.sets.chance (set - 1)).actions (λ (a : Action). a.chance)

-- what is read of an action is read of them
pub probability_read : (game : GameFile) (set i : ℕ) (f : Fraction) → 1 ≤ set → set ≤ length game.sets.chance
    → option_map (λ (a : Action). a.chance) (slice_get (set_at game.sets.chance (set - 1)).actions i) ≡ Some f →
    slice_get (probabilities (tables_of game) set) i ≡ Some f
probability_read game set i f from_one there read =
    ap (λ fs. slice_get fs i) (probabilities_are game set from_one there)
    ∙ slice_get-map (λ (a : Action). a.chance) (set_at game.sets.chance (set - 1)).actions i ∙ read

-- and it is the action's probability
pub probability_is : (game : GameFile) (set action : ℕ) (f : Fraction) → 1 ≤ set → set ≤ length game.sets.chance
    → option_map (λ (a : Action). a.chance) (slice_get (set_at game.sets.chance (set - 1)).actions (action - 1))
    ≡ Some f
    →
    probability (tables_of game) set action ≡ f
probability_is game set action f from_one there read =
    get_or_from_slice_get (probabilities (tables_of game) set) (action - 1) f zero_fraction (probability_read game set (action - 1) f from_one there read)

paid_given : (player : Player) (entry : OutcomeEntry) → payoff_to player entry ≡ paid_to player (payoffs_given entry)
paid_given One entry = refl
paid_given Two entry = refl

numbered : (outcome : ℕ) (outcomes : List OutcomeEntry)
    → outcome_numbered (suc outcome) outcomes ≡ outcome_at outcomes outcome
numbered outcome outcomes =
    let index : suc outcome - 1 ≡ outcome = omega arith in
    ap (λ b. cond b null_outcome (outcome_at outcomes (suc outcome - 1))) (ne_eqb (suc outcome) 0 (λ e. absurd (omega arith))) ∙ ap (outcome_at outcomes) index

-- the payoff of an outcome, the null outcome included
pub paid_is : (game : GameFile) (player : Player) (outcome : ℕ) → outcome ≤ length game.outcomes
    → payoff_to player (outcome_numbered outcome game.outcomes) ≡ paid_to player (payoffs_of (tables_of game) outcome)
paid_is game player zero there = paid_given player null_outcome
paid_is game player (suc outcome) there =
    ap (payoff_to player) (numbered outcome game.outcomes) ∙
    paid_given player (outcome_at game.outcomes outcome)
    ∙ ap (paid_to player) (sym (get_or-map payoffs_given game.outcomes outcome null_outcome (record { one = zero_fraction; two = zero_fraction })
    (omega arith)))

-- the null outcome pays nothing
pub paid_null : (game : GameFile) (player : Player) → paid_to player (payoffs_of (tables_of game) 0) ≡ zero_fraction
paid_null game One = refl
paid_null game Two = refl

-- a chance node's set counts from 1
pub set_counts : (game : GameFile) → IsWholeGame game → (k : ℕ) (x : Node)
    → slice_get (prefix game.tree) (k + 1 - 1) ≡ Some x → 1 ≤ x.set ⊎ (is_same_kind Chance x.kind ≡ false)
set_counts game whole k x read = by (is_same_kind Chance x.kind) refl
  where
    by : (b : Bool) → is_same_kind Chance x.kind ≡ b → 1 ≤ x.set ⊎ (is_same_kind Chance x.kind ≡ false)
    by true chance = inl (in_chance_set game whole k x read (is_same_kind-true Chance x.kind chance)).from_one
    by false other = inr other
