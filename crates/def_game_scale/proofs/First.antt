-- The fault that is found is the first one.
use Rattle.std.proofs.Common.{◌≡◌, ℕ, ◌-◌, ◌<◌, ◌≤◌, true, false, List, [], length, get_or, refl, ap, sym, ◌∙◌, arith, Some, None, inl, inr}
use Rattle.std.specs.Prelude.{Option, ◌↔◌, unsigned_abs}
use Rattle.std.proofs.lemmas.Bool.{cases_lt}
use Rattle.def_tree.specs.declared.Kind.TheVariants.{Leaf}
use Rattle.def_tree.specs.Tree.{Forest}
use Rattle.def_game_paths.specs.Paths.{Visit, visits}
use Rattle.def_game_paths.specs.Recall.{HasPerfectRecall, IsFirstBreak, RecallBreak, is_personal, is_same_set, recall_break}
use Rattle.def_game_paths.proofs.Breaks.{break_first, none_of_recall, recall_of_none, same_set}
use Rattle.def_game_scale.specs.Tables.{Tables, AreFractions}
use Rattle.def_game_scale.specs.Scale.{game_unit, whole_sum}
use Rattle.def_game_scale.specs.Faults.{GameFault, NotRecall, or_else, found_by, sign_fault, sum_fault, node_fault, whole_sum_fault, mass_fault, number_fault}
use Rattle.def_game_scale.specs.Faults.{of_recall}
use Rattle.def_game_scale.specs.First.{SignsPass, SignsFail, SumsPass, SumsFail, NodePasses, NodeFails, WholeSumPasses, WholeSumFails, MassPasses, MassFails}
use Rattle.def_game_scale.specs.First.{in_signs, in_sums, in_nodes, in_whole_sum, in_masses, RecallFails, in_numbers, in_recall}
use Rattle.def_game_scale.specs.FaultLaws.{FindsFirstNumberFault, FindsFirstFault}
use Rattle.def_game_scale.proofs.Walks.{or_none, or_some, none_iff, some_iff}
use Rattle.def_game_scale.proofs.Chance.{sign_walk, sum_walk}
use Rattle.def_game_scale.proofs.Nodes.{node_walk, mass_walk, whole_sum_walk}

none_then : (a b : Option GameFault) → a ≡ None → or_else a b ≡ b
none_then a b e = ap (λ o. or_else o b) e

some_then : (a b : Option GameFault) (fault : GameFault) → a ≡ Some fault → or_else a b ≡ Some fault
some_then a b fault e = ap (λ o. or_else o b) e

-- the fault of the numbers is exactly the first one, and there is none exactly where all nodes pass
pub number_first : (tables : Tables) (tree : Forest) → AreFractions tables → FindsFirstNumberFault tables tree
number_first tables tree h =
    let nodes : List Visit = visits tree in
    let unit : ℕ = game_unit tables tree in
    let size : ℕ = unsigned_abs (whole_sum tables tree) in
    let a : Option GameFault = found_by (sign_fault tables) [] nodes in
    let b : Option GameFault = found_by (sum_fault tables) [] nodes in
    let c : Option GameFault = found_by (node_fault tables) [] nodes in
    let d : Option GameFault = found_by (whole_sum_fault size) [] nodes in
    let e : Option GameFault = found_by (mass_fault tables unit) [] nodes in
    let signs = none_iff (sign_fault tables) (SignsPass tables) (SignsFail tables) (sign_walk tables) nodes in
    let sums = none_iff (sum_fault tables) (SumsPass tables) (SumsFail tables) (sum_walk tables h) nodes in
    let numbers = none_iff (node_fault tables) (NodePasses tables) (NodeFails tables) (node_walk tables) nodes in
    let wholes = none_iff (whole_sum_fault size) (WholeSumPasses size) (WholeSumFails size) (whole_sum_walk size) nodes in
    let masses = none_iff (mass_fault tables unit) (MassPasses tables unit) (MassFails tables unit) (mass_walk tables unit) nodes in
    let sign = some_iff (sign_fault tables) (SignsPass tables) (SignsFail tables) (sign_walk tables) nodes in
    let sum = some_iff (sum_fault tables) (SumsPass tables) (SumsFail tables) (sum_walk tables h) nodes in
    let number = some_iff (node_fault tables) (NodePasses tables) (NodeFails tables) (node_walk tables) nodes in
    let whole = some_iff (whole_sum_fault size) (WholeSumPasses size) (WholeSumFails size) (whole_sum_walk size) nodes in
    let mass = some_iff (mass_fault tables unit) (MassPasses tables unit) (MassFails tables unit) (mass_walk tables unit) nodes in
    record {
      some = λ fault. (
        λ is. elim (or_some a (or_else b (or_else c (or_else d e))) fault is) [
          | inl here ↦ in_signs ((sign fault).0 here)
          | inr first ↦ elim (or_some b (or_else c (or_else d e)) fault first.1) [
            | inl here ↦ in_sums (signs.0 first.0) ((sum fault).0 here)
            | inr second ↦ elim (or_some c (or_else d e) fault second.1) [
              | inl here ↦ in_nodes (signs.0 first.0) (sums.0 second.0) ((number fault).0 here)
              | inr third ↦ elim (or_some d e fault third.1) [
                | inl here ↦ in_whole_sum (signs.0 first.0) (sums.0 second.0) (numbers.0 third.0) ((whole fault).0 here)
                | inr fourth ↦ in_masses (signs.0 first.0) (sums.0 second.0) (numbers.0 third.0) (wholes.0 fourth.0) ((mass fault).0 fourth.1)
              ]
            ]
          ]
        ],
        λ first. elim first [
          | in_signs fails ↦ some_then a (or_else b (or_else c (or_else d e))) fault ((sign fault).1 fails)
          | in_sums p fails ↦ none_then a (or_else b (or_else c (or_else d e))) (signs.1 p) ∙ some_then b (or_else c (or_else d e)) fault ((sum fault).1 fails)
          | in_nodes p q fails ↦
              none_then a (or_else b (or_else c (or_else d e))) (signs.1 p) ∙ none_then b (or_else c (or_else d e)) (sums.1 q)
              ∙ some_then c (or_else d e) fault ((number fault).1 fails)
          | in_whole_sum p q r fails ↦
              none_then a (or_else b (or_else c (or_else d e))) (signs.1 p) ∙ none_then b (or_else c (or_else d e)) (sums.1 q)
              ∙ none_then c (or_else d e) (numbers.1 r) ∙ some_then d e fault ((whole fault).1 fails)
          | in_masses p q r s fails ↦
              none_then a (or_else b (or_else c (or_else d e))) (signs.1 p) ∙ none_then b (or_else c (or_else d e)) (sums.1 q)
              ∙ none_then c (or_else d e) (numbers.1 r) ∙ none_then d e (wholes.1 s) ∙ (mass fault).1 fails
        ],
      );
      none = (
        λ is.
            let first = or_none a (or_else b (or_else c (or_else d e))) is in
            let second = or_none b (or_else c (or_else d e)) first.1 in
            let third = or_none c (or_else d e) second.1 in
            let fourth = or_none d e third.1 in
            record { signs = signs.0 first.0; sums = sums.0 second.0; nodes = numbers.0 third.0; whole = wholes.0 fourth.0; masses = masses.0 fourth.1 },
        λ pass.
            none_then a (or_else b (or_else c (or_else d e))) (signs.1 pass.signs) ∙ none_then b (or_else c (or_else d e)) (sums.1 pass.sums)
            ∙ none_then c (or_else d e) (numbers.1 pass.nodes) ∙ none_then d e (wholes.1 pass.whole) ∙ masses.1 pass.masses,
      );
    }

abbrev at_number : Forest → Visit → ℕ → Visit
at_number tree d k = get_or (visits tree) (k - 1) d

-- with perfect recall nothing breaks it
no_break : (tree : Forest) (d : Visit) (fault : RecallBreak) → HasPerfectRecall tree
    → IsFirstBreak (at_number tree d) (length (visits tree)) fault → ⊥
no_break tree d fault recall first =
    let breaks = first.breaks in
    let range = breaks.in_range in
    let low : 1 ≤ fault.earlier = range.0 in
    let below : fault.earlier < fault.node = range.1 in
    let high : fault.node ≤ length (visits tree) = range.2 in
    let same = same_set (at_number tree d fault.earlier).node (at_number tree d fault.node).node breaks.set in
    breaks.differs (recall (fault.earlier - 1) (fault.node - 1) d (omega arith) (omega arith) (ap is_personal same.0 ∙ breaks.personal) same.0 same.1)

-- there is one first break
one_break : (tree : Forest) (d : Visit) (x y : RecallBreak) → IsFirstBreak (at_number tree d) (length (visits tree)) x
    → IsFirstBreak (at_number tree d) (length (visits tree)) y → x ≡ y
one_break tree d x y p q =
    let one : x.node ≤ y.node = p.first y q.breaks in
    let other : y.node ≤ x.node = q.first x p.breaks in
    let nodes : x.node ≡ y.node = omega arith in
    let make : ℕ → ℕ → RecallBreak = λ node earlier. record { node = node; earlier = earlier } in
    ap (λ n. make n x.earlier) nodes ∙ ap (make y.node) (earliers nodes)
  where
    none_earlier : (x y : RecallBreak) → IsFirstBreak (at_number tree d) (length (visits tree)) x
        → IsFirstBreak (at_number tree d) (length (visits tree)) y → x.node ≡ y.node → x.earlier < y.earlier → ⊥
    none_earlier x y p q nodes before =
        let range = p.breaks.in_range in
        let low : 1 ≤ x.earlier = range.0 in
        let no : true ≡ false = sym p.breaks.set ∙ ap (λ n. is_same_set (at_number tree d x.earlier).node (at_number tree d n).node) nodes
        ∙ q.breaks.first x.earlier low before in
        cc no

    earliers : x.node ≡ y.node → x.earlier ≡ y.earlier
    earliers nodes = elim (cases_lt x.earlier y.earlier) [
      | inl before ↦ absurd (none_earlier x y p q nodes before)
      | inr past ↦ elim (cases_lt y.earlier x.earlier) [
        | inl before ↦ absurd (none_earlier y x q p (sym nodes) before)
        | inr same ↦ omega arith
      ]
    ]

a_visit : Visit
a_visit = record { path = []; node = record { kind = Leaf; set = 0; outcome = 0; children = 0 } }

-- the break that is found is exactly the first
pub recall_first : (tree : Forest) (fault : RecallBreak)
    → (recall_break tree ≡ Some fault) ↔ ((d : Visit) → IsFirstBreak (at_number tree d) (length (visits tree)) fault)
recall_first tree fault = (λ e d. break_first tree d fault e, λ first. found (recall_break tree) refl (first a_visit))
  where
    found : (r : Option RecallBreak) → recall_break tree ≡ r
        → IsFirstBreak (at_number tree a_visit) (length (visits tree)) fault → recall_break tree ≡ Some fault
    found None is first = absurd (no_break tree a_visit fault (recall_of_none tree is) first)
    found (Some other) is first = is ∙ ap Some (one_break tree a_visit other fault (break_first tree a_visit other is) first)

of_recall-some : (r : Option RecallBreak) (fault : GameFault) → of_recall r ≡ Some fault
    → (found : RecallBreak) × (r ≡ Some found) × (fault ≡ NotRecall found.node found.earlier)
of_recall-some None fault e = cc
of_recall-some (Some found) fault e = (found, refl, cc)

recall_some : (tree : Forest) (fault : GameFault)
    → (of_recall (recall_break tree) ≡ Some fault) ↔ RecallFails tree fault
recall_some tree fault = (
  λ e.
      let found = of_recall-some (recall_break tree) fault e in
      record { node = found.0.node; earlier = found.0.earlier; breaks = (recall_first tree found.0).0 found.1; fault_is = found.2 },
  λ fails. ap of_recall ((recall_first tree (record { node = fails.node; earlier = fails.earlier })).1 fails.breaks) ∙ ap Some (sym fails.fault_is),
)

pub of_recall-none : (r : Option RecallBreak) → of_recall r ≡ None → r ≡ None
of_recall-none None e = refl
of_recall-none (Some fault) e = cc

-- the fault of the game, recall included, is exactly the first, and there is none exactly where nothing fails
pub game_first : (tables : Tables) (tree : Forest) → AreFractions tables → FindsFirstFault tables tree
game_first tables tree h =
    let numbers = number_first tables tree h in
    let a : Option GameFault = number_fault tables tree in
    let b : Option GameFault = of_recall (recall_break tree) in
    record {
      some = λ fault. (
        λ e. elim (or_some a b fault e) [
          | inl here ↦ in_numbers ((numbers.some fault).0 here)
          | inr later ↦ in_recall (numbers.none.0 later.0) ((recall_some tree fault).0 later.1)
        ],
        λ first. elim first [
          | in_numbers fails ↦ some_then a b fault ((numbers.some fault).1 fails)
          | in_recall pass fails ↦ none_then a b (numbers.none.1 pass) ∙ (recall_some tree fault).1 fails
        ],
      );
      none = (
        λ e. let parts = or_none a b e in (numbers.none.0 parts.0, recall_of_none tree (of_recall-none (recall_break tree) parts.1)),
        λ pass. none_then a b (numbers.none.1 pass.0) ∙ ap of_recall (none_of_recall tree pass.1),
      );
    }
