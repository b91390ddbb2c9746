-- The rules of sets at their edges.
use Rattle.std.proofs.Common.{ℕ, ◌+◌, ◌≤◌, [], ◌∷◌, refl, sym, subst, arith}
use Rattle.std.specs.Prelude.{All}
use Rattle.std.proofs.lemmas.List.Elements.{All-nil, All-cons, All-head}
use Rattle.def_tree.specs.declared.Kind.TheVariants.{Chance, One, Two}
use Rattle.def_tree.specs.declared.Node.{Node}
use Rattle.def_tree.specs.Rules.{AgreeOnSize, JoinsSet, RuleRows, inner_node}

-- the nodes before a node that is to join agree with it on its size
agree : (before : Node) (node : Node) → AgreeOnSize before node
    → All (λ earlier. AgreeOnSize earlier node) (before ∷ [])
agree before node is = All-cons (λ earlier. AgreeOnSize earlier node) before [] is (All-nil (λ earlier. AgreeOnSize earlier node))

first_joins : (n : ℕ) → 1 ≤ n → n ≤ 1024 → JoinsSet [] (inner_node Chance 1 n)
first_joins n some limit = record {
  counts = omega arith;
  next = omega arith;
  some = some;
  limit = limit;
  agrees = All-nil (λ earlier. AgreeOnSize earlier (inner_node Chance 1 n));
}

-- worked rows: which nodes can come first, which after one node, and which never
pub rule_rows : RuleRows
rule_rows = record {
  first = λ n. (λ fits. (fits.some, fits.limit), λ h. first_joins n h.0 h.1);
  first_set = λ fits. let h : 2 ≤ 0 + 1 = fits.next in absurd (omega arith);
  set_zero = λ fits. let h : 1 ≤ 0 = fits.counts in absurd (omega arith);
  same_set = λ n. (
    λ fits. sym (All-head (λ earlier. AgreeOnSize earlier (inner_node One 1 n)) (inner_node One 1 2) [] fits.agrees refl refl),
    λ e. subst (λ m. JoinsSet (inner_node One 1 2 ∷ []) (inner_node One 1 m)) (sym e)
        (record {
          counts = omega arith;
          next = omega arith;
          some = omega arith;
          limit = omega arith;
          agrees = agree (inner_node One 1 2) (inner_node One 1 2) (λ kinds sets. refl);
        }),
  );
  next_set = record {
    counts = omega arith;
    next = omega arith;
    some = omega arith;
    limit = omega arith;
    agrees = agree (inner_node One 1 2) (inner_node One 2 3) (λ kinds sets. absurd (omega (arith, sets)));
  };
  set_left_out = λ fits. let h : 3 ≤ 1 + 1 = fits.next in absurd (omega arith);
  other_kind = record {
    counts = omega arith;
    next = omega arith;
    some = omega arith;
    limit = omega arith;
    agrees = agree (inner_node One 1 2) (inner_node Two 1 3) (λ kinds sets. cc kinds);
  };
  other_kinds_next = λ fits. let h : 2 ≤ 0 + 1 = fits.next in absurd (omega arith);
  leaf = λ set children. (λ fits. (fits.set, fits.children), λ h. record { set = h.0; children = h.1 });
  nodes = λ tree is rules. (λ game. game.limit, λ few. record { tree = is; rules = rules; limit = few });
}
