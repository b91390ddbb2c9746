-- The walks over the nodes' numbers: reach, payoffs, their sum and the unit; that sum in the unit; and the mass.
use Rattle.std.proofs.Common.{◌≡◌, ◌≢◌, ℕ, ◌<◌, ◌≤◌, Bool, true, false, not, cond, ◌&&◌, List, [], ◌∷◌, ◌++◌, refl, ap, sym, ◌∙◌, arith, Some, None, inl, inr}
use Rattle.std.specs.Prelude.{Option, ℤ, pos, negsuc, unsigned_abs, eqb, nat_le, nat_lt}
use Rattle.std.specs.Bool.{Decides}
use Rattle.std.specs.Ordering.{int_eq}
use Rattle.std.proofs.lemmas.Bool.{and_from, and_parts, false_from_ne_true, le-leb, le-ltb, leb-false, leb-true, lt-leb, lt-ltb, ltb-false, ltb-true, not-false}
use Rattle.std.proofs.lemmas.Bool.{not-true}
use Rattle.std.proofs.lemmas.Bool.Decides.{Decides-and, Decides-eqb, Decides-int_eq, Decides-like}
use Rattle.def_fraction.specs.Fraction.{Fraction, fits, most}
use Rattle.def_game_paths.specs.Paths.{Visit, is_leaf}
use Rattle.def_game_scale.specs.Tables.{Tables, paid_together, payoff_one, payoff_two, reach}
use Rattle.def_game_scale.specs.Scale.{expected, mass_so_far, sum_so_far, unit_so_far}
use Rattle.def_game_scale.specs.Faults.{GameFault, NotConstantSum, Scale, passing, number_after, is_same, leaf_fault, node_fault, mass_fault, whole_sum_fault}
use Rattle.def_game_scale.specs.First.{PathFits, LeafPasses, NodePasses, NodeFails, reach_past, one_past, two_past, sum_past, not_constant_sum, expected_past}
use Rattle.def_game_scale.specs.First.{unit_past, MassPasses, MassFails, WholeSumPasses, WholeSumFails}
use Rattle.def_game_scale.proofs.Walks.{each-all, passing_none, passing_some, passed, not_passed, IsWalk}
use Rattle.def_game_scale.proofs.Chance.{test_passed}

-- a signed number whose size is 0 is 0
pub no_size : (n : ℤ) → unsigned_abs n ≡ 0 → n ≡ pos 0
no_size (pos n) e = ap pos e
no_size (negsuc n) e = absurd (omega arith)

-- the test whether two fractions are the same
pub same_decided : (f g : Fraction) → Decides (is_same f g) (f ≡ g)
same_decided f g =
    Decides-like (is_same f g) (λ p. ap (λ (n : ℤ). record { num = n; den = f.den }) p.0 ∙ ap (λ (d : ℕ). record { num = g.num; den = d }) p.1)
    (λ e. (ap (λ (h : Fraction). h.num) e, ap (λ (h : Fraction). h.den) e))
    (Decides-and (int_eq f.num g.num) (eqb f.den g.den) (Decides-int_eq f.num g.num) (Decides-eqb f.den g.den))

not_same : (f g : Fraction) → f ≢ g → is_same f g ≡ false
not_same f g differs = false_from_ne_true (is_same f g) (λ same. differs ((same_decided f g).0 same))

differ : (f g : Fraction) → is_same f g ≡ false → f ≢ g
differ f g e same = let no : true ≡ false = sym ((same_decided f g).1 same) ∙ e in cc

module _ (tables : Tables) (before : List Visit) (v : Visit) where
  abbrev here : GameFault
  here = Scale (number_after before)

  abbrev paid : Fraction
  paid = paid_together tables v

  abbrev first : Fraction
  first = sum_so_far tables (before ++ (v ∷ []))

  abbrev unit : ℕ
  unit = unit_so_far tables (before ++ (v ∷ []))

  -- the tests of a leaf from the last one on
  abbrev unit_test : Option GameFault
  unit_test = passing (nat_le unit most) here None

  abbrev expected_test : Option GameFault
  expected_test = passing (fits (expected tables v)) here unit_test

  abbrev same_test : Option GameFault
  same_test = passing (is_same paid first) (NotConstantSum (number_after before)) expected_test

  leaf_none : leaf_fault tables before v ≡ None → LeafPasses tables before v
  leaf_none e =
      let sum = passing_none (fits paid) here same_test e in
      let same = passing_none (is_same paid first) (NotConstantSum (number_after before)) expected_test sum.1 in
      let expects = passing_none (fits (expected tables v)) here unit_test same.1 in
      record {
        sum_fits = sum.0;
        pays_the_sum = (same_decided paid first).0 same.0;
        expected_fits = expects.0;
        unit_fits = leb-true unit most (passing_none (nat_le unit most) here None expects.1).0;
      }

  sum_passed : fits paid ≡ true → leaf_fault tables before v ≡ same_test
  sum_passed sum = passed (fits paid) here same_test sum

  same_passed : fits paid ≡ true → paid ≡ first → leaf_fault tables before v ≡ expected_test
  same_passed sum same = sum_passed sum ∙ passed (is_same paid first) (NotConstantSum (number_after before)) expected_test ((same_decided paid first).1 same)

  expected_passed : fits paid ≡ true → paid ≡ first → fits (expected tables v) ≡ true
      → leaf_fault tables before v ≡ unit_test
  expected_passed sum same expects = same_passed sum same ∙ passed (fits (expected tables v)) here unit_test expects

  leaf_none_by : LeafPasses tables before v → leaf_fault tables before v ≡ None
  leaf_none_by pass =
      expected_passed pass.sum_fits pass.pays_the_sum pass.expected_fits ∙ passed (nat_le unit most) here None (le-leb unit most pass.unit_fits)

  leaf_some : (fault : GameFault) → PathFits tables v → is_leaf v ≡ true → leaf_fault tables before v ≡ Some fault
      → NodeFails tables before v fault
  leaf_some fault path leaf e =
      elim (passing_some (fits paid) here same_test fault e) [
        | inl past ↦ sum_past path leaf past.0 past.1
        | inr sum ↦ elim (passing_some (is_same paid first) (NotConstantSum (number_after before)) expected_test fault sum.1) [
          | inl other ↦ not_constant_sum path leaf sum.0 (differ paid first other.0) other.1
          | inr same ↦
              let pays = (same_decided paid first).0 same.0 in
              elim (passing_some (fits (expected tables v)) here unit_test fault same.1) [
                | inl past ↦ expected_past path leaf sum.0 pays past.0 past.1
                | inr expects ↦ elim (passing_some (nat_le unit most) here None fault expects.1) [
                  | inl past ↦ unit_past path leaf sum.0 pays expects.0 (leb-false unit most past.0) past.1
                  | inr none ↦ let no = none.1 in cc
                ]
              ]
        ]
      ]

-- past the tests at every node comes the leaf's
after_path : (tables : Tables) (before : List Visit) (v : Visit) → PathFits tables v
    → node_fault tables before v ≡ cond (is_leaf v) (leaf_fault tables before v) None
after_path tables before v path =
    let k = Scale (number_after before) in
    let rest : Option GameFault = cond (is_leaf v) (leaf_fault tables before v) None in
    passed (fits (reach tables v.path)) k (passing (fits (payoff_one tables v)) k (passing (fits (payoff_two tables v)) k rest)) path.reach_fits
    ∙ passed (fits (payoff_one tables v)) k (passing (fits (payoff_two tables v)) k rest) path.one_fits
    ∙ passed (fits (payoff_two tables v)) k rest path.two_fits

at_leaf : (tables : Tables) (before : List Visit) (v : Visit) → PathFits tables v → is_leaf v ≡ true
    → node_fault tables before v ≡ leaf_fault tables before v
at_leaf tables before v path leaf = after_path tables before v path ∙ ap (λ b. cond b (leaf_fault tables before v) None) leaf

node_none : (tables : Tables) (before : List Visit) (v : Visit)
    → node_fault tables before v ≡ None → NodePasses tables before v
node_none tables before v e =
    let k = Scale (number_after before) in
    let rest : Option GameFault = cond (is_leaf v) (leaf_fault tables before v) None in
    let first = passing_none (fits (reach tables v.path)) k (passing (fits (payoff_one tables v)) k (passing (fits (payoff_two tables v)) k rest)) e in
    let second = passing_none (fits (payoff_one tables v)) k (passing (fits (payoff_two tables v)) k rest) first.1 in
    let third = passing_none (fits (payoff_two tables v)) k rest second.1 in
    record {
      path = record { reach_fits = first.0; one_fits = second.0; two_fits = third.0 };
      leaf = λ leaf. leaf_none tables before v (ap (λ b. cond b (leaf_fault tables before v) None) (sym leaf) ∙ third.1);
    }

node_none_by : (tables : Tables) (before : List Visit) (v : Visit) (b : Bool) → is_leaf v ≡ b
    → NodePasses tables before v → node_fault tables before v ≡ None
node_none_by tables before v true leaf pass = at_leaf tables before v pass.path leaf ∙ leaf_none_by tables before v (pass.leaf leaf)
node_none_by tables before v false inner pass = after_path tables before v pass.path ∙ ap (λ b. cond b (leaf_fault tables before v) None) inner

node_some : (tables : Tables) (before : List Visit) (v : Visit) (fault : GameFault)
    → node_fault tables before v ≡ Some fault → NodeFails tables before v fault
node_some tables before v fault e =
    let k = Scale (number_after before) in
    let rest : Option GameFault = cond (is_leaf v) (leaf_fault tables before v) None in
    elim (passing_some (fits (reach tables v.path)) k (passing (fits (payoff_one tables v)) k (passing (fits (payoff_two tables v)) k rest)) fault e) [
      | inl here ↦ reach_past here.0 here.1
      | inr first ↦ elim (passing_some (fits (payoff_one tables v)) k (passing (fits (payoff_two tables v)) k rest) fault first.1) [
        | inl here ↦ one_past first.0 here.0 here.1
        | inr second ↦ elim (passing_some (fits (payoff_two tables v)) k rest fault second.1) [
          | inl here ↦ two_past first.0 second.0 here.0 here.1
          | inr third ↦
              let leaf = test_passed (is_leaf v) (leaf_fault tables before v) fault third.1 in
              leaf_some tables before v fault (record { reach_fits = first.0; one_fits = second.0; two_fits = third.0 }) leaf.0 leaf.1
        ]
      ]
    ]

node_some_by : (tables : Tables) (before : List Visit) (v : Visit) (fault : GameFault)
    → NodeFails tables before v fault → node_fault tables before v ≡ Some fault
node_some_by tables before v fault (reach_past fails is) =
    let k = Scale (number_after before) in
    let rest : Option GameFault = cond (is_leaf v) (leaf_fault tables before v) None in
    not_passed (fits (reach tables v.path)) k (passing (fits (payoff_one tables v)) k (passing (fits (payoff_two tables v)) k rest)) fault fails is
node_some_by tables before v fault (one_past first fails is) =
    let k = Scale (number_after before) in
    let rest : Option GameFault = cond (is_leaf v) (leaf_fault tables before v) None in
    passed (fits (reach tables v.path)) k (passing (fits (payoff_one tables v)) k (passing (fits (payoff_two tables v)) k rest)) first
    ∙ not_passed (fits (payoff_one tables v)) k (passing (fits (payoff_two tables v)) k rest) fault fails is
node_some_by tables before v fault (two_past first second fails is) =
    let k = Scale (number_after before) in
    let rest : Option GameFault = cond (is_leaf v) (leaf_fault tables before v) None in
    passed (fits (reach tables v.path)) k (passing (fits (payoff_one tables v)) k (passing (fits (payoff_two tables v)) k rest)) first
    ∙ passed (fits (payoff_one tables v)) k (passing (fits (payoff_two tables v)) k rest) second ∙ not_passed (fits (payoff_two tables v)) k rest fault fails is
node_some_by tables before v fault (sum_past path leaf fails is) =
    at_leaf tables before v path leaf ∙ not_passed (fits (paid_together tables v)) (Scale (number_after before)) (same_test tables before v) fault fails is
node_some_by tables before v fault (not_constant_sum path leaf sum differs is) =
    let paid : Fraction = paid_together tables v in
    let first : Fraction = sum_so_far tables (before ++ (v ∷ [])) in
    at_leaf tables before v path leaf ∙ sum_passed tables before v sum
    ∙ not_passed (is_same paid first) (NotConstantSum (number_after before)) (expected_test tables before v) fault (not_same paid first differs) is
node_some_by tables before v fault (expected_past path leaf sum same fails is) =
    at_leaf tables before v path leaf ∙ same_passed tables before v sum same
    ∙ not_passed (fits (expected tables v)) (Scale (number_after before)) (unit_test tables before v) fault fails is
node_some_by tables before v fault (unit_past path leaf sum same within over is) =
    let unit : ℕ = unit_so_far tables (before ++ (v ∷ [])) in
    at_leaf tables before v path leaf ∙ expected_passed tables before v sum same within
    ∙ not_passed (nat_le unit most) (Scale (number_after before)) None fault (lt-leb unit most over) is

-- the test of nodes tells exactly where reach, payoffs, their sum or the unit pass the limit or the sum is another
pub node_walk : (tables : Tables) → IsWalk (node_fault tables) (NodePasses tables) (NodeFails tables)
node_walk tables = record {
  passes = node_none tables;
  none = λ before v pass. node_none_by tables before v (is_leaf v) refl pass;
  fails = λ before v fault earlier e. node_some tables before v fault e;
  some = node_some_by tables;
}

-- what is tested at a leaf alone
leaf_passes : (b : Bool) (over : Bool) → not (b && over) ≡ true → b ≡ true → over ≡ false
leaf_passes b over test leaf = ap (λ t. t && over) (sym leaf) ∙ not-true (b && over) test

-- the test of the sum in the unit tells exactly the first leaf, where the size passes the limit
pub whole_sum_walk : (size : ℕ) → IsWalk (whole_sum_fault size) (WholeSumPasses size) (WholeSumFails size)
whole_sum_walk size = record {
  passes = λ before v e leaf. ltb-false most size (leaf_passes (is_leaf v) (nat_lt most size)
      (passing_none (not (is_leaf v && nat_lt most size)) (Scale (number_after before)) None e).0 leaf);
  none = λ before v pass. none_by before v (is_leaf v) refl pass;
  fails = λ before v fault earlier e. elim (passing_some (not (is_leaf v && nat_lt most size)) (Scale (number_after before)) None fault e) [
    | inl here ↦
        let parts = and_parts (is_leaf v) (nat_lt most size) (not-false (is_leaf v && nat_lt most size) here.0) in
        let past : most < size = ltb-true most size parts.1 in
        record {
          leaf = parts.0;
          first = each-all (λ w. is_leaf w ≡ false) before
              (λ b w a p. false_from_ne_true (is_leaf w) (λ leaf. let within : size ≤ most = earlier b w a p leaf in absurd (omega arith)));
          past = past;
          fault_is = here.1;
        }
    | inr none ↦ let no = none.1 in cc
  ];
  some = λ before v fault fails.
      not_passed (not (is_leaf v && nat_lt most size)) (Scale (number_after before)) None fault
      (ap not (and_from (is_leaf v) (nat_lt most size) fails.leaf (lt-ltb most size fails.past))) fails.fault_is;
}
  where
    none_by : (before : List Visit) (v : Visit) (b : Bool) → is_leaf v ≡ b → WholeSumPasses size before v
        → whole_sum_fault size before v ≡ None
    none_by before v true leaf pass =
        passed (not (is_leaf v && nat_lt most size)) (Scale (number_after before)) None
        (ap not (ap (λ b. b && nat_lt most size) leaf ∙ le-ltb most size (pass leaf)))
    none_by before v false inner pass = passed (not (is_leaf v && nat_lt most size)) (Scale (number_after before)) None
        (ap (λ b. not (b && nat_lt most size)) inner)

-- the test of the mass tells exactly the leaf at which the mass so far passes the limit
pub mass_walk : (tables : Tables) (unit : ℕ)
    → IsWalk (mass_fault tables unit) (MassPasses tables unit) (MassFails tables unit)
mass_walk tables unit = record {
  passes = λ before v e leaf.
      let mass : ℕ = mass_so_far tables unit (before ++ (v ∷ [])) in
      let test = not-true (is_leaf v && nat_lt most mass) (passing_none (not (is_leaf v && nat_lt most mass)) (Scale (number_after before)) None e).0 in
      ltb-false most mass (ap (λ b. b && nat_lt most mass) (sym leaf) ∙ test);
  none = λ before v pass. mass_none_by before v (is_leaf v) refl pass;
  fails = λ before v fault earlier e.
      let mass : ℕ = mass_so_far tables unit (before ++ (v ∷ [])) in
      elim (passing_some (not (is_leaf v && nat_lt most mass)) (Scale (number_after before)) None fault e) [
        | inl here ↦
            let parts = and_parts (is_leaf v) (nat_lt most mass) (not-false (is_leaf v && nat_lt most mass) here.0) in
            record { leaf = parts.0; past = ltb-true most mass parts.1; fault_is = here.1 }
        | inr none ↦ let no = none.1 in cc
      ];
  some = λ before v fault fails.
      let mass : ℕ = mass_so_far tables unit (before ++ (v ∷ [])) in
      not_passed (not (is_leaf v && nat_lt most mass)) (Scale (number_after before)) None fault
      (ap not (and_from (is_leaf v) (nat_lt most mass) fails.leaf (lt-ltb most mass fails.past))) fails.fault_is;
}
  where
    mass_none_by : (before : List Visit) (v : Visit) (b : Bool) → is_leaf v ≡ b → MassPasses tables unit before v
        → mass_fault tables unit before v ≡ None
    mass_none_by before v true leaf pass =
        let mass : ℕ = mass_so_far tables unit (before ++ (v ∷ [])) in
        passed (not (is_leaf v && nat_lt most mass)) (Scale (number_after before)) None
        (ap not (ap (λ b. b && nat_lt most mass) leaf ∙ le-ltb most mass (pass leaf)))
    mass_none_by before v false inner pass =
        let mass : ℕ = mass_so_far tables unit (before ++ (v ∷ [])) in
        passed (not (is_leaf v && nat_lt most mass)) (Scale (number_after before)) None (ap (λ b. not (b && nat_lt most mass)) inner)
