-- What two plans pay is between the least payoff of a leaf and the greatest.
use Rattle.std.proofs.Common.{◌≡◌, ℕ, zero, suc, ◌*◌, ◌≤◌, List, get_or, ap, sym, subst, ◌∙◌, arith}
use Rattle.std.specs.Prelude.{ℤ, pos, negsuc, ◌*ℤ◌, ◌≤ℤ◌, All}
use Prim.Native.Nat.{◌∣◌}
use Rattle.std.proofs.lemmas.Int.{ints}
use Rattle.std.proofs.lemmas.List.{get_or-map, length-map}
use Rattle.std.proofs.lemmas.List.Elements.{All-filter, All-tail}
use Rattle.std.proofs.Math.Nat.{one-le-mul}
use Rattle.def_sums.specs.Sum.{sum_over}
use Rattle.def_sums.proofs.RingLaws.{*ℤ_assoc, *ℤ_comm, *ℤ-mono, *ℤ-mono_right, *ℤ-cancel}
use Rattle.def_sums.proofs.SumLaws.{sum_over-mono, sum_over-factor}
use Rattle.def_tree.specs.Tree.{Forest}
use Rattle.def_fraction.specs.Fraction.{Fraction}
use Rattle.def_game_paths.specs.Paths.{Visit, is_leaf, leaf_visits, visits}
use Rattle.def_game_scale.specs.Tables.{Tables, game_sum, payoff_one, reach}
use Rattle.def_game_scale.specs.Scale.{all_expected, all_fractions, expected, game_unit, weight_of}
use Rattle.def_game_scale.proofs.Expected.{fractions-lowest}
use Rattle.def_game_scale.proofs.Units.{den-divides, whole-weight}
use Rattle.def_plan.specs.Plan.{IsPlan}
use Rattle.def_plan.specs.Payoff.{pay}
use Rattle.def_sequence_form.specs.Form.{form_of_game, information_sets}
use Rattle.def_constant_sum.specs.Expected.{IsCompleteGame, numbers_at}
use Rattle.def_constant_sum.proofs.Lowest.{payoff_of-lowest, reach-lowest}
use Rattle.def_constant_sum.proofs.Times.{reduced-times, swap-first}
use Rattle.def_constant_sum.proofs.Reaches.{IsWhole, common, common_some, dealt_in_all, dealt_to, share, whole_everywhere}
use Rattle.def_constant_sum.proofs.Payments.{pay_along}
use Rattle.def_tree.specs.declared.Player.TheVariants.{One}
use Rattle.def_tree.specs.declared.Kind.TheVariants as kinds
use Rattle.def_closing_games.specs.Range.{HasNoNegativeChance}
use Rattle.def_closing_games.specs.Laws.{PayoffsBoundPay}
use Rattle.def_closing_games.proofs.Signs.{reaches_are_positive}

-- ---- at one leaf: k is chance's share of the leaf in units of `common`, and w is the unit times reach and payoff
crossed : (a b c x : ℤ) → (a *ℤ b) *ℤ (x *ℤ c) ≡ (c *ℤ a) *ℤ (x *ℤ b)
crossed a b c x = simp (*ℤ_assoc, *ℤ_comm, swap-first)

grouped : (n r f m : ℤ) → n *ℤ ((r *ℤ f) *ℤ m) ≡ (r *ℤ n) *ℤ (f *ℤ m)
grouped n r f m = ap (λ z. n *ℤ z) (*ℤ_assoc r f m) ∙ sym (*ℤ_assoc n r (f *ℤ m)) ∙ ap (λ z. z *ℤ (f *ℤ m)) (*ℤ_comm n r)

leaf_is : (k : ℕ) (w f : ℤ) (r unit common d e : ℕ)
    → w *ℤ pos (d * e) ≡ (pos r *ℤ f) *ℤ pos unit → pos k *ℤ pos d ≡ pos r *ℤ pos common
    → pos (d * e) *ℤ (pos common *ℤ w) ≡ pos (k * d) *ℤ (f *ℤ pos unit)
leaf_is k w f r unit common d e weight share' =
    swap-first (pos (d * e)) (pos common) w
    ∙ ap (λ z. pos common *ℤ z) (*ℤ_comm (pos (d * e)) w ∙ weight)
    ∙ grouped (pos common) (pos r) f (pos unit)
    ∙ ap (λ z. z *ℤ (f *ℤ pos unit)) (sym share')

leaf_from : (k : ℕ) (w f low : ℤ) (r unit common d e : ℕ) → 1 ≤ d → 1 ≤ e
    → w *ℤ pos (d * e) ≡ (pos r *ℤ f) *ℤ pos unit → pos k *ℤ pos d ≡ pos r *ℤ pos common
    → (low *ℤ pos e) ≤ℤ (f *ℤ pos unit) → (low *ℤ pos k) ≤ℤ (pos common *ℤ w)
leaf_from k w f low r unit common d e some_d some_e weight share' le =
    let is = leaf_is k w f r unit common d e weight share' in
    let bound : pos (d * e) *ℤ (low *ℤ pos k) ≡ pos (k * d) *ℤ (low *ℤ pos e) = crossed (pos d) (pos e) (pos k) low in
    *ℤ-cancel (d * e) (low *ℤ pos k) (pos common *ℤ w) (one-le-mul some_d some_e)
    (omega (arith, ints, is, bound, *ℤ-mono (k * d) (low *ℤ pos e) (f *ℤ pos unit) le))

leaf_to : (k : ℕ) (w f high : ℤ) (r unit common d e : ℕ) → 1 ≤ d → 1 ≤ e
    → w *ℤ pos (d * e) ≡ (pos r *ℤ f) *ℤ pos unit → pos k *ℤ pos d ≡ pos r *ℤ pos common
    → (f *ℤ pos unit) ≤ℤ (high *ℤ pos e) → (pos common *ℤ w) ≤ℤ (high *ℤ pos k)
leaf_to k w f high r unit common d e some_d some_e weight share' le =
    let is = leaf_is k w f r unit common d e weight share' in
    let bound : pos (d * e) *ℤ (high *ℤ pos k) ≡ pos (k * d) *ℤ (high *ℤ pos e) = crossed (pos d) (pos e) (pos k) high in
    *ℤ-cancel (d * e) (pos common *ℤ w) (high *ℤ pos k) (one-le-mul some_d some_e)
    (omega (arith, ints, is, bound, *ℤ-mono (k * d) (f *ℤ pos unit) (high *ℤ pos e) le))

times_numbers : (c z : ℤ) (m : ℕ) → c *ℤ (z *ℤ pos m) ≡ (c *ℤ z) *ℤ pos m
times_numbers c z m = sym (*ℤ_assoc c z (pos m))

no_negative : (k r common d : ℕ) → 1 ≤ d → negsuc k *ℤ pos d ≡ pos r *ℤ pos common → ⊥
no_negative k r common (suc d) some e = omega (arith, ints)
no_negative k r common zero some e = absurd (omega arith)

at_leaf_from : (part rn w f low : ℤ) (unit common d e m : ℕ) → pos 0 ≤ℤ rn → 1 ≤ d → 1 ≤ e
    → w *ℤ pos (d * e) ≡ (rn *ℤ f) *ℤ pos unit → part *ℤ pos d ≡ rn *ℤ pos common
    → (low *ℤ pos e) ≤ℤ (f *ℤ pos unit) → (low *ℤ (part *ℤ pos m)) ≤ℤ (pos common *ℤ (w *ℤ pos m))
at_leaf_from part (negsuc r) w f low unit common d e m positive some_d some_e weight share' le = absurd (omega (arith, ints))
at_leaf_from (negsuc k) (pos r) w f low unit common d e m positive some_d some_e weight share' le = absurd (no_negative k r common d some_d share')
at_leaf_from (pos k) (pos r) w f low unit common d e m positive some_d some_e weight share' le =
    let more = *ℤ-mono_right m (low *ℤ pos k) (pos common *ℤ w) (leaf_from k w f low r unit common d e some_d some_e weight share' le) in
    subst (λ z. z ≤ℤ (pos common *ℤ (w *ℤ pos m))) (sym (times_numbers low (pos k) m))
    (subst (λ z. ((low *ℤ pos k) *ℤ pos m) ≤ℤ z) (sym (times_numbers (pos common) w m)) more)

at_leaf_to : (part rn w f high : ℤ) (unit common d e m : ℕ) → pos 0 ≤ℤ rn → 1 ≤ d → 1 ≤ e
    → w *ℤ pos (d * e) ≡ (rn *ℤ f) *ℤ pos unit → part *ℤ pos d ≡ rn *ℤ pos common
    → (f *ℤ pos unit) ≤ℤ (high *ℤ pos e) → (pos common *ℤ (w *ℤ pos m)) ≤ℤ (high *ℤ (part *ℤ pos m))
at_leaf_to part (negsuc r) w f high unit common d e m positive some_d some_e weight share' le = absurd (omega (arith, ints))
at_leaf_to (negsuc k) (pos r) w f high unit common d e m positive some_d some_e weight share' le = absurd (no_negative k r common d some_d share')
at_leaf_to (pos k) (pos r) w f high unit common d e m positive some_d some_e weight share' le =
    let more = *ℤ-mono_right m (pos common *ℤ w) (high *ℤ pos k) (leaf_to k w f high r unit common d e some_d some_e weight share' le) in
    subst (λ z. (pos common *ℤ (w *ℤ pos m)) ≤ℤ z) (sym (times_numbers high (pos k) m))
    (subst (λ z. z ≤ℤ ((high *ℤ pos k) *ℤ pos m)) (sym (times_numbers (pos common) w m)) more)

-- ---- over all leaves
module _ (tables : Tables) (tree : Forest) (game : IsCompleteGame tables tree) (signs : HasNoNegativeChance tables tree)
    (root_one root_two : ℕ) (x y : List ℕ) (p : IsPlan (information_sets kinds.One tree) root_one x) (q : IsPlan (information_sets kinds.Two tree) root_two y)
  where
    abbrev unit : ℕ
    unit = game_unit tables tree

    abbrev all : ℕ
    all = common tables tree game

    abbrev weighed : Visit → ℤ
    weighed v = weight_of unit (expected tables v) *ℤ pos (numbers_at tree x y v)

    abbrev dealt_at : Visit → ℤ
    dealt_at v = dealt_to tables tree game root_one root_two x y p q v.path

    units_divide : All (λ v. (expected tables v).den ∣ unit) (leaf_visits tree)
    units_divide k d there =
        let Divides : Fraction → Type 0 = λ f. f.den ∣ unit in
        let every : All Divides (all_expected tables tree) =
        All-tail Divides (game_sum tables tree) (all_expected tables tree)
        (den-divides (all_fractions tables tree) (fractions-lowest tables tree game.fractions)) in
        let here = every k (expected tables d) (omega (arith, length-map (leaf_visits tree) (expected tables))) in
        rw (get_or-map (expected tables) (leaf_visits tree) k d (expected tables d) there) at here

    wholes : All (λ v. IsWhole tables tree game v.path) (leaf_visits tree)
    wholes = All-filter is_leaf (λ v. IsWhole tables tree game v.path) (visits tree) (whole_everywhere tables tree game)

    positives : All (λ v. pos 0 ≤ℤ (reach tables v.path).num) (leaf_visits tree)
    positives = All-filter is_leaf (λ v. pos 0 ≤ℤ (reach tables v.path).num) (visits tree) (reaches_are_positive tables tree game.game_tree.tree signs)

    -- what the facts of a leaf are
    pub record LeafFacts (v : Visit) : Type 0 where
      pub some_d : 1 ≤ (reach tables v.path).den
      pub some_e : 1 ≤ (payoff_one tables v).den
      pub positive : pos 0 ≤ℤ (reach tables v.path).num
      pub weight : weight_of unit (expected tables v) *ℤ pos ((reach tables v.path).den * (payoff_one tables v).den)
          ≡ ((reach tables v.path).num *ℤ (payoff_one tables v).num) *ℤ pos unit
      pub shared : share tables tree game v.path *ℤ pos (reach tables v.path).den ≡ (reach tables v.path).num *ℤ pos all

    facts : All LeafFacts (leaf_visits tree)
    facts k d there =
        let v : Visit = get_or (leaf_visits tree) k d in
        let some_d : 1 ≤ (reach tables v.path).den = (reach-lowest tables game.fractions v.path).positive in
        let some_e : 1 ≤ (payoff_one tables v).den = (payoff_of-lowest tables game.fractions One v).positive in
        record {
          some_d = some_d;
          some_e = some_e;
          positive = positives k d there;
          weight =
              reduced-times ((reach tables v.path).num *ℤ (payoff_one tables v).num) ((reach tables v.path).den * (payoff_one tables v).den) (pos unit)
              (weight_of unit (expected tables v))
              (one-le-mul some_d some_e) (whole-weight unit (expected tables v) (units_divide k d there));
          shared = whole-weight all (reach tables v.path) (wholes k d there);
        }

    all_paid : sum_over weighed (leaf_visits tree) ≡ pay (form_of_game tables tree).leaves x y
    all_paid = sym (pay_along tables tree x y unit (leaf_visits tree))

    all_dealt : sum_over dealt_at (leaf_visits tree) ≡ pos all *ℤ pos (root_one * root_two)
    all_dealt = dealt_in_all tables tree game root_one root_two x y p q

    pays_at_least : (low : ℤ) → All (λ leaf. (low *ℤ pos (payoff_one tables leaf).den) ≤ℤ ((payoff_one tables leaf).num *ℤ pos unit)) (leaf_visits tree)
        → (pos (root_one * root_two) *ℤ low) ≤ℤ pay (form_of_game tables tree).leaves x y
    pays_at_least low least =
        let each : All (λ v. (low *ℤ dealt_at v) ≤ℤ (pos all *ℤ weighed v)) (leaf_visits tree) = λ k d there.
        let v : Visit = get_or (leaf_visits tree) k d in
        let fact : LeafFacts v = facts k d there in
        at_leaf_from (share tables tree game v.path) (reach tables v.path).num (weight_of unit (expected tables v)) (payoff_one tables v).num low unit all
        (reach tables v.path).den (payoff_one tables v).den (numbers_at tree x y v)
        fact.positive fact.some_d fact.some_e fact.weight fact.shared (least k d there) in
        let sum = sum_over-mono (λ v. low *ℤ dealt_at v) (λ v. pos all *ℤ weighed v) (leaf_visits tree) each in
        between low (pay (form_of_game tables tree).leaves x y) (sum_over (λ v. low *ℤ dealt_at v) (leaf_visits tree))
        (sum_over (λ v. pos all *ℤ weighed v) (leaf_visits tree)) all (root_one * root_two) (common_some tables tree game)
        (sum_over-factor low dealt_at (leaf_visits tree) ∙ ap (λ z. low *ℤ z) all_dealt)
        (sum_over-factor (pos all) weighed (leaf_visits tree) ∙ ap (λ z. pos all *ℤ z) all_paid) sum
      where
        between : (low paid a b : ℤ) (n roots : ℕ) → 1 ≤ n → a ≡ low *ℤ (pos n *ℤ pos roots) → b ≡ pos n *ℤ paid → a ≤ℤ b → (pos roots *ℤ low) ≤ℤ paid
        between low paid a b n roots some is_a is_b le =
            let turn : pos n *ℤ (pos roots *ℤ low) ≡ low *ℤ (pos n *ℤ pos roots) = sym (*ℤ_assoc (pos n) (pos roots) low) ∙ *ℤ_comm (pos n *ℤ pos roots) low in
            *ℤ-cancel n (pos roots *ℤ low) paid some (subst (λ z. z ≤ℤ (pos n *ℤ paid)) (is_a ∙ sym turn) (subst (λ z. a ≤ℤ z) is_b le))

    pays_at_most : (high : ℤ) → All (λ leaf. ((payoff_one tables leaf).num *ℤ pos unit) ≤ℤ (high *ℤ pos (payoff_one tables leaf).den)) (leaf_visits tree)
        → pay (form_of_game tables tree).leaves x y ≤ℤ (pos (root_one * root_two) *ℤ high)
    pays_at_most high most =
        let each : All (λ v. (pos all *ℤ weighed v) ≤ℤ (high *ℤ dealt_at v)) (leaf_visits tree) = λ k d there.
        let v : Visit = get_or (leaf_visits tree) k d in
        let fact : LeafFacts v = facts k d there in
        at_leaf_to (share tables tree game v.path) (reach tables v.path).num (weight_of unit (expected tables v)) (payoff_one tables v).num high unit all
        (reach tables v.path).den (payoff_one tables v).den (numbers_at tree x y v)
        fact.positive fact.some_d fact.some_e fact.weight fact.shared (most k d there) in
        let sum = sum_over-mono (λ v. pos all *ℤ weighed v) (λ v. high *ℤ dealt_at v) (leaf_visits tree) each in
        between high (pay (form_of_game tables tree).leaves x y) (sum_over (λ v. high *ℤ dealt_at v) (leaf_visits tree))
        (sum_over (λ v. pos all *ℤ weighed v) (leaf_visits tree)) all (root_one * root_two) (common_some tables tree game)
        (sum_over-factor high dealt_at (leaf_visits tree) ∙ ap (λ z. high *ℤ z) all_dealt)
        (sum_over-factor (pos all) weighed (leaf_visits tree) ∙ ap (λ z. pos all *ℤ z) all_paid) sum
      where
        between : (high paid a b : ℤ) (n roots : ℕ) → 1 ≤ n → a ≡ high *ℤ (pos n *ℤ pos roots) → b ≡ pos n *ℤ paid → b ≤ℤ a → paid ≤ℤ (pos roots *ℤ high)
        between high paid a b n roots some is_a is_b le =
            let turn : pos n *ℤ (pos roots *ℤ high) ≡ high *ℤ (pos n *ℤ pos roots) =
            sym (*ℤ_assoc (pos n) (pos roots) high) ∙ *ℤ_comm (pos n *ℤ pos roots) high in
            *ℤ-cancel n paid (pos roots *ℤ high) some (subst (λ z. (pos n *ℤ paid) ≤ℤ z) (is_a ∙ sym turn) (subst (λ z. z ≤ℤ a) is_b le))

-- what any two plans pay
pub payoffs_bound_pay : PayoffsBoundPay
payoffs_bound_pay tables tree low high game signs within = record {
  at_least = λ root_one root_two x y p q. pays_at_least tables tree game signs root_one root_two x y p q low within.at_least;
  at_most = λ root_one root_two x y p q. pays_at_most tables tree game signs root_one root_two x y p q high within.at_most;
}
