-- What holds at each node of one-card poker, with its path.
use Rattle.std.proofs.Common.{◌≡◌, ℕ, zero, suc, ◌+◌, ◌-◌, ◌*◌, ◌≤◌, true, false, cond, List, [], ◌∷◌, get_or, length, map, refl, sym, ap, ◌∙◌, subst, arith}
use Rattle.std.specs.Prelude.{pos, negsuc, nat_le, All}
use Prim.Native.Nat.{◌∣◌}
use Rattle.std.proofs.lemmas.Bool.{le-leb}
use Rattle.std.proofs.lemmas.List.{length-map}
use Rattle.std.proofs.lemmas.List.FromFn.{length-range_with_len}
use Rattle.std.proofs.lemmas.List.Elements.{All-nil, All-cons, All-append}
use Rattle.std.proofs.lemmas.Nat.Gcd.{dvd_refl, dvd_trans}
use Rattle.std.proofs.Math.Nat.{one-dvd, dvd-mul_right}
use Rattle.def_tree.specs.declared.Node.{Node}
use Rattle.def_tree.specs.declared.Kind.{Kind}
use Rattle.def_tree.specs.declared.Kind.TheVariants as kinds
use Rattle.def_tree.specs.declared.Kind.TheVariants.{Chance, Leaf}
use Rattle.def_tree.specs.declared.Player.{Player}
use Rattle.def_tree.specs.declared.Player.TheVariants.{One, Two}
use Rattle.def_tree.specs.Tree.{Forest, bare, grown}
use Rattle.def_tree.specs.Rules.{is_same_kind}
use Rattle.def_file.specs.Content.{Record, chance_record, player_record, leaf_record}
use Rattle.def_file.specs.Faults.{no_set}
use Rattle.def_file.specs.Entries.{node_of, set_table}
use Rattle.def_fraction.specs.Divisors.{gcd}
use Rattle.def_fraction.specs.Fraction.{Fraction, fraction_of, product_of, sum_of, whole_number, zero_fraction}
use Rattle.def_game_paths.specs.Paths.{Choice, Move, Visit, own_choices, visits, visits_from}
use Rattle.def_game_paths.specs.Recall.{is_personal, past}
use Rattle.def_game_scale.specs.Tables.{PayoffPair, Tables, path_payoff, payoffs_of, probabilities, probability, reach}
use Rattle.def_canon.specs.Described.{Each}
use Rattle.def_canon.specs.Poker.{after_bet, after_check, answer, cards, deal_one, deal_two, dealt_card, entries, facing_bet, hand, hands, higher, opening_set}
use Rattle.def_canon.specs.Poker.{others, rounds_with_cards, wins_one, wins_two}
use Rattle.def_canon.proofs.Cards.{AreCards, cards_are, others_count}
use Rattle.def_canon.proofs.Described.{above}
use Rattle.def_poker.proofs.Parts.{IsPart, no_part, product_part}
use Rattle.def_poker.proofs.Chances.{AreEach}
use Rattle.def_poker.proofs.Known.{Known, chances_known, tables_with}
use Rattle.def_poker.proofs.Trees.{called_tree, card_trees, each_split, hand_tree, hand_trees, poker_tree}

-- ---- what is paid at a node
pub data Prize : Type 0 where
  nobody : Prize
  one_gets_one : Prize
  two_gets_one : Prize
  one_gets_two : Prize
  two_gets_two : Prize

abbrev pub prize_pair : Prize → PayoffPair
prize_pair nobody = record { one = zero_fraction; two = zero_fraction }
prize_pair one_gets_one = record { one = whole_number (pos 1); two = whole_number (negsuc 0) }
prize_pair two_gets_one = record { one = whole_number (negsuc 0); two = whole_number (pos 1) }
prize_pair one_gets_two = record { one = whole_number (pos 2); two = whole_number (negsuc 1) }
prize_pair two_gets_two = record { one = whole_number (negsuc 1); two = whole_number (pos 2) }

pub zero_twice : sum_of zero_fraction zero_fraction ≡ zero_fraction
unfolding fraction_of gcd
zero_twice = refl

chance_part : (k : ℕ) (ps : List Fraction) (i : ℕ) → 1 ≤ k → AreEach k ps → IsPart k 1 (get_or ps i zero_fraction)
chance_part k [] i some are = no_part k 1
chance_part k (p ∷ ps) zero some are =
    subst (IsPart k 1) (sym are.0) (record { few = omega arith; divides = dvd_refl k; some = some })
chance_part k (p ∷ ps) (suc i) some are = chance_part k ps i some are.1

dealt_each : (k : ℕ) (js : List ℕ) → AreEach k (map (λ a. a.chance) (map (dealt_card k) js))
dealt_each k [] = tt
dealt_each k (j ∷ js) = (refl, dealt_each k js)

module _ (n : ℕ) where
  abbrev pub told : Tables
  told = tables_with (entries n)

  abbrev pub node_at : Record → Node
  node_at = node_of (entries n)

  -- a way to a node: chance comes so far with one of m equal parts at the most, and nothing is paid on it
  pub record Way (m : ℕ) (path : List Move) : Type 0 where
    pub reached : IsPart m 1 (reach told path)
    pub one : path_payoff (λ p. p.one) told path ≡ zero_fraction
    pub two : path_payoff (λ p. p.two) told path ≡ zero_fraction

  still : (m : ℕ) (path : List Move) (node : Node) (a : ℕ) → is_same_kind Chance node.kind ≡ false → node.outcome ≡ 0
      → Way m path → Way m (record { node = node; action = a } ∷ path)
  still m path node a other null w = record {
    reached = subst (λ b. IsPart m 1 (cond b (product_of (reach told path) (probability told node.set a)) (reach told path))) (sym other) w.reached;
    one = ap (λ k. sum_of (path_payoff (λ p. p.one) told path) (payoffs_of told k).one) null ∙ ap (λ f. sum_of f zero_fraction) w.one ∙ zero_twice;
    two = ap (λ k. sum_of (path_payoff (λ p. p.two) told path) (payoffs_of told k).two) null ∙ ap (λ f. sum_of f zero_fraction) w.two ∙ zero_twice;
  }

  dealt : (m k : ℕ) (path : List Move) (node : Node) (a : ℕ) → is_same_kind Chance node.kind ≡ true → node.outcome ≡ 0 → 1 ≤ k
      → AreEach k (probabilities told node.set) → Way m path → Way (m * k) (record { node = node; action = a } ∷ path)
  dealt m k path node a chance null some are w = record {
    reached = subst (λ b. IsPart (m * k) 1 (cond b (product_of (reach told path) (probability told node.set a)) (reach told path))) (sym chance)
        (product_part m 1 k 1 (reach told path) (probability told node.set a) w.reached (chance_part k (probabilities told node.set) (a - 1) some are));
    one = ap (λ k. sum_of (path_payoff (λ p. p.one) told path) (payoffs_of told k).one) null ∙ ap (λ f. sum_of f zero_fraction) w.one ∙ zero_twice;
    two = ap (λ k. sum_of (path_payoff (λ p. p.two) told path) (payoffs_of told k).two) null ∙ ap (λ f. sum_of f zero_fraction) w.two ∙ zero_twice;
  }

  finer : (m k : ℕ) (path : List Move) → m ∣ k → Way m path → Way k path
  finer m k path divides w = record {
    reached = record { few = w.reached.few; divides = dvd_trans (reach told path).den w.reached.divides divides; some = w.reached.some };
    one = w.one;
    two = w.two;
  }

  -- the whole: each pair of cards is one of so many
  abbrev pub pairs : ℕ
  pairs = n * (n - 1)

  -- ---- what a player chose before a set, by the set's number in the file
  abbrev answer_past : ℕ → List Choice
  answer_past i = record { set = (node_at (player_record 1 (opening_set i))).set; action = 1 } ∷ []

  abbrev past_by : ℕ → List Choice
  past_by number = cond (nat_le number n) [] (answer_past (number - n))

  abbrev pub past_at : Kind → ℕ → List Choice
  past_at kinds.One set = past_by (get_or (set_table kinds.One (entries n)) (set - 1) no_set).number
  past_at kinds.Two set = []
  past_at kinds.Chance set = []
  past_at kinds.Leaf set = []

  past_at_opening : (i : ℕ) → i ≤ n → Known (entries n) (player_record 1 (opening_set i))
      → past_at kinds.One (node_at (player_record 1 (opening_set i))).set ≡ []
  unfolding opening_set
  past_at_opening i high k = ap (λ e. past_by e.number) (k.set refl) ∙ ap (λ b. cond b [] (answer_past (i - n))) (le-leb i n high)

  past_at_answer : (i : ℕ) → 1 ≤ i → Known (entries n) (player_record 1 (answer n i))
      → past_at kinds.One (node_at (player_record 1 (answer n i))).set ≡ answer_past i
  unfolding answer
  past_at_answer i low k =
      let back : n + i - n ≡ i = omega arith in
      ap (λ e. past_by e.number) (k.set refl) ∙ ap (λ b. cond b [] (answer_past (n + i - n))) (above n i low) ∙ ap answer_past back

  -- ---- a node with its path
  pub record Good (v : Visit) : Type 0 where
    pub way : Way pairs v.path
    pub chance : v.node.kind ≡ Chance
        → (k : ℕ) × (1 ≤ k) × (k ≤ 64) × AreEach k (probabilities told v.node.set) × (length (probabilities told v.node.set) ≡ k)
    pub prize : (w : Prize) × (payoffs_of told v.node.outcome ≡ prize_pair w)
    pub remembers : is_personal v.node.kind ≡ true → past v ≡ past_at v.node.kind v.node.set

  leaf_good : (path : List Move) (r : Record) → (node_at r).kind ≡ Leaf → Way pairs path
      → (w : Prize) × (payoffs_of told (node_at r).outcome ≡ prize_pair w) → Good (record { path = path; node = node_at r })
  leaf_good path r leaf w prize = record {
    way = w;
    chance = λ e. let clash : Leaf ≡ Chance = sym leaf ∙ e in cc;
    prize = prize;
    remembers = λ e. let clash : false ≡ true = ap is_personal (sym leaf) ∙ e in cc;
  }

  prize_one : (p : Player) → Known (entries n) (leaf_record (wins_one p))
      → (w : Prize) × (payoffs_of told (node_at (leaf_record (wins_one p))).outcome ≡ prize_pair w)
  unfolding wins_one
  prize_one One k = (one_gets_one, k.outcome refl)
  prize_one Two k = (two_gets_one, k.outcome refl)

  prize_two : (p : Player) → Known (entries n) (leaf_record (wins_two p))
      → (w : Prize) × (payoffs_of told (node_at (leaf_record (wins_two p))).outcome ≡ prize_pair w)
  unfolding wins_two
  prize_two One k = (one_gets_two, k.outcome refl)
  prize_two Two k = (two_gets_two, k.outcome refl)

  grow : (above : ℕ → List Move) (a : ℕ) (node : Node) (below beside : Forest) → Good (record { path = above a; node = node })
      → All Good (visits_from (λ next. record { node = node; action = next } ∷ above a) 1 below)
      → All Good (visits_from above (a + 1) beside) → All Good (visits_from above a (grown node below beside))
  grow above a node below beside here under later =
      All-cons Good _ _ here (All-append Good (visits_from (λ next. record { node = node; action = next } ∷ above a) 1 below)
      (visits_from above (a + 1) beside) under later)

  none : (above : ℕ → List Move) (a : ℕ) → All Good (visits_from above a bare)
  none above a = All-nil Good

  called_good : (above : ℕ → List Move) (a : ℕ) (player : Record) (folded called : Record) (beside : Forest)
      → is_same_kind Chance (node_at player).kind ≡ false → (node_at player).outcome ≡ 0
      → Good (record { path = above a; node = node_at player })
      → (node_at folded).kind ≡ Leaf → (w : Prize) × (payoffs_of told (node_at folded).outcome ≡ prize_pair w)
      → (node_at called).kind ≡ Leaf → (w : Prize) × (payoffs_of told (node_at called).outcome ≡ prize_pair w)
      → All Good (visits_from above (a + 1) beside)
      → All Good (visits_from above a (called_tree node_at n player folded called beside))
  called_good above a player folded called beside other null here first won second paid later =
      let next : (b : ℕ) → Way pairs (record { node = node_at player; action = b } ∷ above a) =
      λ b. still pairs (above a) (node_at player) b other null here.way in
      grow above a (node_at player) (grown (node_at folded) bare (grown (node_at called) bare bare)) beside here
      (grow (λ b. record { node = node_at player; action = b } ∷ above a) 1 (node_at folded) bare (grown (node_at called) bare bare)
      (leaf_good _ folded first (next 1) won) (All-nil Good)
      (grow (λ b. record { node = node_at player; action = b } ∷ above a) 2 (node_at called) bare bare
      (leaf_good _ called second (next 2) paid) (All-nil Good) (All-nil Good)))
      later

  player_good : (path : List Move) (player : ℕ) (r : Record) → (node_at r).outcome ≡ 0 → ((node_at r).kind ≡ Chance → ⊥) → Way pairs path
      → (is_personal (node_at r).kind ≡ true → own_choices (node_at r).kind path ≡ past_at (node_at r).kind (node_at r).set)
      → Good (record { path = path; node = node_at r })
  player_good path player r null other w remembers = record {
    way = w;
    chance = λ e. absurd (other e);
    prize = (nobody, ap (payoffs_of told) null);
    remembers = remembers;
  }

  hand_good : (i j : ℕ) (above : ℕ → List Move) (a : ℕ) (beside : Forest) → 1 ≤ i → i ≤ n
      → Way pairs (above a) → own_choices kinds.One (above a) ≡ [] → own_choices kinds.Two (above a) ≡ []
      → Each (Known (entries n)) (hand n i j)
      → All Good (visits_from above (a + 1) beside) → All Good (visits_from above a (hand_tree node_at n i j beside))
  unfolding hand facing_bet
  hand_good i j above a beside low high w one two e later =
      let first = player_record 1 (opening_set i) in
      let check = player_record 2 (after_check j) in
      let bet = player_record 2 (after_bet n j) in
      let opened : (b : ℕ) → Way pairs (record { node = node_at first; action = b } ∷ above a) = λ b. still pairs (above a) (node_at first) b refl refl w in
      let checked : (b : ℕ) → Way pairs (record { node = node_at check; action = b } ∷ record { node = node_at first; action = 1 } ∷ above a) =
      λ b. still pairs _ (node_at check) b refl refl (opened 1) in
      let behind_bet = e.1.1.1.1.1.1 in
      let answered = called_tree node_at n (player_record 1 (answer n i)) (leaf_record (wins_one Two)) (leaf_record (wins_two (higher i j))) bare in
      let faced = called_tree node_at n (player_record 2 (after_bet n j)) (leaf_record (wins_one One)) (leaf_record (wins_two (higher i j))) bare in
      let shown = grown (node_at (leaf_record (wins_one (higher i j)))) bare answered in
      grow above a (node_at first) (grown (node_at check) shown faced) beside
      (player_good (above a) 1 first refl (λ e. cc) w (λ _. one ∙ sym (past_at_opening i high e.0)))
      (grow (λ b. record { node = node_at first; action = b } ∷ above a) 1 (node_at check) shown faced
      (player_good _ 2 check refl (λ e. cc) (opened 1) (λ _. two))
      (grow (λ b. record { node = node_at check; action = b } ∷ record { node = node_at first; action = 1 } ∷ above a)
      1 (node_at (leaf_record (wins_one (higher i j)))) bare answered
      (leaf_good _ (leaf_record (wins_one (higher i j))) refl (checked 1) (prize_one (higher i j) e.1.1.0)) (All-nil Good)
      (called_good (λ b. record { node = node_at check; action = b } ∷ record { node = node_at first; action = 1 } ∷ above a) 2
      (player_record 1 (answer n i)) (leaf_record (wins_one Two)) (leaf_record (wins_two (higher i j))) bare refl refl
      (player_good _ 1 (player_record 1 (answer n i)) refl (λ e. cc) (checked 2)
      (λ _. ap (λ cs. record { set = (node_at first).set; action = 1 } ∷ cs) one ∙ sym (past_at_answer i low e.1.1.1.0)))
      refl (prize_one Two e.1.1.1.1.0) refl (prize_two (higher i j) e.1.1.1.1.1.0) (All-nil Good)))
      (called_good (λ b. record { node = node_at first; action = b } ∷ above a) 2
      bet (leaf_record (wins_one One)) (leaf_record (wins_two (higher i j))) bare refl refl
      (player_good _ 2 bet refl (λ e. cc) (opened 2) (λ _. two))
      refl (prize_one One behind_bet.1.0) refl (prize_two (higher i j) behind_bet.1.1.0) (All-nil Good)))
      later

  hands_good : (i : ℕ) (js : List ℕ) (above : ℕ → List Move) (a : ℕ) → 1 ≤ i → i ≤ n
      → ((b : ℕ) → Way pairs (above b)) → ((b : ℕ) → own_choices kinds.One (above b) ≡ []) → ((b : ℕ) → own_choices kinds.Two (above b) ≡ [])
      → Each (Known (entries n)) (hands n i js)
      → All Good (visits_from above a (hand_trees node_at n i js))
  unfolding hands
  hands_good i [] above a low high w one two e = none above a
  hands_good i (j ∷ js) above a low high w one two e =
      let both = each_split (Known (entries n)) (hand n i j) (hands n i js) e in
      hand_good i j above a (hand_trees node_at n i js) low high (w a) (one a) (two a) both.0
      (hands_good i js above (a + 1) low high w one two both.1)

  module _ (least : 2 ≤ n) (limit : n ≤ 64) where
    second_chances : (i : ℕ) → Known (entries n) (chance_record (deal_two n i))
        → AreEach (n - 1) (probabilities told (node_at (chance_record (deal_two n i))).set)
    unfolding deal_two
    second_chances i k = subst (AreEach (n - 1)) (sym (chances_known (entries n) _ k refl refl)) (dealt_each (n - 1) (others n i))

    second_count : (i : ℕ) → 1 ≤ i → i ≤ n → Known (entries n) (chance_record (deal_two n i))
        → length (probabilities told (node_at (chance_record (deal_two n i))).set)
        ≡ n - 1
    unfolding deal_two
    second_count i low high k =
        let count = others_count n i low high in
        let rest : length (others n i) ≡ n - 1 = omega (arith, count) in
        ap length (chances_known (entries n) _ k refl refl) ∙ length-map (map (dealt_card (n - 1)) (others n i)) (λ a. a.chance)
        ∙ length-map (others n i) (dealt_card (n - 1)) ∙ rest

    first_chances : Known (entries n) (chance_record (deal_one n)) → AreEach n (probabilities told (node_at (chance_record (deal_one n))).set)
    unfolding deal_one
    first_chances k = subst (AreEach n) (sym (chances_known (entries n) _ k refl refl)) (dealt_each n (cards n))

    first_count : Known (entries n) (chance_record (deal_one n)) → length (probabilities told (node_at (chance_record (deal_one n))).set) ≡ n
    unfolding deal_one
    first_count k = ap length (chances_known (entries n) _ k refl refl) ∙ length-map (map (dealt_card n) (cards n)) (λ a. a.chance)
        ∙ length-map (cards n) (dealt_card n) ∙ length-range_with_len 1 n

    deal_good : (path : List Move) (r : Record) (k : ℕ) → (node_at r).outcome ≡ 0 → (node_at r).kind ≡ Chance → 1 ≤ k → k ≤ 64
        → AreEach k (probabilities told (node_at r).set) → length (probabilities told (node_at r).set) ≡ k → Way pairs path
        → Good (record { path = path; node = node_at r })
    deal_good path r k null chance some few are count w = record {
      way = w;
      chance = λ _. (k, some, few, are, count);
      prize = (nobody, ap (payoffs_of told) null);
      remembers = λ e. let clash : false ≡ true = ap is_personal (sym chance) ∙ e in cc;
    }

    cards_good : (is : List ℕ) (above : ℕ → List Move) (a : ℕ) → AreCards n is
        → ((b : ℕ) → Way n (above b)) → ((b : ℕ) → own_choices kinds.One (above b) ≡ []) → ((b : ℕ) → own_choices kinds.Two (above b) ≡ [])
        → Each (Known (entries n)) (rounds_with_cards n is)
        → All Good (visits_from above a (card_trees node_at n is))
    unfolding rounds_with_cards
    cards_good [] above a are w one two e = none above a
    cards_good (i ∷ is) above a are w one two e =
        let both = each_split (Known (entries n)) (hands n i (others n i)) (rounds_with_cards n is) e.1 in
        let deal = chance_record (deal_two n i) in
        let each = second_chances i e.0 in
        grow above a (node_at deal) (hand_trees node_at n i (others n i)) (card_trees node_at n is)
        (deal_good (above a) deal (n - 1) refl refl (omega arith) (omega arith) each (second_count i are.0.0 are.0.1 e.0)
        (finer n pairs (above a) (dvd-mul_right n (n - 1)) (w a)))
        (hands_good i (others n i) (λ b. record { node = node_at deal; action = b } ∷ above a) 1 are.0.0 are.0.1
        (λ b. dealt n (n - 1) (above a) (node_at deal) b refl refl (omega arith) each (w a)) (λ b. one a) (λ b. two a) both.0)
        (cards_good is above (a + 1) are.1 w one two both.1)

    start : Way 1 []
    start = record { reached = record { few = omega arith; divides = one-dvd 1; some = omega arith }; one = refl; two = refl }

    pub all_good : Each (Known (entries n)) (entries n) → All Good (visits (poker_tree node_at n))
    unfolding entries
    all_good e =
        let deal = chance_record (deal_one n) in
        let each = first_chances e.0 in
        let whole : 1 * n ≡ n = omega arith in
        grow (λ _. []) 1 (node_at deal) (card_trees node_at n (cards n)) bare
        (deal_good [] deal n refl refl (omega arith) limit each (first_count e.0) (finer 1 pairs [] (one-dvd pairs) start))
        (cards_good (cards n) (λ b. record { node = node_at deal; action = b } ∷ []) 1 (cards_are n)
        (λ b. subst (λ m. Way m (record { node = node_at deal; action = b } ∷ [])) whole (dealt 1 n [] (node_at deal) b refl refl (omega arith) each start))
        (λ b. refl) (λ b. refl) e.1)
        (All-nil Good)
