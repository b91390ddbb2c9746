-- The range of what plans pay is a spread of each set: two plans lead to the set, and choose there one action and another.
use Rattle.std.proofs.Common.{◌≡◌, ℕ, zero, suc, ◌+◌, ◌-◌, ◌*◌, ◌≤◌, ◌<◌, Bool, true, false, cond, eqb, List}
use Rattle.std.proofs.Common.{[], ◌∷◌, length, drop, get_or, slice_index, All, arith, ap, ◌∙◌, refl, subst, ⊎_elim, Some, add-one}
use Rattle.std.specs.Prelude.{ℤ, pos, ◌+ℤ◌, ◌-ℤ◌, ◌*ℤ◌, ◌≤ℤ◌, slice_get}
use Rattle.std.proofs.lemmas.Int.{ints, by_lt_z}
use Rattle.std.proofs.lemmas.Bool.{cases_lt, eq-eqb}
use Rattle.std.proofs.lemmas.List.Elements.{All-head, All-tail}
use Rattle.def_sums.specs.Sum.{nat_sum_over}
use Rattle.def_sums.proofs.Ranges.{All-range, range-All}
use Rattle.def_sums.proofs.RingLaws.{*ℤ-+ℤ}
use Rattle.def_plan.proofs.BadSets.{length-placed}
use Rattle.std.proofs.lemmas.Option.{slice_get-get_or}
use Rattle.def_tree.specs.declared.Player.{Player}
use Rattle.def_tree.specs.declared.Player.TheVariants.{One, Two}
use Rattle.def_tree.specs.Opponent.{opponent}
use Rattle.def_plan.specs.Form.{InformationSet, PlacedSet, placed_from, placed, sequences_of, IsInOrder, AreInOrder, SequenceForm, player_sets}
use Rattle.def_plan.specs.Plan.{IsPlan}
use Rattle.def_plan.specs.Payoff.{gain, worth, pay, IsNoBetter}
use Rattle.def_reply.specs.Reply.{SetReply, values_of, replies_at}
use Rattle.def_reply.proofs.Equations.{reply_at_set, head-first_tight}
use Rattle.def_round.specs.Play.{units, IsSequenceOf, GivesAllUnits}
use Rattle.def_round.specs.Round.{own_sum, set_value, values_from, round_values}
use Rattle.def_round.proofs.Averages.{value_at_most, value_at_least}
use Rattle.def_round.proofs.Gains.{own_sums_gain}
use Rattle.def_round.proofs.Regrets.{length-values_of}
use Rattle.def_round.proofs.Values.{values_of_the_rest, worths_need_later_sets}
use Rattle.def_closing.specs.Width.{PaysWithin}
use Rattle.def_closing.specs.Laws.{RangeIsSpread}
use Rattle.def_closing.proofs.Spreads.{worth_split}
use Rattle.def_closing.proofs.Choices.{IsFollowed, FollowsFrom, followed_gains}

abbrev AllUnits : List ℕ → PlacedSet → Type 0
AllUnits play h = nat_sum_over (λ s. slice_index play s) (sequences_of h) ≡ units

-- ---- best replies are followed, and worth no less than what is played
replies_follow : (player : Player) (sums : ℕ → ℤ) (first : ℕ) (gs : List InformationSet) → All IsInOrder (placed_from first gs)
    → FollowsFrom sums (placed_from first gs) (replies_at player sums (placed_from first gs))
replies_follow player sums first [] order = tt
replies_follow player sums first (g ∷ gs) order =
    let here : PlacedSet = record { first = first; before = g.before; actions = g.actions } in
    let rest : List PlacedSet = placed_from (first + g.actions) gs in
    let tight = (head-first_tight player (worth sums rest (values_of (replies_at player sums rest))) here (All-head IsInOrder here rest order).0).tight in (
      record { some = tight.an_action.0; within = tight.an_action.1; reached = tight.reached },
      replies_follow player sums (first + g.actions) gs
          (All-tail IsInOrder here rest order),
    )

cond-mono : (b : Bool) (x y v w : ℤ) → x ≤ℤ y → v ≤ℤ w → (x +ℤ cond b v (pos 0)) ≤ℤ (y +ℤ cond b w (pos 0))
cond-mono true x y v w le more = omega (arith, ints)
cond-mono false x y v w le more = omega (arith, ints)

worth-mono : (sums : ℕ → ℤ) (h : PlacedSet) (hs : List PlacedSet) (v w : ℤ) (vs ws : List ℤ) (s : ℕ)
    → worth sums hs vs s ≤ℤ worth sums hs ws s → v ≤ℤ w → worth sums (h ∷ hs) (v ∷ vs) s ≤ℤ worth sums (h ∷ hs) (w ∷ ws) s
worth-mono sums h hs v w vs ws s le more =
    omega (
      arith,
      ints,
      worth_split sums h hs v vs s,
      worth_split sums h hs w ws s,
      cond-mono (eqb h.before s) (worth sums hs vs s) (worth sums hs ws s) v w le
          more,
    )

best_above : (sums : ℕ → ℤ) (play : List ℕ) (first : ℕ) (gs : List InformationSet) → All IsInOrder (placed_from first gs)
    → All (AllUnits play) (placed_from first gs) → (s : ℕ)
    → worth sums (placed_from first gs) (values_from sums play (placed_from first gs)) s
    ≤ℤ worth sums (placed_from first gs) (values_of (replies_at One sums (placed_from first gs))) s
best_above sums play first [] order whole s = omega (arith, ints)
best_above sums play first (g ∷ gs) order whole s =
    let here : PlacedSet = record { first = first; before = g.before; actions = g.actions } in
    let rest : List PlacedSet = placed_from (first + g.actions) gs in
    let rs : List SetReply = replies_at One sums rest in
    let w : ℕ → ℤ = worth sums rest (values_from sums play rest) in
    let best : ℕ → ℤ = worth sums rest (values_of rs) in
    let later : (s : ℕ) → w s ≤ℤ best s =
    best_above sums play (first + g.actions) gs (All-tail IsInOrder here rest order) (All-tail (AllUnits play) here rest whole) in
    let r : SetReply = reply_at_set One best here in
    let tight = (head-first_tight One best here (All-head IsInOrder here rest order).0).tight in
    let high : set_value play w here ≤ℤ r.value = value_at_most play w here r.value (All-head (AllUnits play) here rest whole)
    (All-range (λ s. w s ≤ℤ r.value) here.first here.actions
    (λ s low high. let no = range-All (λ s. IsNoBetter One (best s) r.value) here.first here.actions tight.no_better s low high in omega
    (arith, ints, later s, no))) in
    worth-mono sums here rest (set_value play w here) r.value (values_from sums play rest) (values_of rs) s (later s) high

worst_below : (sums : ℕ → ℤ) (play : List ℕ) (first : ℕ) (gs : List InformationSet) → All IsInOrder (placed_from first gs)
    → All (AllUnits play) (placed_from first gs) → (s : ℕ)
    → worth sums (placed_from first gs) (values_of (replies_at Two sums (placed_from first gs))) s
    ≤ℤ worth sums (placed_from first gs) (values_from sums play (placed_from first gs)) s
worst_below sums play first [] order whole s = omega (arith, ints)
worst_below sums play first (g ∷ gs) order whole s =
    let here : PlacedSet = record { first = first; before = g.before; actions = g.actions } in
    let rest : List PlacedSet = placed_from (first + g.actions) gs in
    let rs : List SetReply = replies_at Two sums rest in
    let w : ℕ → ℤ = worth sums rest (values_from sums play rest) in
    let worst : ℕ → ℤ = worth sums rest (values_of rs) in
    let later : (s : ℕ) → worst s ≤ℤ w s =
    worst_below sums play (first + g.actions) gs (All-tail IsInOrder here rest order) (All-tail (AllUnits play) here rest whole) in
    let r : SetReply = reply_at_set Two worst here in
    let tight = (head-first_tight Two worst here (All-head IsInOrder here rest order).0).tight in
    let low' : r.value ≤ℤ set_value play w here = value_at_least play w here r.value (All-head (AllUnits play) here rest whole)
    (All-range (λ s. r.value ≤ℤ w s) here.first here.actions
    (λ s low high. let no = range-All (λ s. IsNoBetter Two (worst s) r.value) here.first here.actions tight.no_better s low high in omega
    (arith, ints, later s, no))) in
    worth-mono sums here rest r.value (set_value play w here) (values_of rs) (values_from sums play rest) s (later s) low'

-- ---- two plans that lead to a set
pub record Apart (sums : ℕ → ℤ) (hs : List PlacedSet) (more : ℤ) (first : ℕ) : Type 0 where
  pub up : List SetReply
  pub down : List SetReply
  pub follows_up : FollowsFrom sums hs up
  pub follows_down : FollowsFrom sums hs down
  pub target : ℕ
  pub earlier : target < first
  pub none_less : (s : ℕ) → worth sums hs (values_of down) s ≤ℤ worth sums hs (values_of up) s
  pub apart : (worth sums hs (values_of down) target +ℤ more) ≤ℤ worth sums hs (values_of up) target

here-more : (sums : ℕ → ℤ) (h : PlacedSet) (hs : List PlacedSet) (v w more : ℤ) (vs ws : List ℤ)
    → worth sums hs vs h.before ≤ℤ worth sums hs ws h.before → (v +ℤ more) ≤ℤ w
    → (worth sums (h ∷ hs) (v ∷ vs) h.before +ℤ more) ≤ℤ worth sums (h ∷ hs) (w ∷ ws) h.before
here-more sums h hs v w more vs ws le far =
    let same : eqb h.before h.before ≡ true = eq-eqb h.before h.before refl in
    let one : worth sums (h ∷ hs) (v ∷ vs) h.before ≡ worth sums hs vs h.before +ℤ v =
    worth_split sums h hs v vs h.before ∙ ap (λ b. worth sums hs vs h.before +ℤ cond b v (pos 0)) same in
    let two : worth sums (h ∷ hs) (w ∷ ws) h.before ≡ worth sums hs ws h.before +ℤ w =
    worth_split sums h hs w ws h.before ∙ ap (λ b. worth sums hs ws h.before +ℤ cond b w (pos 0)) same in
    omega (arith, ints, one, two)

still-more : (sums : ℕ → ℤ) (h : PlacedSet) (hs : List PlacedSet) (v w more : ℤ) (vs ws : List ℤ) (s : ℕ)
    → (worth sums hs vs s +ℤ more) ≤ℤ worth sums hs ws s → v ≤ℤ w
    → (worth sums (h ∷ hs) (v ∷ vs) s +ℤ more) ≤ℤ worth sums (h ∷ hs) (w ∷ ws) s
still-more sums h hs v w more vs ws s le far =
    omega (
      arith,
      ints,
      worth_split sums h hs v vs s,
      worth_split sums h hs w ws s,
      cond-mono (eqb h.before s) (worth sums hs vs s +ℤ more)
          (worth sums hs ws s) v w le far,
    )

-- what the rest of the sets gives at the k-th set
abbrev worth_behind : (ℕ → ℤ) → List ℕ → List PlacedSet → ℕ → ℕ → ℤ
worth_behind sums play hs k s = worth sums (drop (suc k) hs) (values_from sums play (drop (suc k) hs)) s

abbrev choice_of : PlacedSet → ℕ → ℕ
choice_of h s = suc (s - h.first)

-- one set more in front, at which both plans choose the same action
same_choice : (sums : ℕ → ℤ) (h : PlacedSet) (hs : List PlacedSet) (more : ℤ) (next : ℕ) → h.before < h.first → 1 ≤ h.actions
    → next ≡ h.first + h.actions → pos 0 ≤ℤ more → Apart sums hs more next → Apart sums (h ∷ hs) more h.first
same_choice sums h hs more next before some is_next positive a =
    ⊎_elim
    (λ (early : a.target < h.first).
    let c : ℕ = h.first in
    let value_up : ℤ = worth sums hs (values_of a.up) c in
    let value_down : ℤ = worth sums hs (values_of a.down) c in
    record {
      up = record { value = value_up; choice = choice_of h c } ∷ a.up;
      down = record { value = value_down; choice = choice_of h c } ∷ a.down;
      follows_up = (chosen_here (worth sums hs (values_of a.up)) h c (omega arith) (omega arith), a.follows_up);
      follows_down = (chosen_here (worth sums hs (values_of a.down)) h c (omega arith) (omega arith), a.follows_down);
      target = a.target;
      earlier = early;
      none_less = λ s. worth-mono sums h hs value_down value_up (values_of a.down) (values_of a.up) s (a.none_less s) (a.none_less c);
      apart = still-more sums h hs value_down value_up more (values_of a.down) (values_of a.up) a.target a.apart (a.none_less c);
    })
    (λ (here : h.first ≤ a.target).
    let c : ℕ = a.target in
    let value_up : ℤ = worth sums hs (values_of a.up) c in
    let value_down : ℤ = worth sums hs (values_of a.down) c in
    let inside : c < h.first + h.actions = omega (arith, a.earlier) in
    record {
      up = record { value = value_up; choice = choice_of h c } ∷ a.up;
      down = record { value = value_down; choice = choice_of h c } ∷ a.down;
      follows_up = (chosen_here (worth sums hs (values_of a.up)) h c here inside, a.follows_up);
      follows_down = (chosen_here (worth sums hs (values_of a.down)) h c here inside, a.follows_down);
      target = h.before;
      earlier = before;
      none_less = λ s. worth-mono sums h hs value_down value_up (values_of a.down) (values_of a.up) s (a.none_less s) (a.none_less c);
      apart = here-more sums h hs value_down value_up more (values_of a.down) (values_of a.up) (a.none_less h.before) a.apart;
    })
    (cases_lt a.target h.first)
  where
    chosen_here : (w : ℕ → ℤ) (h : PlacedSet) (c : ℕ) → h.first ≤ c → c < h.first + h.actions
        → IsFollowed w h (record { value = w c; choice = choice_of h c })
    chosen_here w h c low high = record { some = omega arith; within = omega arith; reached = ap w (omega arith) }

-- the set itself, with the best replies behind one action and the other player's best ones behind the other
at_the_set : (sums : ℕ → ℤ) (play : List ℕ) (h : PlacedSet) (next : ℕ) (gs : List InformationSet) → h.before < h.first
    → All IsInOrder (placed_from next gs) → All (AllUnits play) (placed_from next gs) → (s t : ℕ)
    → IsSequenceOf h s → IsSequenceOf h t
    → worth sums (placed_from next gs) (values_from sums play (placed_from next gs)) t
    ≤ℤ worth sums (placed_from next gs) (values_from sums play (placed_from next gs)) s
    → Apart sums (h ∷ placed_from next gs) (worth sums (placed_from next gs) (values_from sums play (placed_from next gs)) s -ℤ worth sums
    (placed_from next gs) (values_from sums play (placed_from next gs)) t) h.first
at_the_set sums play h next gs before order whole s t is_s is_t le =
    let rest : List PlacedSet = placed_from next gs in
    let w : ℕ → ℤ = worth sums rest (values_from sums play rest) in
    let ups : List SetReply = replies_at One sums rest in
    let downs : List SetReply = replies_at Two sums rest in
    let above = best_above sums play next gs order whole in
    let below = worst_below sums play next gs order whole in
    let value_up : ℤ = worth sums rest (values_of ups) s in
    let value_down : ℤ = worth sums rest (values_of downs) t in
    let less : (u : ℕ) → worth sums rest (values_of downs) u ≤ℤ worth sums rest (values_of ups) u =
    λ u. let a = above u in let b = below u in omega (arith, ints) in
    record {
      up = record { value = value_up; choice = choice_of h s } ∷ ups;
      down = record { value = value_down; choice = choice_of h t } ∷ downs;
      follows_up = (
        record { some = omega arith; within = omega (arith, is_s.0, is_s.1); reached = ap (worth sums rest (values_of ups)) (omega (arith, is_s.0)) },
        replies_follow One sums next gs order,
      );
      follows_down = (
        record { some = omega arith; within = omega (arith, is_t.0, is_t.1); reached = ap (worth sums rest (values_of downs)) (omega (arith, is_t.0)) },
        replies_follow Two sums next gs order,
      );
      target = h.before;
      earlier = before;
      none_less = λ u. worth-mono sums h rest value_down value_up (values_of downs) (values_of ups) u (less u) (omega (arith, ints, above s, below t, le));
      apart = here-more sums h rest value_down value_up (w s -ℤ w t) (values_of downs) (values_of ups) (less h.before) (omega (arith, ints, above s, below t));
    }

apart_from : (sums : ℕ → ℤ) (play : List ℕ) (first : ℕ) (gs : List InformationSet) (k : ℕ) (d : PlacedSet)
    → All IsInOrder (placed_from first gs) → All (AllUnits play) (placed_from first gs) → k < length gs → (s t : ℕ)
    → IsSequenceOf (get_or (placed_from first gs) k d) s → IsSequenceOf (get_or (placed_from first gs) k d) t
    → worth_behind sums play (placed_from first gs) k t ≤ℤ worth_behind sums play (placed_from first gs) k s
    → Apart sums (placed_from first gs) (worth_behind sums play (placed_from first gs) k s -ℤ worth_behind sums play (placed_from first gs) k t) first
apart_from sums play first [] k d order whole low s t is_s is_t le = absurd (omega arith)
apart_from sums play first (g ∷ gs) zero d order whole low s t is_s is_t le =
    let here : PlacedSet = record { first = first; before = g.before; actions = g.actions } in
    let rest : List PlacedSet = placed_from (first + g.actions) gs in
    at_the_set sums play here (first + g.actions) gs (All-head IsInOrder here rest order).1 (All-tail IsInOrder here rest order)
    (All-tail (AllUnits play) here rest whole) s t is_s is_t le
apart_from sums play first (g ∷ gs) (suc k) d order whole low s t is_s is_t le =
    let here : PlacedSet = record { first = first; before = g.before; actions = g.actions } in
    let rest : List PlacedSet = placed_from (first + g.actions) gs in
    let ordered = All-head IsInOrder here rest order in
    same_choice sums here rest (worth_behind sums play rest k s -ℤ worth_behind sums play rest k t) (first + g.actions) ordered.1 ordered.0 refl
    (omega (arith, ints, le))
    (apart_from sums play (first + g.actions) gs k d (All-tail IsInOrder here rest order) (All-tail (AllUnits play) here rest whole) (omega arith) s t is_s
    is_t le)

-- ---- so where no two plans of root 1 gain further apart than a width, no two actions of a set are worth further apart
abbrev GainsWithin : (ℕ → ℤ) → List InformationSet → ℕ → Type 0
GainsWithin sums sets width = (x y : List ℕ) → IsPlan sets 1 x → IsPlan sets 1 y → gain sums sets x ≤ℤ (gain sums sets y +ℤ pos width)

totals_apart : (sums : ℕ → ℤ) (sets : List InformationSet) (more : ℤ) (width : ℕ) → AreInOrder sets → GainsWithin sums sets width
    → Apart sums (placed sets) more 1 → more ≤ℤ pos width
totals_apart sums sets more width order within a =
    let up = followed_gains sums sets a.up order a.follows_up in
    let down = followed_gains sums sets a.down order a.follows_down in
    let none : a.target ≡ 0 = omega (arith, a.earlier) in
    let apart = subst (λ n. (worth sums (placed sets) (values_of a.down) n +ℤ more) ≤ℤ worth sums (placed sets) (values_of a.up) n) none a.apart in
    omega (arith, ints, within up.plan down.plan up.is_plan down.is_plan, up.gained, down.gained, apart)

behind_apart : (sums : ℕ → ℤ) (play : List ℕ) (sets : List InformationSet) (width k : ℕ) (d : PlacedSet) → AreInOrder sets
    → GivesAllUnits play sets → GainsWithin sums sets width → k < length sets → (s t : ℕ)
    → IsSequenceOf (get_or (placed sets) k d) s → IsSequenceOf (get_or (placed sets) k d) t
    → worth_behind sums play (placed sets) k s ≤ℤ (worth_behind sums play (placed sets) k t +ℤ pos width)
behind_apart sums play sets width k d order whole within low s t is_s is_t =
    by_lt_z (worth_behind sums play (placed sets) k s) (worth_behind sums play (placed sets) k t)
    (λ less. omega (arith, ints, less))
    (λ le. let more = totals_apart sums sets (worth_behind sums play (placed sets) k s -ℤ worth_behind sums play (placed sets) k t) width order within
    (apart_from sums play 1 sets k d order whole low s t is_s is_t le) in omega (arith, ints, more))

-- the worth of a set's sequence needs the sets behind it alone
pub worth_is_behind : (sums : ℕ → ℤ) (play : List ℕ) (sets : List InformationSet) (k : ℕ) (d : PlacedSet) → AreInOrder sets
    → k < length sets → (s : ℕ) → (get_or (placed sets) k d).first ≤ s
    → worth sums (placed sets) (round_values sums play sets) s ≡ worth_behind sums play (placed sets) k s
worth_is_behind sums play sets k d order low s after =
    let values : List ℤ = round_values sums play sets in
    let is : slice_get (placed sets) k ≡ Some (get_or (placed sets) k d) = slice_get-get_or (placed sets) k d (omega (arith, length-placed 1 sets)) in
    let later = worths_need_later_sets sums sets values order (length-values_of sums play sets) k (get_or (placed sets) k d) is s after in
    let rest : drop (k + 1) values ≡ values_from sums play (drop (k + 1) (placed sets)) = values_of_the_rest sums play sets (k + 1) in
    later
    ∙ ap (λ vs. worth sums (drop (k + 1) (placed sets)) vs s) rest
    ∙ ap (λ n. worth sums (drop n (placed sets)) (values_from sums play (drop n (placed sets))) s) (add-one k)

-- ---- the range of what plans pay
pub gains_within : (player : Player) (form : SequenceForm) (low high : ℤ) (width root : ℕ) (plan : List ℕ) → PaysWithin form low high
    → high ≡ low +ℤ pos width → IsPlan (player_sets form (opponent player)) root plan
    → GainsWithin (own_sum player form.leaves plan) (player_sets form player) (root * width)
gains_within One form low high width root plan within is_high is x y plan_x plan_y =
    let pay_x = within.at_most 1 root x plan plan_x is in
    let pay_y = within.at_least 1 root y plan plan_y is in
    let gain_x = (own_sums_gain form x plan).of_one plan_x.all_sequences in
    let gain_y = (own_sums_gain form y plan).of_one plan_y.all_sequences in
    let wide : pos root *ℤ high ≡ pos root *ℤ low +ℤ pos (root * width) = ap (λ z. pos root *ℤ z) is_high ∙ *ℤ-+ℤ (pos root) low (pos width) in
    let one : 1 * root ≡ root = omega arith in
    let from : (pos root *ℤ low) ≤ℤ pay form.leaves y plan = subst (λ n. (pos n *ℤ low) ≤ℤ pay form.leaves y plan) one pay_y in
    let to : pay form.leaves x plan ≤ℤ (pos root *ℤ high) = subst (λ n. pay form.leaves x plan ≤ℤ (pos n *ℤ high)) one pay_x in
    omega (arith, ints, gain_x, gain_y, wide, from, to)
gains_within Two form low high width root plan within is_high is x y plan_x plan_y =
    let pay_x = within.at_least root 1 plan x is plan_x in
    let pay_y = within.at_most root 1 plan y is plan_y in
    let gain_x = (own_sums_gain form plan x).of_two plan_x.all_sequences in
    let gain_y = (own_sums_gain form plan y).of_two plan_y.all_sequences in
    let wide : pos root *ℤ high ≡ pos root *ℤ low +ℤ pos (root * width) = ap (λ z. pos root *ℤ z) is_high ∙ *ℤ-+ℤ (pos root) low (pos width) in
    let one : root * 1 ≡ root = omega arith in
    let from : (pos root *ℤ low) ≤ℤ pay form.leaves plan x = subst (λ n. (pos n *ℤ low) ≤ℤ pay form.leaves plan x) one pay_x in
    let to : pay form.leaves plan y ≤ℤ (pos root *ℤ high) = subst (λ n. pay form.leaves plan y ≤ℤ (pos n *ℤ high)) one pay_y in
    omega (arith, ints, gain_x, gain_y, wide, from, to)

pub range_is_spread : RangeIsSpread
range_is_spread player form low high width order within is_high root play plan whole is k d below s t is_s is_t =
    let sets : List InformationSet = player_sets form player in
    let sums : ℕ → ℤ = own_sum player form.leaves plan in
    let early : k < length sets = omega (arith, length-placed 1 sets, below) in
    let apart =
    behind_apart sums play sets (root * width) k d (order player) whole (gains_within player form low high width root plan within is_high is) early s t is_s
    is_t in
    omega (
      arith,
      ints,
      apart,
      worth_is_behind sums play sets k d (order player) early s is_s.0,
      worth_is_behind sums play sets k d (order player) early t
          is_t.0,
    )
