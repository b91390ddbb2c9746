-- What is played at one set.
use Rattle.std.proofs.Common.{◌≡◌, ℕ, ◌+◌, ◌*◌, ◌^◌, ◌<◌, ◌≤◌, List, length, get_or, slice_index, map, ℤ, unsigned_abs, arith, refl, sym, subst, ap, ◌∙◌}
use Rattle.std.proofs.lemmas.List.Elements.{All-get_or}
use Rattle.std.proofs.lemmas.List.FromFn.{get_or-map-range_with_len}
use Rattle.def_plan.specs.Form.{InformationSet, PlacedSet, sequences_of}
use Rattle.def_round.specs.Play.{play_of, regret_of, regret_sum, set_play, units}
use Rattle.def_round.proofs.Growth.{deals_within}
use Rattle.def_round.proofs.Plays.{plays_each_set}
use Rattle.def_tree.specs.Rules.{most_actions}
use Rattle.xg_seq.specs.Table.{HaveFewActions}
use Rattle.xg_closer.proofs.Sets.{IsAt}
use Rattle.xg_plan.proofs.PlaceLemmas.{no_place, no_information_set}

-- where no set has more actions than a node can have, neither has the one at place m
pub few_at : (sets : List InformationSet) (m : ℕ) (h : PlacedSet) → HaveFewActions sets → m < length sets
    → IsAt sets m h → h.actions ≤ most_actions
few_at sets m h few below at = omega (arith, All-get_or (λ (h : InformationSet). h.actions ≤ most_actions) sets m no_information_set below few, at.actions)

-- by regrets within 2 ^ 98 and few actions, all units times the regret sum of set m are below 2 ^ 126
pub small_at : (sets : List InformationSet) (regrets : List ℤ) (m : ℕ) (h : PlacedSet) → IsAt sets m h
    → ((s : ℕ) → unsigned_abs (regret_of regrets s) ≤ 2 ^ 98) → h.actions ≤ most_actions
    → units * regret_sum regrets h < 2 ^ 126
small_at sets regrets m h at small few =
    subst (λ (p : PlacedSet). p.actions ≤ 1024 → units * regret_sum regrets p < 2 ^ 126) at.is ((deals_within sets regrets small).each_set m no_place at.there)
    few

-- a set's sequences have the shares of all units by their regrets
pub played_at : (sets : List InformationSet) (regrets : List ℤ) (m : ℕ) (h : PlacedSet) → IsAt sets m h → (i : ℕ)
    → i < h.actions
    → slice_index (play_of sets regrets) (h.first + i) ≡ slice_index (set_play regrets h) i
played_at sets regrets m h at i inside =
    let each : map (λ s. slice_index (play_of sets regrets) s) (sequences_of h) ≡ set_play regrets h =
    subst (λ (p : PlacedSet). map (λ s. slice_index (play_of sets regrets) s) (sequences_of p) ≡ set_play regrets p) at.is
    ((plays_each_set sets regrets).each_set m no_place at.there) in
    sym (get_or-map-range_with_len (λ s. slice_index (play_of sets regrets) s) h.first h.actions i (h.first + i) 0 inside refl) ∙ ap (λ xs. get_or xs i 0) each
