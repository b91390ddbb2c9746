-- The entries of a hand, by the sets and the outcomes that they mention.
use Rattle.std.proofs.Common.{◌≡◌, ℕ, List, [], ◌∷◌, ◌∙◌}
use Rattle.std.specs.Prelude.{codes}
use Rattle.std.proofs.lemmas.List.{append-nil}
use Rattle.def_file.specs.Content.{Action, Record, leaf_record, player_record}
use Rattle.def_canon.specs.Poker.{after_bet, after_check, answer, described_set, facing_bet, hand, higher, opening_set}
use Rattle.xg_gen.specs.declared.again.Common.{Common}
use Rattle.xg_gen.specs.declared.again.PlayerSets.{PlayerSets}
use Rattle.xg_gen.specs.declared.again.Won.{Won}
use Rattle.xg_gen.specs.declared.mentions.NamedSet.{NamedSet}
use Rattle.xg_gen.specs.Again.{AreCommon, ArePlayerSets, AreWon}
use Rattle.xg_gen.specs.Described.{mention_of_outcome, mention_of_set}

set_is : (s : NamedSet) (actions same : List Action) (number : ℕ) (name : List ℕ) → s.number ≡ number → s.name ≡ name
    → actions ≡ same
    → mention_of_set s actions ≡ described_set number name same
set_is s actions same number name en em ea = (λ k. described_set (en k) (em k) (ea k))

-- the entries where player one has the one player's sets, player two the other's, and the higher card wins
abbrev pub entries_with : PlayerSets → PlayerSets → Common → Won → List Record
entries_with own other common won =
    player_record 1 (mention_of_set own.before_bet common.check_or_bet)
    ∷ player_record 2 (mention_of_set other.before_bet common.check_or_bet)
    ∷ leaf_record (mention_of_outcome won.one)
    ∷ player_record 1 (mention_of_set own.facing_bet common.fold_or_call)
    ∷ leaf_record (mention_of_outcome common.by_two.one)
    ∷ leaf_record (mention_of_outcome won.two)
    ∷ player_record 2 (mention_of_set other.facing_bet common.fold_or_call)
    ∷ leaf_record (mention_of_outcome common.by_one.one)
    ∷ leaf_record (mention_of_outcome won.two)
    ∷ []

pub hand_is : (n i j : ℕ) (own other : PlayerSets) (common : Common) (won : Won)
    → ArePlayerSets n i [] (codes " cb") own → ArePlayerSets n j (codes " c") (codes " b") other
    → AreCommon common → AreWon (higher i j) won
    → entries_with own other common won ≡ hand n i j
unfolding hand facing_bet opening_set after_check answer after_bet
hand_is n i j own other common won mine yours shared wins =
    let opening : mention_of_set own.before_bet common.check_or_bet ≡ opening_set i =
    set_is _ _ _ _ _ mine.number (mine.name ∙ append-nil _) shared.check_or_bet in
    let check : mention_of_set other.before_bet common.check_or_bet ≡ after_check j =
    set_is _ _ _ _ _ yours.number yours.name shared.check_or_bet in
    let reply : mention_of_set own.facing_bet common.fold_or_call ≡ answer n i =
    set_is _ _ _ _ _ mine.facing_number mine.facing_name shared.fold_or_call in
    let bet : mention_of_set other.facing_bet common.fold_or_call ≡ after_bet n j =
    set_is _ _ _ _ _ yours.facing_number yours.facing_name shared.fold_or_call in
    (λ k. player_record 1 (opening k) ∷ player_record 2 (check k) ∷ leaf_record (wins.one k) ∷ player_record 1 (reply k)
    ∷ leaf_record (shared.by_two.one k) ∷ leaf_record (wins.two k) ∷ player_record 2 (bet k) ∷ leaf_record (shared.by_one.one k)
    ∷ leaf_record (wins.two k) ∷ [])
