-- One-card poker is never refused.
use Rattle.std.proofs.Common.{◌≡◌, ℕ, ◌≤◌, Some, Err, subst}
use Rattle.def_sums.specs.Limits.{least_cards, most_cards}
use Rattle.def_file.specs.declared.FileFault.{FileFault}
use Rattle.def_file.specs.Content.{GameFile}
use Rattle.def_canon.specs.Poker.{poker}
use Rattle.def_game_numbers.specs.Numbers.{game_file_fault}
use Rattle.def_poker.proofs.Faultless.{poker_has_no_fault}
use Rattle.xg_game.specs.declared.fault.Refused.TheVariants.{File}
use Rattle.xg_load.specs.Accepted.{Opens}

pub poker_is_opened : (cards : ℕ) → least_cards ≤ cards → cards ≤ most_cards → (game : GameFile) (fault : FileFault)
    → game ≡ poker cards → Opens game (Err (File fault)) → ⊥
poker_is_opened cards some few game fault is faulty =
    let none = poker_has_no_fault cards some few in
    let found : game_file_fault (poker cards) ≡ Some fault =
    subst (λ (x : GameFile). game_file_fault x ≡ Some fault) is faulty in
    cc
