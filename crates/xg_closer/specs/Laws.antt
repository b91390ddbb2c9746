-- What a round by rows is.
use Rattle.std.specs.Prelude.{◌≡◌, ℕ, ℤ, List}
use Rattle.def_tree.specs.declared.Player.{Player}
use Rattle.def_plan.specs.Form.{SequenceForm, player_sets}
use Rattle.def_plan.specs.FormRows.{player_rows}
use Rattle.def_round.specs.Round.{own_sum, regrets_after}
use Rattle.xg_closer.specs.Rows.{own_amount}

-- by the leaf sums against a plan it is the round by the player's own sums against that plan
abbrev pub LeafSumsCloseTheRound : Type 0
LeafSumsCloseTheRound = (form : SequenceForm) (player : Player) (against play : List ℕ) (before : List ℤ)
    → regrets_after (own_amount player (player_rows form player against)) play (player_sets form player) before
    ≡ regrets_after (own_sum player form.leaves against) play (player_sets form player) before
