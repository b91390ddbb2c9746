-- The bracket on the game of a file.
use Rattle.std.proofs.Common.{◌≡◌, ℕ, refl, None}
use Rattle.std.specs.Prelude.{ℤ, pos, ◌+ℤ◌}
use Rattle.def_tree.specs.declared.Player.{Player}
use Rattle.def_tree.specs.declared.Player.TheVariants.{One, Two}
use Rattle.def_tree.specs.declared.Kind.TheVariants as kinds
use Rattle.def_game_scale.specs.Faults.{game_fault}
use Rattle.def_game_scale.proofs.Sound.{sound}
use Rattle.def_file.specs.Content.{GameFile}
use Rattle.def_file.specs.Game.{HasFractions, IsWholeGame}
use Rattle.def_plan.specs.Form.{SequenceForm}
use Rattle.def_sequence_form.specs.Form.{form_of_game}
use Rattle.def_sequence_form.proofs.Sets.{form_is_in_order}
use Rattle.def_game_numbers.specs.Numbers.{game_file_fault, tables_of}
use Rattle.def_game_numbers.proofs.Fractions.{tables_lowest}
use Rattle.def_game_numbers.proofs.WholeSums.{none_found}
use Rattle.def_constant_sum.proofs.Faultless.{faultless}
use Rattle.def_closing.specs.Width.{IsSpread, PaysWithin, form_spread}
use Rattle.def_closing.specs.Laws.{AreInOrderBoth}
use Rattle.def_closing.proofs.Spreads.{lesser_is_spread}
use Rattle.def_closing.proofs.Range.{range_is_spread}
use Rattle.def_closing.proofs.Widths.{form_spread_is}
use Rattle.def_closing.proofs.Ends.{brackets_close}
use Rattle.def_closing.proofs.PlusClosing.{plus_brackets_close}
use Rattle.def_closing_games.specs.Range.{HasNoNegativeChance, PayoffsAreWithin, game_spread}
use Rattle.def_closing_games.specs.Laws.{FilesClose, PlusFilesClose}
use Rattle.def_closing_games.proofs.Pays.{payoffs_bound_pay}

-- in the game of a file without a fault no probability is below 0
no_negative : (game : GameFile) → HasFractions game.sets game.outcomes → game_file_fault game ≡ None
    → HasNoNegativeChance (tables_of game) game.tree
no_negative game fractions none k d there chance =
    ((sound (tables_of game) game.tree (tables_lowest game fractions) (none_found (game_fault (tables_of game) game.tree) none)).numbers.chance k d there
    chance).positive

-- and its form is in order
pub in_order : (game : GameFile) → IsWholeGame game → HasFractions game.sets game.outcomes → game_file_fault game ≡ None
    → AreInOrderBoth (form_of_game (tables_of game) game.tree)
in_order game whole fractions none One = form_is_in_order game.tree (faultless game whole fractions none).complete.game_tree kinds.One refl
in_order game whole fractions none Two = form_is_in_order game.tree (faultless game whole fractions none).complete.game_tree kinds.Two refl

-- the lesser of the range and the sizes is a spread
spread_is : (game : GameFile) (low high : ℤ) (range : ℕ) → IsWholeGame game → HasFractions game.sets game.outcomes
    → game_file_fault game ≡ None → PayoffsAreWithin (tables_of game) game.tree low high → high ≡ low +ℤ pos range → (player : Player)
    → IsSpread player (form_of_game (tables_of game) game.tree) (game_spread range player (form_of_game (tables_of game) game.tree))
spread_is game low high range whole fractions none within is_high player =
    let form : SequenceForm = form_of_game (tables_of game) game.tree in
    let order : AreInOrderBoth form = in_order game whole fractions none in
    let pays : PaysWithin form low high =
    payoffs_bound_pay (tables_of game) game.tree low high (faultless game whole fractions none).complete (no_negative game fractions none) within in
    lesser_is_spread player form (λ h. range) (form_spread player form) (range_is_spread player form low high range order pays is_high)
    (form_spread_is player form order)

pub files_close : FilesClose
files_close game low high range root every last ends whole fractions none within is_high some some_round are =
    let form : SequenceForm = form_of_game (tables_of game) game.tree in
    let order : AreInOrderBoth form = in_order game whole fractions none in
    let is = spread_is game low high range whole fractions none within is_high in
    brackets_close form root every last (game_spread range One form) (game_spread range Two form) ends (order One) (order Two) some some_round (is One)
    (is Two) are

pub plus_files_close : PlusFilesClose
plus_files_close game low high range root every last ends whole fractions none within is_high some some_round are =
    let form : SequenceForm = form_of_game (tables_of game) game.tree in
    let order : AreInOrderBoth form = in_order game whole fractions none in
    let is = spread_is game low high range whole fractions none within is_high in
    plus_brackets_close form root every last (game_spread range One form) (game_spread range Two form) ends (order One) (order Two) some some_round (is One)
    (is Two) are
