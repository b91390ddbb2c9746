-- How far apart the ends of a bracket can be, by the range of a game's payoffs. Each is the contract of a function of
-- this crate.
use Rattle.std.specs.Prelude.{◌≡◌, ℕ, ◌*◌, ◌≤◌, None, Some, ℤ, pos, ◌+ℤ◌}
use Rattle.def_tree.specs.declared.Player.TheVariants.{One, Two}
use Rattle.def_tree.specs.Tree.{Forest}
use Rattle.def_fraction.specs.Fraction.{fraction_of}
use Rattle.def_file.specs.Content.{GameFile}
use Rattle.def_file.specs.Game.{HasFractions, IsWholeGame}
use Rattle.def_game_scale.specs.Tables.{Tables}
use Rattle.def_game_scale.specs.Scale.{game_unit}
use Rattle.def_plan.specs.Form.{SequenceForm}
use Rattle.def_sequence_form.specs.Form.{form_of_game}
use Rattle.def_reply.specs.Bracket.{BracketEnds, ends_of}
use Rattle.def_run.specs.Run.{evaluations, evaluations_in}
use Rattle.def_plus.specs.declared.Variant.{Variant}
use Rattle.def_plus.specs.Variants.{weight_of_rounds}
use Rattle.def_plus.specs.Weights.{total_weight}
use Rattle.def_plus_run.specs.PlusRun.{plus_evaluations}
use Rattle.def_plus_run.specs.VariantRun.{run_of}
use Rattle.def_game_numbers.specs.Numbers.{game_file_fault, tables_of}
use Rattle.def_fraction.specs.Order.{IsAtMost}
use Rattle.def_constant_sum.specs.Expected.{IsCompleteGame}
use Rattle.def_closing.specs.Width.{PaysWithin, width_bound, plus_width_bound, closing_width, AreEndsWithin}
use Rattle.def_closing_games.specs.Range.{HasNoNegativeChance, PayoffsAreWithin, game_spread}
use Rattle.def_closing_games.specs.Range.{least_payoff, greatest_payoff, payoff_range}
use Rattle.def_closing_games.specs.Promise.{printed_width, promise}

-- two plans pay no less than the least payoff of a leaf, and no more than the greatest, times the unit and both roots
abbrev pub PayoffsBoundPay : Type 0
PayoffsBoundPay = (tables : Tables) (tree : Forest) (low high : ℤ) → IsCompleteGame tables tree
    → HasNoNegativeChance tables tree → PayoffsAreWithin tables tree low high
    → PaysWithin (form_of_game tables tree) low high

-- so on the game of every file without a fault the bracket of a run is no wider than the range of payoffs allows
abbrev pub FilesClose : Type 0
FilesClose = (game : GameFile) (low high : ℤ) (range root every last : ℕ) (ends : BracketEnds) → IsWholeGame game
    → HasFractions game.sets game.outcomes → game_file_fault game ≡ None
    → PayoffsAreWithin (tables_of game) game.tree low high → high ≡ low +ℤ pos range → 1 ≤ root → 1 ≤ last
    → let form : SequenceForm = form_of_game (tables_of game) game.tree in
    ends_of (evaluations form root every last) ≡ Some ends
    → AreEndsWithin (λ round. round) last
    (width_bound form root (game_spread range One form) (game_spread range Two form) last) ends

-- and so is that of a run of CFR+
abbrev pub PlusFilesClose : Type 0
PlusFilesClose = (game : GameFile) (low high : ℤ) (range root every last : ℕ) (ends : BracketEnds) → IsWholeGame game
    → HasFractions game.sets game.outcomes → game_file_fault game ≡ None
    → PayoffsAreWithin (tables_of game) game.tree low high → high ≡ low +ℤ pos range → 1 ≤ root → 1 ≤ last
    → let form : SequenceForm = form_of_game (tables_of game) game.tree in
    ends_of (plus_evaluations form root every last) ≡ Some ends
    → AreEndsWithin total_weight last
    (plus_width_bound form root (game_spread range One form) (game_spread range Two form) last) ends

-- in payoff units, as they are printed: HIGH less LOW is at most the width over the unit, the scale and the rounds
abbrev pub PrintedBracketsClose : Type 0
PrintedBracketsClose = (game : GameFile) (low high : ℤ) (range root every last : ℕ) (ends : BracketEnds)
    → IsWholeGame game → HasFractions game.sets game.outcomes → game_file_fault game ≡ None
    → PayoffsAreWithin (tables_of game) game.tree low high → high ≡ low +ℤ pos range → 1 ≤ root → 1 ≤ last
    → let form : SequenceForm = form_of_game (tables_of game) game.tree in
    let unit : ℕ = game_unit (tables_of game) game.tree in
    ends_of (evaluations form root every last) ≡ Some ends
    → IsAtMost (printed_width unit (λ round. round) root ends)
    (fraction_of (pos (width_bound form root (game_spread range One form) (game_spread range Two form) last))
    (unit * (last * root)))

abbrev pub PrintedPlusBracketsClose : Type 0
PrintedPlusBracketsClose = (game : GameFile) (low high : ℤ) (range root every last : ℕ) (ends : BracketEnds)
    → IsWholeGame game → HasFractions game.sets game.outcomes → game_file_fault game ≡ None
    → PayoffsAreWithin (tables_of game) game.tree low high → high ≡ low +ℤ pos range → 1 ≤ root → 1 ≤ last
    → let form : SequenceForm = form_of_game (tables_of game) game.tree in
    let unit : ℕ = game_unit (tables_of game) game.tree in
    ends_of (plus_evaluations form root every last) ≡ Some ends
    → IsAtMost (printed_width unit total_weight root ends)
    (fraction_of (pos (plus_width_bound form root (game_spread range One form) (game_spread range Two form) last))
    (unit * (total_weight last * root)))

-- and on every file's game, whatever its payoffs range over, the width that its form tells
abbrev pub EveryBracketCloses : Type 0
EveryBracketCloses = (game : GameFile) (root every last : ℕ) (ends : BracketEnds) → IsWholeGame game
    → HasFractions game.sets game.outcomes → game_file_fault game ≡ None → 1 ≤ root → 1 ≤ last
    → let form : SequenceForm = form_of_game (tables_of game) game.tree in
    let unit : ℕ = game_unit (tables_of game) game.tree in
    ends_of (evaluations form root every last) ≡ Some ends
    → IsAtMost (printed_width unit (λ round. round) root ends)
    (fraction_of (pos (closing_width form root last)) (unit * (last * root)))

-- the payoffs of a game lie within its range
abbrev pub PayoffsAreInRange : Type 0
PayoffsAreInRange = (tables : Tables) (tree : Forest) → IsCompleteGame tables tree
    → PayoffsAreWithin tables tree (least_payoff tables tree) (greatest_payoff tables tree)
    × (greatest_payoff tables tree ≡ least_payoff tables tree +ℤ pos (payoff_range tables tree))

-- so what is promised of every file's game, from its numbers alone, is kept by the bracket of each run of both variants
abbrev pub PromisesAreKept : Type 0
PromisesAreKept = (variant : Variant) (game : GameFile) (root every last : ℕ) (ends : BracketEnds) → IsWholeGame game
    → HasFractions game.sets game.outcomes → game_file_fault game ≡ None → 1 ≤ root → 1 ≤ last
    → let form : SequenceForm = form_of_game (tables_of game) game.tree in
    ends_of (evaluations_in form (run_of variant form root) every last) ≡ Some ends
    → IsAtMost
    (printed_width (game_unit (tables_of game) game.tree) (λ round. weight_of_rounds variant round) root ends)
    (promise variant (tables_of game) game.tree root last)
