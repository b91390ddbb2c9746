-- `drill` is never refused.
use Rattle.std.proofs.Common.{◌≡◌, Some, sym, ap, ◌∙◌}
use Rattle.std.proofs.lemmas.Option.{same_Some}
use Rattle.def_file_form.proofs.WholeGames.{stands_for_whole_game}
use Rattle.def_game_scale.proofs.First.{game_first}
use Rattle.def_game_scale.specs.Faults.{game_fault}
use Rattle.def_game_numbers.specs.Numbers.{tables_of}
use Rattle.def_game_numbers.proofs.Fractions.{tables_lowest}
use Rattle.def_game_numbers.proofs.WholeSums.{none_found}
use Rattle.def_canon.specs.Canon.{canon}
use Rattle.def_canon.specs.Poker.{poker}
use Rattle.def_canon.proofs.Written.{poker_is_read_back}
use Rattle.def_canon.proofs.PokerFileIsShort.{poker_is_short}
use Rattle.def_check.specs.Accepting.{unless_faulty}
use Rattle.def_command.proofs.InRange.{cards_in_range, settings_in_range}
use Rattle.def_plus.specs.declared.Variant.TheVariants.{Plain}
use Rattle.def_poker.proofs.Faultless.{poker_has_no_fault}
use Rattle.def_program.specs.Program.{answer_of, game_answer, program, solved, success}
use Rattle.def_program.proofs.Meant.{meaning_computed}
use Rattle.def_program.proofs.Played.{played_games_have_bounds}
use Rattle.def_program_drill.specs.Drill.{DrillsHaveTheirBounds, DrillsSucceed, PokerIsAccepted}

pub poker_is_accepted : PokerIsAccepted
poker_is_accepted n least limit =
    let back = poker_is_read_back n least limit in
    let lowest = tables_lowest (poker n) (stands_for_whole_game (canon (poker n)) (poker n) back.0).1 in
    let none = none_found (game_fault (tables_of (poker n)) (poker n).tree) (poker_has_no_fault n least limit) in
    let sound = (game_first (tables_of (poker n)) (poker n).tree lowest).none.0 none in
    record { readable = record { length_within = poker_is_short n least limit; stands = back.0 }; numbers = sound.0; recall = sound.1 }

pub drills_succeed : DrillsSucceed
drills_succeed words told cards settings rows is =
    let range = cards_in_range.of_drill words cards settings rows is in
    let computed : program words told ≡ Some (success (solved settings (poker cards))) =
    ap (λ command. answer_of command told) is
    ∙ ap (λ fault. Some (game_answer (solved settings) (unless_faulty fault (poker cards)))) (poker_has_no_fault cards range.some range.few) in
    record {
      meant = λ answer. (
        λ means. same_Some answer (success (solved settings (poker cards)))
            (sym ((meaning_computed words told answer).0 means) ∙ computed),
        λ same. (meaning_computed words told answer).1 (computed ∙ ap Some (sym same)),
      );
      computed = computed;
    }

pub drills_have_bounds : DrillsHaveTheirBounds
drills_have_bounds words cards settings rows is some =
    let range = cards_in_range.of_drill words cards settings rows is in
    let asked = settings_in_range.of_drill words cards settings rows is in
    played_games_have_bounds Plain (canon (poker cards)) (poker cards) settings
    (poker_is_accepted cards range.some range.few) some asked.some_scale
