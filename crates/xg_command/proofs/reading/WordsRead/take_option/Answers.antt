use Rattle.std.proofs.Common.{Some, None, sym, ap, ◌∙◌}
use Rattle.std.specs.Option.{option_map}
use Rattle.xg_command.specs.Names.{name_value, option_value}
use Rattle.xg_command.specs.Values.{taken_value}
use Rattle.xg_command.proofs.SplitAtFirstEquals.{parts_around, none_around}
use Rattle.xg_command.proofs.OptionWord.{absent, joined_option, option_alone}
use Rattle.xg_command.proofs.reading.WordsRead.take_option.Goals as goal

pub returns-in_err-option-in-Some : goal.returns-in_err-option-in-Some
returns-in_err-option-in-Some c =
    let around = parts_around c.args.word.now c.split_once.result c.split_once.ensures.cases _ c.in-Some.is in
    let named = sym c.of_name.ensures ∙ ap (option_map option_value) (c.in_err-option-in-Some.was) in
    absent _ c.from_residual.result c.from_residual.ensures
    ∙ sym (joined_option (name_value c.args.name) (taken_value c.args.self.now) c.args.word.now None _ _ around named)

pub returns-in_err-option-in-None : goal.returns-in_err-option-in-None
returns-in_err-option-in-None c =
    let around = none_around c.args.word.now c.split_once.result c.split_once.ensures.cases c.in-None.is in
    let named = sym c.of_name-in-None.ensures ∙ ap (option_map option_value) (c.in_err-option-in-None.was) in
    absent _ c.from_residual-in_err-option-in-None.result c.from_residual-in_err-option-in-None.ensures
    ∙ sym (option_alone (name_value c.args.name) (taken_value c.args.self.now) c.args.word.now None around named)

pub returns-in_ok-option-in-Some : goal.returns-in_ok-option-in-Some
returns-in_ok-option-in-Some c =
    let around = parts_around c.args.word.now c.split_once.result c.split_once.ensures.cases _ c.in-Some.is in
    let named = sym c.of_name.ensures ∙ ap (option_map option_value) (c.in_ok-option-in-Some.was) in
    c.take_digits.ensures
    ∙ sym (joined_option (name_value c.args.name) (taken_value c.args.self.now) c.args.word.now
    (Some (option_value c.in_ok-option-in-Some.option)) _ _ around named)
