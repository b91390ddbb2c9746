use Rattle.std.proofs.Common.{refl}
use Rattle.std.specs.Fmt.{digits}
use Rattle.def_fraction.specs.Divisors.{gcd}
use Rattle.def_fraction.specs.Fraction.{fraction_of}
use Rattle.def_fraction.specs.Reading.{body_after, body_of, decimal_of, literal_of, power_of, read_as_literal, read_as_whole, value_of}
use Rattle.def_file_tokens.specs.Texts.{closing_from, escaped, unescaped}
use Rattle.def_file_tokens.specs.Tokens.{byte_from, next_from, token_at}
use Rattle.def_file.specs.Reading.{action_at, actions_at, actions_from, behind_head, chance_entry_at, close_at, entries_from, entry_at, game_at, head_at}
use Rattle.def_file.specs.Reading.{judged, literal_at, name_at, names_from, next_is, nothing_at, outcome_mention_at, payoff_at, payoffs_at, payoffs_from}
use Rattle.def_file.specs.Reading.{personal_entry_at, prologue_at, read_as_set, set_mention_at, set_number_at, terminal_entry_at, text_at, token_where}
use Rattle.def_file.specs.Reading.{whole_at}
use Rattle.def_cert_text.specs.Fields.{items_text, read_field}
use Rattle.def_cert_text.specs.Formats.{each_fits, each_items, read_each, read_last, read_number, read_row}
use Rattle.def_check.specs.Accepting.{read_as_game}
use Rattle.def_program_rows.proofs.ten_file_rows.Goals as goal

pub returns : goal.returns
unfolding digits gcd fraction_of body_after body_of decimal_of literal_of power_of read_as_literal read_as_whole value_of closing_from escaped unescaped
    byte_from next_from token_at action_at actions_at actions_from behind_head chance_entry_at close_at entries_from entry_at game_at head_at judged literal_at
    name_at names_from next_is nothing_at outcome_mention_at payoff_at payoffs_at payoffs_from personal_entry_at prologue_at read_as_set set_mention_at
    set_number_at terminal_entry_at text_at token_where whole_at items_text read_field each_fits each_items read_each read_last read_number read_row
    read_as_game
returns c = record { ten = refl }
