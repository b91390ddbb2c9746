use Rattle.std.proofs.Common.{◌≡◌, None, map, option_map, string_bytes, drop}
use Rattle.def_command.specs.Grammar.{takes_nothing, read_words}
use Rattle.xg_command.specs.Names.{name_value, option_value}
use Rattle.xg_command.specs.Values.{taken_value}
use Rattle.xg_command.proofs.reading.read_words.Given as goal

-- what follows goes on from what was read
abbrev pub invariant-loop-word : goal.invariant-loop-word
invariant-loop-word l = read_words (name_value l.name) takes_nothing None (map string_bytes l.words)
    ≡ read_words (name_value l.name) (taken_value l.reading) (option_map option_value l.reading.waiting)
    (map string_bytes (drop l.word-index l.words))
