-- The texts that are written of a file's game: the certificate of its solution, and what `info` tells.
--     game_head game settings      the game's numbers, with what is asked
--     game_outcome variant game settings   what the rounds leave
--     game_certificate variant game settings   its numbers, as a certificate has them
--     played_text variant game settings   their text: a certificate of version 2, or the text of a run of CFR+
--     solve_text game settings   the text of plain rounds
--     info_text game             its title and players, and its numbers
use Rattle.std.specs.Prelude.{ℕ, List, [], ◌∷◌, ◌++◌, codes, length}
use Rattle.def_sums.specs.Limits.{most_scale}
use Rattle.def_tree.specs.Tree.{prefix, node_count, leaf_count}
use Rattle.def_file_tokens.specs.Texts.{escaped}
use Rattle.def_file.specs.Content.{GameFile}
use Rattle.def_game_scale.specs.Scale.{game_mass, game_unit}
use Rattle.def_game_scale.specs.Tables.{game_sum}
use Rattle.def_game_numbers.specs.Numbers.{tables_of}
use Rattle.def_plan.specs.Form.{SequenceForm, sequence_count}
use Rattle.def_sequence_form.specs.Form.{form_of_game}
use Rattle.def_reply.specs.Outcome.{Head, Outcome}
use Rattle.def_plus.specs.declared.Variant.{Variant}
use Rattle.def_plus.specs.declared.Variant.TheVariants.{Plain, Plus}
use Rattle.def_plus_run.specs.VariantRun.{outcome_of}
use Rattle.def_cert_verdict.specs.Certificate.{Certificate}
use Rattle.def_cert_accepted.specs.OfOutcome.{certificate_of}
use Rattle.def_cert_text.specs.Versions.{VersionedCertificate}
use Rattle.def_cert_text.specs.CertText.{head_text, versioned_text}
use Rattle.def_cert_text.specs.PlusText.{plus_text}
use Rattle.def_cert_versions.specs.Verdict.{in_version_two}
use Rattle.def_command.specs.declared.Settings.{Settings}

abbrev pub line_feed : List ℕ
line_feed = 10 ∷ []

-- no rounds, at the greatest scale
abbrev pub no_rounds : Settings
no_rounds = record { rounds = 0; every = 1; scale = most_scale }

abbrev pub form_of_file : GameFile → SequenceForm
form_of_file game = form_of_game (tables_of game) game.tree

abbrev pub head_asked : GameFile → SequenceForm → Settings → Head
head_asked game form settings = record {
  nodes = node_count game.tree;
  leaves = leaf_count (prefix game.tree);
  sets_one = length form.sets_one;
  sets_two = length form.sets_two;
  sequences_one = sequence_count form.sets_one;
  sequences_two = sequence_count form.sets_two;
  unit = game_unit (tables_of game) game.tree;
  sum = game_sum (tables_of game) game.tree;
  mass = game_mass (tables_of game) game.tree;
  rounds = settings.rounds;
  every = settings.every;
  scale = settings.scale;
}

abbrev pub game_head : GameFile → Settings → Head
game_head game settings = head_asked game (form_of_file game) settings

abbrev pub game_outcome : Variant → GameFile → Settings → Outcome
game_outcome variant game settings = outcome_of variant (form_of_file game) (game_head game settings)

abbrev pub game_certificate : Variant → GameFile → Settings → Certificate
game_certificate variant game settings = certificate_of (form_of_file game) (game_outcome variant game settings)

-- the bounds of plain rounds are written as a certificate; those of CFR+ in the same lines below a line of their own
abbrev pub text_of_variant : Variant → VersionedCertificate → List ℕ
text_of_variant Plain c = versioned_text c
text_of_variant Plus c = plus_text c

abbrev pub played_text : Variant → GameFile → Settings → List ℕ
played_text variant game settings = text_of_variant variant (in_version_two (game_certificate variant game settings))

abbrev pub solve_text : GameFile → Settings → List ℕ
solve_text game settings = played_text Plain game settings

-- a text between quotation marks
abbrev pub between_marks : List ℕ → List ℕ
between_marks text = 34 ∷ (escaped text ++ 34 ∷ [])

-- the lines before the game's numbers
abbrev pub info_front : GameFile → List ℕ
info_front game =
    codes "title " ++ (between_marks game.prologue.title ++ (line_feed
    ++ (codes "players " ++ (between_marks game.prologue.one
    ++ (codes " " ++ (between_marks game.prologue.two ++ line_feed))))))

abbrev pub info_text : GameFile → List ℕ
info_text game = info_front game ++ head_text (game_head game no_rounds)
