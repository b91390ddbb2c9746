use Rattle.def_file_tokens.proofs.TextLemmas.{inside_is_escaped, escaped_is_inside}
use Rattle.def_game_laws.proofs.file_tokens.one_spelling.Goals as goal

pub returns : goal.returns
returns c inside bytes = (λ p. inside_is_escaped inside bytes p.0 p.1, λ p. escaped_is_inside inside bytes p.0 p.1)
