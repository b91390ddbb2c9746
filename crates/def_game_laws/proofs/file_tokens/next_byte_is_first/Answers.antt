use Rattle.def_file_tokens.proofs.ByteLemmas.{byte_from-first, first-byte_from}
use Rattle.def_game_laws.proofs.file_tokens.next_byte_is_first.Goals as goal

pub returns : goal.returns
returns c whole at b within = (byte_from-first whole at within b, λ (place, first, is). first-byte_from whole at within b place first is)
