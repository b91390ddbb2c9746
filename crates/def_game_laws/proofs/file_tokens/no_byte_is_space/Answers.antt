use Rattle.def_file_tokens.proofs.ByteLemmas.{byte_from-space, space-byte_from}
use Rattle.def_game_laws.proofs.file_tokens.no_byte_is_space.Goals as goal

pub returns : goal.returns
returns c whole at within = (byte_from-space whole at within, space-byte_from whole at within)
