use Rattle.std.proofs.Common.{arith}
use Rattle.def_canon.specs.Canon.{action_pieces, chance_pieces}
use Rattle.xg_gen.proofs.Actions.{chance_at, named_at}
use Rattle.xg_gen.proofs.Written.{first_piece, then_piece}
use Rattle.xg_gen.proofs.lines.put_action.Goals as goal

pub returns-in_err-put_text-clause-text : goal.returns-in_err-put_text-clause-text
unfolding action_pieces
returns-in_err-put_text-clause-text g c = grind (arith, first_piece, then_piece, named_at)

pub returns-in-Chance-clause-text : goal.returns-in-Chance-clause-text
unfolding action_pieces chance_pieces
returns-in-Chance-clause-text g c = grind (arith, first_piece, then_piece, named_at, chance_at)

pub returns-in-One : goal.returns-in-One
unfolding action_pieces chance_pieces
returns-in-One g c = grind (arith, named_at)
