use Rattle.std.proofs.Common.{List, subst}
use Rattle.def_file_tokens.specs.Spelling.{Piece}
use Rattle.def_outside.specs.Sinks.{Writes}
use Rattle.def_canon.specs.Canon.{each, text_of_pieces}
use Rattle.xg_gen.proofs.ItemTokens.{outcome_tokens}
use Rattle.xg_gen.proofs.lines.put_outcome.Goals as goal

pub returns-clause-text : goal.returns-clause-text
unfolding each
returns-clause-text g c =
    subst (λ (ps : List Piece). Writes (g.O.Sink.written c.args.out.now) (g.O.Sink.written c.put_items.new.out) (text_of_pieces ps) c.put_items.result)
    (outcome_tokens c.args.game.now.outcomes c.args.outcome _ _ _ _ c.if-outcome-eq0.false c.outcome_number.ensures c.outcome_name.ensures
    c.payoff.ensures c.payoff-2.ensures)
    c.put_items.ensures.text
