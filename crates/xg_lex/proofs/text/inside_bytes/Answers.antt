use Rattle.std.proofs.Common.{sym, ◌∙◌}
use Rattle.std.proofs.lemmas.Bool.{eqb-true}
use Rattle.xg_lex.proofs.Escapes.{unescaped-empty}
use Rattle.xg_lex.proofs.text.inside_bytes.Goals as goal

pub returns-then-is_empty : goal.returns-then-is_empty
returns-then-is_empty c =
    c.new.ensures.items ∙ unescaped-empty c.args.raw.now (eqb-true _ _ (sym c.is_empty.ensures ∙ c.if-is_empty.true))
