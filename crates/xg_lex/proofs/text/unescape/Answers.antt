use Rattle.std.proofs.Common.{sym, subst}
use Rattle.def_file_tokens.specs.Texts.{EndsPlainly}
use Rattle.def_file_tokens.proofs.TextLemmas.{EndsPlainly-unescaped}
use Rattle.xg_lex.proofs.text.unescape.Goals as goal

pub invariant_of-result : goal.invariant_of-result
invariant_of-result c = subst EndsPlainly (sym c.in_ok-bytes.ensures) (EndsPlainly-unescaped c.args.raw.now c.requires)
