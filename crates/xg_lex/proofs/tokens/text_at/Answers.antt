use Rattle.std.proofs.Common.{◌≡◌, ◌+◌, Ok, sym, refl, ap, ◌∙◌, arith}
use Rattle.def_file_tokens.specs.declared.Token.TheVariants.{Text}
use Rattle.def_file_tokens.specs.Tokens.{span, text_from}
use Rattle.xg_lex.proofs.Closing.{closing_from-at_once}
use Rattle.xg_lex.proofs.tokens.text_at.Goals as goal

pub returns-then-is_empty_text-clause-value : goal.returns-then-is_empty_text-clause-value
returns-then-is_empty_text-clause-value c =
    let start = c.args.start in
    let empty = c.if-is_empty_text.ensures.0 refl in
    let behind : start + 2 ≡ start + 1 + 1 = omega arith in
    ap (λ n. Ok (span Text start n)) behind
    ∙ sym (ap (text_from start) (closing_from-at_once c.args.bytes.now start empty.0 c.requires.mark empty.1))
