use Rattle.std.proofs.Common.{◌≡◌, Ok, Err, sym, ap, ◌∙◌}
use Rattle.std.proofs.lemmas.Result.{err_from_is_err_and}
use Rattle.def_file_tokens.specs.Spelling.{IsLexemeFrom}
use Rattle.def_file_tokens.specs.Tokens.{next_from}
use Rattle.def_file_tokens.proofs.TokenLemmas.{next_from-sound}
use Rattle.xg_lex.proofs.TokenAt.{next_here, quoted_of, inside_of}
use Rattle.xg_lex.proofs.tokens.Tokens.next.Goals as goal

pub returns-in_err-lexeme-clause-exact : goal.returns-in_err-lexeme-clause-exact
returns-in_err-lexeme-clause-exact c =
    let bytes = c.self.inside.bytes.now in
    let at = c.self.inside.at in
    let p = err_from_is_err_and c.from_residual.result c.from_residual.ensures.1 in
    rw (← c.self.view_is)
    (p.1 ∙ ap Err p.2 ∙ c.in_err-lexeme.ensures.value ∙ next_here bytes at c.self.inside.start c.self.invariant.space)

-- the token that was read is the next one
next_is : (c : goal.After-self-2-1) → Ok c.in_ok-lexeme.lexeme ≡ next_from c.self.inside.bytes.now c.self.inside.at
next_is c =
    let bytes = c.self.inside.bytes.now in
    let at = c.self.inside.at in
    c.in_ok-lexeme.ensures.value ∙ next_here bytes at c.self.inside.start c.self.invariant.space

spelled : (c : goal.After-self-2-1) → IsLexemeFrom c.self.inside.bytes.now c.self.inside.at c.in_ok-lexeme.lexeme
spelled c = next_from-sound c.self.inside.bytes.now c.self.inside.at c.self.invariant.within c.in_ok-lexeme.lexeme (sym (next_is c))

pub returns-clause-exact : goal.returns-clause-exact
returns-clause-exact c = rw (← c.self.view_is) (next_is c)

pub returns-clause-spelled : goal.returns-clause-spelled
returns-clause-spelled c = rw (← c.self.view_is) (spelled c)

pub returns-clause-inside : goal.returns-clause-inside
returns-clause-inside c = rw (← c.self.view_is) (inside_of c.self.inside.bytes.now c.self.inside.at c.in_ok-lexeme.lexeme (spelled c))

pub returns-clause-quoted : goal.returns-clause-quoted
returns-clause-quoted c = quoted_of c.self.inside.bytes.now c.self.inside.at c.in_ok-lexeme.lexeme (spelled c)
