use Rattle.std.proofs.Common.{◌≡◌, sym, ◌∙◌}
use Rattle.def_file_tokens.specs.Tokens.{byte_from}
use Rattle.def_file_tokens.proofs.ByteLemmas.{byte_from-first, first-byte_from, byte_from-space, space-byte_from}
use Rattle.xg_lex.proofs.NextByte.{byte_here}
use Rattle.xg_lex.proofs.tokens.Tokens.next_byte.Goals as goal

-- what was read is the next byte
byte_is : (c : goal.After-copied) → c.copied.result ≡ byte_from c.self.inside.bytes.now c.self.inside.at
byte_is c =
    let bytes = c.self.inside.bytes.now in
    let at = c.self.inside.at in
    let found = c.get.ensures.lookup in
    c.copied.ensures ∙ byte_here bytes at c.self.inside.start c.get.result c.self.invariant.space found.0 found.1

pub returns-clause-exact : goal.returns-clause-exact
returns-clause-exact c = rw (← c.self.view_is) (byte_is c)

pub returns-clause-first : goal.returns-clause-first
returns-clause-first c =
    let bytes = c.self.inside.bytes.now in
    let at = c.self.inside.at in
    rw (← c.self.view_is)
    (λ b. (
      λ is. byte_from-first bytes at c.self.invariant.within b (sym (byte_is c) ∙ is),
      λ (place, first, is). byte_is c
          ∙ first-byte_from bytes at c.self.invariant.within b place first is,
    ))

pub returns-clause-none : goal.returns-clause-none
returns-clause-none c =
    let bytes = c.self.inside.bytes.now in
    let at = c.self.inside.at in
    rw (← c.self.view_is) (
      λ is. byte_from-space bytes at c.self.invariant.within (sym (byte_is c) ∙ is),
      λ space. byte_is c
          ∙ space-byte_from bytes at c.self.invariant.within space,
    )
