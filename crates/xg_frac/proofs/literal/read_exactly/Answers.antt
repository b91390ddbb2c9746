use Rattle.std.proofs.Common.{Some, None, ⊎_elim, inl, inr, ap, ◌∙◌}
use Rattle.std.specs.Option.{option_map}
use Rattle.def_fraction.specs.Reading.{body_of}
use Rattle.xg_frac.specs.Scan.{quotient_of}
use Rattle.xg_frac.proofs.ReadLemmas.{read_as_literal-answer, zero_answer, past_answer, within_answer}
use Rattle.xg_frac.proofs.literal.read_exactly.Goals as goal

pub returns-in_default : goal.returns-in_default
returns-in_default c =
    read_as_literal-answer c.args.bytes.now None c.split_sign-signed.result.negative
    (c.in_default.ensures ∙ ap (λ xs. option_map quotient_of (body_of xs)) c.split_sign-signed.ensures.rest) c.split_sign-signed.ensures.negative

pub returns-then-parts-eq0 : goal.returns-then-parts-eq0
returns-then-parts-eq0 c =
    zero_answer c.split_sign-signed.result.negative c.in-Some.parts c.if-parts-eq0.true
    ∙ read_as_literal-answer c.args.bytes.now (Some c.in-Some.parts) c.split_sign-signed.result.negative
    (c.in-Some.ensures ∙ ap (λ xs. option_map quotient_of (body_of xs)) c.split_sign-signed.ensures.rest) c.split_sign-signed.ensures.negative

pub returns-then-parts-ge-PAST : goal.returns-then-parts-ge-PAST
returns-then-parts-ge-PAST c =
    past_answer c.split_sign-signed.result.negative c.in-Some.parts c.if-parts-eq0.false (⊎_elim (λ p. inl p) (λ p. inr p.1) c.then-parts-ge-PAST.either)
    ∙ read_as_literal-answer c.args.bytes.now (Some c.in-Some.parts) c.split_sign-signed.result.negative
    (c.in-Some.ensures ∙ ap (λ xs. option_map quotient_of (body_of xs)) c.split_sign-signed.ensures.rest) c.split_sign-signed.ensures.negative

pub returns : goal.returns
returns c =
    within_answer c.split_sign-signed.result.negative c.in-Some.parts c.reduced.result c.ok_or.result c.if-parts-eq0.false c.if-parts-ge-PAST.false
    c.if-parts-ge-PAST-2.false c.reduced.ensures c.ok_or.ensures.value
    ∙ read_as_literal-answer c.args.bytes.now (Some c.in-Some.parts) c.split_sign-signed.result.negative
    (c.in-Some.ensures ∙ ap (λ xs. option_map quotient_of (body_of xs)) c.split_sign-signed.ensures.rest) c.split_sign-signed.ensures.negative
