use Rattle.std.proofs.Common.{ℕ, ◌+◌, List, [], ◌∷◌, ◌++◌, ◌∙◌, length, take, sym, ap, subst, arith, length-drop, rules}
use Rattle.std.proofs.lemmas.Slice.{between_to_end}
use Rattle.def_file_tokens.specs.Texts.{escaped}
use Rattle.xg_io.proofs.KnownBytesInPieces.{Progress}
use Rattle.def_outside.specs.Sinks.{Writes}
use Rattle.xg_gen.proofs.Marks.{to_first_mark, no_mark}
use Rattle.xg_io.proofs.Pieces.{fails, finishes, goes_on}
use Rattle.xg_gen.proofs.tokens.put_escaped.Goals as goal

pub returns-in_err-put_marked-clause-text : goal.returns-in_err-put_marked-clause-text
returns-in_err-put_marked-clause-text g c =
    let rest = c.marks.rest.now in
    let k = c.in-Some.mark in
    let fact = fails _ (g.O.Sink.written c.marks.out) (g.O.Sink.written c.put_marked.new.out) (escaped c.args.bytes.now) _ (take k rest ++ 92 ∷ 34 ∷ []) _
    c.marks.invariant.so_far
    (to_first_mark k rest c.in-Some.ensures.0 c.in-Some.ensures.1) c.in_err-put_marked.ensures.text in
    search (rules, fact)

pub marks-preserved : goal.marks-preserved
marks-preserved g c =
    let rest = c.marks.rest.now in
    let k = c.in-Some.mark in
    let high = c.in-Some.ensures.0.high in
    let tail = between_to_end rest (k + 1) (length rest) (omega arith) in
    record {
      so_far = subst (λ (t : List ℕ). Progress (g.O.Sink.written c.args.out.now) (g.O.Sink.written c.put_marked.new.out) (escaped c.args.bytes.now) (escaped t))
          (sym tail)
          (goes_on _ (g.O.Sink.written c.marks.out) _ (escaped c.args.bytes.now) _ (take k rest ++ 92 ∷ 34 ∷ []) _ c.marks.invariant.so_far
          (to_first_mark k rest c.in-Some.ensures.0 c.in-Some.ensures.1) c.in_ok-put_marked.ensures.text);
      within = omega (arith, ap length tail, length-drop (k + 1) rest, c.marks.invariant.within);
      blameless = c.in_ok-put_marked.ensures.cause ∙ c.marks.invariant.blameless;
    }

pub returns-clause-text : goal.returns-clause-text
returns-clause-text g c =
    let written : Writes (g.O.Sink.written c.marks.out) (g.O.Sink.written c.write_all.new.sink) c.marks.rest.now c.write_all.result = search rules in
    finishes _ (g.O.Sink.written c.marks.out) _ (escaped c.args.bytes.now) _ c.write_all.result c.marks.invariant.so_far
    (subst (λ (t : List ℕ). Writes (g.O.Sink.written c.marks.out) (g.O.Sink.written c.write_all.new.sink) t c.write_all.result)
    (sym (no_mark c.marks.rest.now c.in_default.ensures)) written)
