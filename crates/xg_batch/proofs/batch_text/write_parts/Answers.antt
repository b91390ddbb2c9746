use Rattle.std.proofs.Common.{◌+◌, ◌<◌, ◌++◌, ◌∙◌, length, ap, arith, rules, subst}
use Rattle.std.specs.Io.KnownBytes.{append_known}
use Rattle.def_outside.specs.Sinks.{AppendsPrefix}
use Rattle.def_program.specs.BatchText.{file_line}
use Rattle.xg_batch.specs.Texts.{part_bytes}
use Rattle.xg_batch.specs.declared.batch_text.Part.{Part}
use Rattle.xg_batch.proofs.BatchTexts.{all_written, part_cut_off, part_written}
use Rattle.xg_batch.proofs.batch_text.write_parts.Goals as goal

pub returns-in_err-write_part-clause-text : goal.returns-in_err-write_part-clause-text
returns-in_err-write_part-clause-text g c =
    let low : c.parts.i < length c.args.parts.now = c.parts-test.true in
    let fact = part_cut_off (g.O.Sink.written c.args.out.now) (g.O.Sink.written c.write_part.new.out) c.args.parts.now c.parts.i
    (g.O.Sink.written c.parts.out) _ low c.parts.invariant.so_far
    (subst (λ (it : Part). AppendsPrefix (g.O.Sink.written c.parts.out) (g.O.Sink.written c.write_part.new.out)
    (file_line (c.parts.i + 1) ++ part_bytes it)) c.index-parts-i.is c.in_err-write_part.ensures.text) in
    search (rules, fact)

pub parts-preserved : goal.parts-preserved
parts-preserved g c =
    let low : c.parts.i < length c.args.parts.now = c.parts-test.true in
    record {
      so_far = part_written (g.O.Sink.written c.args.out.now) (g.O.Sink.written c.write_part.new.out) c.args.parts.now c.parts.i
          (g.O.Sink.written c.parts.out) _ low c.parts.invariant.so_far
          (c.in_ok-write_part.ensures.text
          ∙ ap (λ (it : Part). append_known (g.O.Sink.written c.parts.out) (file_line (c.parts.i + 1) ++ part_bytes it)) c.index-parts-i.is);
      blameless = c.in_ok-write_part.ensures.cause ∙ c.parts.invariant.blameless;
    }

pub returns-clause-text : goal.returns-clause-text
returns-clause-text g c =
    all_written _ _ c.args.parts.now c.parts.i (omega (arith, c.parts-test.false)) c.parts.invariant.so_far
