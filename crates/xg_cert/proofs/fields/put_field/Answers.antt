use Rattle.xg_cert.specs.declared.fields.TheConstants.{SHORT}
use Rattle.xg_cert.proofs.AtOnce.{in_front, same_text}
use Rattle.xg_cert.proofs.fields.put_field.Goals as goal

pub returns-then-count-lt-SHORT-clause-text : goal.returns-then-count-lt-SHORT-clause-text
returns-then-count-lt-SHORT-clause-text g c =
    same_text _ _ _ _ c.write_all.result (rw c.copy_from_slice.ensures.after (in_front c.args.field.now c.args.separator SHORT c.if-count-lt-SHORT.true))
    c.write_all.ensures.appended c.write_all.ensures.prefix
