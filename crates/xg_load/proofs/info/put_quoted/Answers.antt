use Rattle.def_file_tokens.specs.Texts.{escaped}
use Rattle.xg_load.proofs.Quoted.{escaped_more, quoted_whole}
use Rattle.xg_load.proofs.info.put_quoted.Goals as goal
use Rattle.std.proofs.Common.{arith}

pub loop-byte-init : goal.loop-byte-init
unfolding escaped
loop-byte-init c = c.in_ok-push.ensures.items

pub loop-byte-preserved : goal.loop-byte-preserved
loop-byte-preserved c =
    escaped_more c.args.text.now c.loop-byte.byte-index c.args.out.now.items c.loop-byte.out.items
    c.put_escaped.new.out.items (omega (arith, c.loop-byte-test.true, c.loop-byte.auto.byte-index-end))
    c.loop-byte.invariant c.in_ok-put_escaped.ensures

pub returns : goal.returns
returns c =
    quoted_whole c.args.text.now c.loop-byte.byte-index c.args.out.now.items c.loop-byte.out.items c.push-2.new.self.items
    (omega (arith, c.loop-byte-test.false, c.loop-byte.auto.byte-index-end)) c.loop-byte.invariant
    c.in_ok-push-2.ensures.items
