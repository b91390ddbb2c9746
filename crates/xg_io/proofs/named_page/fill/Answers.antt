use Rattle.std.proofs.Common.{List, ℕ, subst}
use Rattle.std.specs.Prelude.{Option, OnErr}
use Rattle.def_outside.specs.Sinks.{AppendsPrefix}
use Rattle.std.specs.Io.KnownBytes.{append_known}
use Rattle.xg_io.specs.Waiting.{waiting_in}
use Rattle.xg_io.proofs.Pages.{nothing_waits}
use Rattle.xg_io.proofs.named_page.fill.Goals as goal

pub returns-clause-prefix : goal.returns-clause-prefix
returns-clause-prefix g c =
    subst (λ (known : Option (List ℕ)). OnErr c.write-written.result (AppendsPrefix known
    (append_known (g.O.Sink.written c.write-written.new.out.page.sink.now)
    (waiting_in c.write-written.new.out.page.bytes c.write-written.new.out.page.start c.write-written.new.out.page.end))
    (g.T.Writable.bytes c.args.text.now)))
    (nothing_waits _ _ c.args.page.bytes c.args.page.start c.args.page.end c.requires.before c.requires.empty) c.write-written.ensures.prefix
