use Rattle.std.proofs.Common.{◌≡◌, length, take, rules, arith}
use Rattle.std.proofs.lemmas.List.{length-take}
use Rattle.xg_io.proofs.Pages.{waiting-put}
use Rattle.xg_io.proofs.page.Page.keep.Goals as goal

pub returns-clause-waiting : goal.returns-clause-waiting
returns-clause-waiting g c =
    let is : length (take c.min-n.result c.args.piece.now) ≡ c.min-n.result = omega (arith, length-take c.min-n.result c.args.piece.now, c.min-n.ensures) in
    rw c.copy_from_slice.ensures.after (waiting-put c.args.self.now.bytes (take c.min-n.result c.args.piece.now) c.args.self.now.start c.args.self.now.end
    c.min-n.result c.args.self.now.order (search rules) is)
