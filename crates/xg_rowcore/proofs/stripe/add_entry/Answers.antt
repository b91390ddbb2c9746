use Rattle.std.proofs.Common.{ap, refl}
use Rattle.std.proofs.lemmas.Int.{to_z-of_z}
use Rattle.std.proofs.Math.Nat.{mod-lt}
use mir.Syntax.{w128}
use Rattle.def_history.specs.History.{stripe_of}
use Rattle.xg_rowcore.specs.Amounts.{AmountList}
use Rattle.xg_rowcore.proofs.Adding.{grown_by_own}
use Rattle.xg_rowcore.proofs.stripe.add_entry.Goals as goal

pub returns : goal.returns
returns c =
    rw (ap (λ (l : AmountList). l.list) c.add.ensures, c.place_of.ensures, to_z-of_z w128 c.args.amount c.ranges.amount)
    (grown_by_own (stripe_of c.args.stripes c.args.row) c.args.stripes c.args.row c.args.amount c.args.totals.now.list
    (mod-lt c.args.row c.requires.stripes) refl c.requires.there)
