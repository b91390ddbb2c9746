use Rattle.std.proofs.Common.{sym, subst}
use Rattle.def_tree.specs.Rules.{Fits}
use Rattle.xg_tree.proofs.SizesLemmas.{fits_iff}
use Rattle.xg_tree.proofs.builder.Builder.fits.Goals as goal

pub returns : goal.returns
returns c =
    let iff = fits_iff c.self.inside.nodes.items c.self.inside.sizes c.args.node c.self.invariant.joins in (
      λ yes. subst (λ nodes. Fits nodes c.args.node) c.self.view_is (iff.0 (c.fits.ensures.0 yes)),
      λ fits. c.fits.ensures.1 (iff.1 (subst (λ nodes. Fits nodes c.args.node) (sym c.self.view_is) fits)),
    )
