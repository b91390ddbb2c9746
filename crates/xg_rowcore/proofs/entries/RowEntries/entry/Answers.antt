use Rattle.std.proofs.Common.{◌<◌, length, rules, ◌∙◌, arith}
use Rattle.std.proofs.lemmas.Int.{to_z-of_z}
use Rattle.std.proofs.lemmas.Grind.{get_or_default_zero}
use mir.Syntax.{w128}
use mir.Val.{SFits}
use Rattle.xg_rowcore.proofs.Viewed.{amount_seen, counted, row_seen}
use Rattle.xg_rowcore.proofs.entries.RowEntries.entry.Goals as goal

pub index-requires : goal.index-requires
index-requires c =
    omega (arith, counted _ _ c.self.invariant.0 c.self.view_is, c.requires)

pub get-requires : goal.get-requires
get-requires c =
    omega (arith, counted _ _ c.self.invariant.0 c.self.view_is, c.requires, c.self.invariant.0)

pub returns-clause-row : goal.returns-clause-row
returns-clause-row c =
    let rows = c.self.inside.rows.items in
    let below : c.args.i < length rows = omega (arith, counted _ _ c.self.invariant.0 c.self.view_is, c.requires) in
    c.index.ensures ∙ get_or_default_zero c.self.inside.rows.items c.args.i c.index.result.now below
    ∙ row_seen _ _ c.self.invariant.0 c.self.view_is c.args.i

pub returns-clause-amount : goal.returns-clause-amount
returns-clause-amount c =
    let rows = c.self.inside.rows.items in
    let below : c.args.i < length rows = omega (arith, counted _ _ c.self.invariant.0 c.self.view_is, c.requires) in
    let fits : SFits w128 c.get.result = search rules in
    to_z-of_z w128 c.get.result fits ∙ c.get.ensures ∙ amount_seen _ _ c.self.invariant.0 c.self.view_is c.args.i below
