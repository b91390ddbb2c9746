use Rattle.std.proofs.Common.{List, ◌∙◌, subst, sym}
use Rattle.std.specs.Prelude.{OnOk}
use Rattle.def_file.specs.Content.{Record}
use Rattle.xg_gen.specs.Taken.{GainsEntries, Takes}
use Rattle.xg_gen.proofs.HandAsPut.{hand_is}
use Rattle.xg_gen.proofs.Ranges.{no_hand, one_hand}
use Rattle.xg_gen.proofs.EntriesTakenInPieces.{adds_none}
use Rattle.xg_gen.proofs.poker.put_hand.Goals as goal

pub returns-then-i-j : goal.returns-then-i-j
returns-then-i-j c =
    subst (λ (rs : List Record). GainsEntries c.args.maker.now c.args.maker.now rs) (sym (no_hand c.args.n c.args.i c.args.j c.if-i-j.true))
    (adds_none c.args.maker.now)

pub put_all-requires-clause-takes : goal.put_all-requires-clause-takes
put_all-requires-clause-takes c =
    let same = hand_is c.args.n c.args.i c.args.j c.args.own.now c.in_ok-other.other c.args.common.now c.higher-won.result.now c.requires.own
    c.in_ok-other.ensures c.requires.common c.higher-won.ensures in
    subst (Takes c.args.maker.now) (one_hand c.args.n c.args.i c.args.j c.if-i-j.false ∙ sym same) c.requires.takes

pub returns : goal.returns
returns c =
    let same = hand_is c.args.n c.args.i c.args.j c.args.own.now c.in_ok-other.other c.args.common.now c.higher-won.result.now c.requires.own
    c.in_ok-other.ensures c.requires.common c.higher-won.ensures in
    subst (λ (rs : List Record). OnOk c.put_all.result (GainsEntries c.args.maker.now c.put_all.new.maker rs))
    (same ∙ sym (one_hand c.args.n c.args.i c.args.j c.if-i-j.false)) c.put_all.ensures
