use Rattle.std.proofs.Common.{◌≤◌, ◌∷◌, [], ◌++◌, ℕ, List, map, length, ap, ◌∙◌, arith}
use Rattle.std.proofs.Math.ListN.{length-map}
use Rattle.std.proofs.lemmas.Result.{on_ok_weaker}
use Rattle.def_file.specs.Content.{Action, SetEntry}
use Rattle.def_file.specs.Faults.{set_place_of}
use Rattle.xg_record.specs.Entry.{actions_seen}
use Rattle.xg_game.specs.Sets.{set_of}
use Rattle.xg_game.proofs.TableLemmas.{KnownSet, set_added, set_place, within_more, within_put}
use Rattle.xg_game.proofs.sets.SetsOfKind.add.Goals as goal

pub push-requires-clause-new : goal.push-requires-clause-new
push-requires-clause-new c =
    set_place c.self.inside.actions c.args.number c.self.inside.sets ∙ ap (set_place_of c.args.number) c.self.view_is ∙ c.requires.new

pub push-requires-clause-room : goal.push-requires-clause-room
push-requires-clause-room c =
    let es : List (ℕ × KnownSet) = c.self.inside.sets in
    omega (arith, length-map es (set_of c.self.inside.actions), ap (length {A = SetEntry}) c.self.view_is, c.requires.room)

pub invariant_of-self : goal.invariant_of-self
invariant_of-self c =
    within_more (length c.self.inside.actions) (length c.add.new.self) c.self.inside.sets c.add.ensures.kept c.self.invariant

pub invariant_of-self-2 : goal.invariant_of-self-2
invariant_of-self-2 c =
    let known : KnownSet = record { name = c.args.name.now; value = c.in_ok-span.span } in
    let span = c.in_ok-span.ensures.span in
    let more : length c.self.inside.actions ≤ length c.add.new.self = c.add.ensures.kept in
    within_put c.push.result (length c.self.inside.actions) (length c.add.new.self) c.self.inside.sets c.push.new.self (c.args.number, known) c.self.invariant
    more (omega (arith, more, span.0, span.1), omega (arith, span.1)) c.push.ensures.ok c.push.ensures.err

pub returns : goal.returns
returns c =
    let all : List Action = c.self.inside.actions in
    let known : KnownSet = record { name = c.args.name.now; value = c.in_ok-span.span } in
    let span = c.in_ok-span.ensures.span in
    on_ok_weaker c.push.result (λ put.
    ap (map (set_of c.add.new.self)) put
    ∙ set_added all (actions_seen c.args.actions.now) c.add.new.self c.self.inside.sets c.args.number known c.self.invariant c.in_ok-span.ensures.ok span.0
    span.1
    ∙ (λ j. c.self.view_is j ++ record { number = c.args.number; name = c.args.name.now; actions = actions_seen c.args.actions.now } ∷ []))
    c.push.ensures.ok
