use Rattle.std.proofs.Common.{◌<◌, ℕ, List, length, option_map, sym, ap, ◌∙◌, arith}
use Rattle.std.proofs.Math.ListN.{length-map}
use Rattle.std.proofs.lemmas.Result.{on_ok_weaker}
use Rattle.def_file.specs.Adding.{kept_name}
use Rattle.def_file.specs.Content.{SetEntry, set_mention}
use Rattle.xg_record.specs.Entry.{actions_seen}
use Rattle.xg_game.specs.Sets.{set_of}
use Rattle.xg_game.proofs.TableLemmas.{KnownSet, set_noted, set_renamed, there, within_given}
use Rattle.xg_game.proofs.sets.SetsOfKind.note.Goals as goal

pub invariant_of-self : goal.invariant_of-self
invariant_of-self c =
    let es : List (ℕ × KnownSet) = c.self.inside.sets in
    let all = c.self.inside.actions in
    let noted = set_noted c.args.self.now (set_mention c.args.number c.args.name.now (option_map actions_seen c.args.actions.now)) c.in-Some.i
    (sym c.requires.place ∙ c.in-Some.is) in
    let within : c.in-Some.i < length es = omega (arith, noted.0, length-map es (set_of all), ap (length {A = SetEntry}) c.self.view_is) in
    let found = there es c.in-Some.i within in
    within_given c.name.result (length all) es c.name.new.self c.in-Some.i found.0 (kept_name found.0.1.name c.args.name.now) found.1 c.self.invariant
    (c.name.ensures.ok found.0 found.1) c.name.ensures.err

pub returns-in-Some : goal.returns-in-Some
returns-in-Some c =
    let es : List (ℕ × KnownSet) = c.self.inside.sets in
    let all = c.self.inside.actions in
    let noted = set_noted c.args.self.now (set_mention c.args.number c.args.name.now (option_map actions_seen c.args.actions.now)) c.in-Some.i
    (sym c.requires.place ∙ c.in-Some.is) in
    let within : c.in-Some.i < length es = omega (arith, noted.0, length-map es (set_of all), ap (length {A = SetEntry}) c.self.view_is) in
    let found = there es c.in-Some.i within in
    on_ok_weaker c.name.result
    (λ put. set_renamed all es c.name.new.self c.args.self.now c.in-Some.i found.0 c.args.name.now found.1 c.self.view_is put ∙ noted.1)
    (c.name.ensures.ok found.0 found.1)
