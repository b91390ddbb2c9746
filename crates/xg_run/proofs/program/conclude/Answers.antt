use Rattle.std.proofs.Common.{◌≡◌, ℕ, ◌≤◌, Bool, List, map, Option, Some, refl, sym, ap, arith, subst, ◌∙◌}
use Rattle.std.specs.Prelude.{All, IsTrue}
use Rattle.std.specs.Borrow.{Bor}
use Rattle.def_sums.specs.Limits.{most_workers}
use Rattle.def_outside.specs.Calls.{FilesCall, SinkCall}
use Rattle.xg_io.specs.Calls.{files_call, sink_call}
use Rattle.def_command.specs.Grammar as grammar
use Rattle.def_command.proofs.InRange.{cards_in_range}
use Rattle.def_file.specs.Content.{GameFile}
use Rattle.def_canon.specs.Canon.{canon}
use Rattle.def_canon.specs.Poker.{poker}
use Rattle.def_program.specs.Program.{solved, success}
use Rattle.def_program.specs.Meaning.{AllMean, FileMeans}
use Rattle.def_program_opens.specs.MayOpen.{MayOpen}
use Rattle.xg_command.specs.declared.command.Command.{Command}
use Rattle.xg_command.specs.Plain.{plain_value}
use Rattle.xg_command.specs.Values.{command_value}
use Rattle.xg_run.specs.Concludes.{Concludes}
use Rattle.xg_run.proofs.MadeEnds.{poker_is_told, text_told}
use Rattle.xg_run.proofs.SettingsWithinLimits.{batch_within, batch_workers_within, drill_allowed, plus_allowed, solve_allowed}
use Rattle.xg_run.proofs.WordsMeanTheirCommand.{by_command, by_none, few_named, of_each_name, told_of_names}
use Rattle.xg_run.proofs.program.conclude.Goals as goal

pub solve-requires-clause-allowed : goal.solve-requires-clause-allowed
solve-requires-clause-allowed g c κs at =
    let arm = c.in-Some-Solve in
    solve_allowed c.args.words.now arm.file.now arm.settings arm.rows
    (sym arm.ensures ∙ ap (λ (command : Command). Some (command_value command)) arm.field-0-is)

pub solve-requires-in-Some-Plus-clause-allowed : goal.solve-requires-in-Some-Plus-clause-allowed
solve-requires-in-Some-Plus-clause-allowed g c κs at =
    let arm = c.in-Some-Plus in
    plus_allowed c.args.words.now arm.file.now arm.settings arm.rows
    (sym arm.ensures ∙ ap (λ (command : Command). Some (command_value command)) arm.field-0-is)

pub drill-requires-clause-allowed : goal.drill-requires-clause-allowed
drill-requires-clause-allowed g c κs at =
    let arm = c.in-Some-Drill in
    drill_allowed c.args.words.now arm.cards arm.settings arm.rows
    (sym arm.ensures ∙ ap (λ (command : Command). Some (command_value command)) arm.field-0-is)

pub drill-requires-clause-cards : goal.drill-requires-clause-cards
drill-requires-clause-cards g c κs at =
    let arm = c.in-Some-Drill in
    let range = cards_in_range.of_drill c.args.words.now arm.cards arm.settings arm.rows
    (sym arm.ensures ∙ ap (λ (command : Command). Some (command_value command)) arm.field-0-is) in
    (range.some, range.few)

pub returns-in-Some-Solve : goal.returns-in-Some-Solve
returns-in-Some-Solve g c =
    let arm = c.in-Some-Solve in
    by_command (g.F.Files.told c.args.files.now) (files_call g.F.Files c.args.files.now c.solve.new.files)
    (sink_call g.O.Sink c.args.out.now c.solve.new.out) c.args.words.now
    (grammar.Solve arm.file.now arm.settings arm.rows)
    (sym arm.ensures ∙ ap (λ (command : Command). Some (command_value command)) arm.field-0-is)
    c.solve.result c.solve.ensures.concludes c.solve.ensures.opens

pub returns-in-Some-Plus : goal.returns-in-Some-Plus
returns-in-Some-Plus g c =
    let arm = c.in-Some-Plus in
    by_command (g.F.Files.told c.args.files.now) (files_call g.F.Files c.args.files.now c.solve-in-Some-Plus.new.files)
    (sink_call g.O.Sink c.args.out.now c.solve-in-Some-Plus.new.out) c.args.words.now
    (grammar.Plus arm.file.now arm.settings arm.rows)
    (sym arm.ensures ∙ ap (λ (command : Command). Some (command_value command)) arm.field-0-is)
    c.solve-in-Some-Plus.result c.solve-in-Some-Plus.ensures.concludes c.solve-in-Some-Plus.ensures.opens

pub returns-in-Some-Check : goal.returns-in-Some-Check
returns-in-Some-Check g c =
    let arm = c.in-Some-Check in
    by_command (g.F.Files.told c.args.files.now) (files_call g.F.Files c.args.files.now c.check.new.files)
    (sink_call g.O.Sink c.args.out.now c.check.new.out) c.args.words.now
    (grammar.Check arm.file.now arm.certificate.now)
    (sym arm.ensures ∙ ap (λ (command : Command). Some (command_value command)) arm.field-0-is)
    c.check.result c.check.ensures.concludes c.check.ensures.opens

pub returns-in-Some-Upgrade : goal.returns-in-Some-Upgrade
returns-in-Some-Upgrade g c =
    let arm = c.in-Some-Upgrade in
    by_command (g.F.Files.told c.args.files.now) (files_call g.F.Files c.args.files.now c.check-in-Some-Upgrade.new.files)
    (sink_call g.O.Sink c.args.out.now c.check-in-Some-Upgrade.new.out) c.args.words.now
    (grammar.Upgrade arm.file.now arm.certificate.now)
    (sym arm.ensures ∙ ap (λ (command : Command). Some (command_value command)) arm.field-0-is)
    c.check-in-Some-Upgrade.result c.check-in-Some-Upgrade.ensures.concludes c.check-in-Some-Upgrade.ensures.opens

pub returns-in-Some-Info : goal.returns-in-Some-Info
returns-in-Some-Info g c =
    let arm = c.in-Some-Info in
    by_command (g.F.Files.told c.args.files.now) (files_call g.F.Files c.args.files.now c.info.new.files)
    (sink_call g.O.Sink c.args.out.now c.info.new.out) c.args.words.now
    (grammar.Info arm.file.now)
    (sym arm.ensures ∙ ap (λ (command : Command). Some (command_value command)) arm.field-0-is)
    c.info.result c.info.ensures.concludes c.info.ensures.opens

pub returns-in-Some-Gen : goal.returns-in-Some-Gen
returns-in-Some-Gen g c =
    let arm = c.in-Some-Gen in
    let files : FilesCall = files_call g.F.Files c.args.files.now c.args.files.now in
    let out : SinkCall = sink_call g.O.Sink c.args.out.now c.write_poker.new.out in
    by_command (g.F.Files.told c.args.files.now) files
    out c.args.words.now
    (grammar.Gen arm.cards)
    (sym arm.ensures ∙ ap (λ (command : Command). Some (command_value command)) arm.field-0-is)
    c.write_poker.result
    (text_told (λ answer. answer ≡ success (canon (poker arm.cards))) files out refl (canon (poker arm.cards))
    (λ answer means. means) c.write_poker.result c.write_poker.ensures) (omega arith)

pub returns-in-Some-Drill : goal.returns-in-Some-Drill
returns-in-Some-Drill g c =
    let arm = c.in-Some-Drill in
    let files : FilesCall = files_call g.F.Files c.args.files.now c.args.files.now in
    let out : SinkCall = sink_call g.O.Sink c.args.out.now c.drill.new.out in
    let range = cards_in_range.of_drill c.args.words.now arm.cards arm.settings arm.rows
    (sym arm.ensures ∙ ap (λ (command : Command). Some (command_value command)) arm.field-0-is) in
    let text : GameFile → List ℕ = solved arm.settings in
    by_command (g.F.Files.told c.args.files.now) files
    out c.args.words.now
    (grammar.Drill arm.cards arm.settings arm.rows)
    (sym arm.ensures ∙ ap (λ (command : Command). Some (command_value command)) arm.field-0-is)
    c.drill.result
    (text_told (FileMeans text (canon (poker arm.cards))) files out refl (text (poker arm.cards))
    (poker_is_told arm.cards range.some range.few text) c.drill.result c.drill.ensures) (omega arith)

pub batch-requires-clause-may_open : goal.batch-requires-clause-may_open
batch-requires-clause-may_open g c κs at =
    let arm = c.in-Some-Batch in
    let may_open : List ℕ → Bool = g.F.Files.may_open c.args.files.now in
    let each : All (λ file. IsTrue (may_open file)) (plain_value arm.names) =
    subst (MayOpen (g.F.Files.told c.args.files.now) may_open)
    (sym arm.ensures ∙ ap (λ (command : Command). Some (command_value command)) arm.field-0-is) c.requires in
    subst (All (λ (name : Bor (List ℕ)). IsTrue (may_open name.now))) (sym c.deref.ensures.0)
    (of_each_name (λ file. IsTrue (may_open file)) arm.names.items each)

pub batch-requires-clause-limits : goal.batch-requires-clause-limits
batch-requires-clause-limits g c κs at =
    let arm = c.in-Some-Batch in
    batch_within c.args.words.now (plain_value arm.names) arm.settings arm.workers
    (sym arm.ensures ∙ ap (λ (command : Command). Some (command_value command)) arm.field-0-is)

pub batch-requires-clause-workers : goal.batch-requires-clause-workers
batch-requires-clause-workers g c κs at =
    let arm = c.in-Some-Batch in
    subst (λ n. (1 ≤ n) × (n ≤ most_workers)) (sym c.unwrap_or-workers.ensures)
    (batch_workers_within c.args.words.now (plain_value arm.names) arm.settings arm.workers
    (sym arm.ensures ∙ ap (λ (command : Command). Some (command_value command)) arm.field-0-is))

pub returns-in-Some-Batch : goal.returns-in-Some-Batch
returns-in-Some-Batch g c =
    let arm = c.in-Some-Batch in
    let told : List ℕ → Option (List ℕ) = g.F.Files.told c.args.files.now in
    let files : FilesCall = files_call g.F.Files c.args.files.now c.batch.new.files in
    let out : SinkCall = sink_call g.O.Sink c.args.out.now c.batch.new.out in
    let names : List (Bor (List ℕ)) = c.deref.result.now in
    let are : map (λ (name : Bor (List ℕ)). told name.now) names ≡ map told (plain_value arm.names) =
    ap (map (λ (name : Bor (List ℕ)). told name.now)) c.deref.ensures.0 ∙ told_of_names told arm.names.items in
    by_command told files out c.args.words.now
    (grammar.Batch (plain_value arm.names) arm.settings arm.workers)
    (sym arm.ensures ∙ ap (λ (command : Command). Some (command_value command)) arm.field-0-is)
    c.batch.result
    (subst (λ (told_all : List (Option (List ℕ))). Concludes ⊥ (AllMean arm.settings told_all) files out c.batch.result)
    are c.batch.ensures.concludes)
    (few_named files names arm.names.items c.deref.ensures.0 c.batch.ensures.opens)

pub returns-in-None : goal.returns-in-None
returns-in-None g c =
    by_none (g.F.Files.told c.args.files.now) (files_call g.F.Files c.args.files.now c.args.files.now)
    (sink_call g.O.Sink c.args.out.now c.args.out.now) c.args.words.now (sym c.in-None.ensures) refl (refl, refl)
    (omega arith)
