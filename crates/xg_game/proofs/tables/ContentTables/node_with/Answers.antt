use Rattle.std.proofs.Common.{◌≡◌, ◌≤◌, cond, true, ap, sym, ◌∙◌, arith, subst, length, List}
use Rattle.def_tree.proofs.Sets.{children-le}
use Rattle.def_file.specs.Adding.{action_count, node_with}
use Rattle.def_file.specs.Content as content
use Rattle.def_file.specs.Content.{Contents, SetEntry, sets_of_kind}
use Rattle.def_file.specs.Faults.{has_set, mover}
use Rattle.def_file.proofs.WholeGame.{node_fits, sets_short}
use Rattle.xg_record.specs.Entry.{entry_seen}
use Rattle.xg_game.proofs.tables.ContentTables.node_with.Goals as goal

pub number_with-requires-clause-room : goal.number_with-requires-clause-room
number_with-requires-clause-room c =
    let r : content.Record = entry_seen c.args.entry.now in
    let now : Contents = c.args.self.now in
    let short : length (sets_of_kind (mover r) now.sets) ≤ 1048576 = sets_short now.nodes now.names now.sets now.outcomes c.requires.consistent (mover r) in
    let same : c.of-table.result.now ≡ sets_of_kind (mover r) now.sets =
    c.of-table.ensures ∙ ap (λ kind. sets_of_kind kind c.self.inside.sets) c.mover-kind.ensures
    ∙ ap (λ (t : Contents). sets_of_kind (mover r) t.sets) c.self.view_is in
    omega (arith, short, ap (length {A = SetEntry}) same)

pub action_count_with-requires-clause-few : goal.action_count_with-requires-clause-few
action_count_with-requires-clause-few c =
    let r : content.Record = entry_seen c.args.entry.now in
    let table : List SetEntry = sets_of_kind (mover r) c.args.self.now.sets in
    let same : c.of-table.result.now ≡ table =
    c.of-table.ensures ∙ ap (λ kind. sets_of_kind kind c.self.inside.sets) c.mover-kind.ensures
    ∙ ap (λ (t : Contents). sets_of_kind (mover r) t.sets) c.self.view_is in
    let has : has_set r.kind ≡ true = sym c.has_set.ensures ∙ c.if-not-has_set.false in
    let few : cond (has_set r.kind) (action_count table r.set) 0 ≤ 1024 =
    children-le c.args.self.now.nodes (node_with c.args.self.now r) (node_fits c.args.self.now r c.requires.consistent c.requires.faultless) in
    let small : action_count table r.set ≤ 1024 = subst (λ b. cond b (action_count table r.set) 0 ≤ 1024) has few in
    omega (arith, small, ap (λ t. action_count t r.set) same)
