use Rattle.std.proofs.Common.{◌∙◌, ap, refl, sym, Ok}
use Rattle.def_tree.specs.declared.Kind.TheVariants.{One, Two}
use Rattle.def_tree.specs.Tree.{node_count}
use Rattle.xg_sets.specs.declared.building.FoundTables.{FoundTables}
use Rattle.xg_sets.proofs.PathLemmas.{ends_broken, ends_noted, whole_walk}
use Rattle.xg_sets.proofs.ShownLemmas.{tables_show, has_few, has_recall, is_first_break, tells_break}
use Rattle.xg_sets.proofs.building.build_sets.Goals as goal

pub walk-requires : goal.walk-requires
walk-requires c =
    let before = c.in_ok-visitor.ensures in
    (whole_walk c.args.tree.now before.rules c.in_ok-visitor.visitor before).accepts

pub returns-in-Some-clause-broken : goal.returns-in-Some-clause-broken
returns-in-Some-clause-broken c =
    let before = c.in_ok-visitor.ensures in
    tells_break c.args.tree.now before.rules c.in-Some.fault (ends_broken c.args.tree.now before.rules c.in_ok-visitor.visitor c.walk.new.visitor before
    c.walk.ensures c.in-Some.fault c.in-Some.is)

pub returns-in-Some-clause-first_break : goal.returns-in-Some-clause-first_break
returns-in-Some-clause-first_break c =
    let before = c.in_ok-visitor.ensures in
    is_first_break c.args.tree.now before.rules c.in-Some.fault (ends_broken c.args.tree.now before.rules c.in_ok-visitor.visitor c.walk.new.visitor before
    c.walk.ensures c.in-Some.fault c.in-Some.is)

pub of-requires-clause-few_one : goal.of-requires-clause-few_one
of-requires-clause-few_one c =
    let before = c.in_ok-visitor.ensures in
    let noted = ends_noted c.args.tree.now before.rules c.in_ok-visitor.visitor c.walk.new.visitor before c.walk.ensures c.in-None.is in
    has_few c.args.tree.now before.rules (node_count c.args.tree.now) refl One refl c.walk.new.visitor.building.tables.one noted.table_one

pub of-requires-clause-few_two : goal.of-requires-clause-few_two
of-requires-clause-few_two c =
    let before = c.in_ok-visitor.ensures in
    let noted = ends_noted c.args.tree.now before.rules c.in_ok-visitor.visitor c.walk.new.visitor before c.walk.ensures c.in-None.is in
    has_few c.args.tree.now before.rules (node_count c.args.tree.now) refl Two refl c.walk.new.visitor.building.tables.two noted.table_two

pub returns-in-None-clause-sets : goal.returns-in-None-clause-sets
returns-in-None-clause-sets c =
    let before = c.in_ok-visitor.ensures in
    let tables : FoundTables = c.walk.new.visitor.building.tables in
    let noted = ends_noted c.args.tree.now before.rules c.in_ok-visitor.visitor c.walk.new.visitor before c.walk.ensures c.in-None.is in
    tables_show c.args.tree.now before.rules (node_count c.args.tree.now) refl tables.one tables.two tables.next_nodes noted ∙ ap Ok (sym c.of.ensures)

pub returns-in-None-clause-recall : goal.returns-in-None-clause-recall
returns-in-None-clause-recall c =
    let before = c.in_ok-visitor.ensures in
    let tables : FoundTables = c.walk.new.visitor.building.tables in
    let noted = ends_noted c.args.tree.now before.rules c.in_ok-visitor.visitor c.walk.new.visitor before c.walk.ensures c.in-None.is in
    has_recall c.args.tree.now before.rules (node_count c.args.tree.now) refl tables.one tables.two tables.next_nodes noted
