use Rattle.std.proofs.Common.{◌+◌, [], ◌∷◌, ◌++◌, None, ap, inl, inr, refl, subst, sym}
use Rattle.std.proofs.lemmas.Result.{err_from_is_err_and}
use Rattle.def_tree.specs.declared.Kind.TheVariants.{One, Two}
use Rattle.def_game_paths.specs.Coming.{visit_after}
use Rattle.def_game_paths.specs.Recall.{is_personal}
use Rattle.xg_sets.specs.declared.building.FoundTables.{FoundTables}
use Rattle.xg_sets.specs.declared.movers.Sequences.{Sequences}
use Rattle.xg_sets.specs.Entered.{AreAtFirstChild, AreTablesOf}
use Rattle.xg_sets.proofs.NotingLemmas.{broken_one_at, broken_two_at, counts_at, last_at, noted_one_at, noted_two_at, put, quiet_at, room_at}
use Rattle.xg_sets.proofs.building.FoundTables.note.Goals as goal
use Rattle.xg_sets.proofs.building.FoundTables.note.Goals.{in-One+in_ok-note-in-One, in-Two+in_ok-note-in-Two, in-Chance}

pub note-requires-clause-counts : goal.note-requires-clause-counts
note-requires-clause-counts c = counts_at c.args.tree.now c.requires.rules c.args.k c.requires.there c.node-node.result c.node-node.ensures One refl c.in-One.is

pub note-requires-clause-room : goal.note-requires-clause-room
note-requires-clause-room c = room_at c.args.tree.now c.requires.rules c.args.k c.requires.there c.node-node.result c.node-node.ensures One refl
    c.args.self.now.one c.requires.tables.table_one

pub note-requires-clause-last : goal.note-requires-clause-last
note-requires-clause-last c = last_at c.args.tree.now c.requires.rules c.args.k c.requires.there c.node-node.result c.node-node.ensures One refl c.in-One.is
    c.args.self.now.one c.args.self.now.next_nodes c.requires.tables.table_one c.requires.tables.next_are

pub note-requires-in-Two-clause-last : goal.note-requires-in-Two-clause-last
note-requires-in-Two-clause-last c = last_at c.args.tree.now c.requires.rules c.args.k c.requires.there c.node-node.result c.node-node.ensures Two refl
    c.in-Two.is c.args.self.now.two c.args.self.now.next_nodes c.requires.tables.table_two c.requires.tables.next_are

pub note-requires-in-Two-clause-counts : goal.note-requires-in-Two-clause-counts
note-requires-in-Two-clause-counts c = counts_at c.args.tree.now c.requires.rules c.args.k c.requires.there c.node-node.result c.node-node.ensures Two refl
    c.in-Two.is

pub note-requires-in-Two-clause-room : goal.note-requires-in-Two-clause-room
note-requires-in-Two-clause-room c = room_at c.args.tree.now c.requires.rules c.args.k c.requires.there c.node-node.result c.node-node.ensures Two refl
    c.args.self.now.two c.requires.tables.table_two

pub returns-in_err-note-in-One-clause-err : goal.returns-in_err-note-in-One-clause-err
returns-in_err-note-in-One-clause-err c =
    let found = broken_one_at c.args.tree.now c.requires.rules c.args.k c.requires.there c.node-node.result c.node-node.ensures c.in-One.is c.args.self.now.one
    c.args.self.now.two c.note.new.self c.args.at c.in_err-note-in-One.field-0.0 c.args.self.now.next_nodes c.note.new.next_nodes
    c.requires.tables c.requires.at c.in_err-note-in-One.ensures in
    let p = err_from_is_err_and c.from_residual.result c.from_residual.ensures.1 in rw (p.1, p.2) found

pub returns-in_err-note-in-Two-clause-err : goal.returns-in_err-note-in-Two-clause-err
returns-in_err-note-in-Two-clause-err c =
    let found = broken_two_at c.args.tree.now c.requires.rules c.args.k c.requires.there c.node-node.result c.node-node.ensures c.in-Two.is c.args.self.now.one
    c.args.self.now.two c.note-in-Two.new.self c.args.at c.in_err-note-in-Two.field-0.0 c.args.self.now.next_nodes c.note-in-Two.new.next_nodes
    c.requires.tables c.requires.at c.in_err-note-in-Two.ensures in
    let p = err_from_is_err_and c.from_residual-in_err-note-in-Two.result c.from_residual-in_err-note-in-Two.ensures.1 in rw (p.1, p.2) found

-- in each arm: both tables once the sequences are put, and the sequences at the first child
module _ (c : goal.In-Ok-put-2) where
  abbrev Noted : FoundTables → Sequences → Type 0
  Noted tables below = AreTablesOf c.args.tree.now (c.args.k + 1) (put tables.one c.args.at.one) (put tables.two c.args.at.two) (tables.next_nodes ++ None ∷ [])
      × AreAtFirstChild c.args.tree.now (visit_after c.args.tree.now c.args.k) below

  noted : Noted c.match-node.self c.match-node.below
  noted = elim c.match-node.branch [
    | in-One+in_ok-note-in-One w ↦
        subst (λ below. Noted c.match-node.self below) (sym w.below-is) (subst
        (λ tables. Noted tables (record { one = w.in_ok-note-in-One.field-0; two = c.args.at.two })) (sym w.self-is)
        (noted_one_at c.args.tree.now c.requires.rules c.args.k c.requires.there c.node-node.result c.node-node.ensures w.in-One.is c.args.self.now.one
        c.args.self.now.two w.note.new.self c.args.at w.in_ok-note-in-One.field-0 c.args.self.now.next_nodes w.note.new.next_nodes
        c.requires.tables c.requires.at w.in_ok-note-in-One.ensures))
    | in-Two+in_ok-note-in-Two w ↦
        subst (λ below. Noted c.match-node.self below) (sym w.below-is) (subst
        (λ tables. Noted tables (record { one = c.args.at.one; two = w.in_ok-note-in-Two.field-0 })) (sym w.self-is)
        (noted_two_at c.args.tree.now c.requires.rules c.args.k c.requires.there c.node-node.result c.node-node.ensures w.in-Two.is c.args.self.now.one
        c.args.self.now.two w.note-in-Two.new.self c.args.at w.in_ok-note-in-Two.field-0 c.args.self.now.next_nodes w.note-in-Two.new.next_nodes
        c.requires.tables c.requires.at w.in_ok-note-in-Two.ensures))
    | in-Chance w ↦
        subst (λ below. Noted c.match-node.self below) (sym w.below-is) (subst (λ tables. Noted tables c.args.at) (sym w.self-is)
        (quiet_at c.args.tree.now c.requires.rules c.args.k c.requires.there c.node-node.result c.node-node.ensures
        (elim w.in-Chance.is [ inl e ↦ ap is_personal e | inr e ↦ ap is_personal e ]) c.args.self.now.one c.args.self.now.two c.args.at
        c.args.self.now.next_nodes c.requires.tables c.requires.at))
  ]

pub returns-clause-tables : goal.returns-clause-tables
returns-clause-tables c =
    subst (λ one. AreTablesOf c.args.tree.now (c.args.k + 1) one c.put-2.new.self c.put-3.new.self) (sym c.in-Ok.ensures)
    (subst (λ two. AreTablesOf c.args.tree.now (c.args.k + 1) (put c.match-node.self.one c.args.at.one) two c.put-3.new.self) (sym c.in-Ok-put.ensures)
    (subst (λ next. AreTablesOf c.args.tree.now (c.args.k + 1) (put c.match-node.self.one c.args.at.one) (put c.match-node.self.two c.args.at.two) next)
    (sym c.in-Ok-put-2.ensures) (noted c).0))

pub returns-clause-below : goal.returns-clause-below
returns-clause-below c = (noted c).1
