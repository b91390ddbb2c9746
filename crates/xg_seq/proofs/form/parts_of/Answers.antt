use Rattle.std.proofs.Common.{◌≤◌, refl, subst, sym}
use Rattle.def_plan.specs.Form.{AreInOrder, sequence_count}
use Rattle.def_sequence_form.specs.Sets.{TreeSets}
use Rattle.def_sequence_form.proofs.Sets.{form_is_in_order}
use Rattle.def_tree.specs.declared.Kind.TheVariants.{One, Two}
use Rattle.xg_seq.specs.Leaves.{KeepsLeaves}
use Rattle.xg_seq.specs.Table.{HaveFewActions, most_sequences}
use Rattle.xg_seq.proofs.FormLemmas.{form_is, keeps_leaves, sets_have_few_actions, sets_in_limit}
use Rattle.xg_seq.proofs.form.parts_of.Goals as goal

pub table_of-requires-clause-order : goal.table_of-requires-clause-order
table_of-requires-clause-order c =
    let P : TreeSets → Type 0 = λ sets. AreInOrder sets.one.sets in
    subst P (sym c.requires.sets) (form_is_in_order c.args.tree.now c.leaves_of.ensures.rules One refl)

pub table_of-requires-clause-limit : goal.table_of-requires-clause-limit
table_of-requires-clause-limit c =
    let P : TreeSets → Type 0 = λ sets. sequence_count sets.one.sets ≤ most_sequences in
    subst P (sym c.requires.sets) (sets_in_limit c.args.tree.now c.leaves_of.ensures.rules One refl)

pub table_of-requires-clause-few_actions : goal.table_of-requires-clause-few_actions
table_of-requires-clause-few_actions c =
    let P : TreeSets → Type 0 = λ sets. HaveFewActions sets.one.sets in
    subst P (sym c.requires.sets) (sets_have_few_actions c.args.tree.now c.leaves_of.ensures.rules One refl)

pub table_of-requires-2-clause-order : goal.table_of-requires-2-clause-order
table_of-requires-2-clause-order c =
    let P : TreeSets → Type 0 = λ sets. AreInOrder sets.two.sets in
    subst P (sym c.requires.sets) (form_is_in_order c.args.tree.now c.leaves_of.ensures.rules Two refl)

pub table_of-requires-2-clause-limit : goal.table_of-requires-2-clause-limit
table_of-requires-2-clause-limit c =
    let P : TreeSets → Type 0 = λ sets. sequence_count sets.two.sets ≤ most_sequences in
    subst P (sym c.requires.sets) (sets_in_limit c.args.tree.now c.leaves_of.ensures.rules Two refl)

pub table_of-requires-2-clause-few_actions : goal.table_of-requires-2-clause-few_actions
table_of-requires-2-clause-few_actions c =
    let P : TreeSets → Type 0 = λ sets. HaveFewActions sets.two.sets in
    subst P (sym c.requires.sets) (sets_have_few_actions c.args.tree.now c.leaves_of.ensures.rules Two refl)

pub returns-clause-form : goal.returns-clause-form
returns-clause-form c =
    form_is c.args.tree.now c.args.weights.now c.args.sets.now c.in_ok-one.one c.in_ok-two.two c.in_ok-leaves.leaves.items c.requires.sets
    c.in_ok-one.ensures c.in_ok-two.ensures c.in_ok-leaves.ensures.leaves

pub returns-clause-kept : goal.returns-clause-kept
returns-clause-kept c =
    subst KeepsLeaves
    (sym (form_is c.args.tree.now c.args.weights.now c.args.sets.now c.in_ok-one.one c.in_ok-two.two c.in_ok-leaves.leaves.items c.requires.sets
    c.in_ok-one.ensures c.in_ok-two.ensures c.in_ok-leaves.ensures.leaves))
    (keeps_leaves c.args.tree.now c.args.weights.now c.leaves_of.ensures.rules c.requires.weights c.requires.mass)
