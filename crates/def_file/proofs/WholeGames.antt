-- Entries without a fault whose nodes are a whole tree are a game whose tables go with its tree.
use Rattle.std.proofs.Common.{◌≡◌, List, [], ◌∷◌, ◌++◌, sym, subst, append-nil}
use Rattle.std.proofs.lemmas.List.{append_assoc}
use Rattle.def_tree.specs.declared.Node.{Node}
use Rattle.def_tree.proofs.Forests.{prefix-forest_of}
use Rattle.def_tree.proofs.Lists.{tree_of_whole}
use Rattle.def_file.specs.Content.{Record}
use Rattle.def_file.specs.Game.{GoTogether, AreTogether}
use Rattle.def_file.proofs.TablesGoWithNodes.{nothing_together, together_with}
use Rattle.def_file.specs.Entries.{contents_of}
use Rattle.def_file.specs.EntryLaws.{HaveNoFault, EntriesMakeWholeGame}
use Rattle.def_file.proofs.NoFault.{no_fault_here}
use Rattle.def_file.proofs.OneMore.{one_more}

together_from : (done rest : List Record) → HaveNoFault (done ++ rest) → AreTogether (contents_of done)
    → AreTogether (contents_of (done ++ rest))
together_from done [] fine held = subst (λ rs. AreTogether (contents_of rs)) (sym (append-nil done)) held
together_from done (r ∷ rest) fine held =
    let regrouped : (done ++ r ∷ []) ++ rest ≡ done ++ r ∷ rest = append_assoc done (r ∷ []) rest in
    let next : AreTogether (contents_of (done ++ r ∷ [])) = subst AreTogether (sym (one_more done r))
    (together_with (contents_of done) r held (no_fault_here done r rest fine)) in
    subst (λ rs. AreTogether (contents_of rs)) regrouped (together_from (done ++ r ∷ []) rest (subst HaveNoFault (sym regrouped) fine) next)

-- the law: entries without a fault make a whole game
pub entries_make_whole_game : EntriesMakeWholeGame
entries_make_whole_game prologue rs fine whole =
    let contents = contents_of rs in
    record {
      tree = tree_of_whole contents.nodes whole;
      together = subst (λ (nodes : List Node). GoTogether nodes contents.names contents.sets contents.outcomes) (sym (prefix-forest_of contents.nodes))
          (together_from [] rs fine nothing_together);
    }
