-- What a walk finds, node after node.
use Rattle.std.proofs.Common.{◌≡◌, ℕ, ◌+◌, ◌<◌, take, drop, ap, sym, ◌∙◌, arith, Some, None}
use Rattle.std.specs.Prelude.{Option}
use Rattle.std.proofs.lemmas.List.{drop_all, length-take-le}
use Rattle.def_tree.specs.Tree.{Forest, node_count}
use Rattle.def_file.specs.declared.FileFault.{FileFault}
use Rattle.def_game_paths.specs.Paths.{Visit, visits}
use Rattle.def_game_paths.proofs.Coming.{IsNext, length-visits}
use Rattle.def_game_scale.specs.Faults.{GameFault, NodeTest, found_by, number_after, or_else}
use Rattle.def_game_numbers.specs.Numbers.{as_file_fault}
use Rattle.xg_game.specs.declared.fault.Refused.{Refused}
use Rattle.xg_game.specs.declared.fault.Refused.TheVariants.{File, NoMemory}
use Rattle.xg_scale.specs.FaultOfFile.{IsFaultOf, RefusesBy}

-- the number of the next node
pub number_next : (tree : Forest) (n : ℕ) → n < node_count tree → number_after (take n (visits tree)) ≡ n + 1
number_next tree n there = ap (λ m. m + 1) (length-take-le n (visits tree) (omega (arith, length-visits tree)))

module _ (tree : Forest) (test : NodeTest) where
  -- what is found behind the first n nodes
  abbrev pub found_after : ℕ → Option GameFault
  found_after n = found_by test (take n (visits tree)) (drop n (visits tree))

  -- behind the last node nothing is found
  pub found_none : (n : ℕ) → n ≡ node_count tree → found_after n ≡ None
  found_none n last = ap (found_by test (take n (visits tree))) (drop_all n (visits tree) (omega (arith, length-visits tree)))

  module _ (n : ℕ) (v : Visit) (next : IsNext tree n v) where
    here : found_after n ≡ or_else (test (take n (visits tree)) v) (found_after (n + 1))
    here =
        ap (found_by test (take n (visits tree))) next.cons
        ∙ ap (λ before. or_else (test (take n (visits tree)) v) (found_by test before (drop (n + 1) (visits tree)))) (sym next.taken)

    -- a node without a fault is passed over
    pub found_later : test (take n (visits tree)) v ≡ None → found_after n ≡ found_after (n + 1)
    found_later none = here ∙ ap (λ o. or_else o (found_after (n + 1))) none

    -- a node's fault is found
    pub found_here : (o : Option GameFault) (fault : FileFault) → test (take n (visits tree)) v ≡ o → IsFaultOf o fault
        → IsFaultOf (found_after n) fault
    found_here None fault is found = cc
    found_here (Some x) fault is found =
        let first : found_after n ≡ Some x = here ∙ ap (λ o. or_else o (found_after (n + 1))) is in
        ap (λ o. as_file_fault o) first ∙ found

    -- and what refuses by it refuses by what is found
    pub refuses_here : (o : Option GameFault) (refusal : Refused) → test (take n (visits tree)) v ≡ o
        → RefusesBy o refusal → RefusesBy (found_after n) refusal
    refuses_here o (File fault) is refuses = found_here o fault is refuses
    refuses_here o NoMemory is refuses = tt
