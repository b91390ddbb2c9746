-- A game of entries without a fault is written and read back as it was, however much each entry leaves out.
use Rattle.std.proofs.Common.{◌≡◌, List, [], ◌∷◌, ◌++◌, map, refl, sym, ap, ◌∙◌, subst, arith}
use Rattle.std.proofs.lemmas.List.{append-nil, append_assoc, length-map}
use Rattle.def_tree.specs.Rules.{most_nodes}
use Rattle.def_tree.specs.Tree.{IsWhole}
use Rattle.def_file.specs.Content.{Contents, GameFile, Record, game_with}
use Rattle.def_file.specs.Entries.{contents_of}
use Rattle.def_file.specs.EntryLaws.{HaveNoFault}
use Rattle.def_file.proofs.NoFault.{entries_limit, no_fault_more, nothing_at_fault}
use Rattle.def_file.proofs.OneMore.{one_more}
use Rattle.def_file_form.specs.Laws.{StandsFor}
use Rattle.def_canon.specs.Laws.{CanonOfFaultless, CanonOfFile, CanonOfMade, IsOfEntries, IsOfFaultless, AreTakenInTurn}
use Rattle.def_canon.proofs.Filled.{filled, filled_contents, whole_outcome, whole_set}
use Rattle.def_canon.proofs.FilledRules.{filled_described}
use Rattle.def_canon.proofs.FilledWritable.{filled_writable}
use Rattle.def_canon.proofs.FilesAreWritable.{entries_give, prologue_gives}
use Rattle.def_canon.proofs.ReadBack.{canon_is_read_back, canon_stands_for_game}

-- the same game is that of entries that describe all whole
of_filled : (game : GameFile) → IsOfFaultless game → IsOfEntries game
of_filled game of =
    let rs = of.entries in
    let same = sym (filled_contents rs) in
    let few = entries_limit most_nodes refl rs of.no_fault in
    record {
      prologue = of.prologue;
      entries = map (filled rs) rs;
      sets = whole_set rs;
      outcomes = whole_outcome rs;
      plain = of.plain;
      described = filled_described of.prologue rs of.no_fault of.whole;
      writable = filled_writable of.prologue rs of.no_fault of.whole of.writable;
      few = omega (arith, few, length-map rs (filled rs));
      whole = subst (λ (c : Contents). IsWhole c.nodes) same of.whole;
      game_is = of.game_is ∙ ap (game_with of.prologue) same;
    }

-- the canonical form stands for a game of faultless entries of one whole tree that give what can be written
pub canon_of_faultless : CanonOfFaultless
canon_of_faultless game of = canon_stands_for_game game (of_filled game of)

of_file : (bytes : _) (game : GameFile) → StandsFor bytes game → IsOfFaultless game
of_file bytes game is = record {
  prologue = is.prologue;
  entries = is.entries;
  plain = prologue_gives is.prologue _ is.file.behind is.file.prologue;
  writable = entries_give is.entries is.file.behind is.file.entries;
  no_fault = is.no_fault;
  whole = is.file.whole;
  game_is = is.game_is;
}

-- the canonical form of a game that a file stands for stands for this game too, and is read as it
pub canon_of_file : CanonOfFile
canon_of_file bytes game is =
    let of = of_filled game (of_file bytes game is) in
    (canon_stands_for_game game of, canon_is_read_back game of)

-- entries that were taken one after another have no fault, and are what is known
record TakesAll (rs : List Record) (made : Contents) : Type 0 where
  known : made ≡ contents_of rs
  no_fault : HaveNoFault rs

taken_from : (done rs : List Record) (made : Contents) → HaveNoFault done → AreTakenInTurn (contents_of done) rs made
    → TakesAll (done ++ rs) made
taken_from done [] made fine takes =
    subst (λ (xs : List Record). TakesAll xs made) (sym (append-nil done)) (record { known = takes; no_fault = fine })
taken_from done (r ∷ rs) made fine takes =
    let next = subst (λ (c : Contents). AreTakenInTurn c rs made) (sym (one_more done r)) takes.1 in
    subst (λ (xs : List Record). TakesAll xs made) (append_assoc done (r ∷ []) rs)
    (taken_from (done ++ r ∷ []) rs made (no_fault_more done r fine takes.0) next)

-- where entries that give what can be written are taken in turn without a fault and make one whole tree,
-- the canonical form of their game stands for it, and is read as it
pub canon_of_made : CanonOfMade
canon_of_made prologue rs made plain writable takes whole =
    let taken = taken_from [] rs made nothing_at_fault takes in
    let game = game_with prologue made in
    let of = of_filled game (record {
      prologue = prologue;
      entries = rs;
      plain = plain;
      writable = writable;
      no_fault = taken.no_fault;
      whole = subst (λ (c : Contents). IsWhole c.nodes) taken.known whole;
      game_is = ap (game_with prologue) taken.known;
    }) in
    (canon_stands_for_game game of, canon_is_read_back game of)
