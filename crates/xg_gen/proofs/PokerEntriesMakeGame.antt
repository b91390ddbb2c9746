-- The entries of one-card poker are taken from first to last, and are its game.
use Rattle.std.proofs.Common.{◌≡◌, ℕ, ◌≤◌, ◌<◌, false, List, [], ◌∷◌, ◌++◌, refl, sym, ap, ◌∙◌, subst, append_assoc, arith}
use Rattle.std.proofs.lemmas.List.{append-nil}
use Rattle.std.specs.Prelude.{codes}
use Rattle.std.specs.Fmt.{decimal}
use Rattle.def_tree.specs.declared.Kind.{Kind}
use Rattle.def_tree.specs.Tree.{wanted}
use Rattle.def_file.specs.Content.{Contents, OutcomeMention, Record, SetMention, game_with, no_contents}
use Rattle.def_file.specs.Entries.{contents_of}
use Rattle.def_file.specs.EntryLaws.{HaveNoFault}
use Rattle.def_file.proofs.NoFault.{no_fault_here}
use Rattle.def_file.proofs.OneMore.{one_more}
use Rattle.def_canon.specs.Described.{Describes, Each}
use Rattle.def_canon.proofs.NoFault.{each_before}
use Rattle.def_canon.proofs.Sizes.{EntriesBegin, begin_here, wanted_behind, wanted_described}
use Rattle.def_canon.specs.Poker.{entries, poker, prologue}
use Rattle.def_canon.proofs.Described.{entries_describe, outcome_of_poker, set_with}
use Rattle.def_canon.proofs.PokerSizes.{entries_begin, poker_is_game}
use Rattle.xg_game.specs.Made.{Made}
use Rattle.xg_game.specs.Prologues.{prologue_with}
use Rattle.xg_gen.specs.Taken.{GainsEntries, AreWanted, Takes, with_entries}

with_all : (done rest : List Record) → with_entries (contents_of done) rest ≡ contents_of (done ++ rest)
with_all done [] = ap contents_of (sym (append-nil done))
with_all done (r ∷ rest) =
    ap (λ c. with_entries c rest) (sym (one_more done r)) ∙ with_all (done ++ r ∷ []) rest ∙ ap contents_of (append_assoc done (r ∷ []) rest)

module _ (sets : Kind → ℕ → SetMention) (outcomes : ℕ → OutcomeMention) where
  are_wanted : (all done rest : List Record) → all ≡ done ++ rest → Each (Describes sets outcomes) all → HaveNoFault all
      → EntriesBegin 1 all
      → AreWanted (contents_of done) rest
  are_wanted all done [] split each fine begins = tt
  are_wanted all done (r ∷ rest) split each fine begins =
      let before = (each_before (Describes sets outcomes) done r rest (subst (Each (Describes sets outcomes)) split each)).0 in
      let some : 0 < wanted_behind 1 done = begin_here 1 done r rest (subst (EntriesBegin 1) split begins) in
      let count : wanted 1 (contents_of done).nodes ≡ wanted_behind 1 done = wanted_described sets outcomes done 1 before in (
        (λ none. absurd (omega arith)),
        no_fault_here done r rest (subst HaveNoFault split fine),
        subst (λ (c : Contents). AreWanted c rest) (one_more done r)
            (are_wanted all (done ++ r ∷ []) rest (split ∙ sym (append_assoc done (r ∷ []) rest)) each fine begins),
      )

-- a new maker takes all entries
pub new_takes : (n : ℕ) → 2 ≤ n → n ≤ 64 → (maker : Made) → maker.spent ≡ false → maker.contents ≡ no_contents
    → Takes maker (entries n)
new_takes n two limit maker unspent empty = record {
  unspent = unspent;
  wanted = subst (λ (c : Contents). AreWanted c (entries n)) (sym empty)
      (are_wanted (set_with n) outcome_of_poker (entries n) [] (entries n) refl (entries_describe n two limit) (poker_is_game n two limit).0
      (entries_begin n two limit));
}

-- and has then the contents of the game
pub then_has : (n : ℕ) (maker now : Made) → maker.contents ≡ no_contents → GainsEntries maker now (entries n)
    → now.contents ≡ contents_of (entries n)
then_has n maker now empty adds =
    ap (λ (m : Made). m.contents) adds.same ∙ ap (λ (c : Contents). with_entries c (entries n)) empty ∙ with_all [] (entries n)

-- whose nodes are a whole tree
pub then_whole : (n : ℕ) → 2 ≤ n → n ≤ 64 → (maker now : Made) → maker.contents ≡ no_contents
    → GainsEntries maker now (entries n)
    → wanted 1 now.contents.nodes ≡ 0
then_whole n two limit maker now empty adds =
    ap (λ (c : Contents). wanted 1 c.nodes) (then_has n maker now empty adds) ∙ (poker_is_game n two limit).1.ends

-- with the prologue of one-card poker, and its entries added to no contents, the game that was made is one-card poker
pub then_game : (n : ℕ) (maker now : Made) → maker.contents ≡ no_contents → maker.prologue ≡ prologue n
    → GainsEntries maker now (entries n)
    → game_with now.prologue now.contents ≡ poker n
unfolding poker
then_game n maker now empty texts adds =
    let shown : now.prologue ≡ prologue n = ap (λ (m : Made). m.prologue) adds.same ∙ texts in
    let known : now.contents ≡ contents_of (entries n) = then_has n maker now empty adds in
    (λ i. game_with (shown i) (known i))

-- one-card poker's title, the players' names One and Two and an empty comment make its prologue
pub prologue_as_made : (n : ℕ) (title one two comment : List ℕ) → title ≡ codes "One-card poker " ++ decimal n
    → one ≡ codes "One"
    → two ≡ codes "Two" → comment ≡ []
    → prologue_with title one two comment ≡ prologue n
unfolding prologue
prologue_as_made n title one two comment et eo ew ec = (λ i. prologue_with (et i) (eo i) (ew i) (ec i))
