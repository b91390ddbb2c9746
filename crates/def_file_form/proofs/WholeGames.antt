-- A file stands for a game whose tables go with its tree, and whose fractions are in lowest terms within the limit.
use Rattle.std.proofs.Common.{◌≡◌, List, [], ◌∷◌, ◌++◌, map, Option, Some, None, sym, subst, append-nil}
use Rattle.std.specs.List.{All}
use Rattle.std.proofs.lemmas.List.{append_assoc}
use Rattle.std.proofs.lemmas.List.Elements.{All-nil, All-cons}
use Rattle.def_fraction.specs.Fraction.{Fraction}
use Rattle.def_fraction.specs.Literal.{denominator, signed_numerator, exact_value}
use Rattle.def_fraction.proofs.FractionLemmas.{fraction_of-reduced}
use Rattle.def_file.specs.declared.EntryKind.{EntryKind}
use Rattle.def_file.specs.declared.EntryKind.TheVariants.{Chance, Personal, Leaf}
use Rattle.def_file.specs.Content.{Action, SetMention, Record}
use Rattle.def_file.specs.Game.{IsSmallFraction, IsWholeGame, HasFractions}
use Rattle.def_file.proofs.Fractions.{IfGiven, GivesFractions, zero_small, no_fractions, fractions_with}
use Rattle.def_file.specs.Entries.{contents_of}
use Rattle.def_file.proofs.OneMore.{one_more}
use Rattle.def_file.proofs.WholeGames.{entries_make_whole_game}
use Rattle.def_file_form.specs.Form.{Spelled, IsFraction, IsChance, AreActionsUpTo, IsActionList, AreMorePayoffs, ArePayoffs, IsPayoffList, IsEntryAs}
use Rattle.def_file_form.specs.Form.{AreEntries}
use Rattle.def_file_form.specs.Laws.{StandsForWholeGame}

-- a fraction that tokens say is in lowest terms and within the limit
pub fraction_small : (f : Fraction) (tokens rest : List Spelled) → IsFraction f tokens rest → IsSmallFraction f
fraction_small f tokens rest is =
    let l = is.literal.0 in
    let small : IsSmallFraction (exact_value l) = (
      (fraction_of-reduced (signed_numerator l) (denominator l.body) is.literal.2).lowest,
      is.literal.3.in_lowest_terms,
    ) in
    subst IsSmallFraction (sym is.literal.4) small

chance_small : (kind : EntryKind) (f : Fraction) (tokens rest : List Spelled) → IsChance kind f tokens rest
    → IsSmallFraction f
chance_small Chance f tokens rest is = fraction_small f tokens rest is
chance_small Personal f tokens rest is = subst IsSmallFraction (sym is.0) zero_small
chance_small Leaf f tokens rest is = subst IsSmallFraction (sym is.0) zero_small

actions_small : (kind : EntryKind) (actions : List Action) (tokens rest : List Spelled)
    → AreActionsUpTo kind actions tokens rest → All IsSmallFraction (map (λ a. a.chance) actions)
actions_small kind [] tokens rest is = All-nil IsSmallFraction
actions_small kind (a ∷ more) tokens rest is =
    All-cons IsSmallFraction a.chance (map (λ x. x.chance) more) (chance_small kind a.chance is.0 is.1 is.3) (actions_small kind more is.1 rest is.4)

action_list_small : (kind : EntryKind) (given : Option (List Action)) (tokens rest : List Spelled)
    → IsActionList kind given tokens rest → IfGiven given (λ actions. All IsSmallFraction (map (λ a. a.chance) actions))
action_list_small kind None tokens rest is = tt
action_list_small kind (Some actions) tokens rest is = actions_small kind actions is.0 rest is.2

more_payoffs_small : (fs : List Fraction) (tokens rest : List Spelled) → AreMorePayoffs fs tokens rest
    → All IsSmallFraction fs
more_payoffs_small [] tokens rest is = All-nil IsSmallFraction
more_payoffs_small (f ∷ fs) tokens rest is = All-cons IsSmallFraction f fs (fraction_small f is.0 is.1 is.3) (more_payoffs_small fs is.1 rest is.4)

-- each of the payoffs that tokens say is in lowest terms and within the limit
pub payoffs_small : (fs : List Fraction) (tokens rest : List Spelled) → ArePayoffs fs tokens rest
    → All IsSmallFraction fs
payoffs_small [] tokens rest is = All-nil IsSmallFraction
payoffs_small (f ∷ fs) tokens rest is = All-cons IsSmallFraction f fs (fraction_small f tokens is.0 is.1) (more_payoffs_small fs is.0 rest is.2)

payoff_list_small : (given : Option (List Fraction)) (tokens rest : List Spelled) → IsPayoffList given tokens rest
    → IfGiven given (All IsSmallFraction)
payoff_list_small None tokens rest is = tt
payoff_list_small (Some fs) tokens rest is = payoffs_small fs is.0 rest is.2

entry_small : (kind : EntryKind) (r : Record) (tokens rest : List Spelled) → IsEntryAs kind r tokens rest
    → GivesFractions r
entry_small Chance r tokens rest is = record {
  chances = action_list_small Chance r.set.actions is.set.named is.placed is.set.actions;
  payoffs = payoff_list_small r.outcome.payoffs is.outcome.named rest is.outcome.payoffs;
}
entry_small Personal r tokens rest is = record {
  chances = action_list_small Personal r.set.actions is.set.named is.placed is.set.actions;
  payoffs = payoff_list_small r.outcome.payoffs is.outcome.named rest is.outcome.payoffs;
}
entry_small Leaf r tokens rest is = record {
  chances = subst (λ (m : SetMention). IfGiven m.actions (λ actions. All IsSmallFraction (map (λ a. a.chance) actions))) (sym is.no_set) tt;
  payoffs = payoff_list_small r.outcome.payoffs is.outcome.named rest is.outcome.payoffs;
}

fractions_from : (done rest : List Record) (tokens : List Spelled) → AreEntries rest tokens
    → HasFractions (contents_of done).sets (contents_of done).outcomes
    → HasFractions (contents_of (done ++ rest)).sets (contents_of (done ++ rest)).outcomes
fractions_from done [] tokens are held = subst (λ rs. HasFractions (contents_of rs).sets (contents_of rs).outcomes) (sym (append-nil done)) held
fractions_from done (r ∷ rest) tokens are held =
    let regrouped : (done ++ r ∷ []) ++ rest ≡ done ++ r ∷ rest = append_assoc done (r ∷ []) rest in
    let more = fractions_with (contents_of done) r (entry_small r.kind r tokens are.0 are.1) held in
    let next = subst (λ contents. HasFractions contents.sets contents.outcomes) (sym (one_more done r)) more in
    subst (λ rs. HasFractions (contents_of rs).sets (contents_of rs).outcomes) regrouped (fractions_from (done ++ r ∷ []) rest are.0 are.2 next)

-- the law: a file stands for a whole game
pub stands_for_whole_game : StandsForWholeGame
stands_for_whole_game bytes game is = (
  subst IsWholeGame (sym is.game_is) (entries_make_whole_game is.prologue is.entries is.no_fault is.file.whole),
  subst (λ g. HasFractions g.sets g.outcomes) (sym is.game_is) (fractions_from [] is.entries is.file.behind is.file.entries no_fractions),
)
