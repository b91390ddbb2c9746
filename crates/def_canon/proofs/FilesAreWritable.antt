-- What a file says can be written.
use Rattle.std.proofs.Common.{◌≡◌, ℕ, true, List, [], ◌∷◌, Option, Some, None, unwrap_or, refl, sym, subst}
use Rattle.std.specs.Prelude.{IfSome}
use Rattle.std.specs.List.{All}
use Rattle.def_fraction.specs.Fraction.{Fraction}
use Rattle.def_file_tokens.specs.Texts.{EndsPlainly}
use Rattle.def_file_tokens.proofs.TextLemmas.{inside_is_escaped}
use Rattle.def_file.specs.declared.EntryKind.{EntryKind}
use Rattle.def_file.specs.declared.EntryKind.TheVariants.{Chance, Personal, Leaf}
use Rattle.def_file.specs.Content.{Action, Prologue, SetMention, OutcomeMention, Record}
use Rattle.def_file.specs.Faults.{has_set}
use Rattle.def_file.specs.Game.{IsSmallFraction}
use Rattle.def_file_form.specs.Form.{AreActionsUpTo, AreEntries, IsActionList, IsChance, IsEntryAs, IsName, IsOutcome, IsPayoffList, IsPrologue, IsSet, IsText}
use Rattle.def_file_form.specs.Form.{Spelled}
use Rattle.def_file_form.proofs.WholeGames.{fraction_small, payoffs_small}
use Rattle.def_canon.specs.Described.{Each}
use Rattle.def_canon.specs.Writable.{AreWritableActions, GivesWritable, GivesWritableOutcome, GivesWritableSet, IsChanceOf, IsPlainName, IsPlainPrologue}

text_plain : (bytes : List ℕ) (tokens rest : List Spelled) → IsText bytes tokens rest → EndsPlainly bytes
text_plain bytes tokens rest is = (inside_is_escaped is.inside bytes is.is_inside is.stands_for).0

name_plain : (name : Option (List ℕ)) (tokens rest : List Spelled) → IsName name tokens rest → IsPlainName name
name_plain None tokens rest is = tt
name_plain (Some bytes) tokens rest is = text_plain bytes tokens rest is

chance_writable : (kind : EntryKind) (f : Fraction) (tokens rest : List Spelled) → IsChance kind f tokens rest
    → IsChanceOf kind f
chance_writable Chance f tokens rest is = fraction_small f tokens rest is
chance_writable Personal f tokens rest is = is.0
chance_writable Leaf f tokens rest is = is.0

actions_writable : (kind : EntryKind) (actions : List Action) (tokens rest : List Spelled)
    → AreActionsUpTo kind actions tokens rest
    → AreWritableActions kind actions
actions_writable kind [] tokens rest is = tt
actions_writable kind (a ∷ more) tokens rest is =
    (text_plain a.name tokens is.0 is.2, chance_writable kind a.chance is.0 is.1 is.3, actions_writable kind more is.1 rest is.4)

list_writable : (kind : EntryKind) (given : Option (List Action)) (tokens rest : List Spelled)
    → IsActionList kind given tokens rest
    → IfSome given (AreWritableActions kind)
list_writable kind None tokens rest is = tt
list_writable kind (Some actions) tokens rest is = actions_writable kind actions is.0 rest is.2

payoffs_writable : (given : Option (List Fraction)) (tokens rest : List Spelled) → IsPayoffList given tokens rest
    → IfSome given (All IsSmallFraction)
payoffs_writable None tokens rest is = tt
payoffs_writable (Some fs) tokens rest is = payoffs_small fs is.0 rest is.2

set_gives : (kind : EntryKind) (m : SetMention) (tokens rest : List Spelled) → IsSet kind m tokens rest
    → GivesWritableSet kind m
set_gives kind m tokens rest is = record {
  from_one = is.from_one;
  limit = is.number.limit;
  name = name_plain m.name is.numbered is.named is.name;
  actions = list_writable kind m.actions is.named rest is.actions;
}

outcome_gives : (m : OutcomeMention) (tokens rest : List Spelled) → IsOutcome m tokens rest → GivesWritableOutcome m
outcome_gives m tokens rest is = record {
  limit = is.number.limit;
  name = name_plain m.name is.numbered is.named is.name;
  payoffs = payoffs_writable m.payoffs is.named rest is.payoffs;
}

entry_gives : (kind : EntryKind) (r : Record) (tokens rest : List Spelled) → r.kind ≡ kind
    → IsEntryAs kind r tokens rest → GivesWritable r
entry_gives Chance r tokens rest kind is = record {
  name = text_plain r.name is.headed is.named is.name;
  set = λ _. subst (λ (k : EntryKind). GivesWritableSet k r.set) (sym kind) (set_gives Chance r.set is.named is.placed is.set);
  outcome = outcome_gives r.outcome is.placed rest is.outcome;
}
entry_gives Personal r tokens rest kind is = record {
  name = text_plain r.name is.headed is.named is.name;
  set = λ _. subst (λ (k : EntryKind). GivesWritableSet k r.set) (sym kind) (set_gives Personal r.set is.moved is.placed is.set);
  outcome = outcome_gives r.outcome is.placed rest is.outcome;
}
entry_gives Leaf r tokens rest kind is = record {
  name = text_plain r.name is.headed is.named is.name;
  set = λ has. absurd (no_set r.kind kind has);
  outcome = outcome_gives r.outcome is.named rest is.outcome;
}
  where
    no_set : (k : EntryKind) → k ≡ Leaf → has_set k ≡ true → ⊥
    no_set Chance same has = cc
    no_set Personal same has = cc
    no_set Leaf same has = cc

-- each entry of a file gives what can be written
pub entries_give : (rs : List Record) (tokens : List Spelled) → AreEntries rs tokens → Each GivesWritable rs
entries_give [] tokens are = tt
entries_give (r ∷ rs) tokens are = (entry_gives r.kind r tokens are.0 refl are.1, entries_give rs are.0 are.2)

nothing_plain : EndsPlainly []
nothing_plain [] same = cc
nothing_plain (x ∷ front) same = cc

remark_plain : (comment : Option (List ℕ)) (tokens rest : List Spelled) → IsName comment tokens rest
    → EndsPlainly (unwrap_or comment [])
remark_plain None tokens rest is = nothing_plain
remark_plain (Some bytes) tokens rest is = text_plain bytes tokens rest is

-- where tokens say a prologue, none of its texts ends with a backslash
pub prologue_gives : (p : Prologue) (tokens rest : List Spelled) → IsPrologue p tokens rest → IsPlainPrologue p
prologue_gives p tokens rest is =
    let names = is.head.name_texts in
    record {
      title = text_plain p.title is.head.headed is.head.titled is.head.title_text;
      one = text_plain p.one is.head.opened names.0 names.1;
      two = text_plain p.two names.0 names.2.0 names.2.1;
      comment = subst EndsPlainly (sym is.text) (remark_plain is.comment is.behind rest is.remark);
    }
