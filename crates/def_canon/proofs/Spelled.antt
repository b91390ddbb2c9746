-- The tokens of what an entry says, in the canonical form, are in the form of a file.
use Rattle.std.proofs.Common.{◌≡◌, ℕ, ◌≤◌, List, [], ◌∷◌, ◌++◌, map, Option, Some, None, refl, sym, ap, ◌∙◌, subst, arith, inl, inr}
use Rattle.std.specs.Prelude.{codes, unwrap_or}
use Rattle.std.specs.Fmt.{decimal}
use Rattle.def_fraction.specs.Fraction.{Fraction, most}
use Rattle.def_fraction.specs.Text.{fraction_text}
use Rattle.def_fraction.proofs.JudgeLemmas.{read_as_literal-judged}
use Rattle.def_fraction.proofs.TextLemmas.{decimal-numeral, number_of-decimal, read_as_literal-fraction_text}
use Rattle.def_file_tokens.specs.declared.Token.TheVariants.{Text}
use Rattle.def_file_tokens.specs.Spelling.{Piece}
use Rattle.def_file_tokens.specs.Texts.{EndsPlainly, escaped}
use Rattle.def_file_tokens.proofs.TextLemmas.{escaped_is_inside}
use Rattle.def_tree.specs.declared.Kind.{Kind}
use Rattle.def_tree.specs.declared.Kind.TheVariants as movers
use Rattle.def_file.specs.declared.EntryKind.{EntryKind}
use Rattle.def_file.specs.declared.EntryKind.TheVariants.{Chance, Personal}
use Rattle.def_file.specs.Content.{Action, Prologue, SetMention, OutcomeMention}
use Rattle.def_file.specs.Adding.{new_set, new_outcome}
use Rattle.def_file.specs.Game.{IsSmallFraction}
use Rattle.def_file_form.specs.Form.{Spelled, spelled, IsText, IsName, IsWholeNumber, IsFraction, IsChance, AreActionsUpTo, IsActionList, IsPayoffList, IsSet}
use Rattle.def_file_form.specs.Form.{IsOutcome, IsPrologue}
use Rattle.def_canon.specs.Canon.{action_pieces, behind, chance_pieces, close_piece, described_outcome, each, fraction, list_pieces, marker_pieces, name_pieces}
use Rattle.def_canon.specs.Canon.{payoffs_pieces, prologue_pieces, quoted, set_pieces, text_piece, whole_piece}
use Rattle.def_canon.specs.Writable.{AreWritableActions, IsChanceOf, IsPlainName, IsPlainPrologue, IsWritableOutcome, IsWritableSet}

-- the tokens of pieces, and then the rest
abbrev pub spell : List Piece → List Spelled → List Spelled
spell [] rest = rest
spell (p ∷ ps) rest = spelled p ∷ spell ps rest

-- the tokens of two lists of pieces are those of the first, then those of the second, and then the rest
pub spell_append : (ps qs : List Piece) (rest : List Spelled) → spell (ps ++ qs) rest ≡ spell ps (spell qs rest)
spell_append [] qs rest = refl
spell_append (p ∷ ps) qs rest = ap (λ l. spelled p ∷ l) (spell_append ps qs rest)

-- pieces that are spelled one by one are their tokens with nothing behind them
pub spell_map : (ps : List Piece) → map spelled ps ≡ spell ps []
spell_map [] = refl
spell_map (p ∷ ps) = ap (λ l. spelled p ∷ l) (spell_map ps)

quoted_is : (bytes space : List ℕ) (rest : List Spelled) → EndsPlainly bytes
    → IsText bytes (spelled (behind space Text (quoted bytes)) ∷ rest) rest
unfolding quoted
quoted_is bytes space rest plain =
    let is = escaped_is_inside (escaped bytes) bytes plain refl in
    record { inside = escaped bytes; is_inside = is.0; stands_for = is.1; spelling = refl }

-- the token of a text that doesn't end with a backslash says this text
pub text_is : (bytes : List ℕ) (rest : List Spelled) → EndsPlainly bytes
    → IsText bytes (spelled (text_piece bytes) ∷ rest) rest
text_is bytes rest plain = quoted_is bytes (codes " ") rest plain

-- the token of a whole number within the limit says this number
pub whole_is : (n : ℕ) (rest : List Spelled) → n ≤ most → IsWholeNumber n (spelled (whole_piece n) ∷ rest) rest
whole_is n rest small = record {
  digits = decimal n;
  numeral = decimal-numeral n (omega arith);
  value = number_of-decimal n (omega arith);
  limit = small;
  spelling = refl;
}

pub fraction_is : (f : Fraction) (rest : List Spelled) → IsSmallFraction f
    → IsFraction f (spelled (fraction f) ∷ rest) rest
fraction_is f rest small = record {
  bytes = fraction_text f;
  literal = ((read_as_literal-judged (fraction_text f)).value f).0 (read_as_literal-fraction_text f small.0 small.1);
  spelling = refl;
}

pub name_is : (name : Option (List ℕ)) (rest : List Spelled) → IsPlainName name
    → IsName name (spell (name_pieces name) rest) rest
unfolding name_pieces
name_is None rest plain = refl
name_is (Some name) rest plain = text_is name rest plain

-- the probabilities of an entry's actions are spelled as the kind has them
pub record MovesAs (who : Kind) (kind : EntryKind) : Type 0 where
  pub chance : (f : Fraction) (rest : List Spelled) → IsChanceOf kind f
      → IsChance kind f (spell (chance_pieces who f) rest) rest

-- the probability of chance's action is spelled as a chance entry has it
pub chance_moves_as : MovesAs movers.Chance Chance
unfolding chance_pieces
chance_moves_as = record { chance = λ f rest small. fraction_is f rest small }

-- player one's action is spelled without a probability, as a personal entry has it
pub one_moves_as : MovesAs movers.One Personal
unfolding chance_pieces
one_moves_as = record { chance = λ f rest none. (none, refl) }

-- player two's action is spelled without a probability, as a personal entry has it
pub two_moves_as : MovesAs movers.Two Personal
unfolding chance_pieces
two_moves_as = record { chance = λ f rest none. (none, refl) }

actions_are : (who : Kind) (kind : EntryKind) → MovesAs who kind → (actions : List Action) (rest : List Spelled)
    → AreWritableActions kind actions
    → AreActionsUpTo kind actions (spell (each (action_pieces who) actions) (spelled close_piece ∷ rest)) rest
unfolding each action_pieces
actions_are who kind moves [] rest writable = refl
actions_are who kind moves (a ∷ more) rest writable =
    let tail = spell (each (action_pieces who) more) (spelled close_piece ∷ rest) in
    let named = spell (chance_pieces who a.chance) tail in
    subst (λ (tokens : List Spelled). AreActionsUpTo kind (a ∷ more) (spelled (text_piece a.name) ∷ tokens) rest)
    (sym (spell_append (chance_pieces who a.chance) (each (action_pieces who) more) (spelled close_piece ∷ rest)))
    (named, tail, text_is a.name named writable.0, moves.chance a.chance tail writable.1, actions_are who kind moves more rest writable.2)

list_is : (who : Kind) (kind : EntryKind) → MovesAs who kind → (actions : List Action) (rest : List Spelled)
    → AreWritableActions kind actions → IsActionList kind (Some actions) (spell (list_pieces who actions) rest) rest
unfolding list_pieces
list_is who kind moves actions rest writable = (
  spell (each (action_pieces who) actions ++ close_piece ∷ []) rest,
  refl,
  subst (λ (tokens : List Spelled). AreActionsUpTo kind actions tokens rest) (sym (spell_append (each (action_pieces who) actions) (close_piece ∷ []) rest))
      (actions_are who kind moves actions rest writable),
)

-- where probabilities are spelled as the kind has them, the tokens of a writable set say this set
pub set_is : (who : Kind) (kind : EntryKind) → MovesAs who kind → (m : SetMention) (rest : List Spelled)
    → IsWritableSet kind m
    → IsSet kind m (spell (set_pieces who (new_set m)) rest) rest
unfolding set_pieces
set_is who kind moves m rest w =
    let actions = unwrap_or m.actions [] in
    let listed = spell (list_pieces who actions) rest in
    let given : m.actions ≡ Some actions = w.gives ∙ ap (λ o. Some (unwrap_or o [])) (sym w.gives) in
    let own : w.actions ≡ actions = ap (λ o. unwrap_or o []) (sym w.gives) in
    record {
      numbered = spell (name_pieces m.name ++ list_pieces who actions) rest;
      named = listed;
      number = whole_is m.number _ w.limit;
      from_one = w.from_one;
      name = subst (λ (tokens : List Spelled). IsName m.name tokens listed) (sym (spell_append (name_pieces m.name) (list_pieces who actions) rest))
          (name_is m.name listed w.name);
      actions = subst (λ (o : Option (List Action)). IsActionList kind o listed rest) (sym given)
          (list_is who kind moves actions rest (subst (AreWritableActions kind) own w.writable));
    }

payoffs_are : (one two : Fraction) (rest : List Spelled) → IsSmallFraction one → IsSmallFraction two
    → IsPayoffList (Some (one ∷ two ∷ [])) (spell (payoffs_pieces one two) rest) rest
unfolding payoffs_pieces
payoffs_are one two rest small_one small_two =
    let behind_two = spelled close_piece ∷ rest in
    let parted = spelled (fraction two) ∷ behind_two in
    (_, refl, (_, fraction_is one _ small_one, (parted, behind_two, inr refl, fraction_is two behind_two small_two, refl)))

-- the tokens of a writable outcome say this outcome
pub outcome_is : (m : OutcomeMention) (rest : List Spelled) → IsWritableOutcome m
    → IsOutcome m (spell (described_outcome (new_outcome m)) rest) rest
unfolding described_outcome
outcome_is m rest w =
    let one = (new_outcome m).one in
    let two = (new_outcome m).two in
    let listed = spell (payoffs_pieces one two) rest in
    let same_one : w.one ≡ one = ap (λ (o : Option (List Fraction)). (new_outcome (record m { payoffs = o })).one) (sym w.gives) in
    let same_two : w.two ≡ two = ap (λ (o : Option (List Fraction)). (new_outcome (record m { payoffs = o })).two) (sym w.gives) in
    let given : m.payoffs ≡ Some (one ∷ two ∷ []) = w.gives ∙ (λ i. Some (same_one i ∷ same_two i ∷ [])) in
    record {
      numbered = spell (name_pieces m.name ++ payoffs_pieces one two) rest;
      named = listed;
      number = whole_is m.number _ w.limit;
      name = subst (λ (tokens : List Spelled). IsName m.name tokens listed) (sym (spell_append (name_pieces m.name) (payoffs_pieces one two) rest))
          (name_is m.name listed w.name);
      payoffs = subst (λ (o : Option (List Fraction)). IsPayoffList o listed rest) (sym given)
          (payoffs_are one two rest (subst IsSmallFraction same_one w.one_small) (subst IsSmallFraction same_two w.two_small));
    }

-- the tokens of a prologue of which no text ends with a backslash say this prologue
pub prologue_is : (p : Prologue) (rest : List Spelled) → IsPlainPrologue p
    → IsPrologue p (spell (prologue_pieces p) rest) rest
unfolding prologue_pieces marker_pieces
prologue_is p rest plain =
    let remark = spelled (behind (codes "\n") Text (quoted p.comment)) ∷ rest in
    record {
      behind = remark;
      comment = Some p.comment;
      head = record {
        headed = _;
        titled = _;
        opened = _;
        numbers = _;
        rational = inl refl;
        head = refl;
        title_text = text_is p.title _ plain.title;
        brace = refl;
        name_texts = (_, text_is p.one _ plain.one, (_, text_is p.two _ plain.two, refl));
      };
      remark = quoted_is p.comment (codes "\n") rest plain.comment;
      text = refl;
    }
