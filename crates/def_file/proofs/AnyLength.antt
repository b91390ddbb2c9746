-- No reader answers that the file is too long.
use Rattle.std.proofs.Common.{◌≡◌, ◌≢◌, ℕ, zero, suc, ◌+◌, Bool, true, false, cond, ap, nat_eq, List, [], ◌∷◌, ◌++◌, length, Option, Some, None, Result, Ok}
use Rattle.std.proofs.Common.{Err}
use Rattle.def_file_tokens.specs.declared.Token.TheVariants as kinds
use Rattle.def_file_tokens.specs.declared.Lexeme.{Lexeme}
use Rattle.def_file_tokens.specs.declared.LexFault.{LexFault}
use Rattle.def_file_tokens.specs.declared.LexFault.TheVariants as lexing
use Rattle.def_file_tokens.specs.Tokens.{next_from}
use Rattle.def_fraction.specs.declared.fault.NumberFault.{NumberFault}
use Rattle.def_fraction.specs.Fraction.{Fraction}
use Rattle.def_fraction.specs.Reading.{read_as_literal, read_as_whole}
use Rattle.def_tree.specs.Tree.{wanted}
use Rattle.def_file.specs.declared.EntryKind.{EntryKind}
use Rattle.def_file.specs.declared.EntryKind.TheVariants.{Chance, Personal, Leaf}
use Rattle.def_file.specs.declared.FileFault.{FileFault}
use Rattle.def_file.specs.declared.FileFault.TheVariants.{TooLong, Syntax, UnexpectedEnd, TrailingText, Players}
use Rattle.def_file.specs.Content.{Action, Record, Contents, no_contents}
use Rattle.def_tree.specs.Rules.{most_nodes}
use Rattle.def_file.specs.Faults.{first_met, record_faults, record_fault}
use Rattle.def_file.specs.Adding.{with_record}
use Rattle.def_file.specs.Reading.{◌>>=◌, is_kind, is_token, is_exact, begins_entry, unfit, token_if, token_where, next_is, mark, open_byte, close_byte}
use Rattle.def_file.specs.Reading.{comma_byte, text_at, name_at, bytes_at, number_or_fault, number_at, literal_at, whole_at, read_as_set, set_number_at}
use Rattle.def_file.specs.Reading.{chance_at, action_at, close_at, actions_from, actions_at, comma_at, payoff_at, payoffs_from, payoffs_at, set_mention_at}
use Rattle.def_file.specs.Reading.{outcome_mention_at, chance_entry_at, personal_entry_at, terminal_entry_at, entry_at, names_from, checked_names, PrologueHead}
use Rattle.def_file.specs.Reading.{head_at, behind_head, prologue_at, unless_fault, judged, entries_from, trailing, nothing_at, game_at}

-- it isn't answered
abbrev pub AnyLength : {A : Type 0} → Result A FileFault → Type 0
AnyLength {A} read = ◌≢◌ {A = Result A FileFault} read (Err TooLong)

ok_any : {A : Type 0} (x : A) → AnyLength (Ok x)
ok_any x e = cc

-- a fault that is another
abbrev Other : FileFault → Type 0
Other fault = fault ≢ TooLong

err_any : {A : Type 0} (fault : FileFault) → Other fault → AnyLength {A = A} (Err fault)
err_any fault other e = other (cc)

bind_any : {A B : Type 0} (read : Result A FileFault) (f : A → Result B FileFault) → AnyLength read
    → ((x : A) → AnyLength (f x)) → AnyLength (read >>= f)
bind_any (Ok x) f h k = k x
bind_any (Err fault) f h k = λ e. (let same : fault ≡ TooLong = cc in h (ap Err same))

cond_any : {A : Type 0} (b : Bool) (x y : Result A FileFault) → AnyLength x → AnyLength y → AnyLength (cond b x y)
cond_any true x y h k = h
cond_any false x y h k = k

unfit_any : (b : Bool) (at : ℕ) → AnyLength {A = Lexeme} (Err (cond b UnexpectedEnd (Syntax at)))
unfit_any true at e = cc
unfit_any false at e = cc

expected_any : (test : Lexeme → Bool) (next : Result Lexeme LexFault) → AnyLength (token_if test next)
expected_any test (Ok token) = cond_any (test token) (Ok token) (Err (unfit token)) (ok_any token) (unfit_any (is_kind kinds.End token.kind) token.start)
expected_any test (Err (lexing.Syntax at)) = λ e. cc
expected_any test (Err (lexing.Unclosed at)) = λ e. cc

token_any : (test : Lexeme → Bool) (whole : List ℕ) (at : ℕ) → AnyLength (token_where test whole at)
unfolding token_where
token_any test whole at = expected_any test (next_from whole at)

-- a token, and what is made of it
then_any : {B : Type 0} (test : Lexeme → Bool) (whole : List ℕ) (at : ℕ) (f : Lexeme → Result B FileFault)
    → ((token : Lexeme) → AnyLength (f token)) → AnyLength (token_where test whole at >>= f)
then_any test whole at f k = bind_any (token_where test whole at) f (token_any test whole at) k

text_any : (whole : List ℕ) (at : ℕ) → AnyLength (text_at whole at)
unfolding text_at
text_any whole at = then_any (is_token kinds.Text whole) whole at _ (λ token. ok_any _)

name_any : (whole : List ℕ) (at : ℕ) → AnyLength (name_at whole at)
unfolding name_at
name_any whole at = cond_any (next_is mark whole at) _ _ (bind_any (text_at whole at) _ (text_any whole at) (λ text. ok_any _)) (ok_any _)

numbered_any : {A : Type 0} (token : Lexeme) (read : Result A NumberFault) → AnyLength (number_or_fault token read)
numbered_any token (Ok n) = ok_any _
numbered_any token (Err fault) = λ e. cc

number_any : {A : Type 0} (read : List ℕ → Result A NumberFault) (whole : List ℕ) (at : ℕ)
    → AnyLength (number_at read whole at)
number_any read whole at = then_any (is_token kinds.Number whole) whole at _ (λ token. numbered_any token (read (bytes_at whole token)))

literal_any : (whole : List ℕ) (at : ℕ) → AnyLength (literal_at whole at)
unfolding literal_at
literal_any whole at = number_any read_as_literal whole at

whole_any : (whole : List ℕ) (at : ℕ) → AnyLength (whole_at whole at)
unfolding whole_at
whole_any whole at = number_any read_as_whole whole at

set_number_any : (whole : List ℕ) (at : ℕ) → AnyLength (set_number_at whole at)
unfolding set_number_at
set_number_any whole at = number_any read_as_set whole at

chance_any : (kind : EntryKind) (whole : List ℕ) (at : ℕ) → AnyLength (chance_at kind whole at)
chance_any Chance whole at = literal_any whole at
chance_any Personal whole at = ok_any _
chance_any Leaf whole at = ok_any _

action_any : (kind : EntryKind) (whole : List ℕ) (at : ℕ) → AnyLength (action_at kind whole at)
unfolding action_at
action_any kind whole at = bind_any (text_at whole at) _ (text_any whole at)
    (λ name. bind_any (chance_at kind whole name.1) _ (chance_any kind whole name.1) (λ chance. ok_any _))

close_any : {A : Type 0} (value : A) (whole : List ℕ) (at : ℕ) → AnyLength (close_at value whole at)
unfolding close_at
close_any value whole at = then_any (is_token kinds.Close whole) whole at _ (λ token. ok_any _)

actions_any : (kind : EntryKind) (left : ℕ) (done : List Action) (whole : List ℕ) (at : ℕ)
    → AnyLength (actions_from kind left done whole at)
unfolding actions_from
actions_any kind zero done whole at = λ e. cc
actions_any kind (suc left) done whole at =
    cond_any (next_is close_byte whole at) _ _ (close_any done whole at)
    (bind_any (action_at kind whole at) _ (action_any kind whole at) (λ action. actions_any kind left (done ++ action.0 ∷ []) whole action.1))

action_list_any : (kind : EntryKind) (whole : List ℕ) (at : ℕ) → AnyLength (actions_at kind whole at)
unfolding actions_at
action_list_any kind whole at =
    cond_any (next_is open_byte whole at) _ _
    (then_any (is_token kinds.Open whole) whole at _ (λ opening. bind_any (actions_from kind (length whole) [] whole opening.end) _
    (actions_any kind (length whole) [] whole opening.end) (λ actions. ok_any _)))
    (ok_any _)

comma_any : (done : List Fraction) (whole : List ℕ) (at : ℕ) → AnyLength (comma_at done whole at)
comma_any [] whole at = ok_any _
comma_any (_ ∷ _) whole at = cond_any (next_is comma_byte whole at) _ _ (then_any (is_token kinds.Comma whole) whole at _ (λ token. ok_any _)) (ok_any _)

payoff_any : (done : List Fraction) (whole : List ℕ) (at : ℕ) → AnyLength (payoff_at done whole at)
unfolding payoff_at
payoff_any done whole at = bind_any (comma_at done whole at) _ (comma_any done whole at) (λ start. literal_any whole start)

payoffs_any : (left : ℕ) (done : List Fraction) (whole : List ℕ) (at : ℕ) → AnyLength (payoffs_from left done whole at)
unfolding payoffs_from
payoffs_any zero done whole at = λ e. cc
payoffs_any (suc left) done whole at =
    cond_any (next_is close_byte whole at) _ _ (close_any done whole at)
    (bind_any (payoff_at done whole at) _ (payoff_any done whole at) (λ payoff. payoffs_any left (done ++ payoff.0 ∷ []) whole payoff.1))

payoff_list_any : (whole : List ℕ) (at : ℕ) → AnyLength (payoffs_at whole at)
unfolding payoffs_at
payoff_list_any whole at =
    cond_any (next_is open_byte whole at) _ _
    (then_any (is_token kinds.Open whole) whole at _ (λ opening. bind_any (payoffs_from (length whole) [] whole opening.end) _
    (payoffs_any (length whole) [] whole opening.end) (λ payoffs. ok_any _)))
    (ok_any _)

set_mention_any : (kind : EntryKind) (whole : List ℕ) (at : ℕ) → AnyLength (set_mention_at kind whole at)
unfolding set_mention_at
set_mention_any kind whole at =
    bind_any (set_number_at whole at) _ (set_number_any whole at) (λ number.
    bind_any (name_at whole number.1) _ (name_any whole number.1) (λ name.
    bind_any (actions_at kind whole name.1) _ (action_list_any kind whole name.1) (λ actions. ok_any _)))

outcome_mention_any : (whole : List ℕ) (at : ℕ) → AnyLength (outcome_mention_at whole at)
unfolding outcome_mention_at
outcome_mention_any whole at =
    bind_any (whole_at whole at) _ (whole_any whole at) (λ number.
    bind_any (name_at whole number.1) _ (name_any whole number.1) (λ name.
    bind_any (payoffs_at whole name.1) _ (payoff_list_any whole name.1) (λ payoffs. ok_any _)))

chance_entry_any : (whole : List ℕ) (at : ℕ) → AnyLength (chance_entry_at whole at)
unfolding chance_entry_at
chance_entry_any whole at =
    bind_any (text_at whole at) _ (text_any whole at) (λ name.
    bind_any (set_mention_at Chance whole name.1) _ (set_mention_any Chance whole name.1) (λ set.
    bind_any (outcome_mention_at whole set.1) _ (outcome_mention_any whole set.1) (λ outcome. ok_any _)))

personal_entry_any : (whole : List ℕ) (at : ℕ) → AnyLength (personal_entry_at whole at)
unfolding personal_entry_at
personal_entry_any whole at =
    bind_any (text_at whole at) _ (text_any whole at) (λ name.
    bind_any (whole_at whole name.1) _ (whole_any whole name.1) (λ player.
    bind_any (set_mention_at Personal whole player.1) _ (set_mention_any Personal whole player.1) (λ set.
    bind_any (outcome_mention_at whole set.1) _ (outcome_mention_any whole set.1) (λ outcome. ok_any _))))

terminal_entry_any : (whole : List ℕ) (at : ℕ) → AnyLength (terminal_entry_at whole at)
unfolding terminal_entry_at
terminal_entry_any whole at =
    bind_any (text_at whole at) _ (text_any whole at) (λ name.
    bind_any (outcome_mention_at whole name.1) _ (outcome_mention_any whole name.1) (λ outcome. ok_any _))

entry_any : (whole : List ℕ) (at : ℕ) → AnyLength (entry_at whole at)
unfolding entry_at
entry_any whole at =
    then_any (begins_entry whole) whole at _ (λ head.
    cond_any (is_exact kinds.Word (99 ∷ []) whole head) _ _ (chance_entry_any whole head.end)
    (cond_any (is_exact kinds.Word (112 ∷ []) whole head) _ _ (personal_entry_any whole head.end) (terminal_entry_any whole head.end)))

names_any : (left : ℕ) (done : List (List ℕ)) (whole : List ℕ) (at : ℕ) → AnyLength (names_from left done whole at)
unfolding names_from
names_any zero done whole at = λ e. cc
names_any (suc left) done whole at =
    cond_any (next_is close_byte whole at) _ _ (close_any done whole at)
    (bind_any (text_at whole at) _ (text_any whole at) (λ text. names_any left (done ++ text.0 ∷ []) whole text.1))

head_any : (whole : List ℕ) (at : ℕ) → AnyLength (head_at whole at)
unfolding head_at
head_any whole at =
    then_any _ whole at _ (λ marker.
    then_any _ whole marker.end _ (λ version.
    then_any _ whole version.end _ (λ numbers.
    bind_any (text_at whole numbers.end) _ (text_any whole numbers.end) (λ title.
    then_any _ whole title.1 _ (λ opening.
    bind_any (names_from (length whole) [] whole opening.end) _ (names_any (length whole) [] whole opening.end) (λ names. ok_any _))))))

behind_any : (whole : List ℕ) (head : PrologueHead × ℕ) → AnyLength (behind_head whole head)
unfolding behind_head
behind_any whole head =
    bind_any (checked_names head.0.1 head.1) _ (cond_any (nat_eq (length head.0.1) 2) (Ok head.1) (Err (Players (length head.0.1))) (ok_any _) (λ e. cc))
    (λ behind.
    bind_any (name_at whole behind) _ (name_any whole behind) (λ comment. ok_any _))

prologue_any : (whole : List ℕ) (at : ℕ) → AnyLength (prologue_at whole at)
unfolding prologue_at
prologue_any whole at = bind_any (head_at whole at) (behind_head whole) (head_any whole at) (behind_any whole)

-- an entry's faults
abbrev OtherIf : Option FileFault → Type 0
OtherIf None = Unit {0}
OtherIf (Some fault) = Other fault

abbrev Others : List (Bool × FileFault) → Type 0
Others [] = Unit {0}
Others (p ∷ rest) = Other p.1 × Others rest

first_other : (faults : List (Bool × FileFault)) → Others faults → OtherIf (first_met faults)
first_other [] others = tt
first_other ((true, fault) ∷ rest) others = others.0
first_other ((false, fault) ∷ rest) others = first_other rest others.1

record_other : (contents : Contents) (r : Record) → OtherIf (record_fault contents r)
record_other contents r =
    first_other (record_faults contents r) (λ e. cc, (λ e. cc, (λ e. cc, (λ e. cc, (λ e. cc, (λ e. cc, (λ e. cc, (λ e. cc, tt))))))))

unless_any : (fault : Option FileFault) (contents : Contents) → OtherIf fault → AnyLength (unless_fault fault contents)
unless_any None contents other = ok_any contents
unless_any (Some fault) contents other = err_any fault other

judged_any : (contents : Contents) (r : Record) → AnyLength (judged contents r)
unfolding judged
judged_any contents r = unless_any (record_fault contents r) (with_record contents r) (record_other contents r)

entries_any : (left : ℕ) (contents : Contents) (whole : List ℕ) (at : ℕ)
    → AnyLength (entries_from left contents whole at)
unfolding entries_from
entries_any zero contents whole at = λ e. cc
entries_any (suc left) contents whole at =
    cond_any (nat_eq (wanted 1 contents.nodes) 0) _ _ (ok_any _)
    (bind_any (entry_at whole at) _ (entry_any whole at) (λ entry.
    bind_any (judged contents entry.0) _ (judged_any contents entry.0) (λ next. entries_any left next whole entry.1)))

trailing_any : (next : Result Lexeme LexFault) → AnyLength (trailing next)
trailing_any (Ok token) = cond_any (is_kind kinds.End token.kind) (Ok token.end) (Err (TrailingText token.start)) (ok_any _) (λ e. cc)
trailing_any (Err (lexing.Syntax at)) = λ e. cc
trailing_any (Err (lexing.Unclosed at)) = λ e. cc

nothing_any : (whole : List ℕ) (at : ℕ) → AnyLength (nothing_at whole at)
unfolding nothing_at
nothing_any whole at = trailing_any (next_from whole at)

-- reading never answers that the file is too long
pub game_any_length : (whole : List ℕ) → AnyLength (game_at whole)
unfolding game_at
game_any_length whole =
    bind_any (prologue_at whole 0) _ (prologue_any whole 0) (λ prologue.
    bind_any (entries_from (most_nodes + 1) no_contents whole prologue.1) _ (entries_any (most_nodes + 1) no_contents whole prologue.1) (λ entries.
    bind_any (nothing_at whole entries.1) _ (nothing_any whole entries.1) (λ end. ok_any _)))
