-- Lists of actions.
use Rattle.std.proofs.Common.{◌≡◌, ℕ, zero, suc, ◌+◌, ◌≤◌, Bool, true, false, cond, List, [], ◌∷◌, ◌++◌, length, Option, Some, None, Result, Ok, Err, sym, refl}
use Rattle.std.proofs.Common.{ap, subst, arith}
use Rattle.def_file_tokens.specs.declared.Token.{Token}
use Rattle.def_file_tokens.specs.declared.Token.TheVariants as kinds
use Rattle.def_file_tokens.specs.declared.Lexeme.{Lexeme}
use Rattle.def_file_tokens.specs.Tokens.{span, next_from}
use Rattle.def_file_tokens.proofs.TokenLemmas.{next_from-end}
use Rattle.def_file.specs.declared.FileFault.{FileFault}
use Rattle.def_file.specs.declared.FileFault.TheVariants.{UnexpectedEnd}
use Rattle.def_file.specs.declared.EntryKind.{EntryKind}
use Rattle.def_file.specs.declared.EntryKind.TheVariants.{Chance, Personal, Leaf}
use Rattle.def_fraction.specs.Fraction.{zero_fraction}
use Rattle.def_file.specs.Content.{Action}
use Rattle.def_file.specs.Reading.{◌>>=◌, is_kind, is_token, token_where, next_is, open_byte, close_byte, text_at, chance_at, action_at, close_at, actions_from}
use Rattle.def_file.specs.Reading.{actions_at}
use Rattle.def_file_form.specs.Form.{Spelled, text, open_brace, close_brace, IsText, IsFraction, IsChance, AreActionsUpTo, IsActionList, spelled_at}
use Rattle.def_file_form.proofs.TokenByToken.{ok_token, open_step, close_step}
use Rattle.def_file_form.proofs.Languages.{Alike, AlikeBut, FirstIsOther, After, NextIs, Halt}
use Rattle.def_file_form.proofs.NextByteTellsToken.{step_grows, open_next, close_next, not_next}
use Rattle.def_file_form.proofs.SuccessiveReadings.{HasWord, Goes, goes_past, goes_stuck, goes_then, goes_with, goes_alike, goes_less, goes_other, goes_step}
use Rattle.def_file_form.proofs.OneTokenParts.{Part, NoFirst, text_goes}
use Rattle.def_file_form.proofs.Numerals.{literal_goes, literal_word}

-- Marks.

-- a brace stands next
pub record MarkNext (kind : Token) (s : Spelled) (whole : List ℕ) (at : ℕ) : Type 0 where
  pub t : Lexeme
  pub step : NextIs whole at t
  pub read : token_where (is_token kind whole) whole at ≡ Ok t
  pub spelled : spelled_at whole t ≡ s

pub close_mark : (whole : List ℕ) (at : ℕ) → at ≤ length whole → next_is close_byte whole at ≡ true
    → MarkNext kinds.Close close_brace whole at
close_mark whole at within is =
    let found = close_next whole at is in
    let read = ok_token (is_token kinds.Close whole) whole at found.0 found.1 (ap (is_kind kinds.Close) found.2) in
    let s = close_step whole at within found.0 read in
    record { t = found.0; step = record { next = s.next; not_end = s.not_end }; read = read; spelled = s.spelled }

pub open_mark : (whole : List ℕ) (at : ℕ) → at ≤ length whole → next_is open_byte whole at ≡ true
    → MarkNext kinds.Open open_brace whole at
open_mark whole at within is =
    let found = open_next whole at is in
    let read = ok_token (is_token kinds.Open whole) whole at found.0 found.1 (ap (is_kind kinds.Open) found.2) in
    let s = open_step whole at within found.0 read in
    record { t = found.0; step = record { next = s.next; not_end = s.not_end }; read = read; spelled = s.spelled }

-- a mark, and what is read behind it
pub goes_mark : {A : Type 0} (kind : Token) (s : Spelled) (F : (List Spelled → Type 0) → Type 0)
    (In : (List Spelled → Type 0) → List Spelled → Type 0) (whole : List ℕ) (at : ℕ)
    → at ≤ length whole → (m : MarkNext kind s whole at) → (f : Lexeme → Result (A × ℕ) FileFault)
    → Goes 0 F (λ T. After s (In T)) whole m.t.end (f m.t)
    → Goes 1 F In whole at (token_where (is_token kind whole) whole at >>= f)
goes_mark kind s F In whole at within m f go =
    subst (λ r. Goes 1 F In whole at (r >>= f)) (sym m.read)
    (goes_step F In whole at within m.t m.step (f m.t) (subst (λ u. Goes 0 F (λ T. After u (In T)) whole m.t.end (f m.t)) (sym m.spelled) go))

-- the closing brace of a list
pub close_goes : {A : Type 0} (value : A) (F : (List Spelled → Type 0) → Type 0)
    (In : (List Spelled → Type 0) → List Spelled → Type 0) (whole : List ℕ) (at : ℕ)
    → at ≤ length whole → next_is close_byte whole at ≡ true
    → ((T : List Spelled → Type 0) → F T → Alike (After close_brace (In T)) T)
    → Goes 1 F In whole at (close_at value whole at)
unfolding close_at
close_goes value F In whole at within is alike =
    let m = close_mark whole at within is in
    goes_mark kinds.Close close_brace F In whole at within m (λ token. Ok (value, token.end))
    (goes_past 0 F (λ T. After close_brace (In T)) whole m.t.end (value, m.t.end) (record {
      within = (step_grows whole at within m.t m.step).1;
      grows = omega arith;
      along = λ P walk T g there. walk.alike (After close_brace (In T)) T m.t.end (alike T g) there;
    }))

-- where no more items may come, the end stands
pub spent : {A : Type 0} (F : (List Spelled → Type 0) → Type 0) (In : (List Spelled → Type 0) → List Spelled → Type 0)
    (whole : List ℕ) (at : ℕ)
    → at ≤ length whole → length whole ≤ at + 0 → ((T : List Spelled → Type 0) → F T → HasWord (In T))
    → ((T : List Spelled → Type 0) → F T → In T [] → ⊥)
    → Goes {A = A} 1 F In whole at (Err UnexpectedEnd)
spent F In whole at within past word unfinished =
    let same : length whole ≡ at = omega (arith, past) in
    let end = span kinds.End (length whole) (length whole) in
    let next : next_from whole at ≡ Ok end = subst (λ n. next_from whole n ≡ Ok end) same (next_from-end whole) in
    goes_stuck 1 F In whole at UnexpectedEnd (λ T g. record {
      tokens = [];
      place = at;
      before = refl;
      front = word T g;
      halt = Halt.no_token end refl (unfinished T g) next refl;
    })

-- Actions.

nothing_alike : (T : List Spelled → Type 0) → Alike (Part (IsChance Personal) T) T
nothing_alike T = record { to = λ ss l. subst T (sym l.2.1) l.3; back = λ ss there. (zero_fraction, ss, (refl, refl), there) }

chance_word : (kind : EntryKind) (T : List Spelled → Type 0) → HasWord T → HasWord (Part (IsChance kind) T)
chance_word Chance T word = literal_word T word
chance_word Personal T word = (word.0, (nothing_alike T).back word.0 word.1)
chance_word Leaf T word = (word.0, (nothing_alike T).back word.0 word.1)

nothing_goes : (whole : List ℕ) (at : ℕ) → at ≤ length whole
    → Goes 0 HasWord (Part (IsChance Personal)) whole at (Ok (zero_fraction, at))
nothing_goes whole at within = goes_past 0 HasWord (Part (IsChance Personal)) whole at (zero_fraction, at) (record {
  within = within;
  grows = omega arith;
  along = λ P walk T word there. walk.alike (Part (IsChance Personal) T) T at (nothing_alike T) there;
})

chance_goes : (kind : EntryKind) (whole : List ℕ) (at : ℕ) → at ≤ length whole
    → Goes 0 HasWord (Part (IsChance kind)) whole at (chance_at kind whole at)
chance_goes Chance whole at within = goes_less 1 0 HasWord (Part IsFraction) whole at (chance_at Chance whole at) (omega arith) (literal_goes whole at within)
chance_goes Personal whole at within = nothing_goes whole at within
chance_goes Leaf whole at within = nothing_goes whole at within

abbrev IsActionIn : EntryKind → (List Spelled → Type 0) → List Spelled → Type 0
IsActionIn kind T = Part IsText (Part (IsChance kind) T)

action_goes : (kind : EntryKind) (whole : List ℕ) (at : ℕ) → at ≤ length whole
    → Goes 1 HasWord (IsActionIn kind) whole at (action_at kind whole at)
unfolding action_at
action_goes kind whole at within =
    goes_then 1 HasWord HasWord (Part IsText) (Part (IsChance kind)) whole at (text_at whole at) _ (text_goes whole at within) (chance_word kind)
    (λ name e inner grown. goes_with 0 HasWord (Part (IsChance kind)) whole name.1 (chance_at kind whole name.1)
    (λ chance. record { name = name.0; chance = chance.0 }) (chance_goes kind whole name.1 inner))

-- no text begins with a closing brace
pub no_text_closes : (bytes : List ℕ) (ss rest : List Spelled) → IsText bytes (close_brace ∷ ss) rest → ⊥
no_text_closes bytes ss rest is =
    let first : close_brace ≡ text is.inside = let e = is.spelling in cc in
    let kind : kinds.Close ≡ kinds.Text = ap (λ (s : Spelled). s.kind) first in cc

actions_word : (kind : EntryKind) (T : List Spelled → Type 0) → HasWord T → HasWord (Part (AreActionsUpTo kind) T)
actions_word kind T word = (close_brace ∷ word.0, ([], word.0, refl, word.1))

actions_closed : (kind : EntryKind) (T : List Spelled → Type 0)
    → Alike (After close_brace (Part (AreActionsUpTo kind) T)) T
actions_closed kind T = record { to = λ ss l. to ss l.0 l.1 l.2 l.3; back = λ ss there. ([], ss, refl, there) }
  where
    to : (ss : List Spelled) (v : List Action) (rest : List Spelled) → AreActionsUpTo kind v (close_brace ∷ ss) rest
        → T rest → T ss
    to ss [] rest is there = let same : rest ≡ ss = cc in subst T same there
    to ss (a ∷ more) rest is there = absurd (no_text_closes a.name ss is.0 is.2)

actions_but : (kind : EntryKind) (T : List Spelled → Type 0)
    → AlikeBut kinds.Close (Part (AreActionsUpTo kind) T) (IsActionIn kind (Part (AreActionsUpTo kind) T))
actions_but kind T = record {
  to = λ ss fits l. to ss fits l.0 l.1 l.2 l.3;
  back = λ ss l.
      let later = l.3 in
      let last = later.3 in
      (record { name = l.0; chance = later.0 } ∷ last.0, last.1, (l.1, later.1, l.2, later.2, last.2), last.3);
}
  where
    to : (ss : List Spelled) → FirstIsOther kinds.Close ss → (v : List Action) (rest : List Spelled)
        → AreActionsUpTo kind v ss rest → T rest → IsActionIn kind (Part (AreActionsUpTo kind) T) ss
    to ss fits [] rest is there = absurd (let clash = subst (FirstIsOther kinds.Close) is fits in clash refl)
    to ss fits (a ∷ more) rest is there = (a.name, is.0, is.2, (a.chance, is.1, is.3, (more, rest, is.4, there)))

actions_open : (kind : EntryKind) (T : List Spelled → Type 0) → Part (AreActionsUpTo kind) T [] → ⊥
actions_open kind T l = unfinished l.0 l.1 l.2
  where
    unfinished : (v : List Action) (rest : List Spelled) → AreActionsUpTo kind v [] rest → ⊥
    unfinished [] rest is = cc
    unfinished (a ∷ more) rest is = let e = is.2.spelling in cc

actions_goes : (kind : EntryKind) (left : ℕ) (done : List Action) (whole : List ℕ) (at : ℕ) → at ≤ length whole
    → length whole ≤ at + left
    → Goes 1 HasWord (Part (AreActionsUpTo kind)) whole at (actions_from kind left done whole at)
unfolding actions_from
actions_goes kind zero done whole at within left_is = spent HasWord (Part (AreActionsUpTo kind)) whole at within left_is (actions_word kind)
    (λ T word. actions_open kind T)
actions_goes kind (suc left) done whole at within left_is =
    chosen (next_is close_byte whole at) refl (λ action inner grown. actions_goes kind left (done ++ action.0 ∷ []) whole action.1 inner
    (omega (arith, grown, left_is)))
  where
    chosen : (b : Bool) → next_is close_byte whole at ≡ b
        → ((action : Action × ℕ) → action.1 ≤ length whole → at + 1 ≤ action.1
        → Goes 1 HasWord (Part (AreActionsUpTo kind)) whole action.1 (actions_from kind left (done ++ action.0 ∷ []) whole action.1))
        → Goes 1 HasWord (Part (AreActionsUpTo kind)) whole at (cond b (close_at done whole at)
        (action_at kind whole at >>= λ action. actions_from kind left (done ++ action.0 ∷ []) whole action.1))
    chosen true is again = close_goes done HasWord (Part (AreActionsUpTo kind)) whole at within is (λ T word. actions_closed kind T)
    chosen false is again =
        goes_other 1 kinds.Close (λ clash. cc) HasWord (λ T. IsActionIn kind (Part (AreActionsUpTo kind) T)) (Part (AreActionsUpTo kind)) whole at _
        (λ T word. actions_but kind T) (not_next kinds.Close (omega arith) whole at is)
        (goes_then 1 HasWord HasWord (IsActionIn kind) (Part (AreActionsUpTo kind)) whole at (action_at kind whole at) _ (action_goes kind whole at within)
        (actions_word kind)
        (λ action e inner grown. goes_less 1 0 HasWord (Part (AreActionsUpTo kind)) whole action.1 _ (omega arith) (again action inner grown)))

-- A list that may be absent.

-- the opening brace, and a list behind it
pub list_goes : {A B : Type 0} (F : (List Spelled → Type 0) → Type 0)
    (Items In : (List Spelled → Type 0) → List Spelled → Type 0) (whole : List ℕ) (at : ℕ)
    → at ≤ length whole → next_is open_byte whole at ≡ true → (items : ℕ → Result (A × ℕ) FileFault) (f : A × ℕ → B)
    → ((T : List Spelled → Type 0) → F T → HasWord T)
    → ((T : List Spelled → Type 0) → F T → Alike (After open_brace (In T)) (Items T))
    → ((mid : ℕ) → mid ≤ length whole → Goes 1 HasWord Items whole mid (items mid))
    → Goes 1 F In whole at (token_where (is_token kinds.Open whole) whole at >>= λ opening. (items opening.end >>= λ x. Ok (f x, x.1)))
list_goes F Items In whole at within is items f word alike go =
    let m = open_mark whole at within is in
    let inner = (step_grows whole at within m.t m.step).1 in
    goes_mark kinds.Open open_brace F In whole at within m (λ opening. items opening.end >>= λ x. Ok (f x, x.1))
    (goes_alike 0 HasWord F Items (λ T. After open_brace (In T)) whole m.t.end _ word alike
    (goes_less 1 0 HasWord Items whole m.t.end _ (omega arith) (goes_with 1 HasWord Items whole m.t.end (items m.t.end) f (go m.t.end inner))))

action_list_after : (kind : EntryKind) (T : List Spelled → Type 0) → NoFirst kinds.Open T
    → Alike (After open_brace (Part (IsActionList kind) T)) (Part (AreActionsUpTo kind) T)
action_list_after kind T apart = record { to = λ ss l. to ss l.0 l.1 l.2 l.3; back = λ ss l. (Some l.0, l.1, (ss, refl, l.2), l.3) }
  where
    to : (ss : List Spelled) (v : Option (List Action)) (rest : List Spelled)
        → IsActionList kind v (open_brace ∷ ss) rest → T rest → Part (AreActionsUpTo kind) T ss
    to ss None rest is there = absurd (apart.apart open_brace ss (subst T (sym is) there) refl)
    to ss (Some actions) rest is there =
        let same : is.0 ≡ ss = let e = is.1 in cc in
        (actions, rest, subst (λ tokens. AreActionsUpTo kind actions tokens rest) same is.2, there)

action_list_but : (kind : EntryKind) (T : List Spelled → Type 0) → AlikeBut kinds.Open (Part (IsActionList kind) T) T
action_list_but kind T = record { to = λ ss fits l. to ss fits l.0 l.1 l.2 l.3; back = λ ss there. (None, ss, refl, there) }
  where
    to : (ss : List Spelled) → FirstIsOther kinds.Open ss → (v : Option (List Action)) (rest : List Spelled)
        → IsActionList kind v ss rest → T rest → T ss
    to ss fits None rest is there = subst T (sym is) there
    to ss fits (Some actions) rest is there = absurd (let clash = subst (FirstIsOther kinds.Open) is.1 fits in clash refl)

-- reading a list of actions, or none, goes along its tokens, or is stuck in them
pub action_list_goes : (kind : EntryKind) (whole : List ℕ) (at : ℕ) → at ≤ length whole
    → Goes 0 (NoFirst kinds.Open) (Part (IsActionList kind)) whole at (actions_at kind whole at)
unfolding actions_at
action_list_goes kind whole at within = chosen (next_is open_byte whole at) refl
  where
    chosen : (b : Bool) → next_is open_byte whole at ≡ b
        → Goes 0 (NoFirst kinds.Open) (Part (IsActionList kind)) whole at
        (cond b (token_where (is_token kinds.Open whole) whole at >>= λ opening.
        (actions_from kind (length whole) [] whole opening.end >>= λ actions. Ok (Some actions.0, actions.1))) (Ok (None, at)))
    chosen true is =
        goes_less 1 0 (NoFirst kinds.Open) (Part (IsActionList kind)) whole at _ (omega arith)
        (list_goes (NoFirst kinds.Open) (Part (AreActionsUpTo kind)) (Part (IsActionList kind)) whole at within is
        (λ mid. actions_from kind (length whole) [] whole mid) (λ actions. Some actions.0) (λ T f. f.word) (action_list_after kind)
        (λ mid inner. actions_goes kind (length whole) [] whole mid inner (omega arith)))
    chosen false is = goes_past 0 (NoFirst kinds.Open) (Part (IsActionList kind)) whole at (None, at) (record {
      within = within;
      grows = omega arith;
      along = λ P walk T f there. walk.other kinds.Open (λ clash. cc) (Part (IsActionList kind) T) T at (action_list_but kind T)
          (not_next kinds.Open (omega arith) whole at is) there;
    })
