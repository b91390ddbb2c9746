-- Lists of payoffs.
use Rattle.std.proofs.Common.{◌≡◌, ℕ, zero, suc, ◌+◌, ◌≤◌, Bool, true, false, cond, List, [], ◌∷◌, ◌++◌, length, Option, Some, None, Result, Ok, sym, refl, ap}
use Rattle.std.proofs.Common.{◌∙◌, subst, arith, ◌⊎◌, inl, inr}
use Rattle.def_file_tokens.specs.declared.Token.TheVariants as kinds
use Rattle.def_fraction.specs.Fraction.{Fraction}
use Rattle.def_file.specs.declared.FileFault.{FileFault}
use Rattle.def_file.specs.Reading.{◌>>=◌, is_kind, is_token, token_where, next_is, open_byte, close_byte, comma_byte, literal_at, close_at, payoff_at}
use Rattle.def_file.specs.Reading.{payoffs_from, payoffs_at}
use Rattle.def_file_form.specs.Form.{Spelled, number, open_brace, close_brace, comma, IsFraction, AreMorePayoffs, ArePayoffs, IsPayoffList}
use Rattle.def_file_form.proofs.TokenByToken.{ok_token, comma_step}
use Rattle.def_file_form.proofs.Languages.{Alike, AlikeBut, FirstIsOther, After}
use Rattle.def_file_form.proofs.NextByteTellsToken.{step_grows, comma_next, not_next}
use Rattle.def_file_form.proofs.SuccessiveReadings.{HasWord, Goes, goes_past, goes_then, goes_alike, goes_less, goes_other, goes_step}
use Rattle.def_file_form.proofs.OneTokenParts.{Part, NoFirst}
use Rattle.def_file_form.proofs.Numerals.{literal_goes}
use Rattle.def_file_form.proofs.Lists.{MarkNext, close_goes, spent, list_goes}

comma_mark : (whole : List ℕ) (at : ℕ) → at ≤ length whole → next_is comma_byte whole at ≡ true
    → MarkNext kinds.Comma comma whole at
comma_mark whole at within is =
    let found = comma_next whole at is in
    let read = ok_token (is_token kinds.Comma whole) whole at found.0 found.1 (ap (is_kind kinds.Comma) found.2) in
    let s = comma_step whole at within found.0 read in
    record { t = found.0; step = record { next = s.next; not_end = s.not_end }; read = read; spelled = s.spelled }

-- a comma may stand first
abbrev Parted : (List Spelled → Type 0) → List Spelled → Type 0
Parted T ss = T ss ⊎ ((rest : List Spelled) × (ss ≡ comma ∷ rest) × T rest)

-- a payoff behind others, and what follows
abbrev PayoffIn : List Fraction → (List Spelled → Type 0) → List Spelled → Type 0
PayoffIn [] T = Part IsFraction T
PayoffIn (_ ∷ _) T = Parted (Part IsFraction T)

-- the payoffs behind others
abbrev Behind : List Fraction → List Fraction → List Spelled → List Spelled → Type 0
Behind [] fs tokens rest = ArePayoffs fs tokens rest
Behind (_ ∷ _) fs tokens rest = AreMorePayoffs fs tokens rest

no_comma_first : (T : List Spelled → Type 0) (ss : List Spelled) → Part IsFraction T (comma ∷ ss) → ⊥
no_comma_first T ss l =
    let e = l.2.spelling in
    let first : comma ≡ number l.2.bytes = cc in
    let kind : kinds.Comma ≡ kinds.Number = ap (λ (s : Spelled). s.kind) first in cc

parted_after : (T : List Spelled → Type 0) → Alike (After comma (Parted (Part IsFraction T))) (Part IsFraction T)
parted_after T = record { to = to; back = λ ss l. inr (ss, refl, l) }
  where
    to : (ss : List Spelled) → Parted (Part IsFraction T) (comma ∷ ss) → Part IsFraction T ss
    to ss (inl l) = absurd (no_comma_first T ss l)
    to ss (inr l) = let same : l.0 ≡ ss = let e = l.1 in cc in subst (Part IsFraction T) same l.2

parted_but : (T : List Spelled → Type 0) → AlikeBut kinds.Comma (Parted T) T
parted_but T = record { to = to; back = λ ss l. inl l }
  where
    to : (ss : List Spelled) → FirstIsOther kinds.Comma ss → Parted T ss → T ss
    to ss fits (inl l) = l
    to ss fits (inr l) = absurd (let clash = subst (FirstIsOther kinds.Comma) l.1 fits in clash refl)

payoff_goes : (done : List Fraction) (whole : List ℕ) (at : ℕ) → at ≤ length whole
    → Goes 1 HasWord (PayoffIn done) whole at (payoff_at done whole at)
unfolding payoff_at
payoff_goes [] whole at within = literal_goes whole at within
payoff_goes (d ∷ ds) whole at within = chosen (next_is comma_byte whole at) refl
  where
    chosen : (b : Bool) → next_is comma_byte whole at ≡ b
        → Goes 1 HasWord (PayoffIn (d ∷ ds)) whole at (cond b (token_where (is_token kinds.Comma whole) whole at >>= λ token. Ok token.end) (Ok at) >>= λ start.
        literal_at whole start)
    chosen true is =
        let m = comma_mark whole at within is in
        let inner = (step_grows whole at within m.t m.step).1 in
        subst (λ r. Goes 1 HasWord (PayoffIn (d ∷ ds)) whole at ((r >>= λ token. Ok token.end) >>= λ start. literal_at whole start)) (sym m.read)
        (goes_step HasWord (PayoffIn (d ∷ ds)) whole at within m.t m.step (literal_at whole m.t.end)
        (subst (λ u. Goes 0 HasWord (λ T. After u (PayoffIn (d ∷ ds) T)) whole m.t.end (literal_at whole m.t.end)) (sym m.spelled)
        (goes_alike 0 HasWord HasWord (Part IsFraction) (λ T. After comma (Parted (Part IsFraction T))) whole m.t.end (literal_at whole m.t.end) (λ T w. w)
        (λ T w. parted_after T)
        (goes_less 1 0 HasWord (Part IsFraction) whole m.t.end _ (omega arith) (literal_goes whole m.t.end inner)))))
    chosen false is = goes_other 1 kinds.Comma (λ clash. cc) HasWord (Part IsFraction) (PayoffIn (d ∷ ds)) whole at (literal_at whole at)
        (λ T w. parted_but (Part IsFraction T)) (not_next kinds.Comma (omega arith) whole at is) (literal_goes whole at within)

no_number_closes : (f : Fraction) (ss rest : List Spelled) → IsFraction f (close_brace ∷ ss) rest → ⊥
no_number_closes f ss rest is =
    let first : close_brace ≡ number is.bytes = let e = is.spelling in cc in
    let kind : kinds.Close ≡ kinds.Number = ap (λ (s : Spelled). s.kind) first in cc

no_comma_closes : (ss rest : List Spelled) → close_brace ∷ ss ≡ comma ∷ rest → ⊥
no_comma_closes ss rest e =
    let first : close_brace ≡ comma = cc in
    let kind : kinds.Close ≡ kinds.Comma = ap (λ (s : Spelled). s.kind) first in cc

payoffs_word : (done : List Fraction) (T : List Spelled → Type 0) → HasWord T → HasWord (Part (Behind done) T)
payoffs_word [] T word = (close_brace ∷ word.0, ([], word.0, refl, word.1))
payoffs_word (d ∷ ds) T word = (close_brace ∷ word.0, ([], word.0, refl, word.1))

payoffs_closed : (done : List Fraction) (T : List Spelled → Type 0) → Alike (After close_brace (Part (Behind done) T)) T
payoffs_closed [] T = record { to = λ ss l. to ss l.0 l.1 l.2 l.3; back = λ ss there. ([], ss, refl, there) }
  where
    to : (ss : List Spelled) (v : List Fraction) (rest : List Spelled) → ArePayoffs v (close_brace ∷ ss) rest → T rest
        → T ss
    to ss [] rest is there = let same : rest ≡ ss = cc in subst T same there
    to ss (f ∷ fs) rest is there = absurd (no_number_closes f ss is.0 is.1)
payoffs_closed (d ∷ ds) T = record { to = λ ss l. to ss l.0 l.1 l.2 l.3; back = λ ss there. ([], ss, refl, there) }
  where
    clash : (f : Fraction) (ss parted done : List Spelled)
        → (close_brace ∷ ss ≡ parted) ⊎ (close_brace ∷ ss ≡ comma ∷ parted) → IsFraction f parted done → ⊥
    clash f ss parted done (inl same) is = no_number_closes f ss done (subst (λ tokens. IsFraction f tokens done) (sym same) is)
    clash f ss parted done (inr same) is = no_comma_closes ss parted same

    to : (ss : List Spelled) (v : List Fraction) (rest : List Spelled) → AreMorePayoffs v (close_brace ∷ ss) rest
        → T rest → T ss
    to ss [] rest is there = let same : rest ≡ ss = cc in subst T same there
    to ss (f ∷ fs) rest is there = absurd (clash f ss is.0 is.1 is.2 is.3)

payoffs_but : (done : List Fraction) (T : List Spelled → Type 0)
    → AlikeBut kinds.Close (Part (Behind done) T) (PayoffIn done (Part AreMorePayoffs T))
payoffs_but [] T = record {
  to = λ ss fits l. to ss fits l.0 l.1 l.2 l.3;
  back = λ ss l. let later = l.3 in (l.0 ∷ later.0, later.1, (l.1, l.2, later.2), later.3);
}
  where
    to : (ss : List Spelled) → FirstIsOther kinds.Close ss → (v : List Fraction) (rest : List Spelled)
        → ArePayoffs v ss rest → T rest → Part IsFraction (Part AreMorePayoffs T) ss
    to ss fits [] rest is there = absurd (let clash = subst (FirstIsOther kinds.Close) is fits in clash refl)
    to ss fits (f ∷ fs) rest is there = (f, is.0, is.1, (fs, rest, is.2, there))
payoffs_but (d ∷ ds) T = record { to = λ ss fits l. to ss fits l.0 l.1 l.2 l.3; back = back }
  where
    parted_is : (f : Fraction) (ss parted done : List Spelled) → (ss ≡ parted) ⊎ (ss ≡ comma ∷ parted)
        → IsFraction f parted done → Part AreMorePayoffs T done → Parted (Part IsFraction (Part AreMorePayoffs T)) ss
    parted_is f ss parted done (inl same) is there = inl (f, done, subst (λ tokens. IsFraction f tokens done) (sym same) is, there)
    parted_is f ss parted done (inr same) is there = inr (parted, same, (f, done, is, there))

    to : (ss : List Spelled) → FirstIsOther kinds.Close ss → (v : List Fraction) (rest : List Spelled)
        → AreMorePayoffs v ss rest → T rest → Parted (Part IsFraction (Part AreMorePayoffs T)) ss
    to ss fits [] rest is there = absurd (let clash = subst (FirstIsOther kinds.Close) is fits in clash refl)
    to ss fits (f ∷ fs) rest is there = parted_is f ss is.0 is.1 is.2 is.3 (fs, rest, is.4, there)

    back : (ss : List Spelled) → Parted (Part IsFraction (Part AreMorePayoffs T)) ss → Part (Behind (d ∷ ds)) T ss
    back ss (inl l) = let later = l.3 in (l.0 ∷ later.0, later.1, (ss, l.1, inl refl, l.2, later.2), later.3)
    back ss (inr p) = let l = p.2 in let later = l.3 in (l.0 ∷ later.0, later.1, (p.0, l.1, inr p.1, l.2, later.2), later.3)

payoffs_open : (done : List Fraction) (T : List Spelled → Type 0) → Part (Behind done) T [] → ⊥
payoffs_open [] T l = unfinished l.0 l.1 l.2
  where
    unfinished : (v : List Fraction) (rest : List Spelled) → ArePayoffs v [] rest → ⊥
    unfinished [] rest is = cc
    unfinished (f ∷ fs) rest is = let e = is.1.spelling in cc
payoffs_open (d ∷ ds) T l = unfinished l.0 l.1 l.2
  where
    parted : (f : Fraction) (tokens done : List Spelled) → ([] ≡ tokens) ⊎ ([] ≡ comma ∷ tokens)
        → IsFraction f tokens done → ⊥
    parted f tokens done (inl same) is = let e = same ∙ is.spelling in cc
    parted f tokens done (inr same) is = cc

    unfinished : (v : List Fraction) (rest : List Spelled) → AreMorePayoffs v [] rest → ⊥
    unfinished [] rest is = cc
    unfinished (f ∷ fs) rest is = parted f is.0 is.1 is.2 is.3

-- behind a payoff
more_goes : (done : List Fraction) (f : Fraction) (whole : List ℕ) (at : ℕ) (r : Result (List Fraction × ℕ) FileFault)
    → Goes 1 HasWord (Part (Behind (done ++ f ∷ []))) whole at r → Goes 1 HasWord (Part AreMorePayoffs) whole at r
more_goes [] f whole at r go = go
more_goes (d ∷ ds) f whole at r go = go

payoffs_goes : (left : ℕ) (done : List Fraction) (whole : List ℕ) (at : ℕ) → at ≤ length whole
    → length whole ≤ at + left → Goes 1 HasWord (Part (Behind done)) whole at (payoffs_from left done whole at)
unfolding payoffs_from
payoffs_goes zero done whole at within left_is = spent HasWord (Part (Behind done)) whole at within left_is (payoffs_word done) (λ T word. payoffs_open done T)
payoffs_goes (suc left) done whole at within left_is =
    chosen (next_is close_byte whole at) refl (λ payoff inner grown. payoffs_goes left (done ++ payoff.0 ∷ []) whole payoff.1 inner
    (omega (arith, grown, left_is)))
  where
    chosen : (b : Bool) → next_is close_byte whole at ≡ b
        → ((payoff : Fraction × ℕ) → payoff.1 ≤ length whole → at + 1 ≤ payoff.1
        → Goes 1 HasWord (Part (Behind (done ++ payoff.0 ∷ []))) whole payoff.1 (payoffs_from left (done ++ payoff.0 ∷ []) whole payoff.1))
        → Goes 1 HasWord (Part (Behind done)) whole at (cond b (close_at done whole at)
        (payoff_at done whole at >>= λ payoff. payoffs_from left (done ++ payoff.0 ∷ []) whole payoff.1))
    chosen true is again = close_goes done HasWord (Part (Behind done)) whole at within is (λ T word. payoffs_closed done T)
    chosen false is again =
        goes_other 1 kinds.Close (λ clash. cc) HasWord (λ T. PayoffIn done (Part AreMorePayoffs T)) (Part (Behind done)) whole at _
        (λ T word. payoffs_but done T) (not_next kinds.Close (omega arith) whole at is)
        (goes_then 1 HasWord HasWord (PayoffIn done) (Part AreMorePayoffs) whole at (payoff_at done whole at) _ (payoff_goes done whole at within)
        (λ T word. (close_brace ∷ word.0, ([], word.0, refl, word.1)))
        (λ payoff e inner grown. goes_less 1 0 HasWord (Part AreMorePayoffs) whole payoff.1 _ (omega arith)
        (more_goes done payoff.0 whole payoff.1 _ (again payoff inner grown))))

payoff_list_after : (T : List Spelled → Type 0) → NoFirst kinds.Open T
    → Alike (After open_brace (Part IsPayoffList T)) (Part ArePayoffs T)
payoff_list_after T apart = record { to = λ ss l. to ss l.0 l.1 l.2 l.3; back = λ ss l. (Some l.0, l.1, (ss, refl, l.2), l.3) }
  where
    to : (ss : List Spelled) (v : Option (List Fraction)) (rest : List Spelled) → IsPayoffList v (open_brace ∷ ss) rest
        → T rest → Part ArePayoffs T ss
    to ss None rest is there = absurd (apart.apart open_brace ss (subst T (sym is) there) refl)
    to ss (Some fs) rest is there =
        let same : is.0 ≡ ss = let e = is.1 in cc in
        (fs, rest, subst (λ tokens. ArePayoffs fs tokens rest) same is.2, there)

payoff_list_but : (T : List Spelled → Type 0) → AlikeBut kinds.Open (Part IsPayoffList T) T
payoff_list_but T = record { to = λ ss fits l. to ss fits l.0 l.1 l.2 l.3; back = λ ss there. (None, ss, refl, there) }
  where
    to : (ss : List Spelled) → FirstIsOther kinds.Open ss → (v : Option (List Fraction)) (rest : List Spelled)
        → IsPayoffList v ss rest → T rest → T ss
    to ss fits None rest is there = subst T (sym is) there
    to ss fits (Some fs) rest is there = absurd (let clash = subst (FirstIsOther kinds.Open) is.1 fits in clash refl)

-- reading a list of payoffs, or none, goes along its tokens, or is stuck in them
pub payoff_list_goes : (whole : List ℕ) (at : ℕ) → at ≤ length whole
    → Goes 0 (NoFirst kinds.Open) (Part IsPayoffList) whole at (payoffs_at whole at)
unfolding payoffs_at
payoff_list_goes whole at within = chosen (next_is open_byte whole at) refl
  where
    chosen : (b : Bool) → next_is open_byte whole at ≡ b
        → Goes 0 (NoFirst kinds.Open) (Part IsPayoffList) whole at (cond b
        (token_where (is_token kinds.Open whole) whole at >>= λ opening.
        (payoffs_from (length whole) [] whole opening.end >>= λ payoffs. Ok (Some payoffs.0, payoffs.1))) (Ok (None, at)))
    chosen true is =
        goes_less 1 0 (NoFirst kinds.Open) (Part IsPayoffList) whole at _ (omega arith)
        (list_goes (NoFirst kinds.Open) (Part ArePayoffs) (Part IsPayoffList) whole at within is (λ mid. payoffs_from (length whole) [] whole mid)
        (λ payoffs. Some payoffs.0) (λ T f. f.word) payoff_list_after
        (λ mid inner. payoffs_goes (length whole) [] whole mid inner (omega arith)))
    chosen false is = goes_past 0 (NoFirst kinds.Open) (Part IsPayoffList) whole at (None, at) (record {
      within = within;
      grows = omega arith;
      along = λ P walk T f there. walk.other kinds.Open (λ clash. cc) (Part IsPayoffList T) T at (payoff_list_but T)
          (not_next kinds.Open (omega arith) whole at is) there;
    })
