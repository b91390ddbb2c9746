-- Reading lists item by item.
use Rattle.std.proofs.Common.{◌≡◌, ℕ, zero, suc, ◌+◌, ◌-◌, ◌<◌, true, false, List, [], ◌∷◌, ◌++◌, Result, Ok, Err, refl, sym, ◌∙◌, ap, arith}
use Rattle.def_fraction.specs.Fraction.{Fraction}
use Rattle.def_file.specs.declared.EntryKind.{EntryKind}
use Rattle.def_file.specs.declared.FileFault.{FileFault}
use Rattle.def_file.specs.declared.FileFault.TheVariants.{UnexpectedEnd}
use Rattle.def_file.specs.Content.{Action}
use Rattle.def_file.specs.Reading.{◌>>=◌, next_is, close_byte, close_at, action_at, actions_from, payoff_at, payoffs_from}

-- the closing brace comes
pub actions_closed : (kind : EntryKind) (left : ℕ) (done : List Action) (whole : List ℕ) (at : ℕ) → 0 < left
    → next_is close_byte whole at ≡ true
    → actions_from kind left done whole at ≡ close_at done whole at
unfolding actions_from
actions_closed kind zero done whole at some closes = absurd (omega arith)
actions_closed kind (suc left) done whole at some closes = rw closes refl

-- one more may come
pub actions_more : (kind : EntryKind) (left : ℕ) (done : List Action) (whole : List ℕ) (at : ℕ) → 0 < left
    → next_is close_byte whole at ≡ false
    → actions_from kind left done whole at
    ≡ (action_at kind whole at >>= λ action. actions_from kind (left - 1) (done ++ action.0 ∷ []) whole action.1)
unfolding actions_from
actions_more kind zero done whole at some goes = absurd (omega arith)
actions_more kind (suc left) done whole at some goes = let e : suc left - 1 ≡ left = omega arith in rw (e, goes) refl

-- no more may come
pub actions_full : (kind : EntryKind) (left : ℕ) (done : List Action) (whole : List ℕ) (at : ℕ) → left ≡ 0
    → actions_from kind left done whole at ≡ Err UnexpectedEnd
unfolding actions_from
actions_full kind zero done whole at none = refl
actions_full kind (suc left) done whole at none = absurd (omega arith)

-- the same of payoffs
pub payoffs_closed : (left : ℕ) (done : List Fraction) (whole : List ℕ) (at : ℕ) → 0 < left
    → next_is close_byte whole at ≡ true
    → payoffs_from left done whole at ≡ close_at done whole at
unfolding payoffs_from
payoffs_closed zero done whole at some closes = absurd (omega arith)
payoffs_closed (suc left) done whole at some closes = rw closes refl

pub payoffs_more : (left : ℕ) (done : List Fraction) (whole : List ℕ) (at : ℕ) → 0 < left
    → next_is close_byte whole at ≡ false
    → payoffs_from left done whole at
    ≡ (payoff_at done whole at >>= λ payoff. payoffs_from (left - 1) (done ++ payoff.0 ∷ []) whole payoff.1)
unfolding payoffs_from
payoffs_more zero done whole at some goes = absurd (omega arith)
payoffs_more (suc left) done whole at some goes = let e : suc left - 1 ≡ left = omega arith in rw (e, goes) refl

pub payoffs_full : (left : ℕ) (done : List Fraction) (whole : List ℕ) (at : ℕ) → left ≡ 0
    → payoffs_from left done whole at ≡ Err UnexpectedEnd
unfolding payoffs_from
payoffs_full zero done whole at none = refl
payoffs_full (suc left) done whole at none = absurd (omega arith)

-- what is read from here on is what is read behind the next item
pub actions_next : (kind : EntryKind) (left after : ℕ) (done next : List Action) (whole seen : List ℕ) (at end : ℕ)
    (action : Action)
    → seen ≡ whole → left ≡ after + 1
    → next_is close_byte seen at ≡ false → action_at kind seen at ≡ Ok (action, end) → next ≡ done ++ action ∷ []
    → actions_from kind left done whole at ≡ actions_from kind after next whole end
actions_next kind left after done next whole seen at end action same e goes read put =
    let some : 0 < left = omega arith in
    let one : left - 1 ≡ after = omega arith in
    actions_more kind left done whole at some (ap (λ (w : List ℕ). next_is close_byte w at) (sym same) ∙ goes)
    ∙ ap (λ (r : Result (Action × ℕ) FileFault). r >>= λ item. actions_from kind (left - 1) (done ++ item.0 ∷ []) whole item.1)
    (ap (λ (w : List ℕ). action_at kind w at) (sym same) ∙ read)
    ∙ ap (λ (n : ℕ). actions_from kind n (done ++ action ∷ []) whole end) one
    ∙ ap (λ (items : List Action). actions_from kind after items whole end) (sym put)

-- payoffs that are read from here on are those behind the next one, which is kept
pub payoffs_next : (left after : ℕ) (done next : List Fraction) (whole seen : List ℕ) (at end : ℕ) (payoff : Fraction)
    → seen ≡ whole → left ≡ after + 1
    → next_is close_byte seen at ≡ false → payoff_at done seen at ≡ Ok (payoff, end) → next ≡ done ++ payoff ∷ []
    → payoffs_from left done whole at ≡ payoffs_from after next whole end
payoffs_next left after done next whole seen at end payoff same e goes read put =
    let some : 0 < left = omega arith in
    let one : left - 1 ≡ after = omega arith in
    payoffs_more left done whole at some (ap (λ (w : List ℕ). next_is close_byte w at) (sym same) ∙ goes)
    ∙ ap (λ (r : Result (Fraction × ℕ) FileFault). r >>= λ item. payoffs_from (left - 1) (done ++ item.0 ∷ []) whole item.1)
    (ap (λ (w : List ℕ). payoff_at done w at) (sym same) ∙ read)
    ∙ ap (λ (n : ℕ). payoffs_from n (done ++ payoff ∷ []) whole end) one
    ∙ ap (λ (items : List Fraction). payoffs_from after items whole end) (sym put)
