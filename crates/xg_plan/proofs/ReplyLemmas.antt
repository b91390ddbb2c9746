-- Values and choices side by side.
use Rattle.std.proofs.Common.{◌≡◌, ℕ, zero, suc, List, [], ◌∷◌, length, replicate, refl, ap, ◌∙◌, arith, ℤ, pos}
use Rattle.std.proofs.Math.ListN.{set}
use Rattle.def_reply.specs.Reply.{SetReply, choices_of, values_of}
use Rattle.def_plan.specs.Form.{InformationSet, sequence_count}
use Rattle.xg_plan.specs.Reply.{WorkedReply, first_reply, set_replies, worked}

-- the sets' values are those that stand there
pub values-set_replies : (values : List ℤ) (choices : List ℕ) → length choices ≡ length values
    → values_of (set_replies values choices) ≡ values
values-set_replies [] choices same = refl
values-set_replies (v ∷ vs) [] same = absurd (omega arith)
values-set_replies (v ∷ vs) (c ∷ cs) same = ap (λ ws. v ∷ ws) (values-set_replies vs cs (omega arith))

-- and so are their choices
pub choices-set_replies : (values : List ℤ) (choices : List ℕ) → length choices ≡ length values
    → choices_of (set_replies values choices) ≡ choices
choices-set_replies [] [] same = refl
choices-set_replies [] (c ∷ cs) same = absurd (omega arith)
choices-set_replies (v ∷ vs) [] same = absurd (omega arith)
choices-set_replies (v ∷ vs) (c ∷ cs) same = ap (λ ds. c ∷ ds) (choices-set_replies vs cs (omega arith))

-- where there are as many choices as values, there are as many replies
pub length-set_replies : (values : List ℤ) (choices : List ℕ) → length choices ≡ length values
    → length (set_replies values choices) ≡ length values
length-set_replies [] choices same = refl
length-set_replies (v ∷ vs) [] same = absurd (omega arith)
length-set_replies (v ∷ vs) (c ∷ cs) same = ap suc (length-set_replies vs cs (omega arith))

-- a value and a choice that are put at a place are put there side by side
pub set-set_replies : (values : List ℤ) (choices : List ℕ) (k : ℕ) (value : ℤ) (choice : ℕ)
    → length choices ≡ length values
    → set_replies (set values k value) (set choices k choice)
    ≡ set (set_replies values choices) k (record { value = value; choice = choice })
set-set_replies [] [] k value choice same = refl
set-set_replies [] (c ∷ cs) k value choice same = absurd (omega arith)
set-set_replies (v ∷ vs) [] k value choice same = absurd (omega arith)
set-set_replies (v ∷ vs) (c ∷ cs) zero value choice same = refl
set-set_replies (v ∷ vs) (c ∷ cs) (suc k) value choice same = ap (λ rs. record { value = v; choice = c } ∷ rs)
    (set-set_replies vs cs k value choice (omega arith))

-- the same value and choice at each set
pub replicate-set_replies : (n : ℕ) (value : ℤ) (choice : ℕ)
    → set_replies (replicate n value) (replicate n choice) ≡ replicate n (record { value = value; choice = choice })
replicate-set_replies zero value choice = refl
replicate-set_replies (suc n) value choice = ap (λ (rs : List SetReply). record { value = value; choice = choice } ∷ rs) (replicate-set_replies n value choice)

abbrev with : List SetReply → List ℤ → WorkedReply
with sets worths = record { reply = record { total = pos 0; sets = sets }; worths = worths }

-- a new reply's rows are those of the first reply
pub first_is : (sets : List InformationSet) (values : List ℤ) (choices : List ℕ) (worths : List ℤ) (n m : ℕ)
    → values ≡ replicate n (pos 0) → choices ≡ replicate n 1 → worths ≡ replicate m (pos 0)
    → n ≡ length sets → m ≡ sequence_count sets → worked (pos 0) values choices worths ≡ first_reply sets
first_is sets values choices worths n m zeros ones nothing is_n is_m =
    let rows : set_replies values choices ≡ replicate (length sets) (record { value = pos 0; choice = 1 }) =
    ap (λ vs. set_replies vs choices) zeros ∙ ap (set_replies (replicate n (pos 0))) ones ∙ replicate-set_replies n (pos 0) 1
    ∙ ap (λ k. replicate k (record { value = pos 0; choice = 1 })) is_n in
    let room : worths ≡ replicate (sequence_count sets) (pos 0) = nothing ∙ ap (λ k. replicate k (pos 0)) is_m in
    ap (λ rs. with rs worths) rows ∙ ap (with (replicate (length sets) (record { value = pos 0; choice = 1 }))) room
