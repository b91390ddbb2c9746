-- The parts of a certificate that was read.
use Rattle.std.specs.Prelude.{◌≡◌, ℕ, ◌-◌, ◌≤◌, List, [], ◌∷◌, length, take, drop, pos, slice_index_or, unwrap_or}
use Rattle.def_tree.specs.declared.Player.{Player}
use Rattle.def_tree.specs.declared.Player.TheVariants.{One, Two}
use Rattle.def_reply.specs.Reply.{Reply}
use Rattle.def_reply.specs.Outcome as kept
use Rattle.def_cert_verdict.specs.Certificate.{PrintedPlan, PrintedBounds, Certificate}

-- numbers in groups, one after another: each begins at its start and ends before the next one
abbrev pub cut_at : List ℕ → List ℕ → List (List ℕ)
cut_at [] numbers = []
cut_at (start ∷ []) numbers = []
cut_at (start ∷ next ∷ starts) numbers = take (next - start) (drop start numbers) ∷ cut_at (next ∷ starts) numbers

-- the starts rise, and the last one is where the numbers end
abbrev pub AreStartsUpTo : List ℕ → ℕ → Type 0
AreStartsUpTo [] size = ⊥
AreStartsUpTo (start ∷ []) size = start ≡ size
AreStartsUpTo (start ∷ next ∷ starts) size = (start ≤ next) × AreStartsUpTo (next ∷ starts) size

-- the root stands before the first set's numbers
pub record IsPlanOf (numbers starts : List ℕ) : Type 0 where
  pub first : slice_index_or starts 0 0 ≡ 1
  pub rise : AreStartsUpTo starts (length numbers)
  pub root : 1 ≤ length numbers

abbrev pub plan_of : List ℕ → List ℕ → PrintedPlan
plan_of numbers starts = record { root = slice_index_or numbers 0 0; weights = cut_at starts numbers }

-- ---- the parts by their player
abbrev pub plan_in : Player → PrintedBounds → PrintedPlan
plan_in One b = b.plan_one
plan_in Two b = b.plan_two

abbrev pub reply_in : Player → PrintedBounds → Reply
reply_in One b = b.reply_one
reply_in Two b = b.reply_two

abbrev pub set_count_in : Player → kept.Head → ℕ
set_count_in One head = head.sets_one
set_count_in Two head = head.sets_two

-- the bounds of a certificate, which has some where a round was asked
abbrev pub no_bounds : PrintedBounds
no_bounds = record {
  trace = [];
  plan_one = record { root = 0; weights = [] };
  reply_two = record { total = pos 0; sets = [] };
  plan_two = record { root = 0; weights = [] };
  reply_one = record { total = pos 0; sets = [] };
  low = record { num = pos 0; den = 1 };
  high = record { num = pos 0; den = 1 };
}

abbrev pub bounds_in : Certificate → PrintedBounds
bounds_in c = unwrap_or c.bounds no_bounds
