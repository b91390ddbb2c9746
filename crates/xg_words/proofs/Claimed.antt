-- A worker whose last number is no job's.
use Rattle.std.proofs.Common.{◌≡◌, ◌<◌, ◌≤◌, ℕ, List, [], ◌∷◌, All, length, ℤ, ap, sym, ◌∙◌, subst, arith}
use Rattle.std.proofs.lemmas.List.Elements.{All-nil}
use Rattle.atomic_table.specs.Seated.{TableId}
use Rattle.xg_rowcore.specs.Packets.{Listed}
use Rattle.xg_words.specs.Running.{IsReadyToClaim}
use Rattle.def_words.specs.Amounts.{LastIsComplete}
use Rattle.xg_words.specs.Holdings.{WorkerClaims}

pub claimed_complete : (jobs rows : ℕ) (amount : ℕ → ℕ → ℤ) (worker : WorkerClaims) (n : ℕ) (earlier : List ℕ) → worker.numbers ≡ n ∷ earlier → jobs ≤ n
    → LastIsComplete jobs rows amount worker.reached worker.numbers
claimed_complete jobs rows amount worker n earlier are past m ms is is_job =
    let same : m ≡ n = ap head (sym is ∙ are) in
    absurd (omega (arith, same, past, is_job))
  where
    head : List ℕ → ℕ
    head [] = 0
    head (x ∷ xs) = x

-- a worker that claimed nothing is ready
pub new_is_ready : (table : TableId) (jobs rows : ℕ) (amount : ℕ → ℕ → ℤ) (room : ℕ) (worker : WorkerClaims) (packet : Listed) → worker.table ≡ table
    → worker.numbers ≡ [] → room ≡ packet.room → IsReadyToClaim table jobs rows amount room worker packet
new_is_ready table jobs rows amount room worker packet here none room_is = record {
  here = here;
  below = subst (All (λ n. n < jobs)) (sym none) (All-nil (λ n. n < jobs));
  complete = λ n ns is is_job row above below. let e = ap length (sym none ∙ is) in absurd (omega (arith, e));
  has_room = room_is;
}
