-- New rows have nothing.
use Rattle.std.proofs.Common.{◌≡◌, ℕ, zero, suc, ◌+◌, ◌++◌, length, get_or, replicate, refl, ◌∙◌, pos}
use Rattle.std.proofs.lemmas.List.{length-append, length-replicate}
use Rattle.xg_jobs.specs.Rows.{Amounts, all_rows}

-- where each player has so many zeros, there are as many rows as zeros of both
pub fresh_count : (one two : ℕ) (rows : Amounts) → rows.one ≡ replicate one (pos 0) → rows.two ≡ replicate two (pos 0)
    → length (all_rows rows) ≡ one + two
fresh_count one two rows a b =
    length-append rows.one rows.two ∙ (λ i. length (a i) + length (b i)) ∙ (λ i. length-replicate one (pos 0) i + length-replicate two (pos 0) i)

zeros : (k row : ℕ) → get_or (replicate k (pos 0)) row (pos 0) ≡ pos 0
zeros zero row = refl
zeros (suc k) zero = refl
zeros (suc k) (suc row) = zeros k row

both : (one two row : ℕ) → get_or (replicate one (pos 0) ++ replicate two (pos 0)) row (pos 0) ≡ pos 0
both zero two row = zeros two row
both (suc k) two zero = refl
both (suc k) two (suc row) = both k two row

-- where each player has zeros alone, the amount at any row is zero
pub fresh_zeros : (one two : ℕ) (rows : Amounts) → rows.one ≡ replicate one (pos 0) → rows.two ≡ replicate two (pos 0)
    → (row : ℕ) → get_or (all_rows rows) row (pos 0) ≡ pos 0
fresh_zeros one two rows a b row = (λ i. get_or (a i ++ b i) row (pos 0)) ∙ both one two row
