-- Whether an inside stands for some bytes, one byte after another.
use Rattle.std.proofs.Common.{◌≡◌, ℕ, zero, suc, ◌+◌, ◌≤◌, ◌<◌, Bool, true, false, nat_eq, ◌==◌, ◌&&◌, List, [], ◌∷◌, length, drop, get_or, sym, refl, ap, ◌∙◌}
use Rattle.std.proofs.Common.{arith}
use Rattle.std.specs.Cmp.Lexicographic.{pointwise}
use Rattle.std.proofs.lemmas.List.{drop_all, drop_more}
use Rattle.std.proofs.Math.Dec.{eqb-suc-suc, eqb-zero-suc}
use Rattle.def_file_tokens.specs.Texts.{begins_with_mark, unescaped}

-- a backslash right before a quotation mark stands at this place
abbrev pub escape_at : List ℕ → ℕ → Bool
escape_at raw i = (get_or raw i 0 == 92) && begins_with_mark (drop (i + 1) raw)

-- a backslash right before a quotation mark goes
pub unescaped-escape : (b : ℕ) (bs : List ℕ) → ((b == 92) && begins_with_mark bs) ≡ true
    → unescaped (b ∷ bs) ≡ unescaped bs
unfolding unescaped
unescaped-escape b bs escape = rw escape refl

-- and each other byte stays
pub unescaped-other : (b : ℕ) (bs : List ℕ) → ((b == 92) && begins_with_mark bs) ≡ false
    → unescaped (b ∷ bs) ≡ b ∷ unescaped bs
unfolding unescaped
unescaped-other b bs other = rw other refl

-- what is left to compare gives what all bytes give
pub record ComparesOn (raw bytes : List ℕ) (i at : ℕ) : Type 0 where
  pub within : at ≤ length bytes
  pub same : pointwise nat_eq (drop at bytes) (unescaped (drop i raw)) ≡ pointwise nat_eq bytes (unescaped raw)

pub ComparesOn-start : (raw bytes : List ℕ) → ComparesOn raw bytes 0 0
ComparesOn-start raw bytes = record { within = omega arith; same = refl }

module _ (raw bytes : List ℕ) (i at : ℕ) (here : i < length raw) (on : ComparesOn raw bytes i at) where
  -- behind a backslash right before a quotation mark the comparison goes on with the same byte of the bytes
  pub ComparesOn-escape : escape_at raw i ≡ true → ComparesOn raw bytes (i + 1) at
  ComparesOn-escape escape = record {
    within = on.within;
    same =
        ap (pointwise nat_eq (drop at bytes)) (sym (ap unescaped (drop_more raw i 0 here) ∙ unescaped-escape (get_or raw i 0) (drop (i + 1) raw) escape))
        ∙ on.same;
  }

  -- the next byte is one that the inside stands for
  next_is : escape_at raw i ≡ false
      → pointwise nat_eq (drop at bytes) (get_or raw i 0 ∷ unescaped (drop (i + 1) raw))
      ≡ pointwise nat_eq bytes (unescaped raw)
  next_is other =
      ap (pointwise nat_eq (drop at bytes)) (sym (ap unescaped (drop_more raw i 0 here) ∙ unescaped-other (get_or raw i 0) (drop (i + 1) raw) other))
      ∙ on.same

  -- where the bytes are at their end and the inside goes on with a byte that stays, it doesn't stand for them
  pub ComparesOn-short : escape_at raw i ≡ false → at ≡ length bytes → false ≡ pointwise nat_eq bytes (unescaped raw)
  ComparesOn-short other end =
      ap (λ l. pointwise nat_eq l (get_or raw i 0 ∷ unescaped (drop (i + 1) raw))) (sym (drop_all at bytes (omega arith))) ∙ next_is other

  module _ (other : escape_at raw i ≡ false) (there : at < length bytes) where
    compared : (nat_eq (get_or bytes at 0) (get_or raw i 0) && pointwise nat_eq (drop (at + 1) bytes) (unescaped (drop (i + 1) raw)))
        ≡ pointwise nat_eq bytes (unescaped raw)
    compared =
        ap (λ l. pointwise nat_eq l (get_or raw i 0 ∷ unescaped (drop (i + 1) raw))) (sym (drop_more bytes at 0 there)) ∙ next_is other

    -- where the next bytes of both differ, the inside doesn't stand for the bytes
    pub ComparesOn-differs : nat_eq (get_or bytes at 0) (get_or raw i 0) ≡ false
        → false ≡ pointwise nat_eq bytes (unescaped raw)
    ComparesOn-differs differs = ap (λ b. b && pointwise nat_eq (drop (at + 1) bytes) (unescaped (drop (i + 1) raw))) (sym differs) ∙ compared

    -- where the next bytes of both are the same, the comparison goes on behind them
    pub ComparesOn-next : nat_eq (get_or bytes at 0) (get_or raw i 0) ≡ true → ComparesOn raw bytes (i + 1) (at + 1)
    ComparesOn-next equal = record {
      within = omega arith;
      same = ap (λ b. b && pointwise nat_eq (drop (at + 1) bytes) (unescaped (drop (i + 1) raw)))
          (sym equal) ∙ compared;
    }

at_end : (at : ℕ) (bs : List ℕ) → at ≤ length bs → nat_eq at (length bs) ≡ pointwise nat_eq (drop at bs) []
at_end zero [] within = refl
at_end zero (b ∷ bs) within = eqb-zero-suc (length bs)
at_end (suc at) [] within = absurd (omega arith)
at_end (suc at) (b ∷ bs) within = eqb-suc-suc at (length bs) ∙ at_end at bs (omega arith)

unescaped-nothing : unescaped [] ≡ []
unfolding unescaped
unescaped-nothing = refl

-- behind the inside's last byte, as many bytes as it stands for have been compared
pub ComparesOn-end : (raw bytes : List ℕ) (i at : ℕ) → length raw ≤ i → ComparesOn raw bytes i at
    → nat_eq at (length bytes) ≡ pointwise nat_eq bytes (unescaped raw)
ComparesOn-end raw bytes i at end on =
    at_end at bytes on.within
    ∙ ap (pointwise nat_eq (drop at bytes)) (sym (ap unescaped (drop_all i raw end) ∙ unescaped-nothing))
    ∙ on.same
