-- The next byte behind white space, if there is one.
use Rattle.std.proofs.Common.{◌≡◌, ℕ, ◌≤◌, List, length, drop, get_or, Some, None, refl, sym, ap, ◌∙◌, subst, arith, ⊎_elim}
use Rattle.std.specs.List.{AllPass, slice_range, slice_get}
use Rattle.std.proofs.lemmas.List.{drop_more, drop_all}
use Rattle.std.proofs.lemmas.Option.{get_or_from_slice_get, slice_get-get_or, slice_get_within, slice_get_past}
use Rattle.std.proofs.lemmas.Slice.{between_to_end}
use Rattle.std.proofs.str.Laws.{order}
use Rattle.def_file_tokens.specs.Bytes.{is_space}
use Rattle.def_file_tokens.specs.Spelling.{FirstFails, IsFirstByteFrom}
use Rattle.def_file_tokens.specs.Tokens.{after_space, byte_from}
use Rattle.def_file_tokens.proofs.TokenLemmas.{first_byte, space_within, space_passes, space_is}

module _ (whole : List ℕ) (at : ℕ) (within : at ≤ length whole) where
  -- a next byte that is found stands at the first place from the offset on that isn't white space
  pub byte_from-first : (b : ℕ) → byte_from whole at ≡ Some b
      → (place : ℕ) × IsFirstByteFrom whole at place × (get_or whole place 0 ≡ b)
  unfolding byte_from
  byte_from-first b is =
      let place = after_space whole at in
      (place, first_byte whole at within place refl (slice_get_within whole place b is), get_or_from_slice_get whole place b 0 is)

  -- the byte at the first place from the offset on that isn't white space is found as the next one
  pub first-byte_from : (b place : ℕ) → IsFirstByteFrom whole at place → get_or whole place 0 ≡ b
      → byte_from whole at ≡ Some b
  unfolding byte_from
  first-byte_from b place first is =
      let start_is = space_is whole at within place first.from (omega (arith, first.within)) first.space
      (subst (FirstFails is_space) (sym (drop_more whole place 0 first.within)) first.byte) in
      ap (slice_get whole) start_is ∙ slice_get-get_or whole place 0 first.within ∙ ap Some is

  -- the bytes up to the end
  to_end : slice_range whole at (length whole) ≡ drop at whole
  to_end = between_to_end whole at (length whole) (omega arith)

  -- where no next byte is found, all bytes from the offset to the end are white space
  pub byte_from-space : byte_from whole at ≡ None → AllPass is_space (drop at whole)
  unfolding byte_from
  byte_from-space is =
      let start = after_space whole at in
      let past : length whole ≤ start = ⊎_elim (λ inner. let clash = sym (slice_get-get_or whole start 0 inner) ∙ is in absurd cc) (λ past. past)
      (order start (length whole)) in
      let start_is : start ≡ length whole = omega (arith, space_within whole at within) in
      subst (AllPass is_space) to_end (subst (λ n. AllPass is_space (slice_range whole at n)) start_is (space_passes whole at within))

  -- where all bytes from the offset to the end are white space, no next byte is found
  pub space-byte_from : AllPass is_space (drop at whole) → byte_from whole at ≡ None
  unfolding byte_from
  space-byte_from space =
      let end = length whole in
      let start_is = space_is whole at within end within (omega arith) (subst (AllPass is_space) (sym to_end) space)
      (subst (FirstFails is_space) (sym (drop_all end whole (omega arith))) tt) in
      ap (slice_get whole) start_is ∙ slice_get_past whole end (omega arith)
