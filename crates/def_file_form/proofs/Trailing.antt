-- What stands behind the last entry of the tree.
use Rattle.std.proofs.Common.{◌≡◌, ℕ, ◌+◌, ◌-◌, ◌<◌, ◌≤◌, true, false, List, length, take, drop, get_or, Result, Ok, Err, sym, refl, ap, ◌∙◌, subst, arith}
use Rattle.std.proofs.Common.{⊎_elim, length-drop}
use Rattle.std.specs.Prelude.{slice_index}
use Rattle.std.specs.List.{AllPass, slice_range}
use Rattle.std.proofs.lemmas.Bool.{cases_lt}
use Rattle.std.proofs.lemmas.List.{get_or-take, get_or-drop, length-take-le}
use Rattle.std.proofs.lemmas.List.Elements.{All-get_or}
use Rattle.def_file_tokens.specs.declared.Token.TheVariants as kinds
use Rattle.def_file_tokens.specs.Bytes.{is_space}
use Rattle.def_file_tokens.specs.Spelling.{IsToken, IsFirstByteFrom}
use Rattle.def_file_tokens.proofs.TokenLemmas.{next_from-sound}
use Rattle.def_file.specs.declared.FileFault.{FileFault}
use Rattle.def_file.specs.declared.FileFault.TheVariants.{TrailingText}
use Rattle.def_file.specs.Reading.{bytes_at, nothing_at}
use Rattle.def_file_form.proofs.FileReadingIsExact.{nothing_ok}
use Rattle.def_file_form.proofs.ReportedFaultIsFirst.{nothing_fault}

module _ (whole : List ℕ) (at : ℕ) where
  -- a byte of white space
  space_at : (stop place : ℕ) → AllPass is_space (slice_range whole at stop) → at ≤ place → place < stop
      → stop ≤ length whole → is_space (slice_index whole place) ≡ true
  space_at stop place all from below within =
      let slice = take (stop - at) (drop at whole) in
      let long : length slice ≡ stop - at = length-take-le (stop - at) (drop at whole) (omega (arith, length-drop at whole)) in
      let passes : is_space (get_or slice (place - at) 0) ≡ true = All-get_or (λ b. is_space b ≡ true) slice (place - at) 0 (omega (arith, long, from, below))
      all in
      let back : at + (place - at) ≡ place = omega (arith, from) in
      let same : get_or slice (place - at) 0 ≡ get_or whole place 0 = get_or-take (stop - at) (drop at whole) (place - at) 0 (omega (arith, from, below))
      ∙ get_or-drop at whole (place - at) 0 ∙ ap (λ n. get_or whole n 0) back in
      subst (λ b. is_space b ≡ true) same passes

  not_before : (p q : ℕ) → IsFirstByteFrom whole at p → IsFirstByteFrom whole at q → p < q → ⊥
  not_before p q a b below = let clash : true ≡ false = sym (space_at q p b.space a.from below (omega (arith, b.within))) ∙ a.byte in cc

  first_byte_once : (p q : ℕ) → IsFirstByteFrom whole at p → IsFirstByteFrom whole at q → p ≡ q
  first_byte_once p q a b =
      ⊎_elim (λ below. absurd (not_before p q a b below)) (λ up. ⊎_elim (λ below. absurd (not_before q p b a below)) (λ down. omega (arith, up, down))
      (cases_lt q p)) (cases_lt p q)

  -- the end isn't next before a byte
  not_at_end : at ≤ length whole → (place : ℕ) → IsFirstByteFrom whole at place → (end : ℕ)
      → nothing_at whole at ≡ Ok end → ⊥
  not_at_end within place byte end e =
      let found = nothing_ok whole at end e in
      let l = found.0 in
      let is = next_from-sound whole at within l found.1 in
      let token : IsToken kinds.End (bytes_at whole l) (drop l.end whole) = subst (λ k. IsToken k (bytes_at whole l) (drop l.end whole)) (sym found.2)
      is.token in
      let last : length whole ≤ l.end = omega (arith, length-drop l.end whole, ap length token.1) in
      let long : length (bytes_at whole l) ≡ l.end - l.start = length-take-le (l.end - l.start) (drop l.start whole)
      (omega (arith, length-drop l.start whole, is.order, is.within)) in
      let starts : length whole ≤ l.start = omega (arith, long, last, ap length token.0, is.order) in
      let clash : true ≡ false = sym (space_at l.start place is.space byte.from (omega (arith, starts, byte.within)) (omega (arith, is.order, is.within)))
      ∙ byte.byte in
      cc

  -- where a byte that isn't white space comes first, the end isn't read, but trailing text found at this byte
  pub trailing_decided : at ≤ length whole → (place : ℕ) → IsFirstByteFrom whole at place
      → nothing_at whole at ≡ Err (TrailingText place)
  trailing_decided within place byte = by_reading (nothing_at whole at) refl
    where
      by_reading : (r : Result ℕ FileFault) → nothing_at whole at ≡ r → nothing_at whole at ≡ Err (TrailingText place)
      by_reading (Ok end) e = absurd (not_at_end within place byte end e)
      by_reading (Err fault) e =
          let found = nothing_fault whole at within fault e in
          e ∙ ap Err (found.2 ∙ ap TrailingText (first_byte_once found.0 place found.1 byte))
