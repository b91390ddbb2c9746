-- The byte that is read behind the white space.
use Rattle.std.proofs.Common.{◌≡◌, ℕ, ltb, List, length, get_or, Option, Some, None, sym, ap, ◌∙◌, Bor}
use Rattle.std.specs.Prelude.{is_some, IfSome, slice_get, option_copied}
use Rattle.std.proofs.lemmas.Bool.{ltb-true, ltb-false}
use Rattle.std.proofs.lemmas.Option.{slice_get-get_or, slice_get_past}
use Rattle.def_file_tokens.specs.Tokens.{after_space, byte_from}

got : (bytes : List ℕ) (i : ℕ) (found : Option (Bor ℕ)) → is_some found ≡ ltb i (length bytes)
    → IfSome found (λ x. x.now ≡ get_or bytes i x.now) → option_copied found ≡ slice_get bytes i
got bytes i None some value = sym (slice_get_past bytes i (ltb-false i (length bytes) (sym some)))
got bytes i (Some x) some value = ap Some value ∙ sym (slice_get-get_or bytes i x.now (ltb-true i (length bytes) (sym some)))

-- the byte that is found behind the white space, if any, is the next byte
pub byte_here : (bytes : List ℕ) (at start : ℕ) (found : Option (Bor ℕ)) → start ≡ after_space bytes at
    → is_some found ≡ ltb start (length bytes) → IfSome found (λ x. x.now ≡ get_or bytes start x.now)
    → option_copied found ≡ byte_from bytes at
unfolding byte_from
byte_here bytes at start found is_start some value = got bytes start found some value ∙ ap (slice_get bytes) is_start
