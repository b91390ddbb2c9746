-- What counts as a front of bytes that are written.
use Rattle.std.proofs.Common.{◌≡◌, ℕ, ◌<◌, ◌⊎◌, inl, inr, List, [], ◌++◌, length, take, Option, Some, None, refl, sym, ap, ◌∙◌, arith}
use Rattle.std.specs.Prelude.{IsSome, unwrap_or}
use Rattle.std.proofs.lemmas.List.{append-nil, length-append, length-take}
use Rattle.std.specs.Io.KnownBytes.{append_known}
use Rattle.def_outside.specs.Sinks.{AppendsPrefix}
use Rattle.def_outside.specs.Calls.{Faults, HasFailedOnce, MayHaveFailed, SinkCall, Says, in_whole, cut_off, Wrote, WroteFront, WroteNothing}

same_bytes : (xs ys : List ℕ) → ◌≡◌ {A = Option (List ℕ)} (Some xs) (Some ys) → xs ≡ ys
same_bytes xs ys is = ap (λ o. unwrap_or o xs) is

-- a front of the bytes, of which some are left, isn't all of them
not_all : (before now : Option (List ℕ)) (bytes : List ℕ) → IsSome now → AppendsPrefix before now bytes
    → now ≡ append_known before bytes → ⊥
not_all None now bytes told front whole = absurd (cc)
not_all (Some xs) now bytes told front whole =
    let same : xs ++ take front.count bytes ≡ xs ++ bytes = same_bytes (xs ++ take front.count bytes) (xs ++ bytes) (sym front.appended ∙ whole) in
    absurd (omega (
      arith,
      front.some_left told,
      ap length same,
      length-append xs bytes,
      length-append xs (take front.count bytes),
      length-take front.count bytes,
    ))

pub front_is_not_whole : (sink : SinkCall) (bytes : List ℕ) → IsSome sink.now → WroteFront sink bytes
    → Wrote sink bytes → ⊥
front_is_not_whole sink bytes = not_all sink.before sink.now bytes

-- nothing is appended
pub append_known-nil : (known : Option (List ℕ)) → append_known known [] ≡ known
append_known-nil None = refl
append_known-nil (Some bytes) = ap Some (append-nil bytes)

-- none of the bytes is a front of them
pub nothing_is_front : (sink : SinkCall) (bytes : List ℕ) → 0 < length bytes → WroteNothing sink → WroteFront sink bytes
nothing_is_front sink bytes some nothing =
    record { count = 0; appended = nothing ∙ sym (append_known-nil sink.before); some_left = λ _. some }

-- one fault is one at least
pub once_may : (faults : Faults) → HasFailedOnce faults → MayHaveFailed faults
once_may faults once = (once.0, omega (arith, once.1))

-- what is said of a line, by whether the sink failed
pub said_or_cut : (sink : SinkCall) (line : List ℕ) → Says sink line → Wrote sink line ⊎ WroteFront sink line
said_or_cut sink line (in_whole none wrote) = inl wrote
said_or_cut sink line (cut_off once cut) =
    inr (record { count = cut.count; appended = cut.appended; some_left = λ _. omega (arith, cut.rest, cut.some_left) })

pub said_is_whole : (sink : SinkCall) (line : List ℕ) → Says sink line → (MayHaveFailed sink.faults → ⊥)
    → Wrote sink line
said_is_whole sink line (in_whole none wrote) sound = wrote
said_is_whole sink line (cut_off once cut) sound = absurd (sound (once_may sink.faults once))
