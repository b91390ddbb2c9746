-- A field that is written at once with its separator.
use Rattle.std.proofs.Common.{◌≡◌, ℕ, ◌+◌, ◌-◌, ◌<◌, List, ◌++◌, length, take, drop, replicate, subst, ap, ◌∙◌, arith}
use Rattle.std.specs.Prelude.{Option, Result, Ok, Err, OnOk, OnErr}
use Rattle.std.specs.Io.KnownBytes.{append_known}
use Rattle.std.proofs.lemmas.List.{drop-replicate, take-replicate}
use Rattle.std.proofs.Math.Seq.{take-append-add}
use Rattle.def_outside.specs.Sinks.{AppendsPrefix, Writes}
use Rattle.xg_cert.specs.Writes.{field_text}
use borrow.Rule.Slice.PartMut.{put_mid}

-- the field in front of bytes that are all its separator
pub in_front : (field : List ℕ) (separator size : ℕ) → length field < size
    → take (length field + 1) (put_mid 0 (length field) (replicate size separator) field) ≡ field_text field separator
unfolding field_text
in_front field separator size short =
    take-append-add field (drop (length field) (replicate size separator)) 1
    ∙ ap (λ (xs : List ℕ). field ++ take 1 xs) (drop-replicate (length field) size separator)
    ∙ ap (λ (xs : List ℕ). field ++ xs) (take-replicate 1 (size - length field) separator (omega arith))

-- a text that is written is written under another name
pub same_text : {T E : Type 0} (before now : Option (List ℕ)) (text written : List ℕ) (r : Result T E) → written ≡ text
    → OnOk r (now ≡ append_known before written) → OnErr r (AppendsPrefix before now written) → Writes before now text r
same_text before now text written (Ok x) same all front = all ∙ ap (append_known before) same
same_text before now text written (Err x) same all front = subst (AppendsPrefix before now) same front
