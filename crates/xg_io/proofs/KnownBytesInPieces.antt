-- Known bytes, as they are written and read piece by piece.
use Rattle.std.proofs.Common.{◌≡◌, ℕ, ◌-◌, ◌<◌, List, [], ◌++◌, length, take, drop, Option, Some, None, IfSome, refl, sym, ◌∙◌, ap, append_assoc, arith}
use Rattle.std.proofs.lemmas.List.{append-nil, take-append-drop, length-append, length-drop}
use Rattle.std.proofs.Math.Seq.{take-append_seam, take-length}
use Rattle.std.specs.Io.KnownBytes.{append_known, Consumes}
use Rattle.def_outside.specs.Sinks.{AppendsPrefix, IsCutOff}
use Rattle.def_outside.proofs.Fronts.{append_known-nil}

-- one piece and then another
pub append_known-append : (known : Option (List ℕ)) (a b : List ℕ)
    → append_known (append_known known a) b ≡ append_known known (a ++ b)
append_known-append None a b = refl
append_known-append (Some xs) a b = ap Some (append_assoc xs a b)

-- The pieces so far are a front of the bytes, and they were appended.
pub record Progress (before now : Option (List ℕ)) (bytes rest : List ℕ) : Type 0 where
  pub front : List ℕ
  pub split : bytes ≡ front ++ rest
  pub appended : now ≡ append_known before front

pub begin : (known : Option (List ℕ)) (bytes : List ℕ) → Progress known known bytes bytes
begin known bytes = record { front = []; split = refl; appended = sym (append_known-nil known) }

-- the rest from n on, as a slice of it has it
take-rest : (rest : List ℕ) (n : ℕ) → take (length rest - n) (drop n rest) ≡ drop n rest
take-rest rest n = ap (λ (k : ℕ). take k (drop n rest)) (sym (length-drop n rest)) ∙ take-length (drop n rest)

-- one more piece
pub go_on : (before now next : Option (List ℕ)) (bytes rest : List ℕ) (n : ℕ) → Progress before now bytes rest
    → next ≡ append_known now (take n rest) → Progress before next bytes (take (length rest - n) (drop n rest))
go_on before now next bytes rest n p e = rw (take-rest rest n) (record {
  front = p.front ++ take n rest;
  split = p.split ∙ ap (λ (xs : List ℕ). p.front ++ xs) (sym (take-append-drop n rest)) ∙ sym (append_assoc p.front (take n rest) (drop n rest));
  appended = e ∙ ap (λ (known : Option (List ℕ)). append_known known (take n rest)) p.appended ∙ append_known-append before p.front (take n rest);
})

-- all was appended
pub whole : (before now : Option (List ℕ)) (bytes rest : List ℕ) → Progress before now bytes rest → rest ≡ []
    → now ≡ append_known before bytes
whole before now bytes rest p e = p.appended ∙ ap (append_known before) (sym (p.split ∙ ap (λ (xs : List ℕ). p.front ++ xs) e ∙ append-nil p.front))

-- a front was appended, and some of the bytes are left
pub a_front : (before now next : Option (List ℕ)) (bytes rest : List ℕ) → Progress before now bytes rest → next ≡ now
    → 0 < length rest → AppendsPrefix before next bytes
a_front before now next bytes rest p e some = record {
  count = length p.front;
  appended = e ∙ p.appended ∙ ap (append_known before) (sym (ap (take (length p.front)) p.split ∙ take-append_seam p.front rest));
  some_left = λ _. omega (arith, some, ap length p.split, length-append p.front rest);
}

-- a front was appended, and the rest of the bytes is the piece of the write that failed
pub cut_off : (before now next : Option (List ℕ)) (failed_length : ℕ) (bytes rest : List ℕ) → Progress before now bytes rest
    → next ≡ now → failed_length ≡ length rest → 0 < length rest → IsCutOff before next failed_length bytes
unfolding a_front
cut_off before now next failed_length bytes rest p e same some = record {
  count = length p.front;
  appended = (a_front before now next bytes rest p e some).appended;
  rest = omega (arith, same, ap length p.split, length-append p.front rest);
  some_left = omega (arith, same, some);
}

-- nothing is read
pub Consumes-nil : (known : Option (List ℕ)) → Consumes known known []
Consumes-nil None = tt
Consumes-nil (Some xs) = refl

-- one piece and then another
pub Consumes-append : (a b c : Option (List ℕ)) (x y : List ℕ) → Consumes a b x → Consumes b c y → Consumes a c (x ++ y)
Consumes-append None b c x y p q = tt
Consumes-append (Some xs) None c x y p q = absurd p
Consumes-append (Some xs) (Some ys) None x y p q = absurd q
Consumes-append (Some xs) (Some ys) (Some zs) x y p q = p ∙ ap (λ (w : List ℕ). x ++ w) q ∙ sym (append_assoc x y zs)

-- with nothing left, what was read is all
pub Consumes-whole : (a b : Option (List ℕ)) (x : List ℕ) → Consumes a b x → IfSome b (λ rest. rest ≡ [])
    → IfSome a (λ all. x ≡ all)
Consumes-whole None b x p q = tt
Consumes-whole (Some xs) None x p q = absurd p
Consumes-whole (Some xs) (Some ys) x p q = sym (p ∙ ap (λ (w : List ℕ). x ++ w) q ∙ append-nil x)

-- all has at least as many bytes as were read
pub Consumes-longer : (limit : ℕ) (a b : Option (List ℕ)) (x : List ℕ) → Consumes a b x → limit < length x
    → IfSome a (λ all. limit < length all)
Consumes-longer limit None b x p h = tt
Consumes-longer limit (Some xs) None x p h = absurd p
Consumes-longer limit (Some xs) (Some ys) x p h = omega (arith, ap length p, length-append x ys)
