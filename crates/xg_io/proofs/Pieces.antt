-- Texts that are written in pieces.
use Rattle.std.proofs.Common.{◌≡◌, ℕ, ◌+◌, min, List, ◌++◌, length, take, Option, Result, Ok, Err, sym, ap, ◌∙◌, subst, append_assoc, arith}
use Rattle.std.specs.Io.KnownBytes.{append_known}
use Rattle.std.proofs.Math.Seq.{take-append-add}
use Rattle.std.proofs.lemmas.List.{length-append, take-append-le, take_min}
use Rattle.def_outside.specs.Sinks.{AppendsPrefix, Writes}
use Rattle.xg_io.proofs.KnownBytesInPieces.{append_known-append, Progress}

-- a front of the first piece is a front of the whole
pub prefix_first : (before now : Option (List ℕ)) (xs ys : List ℕ)
    → AppendsPrefix before now xs → AppendsPrefix before now (xs ++ ys)
prefix_first before now xs ys p =
    let few = min p.count (length xs) in
    let short : take few (xs ++ ys) ≡ take p.count xs =
    take-append-le few xs ys (omega arith) ∙ take_min p.count xs in
    record {
      count = few;
      appended = p.appended ∙ ap (append_known before) (sym short);
      some_left = λ told. omega (arith, p.some_left told, length-append xs ys);
    }

-- the first piece, and a front of the rest
pub prefix_then : (before middle now : Option (List ℕ)) (xs ys : List ℕ)
    → middle ≡ append_known before xs → AppendsPrefix middle now ys → AppendsPrefix before now (xs ++ ys)
prefix_then before middle now xs ys e p = record {
  count = length xs + p.count;
  appended = p.appended ∙ ap (λ (known : Option (List ℕ)). append_known known (take p.count ys)) e
      ∙ append_known-append before xs (take p.count ys) ∙ ap (append_known before) (sym (take-append-add xs ys p.count));
  some_left = λ told. omega (arith, p.some_left told, length-append xs ys);
}

whole_then : (before middle now : Option (List ℕ)) (xs ys : List ℕ)
    → middle ≡ append_known before xs → now ≡ append_known middle ys → now ≡ append_known before (xs ++ ys)
whole_then before middle now xs ys e f =
    f ∙ ap (λ (known : Option (List ℕ)). append_known known ys) e ∙ append_known-append before xs ys

-- the first piece, and then the rest, written or not
pub then_rest : {T E : Type 0} (before middle now : Option (List ℕ)) (xs ys : List ℕ) (r : Result T E)
    → middle ≡ append_known before xs → Writes middle now ys r → Writes before now (xs ++ ys) r
then_rest before middle now xs ys (Ok x) e w = whole_then before middle now xs ys e w
then_rest before middle now xs ys (Err x) e w = prefix_then before middle now xs ys e w

-- a piece more is written
pub goes_on : (before middle now : Option (List ℕ)) (all left piece rest : List ℕ)
    → Progress before middle all left → left ≡ piece ++ rest → now ≡ append_known middle piece
    → Progress before now all rest
goes_on before middle now all left piece rest p e w = record {
  front = p.front ++ piece;
  split = p.split ∙ ap (λ (ys : List ℕ). p.front ++ ys) e ∙ sym (append_assoc p.front piece rest);
  appended = whole_then before middle now p.front piece p.appended w;
}

-- a piece failed
pub fails : (before middle now : Option (List ℕ)) (all left piece rest : List ℕ)
    → Progress before middle all left → left ≡ piece ++ rest → AppendsPrefix middle now piece
    → AppendsPrefix before now all
fails before middle now all left piece rest p e w =
    subst (AppendsPrefix before now) (sym (p.split ∙ ap (λ (ys : List ℕ). p.front ++ ys) e))
    (prefix_then before middle now p.front (piece ++ rest) p.appended (prefix_first middle now piece rest w))

-- the last piece, written or not
pub finishes : {T E : Type 0} (before middle now : Option (List ℕ)) (all left : List ℕ) (r : Result T E)
    → Progress before middle all left → Writes middle now left r → Writes before now all r
finishes before middle now all left r p w =
    subst (λ (t : List ℕ). Writes before now t r) (sym p.split) (then_rest before middle now p.front left r p.appended w)
