-- Texts one after another.
use Rattle.std.proofs.Common.{◌≡◌, ℕ, zero, suc, ◌+◌, ◌-◌, ◌≤◌, ◌<◌, List, [], ◌∷◌, ◌++◌, length, take, drop, get_or, slice_get, Some, refl, sym, ap, ◌∙◌}
use Rattle.std.proofs.Common.{arith}
use Rattle.std.proofs.Math.Seq.{drop-append_seam, take-length}
use Rattle.std.proofs.lemmas.List.{drop-append-le, take-append-le, length-drop, length-append}
use Rattle.xg_game.specs.Texts.{AreEnds, cut_from}

-- there is a text for each end
pub length-cut_from : (start : ℕ) (ends bytes : List ℕ) → length (cut_from start ends bytes) ≡ length ends
length-cut_from start [] bytes = refl
length-cut_from start (stop ∷ stops) bytes = omega (arith, length-cut_from stop stops bytes)

first_at_most : (start : ℕ) (ends : List ℕ) (size : ℕ) → AreEnds start ends size → start ≤ size
first_at_most start [] size rise = omega (arith, rise)
first_at_most start (stop ∷ stops) size rise = omega (arith, rise.0, first_at_most stop stops size rise.1)

-- the text at a place, between its start and its end
pub record IsTextAt (start : ℕ) (ends bytes : List ℕ) (i from to : ℕ) : Type 0 where
  pub rise : from ≤ to
  pub within : to ≤ length bytes
  pub text : slice_get (cut_from start ends bytes) i ≡ Some (take (to - from) (drop from bytes))

-- where the ends rise, the text at a place is the bytes between the end before it, or the start of all, and its own end
pub text_at : (start : ℕ) (ends bytes : List ℕ) (i from to : ℕ) → AreEnds start ends (length bytes) → i < length ends
    → from ≡ get_or (start ∷ ends) i 0 → to ≡ get_or ends i to → IsTextAt start ends bytes i from to
text_at start [] bytes i from to rise there a b = absurd (omega (arith, there))
text_at start (stop ∷ stops) bytes zero from to rise there a b =
    let most = first_at_most stop stops (length bytes) rise.1 in
    record {
      rise = rw (a, b) rise.0;
      within = rw b most;
      text = ap Some (sym (ap (λ (n : ℕ). take (n - from) (drop from bytes)) b ∙ ap (λ (n : ℕ). take (stop - n) (drop n bytes)) a));
    }
text_at start (stop ∷ stops) bytes (suc i) from to rise there a b =
    let g = text_at stop stops bytes i from to rise.1 (omega (arith, there)) a b in
    record { rise = g.rise; within = g.within; text = g.text }

-- ---- a text more
ends_grow : (start : ℕ) (ends : List ℕ) (size more : ℕ) → AreEnds start ends size
    → AreEnds start (ends ++ (size + more) ∷ []) (size + more)
ends_grow start [] size more rise = (omega (arith, rise), refl)
ends_grow start (stop ∷ stops) size more rise = (rise.0, ends_grow stop stops size more rise.1)

cut_grows : (start : ℕ) (ends bytes text : List ℕ) → AreEnds start ends (length bytes)
    → cut_from start (ends ++ (length bytes + length text) ∷ []) (bytes ++ text)
    ≡ cut_from start ends bytes ++ text ∷ []
cut_grows start [] bytes text rise =
    let size : length bytes + length text - start ≡ length text = omega (arith, rise) in
    let behind : drop start (bytes ++ text) ≡ text = ap (λ n. drop n (bytes ++ text)) rise ∙ drop-append_seam bytes text in
    ap (λ (ns : List ℕ). ns ∷ []) (ap (λ n. take n (drop start (bytes ++ text))) size ∙ ap (take (length text)) behind ∙ take-length text)
cut_grows start (stop ∷ stops) bytes text rise =
    let most = first_at_most stop stops (length bytes) rise.1 in
    let front : take (stop - start) (drop start (bytes ++ text)) ≡ take (stop - start) (drop start bytes) =
    ap (take (stop - start)) (drop-append-le start bytes text (omega (arith, rise.0, most)))
    ∙ take-append-le (stop - start) (drop start bytes) text (omega (arith, length-drop start bytes, rise.0, most)) in
    ap (λ (ns : List ℕ). ns ∷ cut_from stop (stops ++ (length bytes + length text) ∷ []) (bytes ++ text)) front
    ∙ ap (λ (nss : List (List ℕ)). take (stop - start) (drop start bytes) ∷ nss) (cut_grows stop stops bytes text rise.1)

-- what stands there when a text is put behind the others
pub record IsPut (ends bytes text new now : List ℕ) : Type 0 where
  pub rise : AreEnds 0 new (length now)
  pub texts : cut_from 0 new now ≡ cut_from 0 ends bytes ++ text ∷ []

-- with a text's bytes and its end put behind the others, the ends still rise, and the texts are the others and it
pub put_last : (ends bytes text new now : List ℕ) (last : ℕ) → AreEnds 0 ends (length bytes)
    → last ≡ length bytes + length text → now ≡ bytes ++ text → new ≡ ends ++ last ∷ [] → IsPut ends bytes text new now
put_last ends bytes text new now last rise is grown put =
    let size : length now ≡ length bytes + length text = ap length grown ∙ length-append bytes text in
    let same : new ≡ ends ++ (length bytes + length text) ∷ [] = put ∙ ap (λ (n : ℕ). ends ++ n ∷ []) is in
    record {
      rise = rw (same, size) (ends_grow 0 ends (length bytes) (length text) rise);
      texts = rw (same, grown) (cut_grows 0 ends bytes text rise);
    }
