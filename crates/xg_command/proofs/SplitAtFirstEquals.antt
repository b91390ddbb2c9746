-- What `split_once` gives is what stands before and behind the first `=`.
use Rattle.std.proofs.Common.{◌≡◌, ◌≢◌, ℕ, suc, ◌<◌, Bool, cond, List, [], ◌∷◌, ◌++◌, length, get_or, Option, Some, None, Bor, refl, ap, ◌∙◌, arith}
use Rattle.std.specs.Option.{option_map}
use Rattle.std.proofs.lemmas.Bool.{ne_eqb}
use Rattle.std.proofs.lemmas.Str.Pattern.{IsSplitOnceResult, split_parts}
use Rattle.def_command.specs.Grammar.{around_equals}

abbrev HasNoEquals : List ℕ → Type 0
HasNoEquals bytes = (i : ℕ) → i < length bytes → get_or bytes i 0 ≢ 61

no_more : (byte : ℕ) (bytes : List ℕ) → HasNoEquals (byte ∷ bytes) → HasNoEquals bytes
no_more byte bytes free i within = free (suc i) (omega arith)

abbrev longer : ℕ → Option (List ℕ × List ℕ) → Option (List ℕ × List ℕ)
longer byte parts = option_map (λ (x : List ℕ × List ℕ). (byte ∷ x.0, x.1)) parts

around_first : (byte : ℕ) (bytes : List ℕ) → byte ≢ 61
    → around_equals (byte ∷ bytes) ≡ longer byte (around_equals bytes)
around_first byte bytes other =
    ap (λ (b : Bool). cond b (Some ([], bytes)) (longer byte (around_equals bytes))) (ne_eqb byte 61 other)

around_found : (front back : List ℕ) → HasNoEquals front → around_equals (front ++ 61 ∷ back) ≡ Some (front, back)
around_found [] back free = refl
around_found (byte ∷ front) back free =
    around_first byte (front ++ 61 ∷ back) (free 0 (omega arith))
    ∙ ap (longer byte) (around_found front back (no_more byte front free))

around_absent : (bytes : List ℕ) → HasNoEquals bytes → around_equals bytes ≡ None
around_absent [] free = refl
around_absent (byte ∷ bytes) free = around_first byte bytes (free 0 (omega arith))
    ∙ ap (longer byte) (around_absent bytes (no_more byte bytes free))

module _ (word : List ℕ) (result : Option (Bor (List ℕ) × Bor (List ℕ))) (split : IsSplitOnceResult 61 word result)
  where
    -- two parts are those around the first `=`
    pub parts_around : (x : Bor (List ℕ) × Bor (List ℕ)) → result ≡ Some x
        → around_equals word ≡ Some (x.0.now, x.1.now)
    parts_around x is =
        let (whole, free) = rw is at (split_parts 61 word result split (omega arith)) in
        ap around_equals whole ∙ around_found x.0.now x.1.now free

    -- where there are none, there is no `=`
    pub none_around : result ≡ None → around_equals word ≡ None
    none_around is = around_absent word (rw is at (split_parts 61 word result split (omega arith)))
