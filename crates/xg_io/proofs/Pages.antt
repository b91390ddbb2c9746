-- The bytes of a page as they are kept and written, and fronts of what was written.
use Rattle.std.proofs.Common.{◌≡◌, ℕ, ◌+◌, ◌-◌, ◌≤◌, List, ◌++◌, length, take, drop, refl, sym, ◌∙◌, ap, append_assoc, arith}
use Rattle.std.specs.Prelude.{◌<◌, Option, Some, None, IsSome, unwrap_or}
use Rattle.std.proofs.lemmas.List.{take-append-drop, drop-take, drop-drop, length-append, length-drop, length-take, drop-append-le}
use Rattle.std.proofs.lemmas.Slice.{take-put_mid}
use Rattle.std.proofs.Math.Seq.{take-append_seam, drop-append_seam, take-length, take-add}
use borrow.Rule.Slice.PartMut.{put_mid}
use Rattle.std.specs.Io.KnownBytes.{append_known}
use Rattle.def_outside.specs.Sinks.{AppendsPrefix}
use Rattle.def_outside.proofs.Fronts.{append_known-nil}
use Rattle.xg_io.proofs.KnownBytesInPieces.{append_known-append}
use Rattle.xg_io.specs.Waiting.{waiting_in, IsGrown}

-- the bytes from one place to another, the other way round
waiting_is : (bytes : List ℕ) (start end : ℕ) → start ≤ end → waiting_in bytes start end ≡ drop start (take end bytes)
waiting_is bytes start end order = sym (drop-take start (end - start) bytes) ∙ ap (λ k. drop start (take k bytes)) (omega arith)

-- what is put behind the end waits last
pub waiting-put : (bytes piece : List ℕ) (start end n : ℕ) → start ≤ end → end ≤ length bytes → length piece ≡ n
    → waiting_in (put_mid end (end + n - end) bytes piece) start (end + n) ≡ waiting_in bytes start end ++ piece
waiting-put bytes piece start end n order within is =
    let long : start ≤ length (take end bytes) = omega (arith, length-take end bytes) in
    waiting_is (put_mid end (end + n - end) bytes piece) start (end + n) (omega arith)
    ∙ ap (drop start) (take-put_mid end (end + n - end) bytes piece (end + n) (omega (arith, is)) within)
    ∙ drop-append-le start (take end bytes) piece long
    ∙ ap (λ (xs : List ℕ). xs ++ piece) (sym (waiting_is bytes start end order))

-- a piece more of the bytes
pub written_more : (first now next : Option (List ℕ)) (bytes : List ℕ) (taken n : ℕ)
    → now ≡ append_known first (take taken bytes)
    → next ≡ append_known now (take n (take (length bytes - taken) (drop taken bytes)))
    → next ≡ append_known first (take (taken + n) bytes)
written_more first now next bytes taken n before after =
    let rest : take (length bytes - taken) (drop taken bytes) ≡ drop taken bytes = ap (λ (k : ℕ). take k (drop taken bytes)) (sym (length-drop taken bytes))
    ∙ take-length (drop taken bytes) in
    after ∙ ap (λ (xs : List ℕ). append_known now (take n xs)) rest
    ∙ ap (λ (known : Option (List ℕ)). append_known known (take n (drop taken bytes))) before
    ∙ append_known-append first (take taken bytes) (take n (drop taken bytes))
    ∙ ap (append_known first) (sym (take-add taken n bytes))

-- what is written and what waits stay together
pub still_waiting : (first now : Option (List ℕ)) (bytes : List ℕ) (start end taken : ℕ) → start + taken ≤ end
    → now ≡ append_known first (take taken (waiting_in bytes start end))
    → append_known now (waiting_in bytes (start + taken) end) ≡ append_known first (waiting_in bytes start end)
still_waiting first now bytes start end taken within is =
    let rest : drop taken (waiting_in bytes start end) ≡ waiting_in bytes (start + taken) end =
    ap (λ (k : ℕ). drop taken (take k (drop start bytes))) (sym (whole within)) ∙ drop-take taken (end - (start + taken)) (drop start bytes)
    ∙ ap (take (end - (start + taken))) (drop-drop taken start bytes) in
    ap (λ (known : Option (List ℕ)). append_known known (waiting_in bytes (start + taken) end)) is
    ∙ append_known-append first (take taken (waiting_in bytes start end)) (waiting_in bytes (start + taken) end)
    ∙ ap (λ (xs : List ℕ). append_known first (take taken (waiting_in bytes start end) ++ xs)) (sym rest)
    ∙ ap (append_known first) (take-append-drop taken (waiting_in bytes start end))
  where
    whole : start + taken ≤ end → taken + (end - (start + taken)) ≡ end - start
    whole within' = omega arith

same_bytes : (xs ys : List ℕ) → ◌≡◌ {A = Option (List ℕ)} (Some xs) (Some ys) → xs ≡ ys
same_bytes xs ys is = ap (λ o. unwrap_or o xs) is

none_told : (sink : Option (List ℕ)) → IsGrown None sink → IsSome sink → ⊥
none_told None grown told = absurd (cc)
none_told (Some xs) grown told = absurd (cc)

-- where the page's sink has what was there before and more, a front of a text in the page is a front of it in the sink
pub front_of_sink : (before sink : Option (List ℕ)) (waiting text : List ℕ) → IsGrown before sink
    → AppendsPrefix before (append_known sink waiting) text → AppendsPrefix before sink text
front_of_sink None sink waiting text grown front =
    record { count = 0; appended = grown; some_left = λ told. absurd (none_told sink grown told) }
front_of_sink (Some bytes) None waiting text grown front = absurd (cc)
front_of_sink (Some bytes) (Some taken) waiting text grown front =
    let more : List ℕ = drop (length bytes) taken in
    let is : taken ≡ bytes ++ more = same_bytes taken (bytes ++ more) grown in
    let all : bytes ++ (more ++ waiting) ≡ bytes ++ take front.count text = sym (append_assoc bytes more waiting) ∙ ap (λ (xs : List ℕ). xs ++ waiting) (sym is)
    ∙ same_bytes (taken ++ waiting) (bytes ++ take front.count text) front.appended in
    let rest : more ++ waiting ≡ take front.count text = sym (drop-append_seam bytes (more ++ waiting)) ∙ ap (drop (length bytes)) all
    ∙ drop-append_seam bytes (take front.count text) in
    let begins : more ++ (waiting ++ drop front.count text) ≡ text = sym (append_assoc more waiting (drop front.count text))
    ∙ ap (λ (xs : List ℕ). xs ++ drop front.count text) rest ∙ take-append-drop front.count text in
    record {
      count = length more;
      appended = grown ∙ ap (λ (xs : List ℕ). Some (bytes ++ xs)) (sym (take-append_seam more (waiting ++ drop front.count text))
          ∙ ap (take (length more)) begins);
      some_left = λ _. omega (arith, front.some_left refl, ap length rest, length-append more waiting, length-take front.count text);
    }

-- where a whole text is in the page and its sink, and some of it still waits, a front of it is in the sink
pub front_before_waiting : (before sink : Option (List ℕ)) (waiting text : List ℕ) → IsGrown before sink
    → 0 < length waiting → append_known sink waiting ≡ append_known before text → AppendsPrefix before sink text
front_before_waiting None sink waiting text grown some whole =
    record { count = 0; appended = grown; some_left = λ told. absurd (none_told sink grown told) }
front_before_waiting (Some bytes) None waiting text grown some whole = absurd (cc)
front_before_waiting (Some bytes) (Some taken) waiting text grown some whole =
    let more : List ℕ = drop (length bytes) taken in
    let is : taken ≡ bytes ++ more = same_bytes taken (bytes ++ more) grown in
    let all : bytes ++ (more ++ waiting) ≡ bytes ++ text = sym (append_assoc bytes more waiting) ∙ ap (λ (xs : List ℕ). xs ++ waiting) (sym is)
    ∙ same_bytes (taken ++ waiting) (bytes ++ text) whole in
    let rest : more ++ waiting ≡ text = sym (drop-append_seam bytes (more ++ waiting)) ∙ ap (drop (length bytes)) all ∙ drop-append_seam bytes text in
    record {
      count = length more;
      appended = grown ∙ ap (λ (xs : List ℕ). Some (bytes ++ xs)) (sym (take-append_seam more waiting) ∙ ap (take (length more)) rest);
      some_left = λ _. omega (arith, some, ap length rest, length-append more waiting);
    }

-- what waits from one place to another is as long as they are apart
pub waiting_length : (bytes : List ℕ) (start end : ℕ) → end ≤ length bytes → length (waiting_in bytes start end) ≡ end - start
waiting_length bytes start end within = omega (arith, length-take (end - start) (drop start bytes), length-drop start bytes)

-- a page that nothing waits in shows what its sink has
pub nothing_waits : (known before : Option (List ℕ)) (bytes : List ℕ) (start end : ℕ) → known ≡ before → start ≡ end
    → append_known known (waiting_in bytes start end) ≡ before
nothing_waits known before bytes start end is same =
    let none : end - start ≡ 0 = omega (arith, same) in
    ap (λ (k : ℕ). append_known known (take k (drop start bytes))) none ∙ append_known-nil known ∙ is
