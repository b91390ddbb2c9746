-- The text of a certificate in version 2, and that of a run of CFR+, is what is written piece by piece.
use Rattle.std.proofs.Common.{◌≡◌, ℕ, ◌+◌, List, [], ◌∷◌, ◌++◌, drop, Option, Some, None, refl, sym, ap, ◌∙◌, append_assoc}
use Rattle.std.specs.Prelude.{codes}
use Rattle.def_reply.specs.Outcome.{Head}
use Rattle.def_cert_verdict.specs.Certificate.{PrintedBounds}
use Rattle.def_cert_text.specs.Fields.{items_text}
use Rattle.def_cert_text.specs.Formats.{Format, text_of, each_items}
use Rattle.def_cert_text.specs.declared.version.TextVersion.TheVariants as versions
use Rattle.def_cert_text.specs.CertText.{line_of_round, round_of_evaluation, trace_lines, bracket_line, bounds_text, versioned_text, head_text_of}
use Rattle.def_cert_text.specs.CertText.{first_text_of, asked_text, second_text, last_text}
use Rattle.def_cert_text.specs.PlusText.{below_first_text, plus_line}
use Rattle.def_cert_text.specs.Versions.{VersionedCertificate}
use Rattle.def_cert_text.proofs.PlusTexts.{first_lines}
use Rattle.def_cert_text.proofs.TextLines.{versioned_lines}
use Rattle.def_cert_versions.specs.Verdict.{in_version_two, second_bracket}
use Rattle.xg_cert.specs.declared.cert_lines.FirstLine.{FirstLine}
use Rattle.xg_cert.specs.declared.cert_lines.FirstLine.TheVariants as openings
use Rattle.xg_cert.specs.Writable.{opening_line, plan_text, reply_text, end_text, ends_text, below_text, above_text, text_under}

each_same : {A : Type 0} (f g : ℕ → Format A) → ((k : ℕ) (x : A) → (f k).items x ≡ (g k).items x)
    → (k : ℕ) (xs : List A)
    → each_items f k xs ≡ each_items g k xs
unfolding each_items
each_same f g same k [] = refl
each_same f g same k (x ∷ xs) = λ i. same k x i ++ each_same f g same (k + 1) xs i

bounds_are : (head : Head) (b : PrintedBounds) → bounds_text head b ≡ ends_text b
bounds_are head b =
    let rows : text_of (trace_lines head) b.trace ≡ items_text (each_items line_of_round 1 b.trace) =
    ap items_text (each_same (λ k. line_of_round (round_of_evaluation head k)) line_of_round (λ k line. refl) 1 b.trace) in
    let plan_one = plan_text (codes "1") b.plan_one in
    let reply_two = reply_text (codes "2") b.reply_two in
    let plan_two = plan_text (codes "2") b.plan_two in
    let reply_one = reply_text (codes "1") b.reply_one in
    let bracket = text_of bracket_line (b.low, b.high) in
    versioned_lines.bounds head b
    ∙ (λ i. rows i ++ (plan_one ++ (reply_two ++ sym (append_assoc plan_two reply_one bracket) i)))
    ∙ ap (λ (bs : List ℕ). items_text (each_items line_of_round 1 b.trace) ++ bs)
    (sym (append_assoc plan_one reply_two (end_text (codes "2") (codes "1") b.plan_two b.reply_one ++ bracket)))

apart : (xs ys zs rest : List ℕ) → xs ++ (ys ++ (zs ++ rest)) ≡ (xs ++ (ys ++ zs)) ++ rest
apart xs ys zs rest = ap (λ (bs : List ℕ). xs ++ bs) (sym (append_assoc ys zs rest)) ∙ sym (append_assoc xs (ys ++ zs) rest)

-- above the bounds, the bounds with the second bracket, and the last line
certificate_pieces : (head : Head) (bounds : Option PrintedBounds)
    → above_text openings.Certificate head ++ (below_text head.sum bounds ++ last_text)
    ≡ versioned_text (in_version_two (record { head = head; bounds = bounds }))
unfolding opening_line
certificate_pieces head None =
    sym (versioned_lines.head_alone versions.Two head ∙ apart (first_text_of versions.Two) (head_text_of versions.Two head) (asked_text head) last_text)
certificate_pieces head (Some b) =
    let first = first_text_of versions.Two in
    let numbers = head_text_of versions.Two head in
    let second = second_text (second_bracket head.sum b) in
    sym (versioned_lines.with_bounds head b (second_bracket head.sum b)
    ∙ ap (λ (bs : List ℕ). first ++ (numbers ++ (asked_text head ++ (bs ++ (second ++ last_text))))) (bounds_are head b)
    ∙ ap (λ (bs : List ℕ). first ++ (numbers ++ (asked_text head ++ bs))) (sym (append_assoc (ends_text b) second last_text))
    ∙ apart first numbers (asked_text head) (below_text head.sum (Some b) ++ last_text))

pub pieces : (first : FirstLine) (head : Head) (bounds : Option PrintedBounds)
    → above_text first head ++ (below_text head.sum bounds ++ last_text)
    ≡ text_under first (in_version_two (record { head = head; bounds = bounds }))
unfolding opening_line
pieces openings.Certificate head bounds = certificate_pieces head bounds
pieces openings.Plus head bounds =
    let c : VersionedCertificate = in_version_two (record { head = head; bounds = bounds }) in
    let below : (head_text_of versions.Two head ++ asked_text head) ++ (below_text head.sum bounds ++ last_text) ≡ below_first_text c =
    ap (λ (text : List ℕ). drop 9 text) (certificate_pieces head bounds ∙ first_lines c) in
    ap (λ (text : List ℕ). plus_line ++ text) below
