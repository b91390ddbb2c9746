use Rattle.std.proofs.Common.{◌≡◌, ◌+◌, ◌-◌, ◌≤◌, ◌++◌, [], cond, ltb, ℕ, List, min, length, get_or, take, drop, Option, Some, None, sym, ap, ◌∙◌, arith}
use Rattle.std.specs.Option.{option_map}
use Rattle.std.proofs.lemmas.List.{append-nil, length-append}
use Rattle.def_fraction.specs.Digits.{leading_digits, after_digits, number_of}
use Rattle.def_fraction.specs.Reading.{body_of, body_after, decimal_of, power_of}
use Rattle.xg_frac.specs.declared.literal.Quotient.{Quotient}
use Rattle.xg_frac.specs.Scan.{capped, past_all, quotient_of, decimal_quotient}
use Rattle.xg_frac.proofs.ScanLemmas.{quotient_of-decimal_of, capped-append, part-rest, body_after-point, body_after-other, no_first}
use Rattle.xg_frac.proofs.literal.read_body.Goals as goal

-- the decimal with a point, by what the parts of the reading gave
with_point : (bs rest tail : List ℕ) (n m digits places : ℕ) (r : Option Quotient) → rest ≡ after_digits bs
    → 1 ≤ length rest → get_or rest 0 0 ≡ 46 → n ≡ capped 0 (leading_digits bs)
    → m ≡ capped n (leading_digits (take (length rest - 1) (drop 1 rest)))
    → digits ≡ length (leading_digits bs) + places
    → places ≡ length (leading_digits (take (length rest - 1) (drop 1 rest)))
    → tail ≡ after_digits (take (length rest - 1) (drop 1 rest))
    → r ≡ cond (ltb 0 digits) (option_map (decimal_quotient m places) (power_of tail)) None
    → r ≡ option_map quotient_of (body_of bs)
unfolding body_of
with_point bs rest tail n m digits places r e some point en em ed ep et er =
    let before = leading_digits bs in
    let inner = drop 1 rest in
    let ds = leading_digits inner in
    let part = part-rest rest in
    let first : n ≡ min (number_of before) past_all = en ∙ omega arith in
    let number : m ≡ min (number_of (before ++ ds)) past_all = em ∙ ap (λ xs. capped n (leading_digits xs)) part ∙ capped-append before ds n first in
    let count : places ≡ length ds = ep ∙ ap (λ xs. length (leading_digits xs)) part in
    let all : digits ≡ length (before ++ ds) = ed ∙ ap (λ k. length before + k) count ∙ sym (length-append before ds) in
    let body : body_after before (after_digits bs) ≡ decimal_of before (Some ds) (after_digits inner) = ap (body_after before) (sym e)
    ∙ body_after-point before rest some point in
    er ∙ ap (λ k. cond (ltb 0 k) (option_map (decimal_quotient m places) (power_of tail)) None) all
    ∙ ap (λ k. cond (ltb 0 (length (before ++ ds))) (option_map (decimal_quotient m k) (power_of tail)) None) count
    ∙ ap (λ xs. cond (ltb 0 (length (before ++ ds))) (option_map (decimal_quotient m (length ds)) (power_of xs)) None) (et ∙ ap after_digits part)
    ∙ sym (quotient_of-decimal_of before (Some ds) (after_digits inner) m number)
    ∙ ap (option_map quotient_of) (sym body)

without_point : (bs rest : List ℕ) (n digits : ℕ) (r : Option Quotient) → rest ≡ after_digits bs
    → (get_or rest 0 0 ≡ 47 → ⊥) → (get_or rest 0 0 ≡ 46 → ⊥) → n ≡ capped 0 (leading_digits bs)
    → digits ≡ length (leading_digits bs)
    → r ≡ cond (ltb 0 digits) (option_map (decimal_quotient n 0) (power_of rest)) None
    → r ≡ option_map quotient_of (body_of bs)
unfolding body_of
without_point bs rest n digits r e no_slash no_point en ed er =
    let before = leading_digits bs in
    let nil = append-nil before in
    let number : n ≡ min (number_of (before ++ [])) past_all = en ∙ omega arith ∙ ap (λ xs. min (number_of xs) past_all) (sym nil) in
    let body : body_after before (after_digits bs) ≡ decimal_of before None rest = ap (body_after before) (sym e)
    ∙ body_after-other before rest no_slash no_point in
    er ∙ ap (λ k. cond (ltb 0 k) (option_map (decimal_quotient n 0) (power_of rest)) None) (ed ∙ ap length (sym nil))
    ∙ sym (quotient_of-decimal_of before None rest n number)
    ∙ ap (option_map quotient_of) (sym body)

pub returns-in-46 : goal.returns-in-46
returns-in-46 c =
    with_point c.args.bytes.now c.scan_digits-before.result.rest.now c.scan_digits-after.result.rest.now c.scan_digits-before.result.number
    c.scan_digits-after.result.number _ c.scan_digits-after.result.len c.read_power-in-46.result
    c.scan_digits-before.ensures.rest c.in-len1-up.len_at_least c.in-46.is c.scan_digits-before.ensures.number c.scan_digits-after.ensures.number
    (ap (λ k. k + c.scan_digits-after.result.len) c.scan_digits-before.ensures.len) c.scan_digits-after.ensures.len c.scan_digits-after.ensures.rest
    c.read_power-in-46.ensures

pub returns-in_default : goal.returns-in_default
returns-in_default c =
    let rest = c.scan_digits-before.result.rest.now in
    without_point c.args.bytes.now rest c.scan_digits-before.result.number _ c.read_power.result
    c.scan_digits-before.ensures.rest (no_first rest 47 c.in_default.len_below (omega arith)) (no_first rest 46 c.in_default.len_below (omega arith))
    c.scan_digits-before.ensures.number c.scan_digits-before.ensures.len c.read_power.ensures

pub returns-in_default-first : goal.returns-in_default-first
returns-in_default-first c =
    let rest = c.scan_digits-before.result.rest.now in
    without_point c.args.bytes.now rest c.scan_digits-before.result.number _ c.read_power-in_default-first.result
    c.scan_digits-before.ensures.rest (λ e. omega arith) (λ e. omega arith)
    c.scan_digits-before.ensures.number c.scan_digits-before.ensures.len c.read_power-in_default-first.ensures
