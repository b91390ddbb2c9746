use Rattle.std.proofs.Common.{◌≡◌, ◌≢◌, ◌+◌, ◌-◌, ◌*◌, ◌/◌, ◌<◌, ◌≤◌, ◌∙◌, List, ap, arith, get_or, length, sym, ℕ}
use Rattle.std.proofs.Math.ListN.{set}
use Rattle.std.proofs.lemmas.List.{get_or-set_other, get_or-set_same, length-set}
use Rattle.def_round.proofs.SharesLaws.{prefix-more}
use Rattle.xg_plan.proofs.ShareLemmas.{prefix-within, quotient_within, two_shares}
use Rattle.xg_plan.proofs.dealing.deal_to_two.Goals as goal

pub returns : goal.returns
returns c =
    let out : List ℕ = c.args.out.now in
    let n : ℕ = c.args.n in
    let q : ℕ = c.part-first.result in
    let one_set : List ℕ = set out 0 q in
    let long : length one_set ≡ 2 = omega (arith, length-set {A = ℕ}) in
    let both : length (set one_set 1 (n - q)) ≡ 2 = omega (arith, length-set {A = ℕ}) in
    let none : ℕ = 0 in
    let apart : none ≢ 1 = omega arith in
    let low : 0 < length out = omega arith in
    let low' : 1 < length one_set = omega arith in
    let first : get_or (set one_set 1 (n - q)) 0 0 ≡ q = get_or-set_other one_set 1 0 (n - q) 0 apart ∙ get_or-set_same out 0 q 0 low in
    let second : get_or (set one_set 1 (n - q)) 1 0 ≡ n - q = get_or-set_same one_set 1 (n - q) 0 low' in
    let small : get_or c.args.units.now 0 0 ≤ 65536 = omega (
      arith,
      prefix-more c.args.units.now 0 (omega arith),
      prefix-within c.args.units.now (0 + 1),
      c.requires.whole,
    ) in
    let within : q ≤ n = omega (arith, quotient_within n (get_or c.args.units.now 0 0) 65536 (omega arith) small, c.part-first.ensures) in
    two_shares n q c.args.units.now (set one_set 1 (n - q)) (omega arith) both (omega (arith, c.requires.whole)) first (omega (arith, second, within))
    (c.part-first.ensures ∙ ap (λ sum. n * get_or c.args.units.now 0 0 / sum) (sym c.requires.whole))
