use Rattle.std.proofs.Common.{◌≡◌, ℕ, zero, suc, ◌-◌, ◌≤◌, Some, set, refl, ◌∙◌, arith}
use Rattle.std.proofs.lemmas.List.{map-set}
use Rattle.xg_sets.specs.NextNumber.{number_or_none}
use Rattle.xg_sets.proofs.next_nodes.NextNodes.link.Goals as goal

some_number : (n : ℕ) → 1 ≤ n → number_or_none n ≡ Some n
some_number zero some = absurd (omega arith)
some_number (suc n) some = refl

pub returns : goal.returns
returns c =
    map-set number_or_none c.self.inside.numbers.items (c.args.k - 1) c.args.next
    ∙ (λ i. set (c.self.view_is i) (c.args.k - 1) (some_number c.args.next c.requires.some i))
