use Rattle.std.proofs.Common.{◌≡◌, ◌+◌, ◌++◌, ◌∷◌, [], List, ℕ, cond, length, position, nat_eq, None, ap, sym, ◌∙◌, subst, arith}
use Rattle.xg_game.specs.Marks.{MarksUpTo, mark_of}
use Rattle.xg_game.proofs.MarkLemmas.{MarksEach-push, above-push}
use Rattle.xg_game.proofs.numbers.PlacedNumbers.push.Goals as goal

pub invariant_of-self-2 : goal.invariant_of-self-2
invariant_of-self-2 c =
    let numbers : List ℕ = c.self.inside.numbers.items in
    let near : List ℕ = c.self.inside.near.items in
    let number : ℕ = c.args.number in
    let none : position (nat_eq number) numbers ≡ None = ap (position (nat_eq number)) c.self.view_is ∙ c.requires.new in
    let mark : c.len.result + 1 ≡ length numbers + 1 = omega (arith, c.len.ensures, c.reserve.ensures.len) in
    let kept = c.push_reserved.ensures.items ∙ ap (λ (xs : List ℕ). xs ++ number ∷ []) c.reserve.ensures.items in
    subst (λ (xs : List ℕ). MarksUpTo xs c.set_mark.new.near.items c.set_mark.new.far c.max-greatest.result) (sym kept) (record {
      marks = MarksEach-push numbers near c.set_mark.new.near.items c.self.inside.far c.set_mark.new.far number c.self.invariant.marks none
          (λ n. c.in_ok-set_mark.ensures.ok n ∙ ap (λ m. cond (nat_eq n number) m (mark_of near c.self.inside.far n)) mark);
      above = above-push numbers c.self.inside.greatest c.max-greatest.result number c.self.invariant.above (omega arith) (omega arith);
    })
