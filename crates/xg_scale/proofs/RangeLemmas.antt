-- The least and the greatest of payoffs, and one payoff more.
use Rattle.std.proofs.Common.{◌≡◌, ◌≤◌, List, [], ◌∷◌, ◌++◌, ◌⊎◌, ⊎_elim, sym, subst}
use Rattle.std.specs.Prelude.{Contains}
use Rattle.std.proofs.lemmas.List.Elements.{All-push, All-weaker, Contains-append_left, Contains-push}
use Rattle.def_fraction.specs.Fraction.{Fraction}
use Rattle.def_fraction.specs.Order.{IsAtMost}
use Rattle.def_payoffs.specs.Range.{IsGreatest, IsLeast}
use Rattle.def_reply.proofs.Compares.{at_most-trans}

-- one of the payoffs, or the new one
one_more : (payoffs : List Fraction) (old new one : Fraction) → Contains payoffs old → (one ≡ old) ⊎ (one ≡ new)
    → Contains (payoffs ++ new ∷ []) one
one_more payoffs old new one there either =
    ⊎_elim (λ same. subst (Contains (payoffs ++ new ∷ [])) (sym same) (Contains-append_left payoffs (new ∷ []) old there))
    (λ same. subst (Contains (payoffs ++ new ∷ [])) (sym same) (Contains-push payoffs new))
    either

pub least_more : (payoffs : List Fraction) (old new least : Fraction) → 1 ≤ old.den → IsLeast payoffs old
    → (least ≡ old) ⊎ (least ≡ new) → IsAtMost least old → IsAtMost least new → IsLeast (payoffs ++ new ∷ []) least
least_more payoffs old new least some is either first second = record {
  one_of_them = one_more payoffs old new least is.one_of_them either;
  above = All-push (IsAtMost least) payoffs new
      (All-weaker (IsAtMost old) (IsAtMost least)
      (λ payoff above. at_most-trans least.num old.num payoff.num least.den old.den payoff.den some first above) payoffs is.above)
      second;
}

pub greatest_more : (payoffs : List Fraction) (old new greatest : Fraction) → 1 ≤ old.den → IsGreatest payoffs old
    → (greatest ≡ old) ⊎ (greatest ≡ new) → IsAtMost old greatest → IsAtMost new greatest
    → IsGreatest (payoffs ++ new ∷ []) greatest
greatest_more payoffs old new greatest some is either first second = record {
  one_of_them = one_more payoffs old new greatest is.one_of_them either;
  below = All-push (λ payoff. IsAtMost payoff greatest) payoffs new
      (All-weaker (λ payoff. IsAtMost payoff old) (λ payoff. IsAtMost payoff greatest)
      (λ payoff below. at_most-trans payoff.num old.num greatest.num payoff.den old.den greatest.den some below first) payoffs is.below)
      second;
}
