use Rattle.std.proofs.Common.{◌≡◌, ℕ, ◌≤◌, List, ◌∙◌, ap, take, length, rules, arith}
use Rattle.std.proofs.lemmas.List.{take-take, length-take}
use Rattle.std.specs.Io.KnownBytes.{append_known}
use Rattle.xg_io.proofs.KnownBytesInPieces.{go_on, a_front}
use Rattle.xg_base_tests.proofs.page_tests.LettersWritable.write.Goals as goal

-- what was taken of a front of the bytes is a front of them
front_of_front : (rest : List ℕ) (n most : ℕ) → n ≤ length (take most rest) → take n (take most rest) ≡ take n rest
front_of_front rest n most within = take-take n most rest (omega (arith, within, length-take most rest))

pub loop-rest-preserved : goal.loop-rest-preserved
loop-rest-preserved g c = record {
  so_far = go_on _ _ _ _ _ _ c.loop-rest.invariant.so_far
      (c.in-Ok.ensures.appended ∙ ap (append_known _) (front_of_front _ _ _ c.in-Ok.ensures.count));
  blameless = c.in-Ok.ensures.cause ∙ c.loop-rest.invariant.blameless;
}

pub returns-in-Err-clause-prefix : goal.returns-in-Err-clause-prefix
returns-in-Err-clause-prefix g c = a_front _ _ _ _ _ c.loop-rest.invariant.so_far c.in-Err.ensures.same_written (search rules)
