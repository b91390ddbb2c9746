-- The first four rounds of the small game with scale 10: what stands after each of them.
use Rattle.std.specs.Prelude.{pos, negsuc, [], ◌∷◌}
use Rattle.def_round.specs.Rounds.{Standing}

abbrev pub after_one : Standing
after_one = record {
  regrets_one = pos 0 ∷ pos 17 ∷ pos 5 ∷ negsuc 20 ∷ negsuc 0 ∷ pos 1 ∷ negsuc 0 ∷ pos 1 ∷ [];
  regrets_two = pos 0 ∷ negsuc 0 ∷ negsuc 12 ∷ pos 15 ∷ negsuc 2 ∷ pos 4 ∷ pos 7 ∷ negsuc 6 ∷ [];
  sum_one = 10 ∷ 3 ∷ 3 ∷ 4 ∷ 1 ∷ 2 ∷ 1 ∷ 2 ∷ [];
  sum_two = 10 ∷ 3 ∷ 3 ∷ 4 ∷ 1 ∷ 2 ∷ 1 ∷ 2 ∷ [];
}

abbrev pub after_two : Standing
after_two = record {
  regrets_one = pos 0 ∷ pos 27 ∷ negsuc 24 ∷ pos 79 ∷ negsuc 0 ∷ pos 1 ∷ negsuc 0 ∷ pos 1 ∷ [];
  regrets_two = pos 0 ∷ negsuc 96 ∷ negsuc 111 ∷ pos 15 ∷ negsuc 23 ∷ pos 4 ∷ pos 7 ∷ negsuc 30 ∷ [];
  sum_one = 20 ∷ 10 ∷ 6 ∷ 4 ∷ 1 ∷ 9 ∷ 1 ∷ 5 ∷ [];
  sum_two = 20 ∷ 3 ∷ 3 ∷ 14 ∷ 1 ∷ 2 ∷ 1 ∷ 2 ∷ [];
}

abbrev pub after_three : Standing
after_three = record {
  regrets_one = pos 0 ∷ negsuc 39 ∷ negsuc 131 ∷ pos 102 ∷ negsuc 0 ∷ pos 1 ∷ negsuc 0 ∷ pos 1 ∷ [];
  regrets_two = pos 0 ∷ pos 11 ∷ negsuc 63 ∷ pos 15 ∷ negsuc 29 ∷ pos 4 ∷ pos 7 ∷ negsuc 30 ∷ [];
  sum_one = 30 ∷ 12 ∷ 6 ∷ 12 ∷ 1 ∷ 11 ∷ 1 ∷ 5 ∷ [];
  sum_two = 30 ∷ 3 ∷ 3 ∷ 24 ∷ 1 ∷ 2 ∷ 1 ∷ 2 ∷ [];
}

abbrev pub after_four : Standing
after_four = record {
  regrets_one = pos 0 ∷ negsuc 45 ∷ negsuc 129 ∷ pos 102 ∷ negsuc 0 ∷ pos 1 ∷ negsuc 0 ∷ pos 1 ∷ [];
  regrets_two = pos 0 ∷ pos 98 ∷ negsuc 36 ∷ negsuc 47 ∷ negsuc 29 ∷ pos 4 ∷ pos 7 ∷ negsuc 30 ∷ [];
  sum_one = 40 ∷ 12 ∷ 6 ∷ 22 ∷ 1 ∷ 11 ∷ 1 ∷ 5 ∷ [];
  sum_two = 40 ∷ 7 ∷ 3 ∷ 30 ∷ 1 ∷ 6 ∷ 1 ∷ 2 ∷ [];
}
