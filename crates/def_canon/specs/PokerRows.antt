-- One-card poker with two cards in its canonical form, and the sizes of the games with two and three.
use Rattle.std.specs.Prelude.{◌≡◌, ℕ, List, ◌++◌, codes, length}
use Rattle.def_canon.specs.Canon.{canon}
use Rattle.def_canon.specs.Poker.{entries, poker}

abbrev pub two_cards : List ℕ
two_cards =
    codes "EFG 2 R \"One-card poker 2\" { \"One\" \"Two\" }\n\"\"\n"
    ++ (codes "c \"\" 1 \"deal one\" { \"1\" 1/2 \"2\" 1/2 } 0\n"
    ++ (codes "c \"\" 2 \"deal two 1\" { \"2\" 1 } 0\n"
    ++ (codes "p \"\" 1 1 \"1\" { \"check\" \"bet\" } 0\n"
    ++ (codes "p \"\" 2 2 \"2 c\" { \"check\" \"bet\" } 0\n"
    ++ (codes "t \"\" 2 \"Two wins 1\" { -1, 1 }\n"
    ++ (codes "p \"\" 1 3 \"1 cb\" { \"fold\" \"call\" } 0\n"
    ++ (codes "t \"\" 2 \"Two wins 1\" { -1, 1 }\n"
    ++ (codes "t \"\" 4 \"Two wins 2\" { -2, 2 }\n"
    ++ (codes "p \"\" 2 4 \"2 b\" { \"fold\" \"call\" } 0\n"
    ++ (codes "t \"\" 1 \"One wins 1\" { 1, -1 }\n"
    ++ (codes "t \"\" 4 \"Two wins 2\" { -2, 2 }\n"
    ++ (codes "c \"\" 3 \"deal two 2\" { \"1\" 1 } 0\n"
    ++ (codes "p \"\" 1 2 \"2\" { \"check\" \"bet\" } 0\n"
    ++ (codes "p \"\" 2 1 \"1 c\" { \"check\" \"bet\" } 0\n"
    ++ (codes "t \"\" 1 \"One wins 1\" { 1, -1 }\n"
    ++ (codes "p \"\" 1 4 \"2 cb\" { \"fold\" \"call\" } 0\n"
    ++ (codes "t \"\" 2 \"Two wins 1\" { -1, 1 }\n"
    ++ (codes "t \"\" 3 \"One wins 2\" { 2, -2 }\n"
    ++ (codes "p \"\" 2 3 \"1 b\" { \"fold\" \"call\" } 0\n"
    ++ (codes "t \"\" 1 \"One wins 1\" { 1, -1 }\n"
    ++ codes "t \"\" 3 \"One wins 2\" { 2, -2 }\n"))))))))))))))))))))

pub record PokerRows : Type 0 where
  pub two : canon (poker 2) ≡ two_cards
  pub nodes_of_two : length (entries 2) ≡ 21
  pub nodes_of_three : length (entries 3) ≡ 58
