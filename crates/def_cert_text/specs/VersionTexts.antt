-- Texts of both versions that are known from outside, as lists of lines, and certificates whose text they are.
use Rattle.std.specs.Prelude.{ℕ, ◌-◌, List, [], ◌∷◌, ◌++◌, codes, drop, pos, take}
use Rattle.def_fraction.specs.Fraction.{Fraction, negative_of, over}
use Rattle.def_reply.specs.Outcome.{Head}
use Rattle.def_cert_verdict.specs.Certificate.{Certificate, PrintedBounds}
use Rattle.def_cert_verdict.specs.Changes.{said, traced}
use Rattle.def_cert_verdict.specs.Laws.{with_bounds}
use Rattle.def_cert_verdict.specs.Pennies.{pennies_head, scale_one_bounds, scale_one_head}
use Rattle.def_cert_text.specs.Versions.{PrintedBracket, VersionedCertificate}
use Rattle.def_cert_text.specs.Laws.{with_second}

-- ---- changed texts: what stands between line feeds becomes other lines, from the first to the last number, where
-- lines count from 1
abbrev pub between_feeds : List (List ℕ) → List ℕ
between_feeds [] = []
between_feeds (line ∷ []) = line
between_feeds (line ∷ more ∷ lines) = line ++ 10 ∷ between_feeds (more ∷ lines)

abbrev pub with_lines : List (List ℕ) → ℕ → ℕ → List (List ℕ) → List ℕ
with_lines lines first last become = between_feeds (take (first - 1) lines ++ (become ++ drop last (lines ++ [] ∷ [])))

abbrev pub bracket_of : Fraction → Fraction → PrintedBracket
bracket_of low high = record { low = low; high = high }

-- ---- three rounds of a game of sum -5/6, in which player two doesn't see what chance deals
abbrev pub shared_head : Head
shared_head = record {
  nodes = 13;
  leaves = 7;
  sets_one = 2;
  sets_two = 1;
  sequences_one = 5;
  sequences_two = 3;
  unit = 6;
  sum = over (negative_of 5) 6;
  mass = 29;
  rounds = 3;
  every = 1;
  scale = 6;
}

abbrev pub shared_bounds : PrintedBounds
shared_bounds = record {
  trace = traced 1 1 (negative_of 27) 1 (pos 6) ∷ traced 2 2 (negative_of 3) 1 (pos 6) ∷ traced 3 3 (pos 0) 1 (pos 6)
      ∷ [];
  plan_one = record { root = 18; weights = (15 ∷ 3 ∷ []) ∷ (3 ∷ 15 ∷ []) ∷ [] };
  reply_two = record { total = pos 0; sets = said (pos 0) 2 ∷ [] };
  plan_two = record { root = 6; weights = (3 ∷ 3 ∷ []) ∷ [] };
  reply_one = record { total = pos 6; sets = said (pos 6) 1 ∷ said (pos 0) 2 ∷ [] };
  low = over (pos 0) 1;
  high = over (pos 1) 6;
}

abbrev pub shared_certificate : Certificate
shared_certificate = with_bounds shared_head shared_bounds

abbrev pub with_second_ends : Fraction → Fraction → VersionedCertificate
with_second_ends low high = with_second shared_head shared_bounds (bracket_of low high)

abbrev pub shared : VersionedCertificate
shared = with_second_ends (over (negative_of 1) 1) (over (negative_of 5) 6)

abbrev pub with_sum : Fraction → VersionedCertificate
with_sum sum = record shared { certificate = with_bounds (record shared_head { sum = sum }) shared_bounds }

abbrev pub shared_lines_one : List (List ℕ)
shared_lines_one =
    codes "XGCERT 1"
    ∷ codes "nodes 13 leaves 7"
    ∷ codes "sets 2 1"
    ∷ codes "sequences 5 3"
    ∷ codes "unit 6 sum -5/6"
    ∷ codes "mass 29"
    ∷ codes "rounds 3 every 1 scale 6"
    ∷ codes "trace 1 1 -27 1 6"
    ∷ codes "trace 2 2 -3 1 6"
    ∷ codes "trace 3 3 0 1 6"
    ∷ codes "plan 1 18"
    ∷ codes "weights 1 15 3"
    ∷ codes "weights 2 3 15"
    ∷ codes "reply 2 0"
    ∷ codes "value 1 0 2"
    ∷ codes "plan 2 6"
    ∷ codes "weights 1 3 3"
    ∷ codes "reply 1 6"
    ∷ codes "value 1 6 1"
    ∷ codes "value 2 0 2"
    ∷ codes "bracket 0 1/6"
    ∷ codes "end"
    ∷ []

abbrev pub shared_lines : List (List ℕ)
shared_lines =
    codes "XGCERT 2"
    ∷ codes "nodes 13 leaves 7"
    ∷ codes "sets 2 1"
    ∷ codes "sequences 5 3"
    ∷ codes "unit 6"
    ∷ codes "mass 29"
    ∷ codes "sum -5/6"
    ∷ codes "rounds 3 every 1 scale 6"
    ∷ codes "trace 1 1 -27 1 6"
    ∷ codes "trace 2 2 -3 1 6"
    ∷ codes "trace 3 3 0 1 6"
    ∷ codes "plan 1 18"
    ∷ codes "weights 1 15 3"
    ∷ codes "weights 2 3 15"
    ∷ codes "reply 2 0"
    ∷ codes "value 1 0 2"
    ∷ codes "plan 2 6"
    ∷ codes "weights 1 3 3"
    ∷ codes "reply 1 6"
    ∷ codes "value 1 6 1"
    ∷ codes "value 2 0 2"
    ∷ codes "bracket 0 1/6"
    ∷ codes "second -1 -5/6"
    ∷ codes "end"
    ∷ []

-- ---- two rounds of matching pennies
abbrev pub scale_one_certificate : Certificate
scale_one_certificate = with_bounds scale_one_head scale_one_bounds

abbrev pub scale_one_two : VersionedCertificate
scale_one_two = with_second scale_one_head scale_one_bounds (bracket_of (over (pos 0) 1) (over (pos 1) 1))

abbrev pub scale_one_lines_two : List (List ℕ)
scale_one_lines_two =
    codes "XGCERT 2"
    ∷ codes "nodes 7 leaves 4"
    ∷ codes "sets 1 1"
    ∷ codes "sequences 3 3"
    ∷ codes "unit 1"
    ∷ codes "mass 4"
    ∷ codes "sum 0"
    ∷ codes "rounds 2 every 1 scale 1"
    ∷ codes "trace 1 1 -1 1 1"
    ∷ codes "trace 2 1 -1 2 0"
    ∷ codes "plan 1 1"
    ∷ codes "weights 1 0 1"
    ∷ codes "reply 2 -1"
    ∷ codes "value 1 -1 1"
    ∷ codes "plan 2 2"
    ∷ codes "weights 1 1 1"
    ∷ codes "reply 1 0"
    ∷ codes "value 1 0 1"
    ∷ codes "bracket -1 0"
    ∷ codes "second 0 1"
    ∷ codes "end"
    ∷ []

-- ---- a leaf alone of sum -1/3, and matching pennies, without rounds
abbrev pub no_round_head : Head
no_round_head = record {
  nodes = 1;
  leaves = 1;
  sets_one = 0;
  sets_two = 0;
  sequences_one = 1;
  sequences_two = 1;
  unit = 3;
  sum = over (negative_of 1) 3;
  mass = 0;
  rounds = 0;
  every = 1;
  scale = 1048576;
}

abbrev pub no_round_lines_one : List (List ℕ)
no_round_lines_one =
    codes "XGCERT 1"
    ∷ codes "nodes 1 leaves 1"
    ∷ codes "sets 0 0"
    ∷ codes "sequences 1 1"
    ∷ codes "unit 3 sum -1/3"
    ∷ codes "mass 0"
    ∷ codes "rounds 0 every 1 scale 1048576"
    ∷ codes "end"
    ∷ []

abbrev pub no_round_lines : List (List ℕ)
no_round_lines =
    codes "XGCERT 2"
    ∷ codes "nodes 1 leaves 1"
    ∷ codes "sets 0 0"
    ∷ codes "sequences 1 1"
    ∷ codes "unit 3"
    ∷ codes "mass 0"
    ∷ codes "sum -1/3"
    ∷ codes "rounds 0 every 1 scale 1048576"
    ∷ codes "end"
    ∷ []

abbrev pub no_sum_head : Head
no_sum_head = record pennies_head { rounds = 0; every = 7; scale = 3 }

abbrev pub no_sum_lines_one : List (List ℕ)
no_sum_lines_one =
    codes "XGCERT 1"
    ∷ codes "nodes 7 leaves 4"
    ∷ codes "sets 1 1"
    ∷ codes "sequences 3 3"
    ∷ codes "unit 1"
    ∷ codes "mass 4"
    ∷ codes "rounds 0 every 7 scale 3"
    ∷ codes "end"
    ∷ []

abbrev pub no_sum_lines : List (List ℕ)
no_sum_lines =
    codes "XGCERT 2"
    ∷ codes "nodes 7 leaves 4"
    ∷ codes "sets 1 1"
    ∷ codes "sequences 3 3"
    ∷ codes "unit 1"
    ∷ codes "mass 4"
    ∷ codes "sum 0"
    ∷ codes "rounds 0 every 7 scale 3"
    ∷ codes "end"
    ∷ []

-- ---- one round of a game of one mover whose unit is the greatest
abbrev pub finest_head : Head
finest_head = record {
  nodes = 4;
  leaves = 3;
  sets_one = 1;
  sets_two = 0;
  sequences_one = 4;
  sequences_two = 1;
  unit = 4611686018427387904;
  sum = over (pos 1) 4611686018427387904;
  mass = 1;
  rounds = 1;
  every = 1;
  scale = 1048576;
}

abbrev pub finest_bounds : PrintedBounds
finest_bounds = record {
  trace = traced 1 1 (pos 349520) 1 (pos 1048576) ∷ [];
  plan_one = record { root = 1048576; weights = (349520 ∷ 349520 ∷ 349536 ∷ []) ∷ [] };
  reply_two = record { total = pos 349520; sets = [] };
  plan_two = record { root = 1048576; weights = [] };
  reply_one = record { total = pos 1048576; sets = said (pos 1048576) 1 ∷ [] };
  low = over (pos 21845) 302231454903657293676544;
  high = over (pos 1) 4611686018427387904;
}

abbrev pub finest_certificate : Certificate
finest_certificate = with_bounds finest_head finest_bounds

abbrev pub finest : VersionedCertificate
finest = with_second finest_head finest_bounds (bracket_of (over (pos 0) 1) (over (pos 43691) 302231454903657293676544))

abbrev pub finest_lines_one : List (List ℕ)
finest_lines_one =
    codes "XGCERT 1"
    ∷ codes "nodes 4 leaves 3"
    ∷ codes "sets 1 0"
    ∷ codes "sequences 4 1"
    ∷ codes "unit 4611686018427387904 sum 1/4611686018427387904"
    ∷ codes "mass 1"
    ∷ codes "rounds 1 every 1 scale 1048576"
    ∷ codes "trace 1 1 349520 1 1048576"
    ∷ codes "plan 1 1048576"
    ∷ codes "weights 1 349520 349520 349536"
    ∷ codes "reply 2 349520"
    ∷ codes "plan 2 1048576"
    ∷ codes "reply 1 1048576"
    ∷ codes "value 1 1048576 1"
    ∷ codes "bracket 21845/302231454903657293676544 1/4611686018427387904"
    ∷ codes "end"
    ∷ []

abbrev pub finest_lines : List (List ℕ)
finest_lines =
    codes "XGCERT 2"
    ∷ codes "nodes 4 leaves 3"
    ∷ codes "sets 1 0"
    ∷ codes "sequences 4 1"
    ∷ codes "unit 4611686018427387904"
    ∷ codes "mass 1"
    ∷ codes "sum 1/4611686018427387904"
    ∷ codes "rounds 1 every 1 scale 1048576"
    ∷ codes "trace 1 1 349520 1 1048576"
    ∷ codes "plan 1 1048576"
    ∷ codes "weights 1 349520 349520 349536"
    ∷ codes "reply 2 349520"
    ∷ codes "plan 2 1048576"
    ∷ codes "reply 1 1048576"
    ∷ codes "value 1 1048576 1"
    ∷ codes "bracket 21845/302231454903657293676544 1/4611686018427387904"
    ∷ codes "second 0 43691/302231454903657293676544"
    ∷ codes "end"
    ∷ []
