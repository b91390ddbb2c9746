-- The text of a run of CFR+: that of a certificate of version 2 under a first line of its own. Each law is the contract
-- of a function of this crate.
--     below_first_text c     the lines below the first
--     plus_text c            the same lines below `XGPLUS 1`
use Rattle.std.specs.Prelude.{◌≡◌, ℕ, List, [], ◌∷◌, ◌++◌, codes, pos, Err}
use Rattle.def_fraction.specs.Fraction.{negative_of, over, zero_fraction}
use Rattle.def_reply.specs.Outcome.{Head}
use Rattle.def_cert_verdict.specs.Certificate.{PrintedBounds}
use Rattle.def_cert_verdict.specs.Changes.{said, traced}
use Rattle.def_cert_verdict.specs.OneMover.{one_mover_head}
use Rattle.def_cert_verdict.specs.Pennies.{pennies_head}
use Rattle.def_cert_text.specs.declared.fault.CertFault.TheVariants.{CertSyntax}
use Rattle.def_cert_text.specs.declared.version.TextVersion.TheVariants as versions
use Rattle.def_cert_text.specs.Fields.{feed}
use Rattle.def_cert_text.specs.Formats.{text_of}
use Rattle.def_cert_text.specs.Versions.{VersionedCertificate, VersionedFits}
use Rattle.def_cert_text.specs.CertText.{first_text_of, last_lines, lines_of, versioned_in, versioned_text}
use Rattle.def_cert_text.specs.Laws.{TextsTell, versioned_head, with_second}
use Rattle.def_cert_text.specs.VersionTexts.{bracket_of, no_round_head}

abbrev pub below_first_text : VersionedCertificate → List ℕ
below_first_text c = text_of (lines_of c.version (last_lines c.version))
    (c.certificate.head, (c.certificate.bounds, (c.second, tt)))

abbrev pub plus_line : List ℕ
plus_line = codes "XGPLUS 1" ++ feed ∷ []

abbrev pub plus_text : VersionedCertificate → List ℕ
plus_text c = plus_line ++ below_first_text c

-- ---- laws
-- a certificate's text is its first line with the lines below it
abbrev pub TextsHaveTheirFirstLine : Type 0
TextsHaveTheirFirstLine = (c : VersionedCertificate) → versioned_text c ≡ first_text_of c.version ++ below_first_text c

-- whoever reads the text of CFR+ as a certificate finds a wrong word at its first byte
abbrev pub PlusTextsAreNoCertificates : Type 0
PlusTextsAreNoCertificates = (c : VersionedCertificate) → versioned_in (plus_text c) ≡ Err (CertSyntax 0)

-- within its ranges, and of version 2
pub record FitsVersionTwo (c : VersionedCertificate) : Type 0 where
  pub fits : VersionedFits c
  pub version : c.version ≡ versions.Two

-- such a text says one value
abbrev pub PlusTextsTellTheirNumbers : Type 0
PlusTextsTellTheirNumbers = TextsTell FitsVersionTwo plus_text

-- ---- texts that are known from outside: six rounds of a game of one mover, whose worse action is cut
abbrev pub six_rounds_head : Head
six_rounds_head = record one_mover_head { rounds = 6; scale = 16 }

abbrev pub six_rounds_bounds : PrintedBounds
six_rounds_bounds = record {
  trace =
      traced 1 1 (pos 8) 1 (pos 16)
      ∷ traced 2 2 (pos 40) 1 (pos 16)
      ∷ traced 3 3 (pos 88) 1 (pos 16)
      ∷ traced 4 4 (pos 152) 1 (pos 16)
      ∷ traced 5 5 (pos 232) 1 (pos 16)
      ∷ traced 6 6 (pos 328) 1 (pos 16)
      ∷ [];
  plan_one = record { root = 336; weights = (328 ∷ 8 ∷ []) ∷ [] };
  reply_two = record { total = pos 328; sets = [] };
  plan_two = record { root = 16; weights = [] };
  reply_one = record { total = pos 16; sets = said (pos 16) 1 ∷ [] };
  low = over (pos 41) 42;
  high = over (pos 1) 1;
}

abbrev pub six_rounds : VersionedCertificate
six_rounds = with_second six_rounds_head six_rounds_bounds
    (bracket_of (over (negative_of 1) 1) (over (negative_of 41) 42))

abbrev pub six_rounds_lines : List (List ℕ)
six_rounds_lines =
    codes "XGPLUS 1"
    ∷ codes "nodes 3 leaves 2"
    ∷ codes "sets 1 0"
    ∷ codes "sequences 3 1"
    ∷ codes "unit 1"
    ∷ codes "mass 1"
    ∷ codes "sum 0"
    ∷ codes "rounds 6 every 1 scale 16"
    ∷ codes "trace 1 1 8 1 16"
    ∷ codes "trace 2 2 40 1 16"
    ∷ codes "trace 3 3 88 1 16"
    ∷ codes "trace 4 4 152 1 16"
    ∷ codes "trace 5 5 232 1 16"
    ∷ codes "trace 6 6 328 1 16"
    ∷ codes "plan 1 336"
    ∷ codes "weights 1 328 8"
    ∷ codes "reply 2 328"
    ∷ codes "plan 2 16"
    ∷ codes "reply 1 16"
    ∷ codes "value 1 16 1"
    ∷ codes "bracket 41/42 1"
    ∷ codes "second -1 -41/42"
    ∷ codes "end"
    ∷ []

-- ---- a leaf alone of sum -1/3, and matching pennies without rounds
abbrev pub one_leaf_head : Head
one_leaf_head = record no_round_head { rounds = 2; scale = 3 }

abbrev pub one_leaf_bounds : PrintedBounds
one_leaf_bounds = record {
  trace = traced 1 1 (pos 0) 1 (pos 0) ∷ traced 2 1 (pos 0) 1 (pos 0) ∷ [];
  plan_one = record { root = 3; weights = [] };
  reply_two = record { total = pos 0; sets = [] };
  plan_two = record { root = 3; weights = [] };
  reply_one = record { total = pos 0; sets = [] };
  low = zero_fraction;
  high = zero_fraction;
}

abbrev pub one_leaf_of_plus : VersionedCertificate
one_leaf_of_plus = with_second one_leaf_head one_leaf_bounds
    (bracket_of (over (negative_of 1) 3) (over (negative_of 1) 3))

abbrev pub one_leaf_lines_of_plus : List (List ℕ)
one_leaf_lines_of_plus =
    codes "XGPLUS 1"
    ∷ codes "nodes 1 leaves 1"
    ∷ codes "sets 0 0"
    ∷ codes "sequences 1 1"
    ∷ codes "unit 3"
    ∷ codes "mass 0"
    ∷ codes "sum -1/3"
    ∷ codes "rounds 2 every 1 scale 3"
    ∷ codes "trace 1 1 0 1 0"
    ∷ codes "trace 2 1 0 1 0"
    ∷ codes "plan 1 3"
    ∷ codes "reply 2 0"
    ∷ codes "plan 2 3"
    ∷ codes "reply 1 0"
    ∷ codes "bracket 0 0"
    ∷ codes "second -1/3 -1/3"
    ∷ codes "end"
    ∷ []

abbrev pub without_rounds : VersionedCertificate
without_rounds = versioned_head versions.Two (record pennies_head { rounds = 0; every = 1; scale = 16384 })

abbrev pub without_rounds_lines : List (List ℕ)
without_rounds_lines =
    codes "XGPLUS 1"
    ∷ codes "nodes 7 leaves 4"
    ∷ codes "sets 1 1"
    ∷ codes "sequences 3 3"
    ∷ codes "unit 1"
    ∷ codes "mass 4"
    ∷ codes "sum 0"
    ∷ codes "rounds 0 every 1 scale 16384"
    ∷ codes "end"
    ∷ []
