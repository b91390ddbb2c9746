-- Worked rows: each number of a certificate's lines at the ends of its range, and one past them, where no row of a
-- crate below says it. A number past its range is refused at its place in the line.
use Rattle.std.specs.Prelude.{◌≡◌, ℕ, ◌^◌, true, false, List, [], codes, length, replicate, pos, Result, Ok, Err}
use Rattle.def_fraction.specs.Fraction.{negative_of, over, whole_number, zero_fraction}
use Rattle.def_cert_text.specs.declared.fault.CertFault.{CertFault}
use Rattle.def_cert_text.specs.declared.fault.CertFault.TheVariants.{CertNumber}
use Rattle.def_cert_text.specs.Formats.{Format}
use Rattle.def_cert_text.specs.CertText.{asked_line, bracket_line, line_of_round, mass_line, plan_lines, reply_lines}
use Rattle.def_cert_text.specs.CertText.{sequences_line, sets_line, size_line, unit_alone_line, unit_line, value_line}
use Rattle.def_cert_text.specs.CertText.{weights_line}

-- what reading gives of bytes that are read alone
abbrev read_alone : {A : Type 0} → Format A → List ℕ → Result (A × List ℕ) CertFault
read_alone line bytes = line.read (length bytes) bytes

-- ---- the head

pub record HeadRangeRows : Type 0 where
  pub least_sizes : read_alone size_line (codes "nodes 1 leaves 1\n") ≡ Ok ((1, 1), [])
  pub most_sizes : read_alone size_line (codes "nodes 1048576 leaves 1048576\n") ≡ Ok ((1048576, 1048576), [])
  pub no_leaf : read_alone size_line (codes "nodes 1 leaves 0\n") ≡ Err (CertNumber 15)
  pub many_leaves : read_alone size_line (codes "nodes 1 leaves 1048577\n") ≡ Err (CertNumber 15)
  pub no_sets : read_alone sets_line (codes "sets 0 0\n") ≡ Ok ((0, 0), [])
  pub most_sets : read_alone sets_line (codes "sets 1048576 1048576\n") ≡ Ok ((1048576, 1048576), [])
  pub many_sets_of_one : read_alone sets_line (codes "sets 1048577 0\n") ≡ Err (CertNumber 5)
  pub many_sets_of_two : read_alone sets_line (codes "sets 0 1048577\n") ≡ Err (CertNumber 7)
  pub least_sequences : read_alone sequences_line (codes "sequences 1 1\n") ≡ Ok ((1, 1), [])
  pub most_sequences : read_alone sequences_line (codes "sequences 1048576 1048576\n") ≡ Ok ((1048576, 1048576), [])
  pub no_sequence_of_one : read_alone sequences_line (codes "sequences 0 1\n") ≡ Err (CertNumber 10)
  pub no_sequence_of_two : read_alone sequences_line (codes "sequences 1 0\n") ≡ Err (CertNumber 12)
  pub many_sequences_of_one : read_alone sequences_line (codes "sequences 1048577 1\n") ≡ Err (CertNumber 10)
  pub many_sequences_of_two : read_alone sequences_line (codes "sequences 1 1048577\n") ≡ Err (CertNumber 12)
  pub least_unit : read_alone unit_line (codes "unit 1\n") ≡ Ok ((1, zero_fraction), [])
  pub most_unit : read_alone unit_line (codes "unit 4611686018427387904\n")
      ≡ Ok ((4611686018427387904, zero_fraction), [])
  pub no_unit : read_alone unit_line (codes "unit 0\n") ≡ Err (CertNumber 5)
  pub large_unit : read_alone unit_line (codes "unit 4611686018427387905\n") ≡ Err (CertNumber 5)
  pub least_unit_alone : read_alone unit_alone_line (codes "unit 1\n") ≡ Ok (1, [])
  pub most_unit_alone : read_alone unit_alone_line (codes "unit 4611686018427387904\n") ≡ Ok (4611686018427387904, [])
  pub no_unit_alone : read_alone unit_alone_line (codes "unit 0\n") ≡ Err (CertNumber 5)
  pub large_unit_alone : read_alone unit_alone_line (codes "unit 4611686018427387905\n") ≡ Err (CertNumber 5)
  pub least_sum : read_alone unit_line (codes "unit 1 sum -4611686018427387904\n")
      ≡ Ok ((1, whole_number (negative_of 4611686018427387904)), [])
  pub most_sum : read_alone unit_line (codes "unit 1 sum 4611686018427387904\n")
      ≡ Ok ((1, whole_number (pos 4611686018427387904)), [])
  pub finest_sum : read_alone unit_line (codes "unit 1 sum 1/4611686018427387904\n")
      ≡ Ok ((1, over (pos 1) 4611686018427387904), [])
  pub no_sum : read_alone unit_line (codes "unit 1 sum 0\n") ≡ Err (CertNumber 11)
  pub large_sum : read_alone unit_line (codes "unit 1 sum 4611686018427387905\n") ≡ Err (CertNumber 11)
  pub fine_sum : read_alone unit_line (codes "unit 1 sum 1/4611686018427387905\n") ≡ Err (CertNumber 11)
  pub no_mass : read_alone mass_line (codes "mass 0\n") ≡ Ok (0, [])
  pub most_mass : read_alone mass_line (codes "mass 4611686018427387904\n") ≡ Ok (4611686018427387904, [])
  pub least_asked : read_alone asked_line (codes "rounds 0 every 1 scale 1\n") ≡ Ok ((0, (1, 1)), [])
  pub most_asked : read_alone asked_line (codes "rounds 65536 every 65536 scale 1048576\n")
      ≡ Ok ((65536, (65536, 1048576)), [])
  pub many_rounds : read_alone asked_line (codes "rounds 65537 every 1 scale 1\n") ≡ Err (CertNumber 7)
  pub large_every : read_alone asked_line (codes "rounds 0 every 65537 scale 1\n") ≡ Err (CertNumber 15)
  pub no_scale : read_alone asked_line (codes "rounds 0 every 1 scale 0\n") ≡ Err (CertNumber 23)
  pub large_scale : read_alone asked_line (codes "rounds 0 every 1 scale 1048577\n") ≡ Err (CertNumber 23)

-- ---- below it

-- ends and totals are at most 2^100 in size, roots 2^36, choices 1,024, and so are the numbers of a set
pub record BoundRangeRows : Type 0 where
  pub least_ends : read_alone (line_of_round 7)
      (codes "trace 7 1 -1267650600228229401496703205376 7 1267650600228229401496703205376\n")
      ≡ Ok (record { round = 7; low_round = 1; low = negative_of (2 ^ 100); high_round = 7; high = pos (2 ^ 100) }, [])
  pub most_ends : read_alone (line_of_round 7)
      (codes "trace 7 7 1267650600228229401496703205376 1 -1267650600228229401496703205376\n")
      ≡ Ok (record { round = 7; low_round = 7; low = pos (2 ^ 100); high_round = 1; high = negative_of (2 ^ 100) }, [])
  pub other_round : read_alone (line_of_round 7) (codes "trace 8 1 0 1 0\n") ≡ Err (CertNumber 6)
  pub no_low_round : read_alone (line_of_round 7) (codes "trace 7 0 1 1 1\n") ≡ Err (CertNumber 8)
  pub late_low_round : read_alone (line_of_round 7) (codes "trace 7 8 0 1 0\n") ≡ Err (CertNumber 8)
  pub no_high_round : read_alone (line_of_round 7) (codes "trace 7 1 1 0 1\n") ≡ Err (CertNumber 12)
  pub late_high_round : read_alone (line_of_round 7) (codes "trace 7 1 0 8 0\n") ≡ Err (CertNumber 12)
  pub small_low_end : read_alone (line_of_round 7) (codes "trace 7 1 -1267650600228229401496703205377 1 0\n")
      ≡ Err (CertNumber 10)
  pub large_high_end : read_alone (line_of_round 7) (codes "trace 7 1 0 1 1267650600228229401496703205377\n")
      ≡ Err (CertNumber 14)
  pub least_root : read_alone (plan_lines (codes "1") 0) (codes "plan 1 1\n")
      ≡ Ok (record { root = 1; weights = [] }, [])
  pub most_root : read_alone (plan_lines (codes "1") 0) (codes "plan 1 68719476736\n")
      ≡ Ok (record { root = 68719476736; weights = [] }, [])
  pub large_root : read_alone (plan_lines (codes "1") 0) (codes "plan 1 68719476737\n") ≡ Err (CertNumber 7)
  pub least_total : read_alone (reply_lines (codes "2") 0) (codes "reply 2 -1267650600228229401496703205376\n")
      ≡ Ok (record { total = negative_of (2 ^ 100); sets = [] }, [])
  pub most_total : read_alone (reply_lines (codes "2") 0) (codes "reply 2 1267650600228229401496703205376\n")
      ≡ Ok (record { total = pos (2 ^ 100); sets = [] }, [])
  pub small_total : read_alone (reply_lines (codes "2") 0) (codes "reply 2 -1267650600228229401496703205377\n")
      ≡ Err (CertNumber 8)
  pub large_total : read_alone (reply_lines (codes "2") 0) (codes "reply 2 1267650600228229401496703205377\n")
      ≡ Err (CertNumber 8)
  pub least_value : read_alone (value_line 1) (codes "value 1 -1267650600228229401496703205376 1\n")
      ≡ Ok (record { value = negative_of (2 ^ 100); choice = 1 }, [])
  pub most_value : read_alone (value_line 1) (codes "value 1 1267650600228229401496703205376 1024\n")
      ≡ Ok (record { value = pos (2 ^ 100); choice = 1024 }, [])
  pub small_value : read_alone (value_line 1) (codes "value 1 -1267650600228229401496703205377 1\n")
      ≡ Err (CertNumber 8)
  pub large_value : read_alone (value_line 1) (codes "value 1 1267650600228229401496703205377 1\n") ≡ Err (CertNumber 8)
  pub large_choice : read_alone (value_line 1) (codes "value 1 0 1025\n") ≡ Err (CertNumber 10)
  pub least_bracket : read_alone bracket_line
      (codes "bracket -1267650600228229401496703205376 -1/1267650600228229401496703205376\n")
      ≡ Ok ((over (negative_of (2 ^ 100)) 1, over (negative_of 1) (2 ^ 100)), [])
  pub most_bracket : read_alone bracket_line
      (codes "bracket 1/1267650600228229401496703205376 1267650600228229401496703205376\n")
      ≡ Ok ((over (pos 1) (2 ^ 100), over (pos (2 ^ 100)) 1), [])
  pub small_low : read_alone bracket_line (codes "bracket -1267650600228229401496703205377 0\n") ≡ Err (CertNumber 8)
  pub fine_low : read_alone bracket_line (codes "bracket 1/1267650600228229401496703205377 0\n") ≡ Err (CertNumber 8)
  pub large_high : read_alone bracket_line (codes "bracket 0 1267650600228229401496703205377\n") ≡ Err (CertNumber 10)
  pub fine_high : read_alone bracket_line (codes "bracket 0 1/1267650600228229401496703205377\n") ≡ Err (CertNumber 10)
  pub most_weights : (weights_line 1).fits (replicate 1024 0) ≡ true
  pub many_weights : (weights_line 1).fits (replicate 1025 0) ≡ false
