-- What is read of a certificate, as the definitions have it.
use Rattle.std.specs.Prelude.{ℕ, ◌≤◌, Option, Some, None}
use Rattle.def_sums.specs.Limits.{most_rounds}
use Rattle.def_tree.specs.Rules.{most_nodes}
use Rattle.def_fraction.specs.Fraction.{Fraction}
use Rattle.def_cert_verdict.specs.Certificate.{PrintedBounds}
use Rattle.def_cert_text.specs.Versions.{PrintedBracket, VersionedCertificate}
use Rattle.def_cert_text.specs.declared.version.TextVersion.{TextVersion}
use Rattle.def_cert_text.specs.declared.version.TextVersion.TheVariants as versions
use Rattle.xg_outcome.specs.declared.head.Head.{Head}
use Rattle.xg_cert.specs.declared.cert.BoundsLines.{BoundsLines}
use Rattle.xg_cert.specs.declared.cert.CertLines.{CertLines}
use Rattle.xg_cert.specs.declared.read_lines.ValueLine.{ValueLine}
use Rattle.def_reply.specs.Reply.{SetReply}
use Rattle.xg_outcome.specs.Outcome.{head_of}

abbrev pub bounds_of : BoundsLines → PrintedBounds
bounds_of b = record {
  trace = b.trace.items;
  plan_one = b.plan_one;
  reply_two = b.reply_two;
  plan_two = b.plan_two;
  reply_one = b.reply_one;
  low = b.low;
  high = b.high;
}

abbrev pub bounds_where_given : Option BoundsLines → Option PrintedBounds
bounds_where_given None = None
bounds_where_given (Some b) = Some (bounds_of b)

abbrev pub bracket_between : (Fraction × Fraction) → PrintedBracket
bracket_between ends = record { low = ends.0; high = ends.1 }

abbrev pub second_where_given : Option (Fraction × Fraction) → Option PrintedBracket
second_where_given None = None
second_where_given (Some ends) = Some (bracket_between ends)

abbrev pub certificate_read : CertLines → VersionedCertificate
certificate_read c = record {
  version = c.version;
  certificate = record { head = head_of c.head; bounds = bounds_where_given c.bounds };
  second = second_where_given c.second;
}

abbrev pub version_number : TextVersion → ℕ
version_number versions.One = 1
version_number versions.Two = 2

-- the parts of lines
abbrev pub set_reply_of : ValueLine → SetReply
set_reply_of line = record { value = line.value; choice = line.choice }

-- the numbers of a head that reading goes by are within their ranges
pub record IsReadHead (head : Head) : Type 0 where
  pub sets_one : head.sets.0 ≤ most_nodes
  pub sets_two : head.sets.1 ≤ most_nodes
  pub rounds : head.rounds ≤ most_rounds
  pub every : (1 ≤ head.every) × (head.every ≤ most_rounds)
