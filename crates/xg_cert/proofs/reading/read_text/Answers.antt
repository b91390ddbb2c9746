use Rattle.std.proofs.Common.{rules, ◌≡◌, ℕ, codes, length, nat_lt, Ok, subst}
use Rattle.def_cert_text.specs.Fields.{space, fixed_word}
use Rattle.def_cert_text.specs.Formats.{fixed_field, read_asked}
use Rattle.def_cert_text.specs.CertText.{bounds_lines, head_lines_of, last_lines, version_field, versioned_in}
use Rattle.def_cert_text.proofs.TextLaws.{versioned_reading}
use Rattle.xg_outcome.specs.Outcome.{head_of}
use Rattle.xg_cert.specs.Answers.{text_read}
use Rattle.xg_cert.specs.ReadCert.{bounds_where_given, second_where_given}
use Rattle.xg_cert.proofs.WholeRead.{lines_read}
use Rattle.xg_cert.proofs.reading.read_text.Goals as goal
use Rattle.xg_cert.proofs.reading.read_text.Goals.{then-head-eq0, else-head-eq0+in_ok-bounds_lines}

pub returns-in-Ok : goal.returns-in-Ok
unfolding versioned_in
returns-in-Ok c =
    let bytes = c.args.bytes.now in
    let head = head_of c.in_ok-head.head in
    let word : (fixed_field fixed_word (codes "XGCERT") space).read (length bytes) bytes ≡ Ok (tt, c.word.new.self.left) = search rules in
    let version : version_field.read (length bytes) c.word.new.self.left ≡ Ok (c.in_ok-version.version, c.version.new.self.left) = search rules in
    let numbers : (head_lines_of c.in_ok-version.version).read (length bytes) c.version.new.self.left ≡ Ok (head, c.head_lines.new.reader.left) =
    search rules in
    let asked : read_asked (nat_lt 0 head.rounds) (bounds_lines head) (length bytes) c.head_lines.new.reader.left
    ≡ Ok (bounds_where_given c.if-head-eq0.bounds, c.if-head-eq0.reader.left) =
    elim c.if-head-eq0.branch [ then-head-eq0 w ↦ search rules | else-head-eq0+in_ok-bounds_lines w ↦ search rules ] in
    let total : c.if-head-eq0.reader.total ≡ length bytes =
    elim c.if-head-eq0.branch [ then-head-eq0 w ↦ search rules | else-head-eq0+in_ok-bounds_lines w ↦ search rules ] in
    let last : text_read (last_lines c.in_ok-version.version head) (length bytes) c.if-head-eq0.reader.left ≡ Ok (second_where_given c.in-Ok.second, tt) =
    subst (λ (t : ℕ). text_read (last_lines c.in_ok-version.version head) t c.if-head-eq0.reader.left ≡ Ok (second_where_given c.in-Ok.second, tt)) total
    c.in-Ok.ensures in
    lines_read (length bytes) bytes _ _ _ _ _ head _ _ word version numbers asked last

pub invariant_of-result : goal.invariant_of-result
unfolding versioned_in
invariant_of-result c =
    let bytes = c.args.bytes.now in
    let head = head_of c.in_ok-head.head in
    let word : (fixed_field fixed_word (codes "XGCERT") space).read (length bytes) bytes ≡ Ok (tt, c.word.new.self.left) = search rules in
    let version : version_field.read (length bytes) c.word.new.self.left ≡ Ok (c.in_ok-version.version, c.version.new.self.left) = search rules in
    let numbers : (head_lines_of c.in_ok-version.version).read (length bytes) c.version.new.self.left ≡ Ok (head, c.head_lines.new.reader.left) =
    search rules in
    let asked : read_asked (nat_lt 0 head.rounds) (bounds_lines head) (length bytes) c.head_lines.new.reader.left
    ≡ Ok (bounds_where_given c.if-head-eq0.bounds, c.if-head-eq0.reader.left) =
    elim c.if-head-eq0.branch [ then-head-eq0 w ↦ search rules | else-head-eq0+in_ok-bounds_lines w ↦ search rules ] in
    let total : c.if-head-eq0.reader.total ≡ length bytes =
    elim c.if-head-eq0.branch [ then-head-eq0 w ↦ search rules | else-head-eq0+in_ok-bounds_lines w ↦ search rules ] in
    let last : text_read (last_lines c.in_ok-version.version head) (length bytes) c.if-head-eq0.reader.left ≡ Ok (second_where_given c.in-Ok.second, tt) =
    subst (λ (t : ℕ). text_read (last_lines c.in_ok-version.version head) t c.if-head-eq0.reader.left ≡ Ok (second_where_given c.in-Ok.second, tt)) total
    c.in-Ok.ensures in
    let read = lines_read (length bytes) bytes _ _ _ _ _ head _ _ word version numbers asked last in
    ((versioned_reading bytes _).0 read).0
