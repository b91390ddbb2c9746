use Rattle.std.proofs.Common.{◌≡◌, ℕ, List, ◌++◌, codes, IfSome, Ok, rules, subst, sym}
use Rattle.std.specs.Io.KnownBytes.{append_known}
use Rattle.def_fraction.specs.Fraction.{Fraction}
use Rattle.def_outside.specs.Sinks.{AppendsPrefix, Writes}
use Rattle.def_reply.specs.declared.TraceLine.{TraceLine}
use Rattle.def_cert_verdict.specs.Certificate.{PrintedBounds}
use Rattle.def_cert_text.specs.Fields.{items_text}
use Rattle.def_cert_text.specs.Formats.{each_items, text_of}
use Rattle.def_cert_text.specs.CertText.{bracket_line, line_of_round, second_text}
use Rattle.def_cert_versions.specs.Verdict.{second_bracket}
use Rattle.xg_io.proofs.Pieces.{prefix_first, prefix_then, then_rest}
use Rattle.xg_outcome.specs.Outcome.{head_of}
use Rattle.xg_cert.specs.Writable.{IsWholeEnd, LeavesSecond, end_text, ends_text}
use Rattle.xg_cert.proofs.writing.put_below.Goals as goal

-- the parts of the text
abbrev rows_text : PrintedBounds → List ℕ
rows_text b = items_text (each_items line_of_round 1 b.trace)

abbrev lower_text : PrintedBounds → List ℕ
lower_text b = end_text (codes "1") (codes "2") b.plan_one b.reply_two

abbrev upper_text : PrintedBounds → List ℕ
upper_text b = end_text (codes "2") (codes "1") b.plan_two b.reply_one

abbrev bracket_text : PrintedBounds → List ℕ
bracket_text b = text_of bracket_line (b.low, b.high)

pub second_end-second_low-requires-clause-end : goal.second_end-second_low-requires-clause-end
second_end-second_low-requires-clause-end g c =
    let b = g.B.Bounds.printed c.in-Some.bounds.now in
    let leaves : LeavesSecond (head_of c.args.head.now) b = (subst (λ o. IfSome o (λ b. g.B.Bounds.can_write b.now × LeavesSecond (head_of c.args.head.now)
    (g.B.Bounds.printed b.now))) c.in-Some.is c.requires).1 in
    subst (λ (root : ℕ). IsWholeEnd c.args.head.now.unit root c.bracket-low.result.1) (sym c.root.ensures)
    (subst (λ (end : Fraction). IsWholeEnd c.args.head.now.unit b.plan_two.root end) (sym c.bracket-low.ensures.high) leaves.high)

pub second_end-second_high-requires-clause-end : goal.second_end-second_high-requires-clause-end
second_end-second_high-requires-clause-end g c =
    let b = g.B.Bounds.printed c.in-Some.bounds.now in
    let leaves : LeavesSecond (head_of c.args.head.now) b = (subst (λ o. IfSome o (λ b. g.B.Bounds.can_write b.now × LeavesSecond (head_of c.args.head.now)
    (g.B.Bounds.printed b.now))) c.in-Some.is c.requires).1 in
    subst (λ (root : ℕ). IsWholeEnd c.args.head.now.unit root c.bracket-low.result.0) (sym c.root-2.ensures)
    (subst (λ (end : Fraction). IsWholeEnd c.args.head.now.unit b.plan_one.root end) (sym c.bracket-low.ensures.low) leaves.low)

pub returns-in_err-put_trace-clause-text : goal.returns-in_err-put_trace-clause-text
returns-in_err-put_trace-clause-text g c =
    let b = g.B.Bounds.printed c.in-Some.bounds.now in
    let before = g.O.Sink.written c.args.out.now in
    let trace = g.O.Sink.written c.put_trace.new.out in
    let second = second_text (second_bracket c.args.head.now.sum b) in
    let rows : AppendsPrefix before trace (rows_text b) =
    subst (λ (rows : List TraceLine). AppendsPrefix before trace (items_text (each_items line_of_round 1 rows))) c.trace.ensures
    c.in_err-put_trace.ensures.text in
    let fact = prefix_first before trace (ends_text b) second
    (prefix_first before trace (rows_text b) (lower_text b ++ (upper_text b ++ bracket_text b)) rows) in
    search (rules, fact)

pub returns-in_err-put_end-clause-text : goal.returns-in_err-put_end-clause-text
returns-in_err-put_end-clause-text g c =
    let b = g.B.Bounds.printed c.in-Some.bounds.now in
    let before = g.O.Sink.written c.args.out.now in
    let trace = g.O.Sink.written c.put_trace.new.out in
    let second = second_text (second_bracket c.args.head.now.sum b) in
    let rows : trace ≡ append_known before (rows_text b) =
    subst (λ (rows : List TraceLine). trace ≡ append_known before (items_text (each_items line_of_round 1 rows))) c.trace.ensures
    c.in_ok-put_trace.ensures.text in
    let lower = g.O.Sink.written c.put_end.new.out in
    let fact = prefix_first before lower (ends_text b) second
    (prefix_then before trace lower (rows_text b) (lower_text b ++ (upper_text b ++ bracket_text b)) rows
    (prefix_first trace lower (lower_text b) (upper_text b ++ bracket_text b) c.in_err-put_end.ensures.text)) in
    search (rules, fact)

pub returns-in_err-put_end-2-clause-text : goal.returns-in_err-put_end-2-clause-text
returns-in_err-put_end-2-clause-text g c =
    let b = g.B.Bounds.printed c.in-Some.bounds.now in
    let before = g.O.Sink.written c.args.out.now in
    let trace = g.O.Sink.written c.put_trace.new.out in
    let second = second_text (second_bracket c.args.head.now.sum b) in
    let rows : trace ≡ append_known before (rows_text b) =
    subst (λ (rows : List TraceLine). trace ≡ append_known before (items_text (each_items line_of_round 1 rows))) c.trace.ensures
    c.in_ok-put_trace.ensures.text in
    let lower = g.O.Sink.written c.put_end.new.out in
    let upper = g.O.Sink.written c.put_end-2.new.out in
    let fact = prefix_first before upper (ends_text b) second
    (prefix_then before trace upper (rows_text b) (lower_text b ++ (upper_text b ++ bracket_text b)) rows
    (prefix_then trace lower upper (lower_text b) (upper_text b ++ bracket_text b) c.in_ok-put_end.ensures.text
    (prefix_first lower upper (upper_text b) (bracket_text b) c.in_err-put_end-2.ensures.text))) in
    search (rules, fact)

pub returns-in_err-put_ends_line-clause-text : goal.returns-in_err-put_ends_line-clause-text
returns-in_err-put_ends_line-clause-text g c =
    let b = g.B.Bounds.printed c.in-Some.bounds.now in
    let before = g.O.Sink.written c.args.out.now in
    let trace = g.O.Sink.written c.put_trace.new.out in
    let second = second_text (second_bracket c.args.head.now.sum b) in
    let rows : trace ≡ append_known before (rows_text b) =
    subst (λ (rows : List TraceLine). trace ≡ append_known before (items_text (each_items line_of_round 1 rows))) c.trace.ensures
    c.in_ok-put_trace.ensures.text in
    let lower = g.O.Sink.written c.put_end.new.out in
    let upper = g.O.Sink.written c.put_end-2.new.out in
    let now = g.O.Sink.written c.put_ends_line.new.out in
    let bracket : AppendsPrefix upper now (bracket_text b) = search (
      rules,
      c.in_err-put_ends_line.ensures.text,
      c.bracket-low.ensures.low,
      c.bracket-low.ensures.high,
    ) in
    let fact = prefix_first before now (ends_text b) second
    (prefix_then before trace now (rows_text b) (lower_text b ++ (upper_text b ++ bracket_text b)) rows
    (prefix_then trace lower now (lower_text b) (upper_text b ++ bracket_text b) c.in_ok-put_end.ensures.text
    (prefix_then lower upper now (upper_text b) (bracket_text b) c.in_ok-put_end-2.ensures.text bracket))) in
    search (rules, fact)

pub returns-clause-text : goal.returns-clause-text
returns-clause-text g c =
    let b = g.B.Bounds.printed c.in-Some.bounds.now in
    let before = g.O.Sink.written c.args.out.now in
    let trace = g.O.Sink.written c.put_trace.new.out in
    let second = second_text (second_bracket c.args.head.now.sum b) in
    let rows : trace ≡ append_known before (rows_text b) =
    subst (λ (rows : List TraceLine). trace ≡ append_known before (items_text (each_items line_of_round 1 rows))) c.trace.ensures
    c.in_ok-put_trace.ensures.text in
    let lower = g.O.Sink.written c.put_end.new.out in
    let upper = g.O.Sink.written c.put_end-2.new.out in
    let bracket = g.O.Sink.written c.put_ends_line.new.out in
    let now = g.O.Sink.written c.put_ends_line-2.new.out in
    let whole : Writes {T = Unit {0}} {E = Unit {0}} upper bracket (bracket_text b) (Ok tt) = search (
      rules,
      c.in_ok-put_ends_line.ensures.text,
      c.bracket-low.ensures.low,
      c.bracket-low.ensures.high,
    ) in
    let ends : bracket ≡ append_known before (ends_text b) =
    then_rest {T = Unit {0}} {E = Unit {0}} before trace bracket (rows_text b) (lower_text b ++ (upper_text b ++ bracket_text b)) (Ok tt) rows
    (then_rest {T = Unit {0}} {E = Unit {0}} trace lower bracket (lower_text b) (upper_text b ++ bracket_text b) (Ok tt) c.in_ok-put_end.ensures.text
    (then_rest {T = Unit {0}} {E = Unit {0}} lower upper bracket (upper_text b) (bracket_text b) (Ok tt) c.in_ok-put_end-2.ensures.text whole)) in
    let line : Writes bracket now second c.put_ends_line-2.result = search (rules, c.put_ends_line-2.ensures.text) in
    let fact = then_rest before bracket now (ends_text b) second c.put_ends_line-2.result ends line in
    search (rules, fact)
