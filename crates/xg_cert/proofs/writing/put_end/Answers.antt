use Rattle.std.proofs.Common.{◌≡◌, ℕ, List, [], ◌∷◌, codes, Err, Ok, rules}
use Rattle.std.specs.Fmt.{decimal, signed_decimal}
use Rattle.std.specs.Io.KnownBytes.{append_known}
use Rattle.def_outside.specs.Sinks.{AppendsPrefix}
use Rattle.def_reply.specs.Reply.{Reply}
use Rattle.def_cert_verdict.specs.Certificate.{PrintedPlan}
use Rattle.def_cert_text.specs.Fields.{space, feed, fixed_word, number, TextItem, field, separator, items_text}
use Rattle.def_cert_text.specs.Formats.{each_items}
use Rattle.def_cert_text.specs.CertText.{value_line, weights_line}
use Rattle.xg_io.proofs.Pieces.{prefix_first, prefix_then, then_rest}
use Rattle.xg_cert.specs.Printed.{plan_in, reply_in}
use Rattle.xg_cert.specs.Writable.{plan_text, reply_text}
use Rattle.xg_cert.proofs.Written.{items_first, then_items}
use Rattle.xg_cert.proofs.writing.put_end.Goals as goal

-- the first lines
abbrev plan_start : List ℕ → PrintedPlan → List TextItem
plan_start digit plan = field fixed_word (codes "plan") ∷ separator space ∷ field fixed_word digit ∷ separator space
    ∷ field number (decimal plan.root) ∷ separator feed ∷ []

abbrev reply_start : List ℕ → Reply → List TextItem
reply_start digit reply = field fixed_word (codes "reply") ∷ separator space ∷ field fixed_word digit ∷ separator space
    ∷ field number (signed_decimal reply.total) ∷ separator feed ∷ []

pub returns-in_err-put_items-clause-text : goal.returns-in_err-put_items-clause-text
returns-in_err-put_items-clause-text g c =
    let plan = plan_in c.args.player (g.B.Bounds.printed c.args.bounds.now) in
    let reply = reply_in c.args.other (g.B.Bounds.printed c.args.bounds.now) in
    let before = g.O.Sink.written c.args.out.now in
    let headed = g.O.Sink.written c.put_items.new.out in
    let start : AppendsPrefix before headed (items_text (plan_start c.args.digit.now plan)) =
    search (rules, c.in_err-put_items.ensures.text, c.root.ensures) in
    let fact = prefix_first before headed (plan_text c.args.digit.now plan) (reply_text c.args.reply_digit.now reply)
    (items_first before headed (plan_start c.args.digit.now plan) (each_items weights_line 1 plan.weights) start) in
    search (rules, fact)

pub returns-in_err-put_weights-clause-text : goal.returns-in_err-put_weights-clause-text
returns-in_err-put_weights-clause-text g c =
    let plan = plan_in c.args.player (g.B.Bounds.printed c.args.bounds.now) in
    let reply = reply_in c.args.other (g.B.Bounds.printed c.args.bounds.now) in
    let before = g.O.Sink.written c.args.out.now in
    let headed = g.O.Sink.written c.put_items.new.out in
    let planned = g.O.Sink.written c.put_weights.new.out in
    let start : headed ≡ append_known before (items_text (plan_start c.args.digit.now plan)) =
    search (rules, c.in_ok-put_items.ensures.text, c.root.ensures) in
    let front : AppendsPrefix before planned (plan_text c.args.digit.now plan) =
    then_items {T = Unit {0}} {E = Unit {0}} before headed planned (plan_start c.args.digit.now plan) (each_items weights_line 1 plan.weights) (Err tt) start
    c.in_err-put_weights.ensures.text in
    let fact = prefix_first before planned (plan_text c.args.digit.now plan) (reply_text c.args.reply_digit.now reply) front in
    search (rules, fact)

pub returns-in_err-put_items-2-clause-text : goal.returns-in_err-put_items-2-clause-text
returns-in_err-put_items-2-clause-text g c =
    let plan = plan_in c.args.player (g.B.Bounds.printed c.args.bounds.now) in
    let reply = reply_in c.args.other (g.B.Bounds.printed c.args.bounds.now) in
    let before = g.O.Sink.written c.args.out.now in
    let headed = g.O.Sink.written c.put_items.new.out in
    let planned = g.O.Sink.written c.put_weights.new.out in
    let now = g.O.Sink.written c.put_items-2.new.out in
    let start : headed ≡ append_known before (items_text (plan_start c.args.digit.now plan)) =
    search (rules, c.in_ok-put_items.ensures.text, c.root.ensures) in
    let front : planned ≡ append_known before (plan_text c.args.digit.now plan) =
    then_items {T = Unit {0}} {E = Unit {0}} before headed planned (plan_start c.args.digit.now plan) (each_items weights_line 1 plan.weights) (Ok tt) start
    c.in_ok-put_weights.ensures.text in
    let line : AppendsPrefix planned now (items_text (reply_start c.args.reply_digit.now reply)) =
    search (rules, c.in_err-put_items-2.ensures.text, c.total.ensures) in
    let fact = prefix_then before planned now (plan_text c.args.digit.now plan) (reply_text c.args.reply_digit.now reply) front
    (items_first planned now (reply_start c.args.reply_digit.now reply) (each_items value_line 1 reply.sets) line) in
    search (rules, fact)

pub returns-clause-text : goal.returns-clause-text
returns-clause-text g c =
    let plan = plan_in c.args.player (g.B.Bounds.printed c.args.bounds.now) in
    let reply = reply_in c.args.other (g.B.Bounds.printed c.args.bounds.now) in
    let before = g.O.Sink.written c.args.out.now in
    let headed = g.O.Sink.written c.put_items.new.out in
    let planned = g.O.Sink.written c.put_weights.new.out in
    let replied = g.O.Sink.written c.put_items-2.new.out in
    let now = g.O.Sink.written c.put_values.new.out in
    let start : headed ≡ append_known before (items_text (plan_start c.args.digit.now plan)) =
    search (rules, c.in_ok-put_items.ensures.text, c.root.ensures) in
    let front : planned ≡ append_known before (plan_text c.args.digit.now plan) =
    then_items {T = Unit {0}} {E = Unit {0}} before headed planned (plan_start c.args.digit.now plan) (each_items weights_line 1 plan.weights) (Ok tt) start
    c.in_ok-put_weights.ensures.text in
    let line : replied ≡ append_known planned (items_text (reply_start c.args.reply_digit.now reply)) =
    search (rules, c.in_ok-put_items-2.ensures.text, c.total.ensures) in
    then_rest before planned now (plan_text c.args.digit.now plan) (reply_text c.args.reply_digit.now reply) c.put_values.result front
    (then_items planned replied now (reply_start c.args.reply_digit.now reply) (each_items value_line 1 reply.sets) c.put_values.result line
    c.put_values.ensures.text)
