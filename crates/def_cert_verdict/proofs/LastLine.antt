-- The last line of a trace.
use Rattle.std.proofs.Common.{◌≡◌, ℕ, ◌+◌, ◌-◌, ◌≤◌, List, [], ◌∷◌, length, get_or, take, pos, Some, ap, ◌∙◌, arith}
use Rattle.std.proofs.lemmas.Option.{none-some}
use Rattle.std.proofs.lemmas.List.{take_all}
use Rattle.def_reply.specs.Bracket.{BracketEnds, Evaluation, ends_of, trace, trace_line}
use Rattle.def_reply.proofs.TraceLines.{trace_lines}
use Rattle.def_cert_verdict.specs.Certificate.{last_line, no_line}

some_evaluation : (es : List Evaluation) (ends : BracketEnds) → ends_of es ≡ Some ends → 1 ≤ length es
some_evaluation [] ends are = absurd (none-some ends are)
some_evaluation (e ∷ es) ends are = omega arith

-- the last line has the ends of all evaluations
pub last_is : (es : List Evaluation) (ends : BracketEnds) → ends_of es ≡ Some ends
    → (r : ℕ) × (last_line (trace es) ≡ trace_line r ends)
last_is es ends are =
    let k : ℕ = length es - 1 in
    let some = some_evaluation es ends are in
    let none : Evaluation = record { round = 0; divisor = 0; low = pos 0; high = pos 0 } in
    let all : take (k + 1) es ≡ es = take_all (k + 1) es (omega arith) in
    let same : last_line (trace es) ≡ get_or (trace es) k no_line = ap (λ n. get_or (trace es) (n - 1) no_line) (trace_lines.count es) in
    ((get_or es k none).round, same ∙ trace_lines.each es k ends no_line none (omega arith) (ap ends_of all ∙ are))
