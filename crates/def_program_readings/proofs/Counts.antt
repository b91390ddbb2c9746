-- Counts, and lines that were said.
use Rattle.std.proofs.Common.{◌≡◌, inl, inr, ℕ, List, take, Some, sym, ap, ◌∙◌, arith}
use Rattle.std.specs.Io.KnownBytes.{append_known}
use Rattle.def_outside.specs.Calls.{Says, SinkCall, cut_off, in_whole}
use Rattle.def_program_readings.specs.Counts.{CountsAreRead, IsSaid, OpensAreRead, SaidLinesAreRead}

pub counts : CountsAreRead
counts = record {
  rose = λ before now few. (λ h. omega (arith, h.0, h.1), λ less. (omega arith, omega arith));
  once = λ before now few. (λ h. omega (arith, h.0, h.1), λ is. (omega arith, omega arith));
  last = λ now. (λ h. h.0, λ le. (le, omega arith));
  once_at_last = λ now. (λ h. omega (arith, h.0, h.1), λ is. (omega arith, omega arith));
  may = λ before now. (λ h. h, λ h. h);
  failed_once = λ before now. (λ h. h, λ h. h);
  failed = λ before now. (λ h. h, λ h. h);
  none = λ before now. (λ h. h, λ h. h);
}

pub opens : OpensAreRead
opens files count = (λ h. h, λ h. h)

module _ (sink : SinkCall) (line before : List ℕ) (is : sink.before ≡ Some before) where
  said : Says sink line → IsSaid sink line before
  said (in_whole none wrote) = inl (wrote ∙ ap (λ known. append_known known line) is, none)
  said (cut_off once cut) = inr (record {
    count = cut.count;
    wrote = cut.appended ∙ ap (λ known. append_known known (take cut.count line)) is;
    rest = cut.rest;
    some_left = cut.some_left;
    failed = once;
  })

  says : IsSaid sink line before → Says sink line
  says (inl whole) = in_whole whole.1 (whole.0 ∙ ap (λ known. append_known known line) (sym is))
  says (inr front) = cut_off front.failed (record {
    count = front.count;
    appended = front.wrote ∙ ap (λ known. append_known known (take front.count line)) (sym is);
    rest = front.rest;
    some_left = front.some_left;
  })

pub said_lines : SaidLinesAreRead
said_lines sink line before is = (said sink line before is, says sink line before is)
