-- What the code's values stand for, and what one step does to the rows.
use Rattle.std.specs.Prelude.{◌≡◌, ℕ, ◌≤◌, ◌==◌, List, ℤ, pos, ◌+ℤ◌, unsigned_abs}
use Rattle.std.specs.Prelude.{slice_index_or, if◌then◌else◌}
use Rattle.def_reply.specs.Reply as reply
use Rattle.def_reply.specs.Reply.{Reply}
use Rattle.xg_plan.specs.Reply.{set_replies}
use Rattle.xg_check.specs.declared.parts.SetReply.{SetReply}

abbrev pub reply_of : SetReply → reply.SetReply
reply_of r = record { value = r.value; choice = r.choice }

-- a reply of this total, with the values and the choices of the sets in turn
abbrev pub printed_reply : ℤ → List ℤ → List ℕ → Reply
printed_reply total values choices = record { total = total; sets = set_replies values choices }

-- the number of a row, and 0 past the last one
abbrev pub row : List ℤ → ℕ → ℤ
row rows s = slice_index_or rows s (pos 0)

-- a number was added at one place
abbrev pub AddsAt : List ℤ → List ℤ → ℕ → ℤ → Type 0
AddsAt before now k x = (s : ℕ) → row now s ≡ row before s +ℤ (if k == s then x else pos 0)

abbrev pub AreAllWithin : ℕ → List ℤ → Type 0
AreAllWithin most rows = (s : ℕ) → unsigned_abs (row rows s) ≤ most
