-- Reading lines or numbers one after another, as a loop does.
use Rattle.std.proofs.Common.{◌≡◌, ℕ, suc, ◌-◌, ◌+◌, ◌≤◌, ◌<◌, Bool, true, false, List, [], ◌∷◌, ◌++◌, Result, Ok, Err, refl, sym, ap, ◌∙◌, append_assoc, arith}
use Rattle.std.proofs.Common.{length, ℤ}
use Rattle.std.proofs.lemmas.List.{append-nil}
use Rattle.def_cert_text.specs.declared.fault.CertFault.{CertFault}
use Rattle.def_cert_text.specs.Fields.{◌>>=◌, feed}
use Rattle.def_cert_text.specs.Formats.{Format, whole_field, read_each, read_number, read_last, read_row}
use Rattle.def_reply.specs.Reply.{SetReply}
use Rattle.xg_plan.specs.Reply.{set_replies}
use Rattle.def_cert_text.proofs.FieldLaws.{ok_is}
use Rattle.xg_cert.specs.declared.refused.CertRefused.{CertRefused}
use Rattle.xg_cert.specs.declared.refused.CertRefused.TheVariants.{Cert, NoMemory}
use Rattle.xg_cert.specs.Answers.{Fails, behind_front}

regroup : {A : Type 0} (front : List A) (x : A) (read : Result (List A × List ℕ) CertFault)
    → behind_front front (read >>= λ xs. Ok (x ∷ xs.0, xs.1)) ≡ behind_front (front ++ x ∷ []) read
regroup front x (Ok xs) = ap (λ ys. Ok (ys, xs.1)) (sym (append_assoc front (x ∷ []) xs.0))
regroup front x (Err fault) = refl

-- one value more
pub each_goes_on : {A : Type 0} (f : ℕ → Format A) (front : List A) (count i total : ℕ) (bytes : List ℕ) (x : A)
    (left : List ℕ)
    (all : Result (List A × List ℕ) CertFault) → i < count → (f (i + 1)).read total bytes ≡ Ok (x, left)
    → behind_front front (read_each f (i + 1) (count - i) total bytes) ≡ all
    → behind_front (front ++ x ∷ []) (read_each f (i + 1 + 1) (count - (i + 1)) total left) ≡ all
unfolding read_each
each_goes_on f front count i total bytes x left all more one so_far =
    let k : count - i ≡ suc (count - (i + 1)) = omega arith in
    let step : behind_front front (read_each f (i + 1) (count - i) total bytes)
    ≡ behind_front (front ++ x ∷ []) (read_each f (i + 1 + 1) (count - (i + 1)) total left) = rw (k, one)
    (regroup front x (read_each f (i + 1 + 1) (count - (i + 1)) total left)) in
    sym step ∙ so_far

-- a fault on the way is the fault of all
pub each_fails : {A : Type 0} (f : ℕ → Format A) (refused : CertRefused) (front : List A) (count i total : ℕ)
    (bytes : List ℕ)
    (all : Result (List A × List ℕ) CertFault) → i < count → Fails refused ((f (i + 1)).read total bytes)
    → behind_front front (read_each f (i + 1) (count - i) total bytes) ≡ all → Fails refused all
unfolding read_each
each_fails f NoMemory front count i total bytes all more one so_far = tt
each_fails f (Cert fault) front count i total bytes all more one so_far =
    let k : count - i ≡ suc (count - (i + 1)) = omega arith in
    let step : behind_front front (read_each f (i + 1) (count - i) total bytes) ≡ Err fault = rw (k, one) refl in
    sym so_far ∙ step

-- where no value is left to read, all that is read is what is in front, and no more bytes are taken
pub each_done : {A : Type 0} (f : ℕ → Format A) (front : List A) (count i total : ℕ) (bytes : List ℕ)
    (all : Result (List A × List ℕ) CertFault) → count ≤ i
    → behind_front front (read_each f (i + 1) (count - i) total bytes) ≡ all
    → all ≡ Ok (front, bytes)
unfolding read_each
each_done f front count i total bytes all none so_far =
    let k : count - i ≡ 0 = omega arith in
    let end : behind_front front (read_each f (i + 1) (count - i) total bytes) ≡ Ok (front, bytes) = rw k (ap (λ xs. Ok (xs, bytes)) (append-nil front)) in
    sym so_far ∙ end

-- where each fault of a part is the fault of the whole, what refuses the part refuses the whole
pub refused_so : {X Y : Type 0} (refused : CertRefused) (part : Result X CertFault) (all : Result Y CertFault)
    → ((fault : CertFault) → part ≡ Err fault → all ≡ Err fault) → Fails refused part → Fails refused all
refused_so NoMemory part all so fails = tt
refused_so (Cert fault) part all so fails = so fault fails

-- ---- the numbers of a set
-- a number that isn't the last of its line joins the front, and behind it the rest of the row gives all that is read
pub row_goes_on : (most : ℕ) (front : List ℕ) (more i total : ℕ) (bytes : List ℕ) (n : ℕ) (last : Bool) (left : List ℕ)
    (all : Result (List ℕ × List ℕ) CertFault) → i < more → read_number 0 most total bytes ≡ Ok ((n, last), left)
    → last ≡ false
    → behind_front front (read_row most (more - i) total bytes) ≡ all
    → behind_front (front ++ n ∷ []) (read_row most (more - (i + 1)) total left) ≡ all
unfolding read_row
row_goes_on most front more i total bytes n last left all there one not_last so_far =
    let k : more - i ≡ suc (more - (i + 1)) = omega arith in
    let step : behind_front front (read_row most (more - i) total bytes) ≡ behind_front (front ++ n ∷ []) (read_row most (more - (i + 1)) total left) = rw
    (k, one, not_last) (regroup front n (read_row most (more - (i + 1)) total left)) in
    sym step ∙ so_far

-- a number that is the last of its line ends the row: all that is read is the front and this number
pub row_ends : (most : ℕ) (front : List ℕ) (more i total : ℕ) (bytes : List ℕ) (n : ℕ) (last : Bool) (left : List ℕ)
    (all : Result (List ℕ × List ℕ) CertFault) → i < more → read_number 0 most total bytes ≡ Ok ((n, last), left)
    → last ≡ true
    → behind_front front (read_row most (more - i) total bytes) ≡ all → all ≡ Ok (front ++ n ∷ [], left)
unfolding read_row
row_ends most front more i total bytes n last left all there one is_last so_far =
    let k : more - i ≡ suc (more - (i + 1)) = omega arith in
    let step : behind_front front (read_row most (more - i) total bytes) ≡ Ok (front ++ n ∷ [], left) = rw (k, one, is_last) refl in
    sym so_far ∙ step

-- a fault at a number of a row, behind which more may come, is the fault of the whole row
pub row_fails : (most : ℕ) (fault : CertFault) (front : List ℕ) (more i total : ℕ) (bytes : List ℕ)
    (all : Result (List ℕ × List ℕ) CertFault) → i < more → read_number 0 most total bytes ≡ Err fault
    → behind_front front (read_row most (more - i) total bytes) ≡ all → all ≡ Err fault
unfolding read_row
row_fails most fault front more i total bytes all there one so_far =
    let k : more - i ≡ suc (more - (i + 1)) = omega arith in
    let step : behind_front front (read_row most (more - i) total bytes) ≡ Err fault = rw (k, one) refl in
    sym so_far ∙ step

-- the last number that may come
pub row_last : (most : ℕ) (front : List ℕ) (more i total : ℕ) (bytes : List ℕ)
    (all : Result (List ℕ × List ℕ) CertFault)
    → more ≤ i → behind_front front (read_row most (more - i) total bytes) ≡ all
    → all ≡ behind_front front (read_last most total bytes)
unfolding read_row
row_last most front more i total bytes all full so_far =
    let k : more - i ≡ 0 = omega arith in
    let step : behind_front front (read_row most (more - i) total bytes) ≡ behind_front front (read_last most total bytes) = rw k refl in
    sym so_far ∙ step

-- a fault comes of what is read, not of what was there before
pub front_fails : {A : Type 0} (front : List A) (read : Result (List A × List ℕ) CertFault) (fault : CertFault)
    → behind_front front read ≡ Err fault → read ≡ Err fault
front_fails front (Ok x) fault e = cc
front_fails front (Err other) fault e = e

-- the number with which a line is full
pub last_gives : (most total : ℕ) (bytes : List ℕ) (n : ℕ) (left : List ℕ)
    → (whole_field 0 most feed).read total bytes ≡ Ok (n, left)
    → read_last most total bytes ≡ Ok (n ∷ [], left)
unfolding read_last
last_gives most total bytes n left one = rw one refl

-- a fault at the number with which a line is full is the fault of reading it as the last one
pub last_fails : (most total : ℕ) (bytes : List ℕ) (fault : CertFault)
    → (whole_field 0 most feed).read total bytes ≡ Err fault
    → read_last most total bytes ≡ Err fault
unfolding read_last
last_fails most total bytes fault one = rw one refl

-- what was put behind the values before
pub record IsPutBehind {A : Type 0} (front now : List A) (left : List ℕ) (read : Result (List A × List ℕ) CertFault) : Type 0 where
  pub values : List A
  pub are_read : read ≡ Ok (values, left)
  pub are_behind : now ≡ front ++ values

-- where a list is read behind a front, reading gives its part behind the front, and leaves the same bytes
pub put_behind : {A : Type 0} (front now : List A) (left : List ℕ) (read : Result (List A × List ℕ) CertFault)
    → behind_front front read ≡ Ok (now, left) → IsPutBehind front now left read
put_behind {A = A} front now left (Ok x) e =
    let both = ok_is (front ++ x.0, x.1) (now, left) e in
    let now_is : front ++ x.0 ≡ now = ap (λ (p : List A × List ℕ). p.0) both in
    let left_is : x.1 ≡ left = ap (λ (p : List A × List ℕ). p.1) both in
    record { values = x.0; are_read = ap (λ (bytes : List ℕ). Ok (x.0, bytes)) left_is; are_behind = sym now_is }
put_behind front now left (Err fault) e = absurd cc

-- a value and a choice more, side by side
pub set_replies-push : (values : List ℤ) (choices : List ℕ) (value : ℤ) (choice : ℕ) → length choices ≡ length values
    → set_replies (values ++ value ∷ []) (choices ++ choice ∷ [])
    ≡ set_replies values choices ++ record { value = value; choice = choice } ∷ []
set_replies-push [] [] value choice same = refl
set_replies-push [] (c ∷ cs) value choice same = absurd (omega arith)
set_replies-push (v ∷ vs) [] value choice same = absurd (omega arith)
set_replies-push (v ∷ vs) (c ∷ cs) value choice same = ap (λ (rs : List SetReply). record { value = v; choice = c } ∷ rs)
    (set_replies-push vs cs value choice (omega arith))
