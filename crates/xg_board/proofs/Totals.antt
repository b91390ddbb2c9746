-- A stripe's totals are added place by place.
use Rattle.std.proofs.Common.{◌≡◌, ◌≢◌, ℕ, ◌+◌, ◌*◌, ◌<◌, ◌==◌, ◌&&◌, eqb, Bool, true, false, if◌then◌else◌, nat_lt, List, length, get_or, set, refl, sym, ap}
use Rattle.std.proofs.Common.{◌∙◌, subst, arith, ℤ, pos, ◌+ℤ◌}
use Rattle.std.proofs.lemmas.Bool.Decides.{nat_tests}
use Rattle.std.proofs.lemmas.List.{get_or-set_same, get_or-set_other, length-set}
use Rattle.std.proofs.Math.IntN.{+ℤ_idr}
use Rattle.def_history.specs.History.{place_of, replay, stripe_of}
use Rattle.def_history.specs.Packets.{place_count}
use Rattle.def_history.proofs.Ends.{each_row_once}
use Rattle.def_history.proofs.Packets.{stripes_hold_their_rows}
use Rattle.xg_rowcore.specs.Stripes.{StripeHistory}
use Rattle.xg_board.specs.Closing.{share_of, share_below, AddsTotals, AddsTotalsBelow}

-- a row's share is nothing or its replay
abbrev share : ℤ → Bool → ℤ
share whole b = if b then whole else pos 0

share_none : (whole : ℤ) (b : Bool) → share whole (b && false) ≡ pos 0
share_none whole true = refl
share_none whole false = refl

-- before the first place nothing is added
pub none_added : (amount : ℕ → ℕ → ℤ) (h : StripeHistory) (rows : List ℤ) → AddsTotalsBelow amount h 0 rows rows
none_added amount h rows = record {
  same = refl;
  each = λ row below. sym (+ℤ_idr (get_or rows row (pos 0))) ∙ ap (λ v. get_or rows row (pos 0) +ℤ v) (sym (none row));
}
  where
    none : (row : ℕ) → share_below amount h 0 row ≡ pos 0
    none row =
        let no : nat_lt (place_of h.stripes row) 0 ≡ false = grind (arith, nat_tests) in
        ap (λ t. share (replay amount h.order row) ((stripe_of h.stripes row == h.index) && t)) no
        ∙ share_none (replay amount h.order row) (stripe_of h.stripes row == h.index)

lt_more : (q p : ℕ) → q ≢ p → nat_lt q p ≡ nat_lt q (p + 1)
lt_more q p other = grind (arith, nat_tests)

-- a place more leaves every other row's share
other_share : (amount : ℕ → ℕ → ℤ) (h : StripeHistory) (place row : ℕ) → h.index < h.stripes
    → row ≢ place * h.stripes + h.index
    → share_below amount h place row ≡ share_below amount h (place + 1) row
other_share amount h place row inside other = by_case (stripe_of h.stripes row == h.index) refl
  where
    by_case : (b : Bool) → (stripe_of h.stripes row == h.index) ≡ b
        → share (replay amount h.order row) (b && nat_lt (place_of h.stripes row) place)
        ≡ share (replay amount h.order row) (b && nat_lt (place_of h.stripes row) (place + 1))
    by_case false e = refl
    by_case true e =
        let here : stripe_of h.stripes row ≡ h.index = grind (arith, nat_tests) in
        let there = (each_row_once h.stripes row (omega arith)).there in
        ap (share (replay amount h.order row)) (lt_more (place_of h.stripes row) place
        (λ at. other (sym there ∙ ap (λ q. q * h.stripes + stripe_of h.stripes row) at ∙ ap (λ s. place * h.stripes + s) here)))

-- the share of the row at a place: nothing before it, and then the replay
share_before : (amount : ℕ → ℕ → ℤ) (h : StripeHistory) (place row : ℕ) → place_of h.stripes row ≡ place
    → share_below amount h place row ≡ pos 0
share_before amount h place row at =
    let no : nat_lt (place_of h.stripes row) place ≡ false = grind (arith, nat_tests) in
    ap (λ t. share (replay amount h.order row) ((stripe_of h.stripes row == h.index) && t)) no
    ∙ share_none (replay amount h.order row) (stripe_of h.stripes row == h.index)

share_after : (amount : ℕ → ℕ → ℤ) (h : StripeHistory) (places row : ℕ) → stripe_of h.stripes row ≡ h.index
    → place_of h.stripes row < places
    → share_below amount h places row ≡ replay amount h.order row
share_after amount h places row here below =
    let yes : (stripe_of h.stripes row == h.index) ≡ true = grind (arith, nat_tests) in
    let less : nat_lt (place_of h.stripes row) places ≡ true = grind (arith, nat_tests) in
    ap (λ t. share (replay amount h.order row) (t && nat_lt (place_of h.stripes row) places)) yes ∙ ap (share (replay amount h.order row)) less

-- until its place comes, a row is as it was
pub before_total : (amount : ℕ → ℕ → ℤ) (h : StripeHistory) (place at : ℕ) (old now : List ℤ) → h.index < h.stripes
    → at ≡ place * h.stripes + h.index → at < length old → AddsTotalsBelow amount h place old now
    → get_or now at (pos 0) ≡ get_or old at (pos 0)
before_total amount h place at old now inside at_is at_below added =
    let alone = (each_row_once h.stripes at (omega arith)).alone h.index place inside (sym at_is) in
    added.each at at_below ∙ ap (λ v. get_or old at (pos 0) +ℤ v) (share_before amount h place at (sym alone.1)) ∙ +ℤ_idr (get_or old at (pos 0))

-- the total at a place is added to its row
pub total_added : (amount : ℕ → ℕ → ℤ) (h : StripeHistory) (place at : ℕ) (old now : List ℤ) (total : ℤ)
    → h.index < h.stripes
    → at ≡ place * h.stripes + h.index → at < length now → total ≡ replay amount h.order at
    → AddsTotalsBelow amount h place old now
    → AddsTotalsBelow amount h (place + 1) old (set now at (get_or now at (pos 0) +ℤ total))
total_added amount h place at old now total inside at_is at_below total_is added = record {
  same = length-set now at (get_or now at (pos 0) +ℤ total) ∙ added.same;
  each = λ row below. by_row row below (eqb row at) refl;
}
  where
    by_row : (row : ℕ) → row < length old → (b : Bool) → eqb row at ≡ b
        → get_or (set now at (get_or now at (pos 0) +ℤ total)) row (pos 0)
        ≡ get_or old row (pos 0) +ℤ share_below amount h (place + 1) row
    by_row row below false e =
        let other : row ≢ at = grind (arith, nat_tests) in
        get_or-set_other now at row (get_or now at (pos 0) +ℤ total) (pos 0) other ∙ added.each row below
        ∙ ap (λ v. get_or old row (pos 0) +ℤ v) (other_share amount h place row inside (λ is. other (is ∙ sym at_is)))
    by_row row below true e =
        let is : row ≡ at = grind (arith, nat_tests) in
        let alone = (each_row_once h.stripes row (omega arith)).alone h.index place inside (sym at_is ∙ sym is) in
        ap (λ k. get_or (set now at (get_or now at (pos 0) +ℤ total)) k (pos 0)) is
        ∙ get_or-set_same now at (get_or now at (pos 0) +ℤ total) (pos 0) at_below
        ∙ ap (λ k. get_or now k (pos 0) +ℤ total) (sym is)
        ∙ ap (λ v. v +ℤ total) (added.each row below ∙ ap (λ v. get_or old row (pos 0) +ℤ v) (share_before amount h place row (sym alone.1)) ∙ +ℤ_idr
        (get_or old row (pos 0)))
        ∙ ap (λ v. get_or old row (pos 0) +ℤ v) (total_is ∙ ap (replay amount h.order) (sym is) ∙ sym
        (share_after amount h (place + 1) row (sym alone.0) (let q = alone.1 in omega arith)))

-- after the last place all totals are
pub all_added : (amount : ℕ → ℕ → ℤ) (h : StripeHistory) (places rows : ℕ) (old now : List ℤ) → h.index < h.stripes
    → length old ≡ rows
    → places ≡ place_count h.stripes rows h.index → AddsTotalsBelow amount h places old now → AddsTotals amount h old now
all_added amount h places rows old now inside rows_is places_is added = record {
  same = added.same;
  each = λ row below. added.each row below ∙ ap (λ v. get_or old row (pos 0) +ℤ v) (whole row below);
}
  where
    whole : (row : ℕ) → row < length old → share_below amount h places row ≡ share_of amount h row
    whole row below = by_case (stripe_of h.stripes row == h.index) refl
      where
        by_case : (b : Bool) → (stripe_of h.stripes row == h.index) ≡ b
            → share (replay amount h.order row) (b && nat_lt (place_of h.stripes row) places)
            ≡ share (replay amount h.order row) b
        by_case false e = refl
        by_case true e =
            let here : stripe_of h.stripes row ≡ h.index = grind (arith, nat_tests) in
            let there = (each_row_once h.stripes row (omega arith)).there in
            let at : place_of h.stripes row * h.stripes + h.index ≡ row = ap (λ s. place_of h.stripes row * h.stripes + s) (sym here) ∙ there in
            let inside_rows : place_of h.stripes row * h.stripes + h.index < rows = subst (λ n. n < rows) (sym at) (subst (λ n. row < n) rows_is below) in
            let less = (stripes_hold_their_rows h.stripes rows h.index (place_of h.stripes row) inside).1 inside_rows in
            let yes : nat_lt (place_of h.stripes row) places ≡ true = grind (arith, nat_tests) in
            ap (share (replay amount h.order row)) yes
