-- A pass over the sets from the last one on: the replies from a set on, and the worths that these alone make.
use Rattle.std.proofs.Common.{◌≡◌, ℕ, zero, suc, ◌+◌, ◌-◌, ◌^◌, ◌<◌, ◌≤◌, cond, eqb, List, [], ◌∷◌, length, get_or, drop, map, zip, filter, ℤ, pos, ◌+ℤ◌}
use Rattle.std.proofs.Common.{unsigned_abs, refl, ap, sym, subst, ◌∙◌, arith, drop-cons, ⊎_elim, ne_eqb}
use Rattle.std.specs.List.{range_with_len}
use Rattle.std.proofs.Math.ListN.{set}
use Rattle.std.proofs.lemmas.Bool.{cases_eq, eq-eqb}
use Rattle.std.proofs.lemmas.List.{drop_all, drop-set, ext_get_or, get_or-set_other, get_or-set_same, length-set}
use Rattle.std.proofs.lemmas.List.FromFn.{get_or-map-range_with_len, length-map-range_with_len}
use Rattle.def_tree.specs.declared.Player.{Player}
use Rattle.def_sums.specs.Sum.{nat_sum_over}
use Rattle.def_sums.proofs.RingLaws.{+ℤ-zero, unsigned_abs-+ℤ}
use Rattle.def_sums.proofs.SumLaws.{unsigned_abs-sum_over}
use Rattle.def_sums.proofs.Ranges.{map-range_same}
use Rattle.def_plan.specs.Form.{AreInOrder, InformationSet, PlacedSet, placed, sequence_count, sequences}
use Rattle.def_plan.specs.Payoff.{values_after, worth}
use Rattle.def_plan.proofs.BadSets.{length-placed}
use Rattle.def_plan.proofs.Hanging.{hanging_size, kept}
use Rattle.def_plan.proofs.Worths.{worth-cons}
use Rattle.def_reply.specs.Reply.{Reply, SetReply, best_of, best_reply, first_with, replies_at, total, values_of}
use Rattle.def_reply.proofs.ReplySizes.{worths-below}
use Rattle.xg_reply.specs.Replies.{placed_set, reply_by, reply_to_sums}
use Rattle.xg_reply.proofs.PlacedSets.{in_order, sequences_there}
use Rattle.def_plan.specs.FormRows.{amount_of}

abbrev sizes : (ℕ → ℤ) → List ℕ → ℕ
sizes f ss = nat_sum_over (λ s. unsigned_abs (f s)) ss

sizes_from : (f : ℕ → ℤ) (a : ℕ) (rows : List ℤ) → ((i : ℕ) → i < length rows → f (a + i) ≡ get_or rows i (pos 0))
    → sizes f (range_with_len a (length rows)) ≡ nat_sum_over unsigned_abs rows
sizes_from f a [] same = refl
sizes_from f a (row ∷ rows) same =
    let here : a ≡ a + 0 = omega arith in
    let later : (i : ℕ) → i < length rows → f (a + 1 + i) ≡ get_or rows i (pos 0) =
    λ i low. ap f (omega arith) ∙ same (suc i) (omega arith) in
    ap (λ x. unsigned_abs x + sizes f (range_with_len (a + 1) (length rows))) (ap f here ∙ same 0 (omega arith))
    ∙ ap (λ n. unsigned_abs row + n) (sizes_from f (a + 1) rows later)

-- the rows have the sizes of their sequences' amounts
pub sizes_of_rows : (sets : List InformationSet) (rows : List ℤ) → length rows ≡ sequence_count sets
    → nat_sum_over (λ s. unsigned_abs (amount_of rows s)) (sequences sets) ≡ nat_sum_over unsigned_abs rows
sizes_of_rows sets rows many =
    ap (λ n. sizes (amount_of rows) (range_with_len 0 n)) (sym many)
    ∙ sizes_from (amount_of rows) 0 rows (λ i low. ap (amount_of rows) (omega arith))

-- the values after a sequence, with the best reply at these sets
abbrev after_best : Player → (ℕ → ℤ) → ℕ → List PlacedSet → ℕ
after_best player sums s hs = hanging_size s (zip hs (values_of (replies_at player sums hs)))

-- fewer sets have no more of them
after-drop : (player : Player) (sums : ℕ → ℤ) (s m : ℕ) (hs : List PlacedSet)
    → after_best player sums s (drop m hs) ≤ after_best player sums s hs
after-drop player sums s zero hs = omega arith
after-drop player sums s (suc m) [] = omega arith
after-drop player sums s (suc m) (h ∷ hs) =
    let vs : List ℤ = values_of (replies_at player sums hs) in
    let value : ℤ = (reply_by player (worth sums hs vs) h).value in
    omega (
      arith,
      after-drop player sums s m hs,
      kept (eqb h.before s) (h, value) (filter (λ p. eqb p.0.before s) (zip hs vs)),
    )

-- a reply depends on the worths of the set's sequences alone
reply_by-same : (player : Player) (v w : ℕ → ℤ) (h : PlacedSet)
    → ((s : ℕ) → h.first ≤ s → s < h.first + h.actions → v s ≡ w s) → reply_by player v h ≡ reply_by player w h
reply_by-same player v w h same =
    let reply : List ℤ → SetReply =
    λ (ws : List ℤ). record { value = best_of player ws; choice = first_with (best_of player ws) ws } in
    ap reply (map-range_same v w h.first h.actions same)

module _ (player : Player) (sums : ℕ → ℤ) (sets : List InformationSet) where
  -- the replies at the sets from place k on, and what sequences are worth by them
  abbrev pub replies_from : ℕ → List SetReply
  replies_from k = replies_at player sums (drop k (placed sets))

  abbrev pub worth_from : ℕ → ℕ → ℤ
  worth_from k s = worth sums (drop k (placed sets)) (values_of (replies_from k)) s

  -- the sets from place k on have their replies, and all sequences their worths by these
  pub record HasPassed (k : ℕ) (ws : List ℤ) (rs : List SetReply) : Type 0 where
    pub many : length ws ≡ sequence_count sets
    pub all_sets : length rs ≡ length sets
    pub worths : (s : ℕ) → s < sequence_count sets → amount_of ws s ≡ worth_from k s
    pub replies : drop k rs ≡ replies_from k

  -- before the pass
  pub passed-none : (k : ℕ) (ws : List ℤ) (rs : List SetReply) → k ≡ length sets → length ws ≡ sequence_count sets
      → length rs ≡ length sets → ((s : ℕ) → s < sequence_count sets → amount_of ws s ≡ sums s) → HasPassed k ws rs
  passed-none k ws rs last many all_sets same =
      let none : drop k (placed sets) ≡ [] = drop_all k (placed sets) (omega (arith, length-placed 1 sets)) in
      let by_none : (s : ℕ) → worth_from k s ≡ sums s =
      λ s. ap (λ hs. worth sums hs (values_of (replies_at player sums hs)) s) none ∙ +ℤ-zero (sums s) in
      record {
        many = many;
        all_sets = all_sets;
        worths = λ s low. same s low ∙ sym (by_none s);
        replies = drop_all k rs (omega (arith, all_sets)) ∙ sym (ap (replies_at player sums) none);
      }

  -- after it
  module _ (k : ℕ) (done : k ≤ 0) (ws : List ℤ) (rs : List SetReply) (p : HasPassed k ws rs) where
    abbrev full : ℕ → ℤ
    full s = worth sums (placed sets) (values_of (best_reply player sums sets)) s

    first : k ≡ 0
    first = omega arith

    replies_are_best : rs ≡ best_reply player sums sets
    replies_are_best = subst (λ n. drop n rs ≡ replies_from n) first p.replies

    worths_are : (s : ℕ) → s < sequence_count sets → amount_of ws s ≡ full s
    worths_are s low = subst (λ n. amount_of ws s ≡ worth_from n s) first (p.worths s low)

    -- the replies with the worth of the empty sequence are the whole reply
    pub passed-reply : (q : Reply) → q.total ≡ amount_of ws 0 → q.sets ≡ rs → q ≡ reply_to_sums player sums sets
    passed-reply q total_is sets_are =
        let totals : q.total ≡ total sums sets (best_reply player sums sets) = total_is ∙ worths_are 0 (omega arith) in
        let replies : q.sets ≡ best_reply player sums sets = sets_are ∙ replies_are_best in
        λ i. record { total = totals i; sets = replies i }

    -- and the worths are those by all values
    pub passed-worths : (qs : List SetReply) → qs ≡ rs
        → ws ≡ map (worth sums (placed sets) (values_of qs)) (sequences sets)
    passed-worths qs same =
        let count : ℕ = sequence_count sets in
        let at : (s : ℕ) → s < count → get_or (map full (sequences sets)) s (pos 0) ≡ full s =
        λ s low. get_or-map-range_with_len full 0 count s s (pos 0) low (omega arith) in
        ext_get_or (pos 0) ws (map full (sequences sets)) (p.many ∙ sym (length-map-range_with_len full 0 count))
        (λ s low. worths_are s (omega (arith, p.many)) ∙ sym (at s (omega (arith, p.many))))
        ∙ ap (λ ps. map (worth sums (placed sets) (values_of ps)) (sequences sets)) (sym (same ∙ replies_are_best))

  -- no worth on the way is larger than the sums together
  worth_small : AreInOrder sets → sizes sums (sequences sets) ≤ 2 ^ 98 → (k s : ℕ) → s < sequence_count sets
      → unsigned_abs (worth_from k s) < 2 ^ 127
  worth_small order small k s low =
      let hs : List PlacedSet = drop k (placed sets) in
      let vs : List ℤ = values_of (replies_from k) in
      omega (
        arith,
        unsigned_abs-+ℤ (sums s) (values_after hs vs s),
        unsigned_abs-sum_over (λ (p : PlacedSet × ℤ). p.1) (filter (λ p. eqb p.0.before s) (zip hs vs)),
        after-drop player sums s k (placed sets),
        worths-below player sums sets s order low,
        small,
      )

  -- one set more
  module _ (order : AreInOrder sets) (k : ℕ) (some : 0 < k) (within : k ≤ length sets) where
    abbrev m : ℕ
    m = k - 1

    abbrev h : PlacedSet
    h = placed_set sets (k - 1 + 1)

    is_k : m + 1 ≡ k
    is_k = omega arith

    until : h.first + h.actions ≤ sequence_count sets
    until = sequences_there sets (k - 1 + 1) (omega arith) (omega arith)

    earlier : h.before < h.first
    earlier = (in_order sets (k - 1 + 1) (omega arith) (omega arith) order).1

    rest : drop m (placed sets) ≡ h ∷ drop k (placed sets)
    rest =
        let none : PlacedSet = record { first = 0; before = 0; actions = 0 } in
        let low : m < length (placed sets) = omega (arith, length-placed 1 sets) in
        let index : k - 1 + 1 - 1 ≡ m = omega arith in
        let next : suc m ≡ k = omega arith in
        drop-cons (placed sets) m none low
        ∙ ap (λ j. get_or (placed sets) j none ∷ drop (suc m) (placed sets)) (sym index)
        ∙ ap (λ j. h ∷ drop j (placed sets)) next

    module _ (ws : List ℤ) (rs : List SetReply) (p : HasPassed k ws rs) where
      abbrev r : SetReply
      r = reply_by player (amount_of ws) h

      r_is : r ≡ reply_by player (worth_from k) h
      r_is = reply_by-same player (amount_of ws) (worth_from k) h (λ s low high. p.worths s (omega (arith, until)))

      replies_are : replies_from m ≡ r ∷ replies_from k
      replies_are = ap (replies_at player sums) rest ∙ ap (λ q. q ∷ replies_from k) (sym r_is)

      worth_is : (s : ℕ) → worth_from m s ≡ cond (eqb h.before s) (worth_from k s +ℤ r.value) (worth_from k s)
      worth_is s =
          let value : ℤ = (reply_by player (worth_from k) h).value in
          ap (λ hs. worth sums hs (values_of (replies_at player sums hs)) s) rest
          ∙ worth-cons sums h (drop k (placed sets)) value (values_of (replies_from k)) s
          ∙ ap (λ (q : SetReply). cond (eqb h.before s) (worth_from k s +ℤ q.value) (worth_from k s)) (sym r_is)

      before_more : worth_from m h.before ≡ amount_of ws h.before +ℤ r.value
      before_more =
          let old : ℤ = worth_from k h.before in
          worth_is h.before ∙ ap (λ b. cond b (old +ℤ r.value) old) (eq-eqb h.before h.before refl)
          ∙ ap (λ x. x +ℤ r.value) (sym (p.worths h.before (omega (arith, until, earlier))))

      -- the sum that the set makes is small
      pub sum_small : nat_sum_over (λ s. unsigned_abs (sums s)) (sequences sets) ≤ 2 ^ 98
          → unsigned_abs (amount_of ws h.before +ℤ r.value) < 2 ^ 127
      sum_small small =
          subst (λ z. unsigned_abs z < 2 ^ 127) before_more
          (worth_small order small m h.before (omega (arith, until, earlier)))

      -- the set has its reply, and the sequence before it the value
      pub passed-more : (ws' : List ℤ) (rs' : List SetReply) → ws' ≡ set ws h.before (amount_of ws h.before +ℤ r.value)
          → rs' ≡ set rs (k - 1 + 1 - 1) r → HasPassed (k - 1) ws' rs'
      passed-more ws' rs' put_worth put_reply =
          let low : h.before < length ws = omega (arith, p.many, until, earlier) in
          let index : k - 1 + 1 - 1 ≡ m = omega arith in
          record {
            many = ap length put_worth ∙ length-set ws h.before _ ∙ p.many;
            all_sets = ap length put_reply ∙ length-set rs (k - 1 + 1 - 1) r ∙ p.all_sets;
            worths = λ s there.
                ⊎_elim
                (λ same.
                ap (λ t. amount_of ws' t) (sym same) ∙ ap (λ xs. amount_of xs h.before) put_worth
                ∙ get_or-set_same ws h.before _ (pos 0) low ∙ sym before_more ∙ ap (worth_from m) same)
                (λ differs.
                let old : ℤ = worth_from k s in
                ap (λ xs. amount_of xs s) put_worth
                ∙ get_or-set_other ws h.before s _ (pos 0) (λ e. differs (sym e)) ∙ p.worths s there
                ∙ sym (worth_is s ∙ ap (λ b. cond b (old +ℤ r.value) old) (ne_eqb h.before s differs)))
                (cases_eq h.before s);
            replies =
                ap (drop m) put_reply ∙ ap (λ j. drop m (set rs j r)) index
                ∙ drop-set rs m r (omega (arith, p.all_sets)) ∙ ap (λ j. r ∷ drop j rs) is_k
                ∙ ap (λ xs. r ∷ xs) p.replies ∙ sym replies_are;
          }
