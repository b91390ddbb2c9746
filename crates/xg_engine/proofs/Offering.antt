-- The offers of the evaluated rounds, round by round.
use Rattle.std.proofs.Common.{◌≡◌, ℕ, ◌+◌, ◌-◌, ◌%◌, ◌<◌, ◌≤◌, Bool, true, false, cond, ◌||◌, eqb, eq-eqb, ne_eqb, List, [], ◌∷◌, ◌++◌, length}
use Rattle.std.proofs.Common.{map, filter, refl, ap, ◌∙◌, sym, arith, length-append}
use Rattle.std.specs.List.{range_with_len}
use Rattle.std.proofs.Math.Bool.{or-true}
use Rattle.std.proofs.lemmas.Bool.{true≢false}
use Rattle.std.proofs.lemmas.List.{length-map, map-append}
use Rattle.std.proofs.lemmas.List.Elements.{filter-append}
use Rattle.std.proofs.lemmas.List.Sums.{fold-append}
use Rattle.def_sums.proofs.Ranges.{range-append}
use Rattle.def_plan.specs.Form.{SequenceForm}
use Rattle.def_reply.specs.Bracket.{evaluated_rounds}
use Rattle.def_reply.specs.declared.TraceLine.{TraceLine}
use Rattle.def_reply.specs.Offers.{Board, KeptEnd, Offer, keep_lower, keep_upper, lower_of, upper_of, board_after, evaluation_of_offer, new_board, offered}
use Rattle.def_reply.proofs.KeptEnds.{offers_are_traced}
use Rattle.def_reply.proofs.TraceLines.{trace_lines}
use Rattle.def_run.specs.Run.{offer_in}
use Rattle.def_plus.specs.declared.Variant.{Variant}
use Rattle.def_plus.specs.Variants.{rounds_of}
use Rattle.def_plus_run.specs.VariantRun.{run_of}
use Rattle.xg_bracket.specs.Board.{last_round}
use Rattle.xg_engine.specs.Evaluations.{best_offer, offers_upto}
use Rattle.def_command.specs.declared.Settings.{Settings}

module _ (p : ℕ → Bool) where
  kept_more : (n : ℕ)
      → filter p (range_with_len 1 (n + 1)) ≡ filter p (range_with_len 1 n) ++ cond (p (n + 1)) ((n + 1) ∷ []) []
  kept_more n =
      ap (filter p) (range-append 1 n 1) ∙ filter-append p (range_with_len 1 n) (range_with_len (1 + n) 1)
      ∙ ap (λ k. filter p (range_with_len 1 n) ++ cond (p k) (k ∷ []) []) (omega arith)

  kept_fewer : (m n : ℕ) → m ≤ n → length (filter p (range_with_len 1 m)) ≤ length (filter p (range_with_len 1 n))
  kept_fewer m n le =
      let all : filter p (range_with_len 1 n) ≡ filter p (range_with_len 1 m) ++ filter p (range_with_len (1 + m) (n - m)) =
      ap (λ k. filter p (range_with_len 1 k)) (omega (arith, le)) ∙ ap (filter p) (range-append 1 m (n - m))
      ∙ filter-append p (range_with_len 1 m) (range_with_len (1 + m) (n - m)) in
      omega (arith, ap length all, length-append (filter p (range_with_len 1 m)) (filter p (range_with_len (1 + m) (n - m))))

module _ (variant : Variant) (form : SequenceForm) (settings : Settings) where
  abbrev offer_at : ℕ → Offer
  offer_at round = offer_in form (run_of variant form settings.scale) round

  abbrev pub is_due : ℕ → Bool
  is_due j = eqb (j % settings.every) 0 || eqb j settings.rounds

  abbrev due : ℕ → List ℕ
  due n = filter is_due (range_with_len 1 n)

  -- after an evaluated round there is one offer more
  pub offers_more : (n : ℕ) → is_due (n + 1) ≡ true
      → offers_upto variant form settings (n + 1) ≡ offers_upto variant form settings n ++ offer_at (n + 1) ∷ []
  offers_more n now =
      ap (map offer_at) (kept_more is_due n ∙ ap (λ b. due n ++ cond b ((n + 1) ∷ []) []) now)
      ∙ map-append offer_at (due n) ((n + 1) ∷ [])

  -- a round that `every` divides is evaluated
  pub due_in_turn : (n : ℕ) → (n + 1) % settings.every ≡ 0 → is_due (n + 1) ≡ eqb ((n + 1) % settings.every) 0
  due_in_turn n e =
      let yes = eq-eqb ((n + 1) % settings.every) 0 e in
      ap (λ b. b || eqb (n + 1) settings.rounds) yes ∙ sym yes

  -- and another one if it is the last
  pub due_at_last : (n : ℕ) → ¬ ((n + 1) % settings.every ≡ 0) → is_due (n + 1) ≡ eqb (n + 1) settings.rounds
  due_at_last n ne = ap (λ b. b || eqb (n + 1) settings.rounds) (ne_eqb ((n + 1) % settings.every) 0 ne)

  -- behind a round that isn't evaluated there is another one
  pub one_more : (n : ℕ) → n < settings.rounds → is_due (n + 1) ≡ false → n + 1 < settings.rounds
  one_more n next none =
      let ne : ¬ (n + 1 ≡ settings.rounds) = λ e. true≢false (sym (last e) ∙ none) in
      omega (arith, next, ne)
    where
      last : n + 1 ≡ settings.rounds → is_due (n + 1) ≡ true
      last e =
          ap (λ b. eqb ((n + 1) % settings.every) 0 || b) (eq-eqb (n + 1) settings.rounds e) ∙ or-true (eqb ((n + 1) % settings.every) 0)

  nothing_more : {A : Type 0} (xs : List A) → xs ++ [] ≡ xs
  nothing_more [] = refl
  nothing_more (x ∷ xs) = ap (λ ys. x ∷ ys) (nothing_more xs)

  -- and after any other round as many
  pub offers_same : (n : ℕ) → is_due (n + 1) ≡ false → offers_upto variant form settings (n + 1) ≡ offers_upto variant form settings n
  offers_same n now =
      ap (map offer_at) (kept_more is_due n ∙ ap (λ b. due n ++ cond b ((n + 1) ∷ []) []) now ∙ nothing_more (due n))

  -- the board of one offer more
  pub board_more : (n : ℕ) → is_due (n + 1) ≡ true
      → board_after (offers_upto variant form settings (n + 1))
      ≡ offered (board_after (offers_upto variant form settings n)) (offer_at (n + 1))
  board_more n now =
      ap board_after (offers_more n now)
      ∙ fold-append offered new_board (offers_upto variant form settings n) (offer_at (n + 1) ∷ [])

  length-offers : (n : ℕ) → length (board_after (offers_upto variant form settings n)).trace ≡ length (due n)
  length-offers n =
      let os : List Offer = offers_upto variant form settings n in
      ap length (offers_are_traced os) ∙ trace_lines.count (map evaluation_of_offer os)
      ∙ length-map os evaluation_of_offer ∙ length-map (due n) offer_at

  -- before an evaluated round there are fewer lines than evaluated rounds in all
  pub room_for_more : (n : ℕ) → n < settings.rounds → is_due (n + 1) ≡ true
      → length (board_after (offers_upto variant form settings n)).trace < length (evaluated_rounds settings.every settings.rounds)
  room_for_more n low now =
      let grown = ap length (kept_more is_due n ∙ ap (λ b. due n ++ cond b ((n + 1) ∷ []) []) now) in
      omega (
        arith,
        length-offers n,
        grown,
        length-append (due n) ((n + 1) ∷ []),
        kept_fewer is_due (n + 1) settings.rounds (omega (arith, low)),
      )

-- the last line's round is that of the last offer
pub last_of_more : (lines : List TraceLine) (line : TraceLine) → last_round (lines ++ line ∷ []) ≡ line.round
last_of_more [] line = refl
last_of_more (x ∷ []) line = refl
last_of_more (x ∷ y ∷ lines) line = last_of_more (y ∷ lines) line

-- one evaluation more
module _ (variant : Variant) (form : SequenceForm) (settings : Settings) (n : ℕ) (one two : List ℕ) (before after : Board)
    (are_one : one ≡ (rounds_of variant form settings.scale (n + 1)).sum_one)
    (are_two : two ≡ (rounds_of variant form settings.scale (n + 1)).sum_two)
    (is_before : before ≡ board_after (offers_upto variant form settings n))
    (is_after : after ≡ offered before (best_offer variant form (n + 1) one two)) where
  -- after an evaluated round the board with its best offer is that of all offers up to it
  pub evaluated_once_more : is_due variant form settings (n + 1) ≡ true
      → after ≡ board_after (offers_upto variant form settings (n + 1))
  evaluated_once_more now =
      is_after ∙ (λ i. offered (is_before i) (best_offer variant form (n + 1) (are_one i) (are_two i)))
      ∙ sym (board_more variant form settings n now)

  -- the last line of the board with the new offer is of no later round than this one
  pub last_is_now : last_round after.trace ≤ n + 1
  last_is_now =
      let board : Board = offered before (best_offer variant form (n + 1) one two) in
      omega (arith, ap (λ (b : Board). last_round b.trace) is_after, last_of_more before.trace (last_line_of before))
    where
      last_line_of : Board → TraceLine
      last_line_of b =
          let offer : Offer = best_offer variant form (n + 1) one two in
          let lower : KeptEnd = keep_lower b.lower (lower_of offer) in
          let upper : KeptEnd = keep_upper b.upper (upper_of offer) in
          record { round = n + 1; low_round = lower.round; low = lower.reply.total; high_round = upper.round; high = upper.reply.total }
