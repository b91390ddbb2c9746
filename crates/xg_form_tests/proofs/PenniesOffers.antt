-- Offers in matching pennies.
use Rattle.std.proofs.Common.{◌≡◌, ℕ, ◌+◌, ◌≤◌, List, [], ◌∷◌, ◌++◌, negsuc, pos, refl, sym, subst, arith}
use Rattle.std.proofs.lemmas.List.Elements.{All-cons, All-nil}
use Rattle.def_plan.specs.Form.{IsInOrder, PlacedSet}
use Rattle.def_plan.specs.Pennies.{one_set, pennies}
use Rattle.def_plan.specs.Plan.{AddsUp, IsPlan}
use Rattle.def_plus.specs.declared.Variant.{Variant}
use Rattle.def_plus.specs.declared.Variant.TheVariants.{Plain, Plus}
use Rattle.def_reply.specs.Offers.{Board, IsFair, KeptEnd, Offer, keep_lower, keep_upper, lower_of, offered, upper_of}
use Rattle.def_reply.specs.Reply.{Reply}
use Rattle.def_reply.specs.declared.TraceLine.{TraceLine}
use Rattle.xg_bracket.specs.Board.{MayBeOffered, SizedBoard, last_round, offer_of, sizes_of}

abbrev h : PlacedSet
h = record { first = 1; before = 0; actions = 2 }

plan_of : (root a b : ℕ) → 1 ≤ root → a + (b + 0) ≡ root → IsPlan one_set root (root ∷ a ∷ b ∷ [])
plan_of root a b some adds = record {
  all_sequences = refl;
  some_root = some;
  root_weight = refl;
  each_set = All-cons (AddsUp (root ∷ a ∷ b ∷ [])) h [] adds (All-nil (AddsUp (root ∷ a ∷ b ∷ [])));
}

-- the last of some lines and one more is that one
last_of_more : (lines : List TraceLine) (line : TraceLine) → last_round (lines ++ line ∷ []) ≡ line.round
last_of_more [] line = refl
last_of_more (first ∷ []) line = refl
last_of_more (first ∷ second ∷ lines) line = last_of_more (second ∷ lines) line

-- the line of an offer
abbrev line_after : Board → Offer → TraceLine
line_after board offer =
    let lower : KeptEnd = keep_lower board.lower (lower_of offer) in
    let upper : KeptEnd = keep_upper board.upper (upper_of offer) in
    record { round = offer.round; low_round = lower.round; low = lower.reply.total; high_round = upper.round; high = upper.reply.total }

-- after an offer the last line is its own
pub last_is_offered : (board : Board) (offer : Offer) → last_round (offered board offer).trace ≡ offer.round
last_is_offered board offer = last_of_more board.trace (line_after board offer)

-- after round 1 both players have chosen their second actions
abbrev pub first_offer : Variant → Offer
first_offer variant =
    offer_of variant 1 (1 ∷ 0 ∷ 1 ∷ []) (1 ∷ 0 ∷ 1 ∷ [])
    (record { total = negsuc 0; sets = record { value = negsuc 0; choice = 1 } ∷ [] })
    (record { total = pos 1; sets = record { value = pos 1; choice = 2 } ∷ [] })

-- player two chose the first action in round 2, and each round weighs 1
abbrev pub second_offer : Variant → Offer
second_offer variant =
    offer_of variant 2 (2 ∷ 0 ∷ 2 ∷ []) (2 ∷ 1 ∷ 1 ∷ [])
    (record { total = negsuc 1; sets = record { value = negsuc 1; choice = 1 } ∷ [] })
    (record { total = pos 0; sets = record { value = pos 0; choice = 1 } ∷ [] })

-- after round 3 of which each weighs its number, player one's first action weighs 1
abbrev pub third_offer : Variant → Offer
third_offer variant =
    offer_of variant 3 (6 ∷ 1 ∷ 5 ∷ []) (6 ∷ 0 ∷ 6 ∷ [])
    (record { total = negsuc 3; sets = record { value = negsuc 3; choice = 1 } ∷ [] })
    (record { total = pos 6; sets = record { value = pos 6; choice = 2 } ∷ [] })

-- after round 8 of which each weighs its number, the first actions weigh 6 and 3
abbrev pub eighth_offer : Variant → Offer
eighth_offer variant =
    offer_of variant 8 (36 ∷ 6 ∷ 30 ∷ []) (36 ∷ 3 ∷ 33 ∷ [])
    (record { total = negsuc 23; sets = record { value = negsuc 23; choice = 1 } ∷ [] })
    (record { total = pos 30; sets = record { value = pos 30; choice = 2 } ∷ [] })

-- after plain rounds the first offer is fair before any round, and the second one after round 1
pub first_fair : IsFair pennies 0 (first_offer Plain)
first_fair = record {
  scale = 1;
  later = omega arith;
  few_rounds = omega arith;
  some_divisor = omega arith;
  small_divisor = omega arith;
  some_scale = omega arith;
  small_root = omega arith;
  plan_one = plan_of 1 0 1 (omega arith) refl;
  plan_two = plan_of 1 0 1 (omega arith) refl;
  against_one = refl;
  against_two = refl;
}

pub second_fair : IsFair pennies 1 (second_offer Plain)
second_fair = record {
  scale = 1;
  later = omega arith;
  few_rounds = omega arith;
  some_divisor = omega arith;
  small_divisor = omega arith;
  some_scale = omega arith;
  small_root = omega arith;
  plan_one = plan_of 2 0 2 (omega arith) refl;
  plan_two = plan_of 2 1 1 (omega arith) refl;
  against_one = refl;
  against_two = refl;
}

-- after rounds of CFR+ the offers of rounds 1, 3 and 8 are fair one after the other
pub first_plus_fair : IsFair pennies 0 (first_offer Plus)
first_plus_fair = record {
  scale = 1;
  later = omega arith;
  few_rounds = omega arith;
  some_divisor = omega arith;
  small_divisor = omega arith;
  some_scale = omega arith;
  small_root = omega arith;
  plan_one = plan_of 1 0 1 (omega arith) refl;
  plan_two = plan_of 1 0 1 (omega arith) refl;
  against_one = refl;
  against_two = refl;
}

pub third_fair : IsFair pennies 1 (third_offer Plus)
third_fair = record {
  scale = 1;
  later = omega arith;
  few_rounds = omega arith;
  some_divisor = omega arith;
  small_divisor = omega arith;
  some_scale = omega arith;
  small_root = omega arith;
  plan_one = plan_of 6 1 5 (omega arith) refl;
  plan_two = plan_of 6 0 6 (omega arith) refl;
  against_one = refl;
  against_two = refl;
}

pub eighth_fair : IsFair pennies 3 (eighth_offer Plus)
eighth_fair = record {
  scale = 1;
  later = omega arith;
  few_rounds = omega arith;
  some_divisor = omega arith;
  small_divisor = omega arith;
  some_scale = omega arith;
  small_root = omega arith;
  plan_one = plan_of 36 6 30 (omega arith) refl;
  plan_two = plan_of 36 3 33 (omega arith) refl;
  against_one = refl;
  against_two = refl;
}

-- a board for matching pennies and a variant takes an offer that is fair for it
pub may_offer : (board : SizedBoard) (variant : Variant) (last : ℕ) (offer : Variant → Offer)
    → board.variant ≡ variant → board.sizes ≡ sizes_of pennies → last_round board.board.trace ≡ last
    → IsFair pennies last (offer variant) → MayBeOffered board (offer board.variant)
may_offer board variant last offer variant_is sizes last_is fair = record {
  form = pennies;
  sizes = sym sizes;
  order_one = All-cons IsInOrder h [] (omega arith, omega arith) (All-nil IsInOrder);
  order_two = All-cons IsInOrder h [] (omega arith, omega arith) (All-nil IsInOrder);
  mass = omega arith;
  fair =
      subst (λ k. IsFair pennies k (offer board.variant)) (sym last_is)
      (subst (λ v. IsFair pennies last (offer v)) (sym variant_is) fair);
}

-- a board takes an offer of the same plans and replies
pub may_offer_same : {board : SizedBoard} {round : ℕ} {one two plan_one plan_two : List ℕ} {to_one to_two reply_one reply_two : Reply}
    → one ≡ plan_one → two ≡ plan_two → to_one ≡ reply_one → to_two ≡ reply_two
    → MayBeOffered board (offer_of board.variant round plan_one plan_two reply_one reply_two)
    → MayBeOffered board (offer_of board.variant round one two to_one to_two)
may_offer_same {board} {round} is_one is_two is_to_one is_to_two may =
    subst (MayBeOffered board) (sym {A = Offer} (λ i. offer_of board.variant round (is_one i) (is_two i) (is_to_one i) (is_to_two i))) may
