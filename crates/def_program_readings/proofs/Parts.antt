-- Which games words play, and what is said of each.
use Rattle.std.proofs.Common.{◌≡◌, ℕ, ◌+◌, List, [], ◌∷◌, ◌++◌, length, map, Option, Some, None, refl, sym, ap, ◌∙◌, subst}
use Rattle.std.specs.Prelude.{IsSomeAnd}
use Rattle.std.specs.Io.KnownBytes.{append_known}
use Rattle.def_outside.specs.Calls.{SinkCall}
use Rattle.def_cert_verdict.specs.Certificate.{PrintedBounds}
use Rattle.def_cert_versions.specs.Verdict.{in_version_two}
use Rattle.def_check.specs.Accepted.{IsAccepted}
use Rattle.def_plus.specs.declared.Variant.{Variant}
use Rattle.def_plus.specs.declared.Variant.TheVariants.{Plain, Plus}
use Rattle.def_command.specs.declared.Settings.{Settings}
use Rattle.def_cert_accepted.specs.Bounds.{BoundsHold}
use Rattle.def_program.specs.Bounds.{IsPartOf, PlayedPart, WroteBounds, game_bounds, written_alone}
use Rattle.def_program.specs.Text.{game_head, text_of_variant}
use Rattle.def_program_readings.specs.Parts.{IsAlone, IsAmong, IsWritten, PartsAreOfTheirCommands, PartsAreRead}

-- what is told has the property, where it has it of these
pub told_and : {X : Type 0} (o : Option X) (x : X) (P : X → Type 0) → o ≡ Some x → P x → IsSomeAnd o P
told_and o x P is p = subst (λ k. IsSomeAnd k P) (sym is) p

pub and_told : {X : Type 0} (o : Option X) (x : X) (P : X → Type 0) → o ≡ Some x → IsSomeAnd o P → P x
and_told o x P is p = subst (λ k. IsSomeAnd k P) is p

none_and : {X : Type 0} (o : Option X) (P : X → Type 0) → o ≡ None → IsSomeAnd o P → ⊥
none_and o P is p = subst (λ k. IsSomeAnd k P) is p

no_bytes : (xs : List ℕ) → length xs ≡ 0 → xs ≡ []
no_bytes [] is = refl
no_bytes (x ∷ xs) is = cc

same_contents : (xs ys : List (List ℕ)) → ◌≡◌ {A = List (Option (List ℕ))} (map Some xs) (map Some ys) → xs ≡ ys
same_contents [] [] is = refl
same_contents [] (y ∷ ys) is = cc
same_contents (x ∷ xs) [] is = cc
same_contents (x ∷ xs) (y ∷ ys) is = let rest : xs ≡ ys = same_contents xs ys (cc) in cc

module _ (part : PlayedPart) where
  alone : (variant : Variant) (asked : Settings) → part ≡ written_alone variant part.game asked → IsAlone variant asked part
  alone variant asked is = record {
    by = ap (λ (p : PlayedPart). p.variant) is;
    with_these = ap (λ (p : PlayedPart). p.settings) is;
    none_before = ap (λ (p : PlayedPart). length p.front) is;
    none_behind = ap (λ (p : PlayedPart). length p.back) is;
  }

  is_alone : (variant : Variant) (asked : Settings) → IsAlone variant asked part → part ≡ written_alone variant part.game asked
  is_alone variant asked h =
      let front = no_bytes part.front h.none_before in
      let back = no_bytes part.back h.none_behind in
      λ i. record { variant = h.by i; game = part.game; settings = h.with_these i; front = front i; back = back i }

  module _ (asked : Settings) (contents : List (List ℕ)) where
    among : IsPartOf asked contents part → IsAmong asked contents part
    among h = record {
      before = h.before;
      behind = h.behind;
      items = h.items;
      by = ap (λ (p : PlayedPart). p.variant) h.is;
      with_these = ap (λ (p : PlayedPart). p.settings) h.is;
      front = ap (λ (p : PlayedPart). p.front) h.is;
      back = ap (λ (p : PlayedPart). p.back) h.is;
    }

    is_among : IsAmong asked contents part → IsPartOf asked contents part
    is_among h = record {
      before = h.before;
      behind = h.behind;
      items = h.items;
      is = λ i. record { variant = h.by i; game = part.game; settings = h.with_these i; front = h.front i; back = h.back i };
    }

pub parts_of_commands : PartsAreOfTheirCommands
parts_of_commands told part = record {
  solve = λ file bytes asked rows known. (
    λ h. (and_told (told file) bytes (λ b. IsAccepted b part.game) known h.0, alone part Plain asked h.1),
    λ h. (told_and (told file) bytes (λ b. IsAccepted b part.game) known h.0, is_alone part Plain asked h.1),
  );
  plus = λ file bytes asked rows known. (
    λ h. (and_told (told file) bytes (λ b. IsAccepted b part.game) known h.0, alone part Plus asked h.1),
    λ h. (told_and (told file) bytes (λ b. IsAccepted b part.game) known h.0, is_alone part Plus asked h.1),
  );
  drill = λ cards asked rows. (
    λ h.
        let same = ap (λ (p : PlayedPart). p.game) h in
        (same, alone part Plain asked (h ∙ ap (λ game. written_alone Plain game asked) (sym same))),
    λ h. is_alone part Plain asked h.1 ∙ ap (λ game. written_alone Plain game asked) h.0,
  );
  batch = λ files contents asked workers known. (
    λ h. subst (λ cs. IsAmong asked cs part) (same_contents h.0 contents (sym h.1 ∙ known)) (among part asked h.0 h.2),
    λ h. (contents, known, is_among part asked contents h),
  );
  untold = λ file asked rows is h. none_and (told file) (λ b. IsAccepted b part.game) is h.0;
  check = λ file certificate h. h;
  upgrade = λ file certificate h. h;
  info = λ file h. h;
  gen = λ cards h. h;
  usage = λ h. h;
}

record There {X : Type 0} (o : Option X) (P : X → Type 0) : Type 0 where
  value : X
  is : o ≡ Some value
  holds : P value

some_and : {X : Type 0} (o : Option X) (P : X → Type 0) → IsSomeAnd o P → There o P
some_and None P h = absurd h
some_and (Some x) P h = record { value = x; is = refl; holds = h }

module _ (out : SinkCall) (part : PlayedPart) where
  -- the text with these bounds
  abbrev text_with : Option PrintedBounds → List ℕ
  text_with bs = text_of_variant part.variant (in_version_two (record { head = game_head part.game part.settings; bounds = bs }))

  abbrev whole : Option PrintedBounds → Option (List ℕ)
  whole bs = append_known out.before (part.front ++ (text_with bs ++ part.back))

  written : WroteBounds BoundsHold out part → IsWritten out part
  written h =
      let t = some_and (game_bounds part.variant part.game part.settings) _ h in
      record { bounds = t.value; are = t.is; hold = t.holds.1; wrote = t.holds.0 ∙ ap whole (sym t.is) }

  wrote : IsWritten out part → WroteBounds BoundsHold out part
  wrote h = told_and (game_bounds part.variant part.game part.settings) h.bounds _ h.are (h.wrote ∙ ap whole h.are, h.hold)

pub parts_read : PartsAreRead
parts_read words told out = (
  λ each part plays some. written out part (each part plays some),
  λ each part plays some. wrote out part (each part plays some),
)
