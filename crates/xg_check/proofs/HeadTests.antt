-- The tests of the head, where all pass.
use Rattle.std.proofs.Common.{◌≡◌, Bool, true, false, ◌&&◌, eqb, List, ◌∷◌, length, Option, None, refl}
use Rattle.std.proofs.lemmas.Bool.Decides.{Decides-and, Decides-eqb}
use Rattle.def_tree.specs.declared.Player.{Player}
use Rattle.def_tree.specs.declared.Player.TheVariants.{One, Two}
use Rattle.def_plan.specs.Form.{player_sets}
use Rattle.def_plan.specs.Weighed.{WeighedGame}
use Rattle.def_reply.specs.Outcome.{Head}
use Rattle.def_cert_verdict.specs.declared.fault.TestFault.{TestFault}
use Rattle.def_cert_verdict.specs.declared.fault.TestFault.TheVariants.{HeadDiffers}
use Rattle.def_cert_verdict.specs.Verdict.{first_failing, unless}
use Rattle.def_cert_text.specs.declared.version.TextVersion.{TextVersion}
use Rattle.def_cert_text.specs.declared.version.TextVersion.TheVariants as versions
use Rattle.def_cert_versions.specs.Verdict.{head_tests_of}
use Rattle.xg_cert.specs.Printed.{set_count_in}
use Rattle.xg_check.specs.Parts.{HasSetCountsOf}

second_holds : (a b : Bool) (f g : TestFault) (tests : List (Option TestFault))
    → first_failing (unless a f ∷ unless b g ∷ tests) ≡ None → b ≡ true
second_holds true true f g tests e = refl
second_holds true false f g tests e = absurd cc
second_holds false b f g tests e = absurd cc

-- the sets are told in the second line that is tested
counts : (game : WeighedGame) (head : Head) (a : Bool) (f : TestFault) (tests : List (Option TestFault))
    → first_failing (unless a f
    ∷ unless (eqb head.sets_one (length game.form.sets_one) && eqb head.sets_two (length game.form.sets_two)) (HeadDiffers 3)
    ∷ tests) ≡ None → HasSetCountsOf game head
counts game head a f tests e player =
    let holds = second_holds a (eqb head.sets_one (length game.form.sets_one) && eqb head.sets_two (length game.form.sets_two)) f (HeadDiffers 3) tests e in
    let both = (Decides-and (eqb head.sets_one (length game.form.sets_one)) (eqb head.sets_two (length game.form.sets_two))
    (Decides-eqb head.sets_one (length game.form.sets_one)) (Decides-eqb head.sets_two (length game.form.sets_two))).0 holds in
    by player both.0 both.1
  where
    by : (player : Player) → head.sets_one ≡ length game.form.sets_one → head.sets_two ≡ length game.form.sets_two
        → set_count_in player head ≡ length (player_sets game.form player)
    by One one two = one
    by Two one two = two

-- and so the head has the game's numbers of sets in both versions
pub sets_are : (v : TextVersion) (game : WeighedGame) (head : Head) → first_failing (head_tests_of v game head) ≡ None
    → HasSetCountsOf game head
sets_are versions.One game head e = counts game head _ (HeadDiffers 2) _ e
sets_are versions.Two game head e = counts game head _ (HeadDiffers 2) _ e
