use Rattle.std.proofs.Common.{refl}
use Rattle.def_fraction.specs.Divisors.{gcd}
use Rattle.def_fraction.specs.Fraction.{fraction_of}
use Rattle.def_game_laws.proofs.game_scale.faults.order_rows.Goals as goal

pub returns : goal.returns
unfolding gcd fraction_of
returns c = record {
  negative_before_sum = refl;
  running_sum_in_one_set = refl;
  sum_before_later_running_sum = refl;
  running_sum_before_later_sum = refl;
  sum_before_leaf = refl;
  rare_deals = refl;
  gain_past_limit = refl;
  loss_past_limit = refl;
  gain_and_loss_past_limit = refl;
  gain_past_limit_at_leaf = refl;
  fraction_of_another_sum = refl;
  fraction_past_limit = refl;
  unit_past_limit = refl;
  heavy_of_another_sum = refl;
  mass_by_one = refl;
  mass_by_last_unit = refl;
  forgetful_of_another_sum = refl;
  forgetful_heavy = refl;
  forgetful_two = refl;
  forgetful_one = refl;
  absent_by_chance = refl;
  first_of_set = refl;
  negative_at_second = refl;
  negative_below_choice = refl;
  sum_above_one = refl;
  product_past_limit = refl;
  first_sum_past_limit = refl;
  later_sum_past_limit = refl;
  unit_of_another_sum = refl;
  sums_one_and_nothing = refl;
  opposite_sums = refl;
  unit_past_limit_by_sum = refl;
  another_sum_before_whole_sum = refl;
  whole_sum_past_limit = refl;
  whole_sum_before_mass = refl;
}
