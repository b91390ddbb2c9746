-- What is asked of an offer, and of a certificate that can be upgraded.
use Rattle.std.proofs.Common.{arith}
use Rattle.def_program_readings.specs.Offers.{OffersAreRead, UpgradablesAreRead}

pub offers : OffersAreRead
offers = record {
  fair = λ form last offer. (
    λ h. record {
      scale = h.scale;
      later = h.later;
      few_rounds = h.few_rounds;
      some_divisor = h.some_divisor;
      small_divisor = h.small_divisor;
      some_scale = h.some_scale;
      small_root = h.small_root;
      plan_one = h.plan_one;
      plan_two = h.plan_two;
      against_one = h.against_one;
      against_two = h.against_two;
    },
    λ h. record {
      scale = h.scale;
      later = h.later;
      few_rounds = h.few_rounds;
      some_divisor = h.some_divisor;
      small_divisor = h.small_divisor;
      some_scale = h.some_scale;
      small_root = h.small_root;
      plan_one = h.plan_one;
      plan_two = h.plan_two;
      against_one = h.against_one;
      against_two = h.against_two;
    },
  );
  not_again = λ form offer h. let later = h.later in absurd (omega (arith, later));
}

pub upgradables : UpgradablesAreRead
upgradables c = (
  λ h. record { sum_is = h.sum_is; ends = h.ends; second = h.second },
  λ h. record { sum_is = h.sum_is; ends = h.ends; second = h.second },
)
