-- Ranges in plain numbers.
use Rattle.std.proofs.Common.{refl}
use Rattle.def_program_readings.specs.Ranges.{RangesAreRead}

pub ranges : RangesAreRead
ranges = record {
  plain = λ settings. (
    λ h. record { few_rounds = h.few_rounds; some_every = h.some_every; small_every = h.small_every; some_scale = h.some_scale; small_scale = h.small_scale },
    λ h. record {
      few_rounds = h.few_rounds;
      some_every = h.some_every;
      small_every = h.small_every;
      some_scale = h.some_scale;
      small_scale = h.small_scale;
      some_workers = tt;
      few_workers = tt;
    },
  );
  plus = λ settings. (
    λ h. record { few_rounds = h.few_rounds; some_every = h.some_every; small_every = h.small_every; some_scale = h.some_scale; small_scale = h.small_scale },
    λ h. record {
      few_rounds = h.few_rounds;
      some_every = h.some_every;
      small_every = h.small_every;
      some_scale = h.some_scale;
      small_scale = h.small_scale;
      some_workers = tt;
      few_workers = tt;
    },
  );
  workers = λ settings workers. (
    λ h. (
      record { few_rounds = h.few_rounds; some_every = h.some_every; small_every = h.small_every; some_scale = h.some_scale; small_scale = h.small_scale },
      h.some_workers,
      h.few_workers,
    ),
    λ h. record {
      few_rounds = h.0.few_rounds;
      some_every = h.0.some_every;
      small_every = h.0.small_every;
      some_scale = h.0.some_scale;
      small_scale = h.0.small_scale;
      some_workers = h.1;
      few_workers = h.2;
    },
  );
  plus_workers = λ settings workers. (
    λ h. (
      record { few_rounds = h.few_rounds; some_every = h.some_every; small_every = h.small_every; some_scale = h.some_scale; small_scale = h.small_scale },
      h.some_workers,
      h.few_workers,
    ),
    λ h. record {
      few_rounds = h.0.few_rounds;
      some_every = h.0.some_every;
      small_every = h.0.small_every;
      some_scale = h.0.some_scale;
      small_scale = h.0.small_scale;
      some_workers = h.1;
      few_workers = h.2;
    },
  );
  files = λ files. (λ h. (h.some, h.few), λ h. record { some = h.0; few = h.1 });
  cards = λ cards. (λ h. (h.some, h.few), λ h. record { some = h.0; few = h.1 });
  workers_of_batch = refl;
  divisor = refl;
}
