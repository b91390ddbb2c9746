-- What bounds that hold say.
use Rattle.std.proofs.Common.{ℕ}
use Rattle.def_plan.specs.Weighed.{WeighedGame}
use Rattle.def_cert_verdict.specs.Certificate.{PrintedBounds}
use Rattle.def_plus.specs.declared.Variant.{Variant}
use Rattle.def_cert_accepted.specs.Bounds.{BoundsHold}
use Rattle.def_program_readings.specs.Bounds.{BoundsAreRead, BoundsSay}

module _ (game : WeighedGame) (variant : Variant) (scale : ℕ) (b : PrintedBounds) where
  say : BoundsHold game variant scale b → BoundsSay game variant scale b
  say h = record {
    low = record {
      is_plan = h.lower.is_plan;
      gets = h.lower.gets;
      floor = h.attained.floor;
      attained = h.attained.floor_attained;
      lowest = h.attained.low.lowest;
      total = h.attained.low.value;
    };
    high = record {
      is_plan = h.upper.is_plan;
      concedes = h.upper.concedes;
      ceiling = h.attained.ceiling;
      attained = h.attained.ceiling_attained;
      lowest = h.attained.high.lowest;
      total = h.attained.high.value;
    };
    trace = record {
      narrows = λ j k line earlier within.
          let lies = h.trace.within_earlier j k line earlier within in record { low = lies.not_lower; high = lies.not_higher };
      low = h.trace.last_low;
      high = h.trace.last_high;
      root_one = h.trace.low_round;
      root_two = h.trace.high_round;
    };
    gap = h.gap;
    value = h.value;
  }

  hold : BoundsSay game variant scale b → BoundsHold game variant scale b
  hold s = record {
    lower = record { is_plan = s.low.is_plan; gets = s.low.gets };
    upper = record { is_plan = s.high.is_plan; concedes = s.high.concedes };
    attained = record {
      floor = s.low.floor;
      floor_attained = s.low.attained;
      low = record { lowest = s.low.lowest; value = s.low.total };
      ceiling = s.high.ceiling;
      ceiling_attained = s.high.attained;
      high = record { lowest = s.high.lowest; value = s.high.total };
    };
    trace = record {
      within_earlier = λ j k line earlier within.
          let lies = s.trace.narrows j k line earlier within in record { not_lower = lies.low; not_higher = lies.high };
      last_low = s.trace.low;
      last_high = s.trace.high;
      low_round = s.trace.root_one;
      high_round = s.trace.root_two;
    };
    gap = s.gap;
    value = s.value;
  }

pub bounds_read : BoundsAreRead
bounds_read game variant scale b = (say game variant scale b, hold game variant scale b)
