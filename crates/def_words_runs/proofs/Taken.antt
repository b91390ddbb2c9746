-- Steps that may be taken.
use Rattle.std.proofs.Common.{refl}
use Rattle.def_words_runs.specs.Taken.{StepsMayBeTaken}

pub may_be_taken : StepsMayBeTaken
may_be_taken jobs rows amount before = record {
  claim = λ seat reached numbers is below complete.
      (_, record { numbers = numbers; reached = reached; worker = is; below = below; complete = complete; words = refl; views = refl });
  add = λ seat row job reached earlier is is_job is_row some from between. (
    _,
    record {
      job = job;
      earlier = earlier;
      reached = reached;
      worker = is;
      is_job = is_job;
      is_row = is_row;
      some_amount = some;
      from_reached = from;
      between = between;
      words = refl;
      views = refl;
    },
  );
  split = λ seat made unjoined numbers is few.
      (_, record { numbers = numbers; made = made; unjoined = unjoined; owner = is; few = few; words = refl; views = refl });
  join = λ seat other made unjoined reached numbers worker_numbers is worker complete. (
    _,
    record {
      numbers = numbers;
      made = made;
      unjoined = unjoined;
      worker_numbers = worker_numbers;
      reached = reached;
      owner = is;
      worker = worker;
      complete = complete;
      words = refl;
      views = refl;
    },
  );
  close = λ seat n made numbers is has past.
      (before, record { numbers = numbers; made = made; owner = is; past = (n, has, past); same = refl });
}
