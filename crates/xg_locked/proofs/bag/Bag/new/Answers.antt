use Rattle.std.proofs.Common.{◌≡◌, rules}
use Rattle.std.specs.List.{range_with_len}
use Rattle.xg_locked.proofs.RightsMoveUnderLocks.{named_below}
use Rattle.xg_locked.proofs.bag.Bag.new.Goals as goal

pub invariant_of-result : goal.invariant_of-result
invariant_of-result g c =
    let e : c.in_ok-jobs.jobs.items ≡ range_with_len 0 c.args.jobs = c.in_ok-jobs.ensures in
    let jobs : c.args.jobs ≡ g.N.RowName.jobs = c.requires.jobs.0 in
    record {
      kept = record {
        here = search rules;
        me_is = search rules;
        ticket = λ _. search rules;
        jobs_is = search rules;
        jobs_named = rw (e, jobs) (named_below g.N.RowName.jobs);
      };
    }
