use Rattle.std.proofs.Common.{◌≡◌, ◌++◌, [], ◌∷◌, ap, rules}
use Rattle.def_history.specs.Core.{rights_of}
use Rattle.xg_locked.specs.Rights.{stripes_of}
use Rattle.xg_locked.specs.Locked.{number_met}
use Rattle.xg_locked.proofs.RightsMoveUnderLocks.{takes_job}
use Rattle.xg_locked.proofs.bag.Bag.draw.Goals as goal

pub returns-in-Some-clause-step : goal.returns-in-Some-clause-step
returns-in-Some-clause-step g c =
    let bag : c.args.self.now.jobs.items ≡ c.pop.new.self.items ++ c.in-Some.job ∷ [] = search rules in
    let now : c.give_job-seat.result.me.0.rights ≡ rights_of c.in-Some.job (stripes_of (number_met c.args.seat.me)) = search rules in
    takes_job _ _ _ _ _ _ bag (ap (λ m. m.0.rights) c.requires.seat.1) now
