use Rattle.xg_jobs.proofs.both.add_group.Given as goal

abbrev pub ghost-sum_group : goal.ghost-sum_group
ghost-sum_group g a = g.most

abbrev pub ghost-spread_group : goal.ghost-spread_group
ghost-spread_group g a = g.most
