use Rattle.std.proofs.Common.{◌≡◌, ℕ, ◌<◌, ◌++◌, List, length, take, drop, All, sym, ◌∙◌, subst, arith}
use Rattle.std.proofs.lemmas.List.{take-append-le, take_all}
use denote.Param.Send.{sendable}
use Rattle.xg_jobs.specs.Table.{most_touched}
use Rattle.xg_jobs.proofs.Crews.{read_at}
use Rattle.xg_words.specs.Running.{IsReadyToClaim, IsDoneClaiming}
use Rattle.xg_words.proofs.crew.work_all.Goals as goal

-- where a list takes the place of one as long, it is what is there
whole : {X : Type 0} (xs ys : List X) (n : ℕ) → length xs ≡ n → take n (xs ++ drop (length xs) ys) ≡ xs
whole xs ys n same = take-append-le n xs (drop (length xs) ys) (omega arith) ∙ take_all n xs (omega arith)

pub for_each_mut-requires-clause-accepts : goal.for_each_mut-requires-clause-accepts
for_each_mut-requires-clause-accepts g c κs within = λ i p below is.
    let ready =
    read_at (λ m. IsReadyToClaim c.args.board.now.table.shared.table_id g.N.RowName.jobs g.N.RowName.rows g.N.RowName.amount
    (most_touched c.args.jobs.now.touched) m.worker m.packet.entries) _ _ i p.now c.as_mut_slice.ensures.value c.requires.ready below is in
    (c.requires.round, (ready, (search sendable, search sendable, search sendable, search sendable)))

pub returns-clause-done : goal.returns-clause-done
returns-clause-done g c =
    let same : length c.for_each_mut.new.s ≡ c.args.crew.now.len = c.for_each_mut.auto.s ∙ c.as_mut_slice.ensures.len in
    subst (All (λ m. IsDoneClaiming c.args.board.now.table.shared.table_id g.N.RowName.jobs g.N.RowName.rows g.N.RowName.amount m.worker))
    (sym (whole c.for_each_mut.new.s c.args.crew.now.items c.args.crew.now.len same))
    (λ k d below.
    let changed = (c.for_each_mut.ensures k d (subst (λ n. k < n) c.for_each_mut.auto.s below)).1 in
    subst (λ m. IsDoneClaiming c.args.board.now.table.shared.table_id g.N.RowName.jobs g.N.RowName.rows g.N.RowName.amount m.worker) changed.left changed.call)
