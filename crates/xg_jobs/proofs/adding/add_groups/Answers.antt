use Rattle.std.proofs.Common.{◌≡◌, ◌+ℤ◌, List, ℤ, pos, map, length, replicate, unsigned_abs, arith, sym, ap, ◌∙◌}
use Rattle.std.proofs.lemmas.List.{length-map, length-replicate}
use Rattle.def_plan.specs.FormRows.{amount_of}
use Rattle.xg_jobs.specs.Groups.{GroupLeaf, parts_sum}
use Rattle.xg_jobs.proofs.Greatest.{in_first, in_second}
use Rattle.xg_jobs.proofs.adding.add_groups.Goals as goal

pub both_rows-requires : goal.both_rows-requires
both_rows-requires g c κs within =
    let x = c.args.groups.now.one.now in
    let y = c.args.groups.now.two.now in
    let gs : List GroupLeaf = map g.E.GroupEntry.leaf c.args.groups.now.entries.now in
    let size : length gs ≡ length c.args.groups.now.entries.now = length-map c.args.groups.now.entries.now g.E.GroupEntry.leaf in
    let others : length (replicate (length c.args.other.now) (pos 0)) ≡ length c.args.other.now = length-replicate (length c.args.other.now) (pos 0) in (
      within.0,
      (
        within.1,
        (
          c.requires.ordered,
          (
            λ s low. omega (arith, c.requires.inside s low, size),
            (
              c.requires.all_starts,
              (
                c.requires.ones,
                (
                  c.clear.auto.rows ∙ sym others ∙ c.requires.twos,
                  (
                    c.requires.within,
                    (
                      in_first x y,
                      (
                        in_second x y,
                        (
                          c.requires.small,
                          λ b. omega (arith, c.requires.room b, ap (λ rows. unsigned_abs (amount_of rows b)) c.clear.ensures),
                        ),
                      ),
                    ),
                  ),
                ),
              ),
            ),
          ),
        ),
      ),
    )

pub returns : goal.returns
returns g c =
    let starts = c.args.groups.now.starts.now in
    let gs : List GroupLeaf = map g.E.GroupEntry.leaf c.args.groups.now.entries.now in
    let own : List ℤ = map g.R.Row.amount c.both_rows.new.own in
    let count : length own ≡ length c.args.own.now = length-map c.both_rows.new.own g.R.Row.amount ∙ c.both_rows.auto.own in
    record {
      sums = λ s low. c.both_rows.ensures.own s (omega (arith, low, count));
      parts = λ b. c.both_rows.ensures.other b
          ∙ ap (λ rows. amount_of rows b +ℤ parts_sum starts gs c.args.groups.now.one.now (length c.args.own.now) b) c.clear.ensures
          ∙ ap (λ n. amount_of (replicate (length c.args.other.now) (pos 0)) b +ℤ parts_sum starts gs c.args.groups.now.one.now n b) (sym count);
    }
