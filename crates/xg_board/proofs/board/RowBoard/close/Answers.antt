use Rattle.std.proofs.Common.{◌≡◌, ◌<◌, ◌+◌, ◌-◌, ◌++◌, [], List, length, ℕ, arith, refl, sym, ap, ◌∙◌, subst}
use Rattle.std.specs.Prelude.{vec_len}
use Rattle.def_history.specs.Core.{Right}
use Rattle.xg_jobs.specs.Rows.{all_rows}
use Rattle.xg_locked.specs.declared.view.View.{View}
use Rattle.xg_locked.specs.Rights.{number_from, rights_for, stripes_of, IsLoaded}
use Rattle.xg_board.specs.Closing.{Gathered}
use Rattle.xg_board.specs.Holdings.{tickets_of}
use Rattle.xg_board.proofs.GatheredIsPlainSum.{ended}
use Rattle.xg_board.proofs.board.RowBoard.close.Goals as goal

pub returns-clause-sums : goal.returns-clause-sums
returns-clause-sums g c = λ row below.
    let bag = c.into_inner.result in
    let board = c.args.self in
    let b : View = bag.seat.me.0 in
    let o : View = c.into_seat-seat.result.me.0 in
    let p : View = c.into_seat.result.me.0 in
    let m : View = c.meet.new.seat.me.0 in
    let q : View = c.take_passes.new.all.me.0 in
    let w : View = c.take_stripes.new.all.me.0 in
    let made : ℕ = c.args.purse.made in
    let n : ℕ = stripes_of b.number in
    let o_is : o ≡ b = ap (λ t. t.me.0) c.into_seat-seat.ensures in
    let b_rights : b.rights ≡ rights_for bag.jobs.items n = ap (λ t. t.0.rights) bag.kept.me_is in
    let b_parts : b.parts ≡ 1 = ap (λ t. t.0.parts) bag.kept.me_is in
    let p_rights : p.rights ≡ [] = ap (λ t. t.0.rights) c.into_seat.ensures.view in
    let p_tickets : p.tickets ≡ 64 - made = ap (λ t. t.0.tickets) c.into_seat.ensures.view in
    let p_parts : p.parts ≡ 65 - made = ap (λ t. t.0.parts) c.into_seat.ensures.view in
    let p_number : p.number ≡ c.args.purse.number = ap (λ t. t.0.number) c.into_seat.ensures.view in
    let m_rights : m.rights ≡ b.rights ++ p.rights = ap (λ t. t.0.rights) c.meet.ensures.view ∙ ap (λ (v : View). v.rights ++ p.rights) o_is in
    let m_tickets : m.tickets ≡ b.tickets + p.tickets = ap (λ t. t.0.tickets) c.meet.ensures.view ∙ ap (λ (v : View). v.tickets + p.tickets) o_is in
    let m_parts : m.parts ≡ b.parts + p.parts = ap (λ t. t.0.parts) c.meet.ensures.view ∙ ap (λ (v : View). v.parts + p.parts) o_is in
    let m_number : m.number ≡ b.number = ap (λ t. t.0.number) c.meet.ensures.view ∙ ap (λ (v : View). v.number) o_is in
    let q_rights : q.rights ≡ m.rights = ap (λ t. t.0.rights) c.take_passes.ensures.view in
    let q_tickets : q.tickets ≡ m.tickets + tickets_of c.args.passes.items = ap (λ t. t.0.tickets) c.take_passes.ensures.view in
    let q_parts : q.parts ≡ m.parts + length c.args.passes.items = ap (λ t. t.0.parts) c.take_passes.ensures.view in
    let q_number : q.number ≡ m.number = ap (λ t. t.0.number) c.take_passes.ensures.view in
    let w_tickets : w.tickets ≡ q.tickets = ap (λ t. t.0.tickets) c.take_stripes.ensures.view in
    let w_parts : w.parts ≡ q.parts + vec_len board.locked = ap (λ t. t.0.parts) c.take_stripes.ensures.view in
    let w_number : w.number ≡ q.number = ap (λ t. t.0.number) c.take_stripes.ensures.view in
    let number : w.number ≡ b.number = w_number ∙ q_number ∙ m_number in
    let purse_number : b.number ≡ number_from board.jobs board.stripes =
    sym (ap (λ (v : View). v.number) o_is) ∙ c.meet.ensures.numbers ∙ p_number ∙ c.requires.number in
    let n_is : n ≡ board.stripes = omega (arith, purse_number, board.kept.few) in
    let some : 0 < n = omega (arith, n_is, board.kept.some) in
    let start : q.rights ≡ rights_for bag.jobs.items n ++ [] = q_rights ∙ m_rights ∙ (λ i. b_rights i ++ p_rights i) in
    let gathered =
    subst (λ (k : ℕ). Gathered g.N.RowName.jobs g.N.RowName.rows (stripes_of k) g.N.RowName.amount q.rights w.rights (all_rows c.take_stripes.new.rows))
    (q_number ∙ m_number) c.take_stripes.ensures.gathered in
    let gathered' =
    subst (λ (rs : List Right). Gathered g.N.RowName.jobs g.N.RowName.rows n g.N.RowName.amount rs w.rights (all_rows c.take_stripes.new.rows)) start
    gathered in
    let loaded : IsLoaded b.number w = subst (λ (k : ℕ). IsLoaded k w) (sym c.load.ensures.loaded.number_is.0 ∙ number) c.load.ensures.loaded in
    ended g.N.RowName.jobs g.N.RowName.rows n b.number g.N.RowName.amount bag.jobs.items w (all_rows c.take_stripes.new.rows) b.tickets made
    (tickets_of c.args.passes.items)
    bag.kept.jobs_is refl some bag.kept.ticket
    (omega (arith, w_tickets, q_tickets, m_tickets, p_tickets))
    c.requires.one_spent
    c.into_seat.ensures.few
    (omega (arith, w_parts, q_parts, m_parts, p_parts, b_parts, c.requires.all, board.kept.locked_is, n_is))
    number loaded gathered' row below
