use Rattle.std.proofs.Common.{◌≡◌, ◌≢◌, ◌<◌, ◌+◌, ◌*◌, ◌++◌, ℕ, zero, suc, List, [], ◌∷◌, refl, sym, ap, ◌∙◌, subst, arith}
use Rattle.std.specs.Prelude.{All, pos}
use Rattle.std.proofs.lemmas.List.Elements.{All-nil, All-cons}
use Rattle.std.proofs.lemmas.Int.{to_z_pos}
use mir.Syntax.{w128}
use Rattle.def_history.specs.Packets.{RowAmount, IsPacketOf}
use Rattle.xg_rows_tests.specs.Twofold.{twofold}
use Rattle.xg_rowcore.specs.Packets.{Listed}
use Rattle.xg_rows_tests.proofs.rowcore_tests.fill.Goals as goal

first_at : ℕ → RowAmount
first_at job = record { row = 1; amount = pos (job + 1) }

second_at : ℕ → RowAmount
second_at job = record { row = 2; amount = pos (2 * (job + 1)) }

two : (P : RowAmount → Type 0) (a b : RowAmount) → P a → P b → All P (a ∷ b ∷ [])
two P a b p q = All-cons P a (b ∷ []) p (All-cons P b [] q (All-nil P))

twofold_packet : (job : ℕ) → IsPacketOf twofold 3 job (first_at job ∷ second_at job ∷ [])
unfolding first_at second_at
twofold_packet job = record {
  rising = (
    All-cons (λ (later : RowAmount). 1 < later.row) (second_at job) [] (omega arith) (All-nil (λ (later : RowAmount). 1 < later.row)),
    (All-nil (λ (later : RowAmount). 2 < later.row), tt),
  );
  are_rows = two (λ entry. entry.row < 3) (first_at job) (second_at job) (omega arith) (omega arith);
  have_amounts = two (λ entry. entry.amount ≡ twofold job entry.row) (first_at job) (second_at job) (ap pos (omega arith)) (ap pos (omega arith));
  nothing_else = rest;
}
  where
    rest : (row : ℕ) → row < 3 → All (λ entry. entry.row ≢ row) (first_at job ∷ second_at job ∷ [])
        → twofold job row ≡ pos 0
    rest zero below apart = ap pos (omega arith)
    rest (suc zero) below apart = absurd (apart 0 (first_at job) (omega arith) refl)
    rest (suc (suc zero)) below apart = absurd (apart 1 (first_at job) (omega arith) refl)
    rest (suc (suc (suc row))) below apart = absurd (omega arith)

pub returns-clause-packet : goal.returns-clause-packet
unfolding first_at second_at
returns-clause-packet c =
    let none : c.start.new.self.entries.list ≡ [] = ap (λ (l : Listed). l.list) c.start.ensures.entries in
    let first = rw (to_z_pos w128 (c.args.job + 1) (omega (arith, c.requires.job))) at c.push.ensures.entries in
    let second = rw (to_z_pos w128 (2 * (c.args.job + 1)) (omega (arith, c.requires.job))) at c.push-2.ensures.entries in
    let one : c.push.new.self.entries.list ≡ first_at c.args.job ∷ [] =
    ap (λ (l : Listed). l.list) first ∙ ap (λ (es : List RowAmount). es ++ first_at c.args.job ∷ []) none in
    let both : c.push-2.new.self.entries.list ≡ first_at c.args.job ∷ second_at c.args.job ∷ [] =
    ap (λ (l : Listed). l.list) second ∙ ap (λ (es : List RowAmount). es ++ second_at c.args.job ∷ []) one in
    subst (IsPacketOf twofold 3 c.args.job) (sym both) (twofold_packet c.args.job)
