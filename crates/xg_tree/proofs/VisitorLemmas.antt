-- A visitor that is called step after step.
use Rattle.std.proofs.Common.{ℕ, List, [], ◌∷◌, sym, subst}
use Rattle.def_tree.specs.declared.Node.{Node}
use Rattle.def_tree.specs.Events.{Event, Enter, Leave, Accepts, Leads}

module _ {V : Type 0} (may_enter : V → ℕ → Node → Type 0) (enters : V → ℕ → Node → V → Type 0)
    (may_leave : V → ℕ → Type 0) (leaves : V → ℕ → V → Type 0) (Ends : V → Type 0) where
  -- the visitor may be called so, and then ends so
  pub record RunsTo (steps : List Event) (v : V) : Type 0 where
    pub accepts : Accepts may_enter enters may_leave leaves steps v
    pub ends : (w : V) → Leads may_enter enters may_leave leaves steps v w → Ends w

  pub runs_none : (v : V) → Ends v → RunsTo [] v
  runs_none v is = record { accepts = tt; ends = λ w same. subst Ends (sym same) is }

  pub runs_enter : (k : ℕ) (node : Node) (rest : List Event) (v : V) → may_enter v k node
      → ((w : V) → enters v k node w → RunsTo rest w) → RunsTo (Enter k node ∷ rest) v
  runs_enter k node rest v may next = record { accepts = (may, λ w step. (next w step).accepts); ends = λ w leads. (next leads.0 leads.1).ends w leads.2 }

  pub runs_leave : (k : ℕ) (rest : List Event) (v : V) → may_leave v k → ((w : V) → leaves v k w → RunsTo rest w)
      → RunsTo (Leave k ∷ rest) v
  runs_leave k rest v may next = record { accepts = (may, λ w step. (next w step).accepts); ends = λ w leads. (next leads.0 leads.1).ends w leads.2 }
