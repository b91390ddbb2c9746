-- What those who walk through a tree prove of their visitors.
--     Accepts-invariant, Leads-invariant     a fact on the visitor and the steps that are left, which each step keeps:
--                                            all steps are accepted, and in the end it holds with none left
--     Accepts-append, Leads-append, Leads-split     steps, and then others
use Rattle.std.proofs.Common.{◌≡◌, ℕ, ◌+◌, List, [], ◌∷◌, ◌++◌, length, refl, ap, sym, ◌∙◌, subst, arith}
use Rattle.def_tree.specs.declared.Node.{Node}
use Rattle.def_tree.specs.Tree.{Forest, bare, grown, prefix, node_count}
use Rattle.def_tree.specs.Events.{Event, Enter, Leave, events_from, entered, Accepts, Leads}
use Rattle.std.specs.List.{enumerate_from}

module _ {V : Type 0} (may_enter : V → ℕ → Node → Type 0) (enters : V → ℕ → Node → V → Type 0)
    (may_leave : V → ℕ → Type 0) (leaves : V → ℕ → V → Type 0) where
  -- a visitor accepts the steps if a fact on it and the steps left holds, allows each next step and is kept by it
  pub Accepts-invariant : (I : List Event → V → Type 0)
      → ((k : ℕ) (node : Node) (rest : List Event) (v : V) → I (Enter k node ∷ rest) v
      → may_enter v k node × ((w : V) → enters v k node w → I rest w))
      → ((k : ℕ) (rest : List Event) (v : V) → I (Leave k ∷ rest) v
      → may_leave v k × ((w : V) → leaves v k w → I rest w))
      → (steps : List Event) (v : V) → I steps v → Accepts may_enter enters may_leave leaves steps v
  Accepts-invariant I enter leave [] v h = tt
  Accepts-invariant I enter leave (Enter k node ∷ rest) v h =
      let step = enter k node rest v h in (step.0, λ w done. Accepts-invariant I enter leave rest w (step.1 w done))
  Accepts-invariant I enter leave (Leave k ∷ rest) v h =
      let step = leave k rest v h in (step.0, λ w done. Accepts-invariant I enter leave rest w (step.1 w done))

  pub Leads-invariant : (I : List Event → V → Type 0)
      → ((k : ℕ) (node : Node) (rest : List Event) (v : V) → I (Enter k node ∷ rest) v
      → may_enter v k node × ((w : V) → enters v k node w → I rest w))
      → ((k : ℕ) (rest : List Event) (v : V) → I (Leave k ∷ rest) v
      → may_leave v k × ((w : V) → leaves v k w → I rest w))
      → (steps : List Event) (v w : V) → I steps v → Leads may_enter enters may_leave leaves steps v w → I [] w
  Leads-invariant I enter leave [] v w h leads = subst (I []) (sym leads) h
  Leads-invariant I enter leave (Enter k node ∷ rest) v w h leads =
      let step = enter k node rest v h in Leads-invariant I enter leave rest leads.0 w (step.1 leads.0 leads.1) leads.2
  Leads-invariant I enter leave (Leave k ∷ rest) v w h leads =
      let step = leave k rest v h in Leads-invariant I enter leave rest leads.0 w (step.1 leads.0 leads.1) leads.2

  pub Accepts-append : (xs ys : List Event) (v : V) → Accepts may_enter enters may_leave leaves xs v
      → ((w : V) → Leads may_enter enters may_leave leaves xs v w → Accepts may_enter enters may_leave leaves ys w) →
      Accepts may_enter enters may_leave leaves (xs ++ ys) v
  Accepts-append [] ys v h on = on v refl
  Accepts-append (Enter k node ∷ xs) ys v h on = (h.0, λ u step. Accepts-append xs ys u (h.1 u step) (λ w leads. on w (u, step, leads)))
  Accepts-append (Leave k ∷ xs) ys v h on = (h.0, λ u step. Accepts-append xs ys u (h.1 u step) (λ w leads. on w (u, step, leads)))

  pub Leads-append : (xs ys : List Event) (v u w : V) → Leads may_enter enters may_leave leaves xs v u
      → Leads may_enter enters may_leave leaves ys u w → Leads may_enter enters may_leave leaves (xs ++ ys) v w
  Leads-append [] ys v u w h k = subst (λ x. Leads may_enter enters may_leave leaves ys x w) h k
  Leads-append (Enter n node ∷ xs) ys v u w h k = (h.0, h.1, Leads-append xs ys h.0 u w h.2 k)
  Leads-append (Leave n ∷ xs) ys v u w h k = (h.0, h.1, Leads-append xs ys h.0 u w h.2 k)

  pub Leads-split : (xs ys : List Event) (v w : V) → Leads may_enter enters may_leave leaves (xs ++ ys) v w →
      (u : V) × Leads may_enter enters may_leave leaves xs v u × Leads may_enter enters may_leave leaves ys u w
  Leads-split [] ys v w h = (v, refl, h)
  Leads-split (Enter n node ∷ xs) ys v w h = let rest = Leads-split xs ys h.0 w h.2 in (rest.0, (h.0, h.1, rest.1), rest.2)
  Leads-split (Leave n ∷ xs) ys v w h = let rest = Leads-split xs ys h.0 w h.2 in (rest.0, (h.0, h.1, rest.1), rest.2)

entered-append : (xs ys : List Event) → entered (xs ++ ys) ≡ entered xs ++ entered ys
entered-append [] ys = refl
entered-append (Enter k node ∷ xs) ys = ap (λ rest. (k, node) ∷ rest) (entered-append xs ys)
entered-append (Leave k ∷ xs) ys = entered-append xs ys

enumerate_from-append : (k : ℕ) (xs ys : List Node)
    → enumerate_from k (xs ++ ys) ≡ enumerate_from k xs ++ enumerate_from (k + length xs) ys
enumerate_from-append k [] ys = ap (λ n. enumerate_from n ys) (omega arith)
enumerate_from-append k (x ∷ xs) ys =
    let far : k + 1 + length xs ≡ k + length (x ∷ xs) = omega arith in
    ap (λ rest. (k, x) ∷ rest) (enumerate_from-append (k + 1) xs ys ∙ ap (λ n. enumerate_from (k + 1) xs ++ enumerate_from n ys) far)

-- a walk that counts from k enters the nodes in prefix order, numbered from k on
pub entered-events_from : (k : ℕ) (trees : Forest) → entered (events_from k trees) ≡ enumerate_from k (prefix trees)
entered-events_from k bare = refl
entered-events_from k (grown node below beside) =
    ap (λ rest. (k, node) ∷ rest)
    (entered-append (events_from (k + 1) below) (Leave k ∷ events_from (k + 1 + node_count below) beside)
    ∙ (λ i. entered-events_from (k + 1) below i ++ entered-events_from (k + 1 + node_count below) beside i)
    ∙ sym (enumerate_from-append (k + 1) (prefix below) (prefix beside)))
