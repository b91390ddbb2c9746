use Rattle.std.proofs.Common.{◌≡◌, ◌≤◌, ◌+◌, ◌-◌, ◌++◌, ◌∷◌, [], ℕ, List, length, ap, sym, ◌∙◌, arith}
use Rattle.std.specs.Vec.{vec_len}
use Rattle.std.proofs.lemmas.List.{length-append}
use Rattle.def_fraction.specs.Fraction.{Fraction, zero_fraction}
use Rattle.def_file.specs.Content as content
use Rattle.def_file.specs.Content.{action_with}
use Rattle.xg_game.specs.Actions.{actions_of}
use Rattle.xg_game.proofs.ActionLemmas.{chance_last, length-actions_of, named_last, padded}
use Rattle.xg_game.proofs.actions.KeptActions.push.Goals as goal

-- no action is lost, whatever is kept of their probabilities
grows : (names new : List (List ℕ)) (name : List ℕ) (chances now : List Fraction) (actions : List content.Action)
    → actions_of names chances ≡ actions → new ≡ names ++ name ∷ [] → length actions ≤ length (actions_of new now)
grows names new name chances now actions seen put =
    let before : length actions ≡ length names = sym (ap (length {A = content.Action}) seen) ∙ length-actions_of names chances in
    let size : length new ≡ length names + 1 = ap length put ∙ length-append names (name ∷ []) in
    omega (arith, before, size, length-actions_of new now)

pub returns-in-Equal-clause-ok : goal.returns-in-Equal-clause-ok
returns-in-Equal-clause-ok c =
    let names : List (List ℕ) = c.self.inside.names in
    let chances : List Fraction = c.self.inside.chances.items in
    let none : zero_fraction ≡ c.args.chance = sym (c.compare.ensures.same.0 c.in-Equal.is ∙ c.zero.ensures) in
    ap (λ (ns : List (List ℕ)). actions_of ns chances) c.in_ok-push_view.ensures.ok
    ∙ named_last names chances c.args.name.now c.self.invariant.count
    ∙ ap (λ (xs : List content.Action). xs ++ action_with c.args.name.now zero_fraction ∷ []) c.self.view_is
    ∙ ap (λ (chance : Fraction). c.args.self.now ++ action_with c.args.name.now chance ∷ []) none

pub returns-in-Equal-clause-kept : goal.returns-in-Equal-clause-kept
returns-in-Equal-clause-kept c =
    grows c.self.inside.names c.push_view.new.self c.args.name.now c.self.inside.chances.items c.self.inside.chances.items c.args.self.now c.self.view_is
    c.in_ok-push_view.ensures.ok

pub returns-in_err-resize-clause-kept : goal.returns-in_err-resize-clause-kept
returns-in_err-resize-clause-kept c =
    grows c.self.inside.names c.push_view.new.self c.args.name.now c.self.inside.chances.items c.resize.new.self.items c.args.self.now c.self.view_is
    c.in_ok-push_view.ensures.ok

pub returns-in_err-push-clause-kept : goal.returns-in_err-push-clause-kept
returns-in_err-push-clause-kept c =
    grows c.self.inside.names c.push_view.new.self c.args.name.now c.self.inside.chances.items c.push.new.self.items c.args.self.now c.self.view_is
    c.in_ok-push_view.ensures.ok

pub returns-clause-ok : goal.returns-clause-ok
returns-clause-ok c =
    let names : List (List ℕ) = c.self.inside.names in
    let zeros = padded names c.self.inside.chances.items c.resize.new.self.items c.len-before.result (c.len-before.result - vec_len c.self.inside.chances)
    c.zero-2.result c.self.invariant c.len-before.ensures (omega (arith, c.self.inside.chances.ok.0)) c.zero-2.ensures c.in_ok-resize.ensures.items in
    ap (λ (ns : List (List ℕ)). actions_of ns c.push.new.self.items) c.in_ok-push_view.ensures.ok
    ∙ ap (actions_of (names ++ c.args.name.now ∷ [])) c.in_ok-push.ensures.items
    ∙ chance_last names c.resize.new.self.items c.args.name.now c.known.result zeros.count
    ∙ ap (λ (xs : List content.Action). xs ++ action_with c.args.name.now c.known.result ∷ []) (zeros.same ∙ c.self.view_is)
    ∙ ap (λ (chance : Fraction). c.args.self.now ++ action_with c.args.name.now chance ∷ []) c.known.ensures.same

pub returns-clause-kept : goal.returns-clause-kept
returns-clause-kept c =
    grows c.self.inside.names c.push_view.new.self c.args.name.now c.self.inside.chances.items c.push.new.self.items c.args.self.now c.self.view_is
    c.in_ok-push_view.ensures.ok
