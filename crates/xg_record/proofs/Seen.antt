-- Actions that are seen by views.
use Rattle.std.proofs.Common.{◌≡◌, ℕ, List, length, map}
use Rattle.std.specs.Prelude.{option_map, slice_get}
use Rattle.std.proofs.lemmas.List.{length-map}
use Rattle.std.proofs.lemmas.Option.{slice_get-map}
use Rattle.xg_record.specs.Seen.{action_seen}
use Rattle.xg_record.specs.declared.views.ActionView.{ActionView}

pub seen_length : (actions : List ActionView) → length (map action_seen actions) ≡ length actions
seen_length actions = length-map actions action_seen

pub seen_at : (actions : List ActionView) (i : ℕ)
    → slice_get (map action_seen actions) i ≡ option_map action_seen (slice_get actions i)
seen_at actions i = slice_get-map action_seen actions i
