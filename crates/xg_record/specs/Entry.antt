-- An entry by views, as the content of a file has it.
use Rattle.std.specs.Prelude.{List, option_map}
use Rattle.def_file.specs.Content as content
use Rattle.xg_record.specs.declared.entry.EntryActions.{EntryActions}
use Rattle.xg_record.specs.declared.entry.EntryActions.TheVariants.{Owned, Viewed}
use Rattle.xg_record.specs.declared.entry.EntryView.{EntryView}

abbrev pub actions_seen : EntryActions → List content.Action
actions_seen (Owned actions) = actions.now
actions_seen (Viewed actions) = actions.now

abbrev pub entry_seen : EntryView → content.Record
entry_seen e = record {
  kind = e.kind;
  name = e.name;
  player = e.player;
  set = record { number = e.set; name = e.set_name; actions = option_map actions_seen e.actions };
  outcome = record { number = e.outcome; name = e.outcome_name; payoffs = option_map (λ p. p.now) e.payoffs };
}
