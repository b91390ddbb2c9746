-- An action that is seen by views, as the content of a file has it.
use Rattle.def_file.specs.Content as content
use Rattle.xg_record.specs.declared.views.ActionView.{ActionView}

abbrev pub action_seen : ActionView → content.Action
action_seen action = record { name = action.name; chance = action.chance }
