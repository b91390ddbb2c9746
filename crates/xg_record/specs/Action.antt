-- An action, as the content of a file has it.
use Rattle.def_file.specs.Content as content
use Rattle.xg_record.specs.declared.action.Action.{Action}

abbrev pub action_of : Action → content.Action
action_of action = record { name = action.name; chance = action.chance }
