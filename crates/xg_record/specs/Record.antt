-- An entry, as the content of a file has it.
use Rattle.def_file.specs.Content as content
use Rattle.xg_record.specs.declared.record.Record.{Record}

abbrev pub record_of : Record → content.Record
record_of r = record {
  kind = r.kind;
  name = r.name;
  player = r.player;
  set = record { number = r.set; name = r.set_name; actions = r.actions };
  outcome = record { number = r.outcome; name = r.outcome_name; payoffs = r.payoffs };
}
