-- The record of what files or a sink did in a call, from the members of the object and its states before and after.
use Rattle.def_outside.specs.Calls.{FilesCall, SinkCall}
use Rattle.xg_io.specs.declared.outside.Files as files
use Rattle.xg_io.specs.declared.outside.Sink as sinks

abbrev pub files_call : {S : Type 0} → files.Ghosts S → S → S → FilesCall
files_call files old new = record {
  told = files.told old;
  taken = files.taken new;
  opens_before = files.opens old;
  opens_now = files.opens new;
  faults = record { before = files.faults old; now = files.faults new };
}

abbrev pub sink_call : {S : Type 0} → sinks.Ghosts S → S → S → SinkCall
sink_call sink old new = record {
  before = sink.written old;
  now = sink.written new;
  failed_length = sink.failed_length new;
  faults = record { before = sink.faults old; now = sink.faults new };
}
