-- The real files and the standard output, of whose contents nothing is told.
use Rattle.std.specs.Prelude.{[], None, false, is_some}
use Rattle.std.specs.Option.{option_map}
use Rattle.std.specs.declared.io.ErrorKind.{ErrorKind}
use Rattle.std.specs.declared.io.ErrorKind.TheVariants.{OutOfMemory}
use Rattle.gas_desk.specs.Outside.{Outside}
use Rattle.gas_desk.specs.declared.desk.DeskStop.{DeskStop}
use Rattle.gas_desk.specs.declared.desk.DeskStop.TheVariants.{Failed, NoMemory}
use Rattle.gas_desk.specs.declared.host.HostDesk.{HostDesk}

-- known are the file being read, whether one is written, and the two counts
abbrev pub on_host : {R File Dir : Type 0} → HostDesk R File Dir → Outside
on_host d = record {
  files = λ _. None;
  left = [];
  target = [];
  said = [];
  reading = option_map (λ file. file.0) d.reading;
  writing = is_some d.writing;
  finished = λ _. false;
  read_faults = λ _. d.read_faults;
  write_faults = d.write_faults;
}

-- each error but want of memory is a failure
abbrev pub stop_of : ErrorKind → DeskStop
stop_of OutOfMemory = NoMemory
stop_of kind = Failed
