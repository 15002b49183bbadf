-- The number with which the program ends.
use Rattle.std.specs.Prelude.{ℕ}
use Rattle.command_core.specs.declared.status.Status.{Status}
use Rattle.command_core.specs.declared.status.Status.TheVariants.{Accepted, Rejected, Undecided, Kept, Broken, Passes, NotRefutation, Written, Usage, BadInput, TooLong, ReadFault, NoMemory, WriteFault}

abbrev pub exit_of : Status → ℕ
exit_of Accepted = 0
exit_of Rejected = 1
exit_of (Undecided by) = 2
exit_of Kept = 0
exit_of (Broken law) = 3
exit_of Passes = 0
exit_of (NotRefutation fault) = 3
exit_of Written = 0
exit_of (Usage at) = 64
exit_of (BadInput file fault) = 65
exit_of (TooLong file) = 65
exit_of ReadFault = 66
exit_of NoMemory = 71
exit_of WriteFault = 74
