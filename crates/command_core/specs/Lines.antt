-- The line that the program says of each status.
use Rattle.std.specs.Prelude.{ℕ, List, [], ◌++◌, codes, decimal}
use Rattle.element_laws.specs.declared.broken.Broken as law
use Rattle.element_laws.specs.declared.broken.Broken.TheVariants as laws
use Rattle.tree_cert.specs.declared.fault.TreeFault.{TreeFault}
use Rattle.tree_cert.specs.declared.fault.TreeFault.TheVariants as tree
use Rattle.command_core.specs.declared.status.NotFault.{NotFault}
use Rattle.command_core.specs.declared.status.NotFault.TheVariants.{Tree, Left}
use Rattle.command_core.specs.declared.status.Status.{Status}
use Rattle.command_core.specs.declared.status.Status.TheVariants.{Accepted, Rejected, Undecided, Kept, Broken, Passes, NotRefutation, Written, Usage, BadInput, TooLong, ReadFault, NoMemory, WriteFault}
use Rattle.command_core.specs.declared.status.UndecidedBy.{UndecidedBy}
use Rattle.command_core.specs.declared.status.UndecidedBy.TheVariants.{Budget, Grid}
use Rattle.command_core.specs.declared.status.InputFile.{InputFile}
use Rattle.command_core.specs.declared.status.InputFile.TheVariants.{Net, Scn, Cdf, Res, Join, Flat, SettingFile, TreeFile}
use Rattle.command_core.specs.FaultTexts.{fault_text}

abbrev pub file_word : InputFile → List ℕ
file_word Net = codes "net"
file_word Scn = codes "scn"
file_word Cdf = codes "cdf"
file_word Res = codes "res"
file_word Join = codes "join"
file_word Flat = codes "problem"
file_word SettingFile = codes "setting"
file_word TreeFile = codes "tree"

-- the first line of a tree that is at fault
abbrev pub tree_text : TreeFault → List ℕ
tree_text (tree.NotTree line) = codes "not tree line " ++ decimal line
tree_text (tree.WideNumber line) = codes "wide number line " ++ decimal line
tree_text (tree.BadStep line) = codes "bad step line " ++ decimal line
tree_text (tree.WrongBranch line) = codes "wrong branch line " ++ decimal line
tree_text (tree.WrongEnd line) = codes "wrong end line " ++ decimal line
tree_text tree.NoMemory = []

-- why a text is no refutation, and at which line
abbrev pub not_text : NotFault → List ℕ
not_text (Left line) = codes "open line " ++ decimal line
not_text (Tree fault) = tree_text fault

-- which law is broken
abbrev pub law_word : law.Broken → List ℕ
law_word (laws.Choice a) = codes "choice "
law_word (laws.FlowBound a) = codes "flow "
law_word (laws.PressureBound n) = codes "pressure "
law_word (laws.Balance n) = codes "balance "
law_word (laws.Law a) = codes "law "

-- why a box is left open, before the number of its line
abbrev pub open_word : UndecidedBy → List ℕ
open_word Budget = codes "budget line "
open_word Grid = codes "grid line "

-- without its line feed and without what the command adds to it, as the id of the arc or node whose law is broken, the
-- number of the line that leaves a box open, or the whole line where something was written; of want of memory and of a write fault nothing is said
abbrev pub line_of : Status → List ℕ
line_of Accepted = codes "accepted"
line_of Rejected = codes "rejected"
line_of (Undecided by) = codes "undecided " ++ open_word by
line_of Kept = codes "kept"
line_of (Broken law) = codes "broken " ++ law_word law
line_of Passes = codes "passes"
line_of (NotRefutation fault) = codes "not refutation " ++ not_text fault
line_of Written = []
line_of (Usage at) = codes "usage word " ++ decimal at
line_of (BadInput file fault) = codes "bad " ++ file_word file ++ codes " " ++ fault_text fault
line_of (TooLong file) = codes "too long " ++ file_word file
line_of ReadFault = codes "read fault"
line_of NoMemory = []
line_of WriteFault = []
