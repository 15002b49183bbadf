-- A fault of an outline as one of a file.
use Rattle.file_faults.specs.declared.outline.OutlineFault.{OutlineFault}
use Rattle.file_faults.specs.declared.outline.OutlineFault.TheVariants as outline_fault
use Rattle.file_faults.specs.declared.outline.FileFault.{FileFault}
use Rattle.file_faults.specs.declared.outline.FileFault.TheVariants as file_fault

-- want of memory is never held in another fault
abbrev pub held : OutlineFault → FileFault
held outline_fault.NoMemory = file_fault.NoMemory
held (outline_fault.NotUtf8 n) = file_fault.Outline (outline_fault.NotUtf8 n)
held (outline_fault.NotOutline n) = file_fault.Outline (outline_fault.NotOutline n)
held (outline_fault.Doctype n) = file_fault.Outline (outline_fault.Doctype n)
held (outline_fault.Cdata n) = file_fault.Outline (outline_fault.Cdata n)
held (outline_fault.TooDeep n) = file_fault.Outline (outline_fault.TooDeep n)
