-- What a failed call of a folder means.
use Rattle.ja_io.specs.declared.folder.FolderFail.{FolderFail}
use Rattle.ja_io.specs.declared.folder.FolderFail.TheVariants.{Absent, Fault, Memory}
use Rattle.ja_reading.specs.declared.fault.ReadingFault.{ReadingFault}
use Rattle.ja_reading.specs.declared.fault.ReadingFault.TheVariants.{Folder, Memory as NoMemory}

-- the folder failed, but for want of memory
abbrev pub fault_of : FolderFail → ReadingFault
fault_of Absent = Folder
fault_of Fault = Folder
fault_of Memory = NoMemory
