-- What a failed call of a folder means for a run.
use Rattle.ja_io.specs.declared.folder.FolderFail.{FolderFail}
use Rattle.ja_io.specs.declared.folder.FolderFail.TheVariants.{Absent, Fault, Memory}
use Rattle.ja_run.specs.declared.answer.Failure.{Failure}
use Rattle.ja_run.specs.declared.answer.Failure.TheVariants.{Folder, Memory as NoMemory}

-- the folder failed, but for want of memory
abbrev pub failure_of : FolderFail → Failure
failure_of Absent = Folder
failure_of Fault = Folder
failure_of Memory = NoMemory
