-- The exit status of a run.
use Rattle.std.specs.Prelude.{ℕ}
use Rattle.ja_run.specs.declared.status.Status.{Status}
use Rattle.ja_run.specs.declared.status.Status.TheVariants.{Clean, Warned, WrongWords, Refused, FolderFault, WriteFault, NoMemory}

abbrev pub number_of : Status → ℕ
number_of Clean = 0
number_of Warned = 1
number_of WrongWords = 2
number_of Refused = 3
number_of FolderFault = 4
number_of WriteFault = 5
number_of NoMemory = 7
