-- The folder in memory: its calls are numbered from 1, and those with a number that was named fail.
use Rattle.std.specs.Prelude.{ℕ, Bool, List, if◌then◌else◌}
use Rattle.ja_base.specs.declared.file.File.{File}
use Rattle.ja_io.specs.Count.{one_more, next_is_among}

-- what the folder holds, the numbers of the calls that fail, and how many calls and faults there were
pub record FolderState : Type 0 where
  pub dir : List ℕ
  pub files : List File
  pub fails : List ℕ
  pub calls : ℕ
  pub faults : ℕ

-- the next call has one of the numbers that fail
abbrev pub next_fails : FolderState → Bool
next_fails s = next_is_among s.fails s.calls

-- the folder after its next call: the call is counted, and a fault where it fails
abbrev pub after_call : FolderState → FolderState
after_call s = record s { calls = one_more s.calls; faults = if next_fails s then one_more s.faults else s.faults }
