use Rattle.std.proofs.Common.{◌≢◌, ℕ, ◌<◌}
use Rattle.std.specs.Prelude.{slice_index_or}
use Rattle.ja_base.specs.declared.file.File.{File}
use Rattle.ja_io.proofs.mem_folder.file_named.Given as goal

-- no earlier file has the name
abbrev pub invariant-loop-file : goal.invariant-loop-file
invariant-loop-file l = (k : ℕ) (d : File) → k < l.file-index → (slice_index_or l.files k d).name ≢ l.name
