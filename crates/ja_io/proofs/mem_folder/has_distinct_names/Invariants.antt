use Rattle.std.proofs.Common.{◌≢◌, ℕ, ◌<◌, length}
use Rattle.std.specs.Prelude.{slice_index_or}
use Rattle.ja_base.specs.declared.file.File.{File}
use Rattle.ja_io.proofs.mem_folder.has_distinct_names.Given as goal

-- no earlier file has the name of one after it
abbrev pub invariant-loop-i : goal.invariant-loop-i
invariant-loop-i l =
    (a b : ℕ) (d : File) → a < l.i → a < b → b < length l.files → (slice_index_or l.files a d).name ≢ (slice_index_or l.files b d).name
