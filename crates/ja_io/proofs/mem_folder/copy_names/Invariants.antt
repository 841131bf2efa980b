use Rattle.std.proofs.Common.{◌≡◌, map, take}
use Rattle.ja_io.proofs.mem_folder.copy_names.Given as goal

-- the names of the files so far
abbrev pub invariant-loop-file : goal.invariant-loop-file
invariant-loop-file l = l.names ≡ map (λ file. file.name) (take l.file-index l.files)
