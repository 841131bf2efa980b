use Rattle.std.proofs.Common.{◌≡◌, ◌∙◌, sym, arith, rules}
use Rattle.std.proofs.lemmas.Slice.Eq.{bytes_eq-Decides}
use Rattle.ja_io.proofs.Named.{only_file, some_file}
use Rattle.ja_io.proofs.mem_folder.file_named.Goals as goal

pub returns-then-eq : goal.returns-then-eq
returns-then-eq c = λ k d inside same.
    let named : c.file-item.result.name ≡ c.args.name.now = search (rules, bytes_eq-Decides) in
    only_file _ c.requires.distinct c.loop-file.file-index _ (omega arith) c.file-item.is k d inside (same ∙ sym named)

pub unreachable-requires : goal.unreachable-requires
unreachable-requires c = some_file _ _ c.requires.there (λ k d inside. c.loop-file.invariant k d (omega arith))
