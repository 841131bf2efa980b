use Rattle.std.proofs.Common.{◌≡◌, Contains, sym, ◌∙◌, take}
use Rattle.ja_base.specs.declared.file.File.{File}
use Rattle.ja_io.specs.Contents.{Contents}
use Rattle.ja_lower.specs.Folder.{read_files}
use Rattle.ja_reading.proofs.OneByOne.{one_more}
use Rattle.ja_reading.proofs.Steps.{at_some, if_some}
use Rattle.ja_reading.proofs.reading.read_next.Goals as goal

pub returns-in-Ok-clause-judged : goal.returns-in-Ok-clause-judged
returns-in-Ok-clause-judged g c =
    let told = g.F.Folder.told c.args.folder.now in
    if_some told _ (λ held is files next listed named before.
    let front : c.in_ok-file.file.bytes ≡ take 4194305 next.bytes =
    at_some told (λ (h : Contents). (file : File) → Contains h.files file → file.name ≡ c.args.name.now → c.in_ok-file.file.bytes ≡ take 4194305 file.bytes) held is
    c.in_ok-file.ensures.front next listed named in
    one_more files next c.args.name.now c.in-Ok.outcome (sym c.is_read.ensures ∙ c.if-not-is_read.false) named
    (c.in-Ok.ensures (read_files files) next (named ∙ sym c.in_ok-file.ensures.named) front before))
