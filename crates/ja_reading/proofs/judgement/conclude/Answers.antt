use Rattle.std.proofs.Common.{List}
use Rattle.std.proofs.lemmas.Result.{IfOk-weaker}
use Rattle.ja_base.specs.declared.file.File.{File}
use Rattle.ja_lower.specs.Folder.{AreInOrder, read_files}
use Rattle.ja_reading.specs.Judged.{AreJudged}
use Rattle.ja_reading.specs.Judgement.{ComesTo, ComesUnder}
use Rattle.ja_reading.specs.Unread.{AreReadable}
use Rattle.ja_reading.specs.declared.judgement.Judgement.{Judgement}
use Rattle.ja_reading.proofs.Conclusions.{concluded, default_is_table, own_is_table, refused_by_table}
use Rattle.ja_reading.proofs.judgement.conclude.Goals as goal

pub returns-in-Wrong : goal.returns-in-Wrong
returns-in-Wrong g c files ordered order by_name read = refused_by_table files ordered c.args.judged c.in-Wrong.refusal c.in-Wrong.is order by_name read

pub returns-in-Own : goal.returns-in-Own
returns-in-Own g c =
    IfOk-weaker c.under_table.result (λ (judgement : Judgement). ComesUnder c.args.judged.classes c.in-Own.table judgement)
    (λ (judgement : Judgement). (files : List File) → (ordered : List File) → AreInOrder files ordered → AreReadable ordered → AreJudged (read_files ordered) c.args.judged
    → ComesTo files judgement)
    (λ judgement under files ordered order by_name read.
    concluded files ordered c.args.judged c.in-Own.table judgement order by_name read (own_is_table ordered c.args.judged c.in-Own.table c.in-Own.is read) under)
    c.under_table.ensures

pub returns-in_ok-table-in-Absent : goal.returns-in_ok-table-in-Absent
returns-in_ok-table-in-Absent g c =
    IfOk-weaker c.under_table-in-Absent.result (λ (judgement : Judgement). ComesUnder c.args.judged.classes c.in_ok-table-in-Absent.table judgement)
    (λ (judgement : Judgement). (files : List File) → (ordered : List File) → AreInOrder files ordered → AreReadable ordered → AreJudged (read_files ordered) c.args.judged
    → ComesTo files judgement)
    (λ judgement under files ordered order by_name read.
    concluded files ordered c.args.judged c.in_ok-table-in-Absent.table judgement order by_name read
    (default_is_table ordered c.args.judged c.in_ok-table-in-Absent.table c.in_ok-table-in-Absent.ensures c.in-Absent.is read) under)
    c.under_table-in-Absent.ensures
