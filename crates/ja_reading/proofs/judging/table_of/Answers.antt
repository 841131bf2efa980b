use Rattle.std.proofs.Common.{List, ℕ, sym, subst}
use Rattle.ja_lib.specs.File.{IsFaultOf, IsTableFile}
use Rattle.ja_reading.proofs.Tables.{own_table, wrong_table}
use Rattle.ja_reading.proofs.judging.table_of.Goals as goal

pub returns-in-Ok : goal.returns-in-Ok
returns-in-Ok c files file named content =
    own_table files file c.in-Ok.table named (subst (λ (text : List ℕ). IsTableFile text c.in-Ok.table) (sym content) c.in-Ok.ensures.table)

pub returns-in-Some : goal.returns-in-Some
returns-in-Some c files file named content =
    wrong_table files file c.in-Err.fault c.in-Some.refusal named (subst (λ (text : List ℕ). IsFaultOf text c.in-Err.fault) (sym content) c.in-Err.ensures.fault) (sym c.in-Some.ensures)
