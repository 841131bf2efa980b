use Rattle.std.proofs.Common.{◌≡◌, take}
use Rattle.std.specs.Prelude.{sum_by}
use Rattle.ja_hier.specs.declared.starts.Member.TheVariants.{Method}
use Rattle.ja_hier.specs.Members.{count_of}
use Rattle.ja_heads.specs.Entries.{ClassesAdd}
use Rattle.ja_heads.proofs.entry.entries.Given as goal

abbrev pub invariant-loop-c : goal.invariant-loop-c
invariant-loop-c l = record {
  first : l.first ≡ sum_by (count_of Method) (take l.c l.heads);
  entries : ClassesAdd l.hier l.table.entries l.c l.entries;
}
