use Rattle.std.proofs.Common.{◌≡◌, ◌+◌, ◌≤◌, take}
use Rattle.std.specs.Prelude.{count_by}
use Rattle.ja_lower.specs.Folder.{is_read}
use Rattle.ja_reading.proofs.OneByOne.{AreJudgedUpTo}
use Rattle.ja_reading.proofs.reading.read_all.Given as goal

abbrev pub invariant-loop-name : goal.invariant-loop-name
invariant-loop-name g l = record {
  judged : AreJudgedUpTo (g.F.Folder.told l.fn.folder) l.names l.name-index l.judged;
  held : g.F.Folder.told l.folder ≡ g.F.Folder.told l.fn.folder;
  grows : g.F.Folder.faults l.fn.folder ≤ g.F.Folder.faults l.folder;
  calls : g.F.Folder.calls l.folder ≤ g.F.Folder.calls l.fn.folder + count_by is_read (take l.name-index l.names);
}
