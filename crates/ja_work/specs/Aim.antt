-- The work of a program and its facts.
use Rattle.std.specs.Prelude.{ℕ}
use Rattle.ja_node_core.specs.Tree.{Tree, branch}
use Rattle.ja_work.specs.declared.work.Work.{Work}
use Rattle.ja_work.specs.Told.{told}
use Rattle.ja_work.specs.Work.{IsWorkTree, work_falls}

-- the tree is a reduced one of the work
abbrev pub IsOfWork : Work → Tree → Type 0
IsOfWork w = IsWorkTree w.program.now (told w.program.now w.facts.now) w.frames.now

pub of_work_falls : (w : Work) (v : ℕ) (low high : Tree) → IsOfWork w (branch v low high) → IsOfWork w low × IsOfWork w high
of_work_falls w = work_falls w.program.now (told w.program.now w.facts.now) w.frames.now
