use Rattle.std.proofs.Common.{rules}
use Rattle.ja_supertypes.proofs.FirstPlaces.{added}
use Rattle.ja_supertypes.proofs.library.add.Goals as goal
use Rattle.ja_supertypes.proofs.library.add.Goals.{in-Ok, in-Err}

pub returns : goal.returns
returns c = elim c.match-insert.branch [
  | in-Ok w ↦ rw w.result-is (λ names is. added c.args.found.now.keys c.insert.new.self.keys names c.in_ok-copy.copy c.args.name.now w.in-Ok.ensures.keys c.in_ok-copy.ensures is)
  | in-Err w ↦ rw w.result-is (search rules)
]
