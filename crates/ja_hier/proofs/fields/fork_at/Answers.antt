use Rattle.std.proofs.Common.{arith}
use Rattle.ja_hier.proofs.Straight.{fork-read, fork-inside}
use Rattle.ja_hier.proofs.fields.fork_at.Goals as goal

pub overflow_cast-result : goal.overflow_cast-result
overflow_cast-result c =
    omega (arith, fork-inside c.args.tables.now.classes c.args.tables.now.forks c.args.class c.at.result.now c.requires.indexed.forks c.at.ensures c.requires.inside, c.requires.indexed.numbered.classes)

pub returns : goal.returns
returns c = record {
  straight = fork-read c.args.tables.now.classes c.args.tables.now.forks c.args.class c.at.result.now c.requires.indexed.forks c.at.ensures c.requires.inside;
  inside = fork-inside c.args.tables.now.classes c.args.tables.now.forks c.args.class c.at.result.now c.requires.indexed.forks c.at.ensures c.requires.inside;
}
