use Rattle.ja_hier.specs.declared.starts.Member.TheVariants.{Method}
use Rattle.ja_hier.specs.Members.{count_of}
use Rattle.ja_hier.proofs.Numbers.{start-read}
use Rattle.ja_hier.proofs.methods.first_of.Goals as goal

pub returns : goal.returns
returns c =
    start-read c.args.tables.now.classes (count_of Method) c.args.tables.now.method_starts c.args.class c.at.result.now c.requires.indexed.method_starts c.at.ensures c.requires.inside
