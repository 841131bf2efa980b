use Rattle.ja_clauses.specs.Tables.{tests_by}
use Rattle.ja_formula.proofs.Within.{end_within}
use Rattle.ja_formula.proofs.ends.end_node.Goals as goal

pub rule_node-requires-clause-within : goal.rule_node-requires-clause-within
rule_node-requires-clause-within g c κs within = end_within c.args.frame.now (tests_by c.args.before.now) c.args.instr.now.op c.args.instr.now.height c.requires.roomy.finds c.requires.roomy.room c.args.end c.requires.there
