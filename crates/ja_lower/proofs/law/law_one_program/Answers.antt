use Rattle.ja_lower.proofs.OneProgram.{one-program, one-refusal, program-or-refusal}
use Rattle.ja_lower.proofs.law.law_one_program.Goals as goal

pub returns-clause-one_program : goal.returns-clause-one_program
returns-clause-one_program c = one-program c.law_one_method.ensures.one_method c.law_one_heads.ensures.classes c.law_one_heads.ensures.fields c.law_one_heads.ensures.entries

pub returns-clause-one_refusal : goal.returns-clause-one_refusal
returns-clause-one_refusal c = one-refusal c.law_one_method.ensures.one_refusal

pub returns-clause-not_both : goal.returns-clause-not_both
returns-clause-not_both c = program-or-refusal c.law_one_method.ensures.not_both
