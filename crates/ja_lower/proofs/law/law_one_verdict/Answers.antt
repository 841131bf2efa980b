use Rattle.ja_lower.proofs.OneVerdict.{AreApart, one-accepted, one-refusal, accepted-or-refused}
use Rattle.ja_lower.proofs.law.law_one_verdict.Goals as goal

pub returns : goal.returns
returns c =
    let apart : AreApart =
    record {
      content = c.law_one_answer.ensures.one_content;
      table = c.law_one_answer.ensures.not_both;
      table_fault = c.law_one_answer.ensures.one_fault;
      class = c.law_spelled_or_refused.ensures.one_class;
      file = c.law_spelled_or_refused.ensures.not_both;
      class_fault = c.law_spelled_or_refused.ensures.one_fault;
    } in
    record {
      one_program = one-accepted apart c.law_one_program.ensures.one_program;
      one_refusal = one-refusal apart c.law_one_program.ensures.one_refusal;
      not_both = accepted-or-refused apart c.law_one_program.ensures.not_both;
    }
