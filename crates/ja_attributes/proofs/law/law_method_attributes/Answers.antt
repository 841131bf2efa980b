use Rattle.ja_attributes.specs.Attribute.{PassesMethod}
use Rattle.ja_attributes.specs.Faults.{method_attributes}
use Rattle.ja_attributes.proofs.Exact.{method_attributes_exact}
use Rattle.ja_attributes.proofs.MethodGrammar.{method_spelled, spelled_method}
use Rattle.ja_attributes.proofs.Answered.{law_either}
use Rattle.ja_attributes.proofs.law.law_method_attributes.Goals as goal

pub returns : goal.returns
returns c = record {
  either = λ table needs flags_at old bytes.
      law_either (method_attributes table needs flags_at) old (λ code new. PassesMethod table needs old new code)
      (λ code new p. method_spelled table needs flags_at old code new p) ((method_attributes_exact table needs flags_at).either old bytes);
  not_both = λ table needs flags_at old new code fault p h. (method_attributes_exact table needs flags_at).not_both old code new fault (spelled_method table needs flags_at old code new p) h;
  one_meaning = λ table needs old new other a b p q.
      (method_attributes_exact table needs 0).one_value old a b new other (spelled_method table needs 0 old a new p) (spelled_method table needs 0 old b other q);
  one_fault = λ table needs flags_at old fault other h k. (method_attributes_exact table needs flags_at).one_fault old fault other h k;
}
