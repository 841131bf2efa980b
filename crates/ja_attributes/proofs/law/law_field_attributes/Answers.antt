use Rattle.ja_attributes.specs.Attribute.{PassesField}
use Rattle.ja_attributes.specs.Faults.{field_attributes}
use Rattle.ja_attributes.proofs.Exact.{field_attributes_exact}
use Rattle.ja_attributes.proofs.FieldGrammar.{field_spelled, spelled_field}
use Rattle.ja_attributes.proofs.Answered.{law_either}
use Rattle.ja_attributes.proofs.law.law_field_attributes.Goals as goal

pub returns : goal.returns
returns c = record {
  either = λ table old bytes.
      law_either (field_attributes table) old (λ constant new. PassesField table old new constant) (λ constant new p. field_spelled table old constant new p)
      ((field_attributes_exact table).either old bytes);
  not_both = λ table old new constant fault p h. (field_attributes_exact table).not_both old constant new fault (spelled_field table old constant new p) h;
  one_meaning = λ table old new other a b p q. (field_attributes_exact table).one_value old a b new other (spelled_field table old a new p) (spelled_field table old b other q);
  one_fault = λ table old fault other h k. (field_attributes_exact table).one_fault old fault other h k;
}
