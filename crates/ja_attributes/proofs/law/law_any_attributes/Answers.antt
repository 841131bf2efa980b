use Rattle.std.proofs.Common.{◌⊎◌, inl, inr}
use Rattle.std.specs.Prelude.{⊤}
use Rattle.ja_bytes.specs.Reading.{Reading}
use Rattle.ja_pool.specs.Table.{Table}
use Rattle.ja_attributes.specs.declared.fault.AttributeFault.{AttributeFault}
use Rattle.ja_attributes.specs.Attribute.{PassesAny}
use Rattle.ja_attributes.specs.Faults.{any_attributes, IsAnyFault}
use Rattle.ja_attributes.proofs.Exact.{any_attributes_exact}
use Rattle.ja_attributes.proofs.Lists.{any_spelled, spelled_any}
use Rattle.ja_attributes.proofs.law.law_any_attributes.Goals as goal

seen : (table : Table) (old : Reading) → ((u : ⊤) × (new : Reading) × (any_attributes table).passes old u new) ⊎ ((f : AttributeFault) × (any_attributes table).fault old f)
    → ((new : Reading) × PassesAny table old new) ⊎ ((f : AttributeFault) × IsAnyFault table old f)
seen table old (inl r) = inl (r.1, any_spelled table old r.1 r.2)
seen table old (inr r) = inr r

pub returns : goal.returns
returns c = record {
  either = λ table old bytes. seen table old ((any_attributes_exact table).either old bytes);
  not_both = λ table old new fault p h. (any_attributes_exact table).not_both old tt new fault (spelled_any table old new p) h;
  one_end = λ table old new other p q. ((any_attributes_exact table).one_value old tt tt new other (spelled_any table old new p) (spelled_any table old other q)).1;
  one_fault = λ table old fault other h k. (any_attributes_exact table).one_fault old fault other h k;
}
