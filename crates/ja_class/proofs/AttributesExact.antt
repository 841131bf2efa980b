-- The attributes of a class file are exact, with the grammar as what they mean.
use Rattle.std.proofs.Common.{ℕ, ◌⊎◌, inl, inr, Bool}
use Rattle.ja_bytes.specs.Reading.{Reading}
use Rattle.ja_pool.specs.Table.{Table}
use Rattle.ja_attributes.specs.Part.{Part, IsExact}
use Rattle.ja_attributes.specs.Attribute.{PassesAny, PassesField, PassesMethod}
use Rattle.ja_attributes.specs.Faults as judged
use Rattle.ja_attributes.proofs.Exact as exact
use Rattle.ja_attributes.proofs.Lists.{any_spelled, spelled_any}
use Rattle.ja_attributes.proofs.FieldGrammar.{field_spelled, spelled_field}
use Rattle.ja_attributes.proofs.MethodGrammar.{method_spelled, spelled_method}
use Rattle.ja_attributes.proofs.Parts.{renamed_exact}
use Rattle.ja_class.specs.Faults.{outside_fault, method_fault}
use Rattle.ja_class.specs.Meaning.{needs_code}
use Rattle.ja_class.specs.ClassFault.{field_attributes, method_attributes, class_attributes}

-- an exact part by another name of what it means
module _ {F A : Type 0} (part : Part F A) (Means : Reading → A → Reading → Type 0) (there : (old : Reading) (a : A) (new : Reading) → part.passes old a new → Means old a new)
    (back : (old : Reading) (a : A) (new : Reading) → Means old a new → part.passes old a new) (is_exact : IsExact part) where
  found : (old : Reading) → ((a : A) × (new : Reading) × part.passes old a new) ⊎ ((f : F) × part.fault old f) → ((a : A) × (new : Reading) × Means old a new) ⊎ ((f : F) × part.fault old f)
  found old (inl r) = inl (r.0, r.1, there old r.0 r.1 r.2)
  found old (inr r) = inr r

  same_exact : IsExact (record { passes = Means; fault = part.fault })
  same_exact = record {
    forward = λ old a new p. is_exact.forward old a new (back old a new p);
    either = λ old bytes. found old (is_exact.either old bytes);
    not_both = λ old a new f p h. is_exact.not_both old a new f (back old a new p) h;
    one_value = λ old a b new other p q. is_exact.one_value old a b new other (back old a new p) (back old b other q);
    one_fault = is_exact.one_fault;
  }

pub field_attributes_exact : (table : Table) → IsExact (field_attributes table)
field_attributes_exact table =
    renamed_exact outside_fault _ (same_exact (judged.field_attributes table) (λ old constant new. PassesField table old new constant) (λ old constant new p. field_spelled table old constant new p)
    (λ old constant new p. spelled_field table old constant new p) (exact.field_attributes_exact table))

pub method_attributes_exact : (table : Table) (number flags at : ℕ) → IsExact (method_attributes table number flags at)
method_attributes_exact table number flags at =
    let needs : Bool = needs_code flags in
    renamed_exact (method_fault number) _ (same_exact (judged.method_attributes table needs at) (λ old code new. PassesMethod table needs old new code) (λ old code new p. method_spelled table needs at old code new p)
    (λ old code new p. spelled_method table needs at old code new p) (exact.method_attributes_exact table needs at))

pub class_attributes_exact : (table : Table) → IsExact (class_attributes table)
class_attributes_exact table =
    renamed_exact outside_fault _ (same_exact (judged.any_attributes table) (λ old _ new. PassesAny table old new) (λ old u new p. any_spelled table old new p)
    (λ old u new p. spelled_any table old new p) (exact.any_attributes_exact table))
