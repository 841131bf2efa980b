use Rattle.std.proofs.Common.{ℕ}
use Rattle.std.specs.Prelude.{Option}
use Rattle.ja_attributes.specs.Attribute.{PassesField}
use Rattle.ja_attributes.specs.Faults.{field_attributes}
use Rattle.ja_attributes.proofs.Exact.{field_attributes_exact}
use Rattle.ja_attributes.proofs.FieldGrammar.{field_spelled, spelled_field}
use Rattle.ja_attributes.proofs.Answered.{read_ok, read_fault, read_only, read_first}
use Rattle.ja_attributes.proofs.field.field_attributes.Goals as goal

pub returns-clause-ok : goal.returns-clause-ok
returns-clause-ok c =
    let old = c.args.c.now in
    let new = c.all_attributes.new.c in
    read_ok (λ (x : Option ℕ). x) (field_attributes c.args.pool.now) old new (PassesField c.args.pool.now old new) (λ a p. field_spelled c.args.pool.now old a new p) c.all_attributes.result c.all_attributes.ensures

pub returns-clause-only : goal.returns-clause-only
returns-clause-only c = λ other constant p.
    read_only (λ (x : Option ℕ). x) (field_attributes c.args.pool.now) c.args.c.now c.all_attributes.new.c (field_attributes_exact c.args.pool.now) c.all_attributes.result c.all_attributes.ensures
    constant other (spelled_field c.args.pool.now c.args.c.now constant other p)

pub returns-clause-fault : goal.returns-clause-fault
returns-clause-fault c = read_fault (λ (x : Option ℕ). x) (field_attributes c.args.pool.now) c.args.c.now c.all_attributes.new.c c.all_attributes.result c.all_attributes.ensures

pub returns-clause-first : goal.returns-clause-first
returns-clause-first c =
    read_first (λ (x : Option ℕ). x) (field_attributes c.args.pool.now) c.args.c.now c.all_attributes.new.c (field_attributes_exact c.args.pool.now) c.all_attributes.result c.all_attributes.ensures
