use Rattle.std.specs.Prelude.{Option}
use Rattle.ja_attributes.specs.declared.fault.AttributeFault.TheVariants.{Memory}
use Rattle.ja_attributes.specs.declared.code.MethodCode.{MethodCode}
use Rattle.ja_attributes.specs.Attribute.{PassesMethod}
use Rattle.ja_attributes.specs.Faults.{method_attributes}
use Rattle.ja_attributes.proofs.Exact.{method_attributes_exact}
use Rattle.ja_attributes.proofs.MethodGrammar.{method_spelled, spelled_method}
use Rattle.ja_attributes.proofs.Answered.{unless_ok, unless_fault, unless_only, unless_first}
use Rattle.ja_attributes.proofs.method.method_attributes.Goals as goal

pub returns-clause-ok : goal.returns-clause-ok
returns-clause-ok c =
    let table = c.args.pool.now in
    let old = c.args.c.now in
    let new = c.all_attributes.new.c in
    unless_ok Memory (λ (x : Option MethodCode). x) (method_attributes table c.args.needs_code c.args.flags_at) old new (PassesMethod table c.args.needs_code old new)
    (λ a p. method_spelled table c.args.needs_code c.args.flags_at old a new p) c.all_attributes.result c.all_attributes.ensures

pub returns-clause-only : goal.returns-clause-only
returns-clause-only c = λ other code p.
    let table = c.args.pool.now in
    unless_only Memory (λ (x : Option MethodCode). x) (method_attributes table c.args.needs_code c.args.flags_at) c.args.c.now c.all_attributes.new.c
    (method_attributes_exact table c.args.needs_code c.args.flags_at) c.all_attributes.result c.all_attributes.ensures code other
    (spelled_method table c.args.needs_code c.args.flags_at c.args.c.now code other p)

pub returns-clause-fault : goal.returns-clause-fault
returns-clause-fault c =
    unless_fault Memory (λ (x : Option MethodCode). x) (method_attributes c.args.pool.now c.args.needs_code c.args.flags_at) c.args.c.now c.all_attributes.new.c c.all_attributes.result c.all_attributes.ensures

pub returns-clause-first : goal.returns-clause-first
returns-clause-first c =
    unless_first Memory (λ (x : Option MethodCode). x) (method_attributes c.args.pool.now c.args.needs_code c.args.flags_at) c.args.c.now c.all_attributes.new.c
    (method_attributes_exact c.args.pool.now c.args.needs_code c.args.flags_at) c.all_attributes.result c.all_attributes.ensures
