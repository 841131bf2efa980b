use Rattle.std.proofs.Common.{◌∙◌, length, refl, sym, ap, subst, arith}
use Rattle.ja_facts.specs.ClassTables.{ClassTable, token_count, no_members}
use Rattle.ja_class_tables.specs.InnerPool.{row_of}
use Rattle.ja_class_tables.specs.InnerMembers.{params_in, PutsParams}
use Rattle.ja_class_tables.proofs.Rows.{read-at}
use Rattle.ja_class_tables.proofs.Written.{all-params-step, params-size, few-params}
use Rattle.ja_class_tables.proofs.members.put_all_params.Goals as goal

pub loop-m-init : goal.loop-m-init
loop-m-init c = record {
  size = λ m. ap (λ (table : ClassTable). length (row_of table.params m)) c.requires.empty ∙ params-size (no_members (token_count c.args.p.now)) c.args.p.now.methods m;
  each = λ m lt. absurd (omega arith);
  others = refl;
}

pub put_params-requires-clause-inside : goal.put_params-requires-clause-inside
put_params-requires-clause-inside c =
    let m = c.loop-m.m in
    let item = c.method-item.result in
    let at = read-at c.as_slice-method-items.result.now c.args.p.now.methods m item (c.as_slice-method-items.ensures ∙ c.methods.ensures.same) c.loop-m-test.true c.method-item.is in
    c.loop-m.invariant.size m ∙ ap params_in at ∙ sym c.param_count.ensures

pub loop-m-preserved : goal.loop-m-preserved
loop-m-preserved c =
    let m = c.loop-m.m in
    let item = c.method-item.result in
    let at = read-at c.as_slice-method-items.result.now c.args.p.now.methods m item (c.as_slice-method-items.ensures ∙ c.methods.ensures.same) c.loop-m-test.true c.method-item.is in
    all-params-step c.args.p.now c.args.net.now m item c.args.sets.now c.loop-m.sets c.put_params.new.sets at c.loop-m.invariant
    (subst (λ n. PutsParams c.args.net.now m n c.loop-m.sets c.put_params.new.sets) c.param_count.ensures c.in_ok-put_params.ensures)

pub overflow_cast-param_count : goal.overflow_cast-param_count
overflow_cast-param_count c =
    let m = c.loop-m.m in
    let item = c.method-item.result in
    let at = read-at c.as_slice-method-items.result.now c.args.p.now.methods m item (c.as_slice-method-items.ensures ∙ c.methods.ensures.same) c.loop-m-test.true c.method-item.is in
    omega (arith, c.param_count.ensures, few-params c.args.p.now m item c.methods.ensures.whole at)
