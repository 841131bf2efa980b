use Rattle.std.proofs.Common.{◌<◌, ◌+◌, ◌^◌, ap, arith}
use Rattle.ja_hier.proofs.Numbers.{field-number-is, field-number-fits}
use Rattle.ja_hier.proofs.fields.field_number.Goals as goal

pub overflow_add-result : goal.overflow_add-result
overflow_add-result c =
    let fits : c.at.result.now + c.args.place < 2 ^ 26 =
    field-number-fits c.args.tables.now.classes c.args.tables.now.field_starts c.args.name.now c.args.desc.now c.args.class c.args.place c.at.result.now c.requires.inside c.requires.indexed.field_starts c.at.ensures c.requires.declared c.requires.indexed.numbered.fields in
    omega (arith, fits)

pub overflow_cast-result : goal.overflow_cast-result
overflow_cast-result c =
    let fits : c.at.result.now + c.args.place < 2 ^ 26 =
    field-number-fits c.args.tables.now.classes c.args.tables.now.field_starts c.args.name.now c.args.desc.now c.args.class c.args.place c.at.result.now c.requires.inside c.requires.indexed.field_starts c.at.ensures c.requires.declared c.requires.indexed.numbered.fields in
    omega (arith, fits)

pub returns : goal.returns
returns c = ap (λ n. record { 0 = n }) (field-number-is c.args.tables.now.classes c.args.tables.now.field_starts c.args.class c.args.place c.at.result.now c.requires.inside c.requires.indexed.field_starts c.at.ensures)
