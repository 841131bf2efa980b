use Rattle.std.proofs.Common.{◌<◌, ◌+◌, ◌^◌, ap, arith}
use Rattle.ja_hier.proofs.Numbers.{method-number-is, method-number-fits}
use Rattle.ja_hier.proofs.methods.method_number.Goals as goal

pub overflow_add-result : goal.overflow_add-result
overflow_add-result c =
    let fits : c.at.result.now + c.args.place < 2 ^ 26 =
    method-number-fits c.args.tables.now.classes c.args.tables.now.method_starts c.args.skip c.args.name.now c.args.desc.now c.args.class c.args.place c.at.result.now c.requires.inside c.requires.indexed.method_starts c.at.ensures c.requires.declared c.requires.indexed.numbered.methods in
    omega (arith, fits)

pub overflow_cast-result : goal.overflow_cast-result
overflow_cast-result c =
    let fits : c.at.result.now + c.args.place < 2 ^ 26 =
    method-number-fits c.args.tables.now.classes c.args.tables.now.method_starts c.args.skip c.args.name.now c.args.desc.now c.args.class c.args.place c.at.result.now c.requires.inside c.requires.indexed.method_starts c.at.ensures c.requires.declared c.requires.indexed.numbered.methods in
    omega (arith, fits)

pub returns : goal.returns
returns c = ap (λ n. record { 0 = n }) (method-number-is c.args.tables.now.classes c.args.tables.now.method_starts c.args.class c.args.place c.at.result.now c.requires.inside c.requires.indexed.method_starts c.at.ensures)
