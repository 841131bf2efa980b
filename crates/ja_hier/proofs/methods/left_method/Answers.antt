use Rattle.ja_hier.proofs.MethodWays.{left-above}
use Rattle.ja_supertypes.proofs.Places.{superinterface-target}
use Rattle.ja_hier.proofs.methods.left_method.Goals as goal

pub method_in-requires-clause-inside : goal.method_in-requires-clause-inside
method_in-requires-clause-inside c =
    superinterface-target c.args.tables.now.classes c.args.class c.args.interface (left-above c.args.tables.now.classes c.args.name.now c.args.desc.now c.args.class c.args.interface c.requires.left)

pub method_number-requires-clause-inside : goal.method_number-requires-clause-inside
method_number-requires-clause-inside c =
    superinterface-target c.args.tables.now.classes c.args.class c.args.interface (left-above c.args.tables.now.classes c.args.name.now c.args.desc.now c.args.class c.args.interface c.requires.left)
