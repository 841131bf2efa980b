-- Faults of the classes are faults of the hierarchy.
use Rattle.std.proofs.Common.{List}
use Rattle.ja_ir.specs.declared.head.ClassHead.{ClassHead}
use Rattle.ja_supertypes.specs.declared.fault.ClassFault.{ClassFault}
use Rattle.ja_supertypes.specs.declared.fault.ClassFault.TheVariants.{PlatformClass, Duplicate, Cycle, Memory}
use Rattle.ja_supertypes.specs.Faults as supers
use Rattle.ja_hier.specs.Faults.{IsFault, of_classes}

pub class-fault : (heads : List ClassHead) (fault : ClassFault) → supers.IsFault heads fault → IsFault heads (of_classes fault)
class-fault heads (PlatformClass c) is = is
class-fault heads (Duplicate c) is = is
class-fault heads (Cycle c) is = is
class-fault heads Memory is = is
