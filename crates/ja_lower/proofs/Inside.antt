-- A refusal is one of a method that the class declares.
use Rattle.std.proofs.Common.{ℕ, ◌<◌, List, length}
use Rattle.std.proofs.lemmas.Option.{slice_get_within}
use Rattle.ja_ir.specs.declared.head.ClassHead.{ClassHead}
use Rattle.ja_class.specs.Meaning.{ClassSpelled}
use Rattle.ja_methods.specs.declared.fault.MethodFault.{MethodFault}
use Rattle.ja_methods.specs.Refusal.{IsRefused, native, coded}

pub refused-inside : (heads : List ClassHead) (class : ClassSpelled) (c m : ℕ) (fault : MethodFault) → IsRefused heads class c m fault → m < length class.head.methods
refused-inside heads class c m fault (native {head = h} e a) = slice_get_within class.head.methods m h e
refused-inside heads class c m fault (coded {head = h} e a r) = slice_get_within class.head.methods m h e
