use Rattle.ja_supertypes.specs.InnerTypes.{AreNotedBelow}
use Rattle.ja_supertypes.proofs.library.library_types.Given as goal

abbrev pub invariant-loop-count : goal.invariant-loop-count
invariant-loop-count l = AreNotedBelow l.tables l.types.own.items l.types.all.items l.count
