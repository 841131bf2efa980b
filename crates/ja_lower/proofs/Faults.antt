-- Faults of the parts are refusals of the whole.
use Rattle.std.proofs.Common.{◌≡◌, ℕ, ◌⊎◌, inl, inr, List, length, subst, arith}
use Rattle.std.specs.Prelude.{Some, slice_get}
use Rattle.std.proofs.lemmas.Option.{slice_get_within}
use Rattle.ja_ir.specs.declared.head.ClassHead.{ClassHead}
use Rattle.ja_ir.specs.declared.method.Method.{Method}
use Rattle.ja_class.specs.Meaning.{ClassSpelled}
use Rattle.ja_lib.specs.Content.{Content}
use Rattle.ja_supertypes.proofs.Falls.{supertype-target}
use Rattle.ja_hier.specs.declared.fault.HierFault.{HierFault}
use Rattle.ja_hier.specs.declared.fault.HierFault.TheVariants.{PlatformClass, Duplicate, Cycle, CrossPackage, Memory}
use Rattle.ja_hier.specs.Faults.{IsFault, IsHierarchy}
use Rattle.ja_methods.specs.declared.fault.MethodFault.{MethodFault}
use Rattle.ja_methods.specs.declared.fault.MethodFault.TheVariants as faults
use Rattle.ja_methods.specs.Refusal.{IsRefused}
use Rattle.ja_lower.specs.declared.fault.LowerFault.{LowerFault}
use Rattle.ja_lower.specs.declared.fault.LowerFault.TheVariants.{Refused, Memory as NoMemory}
use Rattle.ja_lower.specs.Program.{IsLowerFault, MethodsUpTo, heads_of, of_hierarchy, of_method}
use Rattle.ja_lower.specs.Refusals.{hier_refusal, method_refusal}
use Rattle.ja_lower.specs.InnerRefusals.{IsOrMemory, NamesOneOf}
use Rattle.ja_lower.specs.InnerSteps.{MethodOrRefusal}
use Rattle.ja_lower.proofs.UpTo.{no-memory, none-refused}

-- a fault of a hierarchy names a class of the list
pub names-one : (heads : List ClassHead) (size : ℕ) (fault : HierFault) → size ≡ length heads → IsFault heads fault → NamesOneOf size fault
names-one heads size (PlatformClass c) e is = omega (arith, slice_get_within heads c is.holds.head is.holds.found)
names-one heads size (Duplicate c) e is = omega (arith, slice_get_within heads c is.1.holds.head is.1.holds.found)
names-one heads size (Cycle c) e is = omega (arith, supertype-target heads c c is.2.holds)
names-one heads size (CrossPackage c k) e is = omega (arith, slice_get_within heads c is.4.holds.head is.4.holds.found)
names-one heads size Memory e is = tt

-- a fault of the hierarchy refuses the classes
pub hierarchy-refused : (files : List (List ℕ)) (classes : List ClassSpelled) (heads : List ClassHead) (fault : HierFault) (found : LowerFault) → heads ≡ heads_of classes → IsFault heads fault
    → IsOrMemory (hier_refusal files fault) found → IsLowerFault files classes found
hierarchy-refused files classes heads fault (Refused refusal) e is said = of_hierarchy fault (subst (λ (l : List ClassHead). IsFault l fault) e is) said
hierarchy-refused files classes heads fault NoMemory e is said = tt

-- the first method that is refused refuses the classes
pub method-refused : MethodOrRefusal → (files : List (List ℕ)) (table : Content) (classes : List ClassSpelled) (c k : ℕ) (methods : List Method) (class : ClassSpelled) (file : List ℕ) (fault : MethodFault) (found : LowerFault)
    → IsHierarchy (heads_of classes) → MethodsUpTo (heads_of classes) table classes c k methods → slice_get classes c ≡ Some class → slice_get files c ≡ Some file
    → (fault ≡ faults.Memory) ⊎ IsRefused (heads_of classes) class c k fault → IsOrMemory (method_refusal file k fault) found → IsLowerFault files classes found
method-refused exclude files table classes c k methods class file fault (Refused refusal) valid up at file-at (inl lost) said = absurd (no-memory file k fault refusal said lost)
method-refused exclude files table classes c k methods class file fault (Refused refusal) valid up at file-at (inr refused) said =
    of_method c k valid (record { class = class; at = at; file = file; file_at = file-at; fault = fault; refused = refused; is = said }) (none-refused exclude files table classes c k methods up)
method-refused exclude files table classes c k methods class file fault NoMemory valid up at file-at either said = tt
