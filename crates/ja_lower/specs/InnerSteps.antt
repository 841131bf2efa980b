-- How far the methods of the classes have been gone through. Only private functions cite this.
use Rattle.std.specs.Prelude.{ℕ, List, length}
use Rattle.ja_ir.specs.declared.head.ClassHead.{ClassHead}
use Rattle.ja_ir.specs.declared.method.Method.{Method}
use Rattle.ja_ir.specs.declared.entry.Site.{Site}
use Rattle.ja_class.specs.Meaning.{ClassSpelled}
use Rattle.ja_lib.specs.Content.{Content}
use Rattle.ja_methods.specs.declared.fault.MethodFault.{MethodFault}
use Rattle.ja_methods.specs.Method.{IsMethodOf}
use Rattle.ja_methods.specs.Refusal.{IsRefused}
use Rattle.ja_lower.specs.Program.{MethodsUpTo, SitesUpTo, heads_of}

-- these are the methods before method k of class c, and their sites
pub record AreUpTo (table : Content) (classes : List ClassSpelled) (c k : ℕ) (methods : List Method) (sites : List Site) : Type 0 where
  pub methods_are : MethodsUpTo (heads_of classes) table classes c k methods
  pub sites_are : SitesUpTo (heads_of classes) methods (length methods) sites

-- a method and a refusal of it exclude each other
abbrev pub MethodOrRefusal : Type 0
MethodOrRefusal =
    (heads : List ClassHead) (table : Content) (class : ClassSpelled) (c m : ℕ) (method : Method) (fault : MethodFault)
    → IsMethodOf heads table class c m method → IsRefused heads class c m fault → ⊥
