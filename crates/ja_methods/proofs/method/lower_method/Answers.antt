use Rattle.std.proofs.Common.{◌≡◌, ◌⊎◌, inl, inr, ℕ, List, Result, Ok, Err}
use Rattle.std.specs.Prelude.{IfOk, IfErr, MatchResult}
use Rattle.ja_ir.specs.declared.head.ClassHead.{ClassHead}
use Rattle.ja_ir.specs.declared.method.Method.{Method}
use Rattle.ja_class.specs.Meaning.{ClassSpelled}
use Rattle.ja_lib.specs.Content.{Content}
use Rattle.ja_methods.specs.declared.fault.MethodFault.{MethodFault}
use Rattle.ja_methods.specs.declared.fault.MethodFault.TheVariants as faults
use Rattle.ja_methods.specs.declared.method.Lowered.{Lowered}
use Rattle.ja_methods.specs.Method.{IsMethodOf}
use Rattle.ja_methods.specs.Refusal.{IsRefused}
use Rattle.ja_methods.proofs.method.lower_method.Goals as goal

module _ (heads : List ClassHead) (table : Content) (class : ClassSpelled) (c m : ℕ) where
  only : ((method other : Method) → IsMethodOf heads table class c m method → IsMethodOf heads table class c m other → method ≡ other)
      → ((method : Method) (refusal : MethodFault) → IsMethodOf heads table class c m method → IsRefused heads class c m refusal → ⊥)
      → (result : Result Lowered MethodFault) → IfOk result (λ l. IsMethodOf heads table class c m l.method) → IfErr result (λ f. (f ≡ faults.Memory) ⊎ IsRefused heads class c m f)
      → (method : Method) → IsMethodOf heads table class c m method → MatchResult result (λ l. l.method ≡ method) (λ f. f ≡ faults.Memory)
  only one both (Ok l) ok err method is = one l.method method ok is
  only one both (Err f) ok (inl memory) method is = memory
  only one both (Err f) ok (inr refused) method is = absurd (both method f is refused)

  first : ((refusal other : MethodFault) → IsRefused heads class c m refusal → IsRefused heads class c m other → refusal ≡ other)
      → ((method : Method) (refusal : MethodFault) → IsMethodOf heads table class c m method → IsRefused heads class c m refusal → ⊥)
      → (result : Result Lowered MethodFault) → IfOk result (λ l. IsMethodOf heads table class c m l.method) → IfErr result (λ f. (f ≡ faults.Memory) ⊎ IsRefused heads class c m f)
      → (refusal : MethodFault) → IsRefused heads class c m refusal → MatchResult result (λ _. ⊥) (λ f. (f ≡ faults.Memory) ⊎ (f ≡ refusal))
  first one both (Ok l) ok err refusal is = both l.method refusal ok is
  first one both (Err f) ok (inl memory) refusal is = inl memory
  first one both (Err f) ok (inr refused) refusal is = inr (one f refusal refused is)

pub returns-clause-only : goal.returns-clause-only
returns-clause-only c =
    only c.args.hier.now c.args.table.now c.args.class.now c.args.c.0 c.args.m
    (c.law_one_method.ensures.one_method c.args.hier.now c.args.table.now c.args.class.now c.args.c.0 c.args.m)
    (c.law_one_method.ensures.not_both c.args.hier.now c.args.table.now c.args.class.now c.args.c.0 c.args.m)
    c.method_or_refusal.result c.method_or_refusal.ensures.ok c.method_or_refusal.ensures.refused

pub returns-clause-first : goal.returns-clause-first
returns-clause-first c =
    first c.args.hier.now c.args.table.now c.args.class.now c.args.c.0 c.args.m
    (c.law_one_method.ensures.one_refusal c.args.hier.now c.args.class.now c.args.c.0 c.args.m)
    (c.law_one_method.ensures.not_both c.args.hier.now c.args.table.now c.args.class.now c.args.c.0 c.args.m)
    c.method_or_refusal.result c.method_or_refusal.ensures.ok c.method_or_refusal.ensures.refused
