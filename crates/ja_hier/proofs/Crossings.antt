-- Methods that redeclare a package-private method of a superclass in another package.
use Rattle.std.proofs.Common.{◌≡◌, ℕ, ◌<◌, true, List, length, sym, ap, ◌∙◌, subst}
use Rattle.std.specs.Prelude.{Some, Contains, map, slice_get}
use Rattle.std.proofs.lemmas.Option.{slice_get_within}
use Rattle.ja_ir.specs.declared.head.ClassHead.{ClassHead}
use Rattle.ja_ir.specs.declared.head.HeadMethod.{HeadMethod}
use Rattle.ja_base.specs.Index.{numbers_at}
use Rattle.ja_base.specs.declared.index.NumbersByName.{NumbersByName}
use Rattle.ja_hier.specs.declared.starts.Member.TheVariants.{Method}
use Rattle.ja_hier.specs.Faults.{Crosses, CrossesPackage, is_virtual}
use Rattle.ja_hier.specs.InnerIndex.{HidesAt, IsIndexOf}
use Rattle.ja_hier.proofs.Indexed.{contains-map}

-- what a method of a class does that redeclares a package-private method
pub crosses-at : (heads : List ClassHead) (c k : ℕ) (head : ClassHead) (method : HeadMethod) → slice_get heads c ≡ Some head → slice_get head.methods k ≡ Some method → CrossesPackage heads c k → Crosses heads c head method
crosses-at heads c k head method found declared crossing =
    let eq : Some crossing.head ≡ Some head = sym crossing.found ∙ found in
    let same : crossing.head ≡ head = cc eq in
    let eq-method : Some crossing.method ≡ Some method = sym crossing.declared ∙ ap (λ (h : ClassHead). slice_get h.methods k) same ∙ declared in
    let same-method : crossing.method ≡ method = cc eq-method in
    subst (λ (m : HeadMethod). Crosses heads c head m) same-method (subst (λ (h : ClassHead). Crosses heads c h crossing.method) same crossing.crosses)

pub crossing-inside : (heads : List ClassHead) (c k : ℕ) (head : ClassHead) → slice_get heads c ≡ Some head → CrossesPackage heads c k → k < length head.methods
crossing-inside heads c k head found crossing =
    let eq : Some crossing.head ≡ Some head = sym crossing.found ∙ found in
    let same : crossing.head ≡ head = cc eq in
    slice_get_within head.methods k crossing.method (ap (λ (h : ClassHead). slice_get h.methods k) (sym same) ∙ crossing.declared)

-- a method that is hidden at a noted class crosses
pub crosses-from : (heads : List ClassHead) (c : ℕ) (head : ClassHead) (method : HeadMethod) (d : ℕ) → is_virtual method.flags ≡ true → HidesAt heads c head method d → Crosses heads c head method
crosses-from heads c head method d virtual at = record { redeclares = virtual; d = d; superclass = at.superclass; above = at.above; found = at.found; hides = at.hides }

-- a class whose method is redeclared is noted for the name
pub crosses-noted : (heads : List ClassHead) (c : ℕ) (head : ClassHead) (method : HeadMethod) (index : NumbersByName) → IsIndexOf Method heads index → Crosses heads c head method
    → (d : ℕ) × Contains (numbers_at index method.name) d × HidesAt heads c head method d
crosses-noted heads c head method index are crosses =
    let listed : Contains (map (λ (m : HeadMethod). m.name) crosses.above.methods) crosses.hides.hidden.name =
    contains-map (λ (m : HeadMethod). m.name) crosses.above.methods crosses.hides.hidden crosses.hides.declared in (
      crosses.d,
      subst (λ (name : List ℕ). Contains (numbers_at index name) crosses.d) crosses.hides.same_name (are.complete crosses.hides.hidden.name crosses.d crosses.above crosses.found listed),
      record { superclass = crosses.superclass; above = crosses.above; found = crosses.found; hides = crosses.hides },
    )
