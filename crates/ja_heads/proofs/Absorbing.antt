-- Whether a class absorbs, by its nearest library superclass.
use Rattle.std.proofs.Common.{◌≡◌, ℕ, Bool, true, false, not, List, refl, sym, ◌∙◌}
use Rattle.std.specs.Prelude.{◌↔◌, IsTrue, bytes_eq}
use Rattle.std.proofs.lemmas.Slice.Eq.{bytes_eq-Decides}
use Rattle.ja_ir.specs.declared.head.ClassHead.{ClassHead}
use Rattle.ja_supertypes.specs.Supertypes.{object_name}
use Rattle.ja_supertypes.specs.LibraryTypes.{IsNearest}
use Rattle.ja_supertypes.proofs.Nearest.{nearest-one}
use Rattle.ja_heads.specs.Classes.{IsAbsorbing}

-- a class whose nearest library superclass is known
pub absorbing-named : (heads : List ClassHead) (c : ℕ) (name : List ℕ) (b : Bool) → IsNearest heads c name → b ≡ not (bytes_eq name object_name) → IsTrue b ↔ IsAbsorbing heads c
absorbing-named heads c name b near is = (to b is, from b is)
  where
    to : (v : Bool) → v ≡ not (bytes_eq name object_name) → IsTrue v → IsAbsorbing heads c
    to v e t = record { name = name; nearest = near; other = λ same. different (bytes_eq name object_name) ((bytes_eq-Decides name object_name).1 same) (sym e ∙ t) }
      where
        different : (x : Bool) → x ≡ true → not x ≡ true → ⊥
        different true p q = cc q
        different false p q = cc p

    from : (v : Bool) → v ≡ not (bytes_eq name object_name) → IsAbsorbing heads c → IsTrue v
    from v e a = e ∙ denied (bytes_eq name object_name) (λ same. a.other (nearest-one heads c a.name name a.nearest near ∙ (bytes_eq-Decides name object_name).0 same))
      where
        denied : (x : Bool) → (x ≡ true → ⊥) → not x ≡ true
        denied true f = absurd (f refl)
        denied false f = refl
