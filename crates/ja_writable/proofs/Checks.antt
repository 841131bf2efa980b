-- Checks one after the other.
use Rattle.std.proofs.Common.{◌≡◌, ℕ, ◌<◌, ◌⊎◌, inl, inr, Bool, true, false, List, Option, Result, Ok, Err, sym, ap, ◌∙◌, subst}
use Rattle.std.specs.Prelude.{⊤, Decides}
use Rattle.ja_base.specs.declared.java_type.JavaType.{JavaType}
use Rattle.ja_base.specs.Descriptor.{IsMethod, words_of_all}
use Rattle.ja_bytes.specs.DescriptorText.{IsFieldDesc, IsMethodText}
use Rattle.ja_bytes.proofs.MethodText.{method_unique}
use Rattle.ja_listing.specs.declared.number.Number.{Number}
use Rattle.ja_writable.specs.declared.flaw.Flaw.{Flaw}
use Rattle.ja_writable.specs.declared.flaw.Flaw.TheVariants.{Unwritable, Memory}
use Rattle.ja_listing.specs.declared.item.MemberName.{MemberName}
use Rattle.ja_listing.specs.declared.item.Frame.{Frame}
use Rattle.ja_listing.specs.Number.{has_code}
use Rattle.ja_assembly.specs.Members.{fits}
use Rattle.ja_assembly.specs.Unwritable.{IsCrowded, HasNoRoom, IsNoText, IsNoMember, IsNoField, IsNoMethod, IsNoFrame, IsEmpty}
use Rattle.ja_writable.specs.InnerJudging.{Judges, Takes}

-- a check behind one that passed
pub or_else_judges : (P Q : Type 0) (r : Result ⊤ Flaw) → (P → ⊥) → Judges r Q → Judges r (P ⊎ Q)
or_else_judges P Q (Ok u) passed h = λ e. elim e [ inl p ↦ passed p | inr q ↦ h q ]
or_else_judges P Q (Err Unwritable) passed h = inr h
or_else_judges P Q (Err Memory) passed h = tt

-- a field, a member that an instruction names, and a method
pub field_judged : (flags : Number) (name desc : List ℕ) (r : Result ⊤ Flaw) → (fits 16 flags ≡ false → ⊥) → (IsNoText name → ⊥) → (IsNoText desc → ⊥) → Judges r (IsFieldDesc desc → ⊥)
    → Judges r (IsNoField flags name desc)
field_judged flags name desc r a b d h =
    or_else_judges (fits 16 flags ≡ false) (IsNoText name ⊎ (IsNoText desc ⊎ (IsFieldDesc desc → ⊥))) r a
    (or_else_judges (IsNoText name) (IsNoText desc ⊎ (IsFieldDesc desc → ⊥)) r b (or_else_judges (IsNoText desc) (IsFieldDesc desc → ⊥) r d h))

pub member_judged : (IsDesc : List ℕ → Type 0) (m : MemberName) (r : Result ⊤ Flaw) → (IsNoText m.class → ⊥) → (IsNoText m.name → ⊥) → (IsNoText m.desc → ⊥) → Judges r (IsDesc m.desc → ⊥)
    → Judges r (IsNoMember IsDesc m)
member_judged IsDesc m r a b d h =
    or_else_judges (IsNoText m.class) (IsNoText m.name ⊎ (IsNoText m.desc ⊎ (IsDesc m.desc → ⊥))) r a
    (or_else_judges (IsNoText m.name) (IsNoText m.desc ⊎ (IsDesc m.desc → ⊥)) r b (or_else_judges (IsNoText m.desc) (IsDesc m.desc → ⊥) r d h))

pub method_judged : (flags : Number) (name desc : List ℕ) (frame : Option Frame) (some : Bool) (r : Result ⊤ Flaw) → (fits 16 flags ≡ false → ⊥) → (IsNoText name → ⊥) → (IsNoText desc → ⊥)
    → (((IsMethodText desc → ⊥) ⊎ HasNoRoom flags desc) → ⊥) → (IsNoFrame (has_code flags) frame → ⊥) → Judges r (IsEmpty flags some) → Judges r (IsNoMethod flags name desc frame some)
method_judged flags name desc frame some (Ok u) a b d e f h = λ wrong. by wrong
  where
    by : IsNoMethod flags name desc frame some → ⊥
    by (inl x) = a x
    by (inr (inl x)) = b x
    by (inr (inr (inl x))) = d x
    by (inr (inr (inr (inl x)))) = e (inl x)
    by (inr (inr (inr (inr (inl x))))) = e (inr x)
    by (inr (inr (inr (inr (inr (inl x)))))) = f x
    by (inr (inr (inr (inr (inr (inr x)))))) = h x
method_judged flags name desc frame some (Err Unwritable) a b d e f h = inr (inr (inr (inr (inr (inr h)))))
method_judged flags name desc frame some (Err Memory) a b d e f h = tt

-- the last check of those that take an item
pub last_takes : (P refused taken : Type 0) (r : Result ⊤ Flaw) → Judges r P → (P → refused) → ((P → ⊥) → taken) → Takes r refused taken
last_takes P refused taken (Ok u) h f g = g h
last_takes P refused taken (Err Unwritable) h f g = f h
last_takes P refused taken (Err Memory) h f g = tt

-- a check that fails
pub failed_takes : (P refused taken : Type 0) (r : Result ⊤ Flaw) (flaw : Flaw) → r ≡ Err flaw → Judges (Err flaw) P → (P → refused) → Takes r refused taken
failed_takes P refused taken r Unwritable e h f = subst (λ (s : Result ⊤ Flaw). Takes s refused taken) (sym e) (f h)
failed_takes P refused taken r Memory e h f = subst (λ (s : Result ⊤ Flaw). Takes s refused taken) (sym e) tt

-- the parameters of a method with its receiver
pub room_judged : (flags : Number) (text : List ℕ) (params : List JavaType) (result : Option JavaType) (words : ℕ) (crowded : Bool) (r : Result ⊤ Flaw)
    → IsMethod text params result → words ≡ words_of_all params → Decides crowded (IsCrowded flags words) → Judges r (crowded ≡ true) → Judges r ((IsMethodText text → ⊥) ⊎ HasNoRoom flags text)
room_judged flags text params result words crowded (Ok u) method sum d h = λ e. by e
  where
    by : (IsMethodText text → ⊥) ⊎ HasNoRoom flags text → ⊥
    by (inl none) = none (record { params = params; result = result; method = method })
    by (inr room) =
        let same = method_unique text params room.0 result room.1 method room.2 in
        let e : words_of_all room.0 ≡ words = ap words_of_all (sym same.0) ∙ sym sum in
        h (d.1 (room.3.0, subst (λ (n : ℕ). 254 < n) e room.3.1))
room_judged flags text params result words crowded (Err Unwritable) method sum d h =
    let full = d.0 h in
    inr (params, result, method, (full.0, subst (λ (n : ℕ). 254 < n) sum full.1))
room_judged flags text params result words crowded (Err Memory) method sum d h = tt
