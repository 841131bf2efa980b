-- Items that can be written wherever they may stand, and where they may stand.
use Rattle.std.proofs.Common.{◌≡◌, ℕ, zero, suc, ◌+◌, inl, inr, Bool, true, false, ◌&&◌, List, [], ◌∷◌, slice_get, Option, Some, sym, subst, ◌∙◌, arith, true≢false}
use Rattle.std.specs.List.{AllByRecursion}
use Rattle.std.proofs.lemmas.Bool.{and_parts, false≢true}
use Rattle.std.proofs.lemmas.Option.{none-some, same_Some}
use Rattle.ja_code.specs.Number.{ldc}
use Rattle.ja_code.specs.declared.form.Form.TheVariants.{Plain}
use Rattle.ja_code.specs.Opcode.{form_at, is_refused}
use Rattle.ja_bytes.specs.DescriptorText.{IsMethodText}
use Rattle.ja_listing.specs.declared.item.MemberName.{MemberName}
use Rattle.ja_listing.specs.declared.item.Operand.TheVariants.{Nothing, Quotation}
use Rattle.ja_listing.specs.declared.item.Item.{Item}
use Rattle.ja_listing.specs.declared.item.Item.TheVariants.{Field, Method, Initializer, Try, Instruction}
use Rattle.ja_listing.specs.Listed.{Listed}
use Rattle.ja_assembly.specs.Members.{instruction}
use Rattle.ja_assembly.specs.Unwritable.{IsNoText, suits, IsNoItemAt, IsNoItem, body_has_code, method_before, labels_at, pc_at, instructions_from, is_some_of}
use Rattle.ja_generator.specs.Made.{static_method, call}

-- an item that can be written in a method with code, before an instruction
abbrev pub IsGood : Item → Type 0
IsGood item = (labels : List ℕ → Option ℕ) (pc : ℕ) → IsNoItemAt true labels pc true item → ⊥

pub record IsGoodMember (m : MemberName) : Type 0 where
  pub class : IsNoText m.class → ⊥
  pub name : IsNoText m.name → ⊥
  pub desc : IsNoText m.desc → ⊥
  pub method : IsMethodText m.desc

pub static_method-good : (name desc : List ℕ) → (IsNoText name → ⊥) → (IsNoText desc → ⊥) → IsMethodText desc → IsGood (static_method name desc)
static_method-good name desc text also method labels pc (inl bad) = true≢false bad
static_method-good name desc text also method labels pc (inr (inl bad)) = text bad
static_method-good name desc text also method labels pc (inr (inr (inl bad))) = also bad
static_method-good name desc text also method labels pc (inr (inr (inr (inl bad)))) = bad method
static_method-good name desc text also method labels pc (inr (inr (inr (inr (inl bad))))) = let few : 8 ≡ 0 = bad.3.0 in omega (arith, few)
static_method-good name desc text also method labels pc (inr (inr (inr (inr (inr (inl (inl bad))))))) = true≢false bad
static_method-good name desc text also method labels pc (inr (inr (inr (inr (inr (inl (inr (inl bad)))))))) = true≢false bad
static_method-good name desc text also method labels pc (inr (inr (inr (inr (inr (inl (inr (inr bad)))))))) = true≢false bad
static_method-good name desc text also method labels pc (inr (inr (inr (inr (inr (inr bad)))))) = true≢false bad.1

pub plain-good : (opcode : ℕ) → is_refused opcode ≡ false → form_at opcode ≡ Some Plain → IsGood (instruction opcode Nothing)
plain-good opcode taken form labels pc (inl bad) = true≢false bad
plain-good opcode taken form labels pc (inr (inl bad)) = true≢false (sym bad ∙ taken)
plain-good opcode taken form labels pc (inr (inr (inl bad))) = true≢false (subst (λ f. suits f Nothing ≡ false) form bad)
plain-good opcode taken form labels pc (inr (inr (inr bad))) = bad

pub call-good : (m : MemberName) → IsGoodMember m → IsGood (call m)
unfolding form_at
call-good m good labels pc (inl bad) = true≢false bad
call-good m good labels pc (inr (inl bad)) = false≢true bad
call-good m good labels pc (inr (inr (inl bad))) = true≢false bad
call-good m good labels pc (inr (inr (inr (inl (inl bad))))) = good.class bad
call-good m good labels pc (inr (inr (inr (inl (inr (inl bad)))))) = good.name bad
call-good m good labels pc (inr (inr (inr (inl (inr (inr (inl bad))))))) = good.desc bad
call-good m good labels pc (inr (inr (inr (inl (inr (inr (inr bad))))))) = bad good.method
call-good m good labels pc (inr (inr (inr (inr bad)))) = false≢true bad

pub quotation-good : (text : List ℕ) → (IsNoText text → ⊥) → IsGood (instruction ldc (Quotation text))
unfolding form_at
quotation-good text good labels pc (inl bad) = true≢false bad
quotation-good text good labels pc (inr (inl bad)) = false≢true bad
quotation-good text good labels pc (inr (inr (inl bad))) = true≢false bad
quotation-good text good labels pc (inr (inr (inr bad))) = good bad

-- whether an item may stand where its method has code or not, and before an instruction or not
abbrev stands : (code some : Bool) → Item → Bool
stands code some (Field flags name desc) = true
stands code some (Method flags name desc frame) = some
stands code some Initializer = true
stands code some (Try start end handler catch) = code
stands code some (Instruction label opcode operand) = code

stands-good : (code some : Bool) (labels : List ℕ → Option ℕ) (pc : ℕ) (item : Item) → IsGood item → stands code some item ≡ true → IsNoItemAt code labels pc some item → ⊥
stands-good code some labels pc (Field flags name desc) good e bad = good labels pc bad
stands-good code some labels pc (Method flags name desc frame) good e bad = good labels pc (subst (λ (b : Bool). IsNoItemAt code labels pc b (Method flags name desc frame)) e bad)
stands-good code some labels pc Initializer good e bad = bad
stands-good code some labels pc (Try start end handler catch) good e bad = good labels pc (subst (λ (b : Bool). IsNoItemAt b labels pc some (Try start end handler catch)) e bad)
stands-good code some labels pc (Instruction label opcode operand) good e bad = good labels pc (subst (λ (b : Bool). IsNoItemAt b labels pc some (Instruction label opcode operand)) e bad)

-- whether the items of a class from this place on may stand where they do
abbrev pub all_stand : Listed → ℕ → List Item → Bool
all_stand c k [] = true
all_stand c k (item ∷ items) = stands (body_has_code (method_before c k)) (is_some_of (instructions_from c (k + 1))) item && all_stand c (suc k) items

pub good_at : (c : Listed) (k : ℕ) (items : List Item) → AllByRecursion IsGood items → all_stand c k items ≡ true → (j : ℕ) (item : Item) → slice_get items j ≡ Some item → IsNoItem c (k + j) item → ⊥
good_at c k [] good stand j item e bad = none-some item e
good_at c k (first ∷ items) good stand zero item e bad =
    let p = and_parts (stands (body_has_code (method_before c k)) (is_some_of (instructions_from c (k + 1))) first) (all_stand c (suc k) items) stand in
    let here : k + 0 ≡ k = omega arith in
    let at : IsNoItem c k first = subst (IsNoItem c k) (sym (same_Some first item e)) (subst (λ (n : ℕ). IsNoItem c n item) here bad) in
    stands-good (body_has_code (method_before c k)) (is_some_of (instructions_from c (k + 1))) (labels_at c k) (pc_at c k) first good.0 p.0 at
good_at c k (first ∷ items) good stand (suc j) item e bad =
    let p = and_parts (stands (body_has_code (method_before c k)) (is_some_of (instructions_from c (k + 1))) first) (all_stand c (suc k) items) stand in
    let behind : k + suc j ≡ suc k + j = omega arith in
    good_at c (suc k) items good.1 p.1 j item e (subst (λ (n : ℕ). IsNoItem c n item) behind bad)
