-- Each item of a made class can be written.
use Rattle.std.proofs.Common.{◌≡◌, ℕ, zero, suc, ◌/◌, ◌%◌, ◌⊎◌, inl, inr, Bool, true, false, List, ◌∷◌, ◌++◌, length, codes, eqb, slice_get, Some, refl, sym, subst, zero-add, arith, true≢false, lit≤, if◌then◌else◌}
use Rattle.std.specs.List.{AllByRecursion}
use Rattle.ja_code.specs.Number.{aload_0, areturn, return}
use Rattle.ja_code.specs.Opcode.{form_at}
use Rattle.ja_listing.specs.declared.item.MemberName.{MemberName}
use Rattle.ja_listing.specs.declared.item.Operand.TheVariants.{Nothing}
use Rattle.ja_listing.specs.declared.item.Item.{Item}
use Rattle.ja_listing.specs.Listed.{Listed}
use Rattle.ja_assembly.specs.Members.{plain_number, instruction}
use Rattle.ja_assembly.specs.Unwritable.{IsNoHead, IsNoItem, IsTooMuch, before, head, item, too_much, IsWritable, CannotBeWritten}
use Rattle.ja_generator.specs.Drawn.{class_name}
use Rattle.ja_generator.specs.Made.{text_to_text, f_of, of_taint, static_method, argument_itself, passed_to, from_source, passed_to_earlier, main_of, class_by}
use Rattle.ja_generator.proofs.Texts.{literal, class_name-text}
use Rattle.ja_generator.proofs.Descriptors.{text_to_text-method, to_text-method, of_text-method, of_texts-method}
use Rattle.ja_generator.proofs.Standing.{IsGood, IsGoodMember, static_method-good, plain-good, call-good, quotation-good, all_stand, good_at}
use Rattle.ja_generator.proofs.Few.{all_few, never_too_much}

-- class i, where its `f` has this body
abbrev with_body : (i : ℕ) → List Item → Listed
with_body i body = record {
  number = 0;
  head = record { name = class_name i; superclass = codes "java/lang/Object"; flags = plain_number 33 };
  items = static_method (codes "f") text_to_text ∷ body ++ main_of (class_name i);
}

head-right : (i : ℕ) (body : List Item) → IsNoHead (with_body i body).head → ⊥
head-right i body (inl bad) = true≢false bad
head-right i body (inr (inl bad)) = class_name-text i bad
head-right i body (inr (inr (inl bad))) = literal (codes "java/lang/Object") refl (lit≤ tt) bad
head-right i body (inr (inr (inr bad))) = let e : 71 ≡ 91 = bad in omega (arith, e)

-- ---- the items

f_of-good : (i : ℕ) → IsGoodMember (f_of (class_name i))
f_of-good i = record { class = class_name-text i; name = literal (codes "f") refl (lit≤ tt); desc = literal text_to_text refl (lit≤ tt); method = text_to_text-method }

copy-good : IsGoodMember (of_taint (codes "copy") text_to_text)
copy-good = record { class = literal (codes "demo/Taint") refl (lit≤ tt); name = literal (codes "copy") refl (lit≤ tt); desc = literal text_to_text refl (lit≤ tt); method = text_to_text-method }

source-good : IsGoodMember (of_taint (codes "source") (codes "()Ljava/lang/String;"))
source-good = record { class = literal (codes "demo/Taint") refl (lit≤ tt); name = literal (codes "source") refl (lit≤ tt); desc = literal (codes "()Ljava/lang/String;") refl (lit≤ tt); method = to_text-method }

sink-good : IsGoodMember (of_taint (codes "sink") (codes "(Ljava/lang/String;)V"))
sink-good = record { class = literal (codes "demo/Taint") refl (lit≤ tt); name = literal (codes "sink") refl (lit≤ tt); desc = literal (codes "(Ljava/lang/String;)V") refl (lit≤ tt); method = of_text-method }

aload-good : IsGood (instruction aload_0 Nothing)
unfolding form_at
aload-good = plain-good aload_0 refl refl

areturn-good : IsGood (instruction areturn Nothing)
unfolding form_at
areturn-good = plain-good areturn refl refl

return-good : IsGood (instruction return Nothing)
unfolding form_at
return-good = plain-good return refl refl

main-good : (i : ℕ) → AllByRecursion IsGood (main_of (class_name i))
main-good i = (
  static_method-good (codes "main") (codes "([Ljava/lang/String;)V") (literal (codes "main") refl (lit≤ tt)) (literal (codes "([Ljava/lang/String;)V") refl (lit≤ tt)) of_texts-method,
  (quotation-good (codes "x") (literal (codes "x") refl (lit≤ tt)), (call-good (f_of (class_name i)) (f_of-good i), (call-good (of_taint (codes "sink") (codes "(Ljava/lang/String;)V")) sink-good, (return-good, tt)))),
)

begins-good : IsGood (static_method (codes "f") text_to_text)
begins-good = static_method-good (codes "f") text_to_text (literal (codes "f") refl (lit≤ tt)) (literal text_to_text refl (lit≤ tt)) text_to_text-method

-- ---- the classes

-- what a number cannot be written for
abbrev Causes : Listed → ℕ → Type 0
Causes c n = ((n ≡ 0) × IsNoHead c.head) ⊎ ((k : ℕ) × (i : Item) × (slice_get c.items k ≡ Some i) × IsNoItem c k i) ⊎ IsTooMuch c.head (before c n)

causes : (c : Listed) (n : ℕ) → CannotBeWritten c n → Causes c n
causes c n (head h) = inl (refl, h)
causes c n (item k i at h) = inr (inl (k, i, at, h))
causes c n (too_much k h) = inr (inr h)

writable : (i : ℕ) (body : List Item) → AllByRecursion IsGood (with_body i body).items → all_stand (with_body i body) 0 (with_body i body).items ≡ true
    → all_few (with_body i body) (length (with_body i body).items) ≡ true → IsWritable (with_body i body)
writable i body good stand few k bad = by (causes (with_body i body) k bad)
  where
    by : Causes (with_body i body) k → ⊥
    by (inl h) = head-right i body h.1
    by (inr (inl h)) = good_at (with_body i body) 0 (with_body i body).items good stand h.0 h.1 h.2 (subst (λ (n : ℕ). IsNoItem (with_body i body) n h.1) (sym (zero-add h.0)) h.3)
    by (inr (inr h)) = never_too_much (with_body i body) few k h

itself : (i : ℕ) → IsWritable (with_body i argument_itself)
unfolding form_at
itself i = writable i argument_itself (begins-good, (aload-good, (areturn-good, main-good i))) refl refl

passed : (i : ℕ) (member : MemberName) → IsGoodMember member → IsWritable (with_body i (passed_to member))
unfolding form_at
passed i member good = writable i (passed_to member) (begins-good, (aload-good, (call-good member good, (areturn-good, main-good i)))) refl refl

sourced : (i : ℕ) → IsWritable (with_body i from_source)
unfolding form_at
sourced i = writable i from_source (begins-good, (call-good _ source-good, (areturn-good, main-good i))) refl refl

earlier : (class x i : ℕ) → IsWritable (with_body class (passed_to_earlier x i))
earlier class x zero = itself class
earlier class x (suc i) = passed class (f_of (class_name (x / 4 % suc i))) (f_of-good (x / 4 % suc i))

either : (i : ℕ) (b : Bool) (first other : List Item) → IsWritable (with_body i first) → IsWritable (with_body i other) → IsWritable (with_body i (if b then first else other))
either i true first other h k = h
either i false first other h k = k

pub made-writable : (x i : ℕ) → IsWritable (class_by x i)
made-writable x i =
    either i (eqb (x % 4) 0) _ _ (itself i) (either i (eqb (x % 4) 1) _ _ (passed i _ copy-good) (either i (eqb (x % 4) 2) _ _ (earlier i x i) (sourced i)))
