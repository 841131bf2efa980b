-- The parts of a class file that are read are those that the bytes spell.
use Rattle.std.proofs.Common.{◌≡◌, ℕ, zero, suc, ◌+◌, ◌-◌, ◌^◌, ◌<◌, inl, inr, false, cond, eqb, List, [], ◌∷◌, ◌++◌, length, Option, Some, None, refl, sym, ap, subst, ◌∙◌, append_assoc, arith, lit<}
use Rattle.std.specs.Int.{w16, w32}
use Rattle.std.specs.List.{flat_map, AllByRecursion}
use Rattle.std.proofs.lemmas.Bool.{eqb-true, eq-eqb}
use Rattle.std.proofs.lemmas.Bool.Decides.{nat_tests}
use Rattle.std.proofs.lemmas.List.{length-append, append-nil, nil_from_length}
use Rattle.std.proofs.lemmas.List.Concat.{flat_map-cons}
use Rattle.ja_class.specs.Pool.{PoolEntry, Utf8, Class, String, Methodref, NameAndType}
use Rattle.ja_class.specs.FirstForm.{CodeAttribute, MethodInfo, ClassFile, u2, u4, entry_bytes, code_content, attribute_bytes, method_bytes, spelling}
use Rattle.ja_class.specs.InnerReading.{◌>>=◌, number_at, after_number, sized_at, pair_at, tagged_at, entry_from, entries_from, pool_from, version_from, class_from, content_from, attribute_from, method_from, file_from}
use Rattle.ja_class.proofs.Exact.{IsBytes, IsBytes-rest, bind_some, some_is, chosen, guard_holds, guard_fails, Takes, Takes-then, Exact, Exactly, both, Exact-both, Exact-behind, before, Exact-before, Exactly-both, Exact-same, mapped, mapped_takes, mapped_again, Exact-mapped, wide16, wide32, number16, number32, Exactly-number, Exact-sized}
use Rattle.ja_class.proofs.CodeLaws.{head}

bind_assoc : {A B C : Type 0} (o : Option A) (f : A → Option B) (g : B → Option C) → ((o >>= f) >>= g) ≡ (o >>= λ x. f x >>= g)
bind_assoc None f g = refl
bind_assoc (Some x) f g = refl

not_zero : (n : ℕ) → eqb n 0 ≡ false → 0 < n
not_zero zero h = absurd cc
not_zero (suc n) h = omega arith

is_not_zero : (n : ℕ) → eqb (n + 1) 0 ≡ false
is_not_zero n = grind (arith, nat_tests)

-- ---- the pool

-- an entry's numbers fit their fields
abbrev pub FitsEntry : PoolEntry → Type 0
FitsEntry (Utf8 text) = length text < 2 ^ 16
FitsEntry (Class name) = name < 2 ^ 16
FitsEntry (String text) = text < 2 ^ 16
FitsEntry (Methodref class name_and_type) = (class < 2 ^ 16) × (name_and_type < 2 ^ 16)
FitsEntry (NameAndType name descriptor) = (name < 2 ^ 16) × (descriptor < 2 ^ 16)

pub pair : Exact (λ (p : ℕ × ℕ). (p.0 < 2 ^ 16) × (p.1 < 2 ^ 16)) (λ (p : ℕ × ℕ). u2 p.0 ++ u2 p.1) pair_at
unfolding pair_at
pair = Exact-both number16 number16

text16 : Exact (λ (t : List ℕ). length t < 2 ^ 16) (λ (t : List ℕ). u2 (length t) ++ t) (sized_at w16)
text16 = Exact-sized wide16

-- an entry behind its tag
one_tag : {A : Type 0} {F : A → Type 0} {f : A → List ℕ} {r : List ℕ → Option (A × List ℕ)} (one : Exact F f r) (to : A → PoolEntry) (tag k : ℕ) (bytes : List ℕ) (x : PoolEntry × List ℕ) → IsBytes bytes → tag ≡ k
    → ((a : A) → entry_bytes (to a) ≡ k ∷ f a) → ((a : A) → F a → FitsEntry (to a)) → mapped to r bytes ≡ Some x → Takes (tag ∷ bytes) (entry_bytes x.0) x.1 × FitsEntry x.0
one_tag {A} {F} {f} {r} one to tag k bytes x fits is spells bounds e =
    let m = mapped_takes one to bytes x fits e in
    let t : Takes (tag ∷ bytes) (entry_bytes (to m.0)) x.1 = subst (λ (t : List ℕ). Takes (tag ∷ bytes) t x.1) (sym (spells m.0)) (head tag k bytes (f m.0) x.1 is m.2) in
    subst (λ (y : PoolEntry). Takes (tag ∷ bytes) (entry_bytes y) x.1 × FitsEntry y) m.1 (t, bounds m.0 m.3)

tagged_takes : (tag : ℕ) (bytes : List ℕ) (x : PoolEntry × List ℕ) → IsBytes bytes → tagged_at tag bytes ≡ Some x → Takes (tag ∷ bytes) (entry_bytes x.0) x.1 × FitsEntry x.0
unfolding tagged_at
tagged_takes tag bytes x fits e =
    elim (chosen (eqb tag 1) _ _ (Some x) e) [
      | inl h ↦ one_tag text16 Utf8 tag 1 bytes x fits (eqb-true tag 1 h.0) (λ a. refl) (λ a b. b) h.1
      | inr h ↦
          elim (chosen (eqb tag 7) _ _ (Some x) h.1) [
            | inl h ↦ one_tag number16 Class tag 7 bytes x fits (eqb-true tag 7 h.0) (λ a. refl) (λ a b. b) h.1
            | inr h ↦
                elim (chosen (eqb tag 8) _ _ (Some x) h.1) [
                  | inl h ↦ one_tag number16 String tag 8 bytes x fits (eqb-true tag 8 h.0) (λ a. refl) (λ a b. b) h.1
                  | inr h ↦
                      elim (chosen (eqb tag 10) _ _ (Some x) h.1) [
                        | inl h ↦ one_tag pair (λ (p : ℕ × ℕ). Methodref p.0 p.1) tag 10 bytes x fits (eqb-true tag 10 h.0) (λ a. refl) (λ a b. b) h.1
                        | inr h ↦
                            let g = guard_holds (eqb tag 12) _ x h.1 in one_tag pair (λ (p : ℕ × ℕ). NameAndType p.0 p.1) tag 12 bytes x fits (eqb-true tag 12 g.0) (λ a. refl) (λ a b. b) g.1
                      ]
                ]
          ]
    ]

entry_again : (e : PoolEntry) (rest : List ℕ) → FitsEntry e → entry_from (entry_bytes e ++ rest) ≡ Some (e, rest)
unfolding entry_from tagged_at
entry_again (Utf8 text) rest h = mapped_again text16 Utf8 text rest h
entry_again (Class name) rest h = mapped_again number16 Class name rest h
entry_again (String text) rest h = mapped_again number16 String text rest h
entry_again (Methodref a b) rest h = mapped_again pair (λ (p : ℕ × ℕ). Methodref p.0 p.1) (a, b) rest h
entry_again (NameAndType a b) rest h = mapped_again pair (λ (p : ℕ × ℕ). NameAndType p.0 p.1) (a, b) rest h

entry_takes : (bytes : List ℕ) (x : PoolEntry × List ℕ) → IsBytes bytes → entry_from bytes ≡ Some x → Takes bytes (entry_bytes x.0) x.1 × FitsEntry x.0
unfolding entry_from
entry_takes [] x fits e = absurd cc
entry_takes (tag ∷ bytes) x fits e = tagged_takes tag bytes x (IsBytes-rest tag bytes fits) e

entries_take : (n : ℕ) (bytes : List ℕ) (x : List PoolEntry × List ℕ) → IsBytes bytes → entries_from n bytes ≡ Some x → Takes bytes (flat_map entry_bytes x.0) x.1 × (length x.0 ≡ n) × AllByRecursion FitsEntry x.0
unfolding entries_from
entries_take zero bytes x fits e =
    let made : List PoolEntry × List ℕ = ([], bytes) in
    subst (λ (y : List PoolEntry × List ℕ). Takes bytes (flat_map entry_bytes y.0) y.1 × (length y.0 ≡ 0) × AllByRecursion FitsEntry y.0) (some_is made x e) (record { parts = refl; rest_fits = fits }, refl, tt)
entries_take (suc n) bytes x fits e =
    let a = bind_some (entry_from bytes) (λ first. entries_from n first.1 >>= λ others. Some (first.0 ∷ others.0, others.1)) x e in
    let b = bind_some (entries_from n a.0.1) (λ others. Some (a.0.0 ∷ others.0, others.1)) x a.2 in
    let p = entry_takes bytes a.0 fits a.1 in
    let q = entries_take n a.0.1 b.0 p.0.rest_fits b.1 in
    let t : Takes bytes (flat_map entry_bytes (a.0.0 ∷ b.0.0)) b.0.1 = rw flat_map-cons (Takes-then bytes (entry_bytes a.0.0) a.0.1 (flat_map entry_bytes b.0.0) b.0.1 p.0 q.0) in
    let made : List PoolEntry × List ℕ = (a.0.0 ∷ b.0.0, b.0.1) in
    subst (λ (y : List PoolEntry × List ℕ). Takes bytes (flat_map entry_bytes y.0) y.1 × (length y.0 ≡ suc n) × AllByRecursion FitsEntry y.0) (some_is made x b.2) (t, ap suc q.1, (p.1, q.2))

entries_again : (es : List PoolEntry) (rest : List ℕ) → AllByRecursion FitsEntry es → entries_from (length es) (flat_map entry_bytes es ++ rest) ≡ Some (es, rest)
unfolding entries_from
entries_again [] rest h = refl
entries_again (e ∷ es) rest h =
    let parts : flat_map entry_bytes (e ∷ es) ++ rest ≡ entry_bytes e ++ (flat_map entry_bytes es ++ rest) = ap (λ (t : List ℕ). t ++ rest) (flat_map-cons entry_bytes e es) ∙ append_assoc (entry_bytes e) (flat_map entry_bytes es) rest in
    ap (entries_from (suc (length es))) parts ∙ rw (entry_again e (flat_map entry_bytes es ++ rest) h.0, entries_again es rest h.1) refl

-- the entries' count and numbers fit their fields
pub record FitsPool (pool : List PoolEntry) : Type 0 where
  pub count : length pool + 1 < 2 ^ 16
  pub entries : AllByRecursion FitsEntry pool

pub pool : Exact FitsPool (λ (p : List PoolEntry). u2 (length p + 1) ++ flat_map entry_bytes p) pool_from
unfolding pool_from
pool = record {
  takes = λ bytes x fits e.
      let n = bind_some (number_at w16 bytes) (λ count. cond (eqb count.0 0) None (entries_from (count.0 - 1) count.1)) x e in
      let g = guard_fails (eqb n.0.0 0) (entries_from (n.0.0 - 1) n.0.1) x n.2 in
      let p = number16.takes bytes n.0 fits n.1 in
      let q = entries_take (n.0.0 - 1) n.0.1 x p.0.rest_fits g.1 in
      let positive = not_zero n.0.0 g.0 in
      let count : length x.0 + 1 ≡ n.0.0 = omega (arith, q.1) in
      let t = Takes-then bytes (u2 n.0.0) n.0.1 (flat_map entry_bytes x.0) x.1 p.0 q.0 in
      (subst (λ (k : ℕ). Takes bytes (u2 k ++ flat_map entry_bytes x.0) x.1) (sym count) t, record { count = omega (arith, p.1); entries = q.2 });
  again = λ p rest h.
      let parts : (u2 (length p + 1) ++ flat_map entry_bytes p) ++ rest ≡ u2 (length p + 1) ++ (flat_map entry_bytes p ++ rest) = append_assoc (u2 (length p + 1)) (flat_map entry_bytes p) rest in
      let test : eqb (length p + 1) 0 ≡ false = is_not_zero (length p) in
      let less : (length p + 1) - 1 ≡ length p = omega arith in
      ap (λ bytes. number_at w16 bytes >>= λ count. cond (eqb count.0 0) None (entries_from (count.0 - 1) count.1)) parts ∙ rw (number16.again (length p + 1) (flat_map entry_bytes p ++ rest) h.count, test, less) (entries_again p rest h.entries);
}

-- ---- the file

version : Exact (λ (p : ℕ × ℕ). (p.0 < 2 ^ 16) × (p.1 < 2 ^ 16)) (λ (p : ℕ × ℕ). u4 0xcafebabe ++ (u2 p.0 ++ u2 p.1)) version_from
unfolding version_from
version = Exact-behind (Exactly-number wide32 0xcafebabe (lit< tt)) pair

none_left : Exactly (u2 0) (after_number w16 0)
none_left = Exactly-number wide16 0 (lit< tt)

one_left : Exactly (u2 1) (after_number w16 1)
one_left = Exactly-number wide16 1 (lit< tt)

public_static : Exactly (u2 9) (after_number w16 9)
public_static = Exactly-number wide16 9 (lit< tt)

-- flags, class and superclass fit their fields
abbrev FitsClass : ℕ × (ℕ × ℕ) → Type 0
FitsClass c = (c.0 < 2 ^ 16) × ((c.1.0 < 2 ^ 16) × (c.1.1 < 2 ^ 16))

class : Exact FitsClass (λ (c : ℕ × (ℕ × ℕ)). (u2 c.0 ++ (u2 c.1.0 ++ u2 c.1.1)) ++ ((u2 0 ++ u2 0) ++ u2 1)) class_from
unfolding class_from
class = Exact-same (λ bytes. simp bind_assoc) (λ c. refl) (λ c h. h) (λ c h. h)
    (Exact-before (Exact-both number16 pair) (Exactly-both (Exactly-both none_left none_left) one_left))

-- frame and code fit their fields
abbrev FitsContent : (ℕ × ℕ) × List ℕ → Type 0
FitsContent c = ((c.0.0 < 2 ^ 16) × (c.0.1 < 2 ^ 16)) × (length c.1 < 2 ^ 32)

content : Exact FitsContent (λ (c : (ℕ × ℕ) × List ℕ). ((u2 c.0.0 ++ u2 c.0.1) ++ (u4 (length c.1) ++ c.1)) ++ (u2 0 ++ u2 0)) content_from
unfolding content_from
content = Exact-same (λ bytes. simp bind_assoc) (λ c. refl) (λ c h. h) (λ c h. h)
    (Exact-before (Exact-both pair (Exact-sized wide32)) (Exactly-both none_left none_left))

-- an attribute's numbers fit their fields
pub record FitsCode (a : CodeAttribute) : Type 0 where
  pub name : a.attribute_name_index < 2 ^ 16
  pub stack : a.max_stack < 2 ^ 16
  pub locals : a.max_locals < 2 ^ 16
  pub code : length a.code + 12 < 2 ^ 32

-- how long a content is
content_length : (a : CodeAttribute) → length (code_content a) ≡ length a.code + 12
content_length a =
    simp length-append (omega arith)

content_text : (a : CodeAttribute) → ((u2 a.max_stack ++ u2 a.max_locals) ++ (u4 (length a.code) ++ a.code)) ++ (u2 0 ++ u2 0) ≡ code_content a
content_text a = simp append_assoc

-- the content of an attribute
abbrev content_of : CodeAttribute → (ℕ × ℕ) × List ℕ
content_of a = ((a.max_stack, a.max_locals), a.code)

pub attribute : Exact FitsCode attribute_bytes attribute_from
unfolding attribute_from
attribute = record {
  takes = λ bytes x fits e.
      let n = bind_some (number_at w16 bytes) (λ name. number_at w32 name.1 >>= λ len. content_from len.1 >>= λ c. cond (eqb len.0 (length c.0.1 + 12)) (Some (record { attribute_name_index = name.0; max_stack = c.0.0.0; max_locals = c.0.0.1; code = c.0.1 }, c.1)) None) x e in
      let l = bind_some (number_at w32 n.0.1) (λ len. content_from len.1 >>= λ c. cond (eqb len.0 (length c.0.1 + 12)) (Some (record { attribute_name_index = n.0.0; max_stack = c.0.0.0; max_locals = c.0.0.1; code = c.0.1 }, c.1)) None) x n.2 in
      let c = bind_some (content_from l.0.1) (λ c. cond (eqb l.0.0 (length c.0.1 + 12)) (Some (record { attribute_name_index = n.0.0; max_stack = c.0.0.0; max_locals = c.0.0.1; code = c.0.1 }, c.1)) None) x l.2 in
      let a : CodeAttribute = record { attribute_name_index = n.0.0; max_stack = c.0.0.0.0; max_locals = c.0.0.0.1; code = c.0.0.1 } in
      let made : CodeAttribute × List ℕ = (a, c.0.1) in
      let g = guard_holds (eqb l.0.0 (length c.0.0.1 + 12)) (Some made) x c.2 in
      let p = number16.takes bytes n.0 fits n.1 in
      let q = number32.takes n.0.1 l.0 p.0.rest_fits l.1 in
      let r = content.takes l.0.1 c.0 q.0.rest_fits c.1 in
      let len : l.0.0 ≡ length (code_content a) = eqb-true l.0.0 (length c.0.0.1 + 12) g.0 ∙ sym (content_length a) in
      let inner : Takes l.0.1 (code_content a) c.0.1 = subst (λ (t : List ℕ). Takes l.0.1 t c.0.1) (content_text a) r.0 in
      let outer : Takes bytes (attribute_bytes a) c.0.1 = Takes-then bytes (u2 n.0.0) n.0.1 (u4 (length (code_content a)) ++ code_content a) c.0.1 p.0
      (Takes-then n.0.1 (u4 (length (code_content a))) l.0.1 (code_content a) c.0.1 (subst (λ (k : ℕ). Takes n.0.1 (u4 k) l.0.1) len q.0) inner) in
      subst (λ (y : CodeAttribute × List ℕ). Takes bytes (attribute_bytes y.0) y.1 × FitsCode y.0) (some_is made x g.1)
      (outer, record { name = p.1; stack = r.1.0.0; locals = r.1.0.1; code = omega (arith, eqb-true l.0.0 (length c.0.0.1 + 12) g.0, q.1) });
  again = λ a rest h.
      let parts : attribute_bytes a ++ rest ≡ u2 a.attribute_name_index ++ (u4 (length (code_content a)) ++ (code_content a ++ rest)) =
      append_assoc (u2 a.attribute_name_index) (u4 (length (code_content a)) ++ code_content a) rest ∙ ap (λ (t : List ℕ). u2 a.attribute_name_index ++ t) (append_assoc (u4 (length (code_content a))) (code_content a) rest) in
      let len = content_length a in
      let inner : content_from (code_content a ++ rest) ≡ Some (content_of a, rest) = ap (λ (t : List ℕ). content_from (t ++ rest)) (sym (content_text a)) ∙ content.again (content_of a) rest ((h.stack, h.locals), omega (arith, h.code)) in
      ap attribute_from parts ∙ rw (
        number16.again a.attribute_name_index (u4 (length (code_content a)) ++ (code_content a ++ rest)) h.name,
        number32.again (length (code_content a)) (code_content a ++ rest) (omega (arith, h.code)),
        inner,
        eq-eqb (length (code_content a)) (length a.code + 12) len,
      ) refl;
}

-- the parts of a method, and a method of parts
abbrev to_method : (ℕ × ℕ) × CodeAttribute → MethodInfo
to_method p = record { name_index = p.0.0; descriptor_index = p.0.1; code = p.1 }

abbrev method_parts : MethodInfo → (ℕ × ℕ) × CodeAttribute
method_parts m = ((m.name_index, m.descriptor_index), m.code)

-- a method's numbers fit their fields
abbrev pub FitsMethod : MethodInfo → Type 0
FitsMethod m = ((m.name_index < 2 ^ 16) × (m.descriptor_index < 2 ^ 16)) × FitsCode m.code

method_text : (m : MethodInfo) → u2 9 ++ ((u2 m.name_index ++ u2 m.descriptor_index) ++ (u2 1 ++ attribute_bytes m.code)) ≡ method_bytes m
method_text m = ap (λ (t : List ℕ). u2 9 ++ t) (append_assoc (u2 m.name_index) (u2 m.descriptor_index) (u2 1 ++ attribute_bytes m.code))

pub method : Exact FitsMethod method_bytes method_from
unfolding method_from
method = Exact-same (λ bytes. simp bind_assoc) method_text (λ m h. h) (λ m h. h)
    (Exact-mapped to_method method_parts (λ a. refl) (λ b. refl) (Exact-behind public_static (Exact-both pair (Exact-behind one_left attribute))))

-- the parts of a class file, and a class file of parts
abbrev Parts : Type 0
Parts = ((ℕ × ℕ) × List PoolEntry) × ((ℕ × (ℕ × ℕ)) × MethodInfo)

abbrev to_file : Parts → ClassFile
to_file p = record { minor_version = p.0.0.0; major_version = p.0.0.1; constant_pool = p.0.1; access_flags = p.1.0.0; this_class = p.1.0.1.0; super_class = p.1.0.1.1; method = p.1.1 }

abbrev file_parts : ClassFile → Parts
file_parts c = (((c.minor_version, c.major_version), c.constant_pool), ((c.access_flags, (c.this_class, c.super_class)), c.method))

-- a class file's numbers fit their fields
abbrev pub FitsFile : ClassFile → Type 0
FitsFile c = (((c.minor_version < 2 ^ 16) × (c.major_version < 2 ^ 16)) × FitsPool c.constant_pool) × (FitsClass (c.access_flags, (c.this_class, c.super_class)) × FitsMethod c.method)

abbrev parts_from : List ℕ → Option (Parts × List ℕ)
parts_from = before (both (both version_from pool_from) (both class_from method_from)) (after_number w16 0)

abbrev parts_text : Parts → List ℕ
parts_text p = (((u4 0xcafebabe ++ (u2 p.0.0.0 ++ u2 p.0.0.1)) ++ (u2 (length p.0.1 + 1) ++ flat_map entry_bytes p.0.1)) ++ (((u2 p.1.0.0 ++ (u2 p.1.0.1.0 ++ u2 p.1.0.1.1)) ++ ((u2 0 ++ u2 0) ++ u2 1)) ++ method_bytes p.1.1)) ++ u2 0

parts : Exact (λ (p : Parts). FitsFile (to_file p)) parts_text parts_from
parts = Exact-before (Exact-both (Exact-both version pool) (Exact-both class method)) none_left

-- any pieces, put together in the order of a class file
regroup : (a b c d e f g h i j k l m : List ℕ) → (((a ++ (b ++ c)) ++ (d ++ e)) ++ (((f ++ (g ++ h)) ++ ((i ++ j) ++ k)) ++ l)) ++ m ≡ a ++ (b ++ (c ++ (d ++ (e ++ (f ++ (g ++ (h ++ (i ++ (j ++ (k ++ (l ++ m)))))))))))
regroup a b c d e f g h i j k l m = simp append_assoc

file_text : (c : ClassFile) → parts_text (file_parts c) ≡ spelling c
file_text c = regroup (u4 0xcafebabe) (u2 c.minor_version) (u2 c.major_version) (u2 (length c.constant_pool + 1)) (flat_map entry_bytes c.constant_pool) (u2 c.access_flags) (u2 c.this_class) (u2 c.super_class) (u2 0) (u2 0) (u2 1) (method_bytes c.method) (u2 0)

file_is : (bytes : List ℕ) → file_from bytes ≡ (parts_from bytes >>= λ x. cond (eqb (length x.1) 0) (Some (to_file x.0)) None)
unfolding file_from
file_is bytes = simp bind_assoc

-- what is read as a class file is spelled so
pub file_takes : (bytes : List ℕ) (c : ClassFile) → IsBytes bytes → file_from bytes ≡ Some c → (bytes ≡ spelling c) × FitsFile c
file_takes bytes c fits e =
    let a = bind_some (parts_from bytes) (λ x. cond (eqb (length x.1) 0) (Some (to_file x.0)) None) c (sym (file_is bytes) ∙ e) in
    let g = guard_holds (eqb (length a.0.1) 0) (Some (to_file a.0.0)) c a.2 in
    let p = parts.takes bytes a.0 fits a.1 in
    let none : a.0.1 ≡ [] = nil_from_length a.0.1 (eqb-true (length a.0.1) 0 g.0) in
    let whole : bytes ≡ parts_text a.0.0 = p.0.parts ∙ ap (λ (r : List ℕ). parts_text a.0.0 ++ r) none ∙ append-nil (parts_text a.0.0) in
    subst (λ (f : ClassFile). (bytes ≡ spelling f) × FitsFile f) (some_is (to_file a.0.0) c g.1) (whole ∙ file_text (to_file a.0.0), p.1)

-- what is spelled so is read
pub file_again : (c : ClassFile) → FitsFile c → file_from (spelling c) ≡ Some c
file_again c h =
    let text : spelling c ≡ parts_text (file_parts c) ++ [] = sym (file_text c) ∙ sym (append-nil (parts_text (file_parts c))) in
    ap file_from text ∙ (file_is (parts_text (file_parts c) ++ []) ∙ ap (λ o. o >>= λ x. cond (eqb (length x.1) 0) (Some (to_file x.0)) None) (parts.again (file_parts c) [] h))
