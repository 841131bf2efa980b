-- What the look-ups of the pool find is what the grammar names.
use Rattle.std.proofs.Common.{◌≡◌, ℕ, zero, suc, ◌≤◌, ◌⊎◌, inl, inr, Bool, true, false, cond, List, length, Option, Some, None, bytes_eq, codes, ◌&&◌, refl, sym, ap, subst, ◌∙◌, arith}
use Rattle.std.proofs.lemmas.Option.{slice_get_within}
use Rattle.std.proofs.lemmas.Slice.Eq.{bytes_eq-Decides}
use Rattle.ja_class.specs.Pool.{PoolEntry, Utf8, Class, String, Methodref, NameAndType, entry_at, IsClassNamed, IsNameAndType, IsTaintMethod, IsSource, IsSink}
use Rattle.ja_class.specs.declared.first.FirstOp.{FirstOp}
use Rattle.ja_class.specs.declared.first.FirstOp.TheVariants as op
use Rattle.ja_class.specs.InnerReading.{◌>>=◌, text_in, text_at, name_in, class_at, is_this, member_named, member_in, member_at, call_in, call_at, constant_in, constant_at}
use Rattle.ja_class.proofs.Exact.{bind_some, chosen, guard_holds, some_is}

pub and_holds : (a b : Bool) → (a && b) ≡ true → (a ≡ true) × (b ≡ true)
and_holds true b e = (refl, e)
and_holds false b e = absurd cc

pub same_bytes : (a b : List ℕ) → bytes_eq a b ≡ true → a ≡ b
same_bytes a b e = (bytes_eq-Decides a b).0 e

pub bytes_same : (a b : List ℕ) → a ≡ b → bytes_eq a b ≡ true
bytes_same a b e = (bytes_eq-Decides a b).1 e

-- an index that names an entry is within the pool
pub within : (pool : List PoolEntry) (i : ℕ) (e : PoolEntry) → entry_at pool i ≡ Some e → i ≤ length pool
within pool zero e h = omega arith
within pool (suc i) e h = omega (arith, slice_get_within pool i e h)

text_in_takes : (e : PoolEntry) (t : List ℕ) → text_in e ≡ Some t → e ≡ Utf8 t
text_in_takes (Utf8 text) t h = ap Utf8 (some_is text t h)
text_in_takes (Class name) t h = absurd cc
text_in_takes (String text) t h = absurd cc
text_in_takes (Methodref a b) t h = absurd cc
text_in_takes (NameAndType a b) t h = absurd cc

pub text_takes : (pool : List PoolEntry) (i : ℕ) (t : List ℕ) → text_at pool i ≡ Some t → entry_at pool i ≡ Some (Utf8 t)
unfolding text_at
text_takes pool i t h =
    let a = bind_some (entry_at pool i) text_in t h in
    a.1 ∙ ap Some (text_in_takes a.0 t a.2)

pub text_again : (pool : List PoolEntry) (i : ℕ) (t : List ℕ) → entry_at pool i ≡ Some (Utf8 t) → text_at pool i ≡ Some t
unfolding text_at
text_again pool i t h = rw h refl

name_in_takes : (pool : List PoolEntry) (e : PoolEntry) (n : List ℕ) → name_in pool e ≡ Some n → (i : ℕ) × (e ≡ Class i) × (text_at pool i ≡ Some n)
name_in_takes pool (Utf8 text) n h = absurd cc
name_in_takes pool (Class name) n h = (name, refl, h)
name_in_takes pool (String text) n h = absurd cc
name_in_takes pool (Methodref a b) n h = absurd cc
name_in_takes pool (NameAndType a b) n h = absurd cc

pub class_takes : (pool : List PoolEntry) (i : ℕ) (n : List ℕ) → class_at pool i ≡ Some n → IsClassNamed pool i n
unfolding class_at
class_takes pool i n h =
    let a = bind_some (entry_at pool i) (name_in pool) n h in
    let b = name_in_takes pool a.0 n a.2 in
    record { name_index = b.0; entry = a.1 ∙ ap Some b.1; name_entry = text_takes pool b.0 n b.2 }

pub class_again : (pool : List PoolEntry) (i : ℕ) (n : List ℕ) → IsClassNamed pool i n → class_at pool i ≡ Some n
unfolding class_at
class_again pool i n h = rw h.entry (text_again pool h.name_index n h.name_entry)

pub this_takes : (o : Option (List ℕ)) (t : List ℕ) → is_this o t ≡ true → o ≡ Some t
this_takes None t h = absurd cc
this_takes (Some found) t h = ap Some (same_bytes found t h)

pub this_again : (o : Option (List ℕ)) (t : List ℕ) → o ≡ Some t → is_this o t ≡ true
this_again o t h = rw h (bytes_same t t refl)

-- the operation is the call of source or sink
abbrev pub IsCall : List PoolEntry → (class name_and_type : ℕ) → FirstOp → Type 0
IsCall pool class name_and_type o = (IsSource pool class name_and_type × (o ≡ op.Source)) ⊎ (IsSink pool class name_and_type × (o ≡ op.Sink))

named_takes : (class name descriptor : List ℕ) (o : FirstOp) → member_named class name descriptor ≡ Some o
    → (class ≡ codes "demo/Taint") × (((name ≡ codes "source") × (descriptor ≡ codes "()Ljava/lang/String;") × (o ≡ op.Source)) ⊎ ((name ≡ codes "sink") × (descriptor ≡ codes "(Ljava/lang/String;)V") × (o ≡ op.Sink)))
named_takes class name descriptor o h =
    let sink : Option FirstOp = cond (bytes_eq name (codes "sink") && bytes_eq descriptor (codes "(Ljava/lang/String;)V")) (Some op.Sink) None in
    let g = guard_holds (bytes_eq class (codes "demo/Taint")) (cond (bytes_eq name (codes "source") && bytes_eq descriptor (codes "()Ljava/lang/String;")) (Some op.Source) sink) o h in (
      same_bytes class (codes "demo/Taint") g.0,
      elim (chosen (bytes_eq name (codes "source") && bytes_eq descriptor (codes "()Ljava/lang/String;")) (Some op.Source) sink (Some o) g.1) [
        | inl e ↦ let b = and_holds (bytes_eq name (codes "source")) (bytes_eq descriptor (codes "()Ljava/lang/String;")) e.0 in
            inl (same_bytes name _ b.0, same_bytes descriptor _ b.1, sym (some_is op.Source o e.1))
        | inr e ↦
            let s = guard_holds (bytes_eq name (codes "sink") && bytes_eq descriptor (codes "(Ljava/lang/String;)V")) (Some op.Sink) o e.1 in
            let b = and_holds (bytes_eq name (codes "sink")) (bytes_eq descriptor (codes "(Ljava/lang/String;)V")) s.0 in
            inr (same_bytes name _ b.0, same_bytes descriptor _ b.1, sym (some_is op.Sink o s.1))
      ],
    )

member_in_takes : (pool : List PoolEntry) (class : List ℕ) (e : PoolEntry) (o : FirstOp) → member_in pool class e ≡ Some o
    → (n : ℕ) × (d : ℕ) × (name : List ℕ) × (descriptor : List ℕ) × (e ≡ NameAndType n d) × (text_at pool n ≡ Some name) × (text_at pool d ≡ Some descriptor) × (member_named class name descriptor ≡ Some o)
member_in_takes pool class (Utf8 text) o h = absurd cc
member_in_takes pool class (Class name) o h = absurd cc
member_in_takes pool class (String text) o h = absurd cc
member_in_takes pool class (Methodref a b) o h = absurd cc
member_in_takes pool class (NameAndType n d) o h =
    let a = bind_some (text_at pool n) (λ x. text_at pool d >>= λ y. member_named class x y) o h in
    let b = bind_some (text_at pool d) (λ y. member_named class a.0 y) o a.2 in
    (n, d, a.0, b.0, refl, a.1, b.1, b.2)

pub member_takes : (pool : List PoolEntry) (class name_and_type : ℕ) (o : FirstOp) → member_at pool class name_and_type ≡ Some o → IsCall pool class name_and_type o
unfolding member_at
member_takes pool class name_and_type o h =
    let a = bind_some (class_at pool class) (λ c. entry_at pool name_and_type >>= λ e. member_in pool c e) o h in
    let b = bind_some (entry_at pool name_and_type) (λ e. member_in pool a.0 e) o a.2 in
    let m = member_in_takes pool a.0 b.0 o b.2 in
    let t = named_takes a.0 m.2 m.3 o m.7 in
    let c : IsClassNamed pool class (codes "demo/Taint") = subst (λ (n : List ℕ). IsClassNamed pool class n) t.0 (class_takes pool class a.0 a.1) in
    let e : IsNameAndType pool name_and_type m.2 m.3 = record { name_index = m.0; descriptor_index = m.1; entry = b.1 ∙ ap Some m.4; name_entry = text_takes pool m.0 m.2 m.5; descriptor_entry = text_takes pool m.1 m.3 m.6 } in
    elim t.1 [
      | inl s ↦ inl ((c, subst (λ (d : List ℕ). IsNameAndType pool name_and_type (codes "source") d) s.1 (subst (λ (n : List ℕ). IsNameAndType pool name_and_type n m.3) s.0 e)), s.2)
      | inr s ↦ inr ((c, subst (λ (d : List ℕ). IsNameAndType pool name_and_type (codes "sink") d) s.1 (subst (λ (n : List ℕ). IsNameAndType pool name_and_type n m.3) s.0 e)), s.2)
    ]

method_again : (pool : List PoolEntry) (class name_and_type : ℕ) (name descriptor : List ℕ) → IsTaintMethod pool class name_and_type name descriptor → member_at pool class name_and_type ≡ member_named (codes "demo/Taint") name descriptor
unfolding member_at
method_again pool class name_and_type name descriptor h =
    let e = h.1 in
    rw (class_again pool class (codes "demo/Taint") h.0, e.entry, text_again pool e.name_index name e.name_entry, text_again pool e.descriptor_index descriptor e.descriptor_entry) refl

pub member_again : (pool : List PoolEntry) (class name_and_type : ℕ) (o : FirstOp) → IsCall pool class name_and_type o → member_at pool class name_and_type ≡ Some o
member_again pool class name_and_type o (inl h) = method_again pool class name_and_type (codes "source") (codes "()Ljava/lang/String;") h.0 ∙ ap Some (sym h.1)
member_again pool class name_and_type o (inr h) = method_again pool class name_and_type (codes "sink") (codes "(Ljava/lang/String;)V") h.0 ∙ ap Some (sym h.1)

call_in_takes : (pool : List PoolEntry) (e : PoolEntry) (o : FirstOp) → call_in pool e ≡ Some o → (c : ℕ) × (n : ℕ) × (e ≡ Methodref c n) × (member_at pool c n ≡ Some o)
call_in_takes pool (Utf8 text) o h = absurd cc
call_in_takes pool (Class name) o h = absurd cc
call_in_takes pool (String text) o h = absurd cc
call_in_takes pool (Methodref c n) o h = (c, n, refl, h)
call_in_takes pool (NameAndType a b) o h = absurd cc

pub call_takes : (pool : List PoolEntry) (i : ℕ) (o : FirstOp) → call_at pool i ≡ Some o → (c : ℕ) × (n : ℕ) × (entry_at pool i ≡ Some (Methodref c n)) × IsCall pool c n o
unfolding call_at
call_takes pool i o h =
    let a = bind_some (entry_at pool i) (call_in pool) o h in
    let b = call_in_takes pool a.0 o a.2 in
    (b.0, b.1, a.1 ∙ ap Some b.2, member_takes pool b.0 b.1 o b.3)

pub call_again : (pool : List PoolEntry) (i : ℕ) (o : FirstOp) (c n : ℕ) → entry_at pool i ≡ Some (Methodref c n) → IsCall pool c n o → call_at pool i ≡ Some o
unfolding call_at
call_again pool i o c n e h = rw e (member_again pool c n o h)

constant_in_takes : (e : PoolEntry) (o : FirstOp) → constant_in e ≡ Some o → (t : ℕ) × (e ≡ String t) × (o ≡ op.Text)
constant_in_takes (Utf8 text) o h = absurd cc
constant_in_takes (Class name) o h = absurd cc
constant_in_takes (String text) o h = (text, refl, sym (some_is op.Text o h))
constant_in_takes (Methodref c n) o h = absurd cc
constant_in_takes (NameAndType a b) o h = absurd cc

pub constant_takes : (pool : List PoolEntry) (i : ℕ) (o : FirstOp) → constant_at pool i ≡ Some o → ((t : ℕ) × (entry_at pool i ≡ Some (String t))) × (o ≡ op.Text)
unfolding constant_at
constant_takes pool i o h =
    let a = bind_some (entry_at pool i) constant_in o h in
    let b = constant_in_takes a.0 o a.2 in
    ((b.0, a.1 ∙ ap Some b.1), b.2)

pub constant_again : (pool : List PoolEntry) (i t : ℕ) → entry_at pool i ≡ Some (String t) → constant_at pool i ≡ Some op.Text
unfolding constant_at
constant_again pool i t h = rw h refl
