-- What is read as the method of a class file of the first form is its method, and nothing in the first form is refused.
use Rattle.std.proofs.Common.{◌≡◌, ◌≢◌, ℕ, ◌+◌, ◌-◌, ◌^◌, ◌<◌, ◌≤◌, inl, inr, Bool, true, false, not, cond, leb, ltb, eqb, nat_eq, List, [], ◌∷◌, ◌++◌, length, Option, Some, None, Result, Ok, Err, IfOk, IsErrOf, is_some, bit_and, bytes_eq, codes, ◌&&◌, refl, sym, ap, subst, ◌∙◌, arith}
use Rattle.std.specs.List.{flat_map, list_all, starts_with, AllByRecursion}
use Rattle.std.proofs.lemmas.Bool.{leb-true, le-leb, ltb-true, eqb-true, eq-eqb, not-true, not_from_false}
use Rattle.std.proofs.lemmas.Bool.Decides.{nat_tests}
use Rattle.std.proofs.lemmas.List.{take_at, drop_at}
use Rattle.ja_class.specs.declared.first.FirstFault.{FirstFault}
use Rattle.ja_class.specs.declared.first.FirstFault.TheVariants.{Unbuilt, Memory}
use Rattle.ja_class.specs.declared.first.FirstInstr.{FirstInstr}
use Rattle.ja_class.specs.declared.first.FirstMethod.{FirstMethod}
use Rattle.ja_class.specs.declared.first.FirstOp.TheVariants as op
use Rattle.ja_class.specs.Pool.{PoolEntry, Utf8, Class, String, Methodref, NameAndType, entry_at, IsText, IsClassNamed, IsNameAndType, IsEntryOf}
use Rattle.ja_class.specs.Instruction.{bytes_of, IsCodeFrom}
use Rattle.ja_class.specs.FirstForm.{CodeAttribute, ClassFile, HoldsMethod, IsFirstForm, u2, u4, entry_bytes, code_content, method_bytes, spelling}
use Rattle.ja_class.specs.InnerReading.{◌>>=◌, Gives, text_at, class_at, is_this, is_allowed, member_at, code_from, has_numbers, has_names, is_program_name, program_name, is_runnable, runnable_code, method_in, file_from, method_from_bytes}
use Rattle.ja_class.proofs.Exact.{IsBytes, IsBytes-drop, IsBytes-take, bind_some, some_is, guard_holds}
use Rattle.ja_class.proofs.PoolLaws.{and_holds, same_bytes, bytes_same, within, text_takes, text_again, class_takes, class_again, this_takes, this_again, member_takes, member_again}
use Rattle.ja_class.proofs.Utf8Laws.{utf8_takes, utf8_again}
use Rattle.ja_class.proofs.CodeLaws.{code_takes, code_again}
use Rattle.ja_class.proofs.FrameLaws.{runnable_takes, runnable_again}
use Rattle.ja_class.proofs.LayoutLaws.{FitsEntry, FitsFile, file_takes, file_again}

true_false : true ≡ false → ⊥
true_false e = cc

differs : (b : Bool) → (b ≡ true → ⊥) → b ≡ false
differs true h = absurd (h refl)
differs false h = refl

-- ---- the pool

some_of : {A : Type 0} (o : Option A) → is_some o ≡ true → (x : A) × (o ≡ Some x)
some_of None e = absurd cc
some_of (Some x) e = (x, refl)

some_is_some : {A : Type 0} (o : Option A) (x : A) → o ≡ Some x → is_some o ≡ true
some_is_some o x e = ap is_some e

text_found : (pool : List PoolEntry) (i : ℕ) → is_some (text_at pool i) ≡ true → IsText pool i
text_found pool i e = let t = some_of (text_at pool i) e in (t.0, text_takes pool i t.0 t.1)

text_shown : (pool : List PoolEntry) (i : ℕ) → IsText pool i → is_some (text_at pool i) ≡ true
text_shown pool i t = some_is_some (text_at pool i) t.0 (text_again pool i t.0 t.1)

entry_takes : (pool : List PoolEntry) (e : PoolEntry) → FitsEntry e → is_allowed pool e ≡ true → IsEntryOf pool e
unfolding is_allowed
entry_takes pool (Utf8 text) fits h = (fits, utf8_takes text h)
entry_takes pool (Class name) fits h = text_found pool name h
entry_takes pool (String text) fits h = text_found pool text h
entry_takes pool (Methodref class name_and_type) fits h =
    let o = some_of (member_at pool class name_and_type) h in
    elim (member_takes pool class name_and_type o.0 o.1) [ inl s ↦ inl s.0 | inr s ↦ inr s.0 ]
entry_takes pool (NameAndType name descriptor) fits h =
    let b = and_holds (is_some (text_at pool name)) (is_some (text_at pool descriptor)) h in
    (text_found pool name b.0, text_found pool descriptor b.1)

entry_again : (pool : List PoolEntry) (e : PoolEntry) → IsEntryOf pool e → is_allowed pool e ≡ true
unfolding is_allowed
entry_again pool (Utf8 text) h = utf8_again text h.1
entry_again pool (Class name) h = text_shown pool name h
entry_again pool (String text) h = text_shown pool text h
entry_again pool (Methodref class name_and_type) (inl h) = some_is_some (member_at pool class name_and_type) op.Source (member_again pool class name_and_type op.Source (inl (h, refl)))
entry_again pool (Methodref class name_and_type) (inr h) = some_is_some (member_at pool class name_and_type) op.Sink (member_again pool class name_and_type op.Sink (inr (h, refl)))
entry_again pool (NameAndType name descriptor) h = rw (text_shown pool name h.0) (text_shown pool descriptor h.1)

-- an index that names an entry fits its field
index_fits : (pool : List PoolEntry) (i : ℕ) (e : PoolEntry) → length pool + 1 < 2 ^ 16 → entry_at pool i ≡ Some e → i < 2 ^ 16
index_fits pool i e small h = omega (arith, within pool i e h)

call_fits : (pool : List PoolEntry) (class name_and_type : ℕ) (name descriptor : List ℕ) → length pool + 1 < 2 ^ 16 → IsClassNamed pool class (codes "demo/Taint") × IsNameAndType pool name_and_type name descriptor → (class < 2 ^ 16) × (name_and_type < 2 ^ 16)
call_fits pool class name_and_type name descriptor small h = (index_fits pool class _ small h.0.entry, index_fits pool name_and_type _ small h.1.entry)

entry_fits : (pool : List PoolEntry) (e : PoolEntry) → length pool + 1 < 2 ^ 16 → IsEntryOf pool e → FitsEntry e
entry_fits pool (Utf8 text) small h = h.0
entry_fits pool (Class name) small h = index_fits pool name _ small h.1
entry_fits pool (String text) small h = index_fits pool text _ small h.1
entry_fits pool (Methodref class name_and_type) small (inl h) = call_fits pool class name_and_type _ _ small h
entry_fits pool (Methodref class name_and_type) small (inr h) = call_fits pool class name_and_type _ _ small h
entry_fits pool (NameAndType name descriptor) small h = (index_fits pool name _ small h.0.1, index_fits pool descriptor _ small h.1.1)

entries_take : (pool es : List PoolEntry) → AllByRecursion FitsEntry es → list_all (is_allowed pool) es ≡ true → AllByRecursion (IsEntryOf pool) es
entries_take pool [] fits h = tt
entries_take pool (e ∷ es) fits h =
    let b = and_holds (is_allowed pool e) (list_all (is_allowed pool) es) h in
    (entry_takes pool e fits.0 b.0, entries_take pool es fits.1 b.1)

entries_again : (pool es : List PoolEntry) → AllByRecursion (IsEntryOf pool) es → list_all (is_allowed pool) es ≡ true
entries_again pool [] h = refl
entries_again pool (e ∷ es) h = rw (entry_again pool e h.0) (entries_again pool es h.1)

entries_fit : (pool es : List PoolEntry) → length pool + 1 < 2 ^ 16 → AllByRecursion (IsEntryOf pool) es → AllByRecursion FitsEntry es
entries_fit pool [] small h = tt
entries_fit pool (e ∷ es) small h = (entry_fits pool e small h.0, entries_fit pool es small h.1)

-- ---- numbers and names

-- the numbers are those of the first form
record HasNumbers (c : ClassFile) : Type 0 where
  low : 45 ≤ c.major_version
  high : c.major_version ≤ 52
  interface : bit_and c.access_flags 0x0200 ≡ 0
  abstract_class : bit_and c.access_flags 0x0400 ≡ 0
  short : length c.method.code.code < 2 ^ 16

numbers_take : (c : ClassFile) → has_numbers c ≡ true → HasNumbers c
unfolding has_numbers
numbers_take c h =
    let v = leb 45 c.major_version && leb c.major_version 52 in
    let i = eqb (bit_and c.access_flags 0x0200) 0 in
    let a = eqb (bit_and c.access_flags 0x0400) 0 in
    let s = ltb (length c.method.code.code) 65536 in
    let p = and_holds (v && i && a) s h in
    let q = and_holds (v && i) a p.0 in
    let r = and_holds v i q.0 in
    let u = and_holds (leb 45 c.major_version) (leb c.major_version 52) r.0 in
    record {
      low = leb-true 45 c.major_version u.0;
      high = leb-true c.major_version 52 u.1;
      interface = eqb-true (bit_and c.access_flags 0x0200) 0 r.1;
      abstract_class = eqb-true (bit_and c.access_flags 0x0400) 0 q.1;
      short = ltb-true (length c.method.code.code) 65536 p.1;
    }

lt-ltb : (a b : ℕ) → a < b → ltb a b ≡ true
lt-ltb a b h = grind (arith, nat_tests)

numbers_again : (c : ClassFile) → HasNumbers c → has_numbers c ≡ true
unfolding has_numbers
numbers_again c h =
    rw (le-leb 45 c.major_version h.low, le-leb c.major_version 52 h.high, eq-eqb (bit_and c.access_flags 0x0200) 0 h.interface, eq-eqb (bit_and c.access_flags 0x0400) 0 h.abstract_class)
    (lt-ltb (length c.method.code.code) 65536 h.short)

-- the names, but for the class's, are those of the first form
record HasNames (c : ClassFile) : Type 0 where
  super : IsClassNamed c.constant_pool c.super_class (codes "java/lang/Object")
  main : entry_at c.constant_pool c.method.name_index ≡ Some (Utf8 (codes "main"))
  descriptor : entry_at c.constant_pool c.method.descriptor_index ≡ Some (Utf8 (codes "([Ljava/lang/String;)V"))
  code : entry_at c.constant_pool c.method.code.attribute_name_index ≡ Some (Utf8 (codes "Code"))

names_take : (c : ClassFile) → has_names c ≡ true → HasNames c
unfolding has_names
names_take c h =
    let pool = c.constant_pool in
    let s = is_this (class_at pool c.super_class) (codes "java/lang/Object") in
    let n = is_this (text_at pool c.method.name_index) (codes "main") in
    let d = is_this (text_at pool c.method.descriptor_index) (codes "([Ljava/lang/String;)V") in
    let a = is_this (text_at pool c.method.code.attribute_name_index) (codes "Code") in
    let p = and_holds (s && n && d) a h in
    let q = and_holds (s && n) d p.0 in
    let r = and_holds s n q.0 in
    record {
      super = class_takes pool c.super_class _ (this_takes (class_at pool c.super_class) (codes "java/lang/Object") r.0);
      main = text_takes pool c.method.name_index _ (this_takes (text_at pool c.method.name_index) (codes "main") r.1);
      descriptor = text_takes pool c.method.descriptor_index _ (this_takes (text_at pool c.method.descriptor_index) (codes "([Ljava/lang/String;)V") q.1);
      code = text_takes pool c.method.code.attribute_name_index _ (this_takes (text_at pool c.method.code.attribute_name_index) (codes "Code") p.1);
    }

names_again : (c : ClassFile) → HasNames c → has_names c ≡ true
unfolding has_names
names_again c h =
    let pool = c.constant_pool in
    rw (
      this_again (class_at pool c.super_class) (codes "java/lang/Object") (class_again pool c.super_class (codes "java/lang/Object") h.super),
      this_again (text_at pool c.method.name_index) (codes "main") (text_again pool c.method.name_index (codes "main") h.main),
      this_again (text_at pool c.method.descriptor_index) (codes "([Ljava/lang/String;)V") (text_again pool c.method.descriptor_index (codes "([Ljava/lang/String;)V") h.descriptor),
    )
    (this_again (text_at pool c.method.code.attribute_name_index) (codes "Code") (text_again pool c.method.code.attribute_name_index (codes "Code") h.code))

-- the name is that of a class of the program
record NamesProgram (name : List ℕ) : Type 0 where
  not_array : starts_with nat_eq name (codes "[") ≡ false
  not_platform : starts_with nat_eq name (codes "java/") ≡ false
  not_taint : name ≢ codes "demo/Taint"

program_takes : (name : List ℕ) → is_program_name name ≡ true → NamesProgram name
unfolding is_program_name
program_takes name h =
    let a = not (starts_with nat_eq name (codes "[")) in
    let j = not (starts_with nat_eq name (codes "java/")) in
    let t = not (bytes_eq name (codes "demo/Taint")) in
    let p = and_holds (a && j) t h in
    let q = and_holds a j p.0 in
    record {
      not_array = not-true (starts_with nat_eq name (codes "[")) q.0;
      not_platform = not-true (starts_with nat_eq name (codes "java/")) q.1;
      not_taint = λ same. absurd (true_false (sym (bytes_same name (codes "demo/Taint") same) ∙ not-true (bytes_eq name (codes "demo/Taint")) p.1));
    }

program_again : (name : List ℕ) → NamesProgram name → is_program_name name ≡ true
unfolding is_program_name
program_again name h =
    rw (not_from_false (starts_with nat_eq name (codes "[")) h.not_array, not_from_false (starts_with nat_eq name (codes "java/")) h.not_platform)
    (not_from_false (bytes_eq name (codes "demo/Taint")) (differs (bytes_eq name (codes "demo/Taint")) (λ e. h.not_taint (same_bytes name (codes "demo/Taint") e))))

-- ---- the method

name_takes : (pool : List PoolEntry) (i : ℕ) (name : List ℕ) → program_name pool i ≡ Some name → IsClassNamed pool i name × NamesProgram name
unfolding program_name
name_takes pool i name e =
    let n = bind_some (class_at pool i) (λ n. cond (is_program_name n) (Some n) None) name e in
    let g = guard_holds (is_program_name n.0) (Some n.0) name n.2 in
    subst (λ (t : List ℕ). IsClassNamed pool i t × NamesProgram t) (some_is n.0 name g.1) (class_takes pool i n.0 n.1, program_takes n.0 g.0)

name_again : (pool : List PoolEntry) (i : ℕ) (name : List ℕ) → IsClassNamed pool i name → NamesProgram name → program_name pool i ≡ Some name
unfolding program_name
name_again pool i name h p = rw (class_again pool i name h, program_again name p) refl

runs_take : (pool : List PoolEntry) (a : CodeAttribute) (code : List FirstInstr) → runnable_code pool a ≡ Some code → (code_from pool (length a.code) (length a.code) a.code ≡ Some code) × (is_runnable a.max_locals a.max_stack code ≡ true)
unfolding runnable_code
runs_take pool a code e =
    let c = bind_some (code_from pool (length a.code) (length a.code) a.code) (λ code. cond (is_runnable a.max_locals a.max_stack code) (Some code) None) code e in
    let g = guard_holds (is_runnable a.max_locals a.max_stack c.0) (Some c.0) code c.2 in
    subst (λ (x : List FirstInstr). (code_from pool (length a.code) (length a.code) a.code ≡ Some x) × (is_runnable a.max_locals a.max_stack x ≡ true)) (some_is c.0 code g.1) (c.1, g.0)

runs_again : (pool : List PoolEntry) (a : CodeAttribute) (code : List FirstInstr) → code_from pool (length a.code) (length a.code) a.code ≡ Some code → is_runnable a.max_locals a.max_stack code ≡ true → runnable_code pool a ≡ Some code
unfolding runnable_code
runs_again pool a code e h = rw (e, h) refl

abbrev method_record : (class file : List ℕ) (locals stack : ℕ) → List FirstInstr → FirstMethod
method_record class file locals stack code = record { class = class; file = file; locals = locals; stack = stack; code = code }

-- the method with these parts
abbrev made : ClassFile → List ℕ → List FirstInstr → FirstMethod
made c name code = record { class = name; file = []; locals = c.method.code.max_locals; stack = c.method.code.max_stack; code = code }

-- what is read is the method of the class file
method_takes : (c : ClassFile) (m : FirstMethod) → IsBytes c.method.code.code → FitsFile c → method_in c ≡ Some m → HoldsMethod c m
unfolding method_in
method_takes c m bytes fits e =
    let pool = c.constant_pool in
    let a = c.method.code in
    let rest : Option FirstMethod = program_name pool c.this_class >>= λ name. runnable_code pool a >>= λ code. Some (made c name code) in
    let allowed = list_all (is_allowed pool) pool in
    let g = guard_holds (has_numbers c && has_names c && allowed) rest m e in
    let p = and_holds (has_numbers c && has_names c) allowed g.0 in
    let q = and_holds (has_numbers c) (has_names c) p.0 in
    let numbers = numbers_take c q.0 in
    let names = names_take c q.1 in
    let n = bind_some (program_name pool c.this_class) (λ name. runnable_code pool a >>= λ code. Some (made c name code)) m g.1 in
    let r = bind_some (runnable_code pool a) (λ code. Some (made c n.0 code)) m n.2 in
    let name = name_takes pool c.this_class n.0 n.1 in
    let code = runs_take pool a r.0 r.1 in
    let run = runnable_takes a.max_locals a.max_stack r.0 code.1 in
    let start : length a.code - length a.code ≡ 0 = omega arith in
    let is = code_takes pool (length a.code) (length a.code) a.code r.0 bytes (omega arith) code.0 in
    subst (HoldsMethod c) (some_is (made c n.0 r.0) m r.2) (record {
      minor = fits.0.0.0;
      major = (numbers.low, numbers.high);
      pool = record { count = fits.0.1.count; entries = entries_take pool pool fits.0.1.entries p.1 };
      flags = fits.1.0.0;
      not_interface = numbers.interface;
      not_abstract = numbers.abstract_class;
      class_name = name.0;
      not_array = name.1.not_array;
      not_platform = name.1.not_platform;
      not_taint = name.1.not_taint;
      super_name = names.super;
      method_name = names.main;
      method_descriptor = names.descriptor;
      attribute_name = names.code;
      code_length = numbers.short;
      instructions = is.0;
      spelled = is.1;
      code = subst (λ (n : ℕ). IsCodeFrom pool n is.0 r.0) start is.2;
      stack = refl;
      locals = refl;
      runnable = record { argument = run.0; frame = run.1; runs = run.2 };
      file = refl;
    })

-- the method of the class file is read
method_again : (c : ClassFile) (m : FirstMethod) → HoldsMethod c m → method_in c ≡ Some m
unfolding method_in
method_again c m h =
    let pool = c.constant_pool in
    let a = c.method.code in
    let numbers = numbers_again c (record { low = h.major.0; high = h.major.1; interface = h.not_interface; abstract_class = h.not_abstract; short = h.code_length }) in
    let names = names_again c (record { super = h.super_name; main = h.method_name; descriptor = h.method_descriptor; code = h.attribute_name }) in
    let entries = entries_again pool pool h.pool.entries in
    let name = name_again pool c.this_class m.class h.class_name (record { not_array = h.not_array; not_platform = h.not_platform; not_taint = h.not_taint }) in
    let text = h.spelled in
    let len : length (flat_map bytes_of h.instructions) ≡ length a.code = ap length (sym text) in
    let start : 0 ≡ length a.code - length (flat_map bytes_of h.instructions) = omega arith in
    let read : code_from pool (length a.code) (length a.code) a.code ≡ Some m.code =
    ap (code_from pool (length a.code) (length a.code)) text
    ∙ code_again pool (length a.code) (length a.code) h.instructions m.code h.pool.count (omega arith) (omega arith) (subst (λ (n : ℕ). IsCodeFrom pool n h.instructions m.code) start h.code) in
    let run : is_runnable a.max_locals a.max_stack m.code ≡ true =
    subst (λ (n : ℕ). is_runnable n a.max_stack m.code ≡ true) h.locals
    (subst (λ (n : ℕ). is_runnable m.locals n m.code ≡ true) h.stack (runnable_again m.locals m.stack m.code h.runnable.argument h.runnable.frame h.runnable.runs)) in
    let same : made c m.class m.code ≡ m =
    ap (λ (n : ℕ). method_record m.class [] n a.max_stack m.code) (sym h.locals)
    ∙ ap (λ (n : ℕ). method_record m.class [] m.locals n m.code) (sym h.stack)
    ∙ ap (λ (f : List ℕ). method_record m.class f m.locals m.stack m.code) (sym h.file) in
    rw (numbers, names, entries, name, runs_again pool a m.code read run) (ap (λ (x : FirstMethod). Some x) same)

-- the numbers of a class file of the first form fit their fields
method_fits : (c : ClassFile) (m : FirstMethod) → HoldsMethod c m → FitsFile c
method_fits c m h =
    let pool = c.constant_pool in
    let small = h.pool.count in
    let frame = h.runnable.frame in
    let stack = h.stack in
    let locals = h.locals in
    let short = h.code_length in
    let major = h.major.1 in (
      ((h.minor, omega arith), record { count = small; entries = entries_fit pool pool small h.pool.entries }),
      (
        (h.flags, (index_fits pool c.this_class _ small h.class_name.entry, index_fits pool c.super_class _ small h.super_name.entry)),
        (
          (index_fits pool c.method.name_index _ small h.method_name, index_fits pool c.method.descriptor_index _ small h.method_descriptor),
          record { name = index_fits pool c.method.code.attribute_name_index _ small h.attribute_name; stack = omega arith; locals = omega arith; code = omega arith },
        ),
      ),
    )

-- ---- bytes

IsBytes-right : (x y : List ℕ) → IsBytes (x ++ y) → IsBytes y
IsBytes-right x y h = subst IsBytes (drop_at x y (length x) refl) (IsBytes-drop (length x) (x ++ y) h)

IsBytes-left : (x y : List ℕ) → IsBytes (x ++ y) → IsBytes x
IsBytes-left x y h = subst IsBytes (take_at x y (length x) refl) (IsBytes-take (length x) (x ++ y) h)

-- the last of twelve pieces but one
inner : (a b c d e f g h i j k l m : List ℕ) → IsBytes (a ++ (b ++ (c ++ (d ++ (e ++ (f ++ (g ++ (h ++ (i ++ (j ++ (k ++ (l ++ m)))))))))))) → IsBytes l
inner a b c d e f g h i j k l m all =
    IsBytes-left l m (IsBytes-right k _ (IsBytes-right j _ (IsBytes-right i _ (IsBytes-right h _ (IsBytes-right g _ (IsBytes-right f _ (IsBytes-right e _ (IsBytes-right d _ (IsBytes-right c _ (IsBytes-right b _ (IsBytes-right a _ all)))))))))))

method_bytes_fit : (c : ClassFile) → IsBytes (spelling c) → IsBytes (method_bytes c.method)
method_bytes_fit c h = inner (u4 0xcafebabe) (u2 c.minor_version) (u2 c.major_version) (u2 (length c.constant_pool + 1)) (flat_map entry_bytes c.constant_pool) (u2 c.access_flags) (u2 c.this_class) (u2 c.super_class) (u2 0) (u2 0) (u2 1) (method_bytes c.method) (u2 0) h

-- the last of ten pieces but one
inner_code : (a b c d e f g h i j k : List ℕ) → IsBytes (a ++ (b ++ (c ++ (d ++ (e ++ (f ++ (g ++ (h ++ (i ++ (j ++ k)))))))))) → IsBytes j
inner_code a b c d e f g h i j k all =
    IsBytes-left j k (IsBytes-right i _ (IsBytes-right h _ (IsBytes-right g _ (IsBytes-right f _ (IsBytes-right e _ (IsBytes-right d _ (IsBytes-right c _ (IsBytes-right b _ (IsBytes-right a _ all)))))))))

code_bytes_fit : (c : ClassFile) → IsBytes (spelling c) → IsBytes c.method.code.code
code_bytes_fit c h =
    let m = c.method in
    let a = m.code in
    inner_code (u2 9) (u2 m.name_index) (u2 m.descriptor_index) (u2 1) (u2 a.attribute_name_index) (u4 (length (code_content a))) (u2 a.max_stack) (u2 a.max_locals) (u4 (length a.code)) a.code (u2 0 ++ u2 0) (method_bytes_fit c h)

-- ---- the whole

-- what is read is in the first form
pub form_takes : (bytes : List ℕ) (m : FirstMethod) → IsBytes bytes → method_from_bytes bytes ≡ Some m → IsFirstForm bytes m
unfolding method_from_bytes
form_takes bytes m fits e =
    let c = bind_some (file_from bytes) method_in m e in
    let f = file_takes bytes c.0 fits c.1 in
    record { class_file = c.0; method = method_takes c.0 m (code_bytes_fit c.0 (subst IsBytes f.0 fits)) f.1 c.2; whole = f.0 }

-- what is in the first form is read
pub form_again : (bytes : List ℕ) (m : FirstMethod) → IsFirstForm bytes m → method_from_bytes bytes ≡ Some m
unfolding method_from_bytes
form_again bytes m h =
    let c = h.class_file in
    let read : file_from bytes ≡ Some c = ap file_from h.whole ∙ file_again c (method_fits c m h.method) in
    rw read (method_again c m h.method)

-- the first form of bytes is one method
pub form_is_one : (bytes : List ℕ) (m n : FirstMethod) → IsFirstForm bytes m → IsFirstForm bytes n → m ≡ n
form_is_one bytes m n h k = some_is m n (sym (form_again bytes m h) ∙ form_again bytes n k)

some_none : (m : FirstMethod) → Some m ≡ None → ⊥
some_none m e = cc

-- what the reader returned is in the first form
pub found : (bytes : List ℕ) (r : Result FirstMethod FirstFault) → IsBytes bytes → Gives (λ m. m) r (method_from_bytes bytes) → IfOk r (λ m. IsFirstForm bytes m)
found bytes (Ok m) fits given = form_takes bytes m fits given
found bytes (Err fault) fits given = tt

-- nothing else is
pub only : (bytes : List ℕ) (r : Result FirstMethod FirstFault) → Gives (λ m. m) r (method_from_bytes bytes) → IfOk r (λ m. (n : FirstMethod) → IsFirstForm bytes n → n ≡ m)
only bytes (Ok m) given = λ n h. some_is n m (sym (form_again bytes n h) ∙ given)
only bytes (Err fault) given = tt

-- what the reader refuses is in no first form
pub unbuilt : (bytes : List ℕ) (r : Result FirstMethod FirstFault) → Gives (λ m. m) r (method_from_bytes bytes) → IsErrOf r Unbuilt → (n : FirstMethod) → IsFirstForm bytes n → ⊥
unbuilt bytes (Ok m) given e n h = absurd cc
unbuilt bytes (Err Unbuilt) given e n h = absurd (some_none n (sym (form_again bytes n h) ∙ given))
unbuilt bytes (Err Memory) given e n h = absurd cc
