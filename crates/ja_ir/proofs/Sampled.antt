-- The sample is whole.
use Rattle.std.proofs.Common.{◌≡◌, inl, ℕ, zero, suc, ◌+◌, ◌<◌, ◌≤◌, Bool, true, false, List, [], ◌∷◌, length, refl, sym, subst, arith, lit<, lit≤}
use Rattle.std.specs.Prelude.{◌↔◌, Option, Some, None, All, codes, slice_get}
use Rattle.std.proofs.lemmas.List.Elements.{All-from_recursion}
use Rattle.ja_base.specs.declared.java_type.JavaType.{JavaType}
use Rattle.ja_base.specs.Descriptor.{AreTypes, IsField, IsMethod}
use Rattle.ja_ir.specs.declared.program.Parts.{Parts}
use Rattle.ja_ir.specs.declared.class.ClassInfo.{ClassInfo}
use Rattle.ja_ir.specs.declared.class.Field.{Field}
use Rattle.ja_ir.specs.declared.class.Selection.{Selection}
use Rattle.ja_ir.specs.declared.method.Method.{Method}
use Rattle.ja_ir.specs.declared.method.Instr.{Instr}
use Rattle.ja_ir.specs.declared.method.Handler.{Handler}
use Rattle.ja_ir.specs.declared.entry.Entry.{Entry}
use Rattle.ja_ir.specs.declared.entry.Site.{Site}
use Rattle.ja_base.specs.declared.java_type.Kind.TheVariants.{P1}
use Rattle.ja_ir.specs.declared.class.MethodAt.TheVariants.{Program, Abstract}
use Rattle.ja_ir.specs.declared.op.Op.TheVariants.{Const, Return, Call, Throw}
use Rattle.ja_ir.specs.Examples.{at, no_types}
use Rattle.ja_ir.specs.Lookup.{HasCode, is_member}
use Rattle.ja_ir.specs.Operations.{height_after}
use Rattle.ja_ir.specs.Handlers.{in_range}
use Rattle.ja_ir.specs.Whole.{NamesClass, NamesAll, LiesIn, IsNamed, HasConstructor, IsWholeEntry, IsWholeSelection, IsDescribed, ReturnsAs, SpellsField, SpellsMethod, IsWholeMethod, IsWholeRow, NamesInitializer, IsWholeSite, IsSmall, IsReachedAt, Starts, Runs, IsWhole}
use Rattle.ja_ir.specs.Sample.{sink, main, constructor, member, without_code, initializer, selected, sample}

-- ()V and (I)V are method descriptors, and I is a field descriptor
plain : IsMethod (codes "()V") [] None
plain = record { inner = []; last = codes "V"; parts = refl; fields = refl; most = lit≤ tt; ends = refl }

with_number : IsMethod (codes "(I)V") sink.params None
with_number = record { inner = codes "I"; last = codes "V"; parts = refl; fields = (codes "I", [], refl, inl (refl, refl), refl); most = lit≤ tt; ends = refl }

-- what holds of each instruction of a list at its index holds of the one that is found at an index
abbrev EachAt : (ℕ → Instr → Type 0) → ℕ → List Instr → Type 0
EachAt P k [] = Unit {0}
EachAt P k (x ∷ xs) = P k x × EachAt P (suc k) xs

found-at : (P : ℕ → Instr → Type 0) (k : ℕ) (xs : List Instr) → EachAt P k xs → (i : ℕ) (x : Instr) → slice_get xs i ≡ Some x → P (k + i) x
found-at P k [] each i x e = cc
found-at P k (y ∷ xs) each zero x e = let same : y ≡ x = cc in subst (λ (n : ℕ). P n x) (let q : k ≡ k + 0 = omega arith in q) (subst (P k) same each.0)
found-at P k (y ∷ xs) each (suc i) x e = subst (λ (n : ℕ). P n x) (let q : suc k + i ≡ k + suc i = omega arith in q) (found-at P (suc k) xs each.1 i x e)

runs-at : (m : Method) → EachAt (λ i x. x.reached ≡ true → Runs m i x) 0 m.code → (i : ℕ) (x : Instr) → slice_get m.code i ≡ Some x → x.reached ≡ true → Runs m i x
runs-at m each i x e r = subst (λ (n : ℕ). Runs m n x) (let q : 0 + i ≡ i = omega arith in q) (found-at (λ i x. x.reached ≡ true → Runs m i x) 0 m.code each i x e r)

none-named : (n : ℕ) → All (λ j. j < n) []
none-named n k d lt = absurd (omega arith)

one-named : (n a : ℕ) → a < n → All (λ j. j < n) (a ∷ [])
one-named n a h = All-from_recursion (λ j. j < n) (a ∷ []) (h, tt)

-- a return that is the whole code
return-runs : Runs constructor 0 (at 0 (Return None) [] 0)
return-runs = record {
  height = lit≤ tt;
  operands = lit≤ tt;
  locals = tt;
  goes_on = λ h. cc;
  next = λ k d lt. absurd (omega arith);
  handlers = λ k d lt. absurd (omega arith);
}

member-runs : Runs member 0 (at 0 (Return None) [] 0)
member-runs = record {
  height = lit≤ tt;
  operands = lit≤ tt;
  locals = tt;
  goes_on = λ h. cc;
  next = λ k d lt. absurd (omega arith);
  handlers = λ k d lt. absurd (omega arith);
}

initializer-runs : Runs initializer 0 (at 0 (Return None) [] 0)
initializer-runs = record {
  height = lit≤ tt;
  operands = lit≤ tt;
  locals = tt;
  goes_on = λ h. cc;
  next = λ k d lt. absurd (omega arith);
  handlers = λ k d lt. absurd (omega arith);
}

-- instruction j of the main method is reached at its height
main-one : IsReachedAt main 1 1
main-one = record { instr = at 1 (Call sink) (2 ∷ []) 1; found = refl; reached = refl; is_height = refl }

main-two : IsReachedAt main 2 0
main-two = record { instr = at 2 (Return None) [] 0; found = refl; reached = refl; is_height = refl }

main-three : IsReachedAt main 3 1
main-three = record { instr = at 3 Throw [] 1; found = refl; reached = refl; is_height = refl }

-- the handler of the main method leads on from any instruction
handled : (i : ℕ) → All (λ (h : Handler). in_range h i ≡ true → IsReachedAt main h.target 1) main.handlers
handled i = All-from_recursion (λ (h : Handler). in_range h i ≡ true → IsReachedAt main h.target 1) main.handlers ((λ e. main-three), tt)

main-runs : EachAt (λ i x. x.reached ≡ true → Runs main i x) 0 main.code
main-runs = (
  (λ e. record { height = lit≤ tt; operands = lit≤ tt; locals = tt; next = All-from_recursion (λ j. IsReachedAt main j 1) (1 ∷ []) (main-one, tt); handlers = handled 0; goes_on = λ h. lit< tt }),
  (
    (λ e. record { height = lit≤ tt; operands = lit≤ tt; locals = tt; next = All-from_recursion (λ j. IsReachedAt main j 0) (2 ∷ []) (main-two, tt); handlers = handled 1; goes_on = λ h. lit< tt }),
    (
      (λ e. record { height = lit≤ tt; operands = lit≤ tt; locals = tt; next = λ k d lt. absurd (omega arith); handlers = handled 2; goes_on = λ h. cc }),
      ((λ e. record { height = lit≤ tt; operands = lit≤ tt; locals = tt; next = λ k d lt. absurd (omega arith); handlers = handled 3; goes_on = λ h. cc }), tt),
    ),
  ),
)

main-names : All (NamesAll sample 4) main.code
main-names = All-from_recursion (NamesAll sample 4) main.code (
  record { next = one-named 4 1 (lit< tt); operands = tt },
  (
    record { next = one-named 4 2 (lit< tt); operands = tt },
    (
      record { next = none-named 4; operands = tt },
      (record { next = none-named 4; operands = tt }, tt),
    ),
  ),
)

return-names : All (NamesAll sample 1) constructor.code
return-names = All-from_recursion (NamesAll sample 1) constructor.code (record { next = none-named 1; operands = tt }, tt)

spelled : SpellsMethod (codes "()V")
spelled = ([], None, plain)

-- the types of the methods of the sample
no_types-spelled : AreTypes (codes "()V") no_types
no_types-spelled = record { spelled = plain; words = refl }

whole-row : IsWholeRow sample sink.row
whole-row = record { marks = refl; category = lit< tt }

main-whole : IsWholeMethod sample main
main-whole = record {
  spelled = no_types-spelled;
  code = (λ h. refl, λ e. lit< tt);
  calls = All-from_recursion (λ (x : Instr). IsDescribed sample x.op) main.code (tt, ((with_number, tt, whole-row), (tt, (tt, tt))));
  returns = All-from_recursion (λ (x : Instr). x.reached ≡ true → ReturnsAs None x.op) main.code ((λ e. tt), ((λ e. tt), ((λ e. refl), ((λ e. tt), tt))));
}

constructor-whole : IsWholeMethod sample constructor
constructor-whole = record {
  spelled = no_types-spelled;
  code = (λ h. refl, λ e. lit< tt);
  calls = All-from_recursion (λ (x : Instr). IsDescribed sample x.op) constructor.code (tt, tt);
  returns = All-from_recursion (λ (x : Instr). x.reached ≡ true → ReturnsAs None x.op) constructor.code ((λ e. refl), tt);
}

member-whole : IsWholeMethod sample member
member-whole = record {
  spelled = no_types-spelled;
  code = (λ h. refl, λ e. lit< tt);
  calls = All-from_recursion (λ (x : Instr). IsDescribed sample x.op) member.code (tt, tt);
  returns = All-from_recursion (λ (x : Instr). x.reached ≡ true → ReturnsAs None x.op) member.code ((λ e. refl), tt);
}

initializer-whole : IsWholeMethod sample initializer
initializer-whole = record {
  spelled = no_types-spelled;
  code = (λ h. refl, λ e. lit< tt);
  calls = All-from_recursion (λ (x : Instr). IsDescribed sample x.op) initializer.code (tt, tt);
  returns = All-from_recursion (λ (x : Instr). x.reached ≡ true → ReturnsAs None x.op) initializer.code ((λ e. refl), tt);
}

without_code-whole : IsWholeMethod sample without_code
without_code-whole = record {
  spelled = no_types-spelled;
  code = (λ h. absurd (omega arith), λ e. cc);
  calls = λ k d lt. absurd (omega arith);
  returns = λ k d lt. absurd (omega arith);
}

constructs : HasConstructor sample 0
constructs = record { m = 1; method = constructor; named = record { found = refl; is_name = refl; is_desc = refl }; declared = refl; member = refl; code = lit< tt }

sample-selections : All (IsWholeSelection sample) selected
sample-selections = All-from_recursion (IsWholeSelection sample) selected (
  record {
    spelled = spelled;
    answer = (member, record { found = refl; is_name = refl; is_desc = refl }, lit< tt);
    member = λ m e. (let same : member ≡ m = cc in subst (λ (x : Method). is_member x.flags ≡ true) same refl);
  },
  (
    record {
      spelled = spelled;
      answer = (without_code, record { found = refl; is_name = refl; is_desc = refl }, refl);
      member = λ m e. (let same : without_code ≡ m = cc in subst (λ (x : Method). is_member x.flags ≡ true) same refl);
    },
    tt,
  ),
)

initializes : NamesInitializer sample 4
initializes = record { method = initializer; named = record { found = refl; is_name = refl; is_desc = refl }; belongs = refl; code = lit< tt }

-- the sample is whole
pub sample-whole : IsWhole sample
sample-whole = record {
  supers = All-from_recursion (λ (c : ClassInfo). All (λ s. NamesClass sample s.0) c.supers) sample.classes (All-from_recursion (λ s. NamesClass sample s.0) (record { 0 = 0 } ∷ []) (lit< tt, tt), tt);
  field_classes = All-from_recursion (λ (f : Field). NamesClass sample f.class.0) sample.fields (lit< tt, tt);
  method_classes = All-from_recursion (λ (m : Method). NamesClass sample m.class.0) sample.methods (lit< tt, (lit< tt, (lit< tt, (lit< tt, (lit< tt, tt)))));
  inits = All-from_recursion (λ (c : ClassInfo). All (λ m. NamesInitializer sample m.0) c.inits) sample.classes (All-from_recursion (λ m. NamesInitializer sample m.0) (record { 0 = 4 } ∷ []) (initializes, tt), tt);
  categories = lit≤ tt;
  instructions = All-from_recursion (λ (m : Method). All (NamesAll sample (length m.code)) m.code) sample.methods (main-names, (return-names, (return-names, ((λ k d lt. absurd (omega arith)), (return-names, tt)))));
  handlers = All-from_recursion (λ (m : Method). All (LiesIn sample (length m.code)) m.handlers) sample.methods (
    All-from_recursion (LiesIn sample 4) main.handlers (record { start = lit< tt; end = lit≤ tt; target = lit< tt; class = tt }, tt),
    ((λ k d lt. absurd (omega arith)), ((λ k d lt. absurd (omega arith)), ((λ k d lt. absurd (omega arith)), ((λ k d lt. absurd (omega arith)), tt)))),
  );
  entries = All-from_recursion (IsWholeEntry sample) sample.entries (
    record { class = lit< tt; method = main; found = refl; code = lit< tt; receiver = λ e. constructs; marks = refl },
    (record { class = lit< tt; method = member; found = refl; code = lit< tt; receiver = λ e. constructs; marks = refl }, tt),
  );
  selections = All-from_recursion (λ (c : ClassInfo). All (IsWholeSelection sample) c.selections) sample.classes (sample-selections, tt);
  described = All-from_recursion (λ (f : Field). SpellsField f.desc) sample.fields ((record { kind = P1; name = codes "I" }, inl (refl, refl)), tt);
  methods = All-from_recursion (IsWholeMethod sample) sample.methods (main-whole, (constructor-whole, (member-whole, (without_code-whole, (initializer-whole, tt)))));
  sites = All-from_recursion (IsWholeSite sample) sample.sites (
    record { instr = at 1 (Call sink) (2 ∷ []) 1; call = sink; found = refl; is_call = refl; positions = one-named 1 0 (lit< tt); category = lit< tt },
    tt,
  );
  small = record { classes = lit≤ tt; fields = lit≤ tt; methods = lit≤ tt; instructions = lit≤ tt; sites = lit≤ tt };
  frames = All-from_recursion (λ (m : Method). m.locals + m.stack ≤ 512) sample.methods (lit≤ tt, (lit≤ tt, (lit≤ tt, (lit≤ tt, (lit≤ tt, tt)))));
  starts = All-from_recursion (λ (m : Method). HasCode m → Starts m) sample.methods (
    (λ h. record { room = lit≤ tt; first = record { instr = at 0 (Const P1) (1 ∷ []) 0; found = refl; reached = refl; is_height = refl } }),
    (
      (λ h. record { room = lit≤ tt; first = record { instr = at 0 (Return None) [] 0; found = refl; reached = refl; is_height = refl } }),
      (
        (λ h. record { room = lit≤ tt; first = record { instr = at 0 (Return None) [] 0; found = refl; reached = refl; is_height = refl } }),
        (
          (λ h. absurd (omega arith)),
          ((λ h. record { room = lit≤ tt; first = record { instr = at 0 (Return None) [] 0; found = refl; reached = refl; is_height = refl } }), tt),
        ),
      ),
    ),
  );
  runs = All-from_recursion (λ (m : Method). (i : ℕ) (x : Instr) → slice_get m.code i ≡ Some x → x.reached ≡ true → Runs m i x) sample.methods (
    runs-at main main-runs,
    (
      runs-at constructor ((λ e. return-runs), tt),
      (
        runs-at member ((λ e. member-runs), tt),
        ((λ i x e. cc), (runs-at initializer ((λ e. initializer-runs), tt), tt)),
      ),
    ),
  );
}
