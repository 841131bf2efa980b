-- Code attributes that are read step by step.
use Rattle.std.proofs.Common.{◌≡◌, ℕ, ◌<◌, ◌≤◌, ◌⊎◌, inl, inr, Bool, true, false, ◌≢◌, List, [], ◌∷◌, length, refl, sym, ap, subst, ◌∙◌, arith, add-zero}
use Rattle.std.proofs.lemmas.Bool.{and_parts, leb-true, eqb-true, eqb-false}
use Rattle.std.specs.Prelude.{nat_le, ◌==◌, MatchResult, IsTrue, IsFalse, Option, codes, Result, Ok, Err}
use Rattle.ja_bytes.specs.Reading.{Reading, Passes}
use Rattle.ja_pool.specs.Table.{Table, tags_of, dims_of}
use Rattle.ja_code.specs.declared.code.Code.{Code}
use Rattle.ja_code.specs.declared.handler.RawHandler.{RawHandler}
use Rattle.ja_code.specs.declared.fault.CodeFault.{CodeFault}
use Rattle.ja_code.specs.declared.fault.CodeFault.TheVariants as faults
use Rattle.ja_code.specs.Grammar.{Spells}
use Rattle.ja_code.specs.Faults.{IsCause}
use Rattle.ja_attributes.specs.declared.fault.AttributeFault.{AttributeFault}
use Rattle.ja_attributes.specs.declared.fault.AttributeFault.TheVariants.{End, BadAttribute, Memory}
use Rattle.ja_attributes.specs.declared.code.MethodCode.{MethodCode}
use Rattle.ja_attributes.specs.declared.method.Codes.{Codes}
use Rattle.ja_attributes.specs.declared.method.Codes.TheVariants.{Absent}
use Rattle.ja_attributes.specs.Part.{u2, u4, times, fold, ReadsUnless}
use Rattle.ja_attributes.specs.Attribute.{is_named}
use Rattle.ja_attributes.specs.Faults.{handler, decoded, is_code_length, code_array, Layout, code_layout, in_content, code_content, with_code, next_code, any_attributes, method_attribute, is_due, only_code, method_attributes, passed_over}
use Rattle.ja_attributes.specs.InnerSteps.{onward, IsWithin, behind_all, Head, content_of, head, undecodable}
use Rattle.ja_attributes.proofs.Parts.{Forward, same_total, reading_is, times_exact}
use Rattle.ja_attributes.proofs.Exact.{handler_exact, code_array_exact, code_layout_exact}
use Rattle.ja_attributes.proofs.Heads.{stays_within, u2_within, attribute_cut, attribute_read, attribute_wrong, over}
use Rattle.ja_attributes.proofs.Fields.{first_read, first_wrong, second_read}

-- what holds unless memory ran out
pub or_later : {P Q : Type 0} → (P → Q) → (f : AttributeFault) → (f ≡ Memory) ⊎ P → (f ≡ Memory) ⊎ Q
or_later go f (inl e) = inl e
or_later go f (inr p) = inr (go p)

-- whether bytes are left
pub more_left : (a b : List ℕ) (test : Bool) → a ≡ b → test ≡ (length a == 0) → test ≡ false → 0 < length b
more_left a b test same is e = let some : length a ≢ 0 = eqb-false (length a) 0 (sym is ∙ e) in omega (arith, some, ap length same)

empty : (bytes : List ℕ) → length bytes ≡ 0 → bytes ≡ []
empty [] e = refl
empty (b ∷ bytes) e = absurd (omega (arith, e))

pub none_left : (a b : List ℕ) (test : Bool) → a ≡ b → test ≡ (length a == 0) → test ≡ true → b ≡ []
none_left a b test same is e = empty b (sym (ap length same) ∙ eqb-true (length a) 0 (sym is ∙ e))

-- ---- the code array

module _ (at : ℕ) (old : Reading) where
  pub array_cut : (f : AttributeFault) → (u4 End).fault old f → (code_array at).fault old f
  unfolding code_array
  array_cut f h = inl h

  pub array_wrong : (mid : Reading) (len : ℕ) → (u4 End).passes old len mid → is_code_length len ≡ false → (code_array at).fault old (BadAttribute at)
  unfolding code_array
  array_wrong mid len p e = inr (len, mid, p, inl (e, refl))

  pub array_end : (mid : Reading) (len : ℕ) → (u4 End).passes old len mid → is_code_length len ≡ true → length mid.rest < len → (code_array at).fault old (End mid.place)
  unfolding code_array
  array_end mid len p e short = inr (len, mid, p, inr (tt, mid, (e, refl), (short, refl)))

  pub array_read : (mid new : Reading) (len : ℕ) (bytes : List ℕ) → (u4 End).passes old len mid → is_code_length len ≡ true → length bytes ≡ len → Passes mid new bytes → (code_array at).passes old bytes new
  unfolding code_array
  array_read mid new len bytes p e size q = (len, mid, p, (tt, mid, (e, refl), (size, q)))

pub short_enough : (len : ℕ) → is_code_length len ≡ true → len ≤ 65535
short_enough len e = leb-true len 65535 (and_parts (nat_le 1 len) (nat_le len 65535) e).1

-- ---- the fields of a Code attribute

module _ (table : Table) (at : ℕ) (old : Reading) where
  pub layout_1 : (f : AttributeFault) → (u2 End).fault old f → (code_layout table at).fault old f
  unfolding code_layout
  layout_1 f h = inl h

  module _ (stack : ℕ) (r1 : Reading) (p1 : (u2 End).passes old stack r1) where
    pub layout_2 : (f : AttributeFault) → (u2 End).fault r1 f → (code_layout table at).fault old f
    unfolding code_layout
    layout_2 f h = inr (stack, r1, p1, inl h)

    module _ (locals : ℕ) (r2 : Reading) (p2 : (u2 End).passes r1 locals r2) where
      pub layout_3 : (f : AttributeFault) → (code_array at).fault r2 f → (code_layout table at).fault old f
      unfolding code_layout
      layout_3 f h = inr (stack, r1, p1, inr (locals, r2, p2, inl h))

      module _ (code : List ℕ) (r3 : Reading) (p3 : (code_array at).passes r2 code r3) where
        pub layout_4 : (f : AttributeFault) → (u2 End).fault r3 f → (code_layout table at).fault old f
        unfolding code_layout
        layout_4 f h = inr (stack, r1, p1, inr (locals, r2, p2, inr (code, r3, p3, inl h)))

        module _ (count : ℕ) (r4 : Reading) (p4 : (u2 End).passes r3 count r4) where
          pub layout_5 : (f : AttributeFault) → (times count handler).fault r4 f → (code_layout table at).fault old f
          unfolding code_layout
          layout_5 f h = inr (stack, r1, p1, inr (locals, r2, p2, inr (code, r3, p3, inr (count, r4, p4, inl h))))

          module _ (rows : List RawHandler) (r5 : Reading) (p5 : (times count handler).passes r4 rows r5) where
            pub layout_6 : (f : AttributeFault) → (any_attributes table).fault r5 f → (code_layout table at).fault old f
            unfolding code_layout
            layout_6 f h = inr (stack, r1, p1, inr (locals, r2, p2, inr (code, r3, p3, inr (count, r4, p4, inr (rows, r5, p5, inl h)))))

            module _ (r6 : Reading) (p6 : (any_attributes table).passes r5 tt r6) where
              pub layout_left : 0 < length r6.rest → (code_layout table at).fault old (BadAttribute at)
              unfolding code_layout
              layout_left more =
                  inr (stack, r1, p1, inr (locals, r2, p2, inr (code, r3, p3, inr (count, r4, p4, inr (rows, r5, p5, inr (tt, r6, p6, inl (more, refl)))))))

              pub layout_read : r6.rest ≡ [] → (code_layout table at).passes old (record { max_stack = stack; max_locals = locals; code = code; rows = rows }) r6
              unfolding code_layout
              layout_read none =
                  (stack, r1, p1, (locals, r2, p2, (code, r3, p3, (count, r4, p4, (rows, r5, p5, (tt, r6, p6, (tt, r6, (none, refl), (refl, refl))))))))

-- the place of each field fits
module _ (base at : ℕ) (old r1 r2 r3 : Reading) (stack locals : ℕ) (code : List ℕ) (fits : IsWithin base old) (p1 : (u2 End).passes (onward base old) stack (onward base r1))
    (p2 : (u2 End).passes (onward base r1) locals (onward base r2)) (p3 : (code_array at).passes (onward base r2) code (onward base r3)) where
  pub within_3 : IsWithin base r3
  within_3 =
      stays_within base r2 r3 (u2_within base r1 r2 locals (u2_within base old r1 stack fits p1) p2) ((code_array_exact at).forward (onward base r2) code (onward base r3) p3)

  pub within_4 : (r4 : Reading) (count : ℕ) → (u2 End).passes (onward base r3) count (onward base r4) → IsWithin base r4
  within_4 r4 count p4 = u2_within base r3 r4 count within_3 p4

  pub within_5 : (r4 r5 : Reading) (count : ℕ) (rows : List RawHandler) → (u2 End).passes (onward base r3) count (onward base r4) → (times count handler).passes (onward base r4) rows (onward base r5) → IsWithin base r5
  within_5 r4 r5 count rows p4 p5 =
      stays_within base r4 r5 (within_4 r4 count p4) ((times_exact count handler handler_exact).forward (onward base r4) rows (onward base r5) p5)

-- ---- the whole content

pub content_start : (h : Head) → onward h.from (record { place = 0; rest = h.content }) ≡ content_of h
content_start h = ap (λ (n : ℕ). record { place = n; rest = h.content }) (add-zero h.from)

pub ends_all : (old new : Reading) → Forward old new → new.rest ≡ [] → new ≡ behind_all old
ends_all old new p none = reading_is new (behind_all old) (omega (arith, same_total old new p, ap length none)) none

-- the fields stand in the content, and end where it does
pub content_whole : (table : Table) (at : ℕ) (h : Head) (layout : Layout) (new : Reading) → (code_layout table at).passes (onward h.from (record { place = 0; rest = h.content })) layout new
    → new.rest ≡ [] → (code_layout table at).passes (content_of h) layout (behind_all (content_of h))
content_whole table at h layout new p none =
    let q = subst (λ (r : Reading). (code_layout table at).passes r layout new) (content_start h) p in
    subst (λ (r : Reading). (code_layout table at).passes (content_of h) layout r) (ends_all (content_of h) new ((code_layout_exact table at).forward (content_of h) layout new q) none) q

module _ (table : Table) (at : ℕ) (old : Reading) where
  pub content_cut : (f : AttributeFault) → (f ≡ Memory) ⊎ (code_layout table at).fault old f → (in_content at f ≡ Memory) ⊎ (code_content table at).fault old (in_content at f)
  unfolding code_content
  content_cut f (inl e) = inl (ap (in_content at) e)
  content_cut f (inr h) = inr (inl (f, h, refl))

  module _ (layout : Layout) (new : Reading) (p : (code_layout table at).passes old layout new) where
    pub content_undecodable : (f : CodeFault) → IsCause layout.code (tags_of table) (dims_of table) layout.rows f → (undecodable f ≡ Memory) ⊎ (code_content table at).fault old (undecodable f)
    unfolding code_content decoded
    content_undecodable (faults.BadOpcode pc opcode) h = inr (inr (layout, new, p, inl (faults.BadOpcode pc opcode, h, refl)))
    content_undecodable (faults.RefusedOpcode pc opcode) h = inr (inr (layout, new, p, inl (faults.RefusedOpcode pc opcode, h, refl)))
    content_undecodable (faults.CodeEnd pc) h = inr (inr (layout, new, p, inl (faults.CodeEnd pc, h, refl)))
    content_undecodable (faults.BadOperand pc) h = inr (inr (layout, new, p, inl (faults.BadOperand pc, h, refl)))
    content_undecodable (faults.BadBranch pc) h = inr (inr (layout, new, p, inl (faults.BadBranch pc, h, refl)))
    content_undecodable (faults.BadHandler handler) h = inr (inr (layout, new, p, inl (faults.BadHandler handler, h, refl)))
    content_undecodable faults.Memory h = inl refl

    pub content_read : (code : Code) → Spells layout.code (tags_of table) (dims_of table) layout.rows code
        → (code_content table at).passes old (record { code = code; max_stack = layout.max_stack; max_locals = layout.max_locals }) new
    unfolding code_content decoded
    content_read code s = (layout, new, p, (code, new, (s, refl), (refl, refl)))

-- ---- an attribute of a method

module _ (table : Table) (found : Codes) (old : Reading) where
  pub method_cut : (f : AttributeFault) → (head table).fault old f → (method_attribute table found).fault old f
  unfolding method_attribute
  method_cut f h = attribute_cut table _ old f h

  pub method_other : (new : Reading) (h : Head) → (head table).passes old h new → is_named table (codes "Code") h.name ≡ false → (method_attribute table found).passes old found new
  unfolding method_attribute
  method_other new h p e =
      attribute_read table _ old new (behind_all (content_of h)) h found p
      (second_read (next_code table found h.at) (passed_over found) (content_of h) (is_named table (codes "Code") h.name) found (behind_all (content_of h)) e (over found h))

  pub method_code : (new inner : Reading) (h : Head) (code : MethodCode) → (head table).passes old h new → is_named table (codes "Code") h.name ≡ true
      → (code_content table h.at).passes (content_of h) code inner → (method_attribute table found).passes old (with_code found code) new
  unfolding method_attribute next_code
  method_code new inner h code p e q =
      attribute_read table _ old new inner h (with_code found code) p
      (first_read _ (passed_over found) (content_of h) (is_named table (codes "Code") h.name) (with_code found code) inner e (code, inner, q, (refl, refl)))

  pub method_wrong : (new : Reading) (h : Head) (f : AttributeFault) → (head table).passes old h new → is_named table (codes "Code") h.name ≡ true
      → (code_content table h.at).fault (content_of h) f → (method_attribute table found).fault old f
  unfolding method_attribute next_code
  method_wrong new h f p e q =
      attribute_wrong table _ old new h f p
      (first_wrong _ (passed_over found) (content_of h) (is_named table (codes "Code") h.name) f e (inl q))

-- ---- the attributes of a method

module _ (table : Table) (needs_code : Bool) (flags_at : ℕ) (old : Reading) where
  module _ (mid : Reading) (count : ℕ) (p : (u2 End).passes old count mid) where
    module _ (found : Codes) (new : Reading) (q : (fold (method_attribute table) count Absent).passes mid found new) where
      pub methods_number : is_due needs_code found ≡ false → (method_attributes table needs_code flags_at).fault old (BadAttribute flags_at)
      unfolding method_attributes
      methods_number e = inr (count, mid, p, inr (found, new, q, inl (e, refl)))

      pub methods_all : is_due needs_code found ≡ true → (method_attributes table needs_code flags_at).passes old (only_code found) new
      unfolding method_attributes
      methods_all e = (count, mid, p, (found, new, q, (tt, new, (e, refl), (refl, refl))))

pub methods_due : (table : Table) (needs_code : Bool) (flags_at : ℕ) (old mid new : Reading) (count : ℕ) (found : Codes) (r : Result (Option MethodCode) AttributeFault)
    → (u2 End).passes old count mid → (fold (method_attribute table) count Absent).passes mid found new
    → MatchResult r (λ code. IsTrue (is_due needs_code found) × (code ≡ only_code found)) (λ fault. IsFalse (is_due needs_code found) × (fault ≡ BadAttribute flags_at))
    → ReadsUnless Memory (λ (x : Option MethodCode). x) (method_attributes table needs_code flags_at) old new r
methods_due table needs_code flags_at old mid new count found (Ok code) p q h =
    subst (λ (x : Option MethodCode). (method_attributes table needs_code flags_at).passes old x new) (sym h.1) (methods_all table needs_code flags_at old mid count p found new q h.0)
methods_due table needs_code flags_at old mid new count found (Err fault) p q h =
    inr (subst (λ (f : AttributeFault). (method_attributes table needs_code flags_at).fault old f) (sym h.1) (methods_number table needs_code flags_at old mid count p found new q h.0))

-- a Code attribute that is read, or is at fault
pub method_reads : (table : Table) (found : Codes) (old new : Reading) (h : Head) (f : AttributeFault) → (head table).passes old h new → is_named table (codes "Code") h.name ≡ true
    → (f ≡ Memory) ⊎ (code_content table h.at).fault (content_of h) f → (f ≡ Memory) ⊎ (method_attribute table found).fault old f
method_reads table found old new h f p e q = or_later (method_wrong table found old new h f p e) f q
