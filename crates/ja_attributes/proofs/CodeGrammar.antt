-- The content of a Code attribute spells what it spells as bytes.
use Rattle.std.proofs.Common.{◌≡◌, ℕ, zero, suc, ◌+◌, ◌<◌, ◌≤◌, ◌^◌, true, List, [], ◌∷◌, ◌++◌, length, refl, sym, ap, subst, ◌∙◌, append_assoc, arith}
use Rattle.std.proofs.lemmas.Bool.{and_parts, and_from, leb-true, le-leb}
use Rattle.std.proofs.lemmas.List.{append-nil}
use Rattle.std.specs.Prelude.{nat_le}
use Rattle.std.specs.Int.{w16, w32, to_be_bytes}
use Rattle.std.specs.List.{flat_map, AllByRecursion}
use Rattle.ja_bytes.specs.Reading.{Reading, Passes}
use Rattle.ja_pool.specs.Table.{Table}
use Rattle.ja_code.specs.declared.handler.RawHandler.{RawHandler}
use Rattle.ja_attributes.specs.declared.code.MethodCode.{MethodCode}
use Rattle.ja_attributes.specs.Part.{times}
use Rattle.ja_attributes.specs.Attribute.{AttributeInfo, attributes_bytes, PassesAny, CodeAttribute, handler_bytes, IsHandler, code_bytes, IsCodeAttribute, IsCode}
use Rattle.ja_attributes.specs.Faults.{handler, decoded, is_code_length, code_array, Layout, code_layout, code_content}
use Rattle.ja_attributes.specs.InnerSteps.{behind_all}
use Rattle.ja_pool.proofs.PayloadParts.{passes_both}
use Rattle.ja_attributes.proofs.Parts.{nothing_passed}
use Rattle.ja_attributes.proofs.Codes.{short_enough}
use Rattle.ja_attributes.proofs.Lists.{halves, any_spelled, spelled_any}

-- ---- the exception table

handler_spelled : (old new : Reading) (h : RawHandler) → handler.passes old h new → IsHandler h × Passes old new (handler_bytes h)
unfolding handler
handler_spelled old new h (start, r1, p1, (end, r2, p2, (target, r3, p3, (kind, r4, p4, e)))) =
    let row : RawHandler = record { start = start; end = end; handler = target; catch_type = kind } in
    let to_end : Passes old r4 (handler_bytes row) =
    passes_both old r1 r4 (to_be_bytes w16 start) (to_be_bytes w16 end ++ (to_be_bytes w16 target ++ to_be_bytes w16 kind)) p1.1
    (passes_both r1 r2 r4 (to_be_bytes w16 end) (to_be_bytes w16 target ++ to_be_bytes w16 kind) p2.1
    (passes_both r2 r3 r4 (to_be_bytes w16 target) (to_be_bytes w16 kind) p3.1 p4.1)) in
    let is : IsHandler row = record { start = p1.0; end = p2.0; handler = p3.0; catch_type = p4.0 } in
    (subst IsHandler (sym e.0) is, subst (λ (x : RawHandler). Passes old new (handler_bytes x)) (sym e.0) (subst (λ (r : Reading). Passes old r (handler_bytes row)) (sym e.1) to_end))

spelled_handler : (old new : Reading) (h : RawHandler) → IsHandler h → Passes old new (handler_bytes h) → handler.passes old h new
unfolding handler
spelled_handler old new h is p =
    let one = halves old new (to_be_bytes w16 h.start) (to_be_bytes w16 h.end ++ (to_be_bytes w16 h.handler ++ to_be_bytes w16 h.catch_type)) p in
    let two = halves one.mid new (to_be_bytes w16 h.end) (to_be_bytes w16 h.handler ++ to_be_bytes w16 h.catch_type) one.second in
    let three = halves two.mid new (to_be_bytes w16 h.handler) (to_be_bytes w16 h.catch_type) two.second in
    (h.start, one.mid, (is.start, one.first), (h.end, two.mid, (is.end, two.first), (h.handler, three.mid, (is.handler, three.first), (h.catch_type, new, (is.catch_type, three.second), (refl, refl)))))

record Rows (n : ℕ) (old : Reading) (rows : List RawHandler) (new : Reading) : Type 0 where
  count : length rows ≡ n
  each : AllByRecursion IsHandler rows
  passes : Passes old new (flat_map handler_bytes rows)

rows_spelled : (n : ℕ) (old : Reading) (rows : List RawHandler) (new : Reading) → (times n handler).passes old rows new → Rows n old rows new
rows_spelled zero old rows new p =
    subst (λ (l : List RawHandler). Rows zero old l new) (sym p.0) (subst (λ (r : Reading). Rows zero old [] r) (sym p.1) (record { count = refl; each = tt; passes = record { parts = refl; place = omega arith } }))
rows_spelled (suc n) old rows new (row, mid, p, (others, last, q, e)) =
    let one = handler_spelled old mid row p in
    let more = rows_spelled n mid others last q in
    subst (λ (l : List RawHandler). Rows (suc n) old l new) (sym e.0)
    (subst (λ (r : Reading). Rows (suc n) old (row ∷ others) r) (sym e.1)
    (record { count = omega (arith, more.count); each = (one.0, more.each); passes = passes_both old mid last (handler_bytes row) (flat_map handler_bytes others) one.1 more.passes }))

spelled_rows : (rows : List RawHandler) (old new : Reading) → AllByRecursion IsHandler rows → Passes old new (flat_map handler_bytes rows) → (times (length rows) handler).passes old rows new
spelled_rows [] old new each p = (refl, nothing_passed old new p)
spelled_rows (row ∷ rows) old new each p =
    let h = halves old new (handler_bytes row) (flat_map handler_bytes rows) p in
    (row, h.mid, spelled_handler old h.mid row each.0 h.first, (rows, new, spelled_rows rows h.mid new each.1 h.second, (refl, refl)))

-- ---- the code array

record Array (old : Reading) (code : List ℕ) (new : Reading) : Type 0 where
  some : 1 ≤ length code
  short : length code ≤ 65535
  passes : Passes old new (to_be_bytes w32 (length code) ++ code)

array_spelled : (at : ℕ) (old : Reading) (code : List ℕ) (new : Reading) → (code_array at).passes old code new → Array old code new
unfolding code_array
array_spelled at old code new (len, mid, p, (u, r, t, q)) =
    let passed : Passes mid new code = subst (λ (x : Reading). Passes x new code) t.1 q.1 in
    let size : Passes old mid (to_be_bytes w32 (length code)) = subst (λ (n : ℕ). Passes old mid (to_be_bytes w32 n)) (sym q.0) p.1 in
    record {
      some = subst (λ (n : ℕ). 1 ≤ n) (sym q.0) (leb-true 1 len (and_parts (nat_le 1 len) (nat_le len 65535) t.0).0);
      short = subst (λ (n : ℕ). n ≤ 65535) (sym q.0) (short_enough len t.0);
      passes = passes_both old mid new (to_be_bytes w32 (length code)) code size passed;
    }

spelled_array : (at : ℕ) (old : Reading) (code : List ℕ) (new : Reading) → 1 ≤ length code → length code ≤ 65535 → Passes old new (to_be_bytes w32 (length code) ++ code) → (code_array at).passes old code new
unfolding code_array
spelled_array at old code new some short p =
    let h = halves old new (to_be_bytes w32 (length code)) code p in
    let right : is_code_length (length code) ≡ true = and_from (nat_le 1 (length code)) (nat_le (length code) 65535) (le-leb 1 (length code) some) (le-leb (length code) 65535 short) in
    (length code, h.mid, (omega (arith, short), h.first), (tt, h.mid, (right, refl), (refl, h.second)))

-- ---- the whole content

abbrev attribute_of : Layout → List AttributeInfo → CodeAttribute
attribute_of l infos = record { max_stack = l.max_stack; max_locals = l.max_locals; code = l.code; exception_table = l.rows; attributes = infos }

record Content (table : Table) (bytes : List ℕ) (layout : Layout) : Type 0 where
  infos : List AttributeInfo
  is : IsCodeAttribute table (attribute_of layout infos)
  whole : bytes ≡ code_bytes (attribute_of layout infos)

layout_spelled : (table : Table) (at : ℕ) (old : Reading) (layout : Layout) (new : Reading) → (code_layout table at).passes old layout new → Content table old.rest layout
unfolding code_layout
layout_spelled table at old layout new (stack, r1, p1, (locals, r2, p2, (code, r3, p3, (count, r4, p4, (rows, r5, p5, (u, r6, p6, (v, r7, e7, e8))))))) =
    let here : Layout = record { max_stack = stack; max_locals = locals; code = code; rows = rows } in
    let array = array_spelled at r2 code r3 p3 in
    let handlers = rows_spelled count r4 rows r5 p5 in
    let any = any_spelled table r5 r6 p6 in
    let infos = any.attributes in
    let number : Passes r3 r4 (to_be_bytes w16 (length rows)) = subst (λ (n : ℕ). Passes r3 r4 (to_be_bytes w16 n)) (sym handlers.count) p4.1 in
    let tail : Passes r4 r6 (flat_map handler_bytes rows ++ attributes_bytes infos) = passes_both r4 r5 r6 (flat_map handler_bytes rows) (attributes_bytes infos) handlers.passes any.passes.passes in
    let table_on : Passes r3 r6 (to_be_bytes w16 (length rows) ++ (flat_map handler_bytes rows ++ attributes_bytes infos)) =
    passes_both r3 r4 r6 (to_be_bytes w16 (length rows)) (flat_map handler_bytes rows ++ attributes_bytes infos) number tail in
    let code_on : Passes r2 r6 ((to_be_bytes w32 (length code) ++ code) ++ (to_be_bytes w16 (length rows) ++ (flat_map handler_bytes rows ++ attributes_bytes infos))) =
    passes_both r2 r3 r6 (to_be_bytes w32 (length code) ++ code) (to_be_bytes w16 (length rows) ++ (flat_map handler_bytes rows ++ attributes_bytes infos)) array.passes table_on in
    let code_flat = subst (λ (l : List ℕ). Passes r2 r6 l) (append_assoc (to_be_bytes w32 (length code)) code (to_be_bytes w16 (length rows) ++ (flat_map handler_bytes rows ++ attributes_bytes infos))) code_on in
    let all : Passes old r6 (code_bytes (attribute_of here infos)) =
    passes_both old r1 r6 (to_be_bytes w16 stack) _ p1.1 (passes_both r1 r2 r6 (to_be_bytes w16 locals) _ p2.1 code_flat) in
    let whole : old.rest ≡ code_bytes (attribute_of here infos) = all.parts ∙ ap (λ (l : List ℕ). code_bytes (attribute_of here infos) ++ l) e7.0 ∙ append-nil (code_bytes (attribute_of here infos)) in
    subst (λ (l : Layout). Content table old.rest l) (sym e8.0)
    (record {
      infos = infos;
      is = record {
        stack = p1.0;
        locals = p2.0;
        some = array.some;
        short = array.short;
        few = subst (λ (n : ℕ). n < 2 ^ 16) (sym handlers.count) p4.0;
        handlers = handlers.each;
        few_attributes = any.passes.few;
        attributes = any.passes.each;
      };
      whole = whole;
    })

spelled_layout : (table : Table) (at from : ℕ) (a : CodeAttribute) (bytes : List ℕ) → IsCodeAttribute table a → bytes ≡ code_bytes a
    → (code_layout table at).passes (record { place = from; rest = bytes }) (record { max_stack = a.max_stack; max_locals = a.max_locals; code = a.code; rows = a.exception_table })
    (behind_all (record { place = from; rest = bytes }))
unfolding code_layout
spelled_layout table at from a bytes is e =
    let old : Reading = record { place = from; rest = bytes } in
    let new : Reading = behind_all old in
    let rows = a.exception_table in
    let tail = flat_map handler_bytes rows ++ attributes_bytes a.attributes in
    let behind_code = to_be_bytes w16 (length rows) ++ tail in
    let behind_locals = to_be_bytes w32 (length a.code) ++ (a.code ++ behind_code) in
    let all : Passes old new (code_bytes a) = record { parts = e ∙ sym (append-nil (code_bytes a)); place = ap (λ (l : List ℕ). from + length l) e } in
    let one = halves old new (to_be_bytes w16 a.max_stack) (to_be_bytes w16 a.max_locals ++ behind_locals) all in
    let two = halves one.mid new (to_be_bytes w16 a.max_locals) behind_locals one.second in
    let flat = subst (λ (l : List ℕ). Passes two.mid new l) (sym (append_assoc (to_be_bytes w32 (length a.code)) a.code behind_code)) two.second in
    let three = halves two.mid new (to_be_bytes w32 (length a.code) ++ a.code) behind_code flat in
    let four = halves three.mid new (to_be_bytes w16 (length rows)) tail three.second in
    let five = halves four.mid new (flat_map handler_bytes rows) (attributes_bytes a.attributes) four.second in
    let any : PassesAny table five.mid new = record { attributes = a.attributes; passes = record { few = is.few_attributes; each = is.attributes; passes = five.second } } in (
      a.max_stack,
      one.mid,
      (is.stack, one.first),
      (
        a.max_locals,
        two.mid,
        (is.locals, two.first),
        (
          a.code,
          three.mid,
          spelled_array at two.mid a.code three.mid is.some is.short three.first,
          (length rows, four.mid, (is.few, four.first), (rows, five.mid, spelled_rows rows four.mid five.mid is.handlers five.first, (tt, new, spelled_any table five.mid new any, (tt, new, (refl, refl), (refl, refl))))),
        ),
      ),
    )

pub content_spelled : (table : Table) (at : ℕ) (old : Reading) (m : MethodCode) (new : Reading) → (code_content table at).passes old m new → IsCode table old.rest m
unfolding code_content decoded
content_spelled table at old m new (layout, mid, p, (code, r, s, e)) =
    let c = layout_spelled table at old layout mid p in
    subst (λ (x : MethodCode). IsCode table old.rest x) (sym e.0) (record { attribute = attribute_of layout c.infos; is = c.is; bytes = c.whole; spells = s.0; stack = refl; locals = refl })

pub spelled_content : (table : Table) (at from : ℕ) (bytes : List ℕ) (m : MethodCode) → IsCode table bytes m → (code_content table at).passes (record { place = from; rest = bytes }) m (behind_all (record { place = from; rest = bytes }))
unfolding code_content decoded
spelled_content table at from bytes m is =
    let a = is.attribute in
    let layout : Layout = record { max_stack = a.max_stack; max_locals = a.max_locals; code = a.code; rows = a.exception_table } in
    let new : Reading = behind_all (record { place = from; rest = bytes }) in
    let same : m ≡ record { code = m.code; max_stack = a.max_stack; max_locals = a.max_locals } =
    ap (λ (n : ℕ). record { code = m.code; max_stack = n; max_locals = m.max_locals }) is.stack ∙ ap (λ (n : ℕ). record { code = m.code; max_stack = a.max_stack; max_locals = n }) is.locals in
    (layout, new, spelled_layout table at from a bytes is.is is.bytes, (m.code, new, (is.spells, refl), (same, refl)))
