-- Method descriptors: parameters one after another, and where a reader of them is stuck.
use Rattle.std.proofs.Common.{◌≡◌, ℕ, suc, ◌+◌, ◌≤◌, List, [], ◌∷◌, ◌++◌, length, take, Option, Some, None, refl, sym, ap, subst, ◌∙◌, append_assoc, add-one, arith, length-append}
use Rattle.std.proofs.lemmas.List.{append-nil}
use Rattle.std.proofs.lemmas.List.Sums.{sum_by-cons, sum_by-append}
use Rattle.ja_base.specs.declared.java_type.Kind.{Kind}
use Rattle.ja_base.specs.declared.java_type.Kind.TheVariants.{P1, P2, R, T}
use Rattle.ja_base.specs.declared.java_type.JavaType.{JavaType}
use Rattle.ja_base.specs.Kind.{words_of}
use Rattle.ja_base.specs.Descriptor.{IsField, AreFields, IsResult, words_of_all, IsMethod}
use Rattle.ja_bytes.specs.Longest.{IsStuck}
use Rattle.ja_bytes.specs.DescriptorText.{IsFieldText, IsResultText, IsMethodText, SpellsParams, IsParamsText}
use Rattle.ja_bytes.proofs.FieldText.{field_unique, field_begun, words-most}
use Rattle.ja_bytes.proofs.Stuck.{take_over, head_is}
use Rattle.ja_bytes.proofs.Language.{IsPrefixFree, Both, both_free}

pub type_text : (text : List ℕ) (type : JavaType) → IsField text type → IsFieldText 2 text
type_text text type h = record { type = type; field = h; fits = words-most type.kind }

-- types that begin with these types, before a ')'
pub record Peels (front inner x last : List ℕ) (params more : List JavaType) : Type 0 where
  pub left : List ℕ
  pub others : List JavaType
  pub fields : AreFields left others
  pub types : more ≡ params ++ others
  pub texts : inner ≡ front ++ left
  pub rest : x ≡ left ++ 41 ∷ last

pub peel : (front inner x last : List ℕ) (params more : List JavaType) → AreFields front params → AreFields inner more → front ++ x ≡ inner ++ 41 ∷ last → Peels front inner x last params more
peel front inner x last [] more p q e = record { left = inner; others = more; fields = q; types = refl; texts = ap (λ (t : List ℕ). t ++ inner) (sym p); rest = ap (λ (t : List ℕ). t ++ x) (sym p) ∙ e }
peel front inner x last (t ∷ params) [] p q e =
    let b = field_begun 2 p.0 (type_text p.0 t p.3) in
    let whole : b.0 ∷ ((b.1 ++ p.1) ++ x) ≡ 41 ∷ last =
    ap (λ (s : List ℕ). (s ++ p.1) ++ x) (sym b.2) ∙ ap (λ (s : List ℕ). s ++ x) (sym p.2) ∙ e ∙ ap (λ (s : List ℕ). s ++ 41 ∷ last) q in
    absurd (b.3 cc)
peel front inner x last (t ∷ params) (u ∷ more) p q e =
    let whole : p.0 ++ (p.1 ++ x) ≡ q.0 ++ (q.1 ++ 41 ∷ last) =
    sym (append_assoc p.0 p.1 x) ∙ ap (λ (s : List ℕ). s ++ x) (sym p.2) ∙ e ∙ ap (λ (s : List ℕ). s ++ 41 ∷ last) q.2 ∙ append_assoc q.0 q.1 (41 ∷ last) in
    let one = field_unique p.0 q.0 (p.1 ++ x) (q.1 ++ 41 ∷ last) t u p.3 q.3 whole in
    let r = peel p.1 q.1 x last params more p.4 q.4 one.1 in
    record {
      left = r.left;
      others = r.others;
      fields = r.fields;
      types = ap (λ (s : JavaType). s ∷ more) (sym one.2) ∙ ap (λ (s : List JavaType). t ∷ s) r.types;
      texts = q.2 ∙ ap (λ (s : List ℕ). s ++ q.1) (sym one.0) ∙ ap (λ (s : List ℕ). p.0 ++ s) r.texts ∙ sym (append_assoc p.0 p.1 r.left) ∙ ap (λ (s : List ℕ). s ++ r.left) (sym p.2);
      rest = r.rest;
    }

-- one more type
pub fields-push : (front text : List ℕ) (params : List JavaType) (type : JavaType) → AreFields front params → IsField text type → AreFields (front ++ text) (params ++ type ∷ [])
fields-push front text [] type p h = (text, [], ap (λ (t : List ℕ). t ++ text) p ∙ sym (append-nil text), h, refl)
fields-push front text (t ∷ params) type p h = (p.0, p.1 ++ text, ap (λ (s : List ℕ). s ++ text) p.2 ∙ append_assoc p.0 p.1 text, p.3, fields-push p.1 text params type p.4 h)

-- types behind types
fields-append : (front text : List ℕ) (params more : List JavaType) → AreFields front params → AreFields text more → AreFields (front ++ text) (params ++ more)
fields-append front text [] more p q = subst (λ (s : List ℕ). AreFields s more) (ap (λ (s : List ℕ). s ++ text) (sym p)) q
fields-append front text (t ∷ params) more p q = (p.0, p.1 ++ text, ap (λ (s : List ℕ). s ++ text) p.2 ∙ append_assoc p.0 p.1 text, p.3, fields-append p.1 text params more p.4 q)

-- what stands before a ')' begins with none, if there are types
fields_begun : (inner : List ℕ) (t : JavaType) (params : List JavaType) (x y : List ℕ) → AreFields inner (t ∷ params) → inner ++ x ≡ 41 ∷ y → ⊥
fields_begun inner t params x y p e =
    let b = field_begun 2 p.0 (type_text p.0 t p.3) in
    let whole : b.0 ∷ ((b.1 ++ p.1) ++ x) ≡ 41 ∷ y = ap (λ (s : List ℕ). (s ++ p.1) ++ x) (sym b.2) ∙ ap (λ (s : List ℕ). s ++ x) (sym p.2) ∙ e in
    b.3 cc

-- nothing is left behind types that stand before a ')'
pub peel_all : (front inner x last : List ℕ) (params more : List JavaType) → Peels front inner (41 ∷ x) last params more → (front ≡ inner) × (x ≡ last) × (params ≡ more)
peel_all front inner x last params more p = left_none p.left p.others p.fields p.types p.texts p.rest
  where
    left_none : (left : List ℕ) (others : List JavaType) → AreFields left others → more ≡ params ++ others → inner ≡ front ++ left → 41 ∷ x ≡ left ++ 41 ∷ last → (front ≡ inner) × (x ≡ last) × (params ≡ more)
    left_none left [] f types texts rest =
        let whole : 41 ∷ x ≡ 41 ∷ last = rest ∙ ap (λ (s : List ℕ). s ++ 41 ∷ last) f in
        (sym (texts ∙ ap (λ (s : List ℕ). front ++ s) f ∙ append-nil front), cc, sym (types ∙ append-nil params))
    left_none left (t ∷ others) f types texts rest = absurd (fields_begun left t others (41 ∷ last) x f (sym rest))

params_parts : (room : ℕ) (text tail : List ℕ) (params : List JavaType) (s : SpellsParams room text params) → text ++ tail ≡ s.inner ++ 41 ∷ tail
params_parts room text tail params s = ap (λ (t : List ℕ). t ++ tail) s.parts ∙ append_assoc s.inner (41 ∷ []) tail

pub params_free : (room : ℕ) → IsPrefixFree (IsParamsText room)
params_free room = record {
  unique = λ a b x y p q e.
      let s = p.spells in
      let r = q.spells in
      let one = peel_all s.inner r.inner x y p.params q.params (peel s.inner r.inner (41 ∷ x) y p.params q.params s.fields r.fields (sym (params_parts room a x p.params s) ∙ e ∙ params_parts room b y q.params r)) in
      (s.parts ∙ ap (λ (t : List ℕ). t ++ 41 ∷ []) one.0 ∙ sym r.parts, one.1);
}

-- stuck behind types
pub params_behind : (total room : ℕ) (front rest : List ℕ) (params : List JavaType) (n : ℕ) → AreFields front params → words_of_all params + room ≡ total
    → IsStuck (IsParamsText room) rest n → IsStuck (IsParamsText total) (front ++ rest) (length front + n)
params_behind total room front rest params n fields sum stuck =
    let again : (text x tail : List ℕ) → IsParamsText total text → front ++ x ≡ text ++ tail → (other : List ℕ) × IsParamsText room other × (x ≡ other ++ tail) =
    λ text x tail p e.
    let s = p.spells in
    let r = peel front s.inner x tail params p.params fields s.fields (e ∙ params_parts total text tail p.params s) in
    let words : words_of_all p.params ≡ words_of_all params + words_of_all r.others = ap words_of_all r.types ∙ sum_by-append (λ type. words_of type.kind) params r.others in
    (r.left ++ 41 ∷ [], record { params = r.others; spells = record { inner = r.left; fields = r.fields; most = omega (arith, words, sum, s.most); parts = refl } }, r.rest ∙ sym (append_assoc r.left (41 ∷ []) tail)) in
    let b = stuck.begins in
    let s = b.text.spells in
    let words : words_of_all (params ++ b.text.params) ≡ words_of_all params + words_of_all b.text.params = sum_by-append (λ type. words_of type.kind) params b.text.params in
    record {
      within = omega (arith, stuck.within, length-append front rest);
      begins = record {
        more = b.more;
        text = record {
          params = params ++ b.text.params;
          spells = record {
            inner = front ++ s.inner;
            fields = fields-append front s.inner params b.text.params fields s.fields;
            most = omega (arith, words, sum, s.most);
            parts = ap (λ (t : List ℕ). t ++ b.more) (take_over front rest n) ∙ append_assoc front (take n rest) b.more ∙ ap (λ (t : List ℕ). front ++ t) s.parts ∙ sym (append_assoc front s.inner (41 ∷ []));
          };
        };
      };
      dead = λ lt text more tail p e.
          let left : take (length front + n + 1) (front ++ rest) ++ more ≡ front ++ (take (n + 1) rest ++ more) =
          ap (λ (k : ℕ). take k (front ++ rest) ++ more) (omega arith) ∙ ap (λ (t : List ℕ). t ++ more) (take_over front rest (n + 1)) ∙ append_assoc front (take (n + 1) rest) more in
          let o = again text (take (n + 1) rest ++ more) tail p (sym left ∙ e) in
          stuck.dead (omega (arith, lt, length-append front rest)) o.0 more tail o.1 o.2;
      none = λ text tail p e. let o = again text rest tail p e in stuck.none o.0 tail o.1 o.2;
    }

-- the first type of parameters
first_type : (room : ℕ) (text tail : List ℕ) (params : List JavaType) (x : List ℕ) → SpellsParams room text params → ((z : List ℕ) → x ≡ 41 ∷ z → ⊥) → x ≡ text ++ tail
    → (first : List ℕ) × (rest : List ℕ) × IsFieldText room first × (x ≡ first ++ rest)
first_type room text tail [] x s no_end e = absurd (no_end tail (e ∙ params_parts room text tail [] s ∙ ap (λ (t : List ℕ). t ++ 41 ∷ tail) s.fields))
first_type room text tail (t ∷ params) x s no_end e =
    let f = s.fields in
    let words : words_of_all (t ∷ params) ≡ words_of t.kind + words_of_all params = sum_by-cons (λ type. words_of type.kind) t params in (
      f.0,
      f.1 ++ 41 ∷ tail,
      record { type = t; field = f.3; fits = omega (arith, words, s.most) },
      e ∙ params_parts room text tail (t ∷ params) s ∙ ap (λ (x : List ℕ). x ++ 41 ∷ tail) f.2 ∙ append_assoc f.0 f.1 (41 ∷ tail),
    )

single_words : (t : JavaType) → words_of_all (t ∷ []) ≡ words_of t.kind
single_words t = sum_by-cons (λ type. words_of type.kind) t [] ∙ omega arith

-- stuck in the first type of parameters
pub params_stuck : (room : ℕ) (rest : List ℕ) (n : ℕ) → ((z : List ℕ) → rest ≡ 41 ∷ z → ⊥) → IsStuck (IsFieldText room) rest n → IsStuck (IsParamsText room) rest n
params_stuck room rest n no_end stuck =
    let b = stuck.begins in
    let text = take n rest ++ b.more in
    record {
      within = stuck.within;
      begins = record {
        more = b.more ++ 41 ∷ [];
        text = record {
          params = b.text.type ∷ [];
          spells = record {
            inner = text;
            fields = (text, [], sym (append-nil text), b.text.field, refl);
            most = omega (arith, single_words b.text.type, b.text.fits);
            parts = sym (append_assoc (take n rest) b.more (41 ∷ []));
          };
        };
      };
      dead = λ lt text more tail p e.
          let f = first_type room text tail p.params (take (n + 1) rest ++ more) p.spells (λ z h. let r = head_is rest n more 41 z lt h in no_end r.0 r.1) e in
          stuck.dead lt f.0 more f.1 f.2 f.3;
      none = λ text tail p e. let f = first_type room text tail p.params rest p.spells no_end e in stuck.none f.0 f.1 f.2 f.3;
    }

pub words-some : (kind : Kind) → 1 ≤ words_of kind
words-some P1 = omega arith
words-some P2 = omega arith
words-some R = omega arith
words-some T = omega arith

-- no room for a further type
pub params_full : (rest : List ℕ) → ((z : List ℕ) → rest ≡ 41 ∷ z → ⊥) → IsStuck (IsParamsText 0) rest 0
params_full rest no_end = record {
  within = omega arith;
  begins = record { more = 41 ∷ []; text = record { params = []; spells = record { inner = []; fields = refl; most = omega arith; parts = refl } } };
  dead = λ lt text more tail p e.
      let f = first_type 0 text tail p.params (take 1 rest ++ more) p.spells (λ z h. let r = head_is rest 0 more 41 z lt h in no_end r.0 r.1) e in
      omega (arith, f.2.fits, words-some f.2.type.kind);
  none = λ text tail p e. let f = first_type 0 text tail p.params rest p.spells no_end e in omega (arith, f.2.fits, words-some f.2.type.kind);
}

-- ---- results

no_void : (text : List ℕ) (type : JavaType) (x y : List ℕ) → IsField text type → text ++ x ≡ 86 ∷ y → ⊥
no_void text type x y h e =
    let b = field_begun 2 text (type_text text type h) in
    let whole : b.0 ∷ (b.1 ++ x) ≡ 86 ∷ y = ap (λ (s : List ℕ). s ++ x) (sym b.2) ∙ e in
    b.4 cc

pub result_unique : (a b x y : List ℕ) (r s : Option JavaType) → IsResult a r → IsResult b s → a ++ x ≡ b ++ y → (a ≡ b) × (x ≡ y) × (r ≡ s)
result_unique a b x y None None p q e = let whole : 86 ∷ x ≡ 86 ∷ y = ap (λ (t : List ℕ). t ++ x) (sym p) ∙ e ∙ ap (λ (t : List ℕ). t ++ y) q in (p ∙ sym q, cc, refl)
result_unique a b x y None (Some u) p q e = absurd (no_void b u y x q (sym e ∙ ap (λ (t : List ℕ). t ++ x) p))
result_unique a b x y (Some t) None p q e = absurd (no_void a t x y p (e ∙ ap (λ (t : List ℕ). t ++ y) q))
result_unique a b x y (Some t) (Some u) p q e = let one = field_unique a b x y t u p q e in (one.0, one.1, ap (λ (z : JavaType). Some z) one.2)

pub result_free : IsPrefixFree IsResultText
result_free = record { unique = λ a b x y p q e. let one = result_unique a b x y p.result q.result p.ends q.ends e in (one.0, one.1) }

result_type : (text tail : List ℕ) (result : Option JavaType) (x : List ℕ) → IsResult text result → ((z : List ℕ) → x ≡ 86 ∷ z → ⊥) → x ≡ text ++ tail → IsFieldText 2 text
result_type text tail None x h not_void e = absurd (not_void tail (e ∙ ap (λ (t : List ℕ). t ++ tail) h))
result_type text tail (Some t) x h not_void e = type_text text t h

-- stuck in the type of a result
pub result_stuck : (rest : List ℕ) (n : ℕ) → ((z : List ℕ) → rest ≡ 86 ∷ z → ⊥) → IsStuck (IsFieldText 2) rest n → IsStuck IsResultText rest n
result_stuck rest n not_void stuck = record {
  within = stuck.within;
  begins = record { more = stuck.begins.more; text = record { result = Some stuck.begins.text.type; ends = stuck.begins.text.field } };
  dead = λ lt text more tail p e.
      stuck.dead lt text more tail (result_type text tail p.result (take (n + 1) rest ++ more) p.ends (λ z h. let r = head_is rest n more 86 z lt h in not_void r.0 r.1) e) e;
  none = λ text tail p e. stuck.none text tail (result_type text tail p.result rest p.ends not_void e) e;
}

-- ---- methods

abbrev pub Behind : List ℕ → Type 0
Behind = Both (IsParamsText 255) IsResultText

pub method_from_behind : (text : List ℕ) → Behind text → IsMethodText (40 ∷ text)
method_from_behind text h =
    let s = h.is_first.spells in
    record {
      params = h.is_first.params;
      result = h.is_second.result;
      method = record {
        inner = s.inner;
        last = h.second;
        parts = ap (λ (t : List ℕ). 40 ∷ t) (h.parts ∙ ap (λ (t : List ℕ). t ++ h.second) s.parts ∙ append_assoc s.inner (41 ∷ []) h.second);
        fields = s.fields;
        most = s.most;
        ends = h.is_second.ends;
      };
    }

pub behind_from_method : (text : List ℕ) → IsMethodText text → (rest : List ℕ) × Behind rest × (text ≡ 40 ∷ rest)
behind_from_method text m =
    let h = m.method in (
      h.inner ++ 41 ∷ h.last,
      record {
        first = h.inner ++ 41 ∷ [];
        second = h.last;
        parts = sym (append_assoc h.inner (41 ∷ []) h.last);
        is_first = record { params = m.params; spells = record { inner = h.inner; fields = h.fields; most = h.most; parts = refl } };
        is_second = record { result = m.result; ends = h.ends };
      },
      h.parts,
    )

pub method_free : IsPrefixFree IsMethodText
method_free = record {
  unique = λ a b x y p q e.
      let h = behind_from_method a p in
      let k = behind_from_method b q in
      let whole : 40 ∷ (h.0 ++ x) ≡ 40 ∷ (k.0 ++ y) = ap (λ (t : List ℕ). t ++ x) (sym h.2) ∙ e ∙ ap (λ (t : List ℕ). t ++ y) k.2 in
      let one = (both_free (IsParamsText 255) IsResultText (params_free 255) result_free).unique h.0 k.0 x y h.1 k.1 cc in
      (h.2 ∙ ap (λ (t : List ℕ). 40 ∷ t) one.0 ∙ sym k.2, one.1);
}

-- stuck behind the '('
pub method_stuck : (rest : List ℕ) (n : ℕ) → IsStuck Behind rest n → IsStuck IsMethodText (40 ∷ rest) (n + 1)
method_stuck rest n stuck = record {
  within = omega (arith, stuck.within);
  begins = rw add-one (record { more = stuck.begins.more; text = method_from_behind (take n rest ++ stuck.begins.more) stuck.begins.text });
  dead = λ lt text more tail p.
      rw (add-one, add-one) (λ e.
      let h = behind_from_method text p in
      let whole : 40 ∷ (take (suc n) rest ++ more) ≡ 40 ∷ (h.0 ++ tail) = e ∙ ap (λ (t : List ℕ). t ++ tail) h.2 in
      stuck.dead (omega (arith, lt)) h.0 more tail h.1 (rw add-one cc));
  none = λ text tail p e.
      let h = behind_from_method text p in
      let whole : 40 ∷ rest ≡ 40 ∷ (h.0 ++ tail) = e ∙ ap (λ (t : List ℕ). t ++ tail) h.2 in
      stuck.none h.0 tail h.1 cc;
}

some_method : IsMethodText (40 ∷ 41 ∷ 86 ∷ [])
some_method = record { params = []; result = None; method = record { inner = []; last = 86 ∷ []; parts = refl; fields = refl; most = omega arith; ends = refl } }

-- bytes that do not begin with '('
pub method_unbegun : (bytes : List ℕ) → ((z : List ℕ) → bytes ≡ 40 ∷ z → ⊥) → IsStuck IsMethodText bytes 0
method_unbegun bytes no_open = record {
  within = omega arith;
  begins = record { more = 40 ∷ 41 ∷ 86 ∷ []; text = some_method };
  dead = λ lt text more tail p e.
      let h = behind_from_method text p in
      let r = head_is bytes 0 more 40 (h.0 ++ tail) lt (e ∙ ap (λ (t : List ℕ). t ++ tail) h.2) in
      no_open r.0 r.1;
  none = λ text tail p e. let h = behind_from_method text p in no_open (h.0 ++ tail) (e ∙ ap (λ (t : List ℕ). t ++ tail) h.2);
}

-- a descriptor spells one list of parameters and one result
pub method_unique : (text : List ℕ) (params others : List JavaType) (result also : Option JavaType) → IsMethod text params result → IsMethod text others also → (params ≡ others) × (result ≡ also)
method_unique text params others result also p q =
    let whole : 40 ∷ (p.inner ++ 41 ∷ p.last) ≡ 40 ∷ (q.inner ++ 41 ∷ q.last) = sym p.parts ∙ q.parts in
    let one = peel_all p.inner q.inner p.last q.last params others (peel p.inner q.inner (41 ∷ p.last) q.last params others p.fields q.fields cc) in
    let two = result_unique p.last q.last [] [] result also p.ends q.ends (ap (λ (t : List ℕ). t ++ []) one.1) in
    (one.2, two.2)
