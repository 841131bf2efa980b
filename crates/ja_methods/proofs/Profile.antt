-- What a class of the profile gives each of its methods.
use Rattle.std.proofs.Common.{◌≡◌, ℕ, zero, suc, ◌<◌, ◌≤◌, ◌⊎◌, inl, inr, Bool, true, false, ◌||◌, List, [], ◌∷◌, length, get_or, Option, Some, None, refl, sym, ap, subst, ◌∙◌}
use Rattle.std.specs.Prelude.{All, slice_get, ◌==◌, nat_lt}
use Rattle.std.specs.List.{list_all}
use Rattle.std.proofs.lemmas.Bool.{and_parts, or_cases, eqb-true, ltb-true}
use Rattle.std.proofs.lemmas.Option.{slice_get-get_or}
use Rattle.ja_pool.specs.Table.{Table, tags_of, dims_of, tag_at}
use Rattle.ja_code.specs.declared.form.Entry.TheVariants.{Class}
use Rattle.ja_code.specs.declared.instr.RawInstr.{RawInstr}
use Rattle.ja_code.specs.declared.handler.RawHandler.{RawHandler}
use Rattle.ja_code.specs.declared.code.Code.{Code}
use Rattle.ja_code.specs.Bytes as bytes
use Rattle.ja_code.specs.Grammar.{Spells, is_start, is_handler}
use Rattle.ja_attributes.specs.Attribute.{AttributeInfo, SayCode}
use Rattle.ja_attributes.specs.declared.code.MethodCode.{MethodCode}
use Rattle.ja_ir.specs.declared.head.HeadMethod.{HeadMethod}
use Rattle.ja_class.specs.declared.class.ClassMethod.{ClassMethod}
use Rattle.ja_class.specs.Member.{IsMethodDesc}
use Rattle.ja_class.specs.Meaning.{ClassSpelled, needs_code, code_said}
use Rattle.ja_class.specs.ClassFile.{MemberInfo, pool_of, IsMethodInfo, AreMethods, IsSpelled}
use Rattle.ja_methods.specs.Handlers.{NamesCaught}
use Rattle.ja_methods.specs.Method.{IsDeclared, IsCodeOf}
use Rattle.ja_methods.proofs.InstrSteps.{same-item}

-- ---- the methods of a class, one by one

-- a method of a class file with this body, and its head
pub record IsSaid (table : Table) (heads : List HeadMethod) (m : ℕ) (body : ClassMethod) : Type 0 where
  pub head : HeadMethod
  pub head_at : slice_get heads m ≡ Some head
  pub info : MemberInfo
  pub said : IsMethodInfo table info head body

said-at : (table : Table) (members : List MemberInfo) (heads : List HeadMethod) (bodies : List ClassMethod) → AreMethods table members heads bodies
    → (m : ℕ) (body : ClassMethod) → slice_get bodies m ≡ Some body → IsSaid table heads m body
said-at table [] [] [] are m body b = absurd (cc)
said-at table [] [] (d ∷ ds) are m body b = absurd are
said-at table [] (g ∷ gs) bodies are m body b = absurd are
said-at table (i ∷ is) [] bodies are m body b = absurd are
said-at table (i ∷ is) (g ∷ gs) [] are m body b = absurd are
said-at table (i ∷ is) (g ∷ gs) (d ∷ ds) are zero body b =
    let same : d ≡ body = cc in
    record { head = g; head_at = refl; info = i; said = subst (λ (x : ClassMethod). IsMethodInfo table i g x) same are.0 }
said-at table (i ∷ is) (g ∷ gs) (d ∷ ds) are (suc m) body b =
    let later : IsSaid table gs m body = said-at table is gs ds are.1 m body b in
    record { head = later.head; head_at = later.head_at; info = later.info; said = later.said }

-- as many methods have a head as have a body
same-count : (table : Table) (members : List MemberInfo) (heads : List HeadMethod) (bodies : List ClassMethod) → AreMethods table members heads bodies → length bodies ≡ length heads
same-count table [] [] [] are = refl
same-count table [] [] (d ∷ ds) are = absurd are
same-count table [] (g ∷ gs) bodies are = absurd are
same-count table (i ∷ is) [] bodies are = absurd are
same-count table (i ∷ is) (g ∷ gs) [] are = absurd are
same-count table (i ∷ is) (g ∷ gs) (d ∷ ds) are = ap suc (same-count table is gs ds are.1)

pub body-count : (class : ClassSpelled) → IsSpelled class → length class.methods ≡ length class.head.methods
body-count class spelled =
    let says = spelled.is.says in
    same-count (pool_of spelled.is.file) spelled.is.file.methods class.head.methods class.methods says.methods

pub body-said : (class : ClassSpelled) → IsSpelled class → (m : ℕ) (body : ClassMethod) → slice_get class.methods m ≡ Some body → IsSaid class.pool class.head.methods m body
body-said class spelled m body at =
    let says = spelled.is.says in
    subst (λ (table : Table). IsSaid table class.head.methods m body) (sym says.pool_is)
    (said-at (pool_of spelled.is.file) spelled.is.file.methods class.head.methods class.methods says.methods m body at)

-- a method that is declared so is said so
said-head : (class : ClassSpelled) (spelled : IsSpelled class) (m : ℕ) (head : HeadMethod) (body : ClassMethod) (declared : IsDeclared class m head body) → (body-said class spelled m body declared.body_at).head ≡ head
said-head class spelled m head body declared =
    same-item class.head.methods m m (body-said class spelled m body declared.body_at).head head refl (body-said class spelled m body declared.body_at).head_at declared.head_at

-- ---- the code of a method

-- the code is spelled by some bytes, at least one
pub record IsDecoded (pool : Table) (code : Code) : Type 0 where
  pub bytes : List ℕ
  pub some : 1 ≤ length bytes
  pub short : length bytes ≤ 65535
  pub spells : Spells bytes (tags_of pool) (dims_of pool) code.handlers code

-- a method has code where its flags ask for it, and then it is decoded
abbrev Codes : Table → Bool → Option Code → Type 0
Codes pool needs None = needs ≡ false
Codes pool needs (Some code) = (needs ≡ true) × IsDecoded pool code

codes : (pool : Table) (needs : Bool) (attributes : List AttributeInfo) (found : Option MethodCode) → SayCode pool needs attributes found → Codes pool needs (code_said found).code
codes pool false [] None say = refl
codes pool false [] (Some code) say = absurd say
codes pool false (a ∷ as') found say = absurd say
codes pool true [] found say = absurd say
codes pool true (a ∷ []) None say = absurd say
codes pool true (a ∷ []) (Some code) say = (
  refl,
  record {
    bytes = say.attribute.code;
    some = say.is.some;
    short = say.is.short;
    spells = subst (λ (rows : List RawHandler). Spells say.attribute.code (tags_of pool) (dims_of pool) rows code.code) (sym say.spells.same_rows) say.spells;
  },
)
codes pool true (a ∷ b ∷ as') found say = absurd say

codes-of : (class : ClassSpelled) (spelled : IsSpelled class) (m : ℕ) (body : ClassMethod) (at : slice_get class.methods m ≡ Some body) → Codes class.pool (needs_code (body-said class spelled m body at).head.flags) body.code
codes-of class spelled m body at =
    let is-said : IsSaid class.pool class.head.methods m body = body-said class spelled m body at in
    let info = is-said.info in
    let said = is-said.said in
    let flags : is-said.head.flags ≡ info.access_flags = ap (λ (h : HeadMethod). h.flags) said.is in
    let found : Codes class.pool (needs_code info.access_flags) (code_said said.found).code = codes class.pool (needs_code info.access_flags) _ said.found said.say in
    subst (λ (b : ClassMethod). Codes class.pool (needs_code is-said.head.flags) b.code) (sym said.code_is)
    (subst (λ (n : ℕ). Codes class.pool (needs_code n) (code_said said.found).code) (sym flags) found)

-- the code of a method is decoded
pub decoded : (class : ClassSpelled) → IsSpelled class → (m : ℕ) (code : Code) → IsCodeOf class m code → IsDecoded class.pool code
decoded class spelled m code is =
    (subst (λ (o : Option Code). Codes class.pool (needs_code (body-said class spelled m is.body is.body_at).head.flags) o) is.code_is (codes-of class spelled m is.body is.body_at)).1

codes-declared : (class : ClassSpelled) (spelled : IsSpelled class) (m : ℕ) (head : HeadMethod) (body : ClassMethod) → IsDeclared class m head body → Codes class.pool (needs_code head.flags) body.code
codes-declared class spelled m head body declared =
    subst (λ (h : HeadMethod). Codes class.pool (needs_code h.flags) body.code) (said-head class spelled m head body declared) (codes-of class spelled m body declared.body_at)

-- a method has code where its flags ask for it
pub codes-need : (class : ClassSpelled) → IsSpelled class → (m : ℕ) (head : HeadMethod) (body : ClassMethod) (code : Code) → IsDeclared class m head body → body.code ≡ Some code → needs_code head.flags ≡ true
codes-need class spelled m head body code declared e =
    (subst (λ (o : Option Code). Codes class.pool (needs_code head.flags) o) e (codes-declared class spelled m head body declared)).0

pub none-need : (class : ClassSpelled) → IsSpelled class → (m : ℕ) (head : HeadMethod) (body : ClassMethod) → IsDeclared class m head body → body.code ≡ None → needs_code head.flags ≡ false
none-need class spelled m head body declared e =
    subst (λ (o : Option Code). Codes class.pool (needs_code head.flags) o) e (codes-declared class spelled m head body declared)

-- a method without code has no frame
frameless : (found : Option MethodCode) → (code_said found).code ≡ None → ((code_said found).max_locals ≡ 0) × ((code_said found).max_stack ≡ 0)
frameless None e = (refl, refl)
frameless (Some code) e = absurd (cc)

pub none-frame : (class : ClassSpelled) → IsSpelled class → (m : ℕ) (body : ClassMethod) → slice_get class.methods m ≡ Some body → body.code ≡ None → (body.max_locals ≡ 0) × (body.max_stack ≡ 0)
none-frame class spelled m body at e =
    let said = (body-said class spelled m body at).said in
    let none : (code_said said.found).code ≡ None = ap (λ (b : ClassMethod). b.code) (sym said.code_is) ∙ e in
    let parts : ((code_said said.found).max_locals ≡ 0) × ((code_said said.found).max_stack ≡ 0) = frameless said.found none in
    (ap (λ (b : ClassMethod). b.max_locals) said.code_is ∙ parts.0, ap (λ (b : ClassMethod). b.max_stack) said.code_is ∙ parts.1)

-- the descriptor of a method, with the words of its parameters
pub method-desc : (class : ClassSpelled) → IsSpelled class → (m : ℕ) (head : HeadMethod) (body : ClassMethod) → IsDeclared class m head body → IsMethodDesc head.flags head.desc
method-desc class spelled m head body declared =
    let is-said : IsSaid class.pool class.head.methods m body = body-said class spelled m body declared.body_at in
    subst (λ (h : HeadMethod). IsMethodDesc h.flags h.desc) (said-head class spelled m head body declared)
    (subst (λ (h : HeadMethod). IsMethodDesc h.flags h.desc) (sym is-said.said.is) is-said.said.descriptor)

-- ---- exception tables

-- what an entry of the exception table names is an instruction, the end of the code or a class
pub record IsRight (pool : Table) (instrs : List RawInstr) (size : ℕ) (row : RawHandler) : Type 0 where
  pub ordered : row.start < row.end
  pub start : is_start instrs row.start ≡ true
  pub end : (row.end ≡ size) ⊎ (is_start instrs row.end ≡ true)
  pub handler : is_start instrs row.handler ≡ true
  pub caught : NamesCaught pool row.catch_type

right : (pool : Table) (instrs : List RawInstr) (size : ℕ) (row : RawHandler) → is_handler (tags_of pool) (is_start instrs) size row ≡ true → IsRight pool instrs size row
right pool instrs size row all =
    let a = and_parts _ (row.catch_type == 0 || bytes.names Class (bytes.tag_at (tags_of pool) row.catch_type)) all in
    let b = and_parts _ (is_start instrs row.handler) a.0 in
    let c = and_parts _ (row.end == size || is_start instrs row.end) b.0 in
    let d = and_parts (nat_lt row.start row.end) (is_start instrs row.start) c.0 in
    record {
      ordered = ltb-true row.start row.end d.0;
      start = d.1;
      end = elim (or_cases (row.end == size) (is_start instrs row.end) c.1) [ inl e ↦ inl (eqb-true row.end size e) | inr s ↦ inr s ];
      handler = b.1;
      caught = elim (or_cases (row.catch_type == 0) (tag_at pool row.catch_type == 7) a.1) [
        | inl e ↦ inl (eqb-true row.catch_type 0 e)
        | inr e ↦ inr (eqb-true (tag_at pool row.catch_type) 7 e)
      ];
    }

all-rows : (test : RawHandler → Bool) (rows : List RawHandler) → list_all test rows ≡ true → (k : ℕ) (row : RawHandler) → slice_get rows k ≡ Some row → test row ≡ true
all-rows test [] all k row at = absurd (cc)
all-rows test (r ∷ rows) all zero row at =
    let same : r ≡ row = cc in
    subst (λ (x : RawHandler). test x ≡ true) same (and_parts (test r) (list_all test rows) all).0
all-rows test (r ∷ rows) all (suc k) row at = all-rows test rows (and_parts (test r) (list_all test rows) all).1 k row at

pub rows-right : (pool : Table) (code : Code) → (is : IsDecoded pool code) → (k : ℕ) (row : RawHandler) → slice_get code.handlers k ≡ Some row → IsRight pool code.instrs (length is.bytes) row
rows-right pool code is k row at = right pool code.instrs (length is.bytes) row (all-rows (is_handler (tags_of pool) (is_start code.instrs) (length is.bytes)) code.handlers is.spells.handlers k row at)

pub rows-caught : (pool : Table) (code : Code) → IsDecoded pool code → All (λ (row : RawHandler). NamesCaught pool row.catch_type) code.handlers
rows-caught pool code is = all-from code.handlers (λ k row at. (rows-right pool code is k row at).caught)
  where
    all-from : (rows : List RawHandler) → ((k : ℕ) (row : RawHandler) → slice_get rows k ≡ Some row → NamesCaught pool row.catch_type) → All (λ (row : RawHandler). NamesCaught pool row.catch_type) rows
    all-from rows each k d lt = each k (get_or rows k d) (slice_get-get_or rows k d lt)
