-- Outlines are unique.
use Rattle.std.proofs.Common.{◌≡◌, ℕ, zero, suc, ◌<◌, Bool, true, false, List, [], ◌∷◌, ◌++◌, length, map, refl, sym, ap, ◌∙◌, subst, arith, true≢false}
use Rattle.std.specs.Prelude.{◌↔◌, Some, All, slice_get}
use Rattle.std.proofs.lemmas.Option.{same_Some}
use Rattle.std.proofs.lemmas.List.Elements.{All-head, All-tail}
use Rattle.ja_base.specs.declared.id.ClassId.{ClassId}
use Rattle.ja_base.specs.declared.id.MethodId.{MethodId}
use Rattle.ja_ir.specs.declared.head.ClassHead.{ClassHead}
use Rattle.ja_ir.specs.declared.class.ClassInfo.{ClassInfo}
use Rattle.ja_ir.specs.declared.class.MethodAt.{MethodAt}
use Rattle.ja_ir.specs.declared.class.MethodAt.TheVariants.{Program}
use Rattle.ja_ir.specs.declared.class.Selection.{Selection}
use Rattle.ja_ir.specs.declared.entry.Entry.{Entry}
use Rattle.ja_lib.specs.Content.{Content}
use Rattle.ja_lib.specs.declared.entry.EntryRow.{EntryRow}
use Rattle.ja_hier.specs.declared.skip.Skip.TheVariants.{NotVirtual}
use Rattle.ja_hier.specs.LookUps.{Finds, method_number}
use Rattle.ja_hier.proofs.OneAnswer.{one-method}
use Rattle.ja_heads.specs.declared.signature.Signature.{Signature}
use Rattle.ja_heads.specs.Classes.{AreClassInfos, AreSupers, IsAbsorbing, IsClassInfo}
use Rattle.ja_heads.specs.Entries.{AreEntries, ClassAdds, concrete, other, ClassesAdd, no_class, next_class, EntersBy, entry_at, is_concrete, RowAdds, enters, passes, RowsAdd, no_row, next_row}
use Rattle.ja_heads.specs.Initializers.{initializers_of}
use Rattle.ja_heads.specs.Signatures.{first_seen, numbers_of, own_first, selected, signatures_of}
use Rattle.ja_heads.proofs.Ascending.{same-ascending}

-- ---- classes

same-ids : (xs ys : List ClassId) → numbers_of xs ≡ numbers_of ys → xs ≡ ys
same-ids [] [] e = refl
same-ids [] (y ∷ ys) e = absurd (cc e)
same-ids (x ∷ xs) [] e = absurd (cc e)
same-ids (x ∷ xs) (y ∷ ys) e =
    let first : x.0 ≡ y.0 = cc e in
    let rest : numbers_of xs ≡ numbers_of ys = cc e in
    ap (λ (n : ℕ). id n ∷ xs) first ∙ ap (λ l. y ∷ l) (same-ids xs ys rest)
  where
    id : ℕ → ClassId
    id n = record { 0 = n }

same-supers : (heads : List ClassHead) (c : ℕ) (xs ys : List ClassId) → AreSupers heads c xs → AreSupers heads c ys → xs ≡ ys
same-supers heads c xs ys a b =
    same-ids xs ys (same-ascending (numbers_of xs) (numbers_of ys) a.ascending b.ascending (λ d h. (b.exact d).1 ((a.exact d).0 h)) (λ d h. (a.exact d).1 ((b.exact d).0 h)))

selection : (name desc : List ℕ) (target : MethodAt) → Selection
selection name desc target = record { name = name; desc = desc; target = target }

same-listed : (heads : List ClassHead) (c : ℕ) (xs ys : List Selection) → map selected xs ≡ map selected ys
    → All (λ s. Finds heads NotVirtual s.name s.desc c s.target) xs → All (λ s. Finds heads NotVirtual s.name s.desc c s.target) ys → xs ≡ ys
unfolding selection
same-listed heads c [] [] e a b = refl
same-listed heads c [] (y ∷ ys) e a b = absurd (cc e)
same-listed heads c (x ∷ xs) [] e a b = absurd (cc e)
same-listed heads c (x ∷ xs) (y ∷ ys) e a b =
    let first : selected x ≡ selected y = cc e in
    let rest : map selected xs ≡ map selected ys = cc e in
    let names : x.name ≡ y.name = ap (λ (s : Signature). s.name) first in
    let descs : x.desc ≡ y.desc = ap (λ (s : Signature). s.desc) first in
    let of-x : Finds heads NotVirtual x.name x.desc c x.target = All-head (λ s. Finds heads NotVirtual s.name s.desc c s.target) x xs a in
    let of-y : Finds heads NotVirtual y.name y.desc c y.target = All-head (λ s. Finds heads NotVirtual s.name s.desc c s.target) y ys b in
    let moved : Finds heads NotVirtual y.name y.desc c x.target =
    subst (λ (d : List ℕ). Finds heads NotVirtual y.name d c x.target) descs (subst (λ (n : List ℕ). Finds heads NotVirtual n x.desc c x.target) names of-x) in
    ap (λ (n : List ℕ). selection n x.desc x.target ∷ xs) names
    ∙ ap (λ (d : List ℕ). selection y.name d x.target ∷ xs) descs
    ∙ ap (λ (t : MethodAt). selection y.name y.desc t ∷ xs) (one-method heads NotVirtual y.name y.desc c x.target y.target moved of-y)
    ∙ ap (λ l. y ∷ l) (same-listed heads c xs ys rest (All-tail (λ s. Finds heads NotVirtual s.name s.desc c s.target) x xs a) (All-tail (λ s. Finds heads NotVirtual s.name s.desc c s.target) y ys b))

same-flags : (P : Type 0) (a b : Bool) → (a ≡ true) ↔ P → (b ≡ true) ↔ P → a ≡ b
same-flags P true b p q = sym (q.1 (p.0 refl))
same-flags P false true p q = absurd (true≢false (sym (p.1 (q.0 refl))))
same-flags P false false p q = refl

info : (name file : List ℕ) (flags : ℕ) (absorbing : Bool) (supers : List ClassId) (selections : List Selection) (inits : List MethodId) → ClassInfo
info name file flags absorbing supers selections inits =
    record { name = name; file = file; flags = flags; absorbing = absorbing; supers = supers; selections = selections; inits = inits }

same-info : (heads : List ClassHead) (path : List ℕ) (c : ℕ) (a b : ClassInfo) → IsClassInfo heads path c a → IsClassInfo heads path c b → a ≡ b
unfolding info
same-info heads path c a b p q =
    let head : p.head ≡ q.head = same_Some p.head q.head (sym p.found ∙ q.found) in
    let names : a.name ≡ b.name = p.name ∙ ap (λ (h : ClassHead). h.name) head ∙ sym q.name in
    let files : a.file ≡ b.file = p.file ∙ sym q.file in
    let flags : a.flags ≡ b.flags = p.flags ∙ ap (λ (h : ClassHead). h.flags) head ∙ sym q.flags in
    let absorb : a.absorbing ≡ b.absorbing = same-flags (IsAbsorbing heads c) a.absorbing b.absorbing p.absorbing q.absorbing in
    let supers : a.supers ≡ b.supers = same-supers heads c a.supers b.supers p.supers q.supers in
    let keys : map selected a.selections ≡ map selected b.selections =
    p.selections.signatures ∙ ap (λ (ids : List ClassId). first_seen (signatures_of heads (own_first c (numbers_of ids)))) supers ∙ sym q.selections.signatures in
    let selections : a.selections ≡ b.selections = same-listed heads c a.selections b.selections keys p.selections.targets q.selections.targets in
    let inits : a.inits ≡ b.inits = p.inits ∙ ap (λ (ids : List ClassId). initializers_of heads (numbers_of ids)) supers ∙ sym q.inits in
    ap (λ (n : List ℕ). info n a.file a.flags a.absorbing a.supers a.selections a.inits) names
    ∙ ap (λ (f : List ℕ). info b.name f a.flags a.absorbing a.supers a.selections a.inits) files
    ∙ ap (λ (n : ℕ). info b.name b.file n a.absorbing a.supers a.selections a.inits) flags
    ∙ ap (λ (v : Bool). info b.name b.file b.flags v a.supers a.selections a.inits) absorb
    ∙ ap (λ (l : List ClassId). info b.name b.file b.flags b.absorbing l a.selections a.inits) supers
    ∙ ap (λ (l : List Selection). info b.name b.file b.flags b.absorbing b.supers l a.inits) selections
    ∙ ap (λ (l : List MethodId). info b.name b.file b.flags b.absorbing b.supers b.selections l) inits

-- lists that agree at each place
same-lists : {A : Type 0} (xs ys : List A) → length xs ≡ length ys → ((k : ℕ) (x y : A) → k < length xs → slice_get xs k ≡ Some x → slice_get ys k ≡ Some y → x ≡ y) → xs ≡ ys
same-lists [] [] e f = refl
same-lists [] (y ∷ ys) e f = absurd (omega (arith, e))
same-lists (x ∷ xs) [] e f = absurd (omega (arith, e))
same-lists (x ∷ xs) (y ∷ ys) e f =
    ap (λ z. z ∷ xs) (f zero x y (omega arith) refl refl) ∙ ap (λ l. y ∷ l) (same-lists xs ys (omega (arith, e)) (λ k a b lt p q. f (suc k) a b (omega arith) p q))

there : {A : Type 0} (xs : List A) (k : ℕ) → k < length xs → (x : A) × (slice_get xs k ≡ Some x)
there [] k lt = absurd (omega arith)
there (x ∷ xs) zero lt = (x, refl)
there (x ∷ xs) (suc k) lt = there xs k (omega arith)

pub same-infos : (heads : List ClassHead) (files : List (List ℕ)) (a b : List ClassInfo) → AreClassInfos heads files a → AreClassInfos heads files b → a ≡ b
same-infos heads files a b p q =
    same-lists a b (p.size ∙ sym q.size) (λ k x y lt e f.
    let file : (path : List ℕ) × (slice_get files k ≡ Some path) = there files k (omega (arith, p.size, p.placed)) in
    same-info heads file.0 k x y (p.each k file.0 x file.1 e) (q.each k file.0 y file.1 f))

-- ---- entries

number_at : MethodAt → ℕ
number_at (Program m) = m.0
number_at _ = 0

same-method : (a b : ℕ) → Program (record { 0 = a }) ≡ Program (record { 0 = b }) → a ≡ b
unfolding number_at
same-method a b e = ap number_at e

one-entering : (heads : List ClassHead) (c : ℕ) (head : ClassHead) (row : EntryRow) (static : Bool) (m n : ℕ) → EntersBy static heads c head row m → EntersBy static heads c head row n → m ≡ n
one-entering heads c head row true m n a b =
    let places : a.k ≡ b.k = same_Some a.k b.k (sym a.declared ∙ b.declared) in
    a.number ∙ ap (method_number heads c) places ∙ sym b.number
one-entering heads c head row false m n a b =
    same-method m n (one-method heads NotVirtual row.method row.desc c (Program (record { 0 = m })) (Program (record { 0 = n })) a.selected b.selected)

one-row : (heads : List ClassHead) (c : ℕ) (head : ClassHead) (row : EntryRow) (so_far a b : List Entry) → RowAdds heads c head row so_far a → RowAdds heads c head row so_far b → a ≡ b
one-row heads c head row so_far a b (enters m e) (enters n f) = ap (λ (k : ℕ). so_far ++ entry_at c k row ∷ []) (one-entering heads c head row row.is_static m n e f)
one-row heads c head row so_far a b (enters m e) (passes none) = absurd (none m e)
one-row heads c head row so_far a b (passes none) (enters n f) = absurd (none n f)
one-row heads c head row so_far a b (passes none) (passes neither) = refl

abbrev RowsCase : List ClassHead → List EntryRow → (c : ℕ) → ClassHead → (so_far : List Entry) → (k : ℕ) → List Entry → Type 0
RowsCase heads rows c head so_far zero after = after ≡ so_far
RowsCase heads rows c head so_far (suc k) after =
    (before : List Entry) × (row : EntryRow) × (slice_get rows k ≡ Some row) × RowsAdd heads rows c head so_far k before × RowAdds heads c head row before after

rows-case : (heads : List ClassHead) (rows : List EntryRow) (c : ℕ) (head : ClassHead) (so_far : List Entry) (k : ℕ) (after : List Entry) → RowsAdd heads rows c head so_far k after → RowsCase heads rows c head so_far k after
rows-case heads rows c head so_far k after no_row = refl
rows-case heads rows c head so_far k after (next_row {before = before} row e s t) = (before, row, e, s, t)

one-rows : (heads : List ClassHead) (rows : List EntryRow) (c : ℕ) (head : ClassHead) (so_far : List Entry) (k : ℕ) (a b : List Entry) → RowsAdd heads rows c head so_far k a → RowsAdd heads rows c head so_far k b → a ≡ b
one-rows heads rows c head so_far zero a b s t = rows-case heads rows c head so_far zero a s ∙ sym (rows-case heads rows c head so_far zero b t)
one-rows heads rows c head so_far (suc k) a b s t =
    let x : RowsCase heads rows c head so_far (suc k) a = rows-case heads rows c head so_far (suc k) a s in
    let y : RowsCase heads rows c head so_far (suc k) b = rows-case heads rows c head so_far (suc k) b t in
    let befores : x.0 ≡ y.0 = one-rows heads rows c head so_far k x.0 y.0 x.3 y.3 in
    let rows-same : x.1 ≡ y.1 = same_Some x.1 y.1 (sym x.2 ∙ y.2) in
    one-row heads c head y.1 y.0 a b
    (subst (λ (r : EntryRow). RowAdds heads c head r y.0 a) rows-same (subst (λ (l : List Entry). RowAdds heads c head x.1 l a) befores x.4)) y.4

one-class : (heads : List ClassHead) (rows : List EntryRow) (c : ℕ) (so_far a b : List Entry) → ClassAdds heads rows c so_far a → ClassAdds heads rows c so_far b → a ≡ b
one-class heads rows c so_far a b (concrete h e t s) (concrete g f u r) =
    one-rows heads rows c g so_far (length rows) a b (subst (λ (x : ClassHead). RowsAdd heads rows c x so_far (length rows) a) (same_Some h g (sym e ∙ f)) s) r
one-class heads rows c so_far a b (concrete h e t s) (other g f u) = absurd (true≢false (sym t ∙ ap is_concrete (same_Some h g (sym e ∙ f)) ∙ u))
one-class heads rows c so_far a b (other h e t) (concrete g f u s) = absurd (true≢false (sym u ∙ ap is_concrete (same_Some g h (sym f ∙ e)) ∙ t))
one-class heads rows c so_far a b (other h e t) (other g f u) = refl

abbrev ClassesCase : List ClassHead → List EntryRow → (c : ℕ) → List Entry → Type 0
ClassesCase heads rows zero after = after ≡ []
ClassesCase heads rows (suc c) after = (before : List Entry) × ClassesAdd heads rows c before × ClassAdds heads rows c before after

classes-case : (heads : List ClassHead) (rows : List EntryRow) (c : ℕ) (after : List Entry) → ClassesAdd heads rows c after → ClassesCase heads rows c after
classes-case heads rows c after no_class = refl
classes-case heads rows c after (next_class {before = before} s t) = (before, s, t)

one-classes : (heads : List ClassHead) (rows : List EntryRow) (c : ℕ) (a b : List Entry) → ClassesAdd heads rows c a → ClassesAdd heads rows c b → a ≡ b
one-classes heads rows zero a b s t = classes-case heads rows zero a s ∙ sym (classes-case heads rows zero b t)
one-classes heads rows (suc c) a b s t =
    let x : ClassesCase heads rows (suc c) a = classes-case heads rows (suc c) a s in
    let y : ClassesCase heads rows (suc c) b = classes-case heads rows (suc c) b t in
    let befores : x.0 ≡ y.0 = one-classes heads rows c x.0 y.0 x.1 y.1 in
    one-class heads rows c y.0 a b (subst (λ (l : List Entry). ClassAdds heads rows c l a) befores x.2) y.2

pub same-entries : (heads : List ClassHead) (content : Content) (a b : List Entry) → AreEntries heads content a → AreEntries heads content b → a ≡ b
same-entries heads content a b s t = one-classes heads content.entries (length heads) a b s t
