-- Classes have one program or one refusal, and never both.
use Rattle.std.proofs.Common.{◌≡◌, ℕ, zero, ◌<◌, ◌⊎◌, inl, inr, List, [], ◌∷◌, ◌++◌, length, map, refl, sym, ap, ◌∙◌, subst, arith}
use Rattle.std.specs.Prelude.{Some}
use Rattle.std.proofs.lemmas.Bool.{cases_order}
use Rattle.std.proofs.lemmas.Option.{same_Some, slice_get_within}
use Rattle.ja_base.specs.declared.refusal.Refusal.{Refusal}
use Rattle.ja_ir.specs.declared.class.ClassInfo.{ClassInfo}
use Rattle.ja_ir.specs.declared.class.Field.{Field}
use Rattle.ja_ir.specs.declared.entry.Entry.{Entry}
use Rattle.ja_ir.specs.declared.entry.Site.{Site}
use Rattle.ja_ir.specs.declared.head.ClassHead.{ClassHead}
use Rattle.ja_ir.specs.declared.method.Instr.{Instr}
use Rattle.ja_ir.specs.declared.method.Method.{Method}
use Rattle.ja_ir.specs.declared.program.Parts.{Parts}
use Rattle.ja_class.specs.Meaning.{ClassSpelled}
use Rattle.ja_lib.specs.Content.{Content}
use Rattle.ja_supertypes.specs.Faults.{IsFirst}
use Rattle.ja_hier.specs.declared.fault.HierFault.{HierFault}
use Rattle.ja_hier.specs.declared.fault.HierFault.TheVariants.{PlatformClass, Duplicate, Cycle, CrossPackage, Memory}
use Rattle.ja_hier.specs.Faults.{CrossesPackage, IsFault, IsHierarchy}
use Rattle.ja_methods.specs.declared.fault.MethodFault.{MethodFault}
use Rattle.ja_methods.specs.declared.site.MethodSite.{MethodSite}
use Rattle.ja_methods.specs.Method.{IsMethodOf}
use Rattle.ja_methods.specs.Refusal.{IsRefused}
use Rattle.ja_methods.specs.Sites.{AreSitesOf}
use Rattle.ja_methods.proofs.InstrSteps.{same-item}
use Rattle.ja_heads.specs.Classes.{AreClassInfos}
use Rattle.ja_heads.specs.Entries.{AreEntries}
use Rattle.ja_heads.specs.Fields.{AreFields}
use Rattle.ja_lower.specs.Program.{MethodsUpTo, none_yet, next_method, next_class, SitesUpTo, no_site, next_sites, site_of, heads_of, IsMethodRefused, IsProgramOf, IsRefusedWhole, of_hierarchy, of_method, StandsBefore}
use Rattle.ja_lower.specs.Refusals.{hier_refusal, method_refusal}
use Rattle.ja_lower.specs.InnerSteps.{MethodOrRefusal}
use Rattle.ja_lower.proofs.OneList.{one-list}
use Rattle.ja_lower.proofs.UpTo.{none-refused}

-- what the laws below say
abbrev pub OneMethod : Type 0
OneMethod =
    (heads : List ClassHead) (table : Content) (class : ClassSpelled) (c m : ℕ) (method other : Method)
    → IsMethodOf heads table class c m method → IsMethodOf heads table class c m other → method ≡ other

abbrev pub OneRefusal : Type 0
OneRefusal =
    (heads : List ClassHead) (class : ClassSpelled) (c m : ℕ) (refusal other : MethodFault) → IsRefused heads class c m refusal → IsRefused heads class c m other
    → refusal ≡ other

abbrev pub OneInfos : Type 0
OneInfos = (heads : List ClassHead) (files : List (List ℕ)) (a b : List ClassInfo) → AreClassInfos heads files a → AreClassInfos heads files b → a ≡ b

abbrev pub OneFields : Type 0
OneFields = (heads : List ClassHead) (a b : List Field) → AreFields heads a → AreFields heads b → a ≡ b

abbrev pub OneEntries : Type 0
OneEntries = (heads : List ClassHead) (content : Content) (a b : List Entry) → AreEntries heads content a → AreEntries heads content b → a ≡ b

-- ---- the program

one-sites : (heads : List ClassHead) (code : List Instr) (xs ys : List MethodSite) → AreSitesOf heads code xs → AreSitesOf heads code ys → xs ≡ ys
one-sites heads code xs ys are others =
    one-list (λ (a b : MethodSite). a.index < b.index) (λ a b p q. omega arith) xs ys are.sorted others.sorted (λ z held. (others.exact z).1 ((are.exact z).0 held)) (λ z held. (are.exact z).1 ((others.exact z).0 held))

one-sites-up-to : (heads : List ClassHead) (methods : List Method) (m n : ℕ) (xs ys : List Site) → SitesUpTo heads methods m xs → SitesUpTo heads methods n ys → m ≡ n → xs ≡ ys
one-sites-up-to heads methods m n xs ys no_site no_site e = refl
one-sites-up-to heads methods m n xs ys no_site (next_sites {m = l} {before} method own at up are) e = absurd (omega arith)
one-sites-up-to heads methods m n xs ys (next_sites {m = k} {before} method own at up are) no_site e = absurd (omega arith)
one-sites-up-to heads methods m n xs ys (next_sites {m = k} {before = old} method own at up are) (next_sites {m = l} {before = other-old} other other-own other-at other-up other-are) e =
    let same : k ≡ l = omega arith in
    let one : method ≡ other = same-item methods k l method other same at other-at in
    let owns : own ≡ other-own = one-sites heads other.code own other-own (subst (λ (x : Method). AreSitesOf heads x.code own) one are) other-are in
    let olds : old ≡ other-old = one-sites-up-to heads methods k l old other-old up other-up same in
    λ i. (olds i) ++ map (site_of (same i)) (owns i)

one-methods : OneMethod → (table : Content) (classes : List ClassSpelled) (c k d j : ℕ) (xs ys : List Method)
    → MethodsUpTo (heads_of classes) table classes c k xs → MethodsUpTo (heads_of classes) table classes d j ys → c ≡ d → k ≡ j → xs ≡ ys
one-methods one table classes c k d j xs ys none_yet none_yet e f = refl
one-methods one table classes c k d j xs ys none_yet (next_method {c = d'} {k = j'} {before} class method at lt up is) e f = absurd (omega arith)
one-methods one table classes c k d j xs ys none_yet (next_class {c = d'} {before} class at up) e f = absurd (omega arith)
one-methods one table classes c k d j xs ys (next_method {c = c'} {k = k'} {before} class method at lt up is) none_yet e f = absurd (omega arith)
one-methods one table classes c k d j xs ys (next_method {c = c'} {k = k'} {before = old} class method at lt up is) (next_method {c = d'} {k = j'} {before = other-old} other other-method other-at other-lt other-up other-is) e f =
    let place : k' ≡ j' = omega arith in
    let class-same : class ≡ other = same-item classes c' d' class other e at other-at in
    let moved : IsMethodOf (heads_of classes) table other d' j' method =
    subst (λ (n : ℕ). IsMethodOf (heads_of classes) table other n j' method) e
    (subst (λ (n : ℕ). IsMethodOf (heads_of classes) table other c' n method) place
    (subst (λ (x : ClassSpelled). IsMethodOf (heads_of classes) table x c' k' method) class-same is)) in
    let method-same : method ≡ other-method = one (heads_of classes) table other d' j' method other-method moved other-is in
    let olds : old ≡ other-old = one-methods one table classes c' k' d' j' old other-old up other-up e place in
    λ i. (olds i) ++ (method-same i) ∷ []
one-methods one table classes c k d j xs ys (next_method {c = c'} {k = k'} {before} class method at lt up is) (next_class {c = d'} {before = other-before} other other-at other-up) e f = absurd (omega arith)
one-methods one table classes c k d j xs ys (next_class {c = c'} {before} class at up) none_yet e f = absurd (omega arith)
one-methods one table classes c k d j xs ys (next_class {c = c'} {before} class at up) (next_method {c = d'} {k = j'} {before = other-before} other method other-at lt other-up is) e f = absurd (omega arith)
one-methods one table classes c k d j xs ys (next_class {c = c'} {before = old} class at up) (next_class {c = d'} {before = other-old} other other-at other-up) e f =
    let place : c' ≡ d' = omega arith in
    let class-same : class ≡ other = same-item classes c' d' class other place at other-at in
    one-methods one table classes c' (length class.head.methods) d' (length other.head.methods) old other-old up other-up place (ap (λ (x : ClassSpelled). length x.head.methods) class-same)

same-parts : (p q : Parts) → p.classes ≡ q.classes → p.methods ≡ q.methods → p.fields ≡ q.fields → p.entries ≡ q.entries → p.sites ≡ q.sites → p.categories ≡ q.categories → p ≡ q
same-parts p q c m f e s n = λ i. record { classes = c i; methods = m i; fields = f i; entries = e i; sites = s i; categories = n i }

-- classes make one program
pub one-program : OneMethod → OneInfos → OneFields → OneEntries → (files : List (List ℕ)) (classes : List ClassSpelled) (content : Content) (p q : Parts)
    → IsProgramOf files classes content p → IsProgramOf files classes content q → p ≡ q
one-program one infos fields entries files classes content p q is other =
    let heads : List ClassHead = heads_of classes in
    let methods : p.methods ≡ q.methods = one-methods one content classes (length classes) zero (length classes) zero p.methods q.methods is.methods other.methods refl refl in
    let moved : SitesUpTo heads q.methods (length q.methods) p.sites = subst (λ (l : List Method). SitesUpTo heads l (length l) p.sites) methods is.sites in
    same-parts p q (infos heads files p.classes q.classes is.infos other.infos) methods (fields heads p.fields q.fields is.fields other.fields) (entries heads content p.entries q.entries is.entries other.entries)
    (one-sites-up-to heads q.methods (length q.methods) (length q.methods) p.sites q.sites moved other.sites refl) (is.categories ∙ sym other.categories)

-- ---- the refusal

-- there is one first place
pub one-first : (P : ℕ → Type 0) (a b : ℕ) → IsFirst P a → IsFirst P b → a ≡ b
one-first P a b first other = elim (cases_order a b) [
  | inl same ↦ same
  | inr apart ↦ elim apart [ inl less ↦ absurd (other.before a less first.holds) | inr more ↦ absurd (first.before b more other.holds) ]
]

-- classes with a fault, other than want of memory, have no hierarchy
no-hierarchy : (files : List (List ℕ)) (heads : List ClassHead) (fault : HierFault) (refusal : Refusal) → IsFault heads fault → hier_refusal files fault ≡ Some refusal → IsHierarchy heads → ⊥
no-hierarchy files heads (PlatformClass c) refusal is e valid = valid.platform c is.holds
no-hierarchy files heads (Duplicate c) refusal is e valid = valid.distinct c is.1.holds
no-hierarchy files heads (Cycle c) refusal is e valid = valid.acyclic c is.2.holds
no-hierarchy files heads (CrossPackage c k) refusal is e valid = valid.packages c is.3.holds
no-hierarchy files heads Memory refusal is e valid = absurd (cc e)

one-fault : (files : List (List ℕ)) (heads : List ClassHead) (fault other : HierFault) (refusal another : Refusal) → IsFault heads fault → IsFault heads other
    → hier_refusal files fault ≡ Some refusal → hier_refusal files other ≡ Some another → fault ≡ other
one-fault files heads Memory other refusal another is also e f = absurd (cc e)
one-fault files heads (PlatformClass c) (PlatformClass d) refusal another is also e f = ap PlatformClass (one-first _ c d is also)
one-fault files heads (PlatformClass c) (Duplicate d) refusal another is also e f = absurd (also.0 c is.holds)
one-fault files heads (PlatformClass c) (Cycle d) refusal another is also e f = absurd (also.0 c is.holds)
one-fault files heads (PlatformClass c) (CrossPackage d j) refusal another is also e f = absurd (also.0 c is.holds)
one-fault files heads (PlatformClass c) Memory refusal another is also e f = absurd (cc f)
one-fault files heads (Duplicate c) (PlatformClass d) refusal another is also e f = absurd (is.0 d also.holds)
one-fault files heads (Duplicate c) (Duplicate d) refusal another is also e f = ap Duplicate (one-first _ c d is.1 also.1)
one-fault files heads (Duplicate c) (Cycle d) refusal another is also e f = absurd (also.1 c is.1.holds)
one-fault files heads (Duplicate c) (CrossPackage d j) refusal another is also e f = absurd (also.1 c is.1.holds)
one-fault files heads (Duplicate c) Memory refusal another is also e f = absurd (cc f)
one-fault files heads (Cycle c) (PlatformClass d) refusal another is also e f = absurd (is.0 d also.holds)
one-fault files heads (Cycle c) (Duplicate d) refusal another is also e f = absurd (is.1 d also.1.holds)
one-fault files heads (Cycle c) (Cycle d) refusal another is also e f = ap Cycle (one-first _ c d is.2 also.2)
one-fault files heads (Cycle c) (CrossPackage d j) refusal another is also e f = absurd (also.2 c is.2.holds)
one-fault files heads (Cycle c) Memory refusal another is also e f = absurd (cc f)
one-fault files heads (CrossPackage c k) (PlatformClass d) refusal another is also e f = absurd (is.0 d also.holds)
one-fault files heads (CrossPackage c k) (Duplicate d) refusal another is also e f = absurd (is.1 d also.1.holds)
one-fault files heads (CrossPackage c k) (Cycle d) refusal another is also e f = absurd (is.2 d also.2.holds)
one-fault files heads (CrossPackage c k) (CrossPackage d j) refusal another is also e f =
    let class : c ≡ d = one-first _ c d is.3 also.3 in
    let method : k ≡ j = one-first (CrossesPackage heads d) k j (subst (λ (n : ℕ). IsFirst (CrossesPackage heads n) k) class is.4) also.4 in
    λ i. CrossPackage (class i) (method i)
one-fault files heads (CrossPackage c k) Memory refusal another is also e f = absurd (cc f)

one-hierarchy-refusal : (files : List (List ℕ)) (heads : List ClassHead) (fault other : HierFault) (refusal another : Refusal) → IsFault heads fault → IsFault heads other
    → hier_refusal files fault ≡ Some refusal → hier_refusal files other ≡ Some another → refusal ≡ another
one-hierarchy-refusal files heads fault other refusal another is also e f =
    same_Some refusal another (sym e ∙ ap (hier_refusal files) (one-fault files heads fault other refusal another is also e f) ∙ f)

one-method-refusal : OneRefusal → (files : List (List ℕ)) (classes : List ClassSpelled) (c k : ℕ) (refusal other : Refusal)
    → IsMethodRefused files classes c k refusal → IsMethodRefused files classes c k other → refusal ≡ other
one-method-refusal one files classes c k refusal other is also =
    let class : is.class ≡ also.class = same-item classes c c is.class also.class refl is.at also.at in
    let file : is.file ≡ also.file = same-item files c c is.file also.file refl is.file_at also.file_at in
    let fault : is.fault ≡ also.fault = one (heads_of classes) also.class c k is.fault also.fault (subst (λ (x : ClassSpelled). IsRefused (heads_of classes) x c k is.fault) class is.refused) also.refused in
    same_Some refusal other (sym is.is ∙ (λ i. method_refusal (file i) k (fault i)) ∙ also.is)

-- of two places one stands before the other, or they are one
cases-places : (d j c k : ℕ) → StandsBefore d j c k ⊎ (StandsBefore c k d j ⊎ ((d ≡ c) × (j ≡ k)))
cases-places d j c k = elim (cases_order d c) [
  | inl same ↦ elim (cases_order j k) [
    | inl equal ↦ inr (inr (same, equal))
    | inr apart ↦ elim apart [ inl less ↦ inl (inr (same, less)) | inr more ↦ inr (inl (inr (sym same, more))) ]
  ]
  | inr apart ↦ elim apart [ inl less ↦ inl (inl less) | inr more ↦ inr (inl (inl more)) ]
]

-- classes have one refusal
pub one-refusal : OneRefusal → (files : List (List ℕ)) (classes : List ClassSpelled) (refusal other : Refusal) → IsRefusedWhole files classes refusal → IsRefusedWhole files classes other → refusal ≡ other
one-refusal one files classes refusal other (of_hierarchy fault is e) (of_hierarchy another also f) = one-hierarchy-refusal files (heads_of classes) fault another refusal other is also e f
one-refusal one files classes refusal other (of_hierarchy fault is e) (of_method d j valid also before) = absurd (no-hierarchy files (heads_of classes) fault refusal is e valid)
one-refusal one files classes refusal other (of_method c k valid is before) (of_hierarchy another also f) = absurd (no-hierarchy files (heads_of classes) another other also f valid)
one-refusal one files classes refusal other (of_method c k valid is before) (of_method d j also-valid also also-before) = elim (cases-places d j c k) [
  | inl earlier ↦ absurd (before d j other earlier also)
  | inr not-earlier ↦ elim not-earlier [
    | inl later ↦ absurd (also-before c k refusal later is)
    | inr same ↦
        let moved : IsMethodRefused files classes c k other = subst (λ (n : ℕ). IsMethodRefused files classes n k other) same.0 (subst (λ (n : ℕ). IsMethodRefused files classes d n other) same.1 also) in
        one-method-refusal one files classes c k refusal other is moved
  ]
]

-- classes that make a program are not refused
pub program-or-refusal : MethodOrRefusal → (files : List (List ℕ)) (classes : List ClassSpelled) (content : Content) (p : Parts) (refusal : Refusal) → IsProgramOf files classes content p → IsRefusedWhole files classes refusal → ⊥
program-or-refusal exclude files classes content p refusal is (of_hierarchy fault wrong e) = no-hierarchy files (heads_of classes) fault refusal wrong e is.hierarchy
program-or-refusal exclude files classes content p refusal is (of_method c k valid refused before) =
    none-refused exclude files content classes (length classes) zero p.methods is.methods c k refusal (inl (slice_get_within classes c refused.class refused.at)) refused
