-- The methods up to a place: their number, and that none of them is refused.
use Rattle.std.proofs.Common.{◌≡◌, ℕ, zero, suc, ◌+◌, ◌<◌, ◌⊎◌, inl, inr, List, [], ◌∷◌, ◌++◌, length, map, take, get_or, refl, sym, ap, ◌∙◌, subst, arith}
use Rattle.std.specs.Prelude.{Some, None, option_map, slice_get, sum_by}
use Rattle.std.proofs.lemmas.List.{length_push}
use Rattle.std.proofs.lemmas.List.Sums.{sum_by_more, sum_by_more_le}
use Rattle.std.proofs.lemmas.Bool.{cases_lt}
use Rattle.std.proofs.lemmas.Option.{same_Some, slice_get-map, slice_get_within, get_or_from_slice_get}
use Rattle.ja_base.specs.declared.refusal.Refusal.{Refusal}
use Rattle.ja_ir.specs.declared.head.ClassHead.{ClassHead}
use Rattle.ja_ir.specs.declared.method.Method.{Method}
use Rattle.ja_ir.specs.declared.entry.Site.{Site}
use Rattle.ja_class.specs.Meaning.{ClassSpelled}
use Rattle.ja_lib.specs.Content.{Content}
use Rattle.ja_hier.specs.declared.starts.Member.TheVariants.{Method as OfMethods}
use Rattle.ja_hier.specs.LookUps.{method_number}
use Rattle.ja_hier.specs.Members.{count_of}
use Rattle.ja_methods.specs.declared.fault.MethodFault.{MethodFault}
use Rattle.ja_methods.specs.declared.fault.MethodFault.TheVariants as faults
use Rattle.ja_methods.specs.declared.site.MethodSite.{MethodSite}
use Rattle.ja_methods.specs.Method.{IsMethodOf}
use Rattle.ja_methods.specs.Sites.{AreSitesOf}
use Rattle.ja_lower.proofs.Inside.{refused-inside}
use Rattle.ja_lower.specs.Program.{MethodsUpTo, none_yet, next_method, next_class, SitesUpTo, no_site, next_sites, site_of, heads_of, IsMethodRefused, StandsBefore}
use Rattle.ja_lower.specs.Refusals.{method_refusal}
use Rattle.ja_lower.specs.InnerSteps.{AreUpTo, MethodOrRefusal}

-- ---- lists

pub push-here : {A : Type 0} (xs : List A) (x : A) (n : ℕ) → n ≡ length xs → slice_get (xs ++ x ∷ []) n ≡ Some x
push-here xs x n e = ap (λ (k : ℕ). slice_get (xs ++ x ∷ []) k) e ∙ at-end xs x
  where
    at-end : {A : Type 0} (xs : List A) (x : A) → slice_get (xs ++ x ∷ []) (length xs) ≡ Some x
    at-end [] x = refl
    at-end (y ∷ xs) x = at-end xs x

pub push-before : {A : Type 0} (xs : List A) (x : A) (n : ℕ) (y : A) → slice_get xs n ≡ Some y → slice_get (xs ++ x ∷ []) n ≡ Some y
push-before [] x n y e = absurd (cc e)
push-before (z ∷ xs) x zero y e = e
push-before (z ∷ xs) x (suc n) y e = push-before xs x n y e

-- ---- numbers

head-at : (classes : List ClassSpelled) (c : ℕ) (class : ClassSpelled) → slice_get classes c ≡ Some class → slice_get (heads_of classes) c ≡ Some class.head
head-at classes c class e = slice_get-map (λ (x : ClassSpelled). x.head) classes c ∙ ap (option_map (λ (x : ClassSpelled). x.head)) e

-- the methods before the next class
pub next-number : (classes : List ClassSpelled) (c : ℕ) (class : ClassSpelled) → slice_get classes c ≡ Some class
    → method_number (heads_of classes) (suc c) zero ≡ method_number (heads_of classes) c (length class.head.methods)
next-number classes c class e =
    let heads : List ClassHead = heads_of classes in
    let at : slice_get heads c ≡ Some class.head = head-at classes c class e in
    let one : suc c ≡ c + 1 = omega arith in
    let more : sum_by (count_of OfMethods) (take (c + 1) heads) ≡ sum_by (count_of OfMethods) (take c heads) + count_of OfMethods (get_or heads c class.head) =
    sum_by_more (count_of OfMethods) heads c class.head (slice_get_within heads c class.head at) in
    let read : count_of OfMethods (get_or heads c class.head) ≡ length class.head.methods = ap (count_of OfMethods) (get_or_from_slice_get heads c class.head class.head at) in
    let stepped : sum_by (count_of OfMethods) (take (suc c) heads) ≡ sum_by (count_of OfMethods) (take (c + 1) heads) = ap (λ (k : ℕ). sum_by (count_of OfMethods) (take k heads)) one in
    omega (arith, more, read, stepped)

pub number-up-to : (table : Content) (classes : List ClassSpelled) (c k : ℕ) (methods : List Method) → MethodsUpTo (heads_of classes) table classes c k methods
    → length methods ≡ method_number (heads_of classes) c k
number-up-to table classes c k methods none_yet = refl
number-up-to table classes c k methods (next_method {c = d} {k = j} {before = before} class method at lt up is) =
    omega (arith, length_push before method, number-up-to table classes d j before up)
number-up-to table classes c k methods (next_class {c = d} {before = before} class at up) =
    number-up-to table classes d (length class.head.methods) before up ∙ sym (next-number classes d class at)

-- the number of a method of a class is below the number of all
pub number-fits : (classes : List ClassSpelled) (c k : ℕ) (class : ClassSpelled) → slice_get classes c ≡ Some class → k < length class.head.methods
    → method_number (heads_of classes) c k < sum_by (count_of OfMethods) (heads_of classes)
number-fits classes c k class e lt =
    let heads : List ClassHead = heads_of classes in
    let at : slice_get heads c ≡ Some class.head = head-at classes c class e in
    let read : count_of OfMethods (get_or heads c class.head) ≡ length class.head.methods = ap (count_of OfMethods) (get_or_from_slice_get heads c class.head class.head at) in
    omega (arith, sum_by_more_le (count_of OfMethods) heads c class.head (slice_get_within heads c class.head at), read)

-- ---- what holds of the methods before a place

before-next : (d j c k : ℕ) → StandsBefore d j c (suc k) → StandsBefore d j c k ⊎ ((d ≡ c) × (j ≡ k))
before-next d j c k (inl lower) = inl (inl lower)
before-next d j c k (inr same) = elim (cases_lt j k) [ inl less ↦ inl (inr (same.0, less)) | inr other ↦ inr (same.0, omega (arith, same.1)) ]

-- method j of class d stands among the methods at its number
pub record IsAmong (table : Content) (classes : List ClassSpelled) (methods : List Method) (d j : ℕ) (class : ClassSpelled) : Type 0 where
  pub method : Method
  pub at : slice_get methods (method_number (heads_of classes) d j) ≡ Some method
  pub is : IsMethodOf (heads_of classes) table class d j method

pub among-up-to : (table : Content) (classes : List ClassSpelled) (c k : ℕ) (methods : List Method) → MethodsUpTo (heads_of classes) table classes c k methods
    → (d j : ℕ) (class : ClassSpelled) → StandsBefore d j c k → slice_get classes d ≡ Some class → j < length class.head.methods → IsAmong table classes methods d j class
among-up-to table classes c k methods none_yet d j class before e lt = absurd (elim before [ inl less ↦ omega arith | inr same ↦ omega (arith, same.1) ])
among-up-to table classes c k methods (next_method {c = c'} {k = k'} {before = old} class' method at lt' up is) d j class before e lt =
    elim (before-next d j c' k' before) [
      | inl earlier ↦
          let x : IsAmong table classes old d j class = among-up-to table classes c' k' old up d j class earlier e lt in
          record { method = x.method; at = push-before old method (method_number (heads_of classes) d j) x.method x.at; is = x.is }
      | inr here ↦
          let place : slice_get classes c' ≡ Some class = ap (slice_get classes) (sym here.0) ∙ e in
          let same : class' ≡ class = same_Some class' class (sym at ∙ place) in
          let number : method_number (heads_of classes) d j ≡ length old =
          ap (λ (n : ℕ). method_number (heads_of classes) n j) here.0 ∙ ap (λ (n : ℕ). method_number (heads_of classes) c' n) here.1 ∙ sym (number-up-to table classes c' k' old up) in
          record {
            method = method;
            at = push-here old method (method_number (heads_of classes) d j) number;
            is = subst (λ (n : ℕ). IsMethodOf (heads_of classes) table class n j method) (sym here.0)
                (subst (λ (n : ℕ). IsMethodOf (heads_of classes) table class c' n method) (sym here.1)
                (subst (λ (x : ClassSpelled). IsMethodOf (heads_of classes) table x c' k' method) same is));
          }
    ]
among-up-to table classes c k methods (next_class {c = c'} {before = old} class' at up) d j class before e lt =
    among-up-to table classes c' (length class'.head.methods) old up d j class (earlier before) e lt
  where
    earlier : StandsBefore d j (suc c') zero → StandsBefore d j c' (length class'.head.methods)
    earlier (inl less) = elim (cases_lt d c') [
      | inl lower ↦ inl lower
      | inr not-lower ↦
          let same : d ≡ c' = omega arith in
          let classes-same : class ≡ class' = same_Some class class' (sym e ∙ ap (slice_get classes) same ∙ at) in
          inr (same, subst (λ (x : ClassSpelled). j < length x.head.methods) classes-same lt)
    ]
    earlier (inr x) = absurd (omega (arith, x.1))

-- a refusal is none for want of memory
pub no-memory : (file : List ℕ) (k : ℕ) (fault : MethodFault) (refusal : Refusal) → method_refusal file k fault ≡ Some refusal → fault ≡ faults.Memory → ⊥
no-memory file k fault refusal e same = let f : None ≡ Some refusal = ap (method_refusal file k) (sym same) ∙ e in cc f

-- none of the methods before a place is refused
pub none-refused : MethodOrRefusal → (files : List (List ℕ)) (table : Content) (classes : List ClassSpelled) (c k : ℕ) (methods : List Method) → MethodsUpTo (heads_of classes) table classes c k methods
    → (d j : ℕ) (other : Refusal) → StandsBefore d j c k → IsMethodRefused files classes d j other → ⊥
none-refused exclude files table classes c k methods up d j other before r =
    let x : IsAmong table classes methods d j r.class = among-up-to table classes c k methods up d j r.class before r.at (refused-inside (heads_of classes) r.class d j r.fault r.refused) in
    exclude (heads_of classes) table r.class d j x.method r.fault x.is r.refused

-- ---- sites

pub sites-grow : (heads : List ClassHead) (methods : List Method) (method : Method) (m : ℕ) (sites : List Site) → SitesUpTo heads methods m sites → SitesUpTo heads (methods ++ method ∷ []) m sites
sites-grow heads methods method m sites no_site = no_site
sites-grow heads methods method m sites (next_sites {m = n} {before = before} other own at up are) =
    next_sites other own (push-before methods method n other at) (sites-grow heads methods method n before up) are

-- one method more, with its sites
pub more : (table : Content) (classes : List ClassSpelled) (c k : ℕ) (class : ClassSpelled) (method : Method) (own : List MethodSite) (methods news : List Method) (sites new-sites : List Site)
    → slice_get classes c ≡ Some class → k < length class.head.methods → AreUpTo table classes c k methods sites → IsMethodOf (heads_of classes) table class c k method → AreSitesOf (heads_of classes) method.code own
    → news ≡ methods ++ method ∷ [] → new-sites ≡ sites ++ map (site_of (length methods)) own → AreUpTo table classes c (suc k) news new-sites
more table classes c k class method own methods news sites new-sites at lt up is are e f =
    let grown : AreUpTo table classes c (suc k) (methods ++ method ∷ []) (sites ++ map (site_of (length methods)) own) =
    record {
      methods_are = next_method class method at lt up.methods_are is;
      sites_are =
          let size : suc (length methods) ≡ length (methods ++ method ∷ []) = omega (arith, length_push methods method) in
          subst (λ (n : ℕ). SitesUpTo (heads_of classes) (methods ++ method ∷ []) n (sites ++ map (site_of (length methods)) own)) size
          (next_sites method own (push-here methods method (length methods) refl) (sites-grow (heads_of classes) methods method (length methods) sites up.sites_are) are);
    } in
    subst (λ (l : List Site). AreUpTo table classes c (suc k) news l) (sym f) (subst (λ (l : List Method). AreUpTo table classes c (suc k) l (sites ++ map (site_of (length methods)) own)) (sym e) grown)

-- the next class
pub past : (table : Content) (classes : List ClassSpelled) (c : ℕ) (class : ClassSpelled) (methods : List Method) (sites : List Site) → slice_get classes c ≡ Some class
    → AreUpTo table classes c (length class.head.methods) methods sites → AreUpTo table classes (suc c) zero methods sites
past table classes c class methods sites at up = record { methods_are = next_class class at up.methods_are; sites_are = up.sites_are }

-- before the first method
pub nothing-yet : (table : Content) (classes : List ClassSpelled) (methods : List Method) (sites : List Site) → methods ≡ [] → sites ≡ [] → AreUpTo table classes zero zero methods sites
nothing-yet table classes methods sites e f =
    let empty : AreUpTo table classes zero zero [] [] = record { methods_are = none_yet; sites_are = no_site } in
    subst (λ (l : List Site). AreUpTo table classes zero zero methods l) (sym f) (subst (λ (l : List Method). AreUpTo table classes zero zero l []) (sym e) empty)
