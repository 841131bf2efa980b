-- Sink calls, one instruction after the other.
use Rattle.std.proofs.Common.{◌≡◌, ℕ, ◌+◌, ◌<◌, ◌≤◌, inl, inr, List, [], ◌∷◌, ◌++◌, length, get_or, sym, ap, subst, ◌∙◌, arith}
use Rattle.std.specs.Prelude.{◌↔◌, Some, Result, Ok, Err, OnOk, AllPairs, Contains, slice_get}
use Rattle.std.proofs.lemmas.Bool.{cases_lt}
use Rattle.std.proofs.lemmas.Option.{slice_get_within}
use Rattle.std.proofs.lemmas.List.Elements.{Contains-push, Contains-push_cases, Contains-append_left, Contains-get_or}
use Rattle.std.proofs.lemmas.List.Quantifiers.{all_pairs_push}
use Rattle.ja_ir.specs.declared.head.ClassHead.{ClassHead}
use Rattle.ja_ir.specs.declared.method.Instr.{Instr}
use Rattle.ja_ir.specs.declared.op.Op.TheVariants.{Call}
use Rattle.ja_ir.specs.declared.op.CallOp.{CallOp}
use Rattle.ja_operations.specs.Sites.{IsSite, IsNoSite, sinks_of}
use Rattle.ja_methods.specs.declared.site.MethodSite.{MethodSite}
use Rattle.ja_methods.specs.Sites.{IsSiteAt, AreSitesOf}
use Rattle.ja_methods.specs.InnerSites.{IsSilent, Joins}

-- the list has the sink calls among the instructions before an index, in their order
pub record SitesBelow (heads : List ClassHead) (list : List Instr) (i : ℕ) (sites : List MethodSite) : Type 0 where
  pub exact : (site : MethodSite) → Contains sites site ↔ (IsSiteAt heads list site × (site.index < i))
  pub sorted : AllPairs (λ (a b : MethodSite). a.index < b.index) sites

pub sites-none : (heads : List ClassHead) (list : List Instr) → SitesBelow heads list 0 []
sites-none heads list = record { exact = λ site. (λ in'. absurd (omega (arith, in'.1)), λ p. absurd (omega (arith, p.1))); sorted = λ i j d lt below. absurd (omega arith) }

pub same-site : (a b : MethodSite) → a.index ≡ b.index → a.positions ≡ b.positions → a.target ≡ b.target → a.category ≡ b.category → a ≡ b
same-site a b i p t c = λ k. record { index = i k; positions = p k; target = t k; category = c k }

-- an instruction of a list that is found twice is one
same-instr : (list : List Instr) (j k : ℕ) (a b : Instr) → j ≡ k → slice_get list j ≡ Some a → slice_get list k ≡ Some b → a ≡ b
same-instr list j k a b e at there =
    let moved : slice_get list k ≡ Some a = subst (λ (n : ℕ). slice_get list n ≡ Some a) e at in cc

-- the sink call of an index is one
pub one-site : (heads : List ClassHead) (list : List Instr) (a b : MethodSite) → IsSiteAt heads list a → IsSiteAt heads list b → a.index ≡ b.index → a ≡ b
one-site heads list a b p q e =
    let same : p.instr ≡ q.instr = same-instr list a.index b.index p.instr q.instr e p.found q.found in
    let op : Call p.call ≡ Call q.call = sym p.is_call ∙ ap (λ (i : Instr). i.op) same ∙ q.is_call in
    let call : p.call ≡ q.call = cc in
    same-site a b e (p.is_site.positions_are ∙ ap sinks_of call ∙ sym q.is_site.positions_are) (p.is_site.target_is ∙ ap Rattle.ja_operations.specs.Sites.target_of call ∙ sym q.is_site.target_is)
    (p.category_is ∙ ap (λ (x : CallOp). x.row.category) call ∙ sym q.category_is)

pub sites-more : (heads : List ClassHead) (list : List Instr) (i : ℕ) (instr : Instr) (old new : List MethodSite) → slice_get list i ≡ Some instr → SitesBelow heads list i old → Joins heads i instr old new
    → SitesBelow heads list (i + 1) new
sites-more heads list i instr old new at below (Joins.silent quiet) = record {
  exact = λ site. (
    λ in'. let p : IsSiteAt heads list site × (site.index < i) = (below.exact site).0 in' in (p.0, omega (arith, p.1)),
    λ p. elim (cases_lt site.index i) [
      | inl lt ↦ (below.exact site).1 (p.0, lt)
      | inr ge ↦
          let same : p.0.instr ≡ instr = same-instr list site.index i p.0.instr instr (omega (arith, ge, p.1)) p.0.found at in
          absurd (quiet p.0.call site.positions site.target (sym (ap (λ (x : Instr). x.op) same) ∙ p.0.is_call) p.0.is_site)
    ],
  );
  sorted = below.sorted;
}
sites-more heads list i instr old new at below (Joins.sounding call s is-call at-index is-site category) =
    let whole : IsSiteAt heads list s = record { instr = instr; found = subst (λ (n : ℕ). slice_get list n ≡ Some instr) (sym at-index) at; call = call; is_call = is-call; is_site = is-site; category_is = category } in
    record {
      exact = λ site. (
        λ in'. elim (Contains-push_cases old s site in') [
          | inl before ↦ (let p : IsSiteAt heads list site × (site.index < i) = (below.exact site).0 before in (p.0, omega (arith, p.1)))
          | inr last ↦ (subst (λ (x : MethodSite). IsSiteAt heads list x) last whole, omega (arith, ap (λ (x : MethodSite). x.index) last, at-index))
        ],
        λ p. elim (cases_lt site.index i) [
          | inl lt ↦ Contains-append_left old (s ∷ []) site ((below.exact site).1 (p.0, lt))
          | inr ge ↦
              let same : s ≡ site = one-site heads list s site whole p.0 (omega (arith, ge, p.1, at-index)) in
              subst (λ (x : MethodSite). Contains (old ++ s ∷ []) x) same (Contains-push old s)
        ],
      );
      sorted = all_pairs_push (λ (a b : MethodSite). a.index < b.index) old s below.sorted (λ k d lt.
          let known : IsSiteAt heads list (get_or old k d) × ((get_or old k d).index < i) = (below.exact (get_or old k d)).0 (Contains-get_or old k d lt) in
          omega (arith, known.1, at-index));
    }

pub sites-all : (heads : List ClassHead) (list : List Instr) (i : ℕ) (sites : List MethodSite) → length list ≤ i → SitesBelow heads list i sites → AreSitesOf heads list sites
sites-all heads list i sites past below = record {
  exact = λ site. (
    λ in'. ((below.exact site).0 in').0,
    λ is. (below.exact site).1 (is, omega (arith, slice_get_within list site.index is.instr is.found, past)),
  );
  sorted = below.sorted;
}

-- what is no sink call is silent
pub no-site-silent : (heads : List ClassHead) (instr : Instr) (call : CallOp) → instr.op ≡ Call call → IsNoSite heads call → IsSilent heads instr
no-site-silent heads instr call is none other positions target is-other site =
    let same : Call call ≡ Call other = sym is ∙ is-other in
    let e : call ≡ other = cc in
    elim none [
      | inl empty ↦ absurd (omega (arith, site.some, ap length (site.positions_are ∙ ap sinks_of (sym e) ∙ empty)))
      | inr found ↦ absurd (found (subst (λ (x : CallOp). Rattle.ja_operations.specs.Sites.IsForeign heads x) (sym e) site.foreign))
    ]

-- the sink call of an instruction, pushed
pub pushed : {E : Type 0} (heads : List ClassHead) (index : ℕ) (instr : Instr) (call : CallOp) (site : MethodSite) (old new : List MethodSite) (result : Result (Unit {0}) E) → instr.op ≡ Call call → site.index ≡ index
    → IsSite heads call site.positions site.target → site.category ≡ call.row.category → OnOk result (new ≡ old ++ site ∷ []) → OnOk result (Joins heads index instr old new)
pushed heads index instr call site old new (Ok x) is-call at is-site category e = subst (λ (l : List MethodSite). Joins heads index instr old l) (sym e) (Joins.sounding call site is-call at is-site category)
pushed heads index instr call site old new (Err x) is-call at is-site category e = tt
