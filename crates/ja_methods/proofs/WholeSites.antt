-- Sink calls name calls and some of their arguments.
use Rattle.std.proofs.Common.{◌≡◌, ℕ, zero, suc, ◌<◌, Bool, true, false, cond, ltb, List, [], ◌∷◌, get_or, refl, sym, subst, arith}
use Rattle.std.specs.Prelude.{All}
use Rattle.std.specs.List.{filter}
use Rattle.std.proofs.lemmas.Bool.{ltb-true}
use Rattle.std.proofs.lemmas.List.Elements.{Contains-get_or}
use Rattle.ja_ir.specs.declared.head.ClassHead.{ClassHead}
use Rattle.ja_ir.specs.declared.method.Instr.{Instr}
use Rattle.ja_ir.specs.Operations.{arguments}
use Rattle.ja_methods.specs.declared.site.MethodSite.{MethodSite}
use Rattle.ja_methods.specs.Sites.{IsSiteAt, AreSitesOf}
use Rattle.ja_methods.specs.Whole.{NamesCall}

kept-below : (n x : ℕ) (ys : List ℕ) (b : Bool) → ltb x n ≡ b → All (λ k. k < n) ys → All (λ k. k < n) (cond b (x ∷ ys) ys)
kept-below n x ys true e all zero d lt = ltb-true x n e
kept-below n x ys true e all (suc k) d lt = all k d (omega arith)
kept-below n x ys false e all k d lt = all k d lt

below : (n : ℕ) (xs : List ℕ) → All (λ k. k < n) (filter (λ k. ltb k n) xs)
below n [] k d lt = absurd (omega arith)
below n (x ∷ xs) k d lt = kept-below n x (filter (λ j. ltb j n) xs) (ltb x n) refl (below n xs) k d lt

pub sites-name-calls : (heads : List ClassHead) (list : List Instr) (sites : List MethodSite) → AreSitesOf heads list sites → All (NamesCall list) sites
sites-name-calls heads list sites are k d lt =
    let is : IsSiteAt heads list (get_or sites k d) = (are.exact (get_or sites k d)).0 (Contains-get_or sites k d lt) in
    record {
      instr = is.instr;
      call = is.call;
      found = is.found;
      is_call = is.is_call;
      positions = subst (λ (ps : List ℕ). All (λ j. j < arguments is.call) ps) (sym is.is_site.positions_are) (below (arguments is.call) is.call.row.sinks);
      category = is.category_is;
    }
