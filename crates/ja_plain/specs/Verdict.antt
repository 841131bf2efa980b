-- The verdicts of a method's sink calls.
use Rattle.std.specs.Prelude.{◌≡◌, ◌↔◌, ℕ, suc, ◌+◌, Bool, true, List, [], ◌∷◌, Contains, IsTrue}
use Rattle.ja_class.specs.declared.first.FirstInstr.{FirstInstr}
use Rattle.ja_class.specs.declared.first.FirstMethod.{FirstMethod}
use Rattle.ja_plain.specs.Least.{Least}
use Rattle.ja_plain.specs.Operation.{LibraryCall, Call, IsAt, operation, listed}
use Rattle.ja_plain.specs.Equations.{Entry, Assignment, OnStack, At, Rule}

-- a fact of the least solution before the call at this place has a listed argument true
pub record IsWarned (m : FirstMethod) (i : ℕ) : Type 0 where
  pub call : LibraryCall
  pub under : ℕ
  pub calls : IsAt m i (Call call) (under + call.arguments)
  pub position : ℕ
  pub lists : Contains (listed (Call call)) position
  pub entry : Entry
  pub present : Assignment
  pub fact : Least (Rule m) (At i entry present)
  pub is_tainted : present (OnStack (under + position)) ≡ true

-- the places with one more in front, if its instruction lists a position
abbrev pub with_site : List ℕ → ℕ → List ℕ → List ℕ
with_site [] i places = places
with_site (p ∷ ps) i places = i ∷ places

-- the places of the sites among instructions, the first of which has this place
abbrev pub sites_from : ℕ → List FirstInstr → List ℕ
sites_from i [] = []
sites_from i (x ∷ xs) = with_site (listed (operation x.op)) i (sites_from (suc i) xs)

-- there is one flag for each of these places, in their order, and it is true exactly where the site is warned
abbrev pub AreVerdictsAt : FirstMethod → List ℕ → List Bool → Type 0
AreVerdictsAt m [] [] = Unit {0}
AreVerdictsAt m [] (flag ∷ flags) = ⊥
AreVerdictsAt m (i ∷ is) [] = ⊥
AreVerdictsAt m (i ∷ is) (flag ∷ flags) = (IsTrue flag ↔ IsWarned m i) × AreVerdictsAt m is flags

-- the flags are the verdicts of the method's sink calls, in the order of their pcs
abbrev pub AreVerdicts : FirstMethod → List Bool → Type 0
AreVerdicts m flags = AreVerdictsAt m (sites_from 0 m.code) flags
