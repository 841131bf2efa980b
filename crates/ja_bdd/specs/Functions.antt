-- Functions of sets of variables, and what the operations make of them.
use Rattle.std.specs.Prelude.{◌≡◌, ℕ, suc, ◌<◌, ◌==◌, ◌&&◌, ◌||◌, Bool, true, false, if◌then◌else◌}
use Rattle.ja_node_core.specs.Tree.{Tree, Assignment, truth, IsReduced}

-- a function of sets of variables: an assignment says which variables are in the set
abbrev pub Function : Type 0
Function = Assignment → Bool

-- the assignment with one variable set
abbrev pub with_var : Assignment → ℕ → Bool → Assignment
with_var a v b u = (if u == v then b else a u)

-- the function where one variable has this value
abbrev pub fixed : ℕ → Bool → Function → Function
fixed v b φ a = φ (with_var a v b)

abbrev pub both : Function → Function → Function
both φ ψ a = φ a && ψ a

abbrev pub either : Function → Function → Function
either φ ψ a = φ a || ψ a

-- true where some value of the variable makes the function true
abbrev pub forgotten : ℕ → Function → Function
forgotten v φ a = φ (with_var a v false) || φ (with_var a v true)

-- each variable becomes its partner
abbrev pub renamed : (ℕ → ℕ) → Function → Function
renamed partner φ a = φ (λ v. a (partner v))

-- the first function where the variable is false, the second where it is true
abbrev pub chosen : ℕ → Function → Function → Function
chosen v φ ψ a = (if a v then ψ a else φ a)

-- the function does not look at the variable
abbrev pub IsFree : ℕ → Function → Type 0
IsFree v φ = (b : Bool) (a : Assignment) → φ (with_var a v b) ≡ φ a

-- the function looks at no variable below this one
abbrev pub IsFrom : ℕ → Function → Type 0
IsFrom v φ = (u : ℕ) → u < v → IsFree u φ

-- the function looks at variables after this one alone
abbrev pub IsAfter : ℕ → Function → Type 0
IsAfter v φ = IsFrom (suc v) φ

-- the partners of the variables that the function looks at are in the order of these, and no two are one
abbrev pub KeepsOrder : (ℕ → ℕ) → Function → Type 0
KeepsOrder partner φ = (u v : ℕ) → ¬ IsFree u φ → ¬ IsFree v φ → u < v → partner u < partner v

-- the tree is that of the function
abbrev pub IsTreeOf : Function → Tree → Type 0
IsTreeOf φ t = IsReduced t × ((a : Assignment) → truth t a ≡ φ a)

-- the function is of the aim, which names it by its reduced tree
abbrev pub IsAimed : (Tree → Type 0) → Function → Type 0
IsAimed aim φ = (t : Tree) → IsTreeOf φ t → aim t
