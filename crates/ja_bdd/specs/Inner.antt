-- Words of the private functions: what the cache holds, and how far a recursion is from its end.
use Rattle.std.specs.Prelude.{Bool, List, None, Option, Some, false, max, min, slice_get, slice_set, true, ℕ, ◌&&◌, ◌*◌, ◌+◌, ◌-◌, ◌<◌, ◌||◌, ◌≡◌, ◌≤◌, ◌⊎◌}
use Rattle.ja_node_core.specs.Word.{var_of}
use Rattle.ja_node_core.specs.Node.{Words, Knows, constant}
use Rattle.ja_node_core.specs.declared.word.Node.{Node}
use Rattle.ja_bdd.specs.Functions.{Function, fixed, forgotten, renamed, IsFrom}
use Rattle.ja_bdd.specs.Meaning.{meaning, IsMeant}
use Rattle.ja_bdd.specs.declared.copies.Copies.{Copies}
use Rattle.ja_bdd.specs.Copies.{in_copies, all_forgotten}
use Rattle.ja_bdd.specs.declared.cache.Joint.{Joint}
use Rattle.ja_bdd.specs.declared.cache.Joint.TheVariants.{And, Or}
use Rattle.ja_bdd.specs.declared.cache.Question.{Question}
use Rattle.ja_bdd.specs.declared.cache.Question.TheVariants.{Join, Forget, Shift, Product}
use Rattle.ja_bdd.specs.declared.cache.Entry.{Entry}
use Rattle.ja_bdd.specs.declared.cache.TheConstants.{SHIFT_ENTRIES}
use Rattle.ja_base.specs.Limit.{max_variables}

abbrev pub join_bits : Joint → Bool → Bool → Bool
join_bits And p q = p && q
join_bits Or p q = p || q

abbrev pub joined : Joint → Function → Function → Function
joined j φ ψ a = join_bits j (φ a) (ψ a)

-- the constant that decides alone, and the one that changes nothing
abbrev pub decider : Joint → Bool
decider And = false
decider Or = true

abbrev pub neutral : Joint → Bool
neutral And = true
neutral Or = false

-- one of the two nodes is the answer, since one of them is a constant or both are one
abbrev pub IsSettled : Joint → ℕ → ℕ → ℕ → Type 0
IsSettled j f g n =
    ((n ≡ f) × ((f ≡ constant (decider j)) ⊎ ((g ≡ constant (neutral j)) ⊎ (f ≡ g)))) ⊎ ((n ≡ g) × ((g ≡ constant (decider j)) ⊎ (f ≡ constant (neutral j))))

-- what the renaming makes of the node is this function. Where the renaming is not known, nothing is said
abbrev pub IsShifted : Option (ℕ → ℕ) → Words → ℕ → Function → Type 0
IsShifted None k f φ = Unit {0}
IsShifted (Some m) k f φ = Knows k f × (renamed m (meaning k f) ≡ φ)

-- what was asked for is this function
abbrev pub IsAbout : Option (ℕ → ℕ) → Words → Question → Function → Type 0
IsAbout r k (Join j f g) φ = Knows k f.number × Knows k g.number × (joined j (meaning k f.number) (meaning k g.number) ≡ φ)
IsAbout r k (Forget f v) φ = Knows k f.number × (forgotten v (meaning k f.number) ≡ φ)
IsAbout r k (Shift f) φ = IsShifted r k f.number φ
IsAbout r k (Product f g c) φ = Knows k f.number × Knows k g.number × (all_forgotten (in_copies c) (joined And (meaning k f.number) (meaning k g.number)) ≡ φ)

abbrev pub IsAnswer : Option (ℕ → ℕ) → Words → Question → Node → Type 0
IsAnswer r k q n = Knows k n.number × IsAbout r k q (meaning k n.number)

-- each entry is right, where a renaming that is asked for is this one
abbrev pub AreRight : Option (ℕ → ℕ) → Words → List Entry → Type 0
AreRight r k es = (i : ℕ) (e : Entry) → slice_get es i ≡ Some e → IsAnswer r k e.asked e.made

abbrev pub AreSameCopies : Copies → Copies → Type 0
AreSameCopies c d = (c.at_entry ≡ d.at_entry) × (c.at_present ≡ d.at_present) × (c.at_next ≡ d.at_next) × (c.at_callee ≡ d.at_callee)

-- the same was asked
abbrev pub IsSame : Question → Question → Type 0
IsSame (Join j f g) (Join k a b) = (j ≡ k) × (f.number ≡ a.number) × (g.number ≡ b.number)
IsSame (Join j f g) (Forget a u) = ⊥
IsSame (Join j f g) (Shift a) = ⊥
IsSame (Forget f v) (Join k a b) = ⊥
IsSame (Forget f v) (Forget a u) = (f.number ≡ a.number) × (v ≡ u)
IsSame (Forget f v) (Shift a) = ⊥
IsSame (Shift f) (Join k a b) = ⊥
IsSame (Shift f) (Forget a u) = ⊥
IsSame (Shift f) (Shift a) = f.number ≡ a.number
IsSame (Join j f g) (Product a b d) = ⊥
IsSame (Forget f v) (Product a b d) = ⊥
IsSame (Shift f) (Product a b d) = ⊥
IsSame (Product f g c) (Join k a b) = ⊥
IsSame (Product f g c) (Forget a u) = ⊥
IsSame (Product f g c) (Shift a) = ⊥
IsSame (Product f g c) (Product a b d) = (f.number ≡ a.number) × (g.number ≡ b.number) × AreSameCopies c d

-- the cache has this answer to the question
abbrev pub HasAnswer : List Entry → Question → Node → Type 0
HasAnswer es q n = (i : ℕ) × (e : Entry) × (slice_get es i ≡ Some e) × IsSame e.asked q × (e.made ≡ n)

-- the cache with this answer in place of some other
abbrev pub HasKept : List Entry → Question → Node → List Entry → Type 0
HasKept es q n new = (i : ℕ) × (new ≡ slice_set es i record { asked = q; made = n })

-- how many variables there are from the node's own to the last
abbrev pub depth : Words → ℕ → ℕ
depth k n = min ((max_variables + 1) * (n - 1)) (max_variables + 1 - var_of (k n))

abbrev pub depth_of_both : Words → ℕ → ℕ → ℕ
depth_of_both k f g = max (depth k f) (depth k g)

-- two nodes may stand for two others in a join, and neither is a constant
pub record IsOpen (k : Words) (j : Joint) (f g f' g' : ℕ) : Type 0 where
  pub inner : (1 < f') × (1 < g')
  pub known : Knows k f' × Knows k g'
  pub same : joined j (meaning k f') (meaning k g') ≡ joined j (meaning k f) (meaning k g)
  pub depth : depth_of_both k f' g' ≡ depth_of_both k f g

-- two nodes are what is left of the parts of the conjunction of f and g, cut at a variable before which it does not look, where all variables that go are forgotten
pub record ArePieces (k : Words) (goes : ℕ → Bool) (f g v low high : ℕ) : Type 0 where
  pub known : Knows k f × Knows k g
  pub from : IsFrom v (joined And (meaning k f) (meaning k g))
  pub where_false : IsMeant k low (all_forgotten goes (fixed v false (joined And (meaning k f) (meaning k g))))
  pub where_true : IsMeant k high (all_forgotten goes (fixed v true (joined And (meaning k f) (meaning k g))))

-- whether a renaming was asked for
abbrev pub is_shift : Question → Bool
is_shift (Join j f g) = false
is_shift (Forget f v) = false
is_shift (Shift f) = true
is_shift (Product f g c) = false

-- answers to renamings stand at the first places alone
abbrev pub AreShiftsEarly : List Entry → Type 0
AreShiftsEarly es = (i : ℕ) (e : Entry) → slice_get es i ≡ Some e → SHIFT_ENTRIES ≤ i → is_shift e.asked ≡ false

-- the constant false twice was to be conjoined
abbrev pub AsksNothing : Question → Type 0
AsksNothing (Join And f g) = (f.number ≡ 0) × (g.number ≡ 0)
AsksNothing (Join Or f g) = ⊥
AsksNothing (Forget f v) = ⊥
AsksNothing (Shift f) = ⊥
AsksNothing (Product f g c) = ⊥

-- the entry says that the constant false with itself is the constant false
abbrev pub IsNothing : Entry → Type 0
IsNothing e = AsksNothing e.asked × (e.made.number ≡ 0)

-- the entry says nothing, or stood at this place and is of no renaming
abbrev pub IsLeft : List Entry → ℕ → Entry → Type 0
IsLeft old i e = IsNothing e ⊎ ((slice_get old i ≡ Some e) × (is_shift e.asked ≡ false))
