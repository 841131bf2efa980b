-- The blocks that are cut at the set flags are the blocks of the method.
use Rattle.std.proofs.Common.{◌≡◌, ℕ, zero, suc, ◌+◌, ◌-◌, ◌<◌, ◌≤◌, ◌⊎◌, inl, inr, Bool, true, false, List, [], ◌∷◌, length, refl, sym, ◌∙◌, ap, subst, arith, replicate}
use Rattle.std.proofs.lemmas.List.{length-replicate}
use Rattle.std.specs.Prelude.{Some, All, AllPairs, Contains, slice_get, slice_index_or}
use Rattle.std.proofs.lemmas.List.Kept.{AllPairs-cons}
use Rattle.ja_ir.specs.declared.block.Block.{Block}
use Rattle.ja_ir.specs.declared.method.Method.{Method}
use Rattle.ja_ir.specs.declared.method.Instr.{Instr}
use Rattle.ja_ir.specs.declared.method.Handler.{Handler}
use Rattle.ja_ir.specs.Blocks.{IsLeader, begins, branched, handles, initializes, follows, IsBlock, AreBlocks, StaysInside}
use Rattle.ja_ir.specs.InnerLeaders.{with_code, with_handlers, blocks_from, blocks_after}
use Rattle.ja_ir.proofs.Marks.{has, Adds, Asks, CodeAsks, LedTo, code-adds, handlers-add}

-- the place of an instruction that there is
pub get-below : {X : Type 0} (xs : List X) (k : ℕ) (x : X) → slice_get xs k ≡ Some x → k < length xs
get-below [] k x e = cc
get-below (y ∷ xs) zero x e = omega arith
get-below (y ∷ xs) (suc k) x e = omega (arith, get-below xs k x e)

-- an element of a list whose elements all have a property has it
pub all-at : {X : Type 0} (P : X → Type 0) (xs : List X) → All P xs → (k : ℕ) (x : X) → slice_get xs k ≡ Some x → P x
all-at P [] all k x e = cc
all-at P (y ∷ xs) all zero x e = let same : y ≡ x = cc in subst P same (all 0 y (omega arith))
all-at P (y ∷ xs) all (suc k) x e = all-at P xs (λ i d lt. all (suc i) d (omega arith)) k x e

-- the flags from index i on are set exactly at leaders
pub record Tells (m : Method) (i : ℕ) (flags : List Bool) : Type 0 where
  pub size : length m.code ≡ i + length flags
  pub sound : (k : ℕ) → k < length flags → has flags k ≡ true → IsLeader m (i + k)
  pub complete : (k : ℕ) → k < length flags → IsLeader m (i + k) → has flags k ≡ true

-- the block that is being cut: it began at a leader, and no leader came since
pub record Open (m : Method) (first i : ℕ) : Type 0 where
  pub below : first < i
  pub leader : IsLeader m first
  pub none : (j : ℕ) → first < j → j < i → IsLeader m j → ⊥

tells-rest : (m : Method) (i : ℕ) (b : Bool) (flags : List Bool) → Tells m i (b ∷ flags) → Tells m (i + 1) flags
tells-rest m i b flags t = record {
  size = omega (arith, t.size);
  sound = λ k lt h. subst (λ (n : ℕ). IsLeader m n) (omega arith) (t.sound (suc k) (omega arith) h);
  complete = λ k lt l. t.complete (suc k) (omega arith) (subst (λ (n : ℕ). IsLeader m n) (omega arith) l);
}

here-leader : (m : Method) (i : ℕ) (flags : List Bool) → Tells m i (true ∷ flags) → IsLeader m i
here-leader m i flags t = subst (λ (n : ℕ). IsLeader m n) (omega arith) (t.sound 0 (omega arith) refl)

not-leader : (m : Method) (i : ℕ) (flags : List Bool) → Tells m i (false ∷ flags) → IsLeader m i → ⊥
not-leader m i flags t l = let q : false ≡ true = t.complete 0 (omega arith) (subst (λ (n : ℕ). IsLeader m n) (omega arith) l) in cc

grown : (m : Method) (first i : ℕ) (flags : List Bool) → Open m first i → Tells m i (false ∷ flags) → Open m first (i + 1)
grown m first i flags o t = record {
  below = omega (arith, o.below);
  leader = o.leader;
  none = λ j lo hi l. elim (same-or-below j i (omega arith)) [ inl e ↦ not-leader m i flags t (subst (λ (n : ℕ). IsLeader m n) e l) | inr lt ↦ o.none j lo lt l ];
}
  where
    same-or-below : (a b : ℕ) → a < b + 1 → (a ≡ b) ⊎ (a < b)
    same-or-below zero zero lt = inl refl
    same-or-below zero (suc b) lt = inr (omega arith)
    same-or-below (suc a) zero lt = absurd (omega arith)
    same-or-below (suc a) (suc b) lt = elim (same-or-below a b (omega arith)) [ inl e ↦ inl (ap suc e) | inr l ↦ inr (omega arith) ]

fresh : (m : Method) (i : ℕ) (flags : List Bool) → Tells m i (true ∷ flags) → Open m i (i + 1)
fresh m i flags t = record { below = omega arith; leader = here-leader m i flags t; none = λ j lo hi l. absurd (omega arith) }

-- the block from one index up to the one before another
abbrev pub run : ℕ → ℕ → Block
run first end = record { first = first; last = end - 1 }

contains-cons : (b : Block) (bs : List Block) (x : Block) → Contains (b ∷ bs) x → (b ≡ x) ⊎ Contains bs x
contains-cons b bs x (zero, lt, e) = inl e
contains-cons b bs x (suc k, lt, e) = inr (k, omega arith, e)

cons-contains : (b : Block) (bs : List Block) (x : Block) → Contains bs x → Contains (b ∷ bs) x
cons-contains b bs x (k, lt, e) = (suc k, omega arith, e)

-- the open block ends where a leader comes, or where the code ends
is-block : (m : Method) (first end : ℕ) → Open m first end → end ≤ length m.code → (end ≡ length m.code) ⊎ IsLeader m end → IsBlock m (run first end)
is-block m first end o in' last = record {
  leader = o.leader;
  ordered = omega (arith, o.below);
  inside = omega (arith, o.below);
  straight = λ j lo hi l. o.none j lo (omega (arith, o.below)) l;
  ends = elim last [
    | inl e ↦ inl (omega (arith, o.below))
    | inr l ↦ inr (subst (λ (n : ℕ). IsLeader m n) (omega (arith, o.below)) l)
  ];
}

two-cases : (a b : ℕ) → (a < b) ⊎ ((a ≡ b) ⊎ (b < a))
two-cases zero zero = inr (inl refl)
two-cases zero (suc b) = inl (omega arith)
two-cases (suc a) zero = inr (inr (omega arith))
two-cases (suc a) (suc b) = elim (two-cases a b) [
  | inl l ↦ inl (omega arith)
  | inr e ↦ elim e [ inl e ↦ inr (inl (ap suc e)) | inr l ↦ inr (inr (omega arith)) ]
]

same-block : (first end : ℕ) (b : Block) → b.first ≡ first → suc b.last ≡ end → run first end ≡ b
same-block first end b e f =
    let l : b.last ≡ end - 1 = omega arith in
    ap (λ (q : ℕ × ℕ). let x : Block = record { first = q.0; last = q.1 } in x) (pair (sym e) (sym l))
  where
    pair : {a c d g : ℕ} → a ≡ c → d ≡ g → (let p : ℕ × ℕ = (a, d) in p) ≡ (c, g)
    pair {a} {c} {d} {g} p q = λ i. (p i, q i)

-- a block that begins within the open one is the open one
only-block : (m : Method) (first end : ℕ) → Open m first end → end ≤ length m.code → (end ≡ length m.code) ⊎ IsLeader m end → (b : Block) → IsBlock m b → first ≤ b.first → b.first < end → run first end ≡ b
only-block m first end o in' last b x from to =
    let start : b.first ≡ first = elim (two-cases b.first first) [
      | inl l ↦ absurd (omega arith)
      | inr e ↦ elim e [ inl e ↦ e | inr l ↦ absurd (o.none b.first l to x.leader) ]
    ] in
    same-block first end b start (elim (two-cases (suc b.last) end) [
      | inl l ↦ elim x.ends [
        | inl e ↦ absurd (omega arith)
        | inr k ↦ absurd (o.none (suc b.last) (omega (arith, x.ordered)) l k)
      ]
      | inr e ↦ elim e [
        | inl e ↦ e
        | inr l ↦ elim last [
          | inl q ↦ absurd (omega (arith, x.inside))
          | inr q ↦ absurd (x.straight end (omega arith) (omega arith) q)
        ]
      ]
    ])

-- the blocks that are cut are those of the method that begin no earlier
sound : (m : Method) (first i : ℕ) (flags : List Bool) → Open m first i → Tells m i flags → (b : Block) → Contains (blocks_from first i flags) b → IsBlock m b × (first ≤ b.first)
sound m first i [] o t b h = elim (contains-cons (run first i) [] b h) [
  | inl e ↦ subst (λ (x : Block). IsBlock m x × (first ≤ x.first)) e (is-block m first i o (omega (arith, t.size)) (inl (omega (arith, t.size))), omega arith)
  | inr q ↦ absurd (let lt : q.0 < 0 = q.1 in omega arith)
]
sound m first i (true ∷ flags) o t b h = elim (contains-cons (run first i) (blocks_from i (i + 1) flags) b h) [
  | inl e ↦ subst (λ (x : Block). IsBlock m x × (first ≤ x.first)) e (is-block m first i o (omega (arith, t.size)) (inr (here-leader m i flags t)), omega arith)
  | inr q ↦ (let r : IsBlock m b × (i ≤ b.first) = sound m i (i + 1) flags (fresh m i flags t) (tells-rest m i true flags t) b q in (r.0, omega (arith, r.1, o.below)))
]
sound m first i (false ∷ flags) o t b h = sound m first (i + 1) flags (grown m first i flags o t) (tells-rest m i false flags t) b h

complete : (m : Method) (first i : ℕ) (flags : List Bool) → Open m first i → Tells m i flags → (b : Block) → IsBlock m b → first ≤ b.first → Contains (blocks_from first i flags) b
complete m first i [] o t b x from =
    (0, omega arith, only-block m first i o (omega (arith, t.size)) (inl (omega (arith, t.size))) b x from (omega (arith, t.size, x.inside, x.ordered)))
complete m first i (true ∷ flags) o t b x from = elim (two-cases b.first i) [
  | inl l ↦ (0, omega arith, only-block m first i o (omega (arith, t.size)) (inr (here-leader m i flags t)) b x from l)
  | inr g ↦ cons-contains (run first i) _ b (complete m i (i + 1) flags (fresh m i flags t) (tells-rest m i true flags t) b x (elim g [ inl e ↦ omega arith | inr l ↦ omega arith ]))
]
complete m first i (false ∷ flags) o t b x from = complete m first (i + 1) flags (grown m first i flags o t) (tells-rest m i false flags t) b x from

-- a relation to all that a list contains
all-from : (P : Block → Type 0) (bs : List Block) → ((b : Block) → Contains bs b → P b) → All P bs
all-from P bs each k d lt = each _ (k, lt, in-any bs k d _ lt)
  where
    in-any : (bs : List Block) (k : ℕ) (d e : Block) → k < length bs → slice_index_or bs k e ≡ slice_index_or bs k d
    in-any [] k d e lt = absurd (omega arith)
    in-any (b ∷ bs) zero d e lt = refl
    in-any (b ∷ bs) (suc k) d e lt = in-any bs k d e (omega arith)

sorted : (m : Method) (first i : ℕ) (flags : List Bool) → Open m first i → Tells m i flags → AllPairs (λ a b. a.last < b.first) (blocks_from first i flags)
sorted m first i [] o t = AllPairs-cons (λ (a b : Block). a.last < b.first) (run first i) [] (λ k d lt. absurd (omega arith)) (λ k j d lt h. absurd (omega arith))
sorted m first i (true ∷ flags) o t =
    AllPairs-cons (λ (a b : Block). a.last < b.first) (run first i) (blocks_from i (i + 1) flags)
    (all-from (λ b. i - 1 < b.first) _ (λ b h. let r : IsBlock m b × (i ≤ b.first) = sound m i (i + 1) flags (fresh m i flags t) (tells-rest m i true flags t) b h in omega (arith, r.1, o.below)))
    (sorted m i (i + 1) flags (fresh m i flags t) (tells-rest m i true flags t))
sorted m first i (false ∷ flags) o t = sorted m first (i + 1) flags (grown m first i flags o t) (tells-rest m i false flags t)

-- the flags of a method after all marking
abbrev pub marked : Method → List Bool
marked m = with_handlers m.handlers (with_code 0 m.code (replicate (length m.code) false))

has-replicate : (n j : ℕ) → has (replicate n false) j ≡ false
has-replicate zero j = refl
has-replicate (suc n) zero = refl
has-replicate (suc n) (suc j) = has-replicate n j

all-code-adds : (m : Method) → StaysInside m → Adds (replicate (length m.code) false) (with_code 0 m.code (replicate (length m.code) false)) (CodeAsks 0 m.code)
all-code-adds m inside = code-adds 0 m.code (replicate (length m.code) false) (subst (λ (n : ℕ). All (λ (x : Instr). All (λ p. p < n) x.next) m.code) (sym (length-replicate (length m.code) false)) inside.next)

all-handlers-add : (m : Method) → StaysInside m → Adds (with_code 0 m.code (replicate (length m.code) false)) (marked m) (LedTo m.handlers)
all-handlers-add m inside =
    handlers-add m.handlers (with_code 0 m.code (replicate (length m.code) false)) (subst (λ (n : ℕ). All (λ (h : Handler). h.target < n) m.handlers) (sym ((all-code-adds m inside).size ∙ length-replicate (length m.code) false)) inside.handlers)

marked-length : (m : Method) → StaysInside m → length (marked m) ≡ length m.code
marked-length m inside = (all-handlers-add m inside).size ∙ ((all-code-adds m inside).size ∙ length-replicate (length m.code) false)

asked-leader : (m : Method) (k : ℕ) (x : Instr) (j : ℕ) → slice_get m.code k ≡ Some x → Asks (0 + k) x j → IsLeader m j
asked-leader m k x j at (inl (inl (b, c))) = branched k x at b c
asked-leader m k x j at (inl (inr (b, e))) = subst (λ (n : ℕ). IsLeader m n) (let q : k ≡ j = omega arith in q) (initializes x at b)
asked-leader m k x j at (inr (b, e)) = follows k x at b (omega arith)

marked-sound : (m : Method) → StaysInside m → (j : ℕ) → has (marked m) j ≡ true → IsLeader m j
marked-sound m inside j h = elim ((all-handlers-add m inside).only j h) [
  | inl o ↦ elim ((all-code-adds m inside).only j o) [
    | inl z ↦ (let q : has (replicate (length m.code) false) j ≡ false = has-replicate (length m.code) j in cc)
    | inr c ↦ asked-leader m c.0 c.1 j c.2 c.3
  ]
  | inr l ↦ handles l.0 l.1 l.2 l.3
]

marked-complete : (m : Method) → StaysInside m → (j : ℕ) → 0 < j → j < length m.code → IsLeader m j → has (marked m) j ≡ true
marked-complete m inside j pos lt begins = absurd (omega arith)
marked-complete m inside j pos lt (branched i x at b c) =
    (all-handlers-add m inside).kept j ((all-code-adds m inside).added j (omega (arith, length-replicate (length m.code) false)) (i, x, at, inl (inl (b, c))))
marked-complete m inside j pos lt (initializes x at b) =
    (all-handlers-add m inside).kept j ((all-code-adds m inside).added j (omega (arith, length-replicate (length m.code) false)) (j, x, at, inl (inr (b, omega arith))))
marked-complete m inside j pos lt (handles k h at e) =
    (all-handlers-add m inside).added j (omega (arith, (all-code-adds m inside).size, length-replicate (length m.code) false)) (k, h, at, e)
marked-complete m inside j pos lt (follows i x at b e) =
    (all-handlers-add m inside).kept j ((all-code-adds m inside).added j (omega (arith, length-replicate (length m.code) false)) (i, x, at, inr (b, omega arith)))

-- flags after the first
tells-from-one : (m : Method) → StaysInside m → (b : Bool) (flags : List Bool) → marked m ≡ b ∷ flags → Tells m 1 flags
tells-from-one m inside b flags e = record {
  size = sym (marked-length m inside) ∙ (ap length e ∙ omega arith);
  sound = λ k lt h. subst (λ (n : ℕ). IsLeader m n) (omega arith) (marked-sound m inside (suc k) (subst (λ (fs : List Bool). has fs (suc k) ≡ true) (sym e) h));
  complete = λ k lt l. subst (λ (fs : List Bool). has fs (suc k) ≡ true) e (marked-complete m inside (suc k) (omega arith) (omega (arith, marked-length m inside, ap length e)) (subst (λ (n : ℕ). IsLeader m n) (omega arith) l));
}

-- what is cut is the blocks
pub are-blocks : (m : Method) → StaysInside m → (flags : List Bool) → marked m ≡ flags → AreBlocks m (blocks_after flags)
are-blocks m inside [] e = record {
  exact = λ b. (λ h. absurd (let lt : h.0 < 0 = h.1 in omega arith), λ x. absurd (omega (arith, marked-length m inside, ap length e, x.inside)));
  sorted = λ i j d lt h. absurd (omega arith);
}
are-blocks m inside (b ∷ flags) e =
    let o : Open m 0 1 = record { below = omega arith; leader = begins; none = λ j lo hi l. absurd (omega arith) } in
    let t : Tells m 1 flags = tells-from-one m inside b flags e in
    record {
      exact = λ x. (λ h. (sound m 0 1 flags o t x h).0, λ y. complete m 0 1 flags o t x y (omega arith));
      sorted = sorted m 0 1 flags o t;
    }
