-- What comes after a store stays so through each change of it.
use Rattle.std.proofs.Common.{◌≡◌, ℕ, zero, suc, ◌<◌, ◌≤◌, ◌⊎◌, ⊎_elim, inl, inr, List, [], ◌∷◌, ◌++◌, length, Contains, refl, sym, ◌∙◌, ap, subst, append_assoc, append-nil, get_or, arith}
use Rattle.std.specs.Prelude.{Some, None, slice_get, slice_set}
use Rattle.std.proofs.lemmas.List.Elements.{Contains-push, Contains-append_left, Contains-append_right}
use Rattle.std.proofs.lemmas.Option.{none-some, same_Some, slice_get_within, slice_get_cases}
use Rattle.ja_ir.specs.declared.program.Parts.{Parts}
use Rattle.ja_machine.specs.declared.heap.Object.{Object}
use Rattle.ja_machine.specs.State.{Store}
use Rattle.ja_machine.specs.Objects.{new_object}
use Rattle.ja_machine.specs.Laws.{BeginsWith, Becomes, IsStill, IsLater}
use Rattle.ja_machine.proofs.Kept.{IsKept}

pub begins-after : {X : Type 0} (a b c : List X) → BeginsWith a b → BeginsWith b c → BeginsWith a c
begins-after {X} a b c x y = (x.0 ++ y.0, y.1 ∙ (ap (λ (l : List X). l ++ y.0) x.1 ∙ append_assoc a x.0 y.0))

pub becomes-itself : (o : Object) → Becomes o o
becomes-itself o = record { token = refl; fields = refl; mark = λ c h. h; bag = ([], sym (append-nil o.bag)) }

pub becomes-after : (a b c : Object) → Becomes a b → Becomes b c → Becomes a c
becomes-after a b c x y = record {
  token = y.token ∙ x.token;
  fields = y.fields ∙ x.fields;
  mark = λ c h. y.mark c (x.mark c h);
  bag = begins-after a.bag b.bag c.bag x.bag y.bag;
}

-- what stands in a list stands in a longer one
pub get-longer : {X : Type 0} (xs : List X) (y : X) (k : ℕ) (x : X) → slice_get xs k ≡ Some x → slice_get (xs ++ y ∷ []) k ≡ Some x
get-longer [] y k x e = absurd (none-some x e)
get-longer (z ∷ xs) y zero x e = e
get-longer (z ∷ xs) y (suc k) x e = get-longer xs y k x e

-- an item that was set where one was
pub get-set : {X : Type 0} (xs : List X) (k : ℕ) (x y : X) → slice_get xs k ≡ Some x → slice_get (slice_set xs k y) k ≡ Some y
get-set [] k x y e = absurd (none-some x e)
get-set (z ∷ xs) zero x y e = refl
get-set (z ∷ xs) (suc k) x y e = get-set xs k x y e

-- two places are one or not
pub same-or-not : (j k : ℕ) → (j ≡ k) ⊎ (j ≡ k → ⊥)
same-or-not zero zero = inl refl
same-or-not zero (suc k) = inr (λ e. omega (arith, e))
same-or-not (suc j) zero = inr (λ e. omega (arith, e))
same-or-not (suc j) (suc k) = ⊎_elim (λ e. inl (ap suc e)) (λ n. inr (λ e. n (omega (arith, e)))) (same-or-not j k)

-- the other items stay
pub get-others : {X : Type 0} (xs : List X) (k j : ℕ) (y : X) → (j ≡ k → ⊥) → slice_get (slice_set xs k y) j ≡ slice_get xs j
get-others [] k j y n = refl
get-others (z ∷ xs) zero zero y n = absurd (n refl)
get-others (z ∷ xs) zero (suc j) y n = refl
get-others (z ∷ xs) (suc k) zero y n = refl
get-others (z ∷ xs) (suc k) (suc j) y n = get-others xs k j y (λ e. n (ap suc e))

-- a store comes after itself
pub later-itself : (w : Store) → IsLater w w
later-itself w = record {
  objects = λ r o e. record { new = o; found = e; became = becomes-itself o };
  writes = [];
  written = sym (append-nil w.written);
  unwritten = λ r o n e. e;
  sets = [];
  set = sym (append-nil w.set);
  unset = λ k n. refl;
  events = ([], sym (append-nil w.events));
}

-- an object is still there when another one is made
still-made : (heap : List Object) (n : Object) (r : ℕ) (o : Object) → IsStill heap r o → IsStill (heap ++ n ∷ []) r o
still-made heap n r o s = record { new = s.new; found = get-longer heap n r s.new s.found; became = s.became }

-- an object is still there when one was written
still-written : (heap : List Object) (k : ℕ) (a b : Object) → slice_get heap k ≡ Some a → Becomes a b → (r : ℕ) (o : Object) → IsStill heap r o → IsStill (slice_set heap k b) r o
still-written heap k a b e c r o s = ⊎_elim here there (same-or-not r k)
  where
    here : r ≡ k → IsStill (slice_set heap k b) r o
    here q = record {
      new = b;
      found = subst (λ (i : ℕ). slice_get (slice_set heap k b) i ≡ Some b) (sym q) (get-set heap k a b e);
      became = becomes-after o a b (subst (λ (x : Object). Becomes o x) (same_Some s.new a (sym s.found ∙ (ap (slice_get heap) q ∙ e))) s.became) c;
    }

    there : (r ≡ k → ⊥) → IsStill (slice_set heap k b) r o
    there n = record { new = s.new; found = get-others heap k r b n ∙ s.found; became = s.became }

pushed-after : (a b : List ℕ) (all : List ℕ) (k : ℕ) → all ≡ a ++ b → all ++ k ∷ [] ≡ a ++ (b ++ k ∷ [])
pushed-after a b all k e = ap (λ (l : List ℕ). l ++ k ∷ []) e ∙ append_assoc a b (k ∷ [])

-- what is not in a longer list is not in the shorter, and is not the last
not-before : (b : List ℕ) (k r : ℕ) → (Contains (b ++ k ∷ []) r → ⊥) → Contains b r → ⊥
not-before b k r n c = n (Contains-append_left b (k ∷ []) r c)

not-last : (b : List ℕ) (k r : ℕ) → (Contains (b ++ k ∷ []) r → ⊥) → r ≡ k → ⊥
not-last b k r n e = n (subst (λ (i : ℕ). Contains (b ++ k ∷ []) i) (sym e) (Contains-push b k))

-- what comes after a store is kept by each change
pub later-kept : (p : Parts) (b : Store) → IsKept p (IsLater b)
later-kept p b = record {
  made = λ t m bag w h. record {
    objects = λ r o e. still-made w.heap (new_object p t m bag) r o (h.objects r o e);
    writes = h.writes;
    written = h.written;
    unwritten = λ r o n e. get-longer w.heap (new_object p t m bag) r o (h.unwritten r o n e);
    sets = h.sets;
    set = h.set;
    unset = h.unset;
    events = h.events;
  };
  wrote = λ k x n w e c h. record {
    objects = λ r o q. still-written w.heap k x n e c r o (h.objects r o q);
    writes = h.writes ++ k ∷ [];
    written = pushed-after b.written h.writes w.written k h.written;
    unwritten = λ r o m q. get-others w.heap k r n (not-last h.writes k r m) ∙ h.unwritten r o (not-before h.writes k r m) q;
    sets = h.sets;
    set = h.set;
    unset = h.unset;
    events = h.events;
  };
  assigned = λ k v w h. record {
    objects = h.objects;
    writes = h.writes;
    written = h.written;
    unwritten = h.unwritten;
    sets = h.sets ++ k ∷ [];
    set = pushed-after b.set h.sets w.set k h.set;
    unset = λ j m. get-others w.statics k j v (not-last h.sets k j m) ∙ h.unset j (not-before h.sets k j m);
    events = h.events;
  };
  told = λ es w h. record {
    objects = h.objects;
    writes = h.writes;
    written = h.written;
    unwritten = h.unwritten;
    sets = h.sets;
    set = h.set;
    unset = h.unset;
    events = begins-after b.events w.events (w.events ++ es) h.events (es, refl);
  };
}

-- what is not on the whole record is not on its new part
out-of-part : (a b all : List ℕ) (k : ℕ) → all ≡ a ++ b → (Contains all k → ⊥) → Contains b k → ⊥
out-of-part a b all k e n c = n (subst (λ (l : List ℕ). Contains l k) (sym e) (Contains-append_right a b k c))

pub later-unwritten : (b w : Store) (r : ℕ) (o : Object) → IsLater b w → (Contains w.written r → ⊥) → slice_get b.heap r ≡ Some o → slice_get w.heap r ≡ Some o
later-unwritten b w r o h n e = h.unwritten r o (out-of-part b.written h.writes w.written r h.written n) e

pub later-unset : (b w : Store) (k : ℕ) → IsLater b w → (Contains w.set k → ⊥) → slice_get w.statics k ≡ slice_get b.statics k
later-unset b w k h n = h.unset k (out-of-part b.set h.sets w.set k h.set n)

-- a list is no longer than another that has an item wherever it has one
no-longer : {X Y : Type 0} (xs : List X) (ys : List Y) → ((k : ℕ) (x : X) → slice_get xs k ≡ Some x → k < length ys) → length xs ≤ length ys
no-longer [] ys each = omega arith
no-longer (x ∷ xs) ys each = last (slice_get_cases (x ∷ xs) (length xs)).1
  where
    last : ((y : _) × (length xs < length (x ∷ xs)) × (slice_get (x ∷ xs) (length xs) ≡ Some y) × (get_or (x ∷ xs) (length xs) y ≡ y)) ⊎ ((length (x ∷ xs) ≤ length xs) × (slice_get (x ∷ xs) (length xs) ≡ None)) → length (x ∷ xs) ≤ length ys
    last (inl q) = omega (arith, each (length xs) q.0 q.2)
    last (inr q) = absurd (omega (arith, q.0))

pub later-size : (b w : Store) → IsLater b w → length b.heap ≤ length w.heap
later-size b w h = no-longer b.heap w.heap (λ k o e. slice_get_within w.heap k (h.objects k o e).new (h.objects k o e).found)

pub later-objects : (b w : Store) (r : ℕ) (n : Object) → IsLater b w → slice_get w.heap r ≡ Some n → (length b.heap ≤ r) ⊎ ((o : Object) × (slice_get b.heap r ≡ Some o) × Becomes o n)
later-objects b w r n h e = by (slice_get_cases b.heap r).1
  where
    by : ((o : Object) × (r < length b.heap) × (slice_get b.heap r ≡ Some o) × (get_or b.heap r o ≡ o)) ⊎ ((length b.heap ≤ r) × (slice_get b.heap r ≡ None)) → (length b.heap ≤ r) ⊎ ((o : Object) × (slice_get b.heap r ≡ Some o) × Becomes o n)
    by (inr q) = inl q.0
    by (inl q) = inr (q.0, q.2, subst (λ (x : Object). Becomes q.0 x) (same_Some (h.objects r q.0 q.2).new n (sym (h.objects r q.0 q.2).found ∙ e)) (h.objects r q.0 q.2).became)
