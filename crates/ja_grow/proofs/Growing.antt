-- What holds of the parts of a node that is copied, and of the copies.
use Rattle.std.proofs.Common.{◌≡◌, ◌⊎◌, ℕ, suc, ◌+◌, ◌<◌, ◌≤◌, Bool, true, false, List, [], ◌∷◌, ◌++◌, length, get_or, refl, sym, ap, ◌∙◌, subst, inl, inr, ⊎_elim, arith, length-append}
use Rattle.std.specs.Prelude.{Some, slice_get}
use Rattle.std.proofs.lemmas.Option.{slice_get_within, get_or_from_slice_get, slice_get-get_or}
use Rattle.std.proofs.Math.ListN.{get_or-append}
use Rattle.std.proofs.Math.Seq.{get_or-append_seam}
use native.Mathlib.Decide.{ℕ_discrete, dec_lt}
use Rattle.ja_node_core.specs.Tree.{Tree}
use Rattle.ja_node_core.specs.Node.{Words, Knows, constant}
use Rattle.ja_node_core.specs.declared.word.Node.{Node}
use Rattle.ja_bdd.specs.Functions.{Function, fixed, IsFrom, IsAimed}
use Rattle.ja_bdd.specs.Meaning.{meaning, IsMeant, Keeps, IsHalved}
use Rattle.ja_bdd.specs.Inner.{depth}
use Rattle.ja_bdd.proofs.Named.{Falls}
use Rattle.ja_bdd.proofs.Sound.{Sound, knows_constant, meaning_constant, meaning_small}
use Rattle.ja_bdd.proofs.Joining.{IsCut, cut_function, later, chosen_is, AreMade}
use Rattle.ja_bdd.proofs.Forgetting.{nearer}
use Rattle.ja_bdd.proofs.Down.{IsBelow}
use Rattle.ja_grow.specs.Inner.{AreCopies}

module _ (aim : Tree → Type 0) (falls : Falls aim) (k : Words) (sound : Sound k) (n v lo hi : ℕ) (x : Knows k n) (half : IsHalved k v n lo hi) (small : v ≤ 4094) (deep : 4096 ≤ v + depth k n) (aimed : IsAimed aim (meaning k n)) where
  pub whole : IsCut aim v (meaning k n)
  whole = cut_function aim falls v (meaning k n) (meaning_small k sound n x) half.from aimed

  below : (b : Bool) (c : ℕ) → IsMeant k c (fixed v b (meaning k n)) → IsAimed aim (fixed v b (meaning k n)) → (l : Words) → l ≡ k → IsBelow aim k l (λ φ. φ) n c v b
  below b c is part l same = subst (λ (w : Words). IsBelow aim k w (λ φ. φ) n c v b) (sym same) record {
    known = is.0;
    aimed = subst (IsAimed aim) (sym is.1) part;
    near = nearer k k sound v n c small deep is.0 (later k v b c (meaning k n) half.from is);
    is = is.1;
  }

  -- both parts are to be copied too, in a seat that knows the same
  pub below_low : (l : Words) → l ≡ k → IsBelow aim k l (λ φ. φ) n lo v false
  below_low = below false lo half.low whole.low

  pub below_high : (l : Words) → l ≡ k → IsBelow aim k l (λ φ. φ) n hi v true
  below_high = below true hi half.high whole.high

-- what is meant stays meant
pub meant_kept : (old new : Words) → Keeps old new → (n : ℕ) (φ : Function) → IsMeant old n φ → IsMeant new n φ
meant_kept old new keeps n φ is = let more = keeps n is.0 in (more.0, more.1 ∙ is.1)

-- a node may be made of the copies of its parts
pub made_of : (aim : Tree → Type 0) (new : Words) (v low high : ℕ) (φ : Function) → IsFrom v φ → IsAimed aim φ → IsMeant new low (fixed v false φ) → IsMeant new high (fixed v true φ) → AreMade aim new v low high φ
made_of aim new v low high φ from aimed l h = record {
  known = (l.0, h.0);
  later = (later new v false low φ from l, later new v true high φ from h);
  aimed = subst (IsAimed aim) (sym (chosen_is new v low high φ l h)) aimed;
  is = chosen_is new v low high φ l h;
}

-- copies stay right as the worker learns more
pub copies_kept : (old new new' : Words) (copies : List Node) → Keeps new new' → AreCopies old new copies → AreCopies old new' copies
copies_kept old new new' copies keeps right i m at pos x = meant_kept new new' keeps m.number (meaning old i) (right i m at pos x)

-- copies of one seat's nodes are those of a seat that knows the same
pub copies_same : (old old' new : Words) (copies : List Node) → old' ≡ old → AreCopies old new copies → AreCopies old' new copies
copies_same old old' new copies same = subst (λ (w : Words). AreCopies w new copies) (sym same)

-- one copy more
pub copies_more : (old new : Words) (copies copies' : List Node) (n : ℕ) (copy : Node) → AreCopies old new copies → IsMeant new copy.number (meaning old n)
    → ((i : ℕ) (m : Node) → slice_get copies' i ≡ Some m → (slice_get copies i ≡ Some m) ⊎ ((i ≡ n) × (m ≡ copy))) → AreCopies old new copies'
copies_more old new copies copies' n copy right is kept i m at pos x = ⊎_elim (λ before. right i m before pos x) (λ here. subst (λ (p : ℕ × Node). IsMeant new p.1.number (meaning old p.0)) (λ t. (sym here.0 t, sym here.1 t)) is) (kept i m at)

-- the item at a place of a list with one more
pub pushed_at : {X : Type 0} (xs : List X) (last x : X) (i : ℕ) → slice_get (xs ++ last ∷ []) i ≡ Some x → (slice_get xs i ≡ Some x) ⊎ ((i ≡ length xs) × (x ≡ last))
pushed_at xs last x i at = by_place (dec_lt i (length xs))
  where
    is : get_or (xs ++ last ∷ []) i x ≡ x
    is = get_or_from_slice_get (xs ++ last ∷ []) i x x at

    by_place : Dec (i < length xs) → (slice_get xs i ≡ Some x) ⊎ ((i ≡ length xs) × (x ≡ last))
    by_place (yes lt) = inl (slice_get-get_or xs i x lt ∙ ap Some (sym (get_or-append xs (last ∷ []) x i lt) ∙ is))
    by_place (no not) =
        let within = slice_get_within (xs ++ last ∷ []) i x at in
        let here : i ≡ length xs = omega (arith, length-append xs (last ∷ [])) in
        inr (here, sym is ∙ ap (λ j. get_or (xs ++ last ∷ []) j x) here ∙ get_or-append_seam xs last [] x)

-- what is kept twice is kept
pub keeps_chain : (old new new' : Words) → Keeps old new → Keeps new new' → Keeps old new'
keeps_chain old new new' first second n x = meant_kept new new' second n (meaning old n) (first n x)

-- a constant means the same everywhere
pub constant_meant : (k l : Words) → Sound k → Sound l → (n : ℕ) → n < 2 → IsMeant l n (meaning k n)
constant_meant k l sound sound' n small = by_number (ℕ_discrete n 0)
  where
    here : (b : Bool) → n ≡ constant b → IsMeant l n (meaning k n)
    here b e = subst (λ (m : ℕ). IsMeant l m (meaning k m)) (sym e) (knows_constant l b, meaning_constant l sound' b ∙ sym (meaning_constant k sound b))

    by_number : Dec (n ≡ 0) → IsMeant l n (meaning k n)
    by_number (yes e) = here false e
    by_number (no ne) = let one : n ≡ 1 = omega arith in here true one

-- one root more, of which a node was made
pub grown_more : (old old' new new' : Words) (roots grown grown' : List Node) (index : ℕ) (root copy : Node) → old' ≡ old → Keeps new new' → grown' ≡ grown ++ copy ∷ [] → length grown ≡ index → slice_get roots index ≡ Some root
    → IsMeant new' copy.number (meaning old' root.number) → ((i : ℕ) (n m : Node) → slice_get roots i ≡ Some n → slice_get grown i ≡ Some m → IsMeant new m.number (meaning old n.number))
    → (i : ℕ) (n m : Node) → slice_get roots i ≡ Some n → slice_get grown' i ≡ Some m → IsMeant new' m.number (meaning old n.number)
grown_more old old' new new' roots grown grown' index root copy same keeps pushed long at is before i n m at_n at_m =
    ⊎_elim
    (λ earlier. meant_kept new new' keeps m.number (meaning old n.number) (before i n m at_n earlier))
    (λ here.
    let last : i ≡ index = here.0 ∙ long in
    let one : Some n ≡ Some root = sym at_n ∙ ap (slice_get roots) last ∙ at in
    let own : root ≡ n = cc one in
    subst (λ (p : Node × Node × Words). IsMeant new' p.0.number (meaning p.2 p.1.number)) (λ t. (sym here.1 t, own t, same t)) is)
    (pushed_at grown copy m i (sym (ap (λ (xs : List Node). slice_get xs i) pushed) ∙ at_m))
