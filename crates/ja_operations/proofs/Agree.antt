-- Operations agree with the effects of their instructions.
use Rattle.std.proofs.Common.{◌≡◌, ℕ, suc, ◌+◌, ◌-◌, ◌<◌, ◌≤◌, ◌&&◌, Bool, true, false, List, [], ◌∷◌, ◌++◌, length, drop, Option, Some, None, refl, sym, ap, subst, arith, length-append}
use Rattle.std.specs.Prelude.{not, nat_le, if◌then◌else◌}
use Rattle.std.proofs.lemmas.List.{length-drop, length-take}
use Rattle.std.proofs.lemmas.Bool.{and_parts, leb-true}
use Rattle.ja_base.specs.declared.java_type.Kind.{Kind}
use Rattle.ja_base.specs.declared.java_type.Kind.TheVariants.{P1, P2, R, T}
use Rattle.ja_kinds.specs.declared.state.KindState.{KindState}
use Rattle.ja_kinds.specs.declared.frame.Frame.{Frame}
use Rattle.ja_kinds.specs.declared.effect.Effect.{Effect}
use Rattle.ja_kinds.specs.declared.effect.Effect.TheVariants.{Loads, Stores, Counts, Exchanges, Leaves}
use Rattle.ja_base.specs.Kind.{words_of}
use Rattle.ja_kinds.specs.Frame.{same_kind, same_kinds, local_at, top, under, stored}
use Rattle.ja_kinds.specs.Effect.{holds, exchanged, with_stack, turned, is_wrong_depth, may_return, kinds_in}
use Rattle.ja_kinds.specs.Solution.{accepted}

-- lists of the same kinds have one length
same_length : (ks ls : List Kind) → same_kinds ks ls ≡ true → length ks ≡ length ls
same_length [] [] e = refl
same_length [] (l ∷ ls) e = absurd (cc e)
same_length (k ∷ ks) [] e = absurd (cc e)
same_length (k ∷ ks) (l ∷ ls) e = ap suc (same_length ks ls (and_parts (same_kind k l) (same_kinds ks ls) e).1)

-- what an effect is accepted with
pub accepted_turned : (frame : Frame) (effect : Effect) (f g : KindState) → accepted frame effect f ≡ Some g → turned frame.returns effect f ≡ Some g
accepted_turned frame effect f g e = passed (is_wrong_depth frame.max_stack effect f.stack) e
  where
    passed : (b : Bool) → (if b then None else turned frame.returns effect f) ≡ Some g → turned frame.returns effect f ≡ Some g
    passed true h = absurd (cc h)
    passed false h = h

-- from one height to another by values that are taken and pushed
pub record Changes (taken pushed : ℕ) (f g : KindState) : Type 0 where
  pub there : taken ≤ length f.stack
  pub left : (length f.stack - taken) + pushed ≡ length g.stack

exchange_if : (b : Bool) (locals next : List Kind) (g : KindState) → with_stack locals (if b then Some next else None) ≡ Some g → (b ≡ true) × (g ≡ record { locals = locals; stack = next })
exchange_if true locals next g e = let same : record { locals = locals; stack = next } ≡ g = cc e in (refl, sym same)
exchange_if false locals next g e = absurd (cc e)

exchange_changes : (locals taken pushed : List Kind) (f g : KindState) → with_stack locals (exchanged taken pushed f.stack) ≡ Some g → Changes (length taken) (length pushed) f g
exchange_changes locals taken pushed f g e =
    let is : (same_kinds (top (length taken) f.stack) taken ≡ true) × (g ≡ record { locals = locals; stack = under (length taken) f.stack ++ pushed }) =
    exchange_if (same_kinds (top (length taken) f.stack) taken) locals (under (length taken) f.stack ++ pushed) g e in
    let size : length (top (length taken) f.stack) ≡ length taken = same_length (top (length taken) f.stack) taken is.0 in
    let dropped : length (drop (length f.stack - length taken) f.stack) ≡ length f.stack - (length f.stack - length taken) = length-drop (length f.stack - length taken) f.stack in
    let stack : g.stack ≡ under (length taken) f.stack ++ pushed = ap (λ (s : KindState). s.stack) is.1 in
    let there : length taken ≤ length f.stack = omega arith in
    record {
      there = there;
      left = omega (arith, ap length stack, length-append (under (length taken) f.stack) pushed, length-take (length f.stack - length taken) f.stack);
    }

-- ---- by effect

module _ (frame : Frame) (f g : KindState) where
  pub exchanges : (effect : Effect) (taken pushed : List Kind) → turned frame.returns effect f ≡ Some g → effect ≡ Exchanges taken pushed → Changes (length taken) (length pushed) f g
  exchanges effect taken pushed e is =
      exchange_changes f.locals taken pushed f g (subst (λ (x : Effect). turned frame.returns x f ≡ Some g) is e)

  -- a local that is used is there
  pub record Uses (place : ℕ) (taken pushed : ℕ) : Type 0 where
    pub inside : place < length f.locals
    pub changes : Changes taken pushed f g

  place_inside : (kind : Kind) (place size : ℕ) → place + words_of kind ≤ size → place < size
  place_inside P1 place size h = omega (arith, h)
  place_inside P2 place size h = omega (arith, h)
  place_inside R place size h = omega (arith, h)
  place_inside T place size h = omega (arith, h)

  held_inside : (kind : Kind) (place : ℕ) → holds f.locals place kind ≡ true → place < length f.locals
  held_inside kind place h =
      place_inside kind place (length f.locals) (leb-true (place + words_of kind) (length f.locals)
      (and_parts (nat_le (place + words_of kind) (length f.locals)) (same_kind (local_at f.locals place) kind && not (same_kind kind T)) h).0)

  loads_if : (b : Bool) (kind : Kind) → (if b then with_stack f.locals (Some (f.stack ++ kind ∷ [])) else None) ≡ Some g
      → (b ≡ true) × (g ≡ record { locals = f.locals; stack = f.stack ++ kind ∷ [] })
  loads_if true kind e = let same : record { locals = f.locals; stack = f.stack ++ kind ∷ [] } ≡ g = cc e in (refl, sym same)
  loads_if false kind e = absurd (cc e)

  pub loads : (effect : Effect) (kind : Kind) (place : ℕ) → turned frame.returns effect f ≡ Some g → effect ≡ Loads kind place → Uses place 0 1
  loads effect kind place e is =
      let h : (holds f.locals place kind ≡ true) × (g ≡ record { locals = f.locals; stack = f.stack ++ kind ∷ [] }) =
      loads_if (holds f.locals place kind) kind (subst (λ (x : Effect). turned frame.returns x f ≡ Some g) is e) in
      record {
        inside = held_inside kind place h.0;
        changes = record {
          there = omega arith;
          left = omega (arith, ap (λ (s : KindState). length s.stack) h.1, length-append f.stack (kind ∷ []));
        };
      }

  stores_if : (b : Bool) (locals : List Kind) (stack : Option (List Kind)) → (if b then with_stack locals stack else None) ≡ Some g
      → (b ≡ true) × (with_stack locals stack ≡ Some g)
  stores_if true locals stack e = (refl, e)
  stores_if false locals stack e = absurd (cc e)

  pub stores : (effect : Effect) (kind : Kind) (place : ℕ) → turned frame.returns effect f ≡ Some g → effect ≡ Stores kind place → Uses place 1 0
  stores effect kind place e is =
      let h : (nat_le (place + words_of kind) (length f.locals) ≡ true) × (with_stack (stored place kind f.locals) (exchanged (kind ∷ []) [] f.stack) ≡ Some g) =
      stores_if (nat_le (place + words_of kind) (length f.locals)) (stored place kind f.locals) (exchanged (kind ∷ []) [] f.stack)
      (subst (λ (x : Effect). turned frame.returns x f ≡ Some g) is e) in
      record {
        inside = place_inside kind place (length f.locals) (leb-true (place + words_of kind) (length f.locals) h.0);
        changes = exchange_changes (stored place kind f.locals) (kind ∷ []) [] f g h.1;
      }

  counts_if : (b : Bool) → (if b then with_stack f.locals (Some f.stack) else None) ≡ Some g → g ≡ f
  counts_if true e = let same : record { locals = f.locals; stack = f.stack } ≡ g = cc e in sym same
  counts_if false e = absurd (cc e)

  pub counts : (effect : Effect) (place : ℕ) → turned frame.returns effect f ≡ Some g → effect ≡ Counts place → Changes 0 0 f g
  counts effect place e is =
      let h : g ≡ f = counts_if (holds f.locals place P1) (subst (λ (x : Effect). turned frame.returns x f ≡ Some g) is e) in
      record { there = omega arith; left = omega (arith, ap (λ (s : KindState). length s.stack) h) }

  pub leaves : (effect : Effect) (kind : Option Kind) → turned frame.returns effect f ≡ Some g → effect ≡ Leaves kind
      → (may_return frame.returns kind ≡ true) × Changes (length (kinds_in kind)) 0 f g
  leaves effect kind e is =
      let h : (may_return frame.returns kind ≡ true) × (with_stack f.locals (exchanged (kinds_in kind) [] f.stack) ≡ Some g) =
      stores_if (may_return frame.returns kind) f.locals (exchanged (kinds_in kind) [] f.stack) (subst (λ (x : Effect). turned frame.returns x f ≡ Some g) is e) in
      (h.0, exchange_changes f.locals (kinds_in kind) [] f g h.1)
