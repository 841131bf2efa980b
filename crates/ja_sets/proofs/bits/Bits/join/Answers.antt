use Rattle.std.proofs.Common.{◌≡◌, ℕ, ◌∙◌, ◌+◌, ◌/◌, true, false, IsTrue, List, Bool, refl, sym, ap, subst, drop, length}
use Rattle.ja_sets.specs.Sets.{Adds}
use Rattle.ja_sets.specs.InnerWords.{IsTidy, JoinsWords, GainsBits, flags}
use Rattle.ja_sets.proofs.Values.{union-changes}
use Rattle.ja_sets.proofs.Flags.{len-is, joined-tidy, joined-flags, joined-adds, written}
use Rattle.ja_sets.proofs.bits.Bits.join.Goals as goal

-- lists of as many bits are told by words of one length
lens : (xlen ylen : ℕ) (xs ys : List ℕ) (ms ns : List Bool) → flags xlen xs ≡ ms → flags ylen ys ≡ ns → length ms ≡ length ns → ylen ≡ xlen
lens xlen ylen xs ys ms ns ex ey sizes = sym (len-is ylen ys ns ey) ∙ sym sizes ∙ len-is xlen xs ms ex

pub join_words-requires : goal.join_words-requires
join_words-requires c =
    let e : c.other.inside.len ≡ c.self.inside.len = lens c.self.inside.len c.other.inside.len c.self.inside.words.items c.other.inside.words.items c.args.self.now c.args.other.now c.self.view_is c.other.view_is c.requires in
    ap length c.as_mut_slice.ensures.value ∙ c.self.invariant.enough ∙ ap (λ n. (n + 63) / 64) (sym e) ∙ sym c.other.invariant.enough ∙ sym (ap length c.as_slice.ensures.value)

pub invariant_of-self : goal.invariant_of-self
invariant_of-self c =
    let e : c.other.inside.len ≡ c.self.inside.len = lens c.self.inside.len c.other.inside.len c.self.inside.words.items c.other.inside.words.items c.args.self.now c.args.other.now c.self.view_is c.other.view_is c.requires in
    let other : IsTidy c.self.inside.len c.other.inside.words.items = subst (λ (n : ℕ). IsTidy n c.other.inside.words.items) e c.other.invariant in
    let joins : JoinsWords c.self.inside.words.items c.other.inside.words.items c.join_words.new.words = rw (c.as_mut_slice.ensures.value, c.as_slice.ensures.value) at c.join_words.ensures.joined in
    rw (written c.self.inside.words.len c.join_words.new.words (drop (length c.join_words.new.words) c.self.inside.words.items) (joins.same_length ∙ sym c.self.inside.words.ok.0))
    (joined-tidy c.self.inside.len c.self.inside.words.items c.other.inside.words.items c.join_words.new.words c.self.invariant other joins)

pub returns-clause-joined : goal.returns-clause-joined
returns-clause-joined c =
    let e : c.other.inside.len ≡ c.self.inside.len = lens c.self.inside.len c.other.inside.len c.self.inside.words.items c.other.inside.words.items c.args.self.now c.args.other.now c.self.view_is c.other.view_is c.requires in
    let other : IsTidy c.self.inside.len c.other.inside.words.items = subst (λ (n : ℕ). IsTidy n c.other.inside.words.items) e c.other.invariant in
    let view : flags c.self.inside.len c.other.inside.words.items ≡ c.args.other.now = subst (λ (n : ℕ). flags n c.other.inside.words.items ≡ c.args.other.now) e c.other.view_is in
    let joins : JoinsWords c.self.inside.words.items c.other.inside.words.items c.join_words.new.words = rw (c.as_mut_slice.ensures.value, c.as_slice.ensures.value) at c.join_words.ensures.joined in
    ap (flags c.self.inside.len) (written c.self.inside.words.len c.join_words.new.words (drop (length c.join_words.new.words) c.self.inside.words.items) (joins.same_length ∙ sym c.self.inside.words.ok.0))
    ∙ joined-flags c.self.inside.len c.self.inside.words.items c.other.inside.words.items c.join_words.new.words c.args.self.now c.args.other.now c.self.invariant other joins c.self.view_is view

is-true : (r : Bool) → (r ≡ false → ⊥) → IsTrue r
is-true true h = refl
is-true false h = absurd (h refl)

-- a change of the words, and no change of them, told by one truth value
told : (r : Bool) (old others new : List ℕ) (len : ℕ) (xs ys : List Bool) → IsTidy len old → IsTidy len others → JoinsWords old others new → flags len old ≡ xs → flags len others ≡ ys → length xs ≡ length ys → (IsTrue r → GainsBits old new) → (r ≡ false → new ≡ old) → (IsTrue r → Adds ys xs) × (Adds ys xs → IsTrue r)
told r old others new len xs ys to tother joins ex ey sizes gains same = (
  λ t. joined-adds len old others new xs ys to tother (joined-tidy len old others new to tother joins) joins ex ey (gains t),
  λ adds. is-true r (λ f. union-changes xs ys sizes adds (sym (joined-flags len old others new xs ys to tother joins ex ey) ∙ ap (flags len) (same f) ∙ ex)),
)

pub returns-clause-changed : goal.returns-clause-changed
returns-clause-changed c =
    let e : c.other.inside.len ≡ c.self.inside.len = lens c.self.inside.len c.other.inside.len c.self.inside.words.items c.other.inside.words.items c.args.self.now c.args.other.now c.self.view_is c.other.view_is c.requires in
    let other : IsTidy c.self.inside.len c.other.inside.words.items = subst (λ (n : ℕ). IsTidy n c.other.inside.words.items) e c.other.invariant in
    let view : flags c.self.inside.len c.other.inside.words.items ≡ c.args.other.now = subst (λ (n : ℕ). flags n c.other.inside.words.items ≡ c.args.other.now) e c.other.view_is in
    let joins : JoinsWords c.self.inside.words.items c.other.inside.words.items c.join_words.new.words = rw (c.as_mut_slice.ensures.value, c.as_slice.ensures.value) at c.join_words.ensures.joined in
    told c.join_words.result c.self.inside.words.items c.other.inside.words.items c.join_words.new.words c.self.inside.len c.args.self.now c.args.other.now c.self.invariant other joins c.self.view_is view c.requires
    (rw c.as_mut_slice.ensures.value at c.join_words.ensures.changed) (rw c.as_mut_slice.ensures.value at c.join_words.ensures.unchanged)
