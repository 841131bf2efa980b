-- What is noted stays right.
use Rattle.std.proofs.Common.{◌≡◌, ◌≢◌, ℕ, ◌<◌, sym, ap, ◌∙◌, subst, arith, ◌⊎◌, inl, inr, List, length, get_or, set, length-set, get_or-set_same}
use Rattle.std.specs.Prelude.{Some, slice_get, slice_set}
use Rattle.std.proofs.lemmas.List.{get_or-set_other}
use Rattle.std.proofs.lemmas.Option.{slice_get_within, slice_get-get_or, get_or_from_slice_get}
use mathlib.Core.Logic.{dite}
use native.Mathlib.Decide.{ℕ_discrete}
use Rattle.ja_node_core.specs.Node.{Words, Knows}
use Rattle.ja_bdd.specs.Functions.{Function}
use Rattle.ja_bdd.specs.Meaning.{meaning, IsMeant, Keeps}
use Rattle.ja_join.specs.declared.rule.States.{States}
use Rattle.ja_join.specs.declared.rule.Rule.{Rule}
use Rattle.ja_join.specs.declared.memo.Noted.{Noted}
use Rattle.ja_join.specs.declared.memo.Memo.{Memo}
use Rattle.ja_join.specs.Inner.{passed_from, AreRight, HasNoted}

-- what is meant stays meant
pub meant_still : (k l : Words) → Keeps k l → (n : ℕ) (φ : Function) → IsMeant k n φ → IsMeant l n φ
meant_still k l keeps n φ is = let more = keeps n is.0 in (more.0, more.1 ∙ is.1)

pub keeps_chain : (k l m : Words) → Keeps k l → Keeps l m → Keeps k m
keeps_chain k l m first second n x = let once = first n x in let twice = second n once.0 in (twice.0, twice.1 ∙ once.1)

pub right_still : (rule : Rule) (k l : Words) (memo : Memo) → Keeps k l → AreRight rule k memo → AreRight rule l memo
right_still rule k l memo keeps right i e at call =
    let r = right i e at call in
    let more = keeps e.asked.number r.0 in
    let other = keeps e.told.number r.1 in
    let still = meant_still k l keeps e.made.number (passed_from rule e.at e.states (meaning k e.asked.number) (meaning k e.told.number)) r.2 in
    (more.0, other.0, subst (λ (z : Function × Function). IsMeant l e.made.number (passed_from rule e.at e.states z.0 z.1)) (λ i. (sym more.1 i, sym other.1 i)) still)

-- what is found is right
pub found_right : (rule : Rule) (k : Words) (memo : Memo) (at : ℕ) (s : States) (asked told made : ℕ) → AreRight rule k memo → HasNoted memo at s asked told made → IsMeant k made (passed_from rule at s (meaning k asked) (meaning k told))
found_right rule k memo at s asked told made right (i, e, there, call, is_at, is_s, is_asked, is_told, is_made) =
    let r = (right i e there call).2 in
    subst (λ n. IsMeant k n (passed_from rule at s (meaning k asked) (meaning k told))) is_made
    (subst (λ n. IsMeant k e.made.number (passed_from rule at s (meaning k asked) (meaning k n))) is_told
    (subst (λ n. IsMeant k e.made.number (passed_from rule at s (meaning k n) (meaning k e.told.number))) is_asked
    (subst (λ t. IsMeant k e.made.number (passed_from rule at t (meaning k e.asked.number) (meaning k e.told.number))) is_s
    (subst (λ j. IsMeant k e.made.number (passed_from rule j e.states (meaning k e.asked.number) (meaning k e.told.number))) is_at r))))

-- what is at some place once one entry is replaced is that entry, or stood there before
at_set : (es : List Noted) (i : ℕ) (e : Noted) (j : ℕ) (x : Noted) → slice_get (slice_set es i e) j ≡ Some x → (x ≡ e) ⊎ (slice_get es j ≡ Some x)
at_set es i e j x at =
    let lt : j < length es = (let within = slice_get_within (set es i e) j x at in let same = length-set es i e in omega arith) in
    dite (ℕ_discrete j i)
    (λ same. inl (sym (get_or_from_slice_get (set es i e) j x e at) ∙ ap (λ n. get_or (set es i e) n e) same ∙ get_or-set_same es i e e (subst (λ n. n < length es) same lt)))
    (λ ne. inr (slice_get-get_or es j x lt ∙ ap Some (sym (get_or-set_other es i j e x ne) ∙ get_or_from_slice_get (set es i e) j x x at)))

-- the answer that is noted is right
abbrev pub IsRight : Rule → Words → Noted → Type 0
IsRight rule k e = Knows k e.asked.number × Knows k e.told.number × IsMeant k e.made.number (passed_from rule e.at e.states (meaning k e.asked.number) (meaning k e.told.number))

-- what holds of all that is noted of a call, and of one more answer, holds of all once that is noted
pub all_noted : (P : Noted → Type 0) (memo memo' : Memo) (e : Noted) → ((j : ℕ) (x : Noted) → slice_get memo.entries.items j ≡ Some x → x.call ≡ memo.call → P x) → P e → memo'.call ≡ memo.call
    → (memo' ≡ memo) ⊎ ((i : ℕ) × (memo'.entries.items ≡ slice_set memo.entries.items i e)) → (j : ℕ) (x : Noted) → slice_get memo'.entries.items j ≡ Some x → x.call ≡ memo'.call → P x
all_noted P memo memo' e all is call (inl same) j x at own = all j x (ap (λ (m : Memo). slice_get m.entries.items j) (sym same) ∙ at) (own ∙ call)
all_noted P memo memo' e all is call (inr (i, same)) j x at own = by_place (at_set memo.entries.items i e j x (ap (λ es. slice_get es j) (sym same) ∙ at))
  where
    by_place : (x ≡ e) ⊎ (slice_get memo.entries.items j ≡ Some x) → P x
    by_place (inl new) = subst P (sym new) is
    by_place (inr old) = all j x old (own ∙ call)

-- a right answer is noted
pub right_noted : (rule : Rule) (k : Words) (memo memo' : Memo) (e : Noted) → AreRight rule k memo → IsRight rule k e → memo'.call ≡ memo.call
    → (memo' ≡ memo) ⊎ ((i : ℕ) × (memo'.entries.items ≡ slice_set memo.entries.items i e)) → AreRight rule k memo'
right_noted rule k memo memo' e right is call kept = all_noted (IsRight rule k) memo memo' e right is call kept

-- in a call in which nothing was noted, what is noted is right
pub right_none : (rule : Rule) (k : Words) (memo : Memo) → ((i : ℕ) (e : Noted) → slice_get memo.entries.items i ≡ Some e → e.call ≢ memo.call) → AreRight rule k memo
right_none rule k memo none i e at call = absurd (none i e at call)
