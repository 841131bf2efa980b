-- The moves of the places of a frame, one after the other.
use Rattle.std.proofs.Common.{◌≡◌, ℕ, suc, ◌+◌, ◌*◌, ◌<◌, ◌≤◌, Bool, true, false, refl, sym, ap, ◌∙◌, subst, arith, List, [], ◌∷◌, ◌++◌, length, get_or}
use Rattle.std.specs.Prelude.{Option, Some, None, slice_get, nat_eq, ◌||◌}
use Rattle.std.specs.List.{All, list_any}
use Rattle.std.proofs.lemmas.List.Elements.{All-push, All-nil, All-weaker}
use Rattle.std.proofs.lemmas.List.Folds.{list_any-append}
use Rattle.std.proofs.lemmas.Option.{slice_get-get_or}
use Rattle.std.proofs.lemmas.Bool.{eq-eqb}
use Rattle.ja_join.specs.declared.rule.Move.{Move}
use Rattle.ja_join.specs.Ascending.{IsToldBefore, IsToldFrom, Precedes, MayFollow}
use Rattle.ja_work.specs.declared.clause.Clause.{Clause}
use Rattle.ja_work.specs.declared.frame.Frame.{Frame}
use Rattle.ja_steps.specs.declared.parts.Part.{Part}
use Rattle.ja_steps.specs.declared.make.Range.{Range}
use Rattle.ja_steps.specs.Inner.{part_of, is_listed, AreMoves, none, moved, kept, part_if, parts_of}

-- each part is of its own place
pub part_place : (frame : Frame) (range : Range) (list : List Clause) (j : ℕ) → (parts_of frame range list j).place ≡ j
part_place frame range list j = by_case (slice_get list j)
  where
    by_case : (o : Option Clause) → (part_if frame range j o).place ≡ j
    by_case None = refl
    by_case (Some clause) = refl

-- the part of a clause that was read
pub part_read : (frame : Frame) (range : Range) (list : List Clause) (j : ℕ) (d : Clause) → j < length list → part_of frame range.first range.count j (get_or list j d) ≡ parts_of frame range list j
part_read frame range list j d lt = sym (ap (part_if frame range j) (slice_get-get_or list j d lt))

-- the moves of the first so many places stand before the next one, and tell of nothing
abbrev pub IsBefore : ℕ → Move → Type 0
IsBefore n m = (m.variable < 4 * n) × (m.told ≡ None)

later_before : (k : ℕ) (moves : List Move) → All (IsBefore k) moves → All (IsBefore (suc k)) moves
later_before k moves all = All-weaker (IsBefore k) (IsBefore (suc k)) (λ x before. (omega (arith, before.0), before.1)) moves all

pub moves_before : (sources : List ℕ) (cases : ℕ) (parts : ℕ → Part) → ((j : ℕ) → (parts j).place ≡ j) → (n : ℕ) (moves : List Move) → AreMoves sources cases parts n moves → All (IsBefore n) moves
moves_before sources cases parts placed _ _ none = All-nil (IsBefore 0)
moves_before sources cases parts placed _ _ (moved {n = k} {moves = rest} m are is) =
    All-push (IsBefore (suc k)) rest m (later_before k rest (moves_before sources cases parts placed k rest are)) (let at = is.variable in let e = placed k in omega (arith, at, e), is.told)
moves_before sources cases parts placed _ _ (kept {n = k} {moves = rest} are is) = later_before k rest (moves_before sources cases parts placed k rest are)

told_none : (a b : Option ℕ) → a ≡ None → IsToldBefore a b
told_none a b e = subst (λ o. IsToldBefore o b) (sym e) tt

-- so the move of the next place may follow
pub may_follow : (n : ℕ) (moves : List Move) (m : Move) → All (IsBefore n) moves → m.variable ≡ 4 * n + 1 → m.variable ≤ 4094 → m.told ≡ None → MayFollow moves m
may_follow n moves m before at small told = record {
  small = small;
  told_small = subst (IsToldFrom 0) (sym told) tt;
  behind = All-weaker (IsBefore n) (λ (x : Move). Precedes x m) (λ x is. (omega (arith, is.0, at), told_none x.told m.told is.1)) moves before;
}

-- what was listed still is, and what is added is
pub listed_more : (sources : List ℕ) (q place : ℕ) → is_listed sources place ≡ true → is_listed (sources ++ q ∷ []) place ≡ true
listed_more sources q place e = list_any-append (λ x. nat_eq x place) sources (q ∷ []) ∙ ap (λ b. b || list_any (λ x. nat_eq x place) (q ∷ [])) e

pub listed_new : (sources : List ℕ) (q : ℕ) → is_listed (sources ++ q ∷ []) q ≡ true
listed_new sources q = list_any-append (λ x. nat_eq x q) sources (q ∷ []) ∙ ap (λ b. list_any (λ x. nat_eq x q) sources || (b || false)) (eq-eqb q q refl) ∙ or_true (list_any (λ x. nat_eq x q) sources)
  where
    or_true : (b : Bool) → (b || true) ≡ true
    or_true true = refl
    or_true false = refl
