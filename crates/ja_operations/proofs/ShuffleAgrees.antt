-- Shuffles agree with how words are moved.
use Rattle.std.proofs.Common.{◌≡◌, ℕ, ◌-◌, ◌<◌, ◌≤◌, inl, inr, Bool, true, false, ◌&&◌, List, [], ◌∷◌, ◌++◌, length, map, get_or, drop, Option, Some, None, refl, sym, ap, subst, ◌∙◌, arith, length-append}
use Rattle.std.specs.Prelude.{All, unwrap_or, nat_lt, ◌==◌, if◌then◌else◌}
use Rattle.std.specs.List.{find, list_all, AllPass}
use Rattle.std.proofs.lemmas.List.Sums.{AllPass-from_list_all}
use Rattle.std.proofs.lemmas.List.{length-map, length-drop, length-take}
use Rattle.std.proofs.lemmas.Bool.{and_parts, cases_Bool}
use Rattle.std.proofs.lemmas.Bool.Decides.{Decides-eqb, Decides-ltb}
use Rattle.ja_base.specs.declared.java_type.Kind.{Kind}
use Rattle.ja_base.specs.Kind.{words_of}
use Rattle.ja_code.specs.declared.behaviour.Rearrangement.{Rearrangement}
use Rattle.ja_code.specs.declared.behaviour.Rearrangement.TheVariants.{Pop, Pop2, Dup, DupX1, DupX2, Dup2, Dup2X1, Dup2X2, Swap}
use Rattle.ja_kinds.specs.declared.state.KindState.{KindState}
use Rattle.ja_kinds.specs.declared.frame.Frame.{Frame}
use Rattle.ja_kinds.specs.declared.effect.Effect.TheVariants.{Moves}
use Rattle.ja_code.specs.Behaviour.{Move, moves_of}
use Rattle.ja_kinds.specs.Frame.{top, under}
use Rattle.ja_kinds.specs.Effect.{IsOneOf, rearranged, with_stack, turned}
use Rattle.ja_kinds.specs.Moving.{IsFitting, picked, stack_after, IsMovedTo}
use Rattle.ja_operations.specs.Shuffles.{have_words, takes_from, no_move, first_move, move_after, shuffle_of}
use Rattle.ja_operations.specs.Agreement.{Agrees}

-- ---- moves that fit

fitting_words : (ks : List Kind) (ws : List ℕ) → have_words ks ws ≡ true → map words_of ks ≡ ws
fitting_words [] [] e = refl
fitting_words [] (w ∷ ws) e = absurd (cc e)
fitting_words (k ∷ ks) [] e = absurd (cc e)
fitting_words (k ∷ ks) (w ∷ ws) e =
    let parts : ((words_of k == w) ≡ true) × (have_words ks ws ≡ true) = and_parts (words_of k == w) (have_words ks ws) e in
    let first : words_of k ≡ w = (Decides-eqb (words_of k) w).0 parts.0 in
    let rest : map words_of ks ≡ ws = fitting_words ks ws parts.1 in
    cc

both : (a b : Bool) → a ≡ true → b ≡ true → (a && b) ≡ true
both true b e f = f
both false b e f = absurd (cc e)

words_fitting : (ks : List Kind) (ws : List ℕ) → map words_of ks ≡ ws → have_words ks ws ≡ true
words_fitting [] [] e = refl
words_fitting [] (w ∷ ws) e = absurd (cc e)
words_fitting (k ∷ ks) [] e = absurd (cc e)
words_fitting (k ∷ ks) (w ∷ ws) e =
    let first : words_of k ≡ w = cc e in
    let rest : map words_of ks ≡ ws = cc e in
    both (words_of k == w) (have_words ks ws) ((Decides-eqb (words_of k) w).1 first) (words_fitting ks ws rest)

-- the first move that fits, where one does
record Found (moves : List Move) (stack : List Kind) : Type 0 where
  m : Move
  member : IsOneOf m moves
  takes : takes_from stack m ≡ true
  is : first_move stack moves ≡ m

found_here : (stack : List Kind) (m : Move) (moves : List Move) → takes_from stack m ≡ true → Found (m ∷ moves) stack
found_here stack m moves fits = record { m = m; member = inl refl; takes = fits; is = taken (takes_from stack m) fits }
  where
    taken : (b : Bool) → b ≡ true → unwrap_or (if b then Some m else find (takes_from stack) moves) no_move ≡ m
    taken true e = refl
    taken false e = absurd (cc e)

found_next : (stack : List Kind) (m : Move) (moves : List Move) → takes_from stack m ≡ false → Found moves stack → Found (m ∷ moves) stack
found_next stack m moves unfit f = record {
  m = f.m;
  member = inr f.member;
  takes = f.takes;
  is = skipped (takes_from stack m) unfit ∙ f.is;
}
  where
    skipped : (b : Bool) → b ≡ false → unwrap_or (if b then Some m else find (takes_from stack) moves) no_move ≡ first_move stack moves
    skipped true e = absurd (cc e)
    skipped false e = refl

find_first : (stack : List Kind) (moves : List Move) (m : Move) → IsOneOf m moves → takes_from stack m ≡ true → Found moves stack
find_first stack [] m member fits = absurd member
find_first stack (n ∷ moves) m member fits =
    elim (cases_Bool (takes_from stack n)) [
      | inl here ↦ found_here stack n moves here
      | inr unfit ↦ found_next stack n moves unfit (elim member [
        | inl same ↦ absurd (let yes : takes_from stack n ≡ true = subst (λ (x : Move). takes_from stack x ≡ true) same fits in cc (yes, unfit))
        | inr other ↦ find_first stack moves m other fits
      ])
    ]

-- ---- what is pushed was taken

abbrev pushes_taken : Move → Bool
pushes_taken m = list_all (λ k. nat_lt k (length m.takes)) m.pushes

all_taken : (how : Rearrangement) → list_all pushes_taken (moves_of how) ≡ true
all_taken Pop = refl
all_taken Pop2 = refl
all_taken Dup = refl
all_taken DupX1 = refl
all_taken DupX2 = refl
all_taken Dup2 = refl
all_taken Dup2X1 = refl
all_taken Dup2X2 = refl
all_taken Swap = refl

member_taken : (moves : List Move) (m : Move) → IsOneOf m moves → list_all pushes_taken moves ≡ true → pushes_taken m ≡ true
member_taken [] m member all = absurd member
member_taken (n ∷ moves) m (inl same) all =
    subst (λ (x : Move). pushes_taken x ≡ true) (sym same) (and_parts (pushes_taken n) (list_all pushes_taken moves) all).0
member_taken (n ∷ moves) m (inr other) all = member_taken moves m other (and_parts (pushes_taken n) (list_all pushes_taken moves) all).1

pushes_below : (how : Rearrangement) (m : Move) → IsOneOf m (moves_of how) → All (λ k. k < length m.takes) m.pushes
pushes_below how m member =
    let each : AllPass (λ k. nat_lt k (length m.takes)) m.pushes =
    AllPass-from_list_all (λ k. nat_lt k (length m.takes)) m.pushes (member_taken (moves_of how) m member (all_taken how)) in
    λ k d inside. (Decides-ltb (get_or m.pushes k d) (length m.takes)).0 (each k d inside)

-- ---- agreement

abbrev pub MovesByOne : Type 0
MovesByOne = (how : Rearrangement) (stack new : List Kind) → rearranged how stack ≡ Some new → IsMovedTo how stack new

abbrev pub FittingMoves : Type 0
FittingMoves = (how : Rearrangement) (m : Move) (stack : List Kind) → IsOneOf m (moves_of how) → IsFitting m stack → rearranged how stack ≡ Some (stack_after m stack)

stack_is : (locals : List Kind) (stack : Option (List Kind)) (g : KindState) → with_stack locals stack ≡ Some g → stack ≡ Some g.stack
stack_is locals None g e = absurd (cc e)
stack_is locals (Some s) g e = let same : record { locals = locals; stack = s } ≡ g = cc e in ap (λ (h : KindState). Some h.stack) same

module _ (moved : MovesByOne) (fitting : FittingMoves) (how : Rearrangement) (f g : KindState) where
  agree_at : (m : Move) → IsOneOf m (moves_of how) → takes_from f.stack m ≡ true → rearranged how f.stack ≡ Some g.stack → Agrees (shuffle_of m) f g
  agree_at m member takes e =
      let n = length m.takes in
      let fits : IsFitting m f.stack = fitting_words (top n f.stack) m.takes takes in
      let same : Some g.stack ≡ Some (stack_after m f.stack) = sym e ∙ fitting how m f.stack member fits in
      let stack : g.stack ≡ under n f.stack ++ picked (top n f.stack) m.pushes = cc same in
      let mapped : length (map words_of (top n f.stack)) ≡ length (top n f.stack) = simp length-map in
      let size : length (map words_of (top n f.stack)) ≡ n = ap (λ (ws : List ℕ). length ws) fits in
      let dropped : length (drop (length f.stack - n) f.stack) ≡ length f.stack - (length f.stack - n) = length-drop (length f.stack - n) f.stack in
      let there : n ≤ length f.stack = omega arith in
      let pushed : length (picked (top n f.stack) m.pushes) ≡ length m.pushes = simp length-map in
      record {
        operands = (there, pushes_below how m member);
        locals = tt;
        height = omega (arith, ap (λ (ks : List Kind). length ks) stack, length-append (under n f.stack) (picked (top n f.stack) m.pushes), length-take (length f.stack - n) f.stack, pushed);
      }

  -- a shuffle agrees with the move of words
  pub shuffle_agrees : (frame : Frame) → turned frame.returns (Moves how) f ≡ Some g → Agrees (shuffle_of (move_after how (Some f))) f g
  shuffle_agrees frame t =
      let e : rearranged how f.stack ≡ Some g.stack = stack_is f.locals (rearranged how f.stack) g t in
      let to : IsMovedTo how f.stack g.stack = moved how f.stack g.stack e in
      let found : Found (moves_of how) f.stack =
      find_first f.stack (moves_of how) to.move to.member (words_fitting (top (length to.move.takes) f.stack) to.move.takes to.fits) in
      subst (λ (m : Move). Agrees (shuffle_of m) f g) (sym found.is) (agree_at found.m found.member found.takes e)
