-- Words are moved in blocks, as the moves of an instruction say.
use Rattle.std.proofs.Common.{◌≡◌, ℕ, zero, suc, ◌-◌, inl, inr, List, [], ◌∷◌, ◌++◌, length, map, take, drop, Option, Some, None, refl, ap, sym, subst, ◌∙◌, append_assoc, arith, if◌then◌else◌}
use Rattle.std.specs.Prelude.{◌==◌}
use Rattle.std.proofs.lemmas.List.{append-nil, length-append}
use Rattle.ja_base.specs.Kind.{words_of}
use Rattle.ja_base.specs.declared.java_type.Kind.{Kind}
use Rattle.ja_base.specs.declared.java_type.Kind.TheVariants.{P1, P2, R, T}
use Rattle.ja_code.specs.declared.behaviour.Rearrangement.{Rearrangement}
use Rattle.ja_code.specs.declared.behaviour.Rearrangement.TheVariants.{Pop, Pop2, Dup, DupX1, DupX2, Dup2, Dup2X1, Dup2X2, Swap}
use Rattle.ja_code.specs.Behaviour.{Move, move, moves_of}
use Rattle.ja_kinds.specs.Frame.{words, top, under}
use Rattle.ja_kinds.specs.Effect.{IsOneOf, top_words, under_words, moved, block, rearranged_by, rearranged_under, rearranged}
use Rattle.ja_kinds.specs.Moving.{picked, IsFitting, stack_after, IsMovedTo}

-- ---- the values on top, and those under them

drop_front : (low high : List Kind) → drop (length low) (low ++ high) ≡ high
drop_front [] high = refl
drop_front (k ∷ ks) high = drop_front ks high

take_front : (low high : List Kind) → take (length low) (low ++ high) ≡ low
take_front [] high = refl
take_front (k ∷ ks) high = ap (λ (ls : List Kind). k ∷ ls) (take_front ks high)

rest_length : (n : ℕ) (low high : List Kind) → length high ≡ n → length (low ++ high) - n ≡ length low
rest_length n low high e = omega (arith, length-append low high, e)

top_is : (n : ℕ) (low high : List Kind) → length high ≡ n → top n (low ++ high) ≡ high
top_is n low high e = ap (λ (k : ℕ). drop k (low ++ high)) (rest_length n low high e) ∙ drop_front low high

under_is : (n : ℕ) (low high : List Kind) → length high ≡ n → under n (low ++ high) ≡ low
under_is n low high e = ap (λ (k : ℕ). take k (low ++ high)) (rest_length n low high e) ∙ take_front low high

take_drop : (n : ℕ) (ks : List Kind) → take n ks ++ drop n ks ≡ ks
take_drop zero ks = refl
take_drop (suc n) [] = refl
take_drop (suc n) (k ∷ ks) = ap (λ (ls : List Kind). k ∷ ls) (take_drop n ks)

-- ---- blocks

-- so many words, without splitting a value
pub data IsBlock : ℕ → List Kind → Type 0 where
  nothing : IsBlock 0 []
  single : {x : Kind} → words_of x ≡ 1 → IsBlock 1 (x ∷ [])
  double : {x : Kind} → words_of x ≡ 2 → IsBlock 2 (x ∷ [])
  pair : {x y : Kind} → words_of x ≡ 1 → words_of y ≡ 1 → IsBlock 2 (x ∷ y ∷ [])

-- a stack ends in none, one, or more values
data Ends : List Kind → Type 0 where
  none : Ends []
  one : (x : Kind) → Ends (x ∷ [])
  more : (low : List Kind) (x y : Kind) → Ends (low ++ x ∷ y ∷ [])

ends : (ks : List Kind) → Ends ks
ends [] = none
ends (k ∷ []) = one k
ends (k ∷ l ∷ ks) = further k (ends (l ∷ ks))
  where
    further : {ls : List Kind} (k : Kind) → Ends ls → Ends (k ∷ ls)
    further k none = one k
    further k (one x) = more [] k x
    further k (more low x y) = more (k ∷ low) x y

-- which block it is, by the words of none, of one and of two values on top
abbrev choose : (count a b c : ℕ) → Option ℕ
choose count a b c = if a == count then Some 0 else if b == count then Some 1 else if c == count then Some 2 else None

block_more : (count : ℕ) (low : List Kind) (x y : Kind) → block count (low ++ x ∷ y ∷ []) ≡ choose count 0 (words (y ∷ [])) (words (x ∷ y ∷ []))
block_more count low x y =
    let s : List Kind = low ++ x ∷ y ∷ [] in
    let two : top 2 s ≡ x ∷ y ∷ [] = top_is 2 low (x ∷ y ∷ []) refl in
    let split : (low ++ x ∷ []) ++ y ∷ [] ≡ s = append_assoc low (x ∷ []) (y ∷ []) in
    let one_top : top 1 s ≡ y ∷ [] = ap (top 1) (sym split) ∙ top_is 1 (low ++ x ∷ []) (y ∷ []) refl in
    let no_top : top 0 s ≡ [] = drop_all s in
    ap (λ (ks : List Kind). choose count (words ks) (words (top 1 s)) (words (top 2 s))) no_top
    ∙ (ap (λ (ks : List Kind). choose count 0 (words ks) (words (top 2 s))) one_top
    ∙ ap (λ (ks : List Kind). choose count 0 (words (y ∷ [])) (words ks)) two)
  where
    drop_all : (ks : List Kind) → top 0 ks ≡ []
    drop_all ks = all_gone (length ks - 0) ks (omega arith)
      where
        all_gone : (n : ℕ) (ks : List Kind) → n ≡ length ks → drop n ks ≡ []
        all_gone zero [] e = refl
        all_gone zero (k ∷ ks) e = absurd (omega arith)
        all_gone (suc n) [] e = refl
        all_gone (suc n) (k ∷ ks) e = all_gone n ks (omega arith)

-- what a block is
pub record Blocked (count : ℕ) (stack : List Kind) (k : ℕ) : Type 0 where
  pub low : List Kind
  pub high : List Kind
  pub is : stack ≡ low ++ high
  pub size : length high ≡ k
  pub shape : IsBlock count high

one_value : (count k : ℕ) (low : List Kind) (x : Kind) → IsBlock count (x ∷ []) → Some 1 ≡ Some k → Blocked count (low ++ x ∷ []) k
one_value count k low x b e = record { low = low; high = x ∷ []; is = refl; size = cc; shape = b }

one_above : (count k : ℕ) (low : List Kind) (x y : Kind) → IsBlock count (y ∷ []) → Some 1 ≡ Some k → Blocked count (low ++ x ∷ y ∷ []) k
one_above count k low x y b e = record { low = low ++ x ∷ []; high = y ∷ []; is = sym (append_assoc low (x ∷ []) (y ∷ [])); size = cc; shape = b }

zero_block : (stack : List Kind) (k : ℕ) → block 0 stack ≡ Some k → Blocked 0 stack k
zero_block stack k e = by (ends stack) e
  where
    empty : (stack : List Kind) (k : ℕ) → Some 0 ≡ Some k → Blocked 0 stack k
    empty stack k e = record { low = stack; high = []; is = sym (append-nil stack); size = cc; shape = nothing }

    by : {ks : List Kind} → Ends ks → block 0 ks ≡ Some k → Blocked 0 ks k
    by none e = empty [] k e
    by (one x) e = empty (x ∷ []) k e
    by (more low x y) e = empty (low ++ x ∷ y ∷ []) k (sym (block_more 0 low x y) ∙ e)

one_block : (stack : List Kind) (k : ℕ) → block 1 stack ≡ Some k → Blocked 1 stack k
one_block stack k e = by (ends stack) e
  where
    by_kinds : (low : List Kind) (x y : Kind) → choose 1 0 (words (y ∷ [])) (words (x ∷ y ∷ [])) ≡ Some k → Blocked 1 (low ++ x ∷ y ∷ []) k
    by_kinds low x P1 e = one_above 1 k low x P1 (single refl) e
    by_kinds low x R e = one_above 1 k low x R (single refl) e
    by_kinds low x T e = one_above 1 k low x T (single refl) e
    by_kinds low P1 P2 e = absurd cc
    by_kinds low P2 P2 e = absurd cc
    by_kinds low R P2 e = absurd cc
    by_kinds low T P2 e = absurd cc

    by : {ks : List Kind} → Ends ks → block 1 ks ≡ Some k → Blocked 1 ks k
    by none e = absurd cc
    by (one P1) e = one_value 1 k [] P1 (single refl) e
    by (one R) e = one_value 1 k [] R (single refl) e
    by (one T) e = one_value 1 k [] T (single refl) e
    by (one P2) e = absurd cc
    by (more low x y) e = by_kinds low x y (sym (block_more 1 low x y) ∙ e)

two_block : (stack : List Kind) (k : ℕ) → block 2 stack ≡ Some k → Blocked 2 stack k
two_block stack k e = by (ends stack) e
  where
    both : (low : List Kind) (x y : Kind) → words_of x ≡ 1 → words_of y ≡ 1 → Some 2 ≡ Some k → Blocked 2 (low ++ x ∷ y ∷ []) k
    both low x y p q e = record { low = low; high = x ∷ y ∷ []; is = refl; size = cc; shape = pair p q }

    by_kinds : (low : List Kind) (x y : Kind) → choose 2 0 (words (y ∷ [])) (words (x ∷ y ∷ [])) ≡ Some k → Blocked 2 (low ++ x ∷ y ∷ []) k
    by_kinds low x P2 e = one_above 2 k low x P2 (double refl) e
    by_kinds low P1 P1 e = both low P1 P1 refl refl e
    by_kinds low P1 R e = both low P1 R refl refl e
    by_kinds low P1 T e = both low P1 T refl refl e
    by_kinds low R P1 e = both low R P1 refl refl e
    by_kinds low R R e = both low R R refl refl e
    by_kinds low R T e = both low R T refl refl e
    by_kinds low T P1 e = both low T P1 refl refl e
    by_kinds low T R e = both low T R refl refl e
    by_kinds low T T e = both low T T refl refl e
    by_kinds low P2 P1 e = absurd cc
    by_kinds low P2 R e = absurd cc
    by_kinds low P2 T e = absurd cc

    by : {ks : List Kind} → Ends ks → block 2 ks ≡ Some k → Blocked 2 ks k
    by none e = absurd cc
    by (one P1) e = absurd cc
    by (one R) e = absurd cc
    by (one T) e = absurd cc
    by (one P2) e = one_value 2 k [] P2 (double refl) e
    by (more low x y) e = by_kinds low x y (sym (block_more 2 low x y) ∙ e)

top_block : (how : Rearrangement) (stack : List Kind) (k : ℕ) → block (top_words how) stack ≡ Some k → Blocked (top_words how) stack k
top_block Pop stack k e = one_block stack k e
top_block Pop2 stack k e = two_block stack k e
top_block Dup stack k e = one_block stack k e
top_block DupX1 stack k e = one_block stack k e
top_block DupX2 stack k e = one_block stack k e
top_block Dup2 stack k e = two_block stack k e
top_block Dup2X1 stack k e = two_block stack k e
top_block Dup2X2 stack k e = two_block stack k e
top_block Swap stack k e = one_block stack k e

under_block : (how : Rearrangement) (stack : List Kind) (k : ℕ) → block (under_words how) stack ≡ Some k → Blocked (under_words how) stack k
under_block Pop stack k e = zero_block stack k e
under_block Pop2 stack k e = zero_block stack k e
under_block Dup stack k e = zero_block stack k e
under_block DupX1 stack k e = one_block stack k e
under_block DupX2 stack k e = two_block stack k e
under_block Dup2 stack k e = zero_block stack k e
under_block Dup2X1 stack k e = one_block stack k e
under_block Dup2X2 stack k e = two_block stack k e
under_block Swap stack k e = one_block stack k e

-- ---- two blocks

-- the stack has two blocks on top, and they are moved
pub record IsRearranged (how : Rearrangement) (stack new : List Kind) : Type 0 where
  low : List Kind
  middle : List Kind
  high : List Kind
  is : stack ≡ low ++ (middle ++ high)
  middle_block : IsBlock (under_words how) middle
  high_block : IsBlock (top_words how) high
  new_is : new ≡ low ++ moved how middle high

pub in_blocks : (how : Rearrangement) (stack new : List Kind) → rearranged how stack ≡ Some new → IsRearranged how stack new
in_blocks how stack new e = by (block (top_words how) stack) refl e
  where
    by_lower : (upper : ℕ) (b : Blocked (top_words how) stack upper) (o : Option ℕ) → block (under_words how) (under upper stack) ≡ o
        → rearranged_by how stack upper o ≡ Some new → IsRearranged how stack new
    by_lower upper b None at e = absurd cc
    by_lower upper b (Some lower) at e =
        let rest : under upper stack ≡ b.low = ap (under upper) b.is ∙ under_is upper b.low b.high b.size in
        let above : top upper stack ≡ b.high = ap (top upper) b.is ∙ top_is upper b.low b.high b.size in
        let c : Blocked (under_words how) b.low lower = under_block how b.low lower (sym (ap (block (under_words how)) rest) ∙ at) in
        let low_is : under lower (under upper stack) ≡ c.low = ap (under lower) (rest ∙ c.is) ∙ under_is lower c.low c.high c.size in
        let middle_is : top lower (under upper stack) ≡ c.high = ap (top lower) (rest ∙ c.is) ∙ top_is lower c.low c.high c.size in
        let made : under lower (under upper stack) ++ moved how (top lower (under upper stack)) (top upper stack) ≡ new = cc in
        record {
          low = c.low;
          middle = c.high;
          high = b.high;
          is = b.is ∙ (ap (λ (ks : List Kind). ks ++ b.high) c.is ∙ append_assoc c.low c.high b.high);
          middle_block = c.shape;
          high_block = b.shape;
          new_is = sym made ∙ (ap (λ (ks : List Kind). ks ++ moved how (top lower (under upper stack)) (top upper stack)) low_is
              ∙ (ap (λ (ks : List Kind). c.low ++ moved how ks (top upper stack)) middle_is ∙ ap (λ (ks : List Kind). c.low ++ moved how c.high ks) above));
        }

    by : (o : Option ℕ) → block (top_words how) stack ≡ o → rearranged_under how stack o ≡ Some new → IsRearranged how stack new
    by None at e = absurd cc
    by (Some upper) at e = by_lower upper (top_block how stack upper at) (block (under_words how) (under upper stack)) refl e

-- ---- from blocks to a move

-- a move does to two blocks what the instruction does
record IsMove (how : Rearrangement) (middle high : List Kind) : Type 0 where
  move : Move
  member : IsOneOf move (moves_of how)
  takes : map words_of (middle ++ high) ≡ move.takes
  pushes : picked (middle ++ high) move.pushes ≡ moved how middle high

the_move : (how : Rearrangement) (middle high : List Kind) → IsBlock (under_words how) middle → IsBlock (top_words how) high → IsMove how middle high
the_move Pop middle high nothing (single p) = record { move = move (1 ∷ []) []; member = inl refl; takes = cc; pushes = refl }
the_move Pop2 middle high nothing (pair p q) = record { move = move (1 ∷ 1 ∷ []) []; member = inl refl; takes = cc; pushes = refl }
the_move Pop2 middle high nothing (double p) = record { move = move (2 ∷ []) []; member = inr (inl refl); takes = cc; pushes = refl }
the_move Dup middle high nothing (single p) = record { move = move (1 ∷ []) (0 ∷ 0 ∷ []); member = inl refl; takes = cc; pushes = refl }
the_move DupX1 middle high (single a) (single p) = record { move = move (1 ∷ 1 ∷ []) (1 ∷ 0 ∷ 1 ∷ []); member = inl refl; takes = cc; pushes = refl }
the_move DupX2 middle high (pair a b) (single p) =
    record { move = move (1 ∷ 1 ∷ 1 ∷ []) (2 ∷ 0 ∷ 1 ∷ 2 ∷ []); member = inl refl; takes = cc; pushes = refl }
the_move DupX2 middle high (double a) (single p) = record { move = move (2 ∷ 1 ∷ []) (1 ∷ 0 ∷ 1 ∷ []); member = inr (inl refl); takes = cc; pushes = refl }
the_move Dup2 middle high nothing (pair p q) = record { move = move (1 ∷ 1 ∷ []) (0 ∷ 1 ∷ 0 ∷ 1 ∷ []); member = inl refl; takes = cc; pushes = refl }
the_move Dup2 middle high nothing (double p) = record { move = move (2 ∷ []) (0 ∷ 0 ∷ []); member = inr (inl refl); takes = cc; pushes = refl }
the_move Dup2X1 middle high (single a) (pair p q) =
    record { move = move (1 ∷ 1 ∷ 1 ∷ []) (1 ∷ 2 ∷ 0 ∷ 1 ∷ 2 ∷ []); member = inl refl; takes = cc; pushes = refl }
the_move Dup2X1 middle high (single a) (double p) = record { move = move (1 ∷ 2 ∷ []) (1 ∷ 0 ∷ 1 ∷ []); member = inr (inl refl); takes = cc; pushes = refl }
the_move Dup2X2 middle high (pair a b) (pair p q) =
    record { move = move (1 ∷ 1 ∷ 1 ∷ 1 ∷ []) (2 ∷ 3 ∷ 0 ∷ 1 ∷ 2 ∷ 3 ∷ []); member = inl refl; takes = cc; pushes = refl }
the_move Dup2X2 middle high (pair a b) (double p) =
    record { move = move (1 ∷ 1 ∷ 2 ∷ []) (2 ∷ 0 ∷ 1 ∷ 2 ∷ []); member = inr (inl refl); takes = cc; pushes = refl }
the_move Dup2X2 middle high (double a) (pair p q) =
    record { move = move (2 ∷ 1 ∷ 1 ∷ []) (1 ∷ 2 ∷ 0 ∷ 1 ∷ 2 ∷ []); member = inr (inr (inl refl)); takes = cc; pushes = refl }
the_move Dup2X2 middle high (double a) (double p) =
    record { move = move (2 ∷ 2 ∷ []) (1 ∷ 0 ∷ 1 ∷ []); member = inr (inr (inr (inl refl))); takes = cc; pushes = refl }
the_move Swap middle high (single a) (single p) = record { move = move (1 ∷ 1 ∷ []) (1 ∷ 0 ∷ []); member = inl refl; takes = cc; pushes = refl }

mapped_length : (ks : List Kind) → length (map words_of ks) ≡ length ks
mapped_length [] = refl
mapped_length (k ∷ ks) = ap suc (mapped_length ks)

-- what words are moved to, one of the moves does
pub moved_by_one : (how : Rearrangement) (stack new : List Kind) → rearranged how stack ≡ Some new → IsMovedTo how stack new
moved_by_one how stack new e =
    let r : IsRearranged how stack new = in_blocks how stack new e in
    let m : IsMove how r.middle r.high = the_move how r.middle r.high r.middle_block r.high_block in
    let n : ℕ = length m.move.takes in
    let size : length (r.middle ++ r.high) ≡ n = sym (mapped_length (r.middle ++ r.high)) ∙ ap (λ (ws : List ℕ). length ws) m.takes in
    let above : top n stack ≡ r.middle ++ r.high = ap (top n) r.is ∙ top_is n r.low (r.middle ++ r.high) size in
    let below : under n stack ≡ r.low = ap (under n) r.is ∙ under_is n r.low (r.middle ++ r.high) size in
    record {
      move = m.move;
      member = m.member;
      fits = ap (map words_of) above ∙ m.takes;
      new_is = r.new_is ∙ (ap (λ (ks : List Kind). r.low ++ ks) (sym m.pushes)
          ∙ (ap (λ (ks : List Kind). ks ++ picked (r.middle ++ r.high) m.move.pushes) (sym below)
          ∙ ap (λ (ks : List Kind). under n stack ++ picked ks m.move.pushes) (sym above)));
    }

-- ---- from a move to blocks

-- the block is found
block_high : (count : ℕ) (low high : List Kind) → IsBlock count high → block count (low ++ high) ≡ Some (length high)
block_high count low high b = by (ends low) b
  where
    gone : (ks : List Kind) → block 0 ks ≡ Some 0
    gone ks = at (ends ks)
      where
        at : {ks : List Kind} → Ends ks → block 0 ks ≡ Some 0
        at none = refl
        at (one x) = refl
        at (more low x y) = block_more 0 low x y

    single_kind : (x y : Kind) → words_of y ≡ 1 → choose 1 0 (words (y ∷ [])) (words (x ∷ y ∷ [])) ≡ Some 1
    single_kind x P1 e = refl
    single_kind x R e = refl
    single_kind x T e = refl
    single_kind x P2 e = absurd cc

    single_alone : (y : Kind) → words_of y ≡ 1 → block 1 (y ∷ []) ≡ Some 1
    single_alone P1 e = refl
    single_alone R e = refl
    single_alone T e = refl
    single_alone P2 e = absurd cc

    double_kind : (x y : Kind) → words_of y ≡ 2 → choose 2 0 (words (y ∷ [])) (words (x ∷ y ∷ [])) ≡ Some 1
    double_kind x P2 e = refl
    double_kind x P1 e = absurd cc
    double_kind x R e = absurd cc
    double_kind x T e = absurd cc

    double_alone : (y : Kind) → words_of y ≡ 2 → block 2 (y ∷ []) ≡ Some 1
    double_alone P2 e = refl
    double_alone P1 e = absurd cc
    double_alone R e = absurd cc
    double_alone T e = absurd cc

    pair_kind : (x y : Kind) → words_of x ≡ 1 → words_of y ≡ 1 → choose 2 0 (words (y ∷ [])) (words (x ∷ y ∷ [])) ≡ Some 2
    pair_kind P1 P1 p q = refl
    pair_kind P1 R p q = refl
    pair_kind P1 T p q = refl
    pair_kind R P1 p q = refl
    pair_kind R R p q = refl
    pair_kind R T p q = refl
    pair_kind T P1 p q = refl
    pair_kind T R p q = refl
    pair_kind T T p q = refl
    pair_kind P2 y p q = absurd cc
    pair_kind x P2 p q = absurd cc

    above : (count : ℕ) (ks : List Kind) (x y : Kind) → block count ((ks ++ x ∷ []) ++ y ∷ []) ≡ choose count 0 (words (y ∷ [])) (words (x ∷ y ∷ []))
    above count ks x y = ap (block count) (append_assoc ks (x ∷ []) (y ∷ [])) ∙ block_more count ks x y

    split : (ks : List Kind) (x y z : Kind) → (ks ++ x ∷ y ∷ []) ++ z ∷ [] ≡ (ks ++ x ∷ []) ++ y ∷ z ∷ []
    split ks x y z = append_assoc ks (x ∷ y ∷ []) (z ∷ []) ∙ sym (append_assoc ks (x ∷ []) (y ∷ z ∷ []))

    by : {count : ℕ} {low high : List Kind} → Ends low → IsBlock count high → block count (low ++ high) ≡ Some (length high)
    by {low} l nothing = gone (low ++ [])
    by none (single {x} e) = single_alone x e
    by (one w) (single {x} e) = above 1 [] w x ∙ single_kind w x e
    by (more ks v w) (single {x} e) = ap (block 1) (split ks v w x) ∙ (block_more 1 (ks ++ v ∷ []) w x ∙ single_kind w x e)
    by none (double {x} e) = double_alone x e
    by (one w) (double {x} e) = above 2 [] w x ∙ double_kind w x e
    by (more ks v w) (double {x} e) = ap (block 2) (split ks v w x) ∙ (block_more 2 (ks ++ v ∷ []) w x ∙ double_kind w x e)
    by {low} l (pair {x} {y} p q) = block_more 2 low x y ∙ pair_kind x y p q

-- two blocks are moved
blocks_moved : (how : Rearrangement) (low middle high : List Kind) → IsBlock (under_words how) middle → IsBlock (top_words how) high
    → rearranged how (low ++ (middle ++ high)) ≡ Some (low ++ moved how middle high)
blocks_moved how low middle high b c =
    let s : List Kind = (low ++ middle) ++ high in
    let whole : low ++ (middle ++ high) ≡ s = sym (append_assoc low middle high) in
    let upper : block (top_words how) s ≡ Some (length high) = block_high (top_words how) (low ++ middle) high c in
    let rest : under (length high) s ≡ low ++ middle = under_is (length high) (low ++ middle) high refl in
    let above : top (length high) s ≡ high = top_is (length high) (low ++ middle) high refl in
    let lower : block (under_words how) (under (length high) s) ≡ Some (length middle) =
    ap (block (under_words how)) rest ∙ block_high (under_words how) low middle b in
    let low_is : under (length middle) (under (length high) s) ≡ low = ap (under (length middle)) rest ∙ under_is (length middle) low middle refl in
    let middle_is : top (length middle) (under (length high) s) ≡ middle = ap (top (length middle)) rest ∙ top_is (length middle) low middle refl in
    ap (rearranged how) whole ∙ (ap (rearranged_under how s) upper ∙ (ap (rearranged_by how s (length high)) lower
    ∙ (ap (λ (ks : List Kind). Some (ks ++ moved how (top (length middle) (under (length high) s)) (top (length high) s))) low_is
    ∙ (ap (λ (ks : List Kind). Some (low ++ moved how ks (top (length high) s))) middle_is ∙ ap (λ (ks : List Kind). Some (low ++ moved how middle ks)) above))))

-- the values that a move takes are two blocks
record AreBlocks (how : Rearrangement) (taken : List Kind) (pushes : List ℕ) : Type 0 where
  middle : List Kind
  high : List Kind
  is : taken ≡ middle ++ high
  middle_block : IsBlock (under_words how) middle
  high_block : IsBlock (top_words how) high
  pushed : picked taken pushes ≡ moved how middle high

two_blocks : (how : Rearrangement) (m : Move) (taken : List Kind) → IsOneOf m (moves_of how) → map words_of taken ≡ m.takes → AreBlocks how taken m.pushes
two_blocks how m taken member fits = by how m taken member fits
  where
    taken_1 : (how : Rearrangement) (taken : List Kind) (a : ℕ) (pushes : List ℕ) → map words_of taken ≡ a ∷ []
        → ((x : Kind) → words_of x ≡ a → AreBlocks how (x ∷ []) pushes) → AreBlocks how taken pushes
    taken_1 how [] a pushes e f = absurd cc
    taken_1 how (x ∷ []) a pushes e f = let p : words_of x ≡ a = cc in f x p
    taken_1 how (x ∷ y ∷ ks) a pushes e f = absurd cc

    taken_2 : (how : Rearrangement) (taken : List Kind) (a b : ℕ) (pushes : List ℕ) → map words_of taken ≡ a ∷ b ∷ []
        → ((x y : Kind) → words_of x ≡ a → words_of y ≡ b → AreBlocks how (x ∷ y ∷ []) pushes) → AreBlocks how taken pushes
    taken_2 how [] a b pushes e f = absurd cc
    taken_2 how (x ∷ []) a b pushes e f = absurd cc
    taken_2 how (x ∷ y ∷ []) a b pushes e f = let p : words_of x ≡ a = cc in let q : words_of y ≡ b = cc in f x y p q
    taken_2 how (x ∷ y ∷ z ∷ ks) a b pushes e f = absurd cc

    taken_3 : (how : Rearrangement) (taken : List Kind) (a b c : ℕ) (pushes : List ℕ) → map words_of taken ≡ a ∷ b ∷ c ∷ []
        → ((x y z : Kind) → words_of x ≡ a → words_of y ≡ b → words_of z ≡ c → AreBlocks how (x ∷ y ∷ z ∷ []) pushes) → AreBlocks how taken pushes
    taken_3 how [] a b c pushes e f = absurd cc
    taken_3 how (x ∷ []) a b c pushes e f = absurd cc
    taken_3 how (x ∷ y ∷ []) a b c pushes e f = absurd cc
    taken_3 how (x ∷ y ∷ z ∷ []) a b c pushes e f =
        let p : words_of x ≡ a = cc in let q : words_of y ≡ b = cc in let r : words_of z ≡ c = cc in f x y z p q r
    taken_3 how (x ∷ y ∷ z ∷ w ∷ ks) a b c pushes e f = absurd cc

    taken_4 : (how : Rearrangement) (taken : List Kind) (a b c d : ℕ) (pushes : List ℕ) → map words_of taken ≡ a ∷ b ∷ c ∷ d ∷ []
        → ((x y z w : Kind) → words_of x ≡ a → words_of y ≡ b → words_of z ≡ c → words_of w ≡ d → AreBlocks how (x ∷ y ∷ z ∷ w ∷ []) pushes) → AreBlocks how taken pushes
    taken_4 how [] a b c d pushes e f = absurd cc
    taken_4 how (x ∷ []) a b c d pushes e f = absurd cc
    taken_4 how (x ∷ y ∷ []) a b c d pushes e f = absurd cc
    taken_4 how (x ∷ y ∷ z ∷ []) a b c d pushes e f = absurd cc
    taken_4 how (x ∷ y ∷ z ∷ w ∷ []) a b c d pushes e f =
        let p : words_of x ≡ a = cc in let q : words_of y ≡ b = cc in let r : words_of z ≡ c = cc in let s : words_of w ≡ d = cc in f x y z w p q r s
    taken_4 how (x ∷ y ∷ z ∷ w ∷ v ∷ ks) a b c d pushes e f = absurd cc

    blocks : (how : Rearrangement) (middle high : List Kind) (pushes : List ℕ) → IsBlock (under_words how) middle → IsBlock (top_words how) high
        → picked (middle ++ high) pushes ≡ moved how middle high → AreBlocks how (middle ++ high) pushes
    blocks how middle high pushes b c e = record { middle = middle; high = high; is = refl; middle_block = b; high_block = c; pushed = e }

    by : (how : Rearrangement) (m : Move) (taken : List Kind) → IsOneOf m (moves_of how) → map words_of taken ≡ m.takes → AreBlocks how taken m.pushes
    by Pop m taken (inl e) fits =
        subst (λ (k : Move). AreBlocks Pop taken k.pushes) (sym e)
        (taken_1 Pop taken 1 ([]) (fits ∙ ap (λ (k : Move). k.takes) e)
        (λ x p. blocks Pop ([]) (x ∷ []) ([]) nothing (single p) refl))
    by Pop m taken (inr h) fits = absurd h
    by Pop2 m taken (inl e) fits =
        subst (λ (k : Move). AreBlocks Pop2 taken k.pushes) (sym e)
        (taken_2 Pop2 taken 1 1 ([]) (fits ∙ ap (λ (k : Move). k.takes) e)
        (λ x y p q. blocks Pop2 ([]) (x ∷ y ∷ []) ([]) nothing (pair p q) refl))
    by Pop2 m taken (inr (inl e)) fits =
        subst (λ (k : Move). AreBlocks Pop2 taken k.pushes) (sym e)
        (taken_1 Pop2 taken 2 ([]) (fits ∙ ap (λ (k : Move). k.takes) e)
        (λ x p. blocks Pop2 ([]) (x ∷ []) ([]) nothing (double p) refl))
    by Pop2 m taken (inr (inr h)) fits = absurd h
    by Dup m taken (inl e) fits =
        subst (λ (k : Move). AreBlocks Dup taken k.pushes) (sym e)
        (taken_1 Dup taken 1 (0 ∷ 0 ∷ []) (fits ∙ ap (λ (k : Move). k.takes) e)
        (λ x p. blocks Dup ([]) (x ∷ []) (0 ∷ 0 ∷ []) nothing (single p) refl))
    by Dup m taken (inr h) fits = absurd h
    by DupX1 m taken (inl e) fits =
        subst (λ (k : Move). AreBlocks DupX1 taken k.pushes) (sym e)
        (taken_2 DupX1 taken 1 1 (1 ∷ 0 ∷ 1 ∷ []) (fits ∙ ap (λ (k : Move). k.takes) e)
        (λ x y p q. blocks DupX1 (x ∷ []) (y ∷ []) (1 ∷ 0 ∷ 1 ∷ []) (single p) (single q) refl))
    by DupX1 m taken (inr h) fits = absurd h
    by DupX2 m taken (inl e) fits =
        subst (λ (k : Move). AreBlocks DupX2 taken k.pushes) (sym e)
        (taken_3 DupX2 taken 1 1 1 (2 ∷ 0 ∷ 1 ∷ 2 ∷ []) (fits ∙ ap (λ (k : Move). k.takes) e)
        (λ x y z p q r. blocks DupX2 (x ∷ y ∷ []) (z ∷ []) (2 ∷ 0 ∷ 1 ∷ 2 ∷ []) (pair p q) (single r) refl))
    by DupX2 m taken (inr (inl e)) fits =
        subst (λ (k : Move). AreBlocks DupX2 taken k.pushes) (sym e)
        (taken_2 DupX2 taken 2 1 (1 ∷ 0 ∷ 1 ∷ []) (fits ∙ ap (λ (k : Move). k.takes) e)
        (λ x y p q. blocks DupX2 (x ∷ []) (y ∷ []) (1 ∷ 0 ∷ 1 ∷ []) (double p) (single q) refl))
    by DupX2 m taken (inr (inr h)) fits = absurd h
    by Dup2 m taken (inl e) fits =
        subst (λ (k : Move). AreBlocks Dup2 taken k.pushes) (sym e)
        (taken_2 Dup2 taken 1 1 (0 ∷ 1 ∷ 0 ∷ 1 ∷ []) (fits ∙ ap (λ (k : Move). k.takes) e)
        (λ x y p q. blocks Dup2 ([]) (x ∷ y ∷ []) (0 ∷ 1 ∷ 0 ∷ 1 ∷ []) nothing (pair p q) refl))
    by Dup2 m taken (inr (inl e)) fits =
        subst (λ (k : Move). AreBlocks Dup2 taken k.pushes) (sym e)
        (taken_1 Dup2 taken 2 (0 ∷ 0 ∷ []) (fits ∙ ap (λ (k : Move). k.takes) e)
        (λ x p. blocks Dup2 ([]) (x ∷ []) (0 ∷ 0 ∷ []) nothing (double p) refl))
    by Dup2 m taken (inr (inr h)) fits = absurd h
    by Dup2X1 m taken (inl e) fits =
        subst (λ (k : Move). AreBlocks Dup2X1 taken k.pushes) (sym e)
        (taken_3 Dup2X1 taken 1 1 1 (1 ∷ 2 ∷ 0 ∷ 1 ∷ 2 ∷ []) (fits ∙ ap (λ (k : Move). k.takes) e)
        (λ x y z p q r. blocks Dup2X1 (x ∷ []) (y ∷ z ∷ []) (1 ∷ 2 ∷ 0 ∷ 1 ∷ 2 ∷ []) (single p) (pair q r) refl))
    by Dup2X1 m taken (inr (inl e)) fits =
        subst (λ (k : Move). AreBlocks Dup2X1 taken k.pushes) (sym e)
        (taken_2 Dup2X1 taken 1 2 (1 ∷ 0 ∷ 1 ∷ []) (fits ∙ ap (λ (k : Move). k.takes) e)
        (λ x y p q. blocks Dup2X1 (x ∷ []) (y ∷ []) (1 ∷ 0 ∷ 1 ∷ []) (single p) (double q) refl))
    by Dup2X1 m taken (inr (inr h)) fits = absurd h
    by Dup2X2 m taken (inl e) fits =
        subst (λ (k : Move). AreBlocks Dup2X2 taken k.pushes) (sym e)
        (taken_4 Dup2X2 taken 1 1 1 1 (2 ∷ 3 ∷ 0 ∷ 1 ∷ 2 ∷ 3 ∷ []) (fits ∙ ap (λ (k : Move). k.takes) e)
        (λ x y z w p q r s. blocks Dup2X2 (x ∷ y ∷ []) (z ∷ w ∷ []) (2 ∷ 3 ∷ 0 ∷ 1 ∷ 2 ∷ 3 ∷ []) (pair p q) (pair r s) refl))
    by Dup2X2 m taken (inr (inl e)) fits =
        subst (λ (k : Move). AreBlocks Dup2X2 taken k.pushes) (sym e)
        (taken_3 Dup2X2 taken 1 1 2 (2 ∷ 0 ∷ 1 ∷ 2 ∷ []) (fits ∙ ap (λ (k : Move). k.takes) e)
        (λ x y z p q r. blocks Dup2X2 (x ∷ y ∷ []) (z ∷ []) (2 ∷ 0 ∷ 1 ∷ 2 ∷ []) (pair p q) (double r) refl))
    by Dup2X2 m taken (inr (inr (inl e))) fits =
        subst (λ (k : Move). AreBlocks Dup2X2 taken k.pushes) (sym e)
        (taken_3 Dup2X2 taken 2 1 1 (1 ∷ 2 ∷ 0 ∷ 1 ∷ 2 ∷ []) (fits ∙ ap (λ (k : Move). k.takes) e)
        (λ x y z p q r. blocks Dup2X2 (x ∷ []) (y ∷ z ∷ []) (1 ∷ 2 ∷ 0 ∷ 1 ∷ 2 ∷ []) (double p) (pair q r) refl))
    by Dup2X2 m taken (inr (inr (inr (inl e)))) fits =
        subst (λ (k : Move). AreBlocks Dup2X2 taken k.pushes) (sym e)
        (taken_2 Dup2X2 taken 2 2 (1 ∷ 0 ∷ 1 ∷ []) (fits ∙ ap (λ (k : Move). k.takes) e)
        (λ x y p q. blocks Dup2X2 (x ∷ []) (y ∷ []) (1 ∷ 0 ∷ 1 ∷ []) (double p) (double q) refl))
    by Dup2X2 m taken (inr (inr (inr (inr h)))) fits = absurd h
    by Swap m taken (inl e) fits =
        subst (λ (k : Move). AreBlocks Swap taken k.pushes) (sym e)
        (taken_2 Swap taken 1 1 (1 ∷ 0 ∷ []) (fits ∙ ap (λ (k : Move). k.takes) e)
        (λ x y p q. blocks Swap (x ∷ []) (y ∷ []) (1 ∷ 0 ∷ []) (single p) (single q) refl))
    by Swap m taken (inr h) fits = absurd h

-- what a move that fits does, is what the words are moved to
pub one_moves : (how : Rearrangement) (m : Move) (stack : List Kind) → IsOneOf m (moves_of how) → IsFitting m stack
    → rearranged how stack ≡ Some (stack_after m stack)
one_moves how m stack member fits =
    let n : ℕ = length m.takes in
    let b : AreBlocks how (top n stack) m.pushes = two_blocks how m (top n stack) member fits in
    let whole : stack ≡ under n stack ++ (b.middle ++ b.high) =
    sym (take_drop (length stack - n) stack) ∙ ap (λ (ks : List Kind). under n stack ++ ks) b.is in
    ap (rearranged how) whole ∙ (blocks_moved how (under n stack) b.middle b.high b.middle_block b.high_block
    ∙ ap (λ (ks : List Kind). Some (under n stack ++ ks)) (sym b.pushed))
