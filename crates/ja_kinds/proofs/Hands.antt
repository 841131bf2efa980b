-- A state is handed to places.
use Rattle.std.proofs.Common.{◌≡◌, ℕ, zero, suc, ◌+◌, ◌<◌, ◌≤◌, ◌⊎◌, inl, inr, Bool, true, false, ◌||◌, ◌&&◌, leb, ltb, List, [], ◌∷◌, ◌++◌, length, get_or, take, set, refl, ap, sym, subst, ◌∙◌, arith, if◌then◌else◌}
use Rattle.std.proofs.lemmas.Bool.{and_from, le-leb, lt-ltb}
use Rattle.std.proofs.lemmas.List.{length-set, take_more}
use Rattle.ja_kinds.specs.declared.state.State.{State}
use Rattle.ja_kinds.specs.Frame.{Below}
use Rattle.ja_code.specs.declared.instr.RawInstr.{RawInstr}
use Rattle.ja_code.specs.declared.handler.RawHandler.{RawHandler}
use Rattle.ja_code.specs.declared.behaviour.Behaviour.{Behaviour}
use Rattle.ja_kinds.specs.Effect.{IsOneOf, targets_of}
use Rattle.ja_code.specs.Behaviour.{branches}
use Rattle.ja_kinds.specs.Solution.{HandledAt}
use Rattle.ja_kinds.specs.InnerMerge.{is_below, merge}
use Rattle.ja_kinds.specs.InnerSolving.{state_at, IsWide, AreWide, room_of, room, Catches, Rises, is_marked, Marks, Hands}
use Rattle.ja_kinds.proofs.Order.{is_below_is, below_self, below_trans, merge_left, merge_right, merge_least, merge_wide, merge_falls}

-- ---- one state is changed

at_set : (P : State → Type 0) (ss : List State) (p q : ℕ) (x : State) → (q ≡ p → P x) → P (state_at ss q) → P (state_at (set ss p x) q)
at_set P [] p q x f g = g
at_set P (s ∷ ss) zero zero x f g = f refl
at_set P (s ∷ ss) zero (suc q) x f g = g
at_set P (s ∷ ss) (suc p) zero x f g = g
at_set P (s ∷ ss) (suc p) (suc q) x f g = at_set P ss p q x (λ e. f (ap suc e)) g

set_there : (P : State → Type 0) (ss : List State) (p : ℕ) (x : State) → p < length ss → P x → P (state_at (set ss p x) p)
set_there P [] p x below h = absurd (omega arith)
set_there P (s ∷ ss) zero x below h = h
set_there P (s ∷ ss) (suc p) x below h = set_there P ss p x (omega arith) h

pub wide_at : (count : ℕ) (ss : List State) (p : ℕ) → AreWide count ss → IsWide count (state_at ss p)
wide_at count [] p w = tt
wide_at count (s ∷ ss) zero w = w.0
wide_at count (s ∷ ss) (suc p) w = wide_at count ss p w.1

wide_set : (count : ℕ) (ss : List State) (p : ℕ) (x : State) → AreWide count ss → IsWide count x → AreWide count (set ss p x)
wide_set count [] p x w h = tt
wide_set count (s ∷ ss) zero x w h = (h, w.1)
wide_set count (s ∷ ss) (suc p) x w h = (w.0, wide_set count ss p x w.1 h)

room_set : (count : ℕ) (ss : List State) (p : ℕ) (x : State) → p < length ss → room_of count x < room_of count (state_at ss p) → room count (set ss p x) < room count ss
room_set count [] p x below h = absurd (omega arith)
room_set count (s ∷ ss) zero x below h = omega arith
room_set count (s ∷ ss) (suc p) x below h = omega (arith, room_set count ss p x (omega arith) h)

-- ---- rising

pub rises_not : (count : ℕ) (ss : List State) → AreWide count ss → Rises count ss ss false
rises_not count ss w = record { same_length = refl; wide = w; up = λ p. below_self (state_at ss p); same = λ e. refl; falls = λ e. absurd cc }

falls_both : (count : ℕ) (a b d : List State) (c e : Bool) → Rises count a b c → Rises count b d e → (c || e) ≡ true → room count d < room count a
falls_both count a b d true true p q t = omega (arith, p.falls refl, q.falls refl)
falls_both count a b d true false p q t = omega (arith, p.falls refl, ap (room count) (q.same refl))
falls_both count a b d false true p q t = omega (arith, q.falls refl, ap (room count) (p.same refl))
falls_both count a b d false false p q t = absurd cc

first_false : (c e : Bool) → (c || e) ≡ false → c ≡ false
first_false true e t = t
first_false false e t = refl

second_false : (c e : Bool) → (c || e) ≡ false → e ≡ false
second_false true e t = absurd cc
second_false false e t = t

pub parts_false : (c e : Bool) → (c || e) ≡ false → (c ≡ false) × (e ≡ false)
parts_false c e t = (first_false c e t, second_false c e t)

pub rises_both : (count : ℕ) (a b d : List State) (c e : Bool) → Rises count a b c → Rises count b d e → Rises count a d (c || e)
rises_both count a b d c e p q =
    record {
      same_length = q.same_length ∙ p.same_length;
      wide = q.wide;
      up = λ n. below_trans (state_at a n) (state_at b n) (state_at d n) (p.up n) (q.up n);
      same = λ t. q.same (second_false c e t) ∙ p.same (first_false c e t);
      falls = falls_both count a b d c e p q;
    }

-- ---- marks

pub marks_none : (ss : List State) (ms : List Bool) → Marks ss ss ms ms
marks_none ss ms = record { same_length = refl; kept = λ p e. e; unmarked = λ p e. refl }

pub marks_both : (a b d : List State) (l m n : List Bool) → Marks a b l m → Marks b d m n → Marks a d l n
marks_both a b d l m n p q =
    record {
      same_length = q.same_length ∙ p.same_length;
      kept = λ k e. p.kept k (q.kept k e);
      unmarked = λ k e. q.unmarked k e ∙ p.unmarked k (q.kept k e);
    }

kept_set : (ms : List Bool) (p q : ℕ) → is_marked (set ms p true) q ≡ false → is_marked ms q ≡ false
kept_set [] p q e = e
kept_set (m ∷ ms) zero zero e = absurd cc
kept_set (m ∷ ms) zero (suc q) e = e
kept_set (m ∷ ms) (suc p) zero e = e
kept_set (m ∷ ms) (suc p) (suc q) e = kept_set ms p q e

unmarked_set : (ss : List State) (ms : List Bool) (p q : ℕ) (x : State) → length ms ≡ length ss → is_marked (set ms p true) q ≡ false
    → state_at (set ss p x) q ≡ state_at ss q
unmarked_set [] ms p q x l e = refl
unmarked_set (s ∷ ss) [] p q x l e = absurd (omega arith)
unmarked_set (s ∷ ss) (m ∷ ms) zero zero x l e = absurd cc
unmarked_set (s ∷ ss) (m ∷ ms) zero (suc q) x l e = refl
unmarked_set (s ∷ ss) (m ∷ ms) (suc p) zero x l e = refl
unmarked_set (s ∷ ss) (m ∷ ms) (suc p) (suc q) x l e = unmarked_set ss ms p q x (omega arith) e

marks_set : (ss : List State) (ms : List Bool) (p : ℕ) (x : State) → length ms ≡ length ss → Marks ss (set ss p x) ms (set ms p true)
marks_set ss ms p x l =
    record {
      same_length = length-set ms p true;
      kept = λ q e. kept_set ms p q e;
      unmarked = λ q e. unmarked_set ss ms p q x l e;
    }

-- ---- handing

module _ (count : ℕ) (old : List State) (marks : List Bool) (s : State) (place : ℕ) (wide : AreWide count old) where
  -- no place of the code
  pub hands_beyond : length old ≤ place → Hands count (λ p. p ≡ place) s old old marks marks false
  hands_beyond past =
      record {
        rises = rises_not count old wide;
        marks = marks_none old marks;
        there = λ p e below. absurd (omega (arith, e, below, past));
        within = λ bound w h. w;
      }

  -- what is there already
  pub hands_nothing : is_below s (state_at old place) ≡ true → Hands count (λ p. p ≡ place) s old old marks marks false
  hands_nothing there =
      record {
        rises = rises_not count old wide;
        marks = marks_none old marks;
        there = λ p e below. subst (λ (n : ℕ). Below s (state_at old n)) (sym e) (is_below_is s (state_at old place) there);
        within = λ bound w h. w;
      }

  -- what is merged with what is there
  pub hands_merged : IsWide count s → length marks ≡ length old → place < length old → is_below s (state_at old place) ≡ false
      → Hands count (λ p. p ≡ place) s old (set old place (merge (state_at old place) s)) marks (set marks place true) true
  hands_merged w even below above =
      let t : State = state_at old place in
      let here : IsWide count t = wide_at count old place wide in
      record {
        rises = record {
          same_length = length-set old place (merge t s);
          wide = wide_set count old place (merge t s) wide (merge_wide count t s here w);
          up = λ q. at_set (λ (u : State). Below (state_at old q) u) old place q (merge t s)
              (λ e. subst (λ (n : ℕ). Below (state_at old n) (merge t s)) (sym e) (merge_left t s)) (below_self (state_at old q));
          same = λ e. absurd cc;
          falls = λ e. room_set count old place (merge t s) below (merge_falls count t s above here w);
        };
        marks = marks_set old marks place (merge t s) even;
        there = λ p e inside. subst (λ (n : ℕ). Below s (state_at (set old place (merge t s)) n)) (sym e)
            (set_there (λ (u : State). Below s u) old place (merge t s) below (merge_right t s));
        within = λ bound inner h. λ q. at_set (λ (u : State). Below u (bound q)) old place q (merge t s)
            (λ e. merge_least t s (bound q) (subst (λ (n : ℕ). Below (state_at old n) (bound q)) e (inner q))
            (h q e (subst (λ (n : ℕ). n < length old) (sym e) below)))
            (inner q);
      }

-- one after the other
pub hands_both : (count : ℕ) (P Q W : ℕ → Type 0) (s : State) (a b d : List State) (k l m : List Bool) (c e : Bool)
    → Hands count P s a b k l c → Hands count Q s b d l m e
    → ((n : ℕ) → W n → P n ⊎ Q n) → ((n : ℕ) → P n → W n) → ((n : ℕ) → Q n → W n) → Hands count W s a d k m (c || e)
hands_both count P Q W s a b d k l m c e p q split left right =
    record {
      rises = rises_both count a b d c e p.rises q.rises;
      marks = marks_both a b d k l m p.marks q.marks;
      there = λ n goes below. elim (split n goes) [
        | inl h ↦ below_trans s (state_at b n) (state_at d n) (p.there n h below) (q.rises.up n)
        | inr h ↦ q.there n h (subst (λ (m : ℕ). n < m) (sym p.rises.same_length) below)
      ];
      within = λ bound inner h. q.within bound (p.within bound inner (λ n goes below. h n (left n goes) below))
          (λ n goes below. h n (right n goes) (subst (λ (m : ℕ). n < m) p.rises.same_length below));
    }

-- ---- places in lists

one_of_last : {A : Type 0} (a : A) (xs : List A) (x : A) → IsOneOf a (xs ++ x ∷ []) → IsOneOf a xs ⊎ (a ≡ x)
one_of_last a [] x (inl e) = inr e
one_of_last a [] x (inr h) = absurd h
one_of_last a (y ∷ ys) x (inl e) = inl (inl e)
one_of_last a (y ∷ ys) x (inr h) = elim (one_of_last a ys x h) [ inl k ↦ inl (inr k) | inr e ↦ inr e ]

one_of_first : {A : Type 0} (a : A) (xs : List A) (x : A) → IsOneOf a xs → IsOneOf a (xs ++ x ∷ [])
one_of_first a [] x h = absurd h
one_of_first a (y ∷ ys) x (inl e) = inl e
one_of_first a (y ∷ ys) x (inr h) = inr (one_of_first a ys x h)

one_of_end : {A : Type 0} (xs : List A) (x : A) → IsOneOf x (xs ++ x ∷ [])
one_of_end [] x = inl refl
one_of_end (y ∷ ys) x = inr (one_of_end ys x)

module _ {A : Type 0} (xs : List A) (i : ℕ) (x : A) (below : i < length xs) (is : get_or xs i x ≡ x) where
  more : take (i + 1) xs ≡ take i xs ++ x ∷ []
  more = take_more xs i x below ∙ ap (λ (y : A). take i xs ++ y ∷ []) is

  pub one_of_more : (a : A) → IsOneOf a (take (i + 1) xs) → IsOneOf a (take i xs) ⊎ (a ≡ x)
  one_of_more a h = one_of_last a (take i xs) x (subst (IsOneOf a) more h)

  pub one_of_before : (a : A) → IsOneOf a (take i xs) → IsOneOf a (take (i + 1) xs)
  one_of_before a h = subst (IsOneOf a) (sym more) (one_of_first a (take i xs) x h)

  pub one_of_now : (a : A) → a ≡ x → IsOneOf a (take (i + 1) xs)
  one_of_now a e = subst (λ (b : A). IsOneOf b (take (i + 1) xs)) (sym e) (subst (IsOneOf x) (sym more) (one_of_end (take i xs) x))

-- the state is handed to one more place of a list
pub hands_more : (count : ℕ) (s : State) (a b d : List State) (k l m : List Bool) (c e : Bool) (places : List ℕ) (i place : ℕ) → i < length places → get_or places i place ≡ place
    → Hands count (λ (p : ℕ). IsOneOf p (take i places)) s a b k l c → Hands count (λ (p : ℕ). p ≡ place) s b d l m e
    → Hands count (λ (p : ℕ). IsOneOf p (take (i + 1) places)) s a d k m (c || e)
hands_more count s a b d k l m c e places i place below is p q =
    hands_both count (λ (n : ℕ). IsOneOf n (take i places)) (λ (n : ℕ). n ≡ place) (λ (n : ℕ). IsOneOf n (take (i + 1) places)) s a b d k l m c e p q
    (one_of_more places i place below is) (one_of_before places i place below is) (one_of_now places i place below is)

-- no place
pub hands_none : (count : ℕ) (P : ℕ → Type 0) (s : State) (old : List State) (marks : List Bool) → AreWide count old → ((n : ℕ) → P n → ⊥)
    → Hands count P s old old marks marks false
hands_none count P s old marks wide none =
    record {
      rises = rises_not count old wide;
      marks = marks_none old marks;
      there = λ n goes below. absurd (none n goes);
      within = λ bound w h. w;
    }

-- no place is a target of what does not branch
pub no_targets : (b : Behaviour) (i : RawInstr) → branches b ≡ false → (n : ℕ) → IsOneOf n (targets_of b i) → ⊥
no_targets b i e n h = subst (λ (t : Bool). IsOneOf n (if t then i.operands else []) → ⊥) (sym e) (λ (k : ⊥). k) h

-- the state is handed to the handler of one more entry
pub hands_row : (count : ℕ) (s : State) (a b d : List State) (k l m : List Bool) (c e : Bool) (rows : List RawHandler) (i pc : ℕ) (row : RawHandler) → i < length rows → get_or rows i row ≡ row
    → Hands count (λ (p : ℕ). HandledAt (take i rows) pc p) s a b k l c → Hands count (λ (p : ℕ). Catches row pc p) s b d l m e
    → Hands count (λ (p : ℕ). HandledAt (take (i + 1) rows) pc p) s a d k m (c || e)
hands_row count s a b d k l m c e rows i pc row below is p q =
    hands_both count (λ (n : ℕ). HandledAt (take i rows) pc n) (λ (n : ℕ). Catches row pc n) (λ (n : ℕ). HandledAt (take (i + 1) rows) pc n) s a b d k l m c e p q
    (λ n h. elim (one_of_more rows i row below is h.row h.there) [
      | inl there ↦ inl (record { row = h.row; there = there; from = h.from; before = h.before; place_is = h.place_is })
      | inr same ↦ inr (subst (λ (r : RawHandler). Catches r pc n) same (record { from = h.from; before = h.before; place_is = h.place_is }))
    ])
    (λ n h. record { row = h.row; there = one_of_before rows i row below is h.row h.there; from = h.from; before = h.before; place_is = h.place_is })
    (λ n h. record { row = row; there = one_of_now rows i row below is row refl; from = h.from; before = h.before; place_is = h.place_is })

-- no entry before one more has the pc
pub uncovered_more : (rows : List RawHandler) (i pc : ℕ) (row : RawHandler) → i < length rows → get_or rows i row ≡ row
    → ((place : ℕ) → HandledAt (take i rows) pc place → ⊥) → (leb row.start pc && ltb pc row.end) ≡ false
    → (place : ℕ) → HandledAt (take (i + 1) rows) pc place → ⊥
uncovered_more rows i pc row below is before not_now place h = elim (one_of_more rows i row below is h.row h.there) [
  | inl there ↦ before place (record { row = h.row; there = there; from = h.from; before = h.before; place_is = h.place_is })
  | inr same ↦
      let low : leb row.start pc ≡ true = ap (λ (r : RawHandler). leb r.start pc) (sym same) ∙ le-leb h.row.start pc h.from in
      let high : ltb pc row.end ≡ true = ap (λ (r : RawHandler). ltb pc r.end) (sym same) ∙ lt-ltb pc h.row.end h.before in
      let both : (leb row.start pc && ltb pc row.end) ≡ true = and_from (leb row.start pc) (ltb pc row.end) low high in
      absurd cc
]
