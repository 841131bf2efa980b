-- Where the instructions of a code stand.
use Rattle.std.proofs.Common.{◌≡◌, ℕ, ◌+◌, ◌<◌, ◌≤◌, ◌⊎◌, inl, inr, Bool, true, ◌&&◌, List, [], ◌∷◌, ◌++◌, length, refl, ap, sym, subst, ◌∙◌, zero-add, arith}
use Rattle.std.specs.Prelude.{IsTrue, ◌==◌, ◌||◌, nat_lt}
use Rattle.std.specs.List.{list_any, list_all}
use Rattle.std.proofs.lemmas.Bool.{and_parts, or_cases, eqb-true}
use Rattle.std.proofs.lemmas.List.{length-append}
use Rattle.std.proofs.lemmas.List.Sums.{sum_by-cons}
use Rattle.ja_code.specs.declared.form.Entry.TheVariants.{Class}
use Rattle.ja_code.specs.declared.instr.RawInstr.{RawInstr}
use Rattle.ja_code.specs.declared.handler.RawHandler.{RawHandler}
use Rattle.ja_code.specs.declared.code.Code.{Code}
use Rattle.ja_code.specs.Bytes as bytes
use Rattle.ja_code.specs.Grammar as grammar
use Rattle.ja_code.specs.Grammar.{IsInstr, AreInstrs, Spells, is_start, leads_to_starts, is_handler}
use Rattle.ja_code.proofs.Complete.{instr_length}
use Rattle.ja_kinds.specs.Effect.{IsOneOf}
use Rattle.ja_kinds.specs.Solution.{HandledAt}
use Rattle.ja_kinds.specs.Reached.{StartsAt}
use Rattle.ja_kinds.specs.Answer.{code_size}
use Rattle.ja_kinds.specs.InnerSolving.{AreApart}

-- an instruction lies between two places
record LiesIn (i : RawInstr) (from to : ℕ) : Type 0 where
  low : from ≤ i.pc
  high : i.pc + i.length ≤ to
  some : 0 < i.length

module _ (tags dims : List ℕ) where
  pc_is : (pc : ℕ) (text : List ℕ) (i : RawInstr) → IsInstr tags dims pc text i → i.pc ≡ pc
  pc_is pc text i (grammar.plain takes) = refl
  pc_is pc text i (grammar.byte takes) = refl
  pc_is pc text i (grammar.short takes) = refl
  pc_is pc text i (grammar.local takes) = refl
  pc_is pc text i (grammar.increment takes) = refl
  pc_is pc text i (grammar.byte_index takes h) = refl
  pc_is pc text i (grammar.index takes h) = refl
  pc_is pc text i (grammar.interface takes h) = refl
  pc_is pc text i (grammar.array_type takes low high) = refl
  pc_is pc text i (grammar.dimensions takes h low high) = refl
  pc_is pc text i (grammar.branch takes) = refl
  pc_is pc text i (grammar.far_branch takes) = refl
  pc_is pc text i (grammar.table_switch gap default low high table count takes a b c d e f g) = refl
  pc_is pc text i (grammar.lookup_switch gap default count pairs takes a b c d e) = refl
  pc_is pc text i (grammar.wide_local wide takes) = refl
  pc_is pc text i (grammar.wide_increment wide takes) = refl

  -- the instructions are as long together as the code
  pub whole_length : (pc : ℕ) (bytes : List ℕ) (is : List RawInstr) → AreInstrs tags dims pc bytes is
      → Rattle.std.specs.Prelude.sum_by (λ (i : RawInstr). i.length) is ≡ length bytes
  whole_length pc bytes is grammar.none = refl
  whole_length pc bytes is (grammar.next text rest {i} {is = others} one more) =
      let size : length text ≡ i.length = (instr_length tags dims pc text i one).0 in
      let behind : Rattle.std.specs.Prelude.sum_by (λ (j : RawInstr). j.length) others ≡ length rest = whole_length (pc + length text) rest others more in
      sum_by-cons (λ (j : RawInstr). j.length) i others ∙ omega (arith, length-append text rest, size, behind)

  lies_in : (pc : ℕ) (bytes : List ℕ) (is : List RawInstr) → AreInstrs tags dims pc bytes is → (i : RawInstr) → IsOneOf i is → LiesIn i pc (pc + length bytes)
  lies_in pc bytes is grammar.none i h = absurd h
  lies_in pc bytes is (grammar.next text rest {i = first} {is = others} one more) i (inl same) =
      let e : first.pc ≡ pc = pc_is pc text first one in
      let size = instr_length tags dims pc text first one in
      subst (λ (j : RawInstr). LiesIn j pc (pc + length (text ++ rest))) (sym same)
      (record { low = omega (arith, e); high = omega (arith, e, length-append text rest, size.0); some = omega (arith, size.0, size.1) })
  lies_in pc bytes is (grammar.next text rest {i = first} {is = others} one more) i (inr h) =
      let in_rest : LiesIn i (pc + length text) (pc + length text + length rest) = lies_in (pc + length text) rest others more i h in
      record {
        low = omega (arith, in_rest.low);
        high = omega (arith, in_rest.high, length-append text rest);
        some = in_rest.some;
      }

  -- no two stand at one place
  pub apart : (pc : ℕ) (bytes : List ℕ) (is : List RawInstr) → AreInstrs tags dims pc bytes is → AreApart is
  apart pc bytes is grammar.none i j h k e = absurd h
  apart pc bytes is (grammar.next text rest {i = first} {is = others} one more) i j (inl p) (inl q) e = p ∙ sym q
  apart pc bytes is (grammar.next text rest {i = first} {is = others} one more) i j (inl p) (inr q) e =
      let at : i.pc ≡ pc = ap (λ (k : RawInstr). k.pc) p ∙ pc_is pc text first one in
      let behind : LiesIn j (pc + length text) (pc + length text + length rest) = lies_in (pc + length text) rest others more j q in
      absurd (omega (arith, at, behind.low, e, (instr_length tags dims pc text first one).1))
  apart pc bytes is (grammar.next text rest {i = first} {is = others} one more) i j (inr p) (inl q) e =
      let at : j.pc ≡ pc = ap (λ (k : RawInstr). k.pc) q ∙ pc_is pc text first one in
      let behind : LiesIn i (pc + length text) (pc + length text + length rest) = lies_in (pc + length text) rest others more i p in
      absurd (omega (arith, at, behind.low, e, (instr_length tags dims pc text first one).1))
  apart pc bytes is (grammar.next text rest {i = first} {is = others} one more) i j (inr p) (inr q) e =
      apart (pc + length text) rest others more i j p q e

  -- the first one, and the one behind another
  first_at : (pc : ℕ) (bytes : List ℕ) (is : List RawInstr) → AreInstrs tags dims pc bytes is → (length bytes ≡ 0) ⊎ StartsAt is pc
  first_at pc bytes is grammar.none = inl refl
  first_at pc bytes is (grammar.next text rest {i = first} {is = others} one more) =
      inr (record { instr = first; there = inl refl; at = pc_is pc text first one })

  pub starts_first : (pc : ℕ) (bytes : List ℕ) (is : List RawInstr) → AreInstrs tags dims pc bytes is → 0 < length bytes → StartsAt is pc
  starts_first pc bytes is all some = elim (first_at pc bytes is all) [ inl none ↦ absurd (omega (arith, none)) | inr s ↦ s ]

  pub next_at : (pc : ℕ) (bytes : List ℕ) (is : List RawInstr) → AreInstrs tags dims pc bytes is → (i : RawInstr) → IsOneOf i is
      → (i.pc + i.length ≡ pc + length bytes) ⊎ StartsAt is (i.pc + i.length)
  next_at pc bytes is grammar.none i h = absurd h
  next_at pc bytes is (grammar.next text rest {i = first} {is = others} one more) i (inl same) =
      let at : i.pc ≡ pc = ap (λ (k : RawInstr). k.pc) same ∙ pc_is pc text first one in
      let size : length text ≡ i.length = (instr_length tags dims pc text first one).0 ∙ ap (λ (k : RawInstr). k.length) (sym same) in
      elim (first_at (pc + length text) rest others more) [
        | inl none ↦ inl (omega (arith, at, size, none, length-append text rest))
        | inr s ↦ inr (record { instr = s.instr; there = inr s.there; at = omega (arith, s.at, at, size) })
      ]
  next_at pc bytes is (grammar.next text rest {i = first} {is = others} one more) i (inr h) =
      elim (next_at (pc + length text) rest others more i h) [
        | inl end ↦ inl (omega (arith, end, length-append text rest))
        | inr s ↦ inr (record { instr = s.instr; there = inr s.there; at = s.at })
      ]

-- ---- starts

pub started : (is : List RawInstr) (place : ℕ) → is_start is place ≡ true → StartsAt is place
started [] place e = absurd cc
started (i ∷ is) place e = elim (or_cases (i.pc == place) (is_start is place) e) [
  | inl here ↦ record { instr = i; there = inl refl; at = eqb-true i.pc place here }
  | inr behind ↦ let s : StartsAt is place = started is place behind in record { instr = s.instr; there = inr s.there; at = s.at }
]

each_passes : {A : Type 0} (test : A → Bool) (xs : List A) → list_all test xs ≡ true → (x : A) → IsOneOf x xs → test x ≡ true
each_passes test [] all x h = absurd h
each_passes test (y ∷ ys) all x (inl same) = ap test same ∙ (and_parts (test y) (list_all test ys) all).0
each_passes test (y ∷ ys) all x (inr h) = each_passes test ys (and_parts (test y) (list_all test ys) all).1 x h

module _ (code tags dims : List ℕ) (rows : List RawHandler) (spelled : Code) (spells : Spells code tags dims rows spelled) where
  pub code_length : code_size spelled ≡ length code
  code_length = whole_length tags dims 0 code spelled.instrs spells.instrs

  pub code_apart : AreApart spelled.instrs
  code_apart = apart tags dims 0 code spelled.instrs spells.instrs

  -- an instruction branches to instructions
  pub target_starts : (i : RawInstr) (place : ℕ) → IsOneOf i spelled.instrs → IsOneOf place (grammar.targets i) → StartsAt spelled.instrs place
  target_starts i place there target =
      let leads : leads_to_starts (is_start spelled.instrs) i ≡ true = each_passes (leads_to_starts (is_start spelled.instrs)) spelled.instrs spells.branches i there in
      started spelled.instrs place (each_passes (is_start spelled.instrs) (grammar.targets i) leads place target)

  -- a handler begins at an instruction
  pub handler_starts : (pc place : ℕ) → HandledAt spelled.handlers pc place → StartsAt spelled.instrs place
  handler_starts pc place h =
      let there : IsOneOf h.row rows = subst (IsOneOf h.row) spells.same_rows h.there in
      let right : is_handler tags (is_start spelled.instrs) (length code) h.row ≡ true =
      each_passes (is_handler tags (is_start spelled.instrs) (length code)) rows spells.handlers h.row there in
      started spelled.instrs place (ap (is_start spelled.instrs) h.place_is ∙ handler_part h.row right)
    where
      handler_part : (row : RawHandler) → is_handler tags (is_start spelled.instrs) (length code) row ≡ true → is_start spelled.instrs row.handler ≡ true
      handler_part row right =
          let front : Bool =
          nat_lt row.start row.end && is_start spelled.instrs row.start && (row.end == length code || is_start spelled.instrs row.end) in
          let catch : Bool = row.catch_type == 0 || bytes.names Class (bytes.tag_at tags row.catch_type) in
          let most : ((front && is_start spelled.instrs row.handler) ≡ true) × (catch ≡ true) =
          and_parts (front && is_start spelled.instrs row.handler) catch right in
          (and_parts front (is_start spelled.instrs row.handler) most.0).1

  pub entry_starts : 0 < length code → StartsAt spelled.instrs 0
  entry_starts some = starts_first tags dims 0 code spelled.instrs spells.instrs some

  -- what stands behind an instruction is the end of the code or an instruction
  pub next_starts : (i : RawInstr) → IsOneOf i spelled.instrs → (i.pc + i.length ≡ code_size spelled) ⊎ StartsAt spelled.instrs (i.pc + i.length)
  next_starts i there = elim (next_at tags dims 0 code spelled.instrs spells.instrs i there) [
    | inl end ↦ inl (end ∙ (zero-add (length code) ∙ sym code_length))
    | inr s ↦ inr s
  ]

  -- each place where an instruction stands is one of the code
  pub in_code : (i : RawInstr) → IsOneOf i spelled.instrs → i.pc < code_size spelled
  in_code i there =
      let l : LiesIn i 0 (0 + length code) = lies_in tags dims 0 code spelled.instrs spells.instrs i there in
      omega (arith, l.high, l.some, code_length)
