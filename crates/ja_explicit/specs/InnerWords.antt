-- Assignments of a frame as words: bit n of a word is the truth of slot n, and behind the slots come what was stored and what is thrown.
use Rattle.std.specs.Prelude.{ℕ, zero, suc, ◌+◌, ◌-◌, ◌^◌, ◌==◌, ◌&&◌, nat_lt, nat_eq, Bool, true, false, List, [], ◌∷◌, ◌++◌, Option, Some, None, if◌then◌else◌}
use Rattle.std.specs.Int.{bit_at}
use Rattle.ja_ir.specs.declared.method.Method.{Method}
use Rattle.ja_facts.specs.FactTables.{slot_count}
use Rattle.ja_facts.specs.Slots.{argument}
use Rattle.ja_facts.specs.Formulas.{Assignment, any_below}
use Rattle.ja_ir.specs.Params.{param_local, param_count}
use Rattle.ja_work.specs.declared.clause.Spot.{Spot}
use Rattle.ja_work.specs.declared.clause.Spot.TheVariants.{Local, OnStack, Dirt, Exc}
use Rattle.ja_work.specs.declared.clause.Clause.{Clause}
use Rattle.ja_work.specs.Clauses.{fits, constant, never, anything}
use Rattle.ja_work.specs.Told.{number_of}
use Rattle.ja_explicit.specs.declared.chance.Chance.{Chance}

-- a list of what each of so many numbers gives
abbrev pub over : {A : Type 0} → (ℕ → List A) → (from count : ℕ) → List A
over f from zero = []
over f from (suc count) = f from ++ over f (suc from) count

-- bit n of a word
abbrev pub bit : (word n : ℕ) → Bool
bit word n = bit_at word n == 1

abbrev pub bit_if : (word : ℕ) → Option ℕ → Bool
bit_if word None = false
bit_if word (Some n) = bit word n

-- the assignment of a frame of the method that a word says
abbrev pub says : Method → (word : ℕ) → Assignment
says method word = record {
  slot = λ z. bit_if word (number_of method z);
  dirt = bit word (method.locals + method.stack);
  exc = bit word (method.locals + method.stack + 1);
}

-- the spot of a number
abbrev pub spot_at : Method → ℕ → Spot
spot_at method n =
    if nat_lt n method.locals then Local n
    else (if nat_lt n (method.locals + method.stack) then OnStack (n - method.locals) else (if nat_eq n (method.locals + method.stack) then Dirt else Exc))

-- whether spot n may be true, and whether it may be false, by clauses at the assignment before
abbrev pub chance : Method → (Spot → Clause) → Assignment → ℕ → Chance
chance to clauses b n = record { high = fits (clauses (spot_at to n)) b true; low = fits (clauses (spot_at to n)) b false }

abbrev pub chances : Method → (Spot → Clause) → Assignment → List Chance
chances to clauses b = over (λ n. chance to clauses b n ∷ []) 0 (slot_count to)

-- the word is one that chances allow, from bit n on
abbrev pub passes : List Chance → (word n : ℕ) → Bool
passes [] word n = true
passes (c ∷ cs) word n = (if bit word n then c.high else c.low) && passes cs word (suc n)

-- the word, if chances allow it
abbrev pub word_if : List Chance → (word : ℕ) → List ℕ
word_if cs word = if passes cs word 0 then word ∷ [] else []

-- the words of a frame that clauses allow after an assignment
abbrev pub next_words : Method → (Spot → Clause) → Assignment → List ℕ
next_words to clauses b = over (word_if (chances to clauses b)) 0 (2 ^ slot_count to)

-- the parameters of a called method are true as the arguments are, which lie over so many values
abbrev pub handed_clauses : (callee : Method) → (count under : ℕ) → Assignment → Spot → Clause
handed_clauses callee count under b (Local l) = constant (any_below (λ k. nat_eq (param_local callee k) l && b.slot (argument under k)) count)
handed_clauses callee count under b (OnStack k) = never
handed_clauses callee count under b Dirt = never
handed_clauses callee count under b Exc = never

-- the parameters of a method that pass a test may be true
abbrev pub opened_clauses : Method → (ℕ → Bool) → Spot → Clause
opened_clauses method test (Local l) = if any_below (λ k. nat_eq (param_local method k) l && test k) (param_count method) then anything else never
opened_clauses method test (OnStack k) = never
opened_clauses method test Dirt = never
opened_clauses method test Exc = never
