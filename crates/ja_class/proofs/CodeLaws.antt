-- The instructions that are read are those that the code spells.
use Rattle.std.proofs.Common.{◌≡◌, ℕ, zero, suc, ◌+◌, ◌-◌, ◌^◌, ◌<◌, ◌≤◌, inl, inr, true, false, eqb, leb, List, [], ◌∷◌, ◌++◌, length, Option, Some, None, Result, Ok, Err, IfOk, ◌&&◌, refl, sym, ap, subst, ◌∙◌, append_assoc, arith}
use Rattle.std.specs.Int.{w16, to_be_bytes}
use Rattle.std.specs.List.{flat_map}
use Rattle.std.proofs.lemmas.Bool.{leb-true, eqb-true}
use Rattle.std.proofs.lemmas.List.{length-append, append-nil}
use Rattle.std.proofs.lemmas.List.Concat.{flat_map-cons}
use Rattle.ja_class.specs.Pool.{PoolEntry, Methodref}
use Rattle.ja_class.specs.Instruction.{Instruction, aload, aload_n, astore, astore_n, ldc, pop, invokestatic, return, bytes_of, Does, IsCodeFrom}
use Rattle.ja_class.specs.declared.first.FirstFault.{FirstFault}
use Rattle.ja_class.specs.declared.first.FirstFault.TheVariants.{Unbuilt, Memory}
use Rattle.ja_class.specs.declared.first.FirstInstr.{FirstInstr}
use Rattle.ja_class.specs.declared.first.FirstOp.{FirstOp}
use Rattle.ja_class.specs.declared.first.FirstOp.TheVariants as op
use Rattle.ja_class.specs.InnerReading.{◌>>=◌, Fails, Gives, number_at, byte_at, call_at, constant_at, operation_at, step_from, code_from}
use Rattle.ja_class.proofs.Exact.{IsBytes, IsBytes-rest, bind_some, chosen, guard_holds, some_is, Takes, number16}
use Rattle.ja_class.proofs.PoolLaws.{and_holds, within, call_takes, call_again, constant_takes, constant_again}

-- a byte before what was taken
pub head : (a b : ℕ) (code text rest : List ℕ) → a ≡ b → Takes code text rest → Takes (a ∷ code) (b ∷ text) rest
head a b code text rest e p = record { parts = ap (λ (n : ℕ). n ∷ code) e ∙ ap (λ (t : List ℕ). b ∷ t) p.parts; rest_fits = p.rest_fits }

byte_takes : (code : List ℕ) (x : ℕ × List ℕ) → IsBytes code → byte_at code ≡ Some x → Takes code (x.0 ∷ []) x.1 × (x.0 < 256)
byte_takes [] x fits e = absurd cc
byte_takes (b ∷ code) x fits e =
    let made : ℕ × List ℕ = (b, code) in
    subst (λ (y : ℕ × List ℕ). Takes (b ∷ code) (y.0 ∷ []) y.1 × (y.0 < 256)) (some_is made x e) (record { parts = refl; rest_fits = IsBytes-rest b code fits }, fits 0)

-- what the code from an opcode on spells
abbrev Spells : List PoolEntry → List ℕ → FirstOp × List ℕ → Type 0
Spells pool code x = (i : Instruction) × Takes code (bytes_of i) x.1 × Does pool i x.0

-- an operation with a local behind it
local_takes : (pool : List PoolEntry) (a b : ℕ) (code : List ℕ) (x : FirstOp × List ℕ) (to : ℕ → FirstOp) (make : ℕ → Instruction) → IsBytes code → a ≡ b
    → ((n : ℕ) → bytes_of (make n) ≡ b ∷ n ∷ []) → ((n : ℕ) → n < 256 → Does pool (make n) (to n))
    → (byte_at code >>= λ n. Some (to n.0, n.1)) ≡ Some x → Spells pool (a ∷ code) x
local_takes pool a b code x to make fits is spelled does e =
    let n = bind_some (byte_at code) (λ n. Some (to n.0, n.1)) x e in
    let p = byte_takes code n.0 fits n.1 in
    let made : FirstOp × List ℕ = (to n.0.0, n.0.1) in
    let text : Takes (a ∷ code) (bytes_of (make n.0.0)) n.0.1 = subst (λ (t : List ℕ). Takes (a ∷ code) t n.0.1) (sym (spelled n.0.0)) (head a b code (n.0.0 ∷ []) n.0.1 is p.0) in
    subst (λ (y : FirstOp × List ℕ). Spells pool (a ∷ code) y) (some_is made x n.2) (make n.0.0, text, does n.0.0 p.1)

-- an operation of one byte
single_takes : (pool : List PoolEntry) (a : ℕ) (code : List ℕ) (x : FirstOp × List ℕ) (o : FirstOp) (i : Instruction) → IsBytes code → bytes_of i ≡ a ∷ [] → Does pool i o
    → Some (o, code) ≡ Some x → Spells pool (a ∷ code) x
single_takes pool a code x o i fits spelled does e =
    let made : FirstOp × List ℕ = (o, code) in
    subst (λ (y : FirstOp × List ℕ). Spells pool (a ∷ code) y) (some_is made x e) (i, record { parts = ap (λ (t : List ℕ). t ++ code) (sym spelled); rest_fits = fits }, does)

ldc_takes : (pool : List PoolEntry) (a : ℕ) (code : List ℕ) (x : FirstOp × List ℕ) → IsBytes code → a ≡ 18
    → (byte_at code >>= λ index. constant_at pool index.0 >>= λ text. Some (text, index.1)) ≡ Some x → Spells pool (a ∷ code) x
ldc_takes pool a code x fits is e =
    let n = bind_some (byte_at code) (λ index. constant_at pool index.0 >>= λ text. Some (text, index.1)) x e in
    let t = bind_some (constant_at pool n.0.0) (λ text. Some (text, n.0.1)) x n.2 in
    let p = byte_takes code n.0 fits n.1 in
    let c = constant_takes pool n.0.0 t.0 t.1 in
    let made : FirstOp × List ℕ = (t.0, n.0.1) in
    subst (λ (y : FirstOp × List ℕ). Spells pool (a ∷ code) y) (some_is made x t.2) (ldc n.0.0, head a 18 code (n.0.0 ∷ []) n.0.1 is p.0, (p.1, c.0, c.1))

invoke_takes : (pool : List PoolEntry) (a : ℕ) (code : List ℕ) (x : FirstOp × List ℕ) → IsBytes code → a ≡ 184
    → (number_at w16 code >>= λ index. call_at pool index.0 >>= λ call. Some (call, index.1)) ≡ Some x → Spells pool (a ∷ code) x
invoke_takes pool a code x fits is e =
    let n = bind_some (number_at w16 code) (λ index. call_at pool index.0 >>= λ call. Some (call, index.1)) x e in
    let t = bind_some (call_at pool n.0.0) (λ call. Some (call, n.0.1)) x n.2 in
    let p = number16.takes code n.0 fits n.1 in
    let c = call_takes pool n.0.0 t.0 t.1 in
    let made : FirstOp × List ℕ = (t.0, n.0.1) in
    subst (λ (y : FirstOp × List ℕ). Spells pool (a ∷ code) y) (some_is made x t.2) (invokestatic n.0.0, head a 184 code (to_be_bytes w16 n.0.0) n.0.1 is p.0, (c.0, c.1, c.2, c.3))

-- a number of a range
in_range : (low n high : ℕ) → (leb low n && leb n high) ≡ true → (low ≤ n) × (n ≤ high)
in_range low n high e = let b = and_holds (leb low n) (leb n high) e in (leb-true low n b.0, leb-true n high b.1)

opcode_takes : (pool : List PoolEntry) (a : ℕ) (code : List ℕ) (x : FirstOp × List ℕ) → IsBytes code → operation_at pool a code ≡ Some x → Spells pool (a ∷ code) x
unfolding operation_at
opcode_takes pool a code x fits e =
    elim (chosen (eqb a 18) _ _ (Some x) e) [
      | inl h ↦ ldc_takes pool a code x fits (eqb-true a 18 h.0) h.1
      | inr h ↦
          elim (chosen (eqb a 25) _ _ (Some x) h.1) [
            | inl h ↦ local_takes pool a 25 code x op.Load aload fits (eqb-true a 25 h.0) (λ n. refl) (λ n lt. (lt, refl)) h.1
            | inr h ↦
                elim (chosen (leb 42 a && leb a 45) _ _ (Some x) h.1) [
                  | inl h ↦ let r = in_range 42 a 45 h.0 in
                      let is : 42 + (a - 42) ≡ a = omega arith in
                      let small : a - 42 ≤ 3 = omega arith in
                      single_takes pool a code x (op.Load (a - 42)) (aload_n (a - 42)) fits (ap (λ (n : ℕ). n ∷ []) is) (small, refl) h.1
                  | inr h ↦
                      elim (chosen (eqb a 58) _ _ (Some x) h.1) [
                        | inl h ↦ local_takes pool a 58 code x op.Store astore fits (eqb-true a 58 h.0) (λ n. refl) (λ n lt. (lt, refl)) h.1
                        | inr h ↦
                            elim (chosen (leb 75 a && leb a 78) _ _ (Some x) h.1) [
                              | inl h ↦ let r = in_range 75 a 78 h.0 in
                                  let is : 75 + (a - 75) ≡ a = omega arith in
                                  let small : a - 75 ≤ 3 = omega arith in
                                  single_takes pool a code x (op.Store (a - 75)) (astore_n (a - 75)) fits (ap (λ (n : ℕ). n ∷ []) is) (small, refl) h.1
                              | inr h ↦
                                  elim (chosen (eqb a 87) _ _ (Some x) h.1) [
                                    | inl h ↦ single_takes pool a code x op.Pop pop fits (ap (λ (n : ℕ). n ∷ []) (sym (eqb-true a 87 h.0))) refl h.1
                                    | inr h ↦
                                        elim (chosen (eqb a 177) _ _ (Some x) h.1) [
                                          | inl h ↦ single_takes pool a code x op.Return return fits (ap (λ (n : ℕ). n ∷ []) (sym (eqb-true a 177 h.0))) refl h.1
                                          | inr h ↦ let g = guard_holds (eqb a 184) _ x h.1 in invoke_takes pool a code x fits (eqb-true a 184 g.0) g.1
                                        ]
                                  ]
                            ]
                      ]
                ]
          ]
    ]

-- what a step reads is an instruction and what it does
pub step_takes : (pool : List PoolEntry) (code : List ℕ) (x : FirstOp × List ℕ) → IsBytes code → step_from pool code ≡ Some x → Spells pool code x
unfolding step_from
step_takes pool [] x fits e = absurd cc
step_takes pool (a ∷ code) x fits e = opcode_takes pool a code x (IsBytes-rest a code fits) e

-- an instruction is read again
pub step_again : (pool : List PoolEntry) (i : Instruction) (o : FirstOp) (rest : List ℕ) → length pool + 1 < 2 ^ 16 → Does pool i o → step_from pool (bytes_of i ++ rest) ≡ Some (o, rest)
unfolding step_from operation_at
step_again pool (aload n) o rest small h = ap (λ (o : FirstOp). Some (o, rest)) (sym h.1)
step_again pool (aload_n zero) o rest small h = ap (λ (o : FirstOp). Some (o, rest)) (sym h.1)
step_again pool (aload_n (suc zero)) o rest small h = ap (λ (o : FirstOp). Some (o, rest)) (sym h.1)
step_again pool (aload_n (suc (suc zero))) o rest small h = ap (λ (o : FirstOp). Some (o, rest)) (sym h.1)
step_again pool (aload_n (suc (suc (suc zero)))) o rest small h = ap (λ (o : FirstOp). Some (o, rest)) (sym h.1)
step_again pool (aload_n (suc (suc (suc (suc n))))) o rest small h = absurd (omega arith)
step_again pool (astore n) o rest small h = ap (λ (o : FirstOp). Some (o, rest)) (sym h.1)
step_again pool (astore_n zero) o rest small h = ap (λ (o : FirstOp). Some (o, rest)) (sym h.1)
step_again pool (astore_n (suc zero)) o rest small h = ap (λ (o : FirstOp). Some (o, rest)) (sym h.1)
step_again pool (astore_n (suc (suc zero))) o rest small h = ap (λ (o : FirstOp). Some (o, rest)) (sym h.1)
step_again pool (astore_n (suc (suc (suc zero)))) o rest small h = ap (λ (o : FirstOp). Some (o, rest)) (sym h.1)
step_again pool (astore_n (suc (suc (suc (suc n))))) o rest small h = absurd (omega arith)
step_again pool (ldc index) o rest small h = rw (constant_again pool index h.1.0 h.1.1) (ap (λ (o : FirstOp). Some (o, rest)) (sym h.2))
step_again pool pop o rest small h = ap (λ (o : FirstOp). Some (o, rest)) (sym h)
step_again pool (invokestatic index) o rest small h =
    let lt : index < 2 ^ 16 = omega (arith, within pool index (Methodref h.0 h.1) h.2) in
    rw (number16.again index rest lt, call_again pool index o h.0 h.1 h.2 h.3) refl
step_again pool return o rest small h = ap (λ (o : FirstOp). Some (o, rest)) (sym h)

bytes_positive : (i : Instruction) → 0 < length (bytes_of i)
bytes_positive (aload n) = omega arith
bytes_positive (aload_n n) = omega arith
bytes_positive (astore n) = omega arith
bytes_positive (astore_n n) = omega arith
bytes_positive (ldc n) = omega arith
bytes_positive pop = omega arith
bytes_positive (invokestatic n) = omega arith
bytes_positive return = omega arith

-- a step leaves less code
pub step_shorter : (pool : List PoolEntry) (code : List ℕ) (x : FirstOp × List ℕ) → IsBytes code → step_from pool code ≡ Some x → length x.1 < length code
step_shorter pool code x fits e =
    let s = step_takes pool code x fits e in
    omega (arith, ap length s.1.parts, length-append (bytes_of s.0) x.1, bytes_positive s.0)

-- ---- the whole code

bind_same : {A B : Type 0} (o : Option A) (f g : A → Option B) → ((x : A) → o ≡ Some x → f x ≡ g x) → (o >>= f) ≡ (o >>= g)
bind_same None f g h = refl
bind_same (Some x) f g h = h x refl

-- an instruction before others
abbrev before : FirstInstr → Option (List FirstInstr) → Option (List FirstInstr)
before i read = read >>= λ others. Some (i ∷ others)

-- the instructions so far, before those that are still read
abbrev pub after_front : List FirstInstr → Option (List FirstInstr) → Option (List FirstInstr)
after_front front read = read >>= λ others. Some (front ++ others)

-- the code after one step
code_step : (pool : List PoolEntry) (end most : ℕ) (code : List ℕ) (x : FirstOp × List ℕ) → step_from pool code ≡ Some x
    → code_from pool end (suc most) code ≡ before (record { pc = end - length code; op = x.0 }) (code_from pool end most x.1)
unfolding step_from code_from
code_step pool end most [] x e = absurd cc
code_step pool end most (b ∷ code) x e = rw e refl

code_stop : (pool : List PoolEntry) (end most : ℕ) (code : List ℕ) → 0 < length code → step_from pool code ≡ None → code_from pool end (suc most) code ≡ None
unfolding code_from
code_stop pool end most [] lt e = absurd (omega arith)
code_stop pool end most (b ∷ code) lt e = rw e refl

code_none : (pool : List PoolEntry) (end most : ℕ) (code : List ℕ) → length code ≤ 0 → code_from pool end most code ≡ Some []
unfolding code_from
code_none pool end zero [] h = refl
code_none pool end (suc most) [] h = refl
code_none pool end most (b ∷ code) h = absurd (omega arith)

-- any count that is large enough gives the same
code_any : (pool : List PoolEntry) (end f g : ℕ) (code : List ℕ) → IsBytes code → length code ≤ f → length code ≤ g → code_from pool end f code ≡ code_from pool end g code
unfolding code_from
code_any pool end zero zero code fits hf hg = refl
code_any pool end zero (suc g) code fits hf hg = code_none pool end zero code hf ∙ sym (code_none pool end (suc g) code hf)
code_any pool end (suc f) zero code fits hf hg = code_none pool end (suc f) code hg ∙ sym (code_none pool end zero code hg)
code_any pool end (suc f) (suc g) [] fits hf hg = refl
code_any pool end (suc f) (suc g) (b ∷ code) fits hf hg =
    bind_same (step_from pool (b ∷ code)) _ _ (λ x e.
    let lt = step_shorter pool (b ∷ code) x fits e in
    let rest_fits = (step_takes pool (b ∷ code) x fits e).1.rest_fits in
    ap (before (record { pc = end - length (b ∷ code); op = x.0 })) (code_any pool end f g x.1 rest_fits (omega arith) (omega arith)))

move : (front : List FirstInstr) (i : FirstInstr) (read : Option (List FirstInstr)) → after_front front (before i read) ≡ after_front (front ++ i ∷ []) read
move front i None = refl
move front i (Some others) = ap (λ (is : List FirstInstr). Some is) (simp append_assoc)

-- one more instruction
pub code_more : (pool : List PoolEntry) (end : ℕ) (front : List FirstInstr) (code : List ℕ) (x : FirstOp × List ℕ) (total : Option (List FirstInstr)) → IsBytes code → step_from pool code ≡ Some x
    → after_front front (code_from pool end (length code) code) ≡ total → after_front (front ++ record { pc = end - length code; op = x.0 } ∷ []) (code_from pool end (length x.1) x.1) ≡ total
code_more pool end front code x total fits e so_far =
    let lt = step_shorter pool code x fits e in
    let rest_fits = (step_takes pool code x fits e).1.rest_fits in
    let i : FirstInstr = record { pc = end - length code; op = x.0 } in
    let k : ℕ = length code - 1 in
    let one_more : length code ≡ suc k = omega arith in
    let step : code_from pool end (length code) code ≡ before i (code_from pool end (length x.1) x.1) =
    ap (λ (n : ℕ). code_from pool end n code) one_more ∙ code_step pool end k code x e
    ∙ ap (before i) (code_any pool end k (length x.1) x.1 rest_fits (omega arith) (omega arith)) in
    sym (move front i (code_from pool end (length x.1) x.1)) ∙ ap (after_front front) (sym step) ∙ so_far

-- an instruction that is refused
pub code_refused : (fault : FirstFault) (pool : List PoolEntry) (end : ℕ) (front : List FirstInstr) (code : List ℕ) (total : Option (List FirstInstr)) → 0 < length code → Fails fault (step_from pool code)
    → after_front front (code_from pool end (length code) code) ≡ total → Fails fault total
code_refused Memory pool end front code total lt e so_far = tt
code_refused Unbuilt pool end front code total lt e so_far =
    let k : ℕ = length code - 1 in
    let one_more : length code ≡ suc k = omega arith in
    let step : code_from pool end (length code) code ≡ None = ap (λ (n : ℕ). code_from pool end n code) one_more ∙ code_stop pool end k code lt e in
    sym so_far ∙ ap (after_front front) step

-- no code is left
pub code_done : (pool : List PoolEntry) (end : ℕ) (front : List FirstInstr) (code : List ℕ) (total : Option (List FirstInstr)) → length code ≤ 0
    → after_front front (code_from pool end (length code) code) ≡ total → total ≡ Some front
code_done pool end front code total h so_far =
    sym so_far ∙ ap (after_front front) (code_none pool end (length code) code h) ∙ ap (λ (is : List FirstInstr). Some is) (append-nil front)

-- the code is an instruction and what stands after it
joined : (i : Instruction) (is : List Instruction) (code rest : List ℕ) → code ≡ bytes_of i ++ rest → rest ≡ flat_map bytes_of is → code ≡ flat_map bytes_of (i ∷ is)
joined i is code rest e f = e ∙ ap (λ (t : List ℕ). bytes_of i ++ t) f ∙ sym (flat_map-cons bytes_of i is)

-- what is read is the instructions of the code
pub code_takes : (pool : List PoolEntry) (end most : ℕ) (code : List ℕ) (out : List FirstInstr) → IsBytes code → length code ≤ end → code_from pool end most code ≡ Some out
    → (is : List Instruction) × (code ≡ flat_map bytes_of is) × IsCodeFrom pool (end - length code) is out
unfolding code_from
code_takes pool end zero [] out fits within_end e = ([], refl, sym (some_is [] out e))
code_takes pool end (suc most) [] out fits within_end e = ([], refl, sym (some_is [] out e))
code_takes pool end zero (b ∷ code) out fits within_end e = absurd cc
code_takes pool end (suc most) (b ∷ code) out fits within_end e =
    let a = bind_some (step_from pool (b ∷ code)) (λ x. code_from pool end most x.1 >>= λ others. Some (record { pc = end - length (b ∷ code); op = x.0 } ∷ others)) out e in
    let x = a.0 in
    let i : FirstInstr = record { pc = end - length (b ∷ code); op = x.0 } in
    let o = bind_some (code_from pool end most x.1) (λ others. Some (i ∷ others)) out a.2 in
    let s = step_takes pool (b ∷ code) x fits a.1 in
    let len : length (b ∷ code) ≡ length (bytes_of s.0) + length x.1 = ap length s.1.parts ∙ length-append (bytes_of s.0) x.1 in
    let later = code_takes pool end most x.1 o.0 s.1.rest_fits (omega arith) o.1 in
    let pc : end - length x.1 ≡ (end - length (b ∷ code)) + length (bytes_of s.0) = omega arith in
    let rest : IsCodeFrom pool ((end - length (b ∷ code)) + length (bytes_of s.0)) later.0 o.0 = subst (λ (n : ℕ). IsCodeFrom pool n later.0 o.0) pc later.2 in (
      s.0 ∷ later.0,
      joined s.0 later.0 (b ∷ code) x.1 s.1.parts later.1,
      subst (IsCodeFrom pool (end - length (b ∷ code)) (s.0 ∷ later.0)) (some_is (i ∷ o.0) out o.2) (refl, s.2, rest),
    )

-- the instructions of the code are read
pub code_again : (pool : List PoolEntry) (end most : ℕ) (is : List Instruction) (out : List FirstInstr) → length pool + 1 < 2 ^ 16 → length (flat_map bytes_of is) ≤ most → length (flat_map bytes_of is) ≤ end
    → IsCodeFrom pool (end - length (flat_map bytes_of is)) is out → code_from pool end most (flat_map bytes_of is) ≡ Some out
code_again pool end most [] out small hm he h = code_none pool end most [] (omega arith) ∙ ap (λ (is : List FirstInstr). Some is) (sym h)
code_again pool end most (i ∷ is) [] small hm he h = absurd h
code_again pool end most (i ∷ is) (c ∷ out) small hm he h =
    let text = flat_map-cons bytes_of i is in
    let positive = bytes_positive i in
    let len : length (flat_map bytes_of (i ∷ is)) ≡ length (bytes_of i) + length (flat_map bytes_of is) = ap length text ∙ length-append (bytes_of i) (flat_map bytes_of is) in
    let k : ℕ = most - 1 in
    let one_more : most ≡ suc k = omega arith in
    let pc : (end - length (flat_map bytes_of (i ∷ is))) + length (bytes_of i) ≡ end - length (flat_map bytes_of is) = omega arith in
    let step : step_from pool (flat_map bytes_of (i ∷ is)) ≡ Some (c.op, flat_map bytes_of is) = ap (step_from pool) text ∙ step_again pool i c.op (flat_map bytes_of is) small h.1 in
    let later : code_from pool end k (flat_map bytes_of is) ≡ Some out = code_again pool end k is out small (omega arith) (omega arith) (subst (λ (n : ℕ). IsCodeFrom pool n is out) pc h.2) in
    ap (λ (n : ℕ). code_from pool end n (flat_map bytes_of (i ∷ is))) one_more
    ∙ code_step pool end k (flat_map bytes_of (i ∷ is)) (c.op, flat_map bytes_of is) step
    ∙ ap (before (record { pc = end - length (flat_map bytes_of (i ∷ is)); op = c.op })) later
    ∙ ap (λ (n : ℕ). Some (record { pc = n; op = c.op } ∷ out)) (sym h.0)

-- what a step returned leaves less code
pub given_shorter : {X : Type 0} (view : X → FirstOp × List ℕ) (r : Result X FirstFault) (pool : List PoolEntry) (code : List ℕ) (a : ℕ) (rest : List ℕ) → IsBytes code → byte_at code ≡ Some (a, rest)
    → Gives view r (operation_at pool a rest) → IfOk r (λ x. length (view x).1 < length code)
unfolding step_from
given_shorter view (Ok x) pool code a rest fits first given =
    let step : step_from pool code ≡ operation_at pool a rest = ap (λ o. o >>= λ opcode. operation_at pool opcode.0 opcode.1) first in
    step_shorter pool code (view x) fits (step ∙ given)
given_shorter view (Err e) pool code a rest fits first given = tt

pub after_nothing : (read : Option (List FirstInstr)) → after_front [] read ≡ read
after_nothing None = refl
after_nothing (Some others) = refl

pub is_positive : (n : ℕ) → false ≡ eqb n 0 → 0 < n
is_positive zero h = absurd cc
is_positive (suc n) h = omega arith
