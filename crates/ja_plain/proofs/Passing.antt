-- The pass over the instructions finds what they need, and flags the sinks in their order.
use Rattle.std.proofs.Common.{◌≡◌, ℕ, ◌+◌, ◌-◌, ◌<◌, Bool, false, List, [], ◌∷◌, ◌++◌, length, drop, replicate, refl, sym, subst, arith, append_assoc, length-append, ◌∙◌}
use Rattle.std.specs.Prelude.{slice_index_or}
use Rattle.std.proofs.lemmas.List.{length-replicate, length-take, drop_more}
use Rattle.std.proofs.Math.ListN.{length-set}
use Rattle.ja_class.specs.declared.first.FirstOp.{FirstOp}
use Rattle.ja_class.specs.declared.first.FirstOp.TheVariants.{Load, Store, Text, Pop, Source, Sink, Return}
use Rattle.ja_class.specs.declared.first.FirstInstr.{FirstInstr}
use Rattle.ja_class.specs.Runnable.{height_after, UsesLocal, RunsFrom}
use Rattle.ja_plain.specs.InnerPass.{UsesWithin, FindsAll, top_of, rest_of, locals_after, stack_after, with_flag, flags_from}

pub uses-within : (locals : ℕ) (set : List ℕ) (op : FirstOp) → UsesLocal locals set op → UsesWithin locals op
uses-within locals set (Load n) u = u.0
uses-within locals set (Store n) u = u
uses-within locals set Text u = tt
uses-within locals set Pop u = tt
uses-within locals set Source u = tt
uses-within locals set Sink u = tt
uses-within locals set Return u = tt

pub finds-all : (locals stack : ℕ) (xs : List FirstInstr) (height : ℕ) (set : List ℕ) → RunsFrom locals stack height set xs → FindsAll locals height xs
finds-all locals stack [] height set r = absurd r
finds-all locals stack (x ∷ []) height set r = (r.1.takes, uses-within locals set x.op r.1.local, tt)
finds-all locals stack (x ∷ (y ∷ ys)) height set r = (r.1.takes, uses-within locals set x.op r.1.local, finds-all locals stack (y ∷ ys) _ _ r.2)

-- where the pass stands: what it has flagged, with what is still to be flagged, is what was wanted
pub record Passing (want warned locals stack : List Bool) (rest : List FirstInstr) : Type 0 where
  pub shown : warned ++ flags_from locals stack rest ≡ want
  pub finds : FindsAll (length locals) (length stack) rest

pub begins : (locals stack : ℕ) (code xs : List FirstInstr) (warned ls ss : List Bool) → xs ≡ code → warned ≡ [] → ls ≡ replicate locals false → ss ≡ [] → RunsFrom locals stack 0 (0 ∷ []) code → Passing (flags_from (replicate locals false) [] code) warned ls ss xs
begins locals stack code xs warned ls ss e-xs e-warned e-ls e-ss r =
    let P : List FirstInstr → Type 0 = λ y. Passing (flags_from (replicate locals false) [] code) warned ls ss y in
    subst P (sym e-xs) record {
      shown = rw (e-warned, e-ls, e-ss) refl;
      finds = rw (e-ls, e-ss) (subst (λ (n : ℕ). FindsAll n 0 code) (sym (length-replicate locals false)) (finds-all locals stack code 0 (0 ∷ []) r));
    }

pub length-locals : (op : FirstOp) (locals stack : List Bool) → length (locals_after op locals stack) ≡ length locals
length-locals (Load n) locals stack = refl
length-locals (Store n) locals stack = length-set _ _ _
length-locals Text locals stack = refl
length-locals Pop locals stack = refl
length-locals Source locals stack = refl
length-locals Sink locals stack = refl
length-locals Return locals stack = refl

pub length-rest : (stack : List Bool) → length (rest_of stack) ≡ length stack - 1
length-rest stack = grind (arith, length-take {A = Bool})

pub length-stack : (op : FirstOp) (locals stack : List Bool) → length (stack_after op locals stack) ≡ height_after op (length stack)
length-stack (Load n) locals stack = grind (arith, length-append {A = Bool})
length-stack (Store n) locals stack = grind (arith, length-rest)
length-stack Text locals stack = grind (arith, length-append {A = Bool})
length-stack Pop locals stack = grind (arith, length-rest)
length-stack Source locals stack = grind (arith, length-append {A = Bool})
length-stack Sink locals stack = grind (arith, length-rest)
length-stack Return locals stack = omega arith

abbrev pub flagged : FirstOp → Bool → List Bool → List Bool
flagged (Load n) top warned = warned
flagged (Store n) top warned = warned
flagged Text top warned = warned
flagged Pop top warned = warned
flagged Source top warned = warned
flagged Sink top warned = warned ++ top ∷ []
flagged Return top warned = warned

flagged-shown : (op : FirstOp) (top : Bool) (warned flags : List Bool) → flagged op top warned ++ flags ≡ warned ++ with_flag op top flags
flagged-shown (Load n) top warned flags = refl
flagged-shown (Store n) top warned flags = refl
flagged-shown Text top warned flags = refl
flagged-shown Pop top warned flags = refl
flagged-shown Source top warned flags = refl
flagged-shown Sink top warned flags = append_assoc warned (top ∷ []) flags
flagged-shown Return top warned flags = refl

pub goes-on : (want warned locals stack : List Bool) (x : FirstInstr) (xs : List FirstInstr) → Passing want warned locals stack (x ∷ xs) → Passing want (flagged x.op (top_of stack) warned) (locals_after x.op locals stack) (stack_after x.op locals stack) xs
goes-on want warned locals stack x xs p = record {
  shown = flagged-shown x.op (top_of stack) warned _ ∙ p.shown;
  finds =
      subst (λ (n : ℕ). FindsAll n (length (stack_after x.op locals stack)) xs) (sym (length-locals x.op locals stack))
      (subst (λ (n : ℕ). FindsAll (length locals) n xs) (sym (length-stack x.op locals stack)) p.finds.2);
}

pub flagged-sink : (op : FirstOp) (top : Bool) (warned : List Bool) → op ≡ Sink → flagged op top warned ≡ warned ++ top ∷ []
flagged-sink (Load n) top warned e = cc
flagged-sink (Store n) top warned e = cc
flagged-sink Text top warned e = cc
flagged-sink Pop top warned e = cc
flagged-sink Source top warned e = cc
flagged-sink Sink top warned e = refl
flagged-sink Return top warned e = cc

pub flagged-other : (op : FirstOp) (top : Bool) (warned : List Bool) → (op ≡ Sink → ⊥) → flagged op top warned ≡ warned
flagged-other (Load n) top warned e = refl
flagged-other (Store n) top warned e = refl
flagged-other Text top warned e = refl
flagged-other Pop top warned e = refl
flagged-other Source top warned e = refl
flagged-other Sink top warned e = absurd (e refl)
flagged-other Return top warned e = refl

pub goes-on-from : (want warned warned' ls ss ls' ss' : List Bool) (xs : List FirstInstr) (i : ℕ) (d : FirstInstr) → i < length xs → Passing want warned ls ss (drop i xs) → warned' ≡ flagged (slice_index_or xs i d).op (top_of ss) warned → ls' ≡ locals_after (slice_index_or xs i d).op ls ss → ss' ≡ stack_after (slice_index_or xs i d).op ls ss → Passing want warned' ls' ss' (drop (i + 1) xs)
goes-on-from want warned warned' ls ss ls' ss' xs i d room p e-warned e-ls e-ss =
    let P : List FirstInstr → Type 0 = λ y. Passing want warned ls ss y in
    rw (e-warned, e-ls, e-ss) (goes-on want warned ls ss (slice_index_or xs i d) (drop (i + 1) xs) (subst P (drop_more xs i d room) p))
