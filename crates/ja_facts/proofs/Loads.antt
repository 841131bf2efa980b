-- A load moves the truth with the value.
use Rattle.std.proofs.Common.{◌≡◌, ℕ, ◌≤◌, Bool, ap, subst, arith}
use Rattle.ja_base.specs.declared.java_type.Kind.{Kind}
use Rattle.ja_ir.specs.declared.op.Op.{Op}
use Rattle.ja_ir.specs.declared.op.Op.TheVariants.{Load}
use Rattle.ja_ir.specs.Operations.{height_after}
use Rattle.ja_facts.specs.Slots.{Slot, Local, OnStack, Copies, kept_local, kept_stack, loaded, stored, shuffled, checked}
use Rattle.ja_facts.specs.Sharing.{Makes, makes_text, makes_object, makes_array, Writes, writes_field, writes_element}
use Rattle.ja_facts.specs.Analyses.{Analyses}
use Rattle.ja_facts.specs.Formulas.{Assignment, Turns, Loads, loads_field, loads_element, copied, above, constant, made, measured, tested, mixed, loaded as read_loaded, static_loaded, written, absorbed, answered}

-- what a load pushes is a copy of its local alone
load-copies : {op : Op} {height : ℕ} {z y : Slot} (kind : Kind) (l : ℕ) → op ≡ Load kind l → y ≡ OnStack height → Copies op height z y → z ≡ Local l
load-copies kind l e f (kept_local k) = absurd (cc f)
load-copies {height = height} kind l e f (kept_stack {k = k} h) =
    absurd (let same : k ≡ height = cc f in omega (arith, h))
load-copies kind l e f loaded = cc e
load-copies kind l e f (stored h) = absurd (cc e)
load-copies kind l e f (shuffled under j k h g) = absurd (cc e)
load-copies kind l e f (checked h) = absurd (cc e)

no-make : {op : Op} {height : ℕ} {r : Slot} (kind : Kind) (l : ℕ) → op ≡ Load kind l → Makes op height r → ⊥
no-make kind l e makes_text = absurd (cc e)
no-make kind l e makes_object = absurd (cc e)
no-make kind l e (makes_array h) = absurd (cc e)

no-read : {op : Op} {height : ℕ} {x r : Slot} (kind : Kind) (l : ℕ) → op ≡ Load kind l → Loads op height x r → ⊥
no-read kind l e (loads_field h) = absurd (cc e)
no-read kind l e (loads_element h) = absurd (cc e)

no-write : {op : Op} {height : ℕ} {x v : Slot} (kind : Kind) (l : ℕ) → op ≡ Load kind l → Writes op height x v → ⊥
no-write kind l e (writes_field h) = absurd (cc e)
no-write kind l e (writes_element h) = absurd (cc e)

module _ (A : Analyses) (m i : ℕ) (b : Assignment) where
  pub load-turns : {op : Op} {height : ℕ} {y : Slot} {t : Bool} (kind : Kind) (l : ℕ) → op ≡ Load kind l → y ≡ OnStack height → Turns A m i b op height y t → t ≡ b.slot (Local l)
  load-turns kind l e f (copied c) = ap b.slot (load-copies kind l e f c)
  load-turns {height = height} kind l e f (above {k = k} h) =
      absurd (let same : k ≡ height = cc f in let after : height_after (Load kind l) height ≤ k = subst (λ (o : Op). height_after o height ≤ k) e h in omega (arith, after, same))
  load-turns kind l e f constant = absurd (cc e)
  load-turns kind l e f (made h) = absurd (no-make kind l e h)
  load-turns kind l e f (measured h) = absurd (cc e)
  load-turns kind l e f (tested h) = absurd (cc e)
  load-turns kind l e f (mixed h) = absurd (cc e)
  load-turns kind l e f (read_loaded h g) = absurd (no-read kind l e h)
  load-turns kind l e f static_loaded = absurd (cc e)
  load-turns kind l e f (written w c r g) = absurd (no-write kind l e w)
  load-turns kind l e f (absorbed under h c s g) = absurd (cc e)
  load-turns kind l e f (answered under h g j) = absurd (cc e)
