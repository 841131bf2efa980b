-- Parts behind their number, read one after another, and faults of parts.
use Rattle.std.proofs.Common.{◌≡◌, ℕ, suc, ◌⊎◌, inl, inr, List, ◌++◌, refl}
use Rattle.ja_bytes.specs.Reading.{Reading}
use Rattle.ja_pool.specs.declared.fault.PoolFault.{PoolFault}
use Rattle.ja_pool.specs.declared.fault.PoolFault.TheVariants as pool
use Rattle.ja_pool.specs.InnerShape.{OrMemory}
use Rattle.ja_attributes.specs.Part.{Part, u2, times}
use Rattle.ja_attributes.proofs.Completes.{Completes, times_stop, times_done}
use Rattle.ja_class.specs.declared.fault.ClassFault.{ClassFault}
use Rattle.ja_class.specs.declared.fault.ClassFault.TheVariants.{End, Memory}
use Rattle.ja_class.specs.Faults.{pool_fault}
use Rattle.ja_class.specs.ClassFault.{counted}

-- want of memory, or the fault of a part that stands in another
pub or_later : {P Q : Type 0} (f : ClassFault) → (P → Q) → (f ≡ Memory) ⊎ P → (f ≡ Memory) ⊎ Q
or_later f later (inl e) = inl e
or_later f later (inr p) = inr (later p)

module _ {A : Type 0} (part : Part ClassFault A) (old mid now : Reading) (count : ℕ) (before : List A) where
  abbrev Left : ℕ → Type 0
  Left n = Completes (λ (others : List A). before ++ others) (times count part) mid (times n part) now

  pub counted_stop : (n m : ℕ) → n ≡ suc m → (u2 End).passes old count mid → Left n → (f : ClassFault) → (f ≡ Memory) ⊎ part.fault now f → (f ≡ Memory) ⊎ (counted part).fault old f
  counted_stop n m e number left f h = or_later f (λ wrong. inr (count, mid, number, times_stop part (times count part) mid now before n m e left f wrong)) h

  pub counted_done : (n : ℕ) → n ≡ 0 → (u2 End).passes old count mid → Left n → (counted part).passes old before now
  counted_done n e number left = (count, mid, number, times_done part (times count part) mid now before n e left)

-- ---- the fault of a pool

-- the fault of a pool is want of memory, or it is such
pub pool_or_memory : (P : PoolFault → Type 0) (f : PoolFault) → OrMemory P f → (pool_fault f ≡ Memory) ⊎ P f
pool_or_memory P (pool.End at) h = inr h
pool_or_memory P (pool.BadTag at tag) h = inr h
pool_or_memory P (pool.PoolWidth at) h = inr h
pool_or_memory P (pool.BadText at) h = inr h
pool_or_memory P (pool.BadIndex at) h = inr h
pool_or_memory P pool.Memory h = inl refl
