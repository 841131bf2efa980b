-- Numbers in the bytes of an instruction, and what they stand for.
use Rattle.std.specs.Prelude.{ℕ, zero, suc, ◌+◌, ◌-◌, ◌*◌, ◌%◌, List, [], ◌∷◌, Bool, slice_index, nat_lt, ◌==◌, ◌||◌, if◌then◌else◌}
use Rattle.ja_base.specs.Tag as pool_tag
use Rattle.ja_code.specs.declared.form.Entry.{Entry}
use Rattle.ja_code.specs.declared.form.Entry.TheVariants.{Loadable, TwoWord, Field, Method, InterfaceMethod, AnyMethod, Class}

-- the number that two bytes spell, and that four bytes spell, the high byte first
abbrev pub u2 : ℕ → ℕ → ℕ
u2 a b = 256 * a + b

abbrev pub u4 : ℕ → ℕ → ℕ → ℕ → ℕ
u4 a b c d = 256 * (256 * (256 * a + b) + c) + d

-- the number that the two bytes from a place on spell, and that the four bytes do
abbrev pub u2_at : List ℕ → ℕ → ℕ
u2_at bytes k = u2 (slice_index bytes k) (slice_index bytes (k + 1))

abbrev pub u4_at : List ℕ → ℕ → ℕ
u4_at bytes k =
    u4 (slice_index bytes k) (slice_index bytes (k + 1)) (slice_index bytes (k + 2)) (slice_index bytes (k + 3))

-- The place that an offset of four bytes in two's complement leads to from pc. One before the start of
-- the code comes out far behind its end.
abbrev pub far : ℕ → ℕ → ℕ
far pc n = (pc + n) % 4294967296

-- the place that an offset of two bytes in two's complement leads to from pc
abbrev pub near : ℕ → ℕ → ℕ
near pc n = far pc (if nat_lt n 32768 then n else n + 4294901760)

-- the places that count offsets of four bytes lead to from pc, where the first offset is at this place of the bytes, and
-- each next one a stride on
abbrev pub places : ℕ → List ℕ → ℕ → ℕ → ℕ → List ℕ
places pc bytes stride first zero = []
places pc bytes stride first (suc count) = far pc (u4_at bytes first) ∷ places pc bytes stride (first + stride) count

-- the place of a number of four bytes in two's complement among all of them, from the least one up
abbrev pub rank : ℕ → ℕ
rank n = (n + 2147483648) % 4294967296

-- the number of bytes between the opcode of a switch at pc and the next multiple of four
abbrev pub padding : ℕ → ℕ
padding pc = 3 - pc % 4

-- the tag of the pool entry at an index, or 0
abbrev pub tag_at : List ℕ → ℕ → ℕ
tag_at tags i = slice_index tags i

-- whether an entry with this tag is what an index must name (JVM specification 4.4 and 6.5)
abbrev pub names : Entry → ℕ → Bool
names Loadable tag = tag == pool_tag.integer || tag == pool_tag.float || tag == pool_tag.class || tag == pool_tag.string
names TwoWord tag = tag == pool_tag.long || tag == pool_tag.double
names Field tag = tag == pool_tag.field
names Method tag = tag == pool_tag.method
names InterfaceMethod tag = tag == pool_tag.interface_method
names AnyMethod tag = tag == pool_tag.method || tag == pool_tag.interface_method
names Class tag = tag == pool_tag.class
