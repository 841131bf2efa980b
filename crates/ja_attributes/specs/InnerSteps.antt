-- The steps of reading. Only private functions speak of them.
use Rattle.std.specs.Prelude.{ℕ, ◌+◌, ◌<◌, ◌^◌, List, [], length}
use Rattle.ja_bytes.specs.Reading.{Reading}
use Rattle.ja_pool.specs.Table.{Table}
use Rattle.ja_code.specs.declared.fault.CodeFault.{CodeFault}
use Rattle.ja_code.specs.declared.fault.CodeFault.TheVariants as faults
use Rattle.ja_attributes.specs.declared.fault.AttributeFault.{AttributeFault}
use Rattle.ja_attributes.specs.declared.fault.AttributeFault.TheVariants.{Undecodable, Memory}
use Rattle.ja_attributes.specs.declared.attribute.Attribute.{Attribute}
use Rattle.ja_attributes.specs.Part.{Part, value, here, rest, ◌>>=◌}
use Rattle.ja_attributes.specs.Faults.{attribute}

-- a reading of bytes that begin this far into the file
abbrev pub onward : ℕ → Reading → Reading
onward base r = record { place = base + r.place; rest = r.rest }

-- the bytes end at a place that fits 64 bits; this is known of a file, which begins at 0
abbrev pub IsWithin : ℕ → Reading → Type 0
IsWithin base r = 0 < base → base + r.place + length r.rest < 2 ^ 64

-- the reading behind all the bytes that are left
abbrev pub behind_all : Reading → Reading
behind_all r = record { place = r.place + length r.rest; rest = [] }

-- an attribute: its place, the index of its name, the place of its content, and the content
pub record Head : Type 0 where
  pub at : ℕ
  pub name : ℕ
  pub from : ℕ
  pub content : List ℕ

-- an attribute without where it lies in memory
abbrev pub seen : Attribute → Head
seen a = record { at = a.at; name = a.name; from = a.from; content = a.content.now }

-- the reading of the content
abbrev pub content_of : Head → Reading
content_of h = record { place = h.from; rest = h.content }

-- an attribute whatever its content is
unfoldable pub head : Table → Part AttributeFault Head
head table = attribute table (λ at name. do
  from ← here
  content ← rest
  value (record { at = at; name = name; from = from; content = content }))

-- the fault of a code array that decoding gives
abbrev pub undecodable : CodeFault → AttributeFault
undecodable faults.Memory = Memory
undecodable wrong = Undecodable wrong
