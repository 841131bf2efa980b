-- What the private functions that write class files speak of. A reader of the public contracts need not look here.
use Rattle.std.specs.Prelude.{ℕ, ◌+◌, ◌≤◌, List, ◌++◌, length, map, Option}
use Rattle.std.specs.List.{flat_map}
use Rattle.ja_attributes.specs.Attribute.{handler_bytes}
use Rattle.ja_class.specs.ClassFile.{MemberInfo, member_bytes}
use Rattle.ja_listing.specs.declared.item.Frame.{Frame}
use Rattle.ja_writable.specs.declared.wants.Wants.{Wants}
use Rattle.ja_assembly.specs.Members.{Range}
use Rattle.ja_assembly.specs.Assembled.{Pool, u2, u4, row_of}

-- the pool of what is asked for
abbrev pub pool_in : Wants → Pool
pool_in w = record { strings = w.strings.keys; keys = w.keys.keys }

-- the entries have indices of two bytes
abbrev pub IsFew : Wants → Type 0
IsFew w = length w.strings.keys + length w.keys.keys ≤ 65534

-- their bytes
abbrev pub rows_in : Pool → (List ℕ → Option ℕ) → List Range → List ℕ
rows_in pool labels rs = flat_map handler_bytes (map (row_of pool labels) rs)

-- the content of the attribute of a code
abbrev pub content_bytes : Pool → (List ℕ → Option ℕ) → Frame → (code : List ℕ) → List Range → List ℕ
content_bytes pool labels frame code rs =
    u2 frame.stack.size ++ (u2 frame.locals.size ++ (u4 (length code) ++ (code ++ (u2 (length rs) ++ (rows_in pool labels rs ++ u2 0)))))

-- fields or methods, with their count
abbrev pub members_bytes : List MemberInfo → List ℕ
members_bytes infos = u2 (length infos) ++ flat_map member_bytes infos
