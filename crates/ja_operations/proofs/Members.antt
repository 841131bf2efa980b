-- What an instruction names is in the pool.
use Rattle.std.proofs.Common.{◌≡◌, ℕ, ◌<◌, ◌≤◌, inl, inr, length, map, IsTrue, true, subst}
use Rattle.std.proofs.lemmas.Bool.{cases_lt}
use Rattle.std.proofs.lemmas.List.{get_or_past, length-map}
use Rattle.ja_pool.specs.Table.{Table, entry_tag, tag_at, is_member_tag}

-- an index with a tag is within the pool
pub tag_within : (pool : Table) (n : ℕ) → (tag_at pool n ≡ 0 → ⊥) → n < length pool
tag_within pool n tagged =
    elim (cases_lt n (length pool)) [
      | inl within ↦ within
      | inr past ↦
          let beyond : length (map entry_tag pool) ≤ n = rw length-map past in
          absurd (tagged (get_or_past (map entry_tag pool) n 0 beyond))
    ]

-- the tag of a member is one
pub member_tagged : (tag : ℕ) → IsTrue (is_member_tag tag) → tag ≡ 0 → ⊥
member_tagged tag member zero =
    let none : is_member_tag 0 ≡ true = subst (λ (t : ℕ). is_member_tag t ≡ true) zero member in
    cc
