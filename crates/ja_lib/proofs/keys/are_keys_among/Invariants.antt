use Rattle.std.proofs.Common.{◌≡◌, map}
use Rattle.toml.specs.View.{members_view}
use Rattle.ja_lib.specs.File.{keys_among}
use Rattle.ja_lib.proofs.keys.are_keys_among.Given as goal

abbrev pub invariant-members : goal.invariant-members
invariant-members l =
    (goal.iterator-members).can_next l.key-iterator × (goal.iterator-members).is_finite l.key-iterator
    × (keys_among (map (λ name. name.now) l.names) (members_view l.key-iterator) ≡ keys_among (map (λ name. name.now) l.names) (members_view l.table.entries))
