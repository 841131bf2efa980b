use Rattle.std.proofs.Common.{◌≡◌, ◌&&◌, true, false, List, ℕ, map, Bor, string_bytes, rules, sym, ◌∙◌}
use Rattle.toml.specs.View.{members_view}
use Rattle.ja_lib.specs.File.{keys_among}
use Rattle.ja_lib.proofs.Among.{key_step}
use Rattle.ja_lib.proofs.keys.are_keys_among.Goals as goal

pub returns-then-not-is_among : goal.returns-then-not-is_among
returns-then-not-is_among c =
    let names = map (λ (name : Bor (List ℕ)). name.now) c.args.names.now in
    let rest = keys_among names (members_view c.next.new.self) in
    let step : keys_among names (members_view c.members.key-iterator) ≡ (c.is_among.result && rest) =
    rw c.in-Some.ensures.steps (key_step c.args.names.now (string_bytes c.in-Some.key.now) c.as_str.result.now c.is_among.result rest c.as_str.ensures.value c.is_among.ensures) in
    let no : c.is_among.result ≡ false = search (rules, c.if-not-is_among.true) in
    sym (rw no at step) ∙ c.members.invariant.2

pub members-preserved : goal.members-preserved
members-preserved c =
    let names = map (λ (name : Bor (List ℕ)). name.now) c.args.names.now in
    let rest = keys_among names (members_view c.next.new.self) in
    let step : keys_among names (members_view c.members.key-iterator) ≡ (c.is_among.result && rest) =
    rw c.in-Some.ensures.steps (key_step c.args.names.now (string_bytes c.in-Some.key.now) c.as_str.result.now c.is_among.result rest c.as_str.ensures.value c.is_among.ensures) in
    let yes : c.is_among.result ≡ true = search (rules, c.if-not-is_among.false) in
    (tt, tt, sym (rw yes at step) ∙ c.members.invariant.2)
