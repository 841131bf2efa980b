use Rattle.std.proofs.Common.{◌≡◌, ◌∷◌, [], ◌++◌, unwrap_or, nat_cmp}
use Rattle.std.specs.Cmp.Lexicographic.{slice_cmp}
use Rattle.std.specs.BTreeMap.{get}
use Rattle.ja_base.proofs.Noted.{noted-one}
use Rattle.ja_base.proofs.index.NumbersByName.note.Goals as goal

pub returns-in-Ok : goal.returns-in-Ok
returns-in-Ok c = λ name.
    let is : c.push.new.self ≡ unwrap_or (get (slice_cmp nat_cmp) c.args.self.now.lists c.args.noted.now) [] ++ c.args.number ∷ [] =
    rw (c.in_ok-push.ensures.ok, c.unwrap_or-numbers.ensures, c.remove.ensures.value, c.new.ensures) in
    let inserted = rw c.in_ok-key.ensures at c.in-Ok.ensures.updates.0 in
    noted-one (get (slice_cmp nat_cmp) c.args.self.now.lists) (get (slice_cmp nat_cmp) c.remove.new.self) (get (slice_cmp nat_cmp) c.insert.new.self) c.args.noted.now name c.push.new.self c.args.number
    c.remove.ensures.updates.0 inserted is
