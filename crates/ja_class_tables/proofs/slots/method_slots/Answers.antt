use Rattle.std.proofs.Common.{◌≡◌, ◌≤◌, ℕ, ◌+◌, ◌++◌, ◌∷◌, ◌∙◌, List, [], length, ap, subst, arith}
use Rattle.std.proofs.lemmas.List.{length_push}
use Rattle.ja_network.specs.declared.cell.Cell.{Cell}
use Rattle.ja_class_tables.specs.InnerPool.{AreNamed, cells_before, row_of}
use Rattle.ja_class_tables.proofs.Pools.{grows-on, row-on}
use Rattle.ja_class_tables.proofs.Rows.{below-push, below-all, none-named}
use Rattle.ja_class_tables.proofs.slots.method_slots.Goals as goal

pub loop-i-preserved : goal.loop-i-preserved
loop-i-preserved c =
    let net = c.args.net.now in
    let names = c.args.names.now in
    let graph = c.args.graph.now in
    let m = c.args.m in
    let i = c.loop-i.i in
    let old = c.loop-i.pool.sets in
    let new = c.row_names.new.pool.sets in
    let rows = c.loop-i.rows in
    let row = c.in_ok-row.row in
    let grown = c.in_ok-row.ensures.grows in
    let before = c.loop-i.invariant in
    let pushed : c.push.new.self ≡ rows ++ row ∷ [] = c.in_ok-push.ensures.ok ∙ ap (λ (r : List ℕ). rows ++ r ∷ []) c.as_slice.ensures in
    record {
      is_pool = c.in_ok-row.ensures.pool;
      grows = grows-on c.args.pool.now.sets old new before.grows grown;
      size = ap length pushed ∙ length_push rows row ∙ ap (λ n. n + 1) before.size;
      named = below-push (λ b (r : List ℕ). AreNamed net new (cells_before names graph m b) r) [] rows c.push.new.self row i before.size
          (λ b lt. row-on net old new (cells_before names graph m b) (row_of rows b) grown (before.named b lt))
          (subst (λ (cells : List Cell). AreNamed net new cells row) c.cells_before.ensures c.in_ok-row.ensures.named) pushed;
    }

pub returns-clause-named : goal.returns-clause-named
returns-clause-named c =
    let net = c.args.net.now in
    let names = c.args.names.now in
    let graph = c.args.graph.now in
    let m = c.args.m in
    let sets = c.loop-i.pool.sets in
    let before = c.loop-i.invariant in
    let all : c.args.size ≤ c.loop-i.i = c.loop-i-test.false in
    let room = c.requires.room in
    record {
      each = below-all (λ b (r : List ℕ). AreNamed net sets (cells_before names graph m b) r) [] c.loop-i.rows c.loop-i.i before.size before.named
          (λ b le. none-named net sets names graph m b (omega arith));
    }
