use Rattle.std.proofs.Common.{◌≡◌, ℕ, ◌<◌, ◌≤◌, ◌^◌, sym, ap, ◌∙◌, subst, arith}
use Rattle.ja_node_core.specs.Tree.{Tree}
use Rattle.ja_node_core.specs.Word.{var_of, low_of, high_of}
use Rattle.ja_node_core.specs.Machine.{word_at}
use Rattle.ja_node_table.specs.declared.view.View.{View}
use Rattle.ja_node_table.specs.Rule.{HasSeen}
use Rattle.ja_node_table.proofs.Seen.{seen_plan, seen_grows, seen_same}
use Rattle.ja_node_table.proofs.Steps.{looks_allowed}
use Rattle.ja_node_table.proofs.Views.{known_below, known_node, node_word, known_positive}
use Rattle.ja_node_table.proofs.table.NodeTable.parts.Goals as goal

pub load-word-requires : goal.load-word-requires
load-word-requires g c =
    let t = c.args.self.now in
    let v = c.args.seat.now.seat.me.0 in
    let x = t.table.shared.key in
    let plan = ap (λ h. h.plan) c.requires.seat in
    let below = known_below g.A.Aim.aims v x c.args.n.number c.args.seat.now.part plan (known_positive (word_at v.known) c.args.n.number c.requires.node.0 c.requires.node.1) in
    let counted = t.counted in
    (ap (λ h. h.table) c.requires.seat, omega arith, looks_allowed g.A.Aim.aims x _ _ _ _ plan)

-- what was loaded is the word that the seat knew
loaded : {A : Type 0} (aims : A → Tree → Type 0) (before after : View A) (n w : ℕ) → 0 < word_at before.known n → HasSeen aims before n w after → word_at before.known n ≡ w
loaded aims before after n w pos has = sym (seen_grows aims before after n w has n pos) ∙ has.here

pub of_word-requires : goal.of_word-requires
of_word-requires g c =
    let v = c.args.seat.now.seat.me.0 in
    let known = word_at v.known in
    let pos = known_positive known c.args.n.number c.requires.node.0 c.requires.node.1 in
    let same = loaded g.A.Aim.aims v c.load-word.new.seat.me.0 c.args.n.number c.load-word.result pos c.load-word.ensures.2.1 in
    let node = known_node g.A.Aim.aims v c.args.n.number c.args.seat.now.part c.requires.node.0 c.requires.node.1 in
    (subst (λ w. 2 ^ 52 ≤ w) same (node_word known (known c.args.n.number) node), c.load-word.type_inv, subst (λ w. var_of w ≤ 4094) same node.small)

pub returns-clause-seat : goal.returns-clause-seat
returns-clause-seat g c =
    let v = c.args.seat.now.seat.me.0 in
    let now = c.load-word.new.seat.me.0 in
    let has = c.load-word.ensures.2.1 in
    let pos = known_positive (word_at v.known) c.args.n.number c.requires.node.0 c.requires.node.1 in
    let same = loaded g.A.Aim.aims v now c.args.n.number c.load-word.result pos has in
    let table = c.load-word.ensures.0 ∙ ap (λ h. h.table) c.requires.seat in
    let plan = seen_plan g.A.Aim.aims v now _ _ has ∙ ap (λ h. h.plan) c.requires.seat in (
      (λ i. record { table = table i; plan = plan i }),
      (λ i p. seen_same g.A.Aim.aims v now c.args.n.number c.load-word.result has same p i),
    )

pub returns-clause-parts : goal.returns-clause-parts
returns-clause-parts g c =
    let v = c.args.seat.now.seat.me.0 in
    let pos = known_positive (word_at v.known) c.args.n.number c.requires.node.0 c.requires.node.1 in
    let same = sym (loaded g.A.Aim.aims v c.load-word.new.seat.me.0 c.args.n.number c.load-word.result pos c.load-word.ensures.2.1) in
    let parts = c.of_word.ensures in
    (parts.0 ∙ ap var_of same, parts.1 ∙ ap low_of same, parts.2 ∙ ap high_of same)

pub returns-clause-node : goal.returns-clause-node
returns-clause-node g c = known_node g.A.Aim.aims c.args.seat.now.seat.me.0 c.args.n.number c.args.seat.now.part c.requires.node.0 c.requires.node.1
