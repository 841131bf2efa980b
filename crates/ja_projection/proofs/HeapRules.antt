-- The rules of pairs and effects after a change that keeps the call graph.
use Rattle.std.proofs.Common.{List, [], ◌∷◌}
use Rattle.ja_facts.specs.ClassSets.{Fact as ClassFact}
use Rattle.ja_facts.specs.Sharing.{Fact, PairAt, Name, Old, start_name, root_name, Rule, turned, turned_within, statics_meet, statics_meet_old, run_begins, run_begins_old, entered_begins, entered_begins_old, kept, copied, made, object_loaded, object_loaded_meets, static_loaded, static_loaded_meets, static_loaded_shares, written, static_written, within, absorbed, library_ends, library_throws, library_meets, library_argument, library_argument_meets, library_member, crossing_kept, affected_meets, affected_answer, answer_meets, answer_meets_itself, throws_new, throw_kept, thrown, thrown_meets, written_effect, static_effect, library_effect, entered_effect}
use Rattle.ja_projection.proofs.Changes.{Change, changed}
use Rattle.ja_projection.proofs.Premises.{is-source, leads-from, method-at, instr-at, still-at, is-handled, is-run}
use Rattle.ja_projection.proofs.Steps.{started, is-reference, takes-no_call, static-no_call, writes-no_call, writes_static-no_call, makes-no_call, enters, crosses, step, library-call, library-answer, library-ends, raises-new, throws-to}

module _ (w : Change) (C D : ClassFact → Type 0) (known : (f : ClassFact) → C f → D f) where
  pub heap-rule : (ps : List Fact) (f : Fact) → Rule w.program C ps f → Rule (changed w) D ps f
  heap-rule _ _ turned = turned
  heap-rule _ _ turned_within = turned_within
  heap-rule _ _ (statics_meet {m = m} {i = i} instr e) = let it = instr-at w m i instr e in statics_meet (record instr { op = it.other }) it.has
  heap-rule _ _ (statics_meet_old {m = m} {i = i} instr e) = let it = instr-at w m i instr e in statics_meet_old (record instr { op = it.other }) it.has
  heap-rule _ _ (run_begins {m = m} method s r x b hs hr) =
      let it = method-at w m method b in
      started (λ (z : Name). Rule (changed w) D [] (PairAt m 0 z (start_name method r))) method it.code s
      (started (λ (z : Name). Rule (changed w) D [] (PairAt m 0 (start_name (record method { code = it.code }) s) z)) method it.code r
      (run_begins (record method { code = it.code }) s r (is-run w x) it.has (is-reference method it.code s hs) (is-reference method it.code r hr)))
  heap-rule _ _ (run_begins_old {m = m} method s r x b hs hr) =
      let it = method-at w m method b in
      started (λ (z : Name). Rule (changed w) D [] (PairAt m 0 z (Old r))) method it.code s
      (run_begins_old (record method { code = it.code }) s r (is-run w x) it.has (is-reference method it.code s hs) (is-reference method it.code r hr))
  heap-rule _ _ (entered_begins {m = m} {i = i} {n = n} {under = under} method s r x b hs hr) =
      let it = method-at w n method b in
      let first = PairAt m i (root_name under s) (root_name under r) in
      started (λ (z : Name). Rule (changed w) D (first ∷ []) (PairAt n 0 z (start_name method r))) method it.code s
      (started (λ (z : Name). Rule (changed w) D (first ∷ []) (PairAt n 0 (start_name (record method { code = it.code }) s) z)) method it.code r
      (entered_begins (record method { code = it.code }) s r (enters w C D known x) it.has hs hr))
  heap-rule _ _ (entered_begins_old {m = m} {i = i} {n = n} {under = under} method s r x b hs hr) =
      let it = method-at w n method b in
      started (λ (z : Name). Rule (changed w) D (PairAt m i (root_name under s) (root_name under r) ∷ []) (PairAt n 0 z (Old r))) method it.code s
      (entered_begins_old (record method { code = it.code }) s r (enters w C D known x) it.has hs hr)
  heap-rule _ _ (kept s n a b) = kept (step w C D known s n) n a b
  heap-rule _ _ (copied s n x y d) = copied (step w C D known s n) n x y d
  heap-rule _ _ (made s x) = made (step w C D known s (makes-no_call x)) x
  heap-rule _ _ (object_loaded s x k) = object_loaded (step w C D known s (takes-no_call x)) x k
  heap-rule _ _ (object_loaded_meets s x) = object_loaded_meets (step w C D known s (takes-no_call x)) x
  heap-rule _ _ (static_loaded s x k) = static_loaded (step w C D known s (static-no_call x)) x k
  heap-rule _ _ (static_loaded_meets s x) = static_loaded_meets (step w C D known s (static-no_call x)) x
  heap-rule _ _ (static_loaded_shares s x) = static_loaded_shares (step w C D known s (static-no_call x)) x
  heap-rule _ _ (written s x l a b) = written (step w C D known s (writes-no_call x)) x l a b
  heap-rule _ _ (static_written s x k) = static_written (step w C D known s (writes_static-no_call x)) x k
  heap-rule _ _ (within l) = within (library-call w C D known l).has
  heap-rule _ _ (absorbed {call = call} x v l s b live) =
      let it = library-call w C D known l in
      absorbed x v it.has (is-source call it.flow x call.row.effect s) b live
  heap-rule _ _ (library_ends e a b) = library_ends (library-ends w C D known e) a b
  heap-rule _ _ (library_throws l h) = library_throws (library-call w C D known l).has (is-handled w h)
  heap-rule _ _ (library_meets l n) = library_meets (library-answer w C D known l).has n
  heap-rule _ _ (library_argument l e b s) = library_argument (library-answer w C D known l).has e b s
  heap-rule _ _ (library_argument_meets l e b) = library_argument_meets (library-answer w C D known l).has e b
  heap-rule _ _ (library_member {call = call} k l s b) =
      let it = library-answer w C D known l in
      library_member k it.has (leads-from call it.flow k call.row.result s) b
  heap-rule _ _ (crossing_kept x c a b) = crossing_kept x (crosses w C D known c) a b
  heap-rule _ _ (affected_meets x s r c hs hr l a b) = affected_meets x s r (crosses w C D known c) hs hr l a b
  heap-rule _ _ (affected_answer x s c hs e l a) = affected_answer x s (crosses w C D known c) hs e l a
  heap-rule _ _ (answer_meets x r c hr e b) = answer_meets x r (crosses w C D known c) hr e b
  heap-rule _ _ (answer_meets_itself x c e) = answer_meets_itself x (crosses w C D known c) e
  heap-rule _ _ (throws_new x) = throws_new (raises-new w C D known x)
  heap-rule _ _ (throw_kept x a b) = throw_kept (raises-new w C D known x) a b
  heap-rule _ _ (thrown x b) = thrown (throws-to w C D known x) b
  heap-rule _ _ (thrown_meets x) = thrown_meets (throws-to w C D known x)
  heap-rule _ _ (written_effect o k x) = written_effect (still-at w o (writes-no_call x)) (known _ k) x
  heap-rule _ _ (static_effect o k x) = static_effect (still-at w o (writes_static-no_call x)) (known _ k) x
  heap-rule _ _ (library_effect {call = call} x l s) =
      let it = library-call w C D known l in
      library_effect x it.has (is-source call it.flow x call.row.effect s)
  heap-rule _ _ (entered_effect s x h) = entered_effect s (enters w C D known x) h
