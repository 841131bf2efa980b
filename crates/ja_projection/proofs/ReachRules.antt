-- The rules of reachability after a change that keeps the call graph, pairs and effects.
use Rattle.std.proofs.Common.{List, [], ◌∷◌}
use Rattle.ja_ir.specs.Params.{param_local}
use Rattle.ja_facts.specs.Slots.{Local, argument}
use Rattle.ja_facts.specs.ClassSets.{Fact as ClassFact}
use Rattle.ja_facts.specs.Sharing.{Fact as HeapFact, Name, root_name}
use Rattle.ja_facts.specs.Reaching.{Fact, ReachAt, Rule, run_begins, entered_begins, kept, copied, made, object_loaded, object_loaded_reached, object_loaded_itself, static_loaded, static_loaded_reached, static_loaded_itself, written, static_written, within, absorbed, library_ends, library_throws, library_itself, library_argument, library_argument_reached, library_argument_itself, library_member, library_member_reached, crossing_kept, affected_reaches, answer_reaches, answer_reached, answer_itself, throws_new, throw_kept, thrown, thrown_reached, thrown_itself}
use Rattle.ja_projection.proofs.Changes.{Change, changed}
use Rattle.ja_projection.proofs.Premises.{is-source, leads-from, method-at, is-handled, is-run}
use Rattle.ja_projection.proofs.Steps.{started, is-reference, takes-no_call, static-no_call, writes-no_call, writes_static-no_call, makes-no_call, enters, crosses, step, library-call, library-answer, library-ends, raises-new, throws-to}

module _ (w : Change) (C D : ClassFact → Type 0) (known : (f : ClassFact) → C f → D f) (H K : HeapFact → Type 0) (shared : (f : HeapFact) → H f → K f) where
  pub reach-rule : (ps : List Fact) (f : Fact) → Rule w.program C H ps f → Rule (changed w) D K ps f
  reach-rule _ _ (run_begins {m = m} method s k x b hs hk) =
      let it = method-at w m method b in
      started (λ (z : Name). Rule (changed w) D K [] (ReachAt m 0 z (Local (param_local method k)))) method it.code s
      (run_begins (record method { code = it.code }) s k (is-run w x) it.has (is-reference method it.code s hs) hk)
  reach-rule _ _ (entered_begins {m = m} {i = i} {n = n} {under = under} method s k x b hs hk) =
      let it = method-at w n method b in
      started (λ (z : Name). Rule (changed w) D K (ReachAt m i (root_name under s) (argument under k) ∷ []) (ReachAt n 0 z (Local (param_local method k)))) method it.code s
      (entered_begins (record method { code = it.code }) s k (enters w C D known x) it.has hs hk)
  reach-rule _ _ (kept s n a b) = kept (step w C D known s n) n a b
  reach-rule _ _ (copied s n x y d) = copied (step w C D known s n) n x y d
  reach-rule _ _ (made s x) = made (step w C D known s (makes-no_call x)) x
  reach-rule _ _ (object_loaded s x b) = object_loaded (step w C D known s (takes-no_call x)) x b
  reach-rule _ _ (object_loaded_reached s x l h a) = object_loaded_reached (step w C D known s (takes-no_call x)) x l (shared _ h) a
  reach-rule _ _ (object_loaded_itself s x) = object_loaded_itself (step w C D known s (takes-no_call x)) x
  reach-rule _ _ (static_loaded s x b) = static_loaded (step w C D known s (static-no_call x)) x b
  reach-rule _ _ (static_loaded_reached s x l h a) = static_loaded_reached (step w C D known s (static-no_call x)) x l (shared _ h) a
  reach-rule _ _ (static_loaded_itself s x) = static_loaded_itself (step w C D known s (static-no_call x)) x
  reach-rule _ _ (written s x a b) = written (step w C D known s (writes-no_call x)) x a b
  reach-rule _ _ (static_written s x b) = static_written (step w C D known s (writes_static-no_call x)) x b
  reach-rule _ _ (within l) = within (library-call w C D known l).has
  reach-rule _ _ (absorbed {call = call} x v l s b live h) =
      let it = library-call w C D known l in
      absorbed x v it.has (is-source call it.flow x call.row.effect s) b live (shared _ h)
  reach-rule _ _ (library_ends e a b) = library_ends (library-ends w C D known e) a b
  reach-rule _ _ (library_throws l h) = library_throws (library-call w C D known l).has (is-handled w h)
  reach-rule _ _ (library_itself l n) = library_itself (library-answer w C D known l).has n
  reach-rule _ _ (library_argument l e b s) = library_argument (library-answer w C D known l).has e b s
  reach-rule _ _ (library_argument_reached l e b s) = library_argument_reached (library-answer w C D known l).has e b s
  reach-rule _ _ (library_argument_itself l e b) = library_argument_itself (library-answer w C D known l).has e b
  reach-rule _ _ (library_member {call = call} k l s b) =
      let it = library-answer w C D known l in
      library_member k it.has (leads-from call it.flow k call.row.result s) b
  reach-rule _ _ (library_member_reached {call = call} k l s live h a) =
      let it = library-answer w C D known l in
      library_member_reached k it.has (leads-from call it.flow k call.row.result s) live (shared _ h) a
  reach-rule _ _ (crossing_kept x c a b) = crossing_kept x (crosses w C D known c) a b
  reach-rule _ _ (affected_reaches x s r c hs hr l e h a b) = affected_reaches x s r (crosses w C D known c) hs hr l (shared _ e) (shared _ h) a b
  reach-rule _ _ (answer_reaches x r c hr e b) = answer_reaches x r (crosses w C D known c) hr e b
  reach-rule _ _ (answer_reached x r c hr e l h a) = answer_reached x r (crosses w C D known c) hr e l (shared _ h) a
  reach-rule _ _ (answer_itself x c e) = answer_itself x (crosses w C D known c) e
  reach-rule _ _ (throws_new x) = throws_new (raises-new w C D known x)
  reach-rule _ _ (throw_kept x a b) = throw_kept (raises-new w C D known x) a b
  reach-rule _ _ (thrown x b) = thrown (throws-to w C D known x) b
  reach-rule _ _ (thrown_reached x a) = thrown_reached (throws-to w C D known x) a
  reach-rule _ _ (thrown_itself x) = thrown_itself (throws-to w C D known x)
