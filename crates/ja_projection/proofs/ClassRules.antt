-- The rules of class sets and the call graph, and those of held cells, after a change.
use Rattle.std.proofs.Common.{◌∙◌, ℕ, List, sym, subst}
use Rattle.std.specs.Prelude.{Contains}
use Rattle.ja_ir.specs.Handlers.{Inside, Outside}
use Rattle.ja_facts.specs.ClassSets.{Fact, Rule, env_object, env_fresh, initializer_runs, constructor_runs, entry_runs, constructor_receives, entry_receives, entry_takes, env_bag, next_reached, initializes, begins, moved, text_made, made, array_made, array_filled, got, got_static, put, put_static, text_field, element_got, element_put, throws_library, throws, handler_reached, handled, handler_keeps, thrown_out, found_method, found_abstract, found_library, selects_method, selects_abstract, selects_library, callee_reached, receives, hands, returned, answered, callee_throws, null_receiver, abstract_throws, library_throws, spans_itself, spans_field, spans_bag, taker, taken, library_fresh, library_filled, library_argument, library_member}
use Rattle.ja_facts.specs.Held.{Fact as HeldFact, Rule as HeldRule, holds_field, holds_bag, of_field}
use Rattle.ja_projection.proofs.Changes.{Change, changed}
use Rattle.ja_projection.proofs.Classes.{same-fits, same-absorbs, same-fresh, same-bagged}
use Rattle.ja_projection.proofs.Premises.{copies, throws-library, finds, can-be-called, is-source, leads-from, has-reference, method-at, op-at, still-at, call-at, leads, passes, goes, init-at, entry-at, is-entry, has-objects, is-constructor, is-initializer, has-field, is-outer, is-inner, dispatches}

module _ (w : Change) where
  pub class-rule : (ps : List Fact) (f : Fact) → Rule w.program ps f → Rule (changed w) ps f
  class-rule _ _ (env_object entry h) = let it = has-objects w h in env_object (record entry { marked = it.marked }) it.has
  class-rule _ _ (env_fresh entry method k t type x h c) =
      let it = is-entry w x in
      env_fresh (record entry { marked = it.marked }) (record method { code = it.has.code }) k t type it.has.has h (subst (λ (ts : List ℕ). Contains ts t) (sym (same-fresh w type)) c)
  class-rule _ _ (initializer_runs x) = initializer_runs (is-initializer w x)
  class-rule _ _ (constructor_runs {m = m} entry h c) = let it = has-objects w h in constructor_runs (record entry { marked = it.marked }) it.has (is-constructor w entry.class.0 m c)
  class-rule _ _ (entry_runs entry l) = let it = entry-at w entry l in entry_runs (record entry { marked = it.marked }) it.has
  class-rule _ _ (constructor_receives {m = m} entry h c) = let it = has-objects w h in constructor_receives (record entry { marked = it.marked }) it.has (is-constructor w entry.class.0 m c)
  class-rule _ _ (entry_receives entry h) = let it = has-objects w h in entry_receives (record entry { marked = it.marked }) it.has
  class-rule _ _ (entry_takes {t = t} entry method k type x h r fit) =
      let it = is-entry w x in
      entry_takes (record entry { marked = it.marked }) (record method { code = it.has.code }) k type it.has.has h r (same-fits w t type.name ∙ fit)
  class-rule _ _ (env_bag b) = env_bag b
  class-rule _ _ (next_reached l) = next_reached (leads w l)
  class-rule _ _ (initializes x) = initializes (init-at w x)
  class-rule _ _ (begins {m = m} method e) = let it = method-at w m method e in begins (record method { code = it.code }) it.has
  class-rule _ _ (moved {t = t} {height = height} {z = z} o l c s) = let it = op-at w o in moved it.has (leads w l) (copies it.related c) (passes w height z t it.related s)
  class-rule _ _ (text_made o l) = text_made (still-at w o tt) (leads w l)
  class-rule _ _ (made o l c) = made (still-at w o tt) (leads w l) c
  class-rule _ _ (array_made o l h x) = array_made (still-at w o tt) (leads w l) h (is-outer w x)
  class-rule _ _ (array_filled o x) = array_filled (still-at w o tt) (is-inner w x)
  class-rule _ _ (got o l) = got (still-at w o tt) (leads w l)
  class-rule _ _ (got_static o l) = got_static (still-at w o tt) (leads w l)
  class-rule _ _ (put o) = put (still-at w o tt)
  class-rule _ _ (put_static o) = put_static (still-at w o tt)
  class-rule _ _ (text_field field e t) = text_field field e t
  class-rule _ _ (element_got o l) = element_got (still-at w o tt) (leads w l)
  class-rule _ _ (element_put o) = element_put (still-at w o tt)
  class-rule _ _ (throws_library o t) = let it = op-at w o in throws_library it.has (throws-library it.related t)
  class-rule _ _ (throws o) = throws (still-at w o tt)
  class-rule _ _ (handler_reached {m = m} {i = i} {j = j} {t = t} d) = handler_reached (goes w m i t (Inside j) d)
  class-rule _ _ (handled {m = m} {i = i} {j = j} {t = t} d) = handled (goes w m i t (Inside j) d)
  class-rule _ _ (handler_keeps {m = m} {i = i} {j = j} {t = t} d) = handler_keeps (goes w m i t (Inside j) d)
  class-rule _ _ (thrown_out {m = m} {i = i} {t = t} d) = thrown_out (goes w m i t Outside d)
  class-rule _ _ (found_method {n = n} {call = call} method c f e k) =
      let it = call-at w c in
      let there = method-at w n method e in
      found_method (record method { code = there.code }) it.has (finds it.flow f) there.has (can-be-called call.kind method there.code k)
  class-rule _ _ (found_abstract {n = n} {call = call} method c f e k) =
      let it = call-at w c in
      let there = method-at w n method e in
      found_abstract (record method { code = there.code }) it.has (finds it.flow f) there.has (can-be-called call.kind method there.code k)
  class-rule _ _ (found_library c f) = let it = call-at w c in found_library it.has (finds it.flow f)
  class-rule _ _ (selects_method c k d) = let it = call-at w c in selects_method it.has k (dispatches w it.flow d)
  class-rule _ _ (selects_abstract c k d) = let it = call-at w c in selects_abstract it.has k (dispatches w it.flow d)
  class-rule _ _ (selects_library c k d) = let it = call-at w c in selects_library it.has k (dispatches w it.flow d)
  class-rule _ _ callee_reached = callee_reached
  class-rule _ _ (receives c k d) = let it = call-at w c in receives it.has k (dispatches w it.flow d)
  class-rule _ _ (hands c b k) = hands (call-at w c).has b k
  class-rule _ _ (returned o) = returned (still-at w o tt)
  class-rule _ _ (answered c l) = answered (call-at w c).has (leads w l)
  class-rule _ _ callee_throws = callee_throws
  class-rule _ _ (null_receiver c h) = null_receiver (call-at w c).has h
  class-rule _ _ abstract_throws = abstract_throws
  class-rule _ _ library_throws = library_throws
  class-rule _ _ spans_itself = spans_itself
  class-rule _ _ (spans_field f h) = spans_field f (has-field w h)
  class-rule _ _ (spans_bag {u = u} a) = spans_bag (same-absorbs w u ∙ a)
  class-rule _ _ (taker {b = b} {call = call} k c s a) =
      let it = call-at w c in
      taker k it.has (is-source call it.flow k call.row.effect s) (same-absorbs w b ∙ a)
  class-rule _ _ (taken c b) = taken (call-at w c).has b
  class-rule _ _ (library_fresh {t = t} {type = type} c l r h fit) =
      let it = call-at w c in
      library_fresh it.has (leads w l) (has-reference it.flow r) (subst (λ (ts : List ℕ). Contains ts t) (sym (same-fresh w type)) h) (same-fits w t type.name ∙ fit)
  class-rule _ _ (library_filled {t = t} {type = type} c r n h) =
      let it = call-at w c in
      library_filled it.has (has-reference it.flow r) n (subst (λ (ts : List ℕ). Contains ts t) (sym (same-bagged w type.name)) h)
  class-rule _ _ (library_argument {t = t} {type = type} c l r e b fit) =
      let it = call-at w c in
      library_argument it.has (leads w l) (has-reference it.flow r) e b (same-fits w t type.name ∙ fit)
  class-rule _ _ (library_member {u = u} {call = call} {type = type} k c l r s fit) =
      let it = call-at w c in
      library_member k it.has (leads w l) (has-reference it.flow r) (leads-from call it.flow k call.row.result s) (same-fits w u type.name ∙ fit)

  module _ (C D : Fact → Type 0) (known : (f : Fact) → C f → D f) where
    pub held-rule : (ps : List HeldFact) (f : HeldFact) → HeldRule w.program C ps f → HeldRule (changed w) D ps f
    held-rule _ _ (holds_field s h) = holds_field (known _ s) (has-field w h)
    held-rule _ _ (holds_bag {u = u} s a) = holds_bag (known _ s) (same-absorbs w u ∙ a)
    held-rule _ _ (of_field s) = of_field (known _ s)
