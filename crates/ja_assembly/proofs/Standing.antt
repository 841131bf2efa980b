-- Items that can be written where they stand, one after the other: what holds of all items of a class that can be written.
use Rattle.std.proofs.Common.{◌≡◌, ℕ, zero, suc, ◌+◌, ◌<◌, ◌≤◌, inl, inr, true, List, [], ◌∷◌, ◌++◌, length, drop, slice_get, Option, Some, None, refl, sym, subst, add-one, arith}
use Rattle.std.specs.Prelude.{codes}
use Rattle.std.proofs.lemmas.Bool.{true≢false, cases_lt}
use Rattle.ja_code.specs.Opcode.{form_at}
use Rattle.ja_listing.specs.declared.item.Item.{Item}
use Rattle.ja_listing.specs.declared.item.Item.TheVariants.{Field, Method, Initializer, Try, Instruction}
use Rattle.ja_listing.specs.declared.item.Operand.TheVariants.{Nothing}
use Rattle.ja_listing.specs.Listed.{Listed}
use Rattle.ja_assembly.specs.Members.{Body, expanded, plain_number, initializer_head, initializer_call, instruction, instructions, code_size, place_of_label}
use Rattle.ja_assembly.specs.Unwritable.{IsNoText, HasNoRoom, expansion, body_instructions, body_ranges, body_has_code, method_before, is_some_of, IsNoItemAt, IsNoMethod, head, item, too_much, IsWritable}
use Rattle.ja_assembly.proofs.ArgumentWords.{words_are}
use Rattle.ja_assembly.proofs.Methods.{extended_last}
use Rattle.ja_assembly.proofs.Items.{first_step, last_step}
use Rattle.ja_assembly.proofs.Texts.{constructor_text, no_parameters_text, no_parameters}

-- the method behind an item
abbrev pub after : Option Body → Item → Option Body
after old (Method flags name desc frame) = Some (record { member = record { flags = flags; name = name; desc = desc }; frame = frame; instructions = []; ranges = [] })
after old i = extended_last old (i ∷ [])

-- the code and the exception table of a method are not too long
abbrev pub IsShort : Option Body → Type 0
IsShort method = (code_size (body_instructions method) ≤ 65535) × (length (body_ranges method) ≤ 65535)

-- an item can be written behind these of its method, where these items stand from it on and those behind it
abbrev pub CanStandIn : Option Body → Item → (from behind : List Item) → Type 0
CanStandIn method i from behind =
    IsNoItemAt (body_has_code method) (place_of_label 0 (body_instructions method ++ instructions from)) (code_size (body_instructions method)) (is_some_of (instructions behind)) i → ⊥

abbrev pub CanStand : Option Body → Item → List Item → Type 0
CanStand method i behind = CanStandIn method i (i ∷ behind) behind

-- items can be written one after the other, where the first stands behind these of its method
abbrev pub AllStand : Option Body → List Item → Type 0
AllStand method [] = IsShort method
AllStand method (i ∷ items) = IsShort method × CanStand method i items × AllStand (after method i) items

-- ---- the constructor that calls that of a superclass

-- its four items, behind a method and before items; each can be written where the name of the superclass is a text
abbrev head_of : Option Body
head_of = after None initializer_head

abbrev loaded : Option Body
loaded = after head_of (instruction 42 Nothing)

abbrev called : List ℕ → Option Body
called superclass = after loaded (initializer_call superclass)

abbrev pub constructor : List ℕ → Option Body
constructor superclass = after (called superclass) (instruction 177 Nothing)

room : HasNoRoom (plain_number 1) (codes "()V") → ⊥
room h = let words = words_are (codes "()V") h.0 h.1 h.2 in omega (arith, words, h.3.1)

head_right : IsNoMethod (plain_number 1) (codes "<init>") (codes "()V") (Some (record { stack = plain_number 1; locals = plain_number 1 })) true → ⊥
head_right (inl h) = true≢false h
head_right (inr (inl h)) = constructor_text h
head_right (inr (inr (inl h))) = no_parameters_text h
head_right (inr (inr (inr (inl h)))) = h no_parameters
head_right (inr (inr (inr (inr (inl h))))) = room h
head_right (inr (inr (inr (inr (inr (inl (inl h))))))) = true≢false h
head_right (inr (inr (inr (inr (inr (inl (inr (inl h)))))))) = true≢false h
head_right (inr (inr (inr (inr (inr (inl (inr (inr h)))))))) = true≢false h
head_right (inr (inr (inr (inr (inr (inr h)))))) = true≢false h.1

module _ (superclass : List ℕ) (named : IsNoText superclass → ⊥) (behind : List Item) where
  load_stands : CanStand head_of (instruction 42 Nothing) (initializer_call superclass ∷ instruction 177 Nothing ∷ behind)
  unfolding form_at
  load_stands (inl h) = true≢false h
  load_stands (inr (inl h)) = true≢false (sym h)
  load_stands (inr (inr (inl h))) = true≢false h
  load_stands (inr (inr (inr h))) = h

  call_stands : CanStand loaded (initializer_call superclass) (instruction 177 Nothing ∷ behind)
  unfolding form_at
  call_stands (inl h) = true≢false h
  call_stands (inr (inl h)) = true≢false (sym h)
  call_stands (inr (inr (inl h))) = true≢false h
  call_stands (inr (inr (inr (inl (inl h))))) = named h
  call_stands (inr (inr (inr (inl (inr (inl h)))))) = constructor_text h
  call_stands (inr (inr (inr (inl (inr (inr (inl h))))))) = no_parameters_text h
  call_stands (inr (inr (inr (inl (inr (inr (inr h))))))) = h no_parameters
  call_stands (inr (inr (inr (inr h)))) = true≢false (sym h)

  return_stands : CanStand (called superclass) (instruction 177 Nothing) behind
  unfolding form_at
  return_stands (inl h) = true≢false h
  return_stands (inr (inl h)) = true≢false (sym h)
  return_stands (inr (inr (inl h))) = true≢false h
  return_stands (inr (inr (inr h))) = h

  pub constructor_stands : (old : Option Body) → IsShort old → AllStand (constructor superclass) behind → AllStand old (expanded superclass Initializer ++ behind)
  unfolding form_at
  constructor_stands old short rest =
      (short, head_right, ((omega arith, omega arith), load_stands, ((omega arith, omega arith), call_stands, ((omega arith, omega arith), return_stands, rest))))

-- ---- from the items of a class

here : {A : Type 0} (xs : List A) (k : ℕ) (x : A) (rest : List A) → drop k xs ≡ x ∷ rest → slice_get xs k ≡ Some x
here [] zero x rest e = cc
here [] (suc k) x rest e = cc
here (y ∷ xs) zero x rest e = cc
here (y ∷ xs) (suc k) x rest e = here xs k x rest e

behind_it : {A : Type 0} (xs : List A) (k : ℕ) (x : A) (rest : List A) → drop k xs ≡ x ∷ rest → drop (suc k) xs ≡ rest
behind_it [] zero x rest e = cc
behind_it [] (suc k) x rest e = cc
behind_it (y ∷ xs) zero x rest e = cc
behind_it (y ∷ xs) (suc k) x rest e = behind_it xs k x rest e

pub named_superclass : (c : Listed) → IsWritable c → IsNoText c.head.superclass → ⊥
named_superclass c can h = can 0 (head (inr (inr (inl h))))

pub few : (a b : ℕ) → (a < b → ⊥) → b ≤ a
few a b h = elim (cases_lt a b) [ inl more ↦ absurd (h more) | inr le ↦ le ]

module _ (c : Listed) (can : IsWritable c) where
  short : (k : ℕ) → IsShort (method_before c k)
  short k = (
    few 65535 (code_size (body_instructions (method_before c k))) (λ more. can k (too_much k (inr (inr (inr (inr (inr more))))))),
    few 65535 (length (body_ranges (method_before c k))) (λ more. can k (too_much k (inr (inr (inr (inr (inl more))))))),
  )

  -- the item of a place
  stands : (k : ℕ) (i : Item) (rest : List Item) → drop k c.items ≡ i ∷ rest → CanStandIn (method_before c k) i (expansion c (i ∷ rest)) (expansion c rest)
  stands k i rest e =
      let behind : drop (k + 1) c.items ≡ rest = rw add-one (behind_it c.items k i rest e) in
      let there : CanStandIn (method_before c k) i (expansion c (drop k c.items)) (expansion c (drop (k + 1) c.items)) = λ wrong. can (k + 1) (item k i (here c.items k i rest e) wrong) in
      subst (λ (items : List Item). CanStandIn (method_before c k) i (expansion c (i ∷ rest)) (expansion c items)) behind
      (subst (λ (items : List Item). CanStandIn (method_before c k) i (expansion c items) (expansion c (drop (k + 1) c.items))) e there)

  one_more : (k : ℕ) (i : Item) (rest : List Item) → slice_get c.items k ≡ Some i → CanStandIn (method_before c k) i (expansion c (i ∷ rest)) (expansion c rest)
      → AllStand (method_before c (k + 1)) (expansion c rest) → AllStand (method_before c k) (expansion c (i ∷ rest))
  one_more k (Field flags name desc) rest there right more = (short k, right, subst (λ (method : Option Body). AllStand method (expansion c rest)) (last_step c k (Field flags name desc) there refl) more)
  one_more k (Method flags name desc frame) rest there right more = (short k, right, subst (λ (method : Option Body). AllStand method (expansion c rest)) (first_step c k (Method flags name desc frame) _ there refl) more)
  one_more k Initializer rest there right more =
      constructor_stands c.head.superclass (named_superclass c can) (expansion c rest) (method_before c k) (short k) (subst (λ (method : Option Body). AllStand method (expansion c rest)) (first_step c k Initializer _ there refl) more)
  one_more k (Try start end handler catch) rest there right more = (short k, right, subst (λ (method : Option Body). AllStand method (expansion c rest)) (last_step c k (Try start end handler catch) there refl) more)
  one_more k (Instruction label opcode operand) rest there right more =
      (short k, right, subst (λ (method : Option Body). AllStand method (expansion c rest)) (last_step c k (Instruction label opcode operand) there refl) more)

  -- the items from a place on
  pub all_stand : (k : ℕ) (rest : List Item) → drop k c.items ≡ rest → AllStand (method_before c k) (expansion c rest)
  all_stand k [] e = short k
  all_stand k (i ∷ rest) e =
      one_more k i rest (here c.items k i rest e) (stands k i rest e) (all_stand (k + 1) rest (rw add-one (behind_it c.items k i rest e)))
