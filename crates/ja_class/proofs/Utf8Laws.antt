-- The test of a text is that of its characters.
use Rattle.std.proofs.Common.{◌≡◌, ℕ, zero, suc, ◌-◌, ◌≤◌, ◌⊎◌, inl, inr, Bool, true, false, cond, leb, eqb, List, [], ◌∷◌, ◌++◌, Some, None, ◌&&◌, refl, sym, ap, subst, ◌∙◌, arith}
use Rattle.std.specs.List.{flat_map, AllByRecursion}
use Rattle.std.proofs.lemmas.Bool.{leb-true, le-leb, lt-leb, eqb-true, ne_eqb}
use Rattle.std.proofs.lemmas.List.Concat.{flat_map-cons}
use Rattle.ja_class.specs.Pool.{IsContinuation, IsCharacter, IsModifiedUtf8}
use Rattle.ja_class.specs.InnerReading.{left_after, is_utf8}
use Rattle.ja_class.proofs.Exact.{chosen, guard_holds, some_is}
use Rattle.ja_class.proofs.PoolLaws.{and_holds}
use Rattle.ja_class.proofs.FrameLaws.{holds_takes}

abbrev all_of : List (List ℕ) → List ℕ
all_of characters = flat_map (λ c. c) characters

-- the last bytes of a character, and whole characters after it
abbrev EndsCharacter : ℕ → List ℕ → Type 0
EndsCharacter zero bytes = IsModifiedUtf8 bytes
EndsCharacter (suc more) bytes = (b : ℕ) × (rest : List ℕ) × (bytes ≡ b ∷ rest) × IsContinuation b × EndsCharacter more rest

in_range : (low n high : ℕ) → (leb low n && leb n high) ≡ true → (low ≤ n) × (n ≤ high)
in_range low n high e = let b = and_holds (leb low n) (leb n high) e in (leb-true low n b.0, leb-true n high b.1)

one_more : (c bytes : List ℕ) → IsCharacter c → IsModifiedUtf8 bytes → IsModifiedUtf8 (c ++ bytes)
one_more c bytes h m = (c ∷ m.0, (h, m.1), ap (λ (t : List ℕ). c ++ t) m.2 ∙ sym (flat_map-cons (λ c. c) c m.0))

-- what is left after the first byte of a character
first_left : (b x : ℕ) → left_after 0 b ≡ Some x
    → ((0x01 ≤ b) × (b ≤ 0x7f) × (x ≡ 0)) ⊎ (((0xc0 ≤ b) × (b ≤ 0xdf) × (x ≡ 1)) ⊎ ((0xe0 ≤ b) × (b ≤ 0xef) × (x ≡ 2)))
unfolding left_after
first_left b x e =
    elim (chosen (leb 0x01 b && leb b 0x7f) _ _ (Some x) e) [
      | inl h ↦ let r = in_range 0x01 b 0x7f h.0 in inl (r.0, r.1, sym (some_is 0 x h.1))
      | inr h ↦
          elim (chosen (leb 0xc0 b && leb b 0xdf) _ _ (Some x) h.1) [
            | inl h ↦ let r = in_range 0xc0 b 0xdf h.0 in inr (inl (r.0, r.1, sym (some_is 1 x h.1)))
            | inr h ↦ let g = guard_holds (leb 0xe0 b && leb b 0xef) (Some 2) x h.1 in let r = in_range 0xe0 b 0xef g.0 in inr (inr (r.0, r.1, sym (some_is 2 x g.1)))
          ]
    ]

next_left : (more b x : ℕ) → left_after (suc more) b ≡ Some x → IsContinuation b × (x ≡ more)
unfolding left_after
next_left more b x e =
    let test : eqb (suc more) 0 ≡ false = ne_eqb (suc more) 0 (λ h. absurd (omega arith)) in
    let h : cond (leb 0x80 b && leb b 0xbf) (Some (suc more - 1)) None ≡ Some x = sym (ap (λ (t : Bool). cond t (cond (leb 0x01 b && leb b 0x7f) (Some 0) (cond (leb 0xc0 b && leb b 0xdf) (Some 1) (cond (leb 0xe0 b && leb b 0xef) (Some 2) None))) (cond (leb 0x80 b && leb b 0xbf) (Some (suc more - 1)) None)) test) ∙ e in
    let g = guard_holds (leb 0x80 b && leb b 0xbf) (Some (suc more - 1)) x h in
    let less : suc more - 1 ≡ more = omega arith in
    (in_range 0x80 b 0xbf g.0, sym (some_is (suc more - 1) x g.1) ∙ less)

begun : (b : ℕ) (bytes : List ℕ) (x : ℕ) → left_after 0 b ≡ Some x → EndsCharacter x bytes → IsModifiedUtf8 (b ∷ bytes)
begun b bytes x e h =
    elim (first_left b x e) [
      | inl f ↦ let m : IsModifiedUtf8 bytes = subst (λ (n : ℕ). EndsCharacter n bytes) f.2 h in one_more (b ∷ []) bytes (f.0, f.1) m
      | inr f ↦ elim f [
        | inl f ↦
            let m : EndsCharacter 1 bytes = subst (λ (n : ℕ). EndsCharacter n bytes) f.2 h in
            subst (λ (t : List ℕ). IsModifiedUtf8 (b ∷ t)) (sym m.2) (one_more (b ∷ m.0 ∷ []) m.1 (f.0, f.1, m.3) m.4)
        | inr f ↦
            let m : EndsCharacter 2 bytes = subst (λ (n : ℕ). EndsCharacter n bytes) f.2 h in
            let n = m.4 in
            subst (λ (t : List ℕ). IsModifiedUtf8 (b ∷ t)) (sym (m.2 ∙ ap (λ (t : List ℕ). m.0 ∷ t) n.2)) (one_more (b ∷ m.0 ∷ n.0 ∷ []) n.1 (f.0, f.1, m.3, n.3) n.4)
      ]
    ]

ends : (more : ℕ) (bytes : List ℕ) → is_utf8 more bytes ≡ true → EndsCharacter more bytes
unfolding is_utf8
ends zero [] e = ([], tt, refl)
ends (suc more) [] e = absurd (omega (arith, eqb-true (suc more) 0 e))
ends zero (b ∷ bytes) e =
    let h = holds_takes (left_after 0 b) (λ left. is_utf8 left bytes) e in
    begun b bytes h.0 h.1 (ends h.0 bytes h.2)
ends (suc more) (b ∷ bytes) e =
    let h = holds_takes (left_after (suc more) b) (λ left. is_utf8 left bytes) e in
    let n = next_left more b h.0 h.1 in
    (b, bytes, refl, n.0, subst (λ (k : ℕ). EndsCharacter k bytes) n.1 (ends h.0 bytes h.2))

pub utf8_takes : (bytes : List ℕ) → is_utf8 0 bytes ≡ true → IsModifiedUtf8 bytes
utf8_takes bytes e = ends 0 bytes e

first_one : (a : ℕ) → 0x01 ≤ a → a ≤ 0x7f → left_after 0 a ≡ Some 0
unfolding left_after
first_one a low high = rw (le-leb 0x01 a low, le-leb a 0x7f high) refl

first_two : (a : ℕ) → 0xc0 ≤ a → a ≤ 0xdf → left_after 0 a ≡ Some 1
unfolding left_after
first_two a low high = rw (le-leb 0x01 a (omega arith), lt-leb a 0x7f (omega arith), le-leb 0xc0 a low, le-leb a 0xdf high) refl

first_three : (a : ℕ) → 0xe0 ≤ a → a ≤ 0xef → left_after 0 a ≡ Some 2
unfolding left_after
first_three a low high = rw (le-leb 0x01 a (omega arith), lt-leb a 0x7f (omega arith), le-leb 0xc0 a (omega arith), lt-leb a 0xdf (omega arith), le-leb 0xe0 a low, le-leb a 0xef high) refl

left_one : (b : ℕ) → IsContinuation b → left_after 1 b ≡ Some 0
unfolding left_after
left_one b h = rw (le-leb 0x80 b h.0, le-leb b 0xbf h.1) refl

left_two : (b : ℕ) → IsContinuation b → left_after 2 b ≡ Some 1
unfolding left_after
left_two b h = rw (le-leb 0x80 b h.0, le-leb b 0xbf h.1) refl

character_again : (c bytes : List ℕ) → IsCharacter c → is_utf8 0 (c ++ bytes) ≡ is_utf8 0 bytes
unfolding is_utf8
character_again [] bytes h = absurd h
character_again (a ∷ []) bytes h = rw (first_one a h.0 h.1) refl
character_again (a ∷ (b ∷ [])) bytes h = rw (first_two a h.0 h.1, left_one b h.2) refl
character_again (a ∷ (b ∷ (c ∷ []))) bytes h = rw (first_three a h.0 h.1, left_two b h.2, left_one c h.3) refl
character_again (a ∷ (b ∷ (c ∷ (d ∷ rest)))) bytes h = absurd h

characters_again : (cs : List (List ℕ)) → AllByRecursion IsCharacter cs → is_utf8 0 (all_of cs) ≡ true
unfolding is_utf8
characters_again [] h = refl
characters_again (c ∷ cs) h = ap (is_utf8 0) (flat_map-cons (λ c. c) c cs) ∙ (character_again c (all_of cs) h.0 ∙ characters_again cs h.1)

pub utf8_again : (bytes : List ℕ) → IsModifiedUtf8 bytes → is_utf8 0 bytes ≡ true
utf8_again bytes m = ap (is_utf8 0) m.2 ∙ characters_again m.0 m.1
