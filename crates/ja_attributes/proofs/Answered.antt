-- What a reader of an exact part answers.
use Rattle.std.proofs.Common.{◌≡◌, ◌⊎◌, inl, inr, ap}
use Rattle.std.specs.Prelude.{Result, Ok, Err, IfOk, IfErr, MatchResult}
use Rattle.ja_bytes.specs.Reading.{Reading}
use Rattle.ja_attributes.specs.Part.{Part, Reads, ReadsUnless, IsExact}

module _ {F A X : Type 0} (view : X → A) (part : Part F A) (old new : Reading) where
  pub read_ok : (Q : A → Type 0) → ((a : A) → part.passes old a new → Q a) → (r : Result X F) → Reads view part old new r → IfOk r (λ x. Q (view x))
  read_ok Q go (Ok x) h = go (view x) h
  read_ok Q go (Err f) h = tt

  pub read_fault : (r : Result X F) → Reads view part old new r → IfErr r (λ f. part.fault old f)
  read_fault (Ok x) h = tt
  read_fault (Err f) h = h

  pub read_only : IsExact part → (r : Result X F) → Reads view part old new r → (a : A) (other : Reading) → part.passes old a other → MatchResult r (λ x. (view x ≡ a) × (new ≡ other)) (λ _. ⊥)
  read_only exact (Ok x) h a other p = exact.one_value old (view x) a new other h p
  read_only exact (Err f) h a other p = exact.not_both old a other f p h

  pub read_first : IsExact part → (r : Result X F) → Reads view part old new r → (f : F) → part.fault old f → r ≡ Err f
  read_first exact (Ok x) h f k = absurd (exact.not_both old (view x) new f h k)
  read_first exact (Err g) h f k = ap (λ (e : F). Err e) (exact.one_fault old g f h k)

module _ {F A X : Type 0} (memory : F) (view : X → A) (part : Part F A) (old new : Reading) where
  pub unless_ok : (Q : A → Type 0) → ((a : A) → part.passes old a new → Q a) → (r : Result X F) → ReadsUnless memory view part old new r → IfOk r (λ x. Q (view x))
  unless_ok Q go (Ok x) h = go (view x) h
  unless_ok Q go (Err f) h = tt

  pub unless_fault : (r : Result X F) → ReadsUnless memory view part old new r → IfErr r (λ f. (f ≡ memory) ⊎ part.fault old f)
  unless_fault (Ok x) h = tt
  unless_fault (Err f) h = h

  pub unless_only : IsExact part → (r : Result X F) → ReadsUnless memory view part old new r → (a : A) (other : Reading) → part.passes old a other
      → MatchResult r (λ x. (view x ≡ a) × (new ≡ other)) (λ f. f ≡ memory)
  unless_only exact (Ok x) h a other p = exact.one_value old (view x) a new other h p
  unless_only exact (Err f) (inl e) a other p = e
  unless_only exact (Err f) (inr h) a other p = absurd (exact.not_both old a other f p h)

  pub unless_first : IsExact part → (r : Result X F) → ReadsUnless memory view part old new r → (f : F) → part.fault old f → MatchResult r (λ _. ⊥) (λ e. (e ≡ f) ⊎ (e ≡ memory))
  unless_first exact (Ok x) h f k = exact.not_both old (view x) new f h k
  unless_first exact (Err g) (inl e) f k = inr e
  unless_first exact (Err g) (inr h) f k = inl (exact.one_fault old g f h k)

-- a part that means what a grammar says has its laws
module _ {F A : Type 0} (part : Part F A) (old : Reading) (Q : A → Reading → Type 0) (spelled : (a : A) (new : Reading) → part.passes old a new → Q a new) where
  pub law_either : ((a : A) × (new : Reading) × part.passes old a new) ⊎ ((f : F) × part.fault old f) → ((a : A) × (new : Reading) × Q a new) ⊎ ((f : F) × part.fault old f)
  law_either (inl r) = inl (r.0, r.1, spelled r.0 r.1 r.2)
  law_either (inr r) = inr r
