-- What depends on the classes and fields of a program alone is the same after a change.
use Rattle.std.proofs.Common.{◌≡◌, ◌∙◌, ℕ, ◌==◌, List, [], ◌∷◌, ◌++◌, refl, ap, if◌then◌else◌}
use Rattle.std.specs.Prelude.{Option, Some, None, slice_get}
use Rattle.ja_base.specs.declared.java_type.Kind.{Kind}
use Rattle.ja_base.specs.declared.java_type.Kind.TheVariants.{R}
use Rattle.ja_base.specs.declared.java_type.JavaType.{JavaType}
use Rattle.ja_ir.specs.declared.class.ClassInfo.{ClassInfo}
use Rattle.ja_ir.specs.declared.method.Handler.{Handler}
use Rattle.ja_ir.specs.declared.method.Catch.{Catch}
use Rattle.ja_ir.specs.declared.method.Catch.TheVariants.{All as Everything, Program as InClass, Library as InLibrary}
use Rattle.ja_ir.specs.Tokens.{Shape, InProgram, Primitives, References, Strings, Objects, Elsewhere, shape_of, array_shape, before_semicolon, fits, fits_shape, is_in_program, names_program, absorbs, absorbs_as, made_tokens, array_tokens, element_tokens, bagged_as, bagged_tokens, tokens_for, fresh_tokens}
use Rattle.ja_ir.specs.Handlers.{Place, dest_at, dest_among, in_range}
use Rattle.ja_projection.proofs.Changes.{Change, changed}

module _ (w : Change) where
  same-shape : (name : List ℕ) → shape_of (changed w) name ≡ shape_of w.program name
  same-shape [] = refl
  same-shape (b ∷ bytes) = refl

  fits-shape : (t : ℕ) (shape : Shape) → fits_shape (changed w) t shape ≡ fits_shape w.program t shape
  fits-shape t (InProgram c) = refl
  fits-shape t Primitives = refl
  fits-shape t References = refl
  fits-shape t Strings = refl
  fits-shape t Objects = refl
  fits-shape t Elsewhere = refl

  pub same-fits : (t : ℕ) (name : List ℕ) → fits (changed w) t name ≡ fits w.program t name
  same-fits t name = fits-shape t (shape_of (changed w) name) ∙ ap (fits_shape w.program t) (same-shape name)

  pub same-names : (name : List ℕ) → names_program (changed w) name ≡ names_program w.program name
  same-names name = ap is_in_program (same-shape name)

  absorbs-as : (t : ℕ) (o : Option ClassInfo) → absorbs_as (changed w) t o ≡ absorbs_as w.program t o
  absorbs-as t None = refl
  absorbs-as t (Some class) = refl

  pub same-absorbs : (t : ℕ) → absorbs (changed w) t ≡ absorbs w.program t
  same-absorbs t = absorbs-as t (slice_get w.program.classes t)

  same-made : (shape : Shape) → made_tokens (changed w) shape ≡ made_tokens w.program shape
  same-made (InProgram c) = refl
  same-made Primitives = refl
  same-made References = refl
  same-made Strings = refl
  same-made Objects = refl
  same-made Elsewhere = refl

  same-array : (shape : Shape) (inside : List ℕ) → array_tokens (changed w) shape inside ≡ array_tokens w.program shape inside
  same-array References inside = refl
  same-array _ inside = refl

  made-for : (name : List ℕ) → made_tokens (changed w) (shape_of (changed w) name) ≡ made_tokens w.program (shape_of w.program name)
  made-for name = same-made (shape_of (changed w) name) ∙ ap (made_tokens w.program) (same-shape name)

  same-element : (desc : List ℕ) → element_tokens (changed w) desc ≡ element_tokens w.program desc
  same-element [] = refl
  same-element (b ∷ bytes) =
      let arrays = same-array (array_shape bytes) (element_tokens (changed w) bytes) ∙ ap (array_tokens w.program (array_shape bytes)) (same-element bytes) in
      let objects = made-for (before_semicolon bytes) in
      λ i. if b == 91 then arrays i else if b == 76 then objects i else []

  bagged-as : (shape : Shape) (name : List ℕ) → bagged_as (changed w) shape name ≡ bagged_as w.program shape name
  bagged-as References (b ∷ element) = same-element element
  bagged-as Objects name = refl
  bagged-as _ name = refl

  pub same-bagged : (name : List ℕ) → bagged_tokens (changed w) name ≡ bagged_tokens w.program name
  same-bagged name = bagged-as (shape_of (changed w) name) name ∙ ap (λ (s : Shape). bagged_as w.program s name) (same-shape name)

  tokens-for : (kind : Kind) (name : List ℕ) → tokens_for (changed w) kind name ≡ tokens_for w.program kind name
  tokens-for R name =
      let made = made-for name in
      let bagged = same-bagged name in
      λ i. made i ++ bagged i
  tokens-for _ name = refl

  pub same-fresh : (type : JavaType) → fresh_tokens (changed w) type ≡ fresh_tokens w.program type
  same-fresh type = tokens-for type.kind type.name

  dest-at : (t target : ℕ) (catch : Catch) (further : List Place) → dest_at (changed w) t target catch further ≡ dest_at w.program t target catch further
  dest-at t target Everything further = refl
  dest-at t target (InClass c) further = refl
  dest-at t target InLibrary further = refl

  pub same-dest : (i t : ℕ) (handlers : List Handler) → dest_among (changed w) i t handlers ≡ dest_among w.program i t handlers
  same-dest i t [] = refl
  same-dest i t (h ∷ handlers) =
      let rest = same-dest i t handlers in
      let here = dest-at t h.target h.catch (dest_among (changed w) i t handlers) ∙ ap (dest_at w.program t h.target h.catch) rest in
      λ d. if in_range h i then here d else rest d
