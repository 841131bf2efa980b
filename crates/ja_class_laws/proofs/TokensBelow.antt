-- Tokens that are made are tokens of the program.
use Rattle.std.proofs.Common.{ℕ, ◌<◌, ◌==◌, Bool, true, false, List, [], ◌∷◌, arith}
use Rattle.std.specs.Prelude.{if◌then◌else◌, Contains}
use Rattle.ja_base.specs.declared.java_type.Kind.{Kind}
use Rattle.ja_base.specs.declared.java_type.Kind.TheVariants.{P1, P2, R, T}
use Rattle.ja_base.specs.declared.java_type.JavaType.{JavaType}
use Rattle.ja_ir.specs.declared.program.Parts.{Parts}
use Rattle.ja_ir.specs.Tokens.{Shape, InProgram, Primitives, References, Strings, Objects, Elsewhere, array_shape, shape_of, made_tokens, before_semicolon, array_tokens, element_tokens, bagged_as, bagged_tokens, tokens_for, fresh_tokens}
use Rattle.ja_facts.specs.Least.{Each}
use Rattle.ja_facts.specs.ClassTables.{token_count}
use Rattle.ja_class_laws.proofs.Lists.{each-append, each-at}

each-either : {F : Type 0} (S : F → Type 0) (b : Bool) (xs ys : List F) → Each S xs → Each S ys → Each S (if b then xs else ys)
each-either S true xs ys h k = h
each-either S false xs ys h k = k

module _ (p : Parts) where
  abbrev IsBelow : ℕ → Type 0
  IsBelow t = t < token_count p

  made-below : (shape : Shape) → Each IsBelow (made_tokens p shape)
  made-below (InProgram c) = tt
  made-below Primitives = (omega arith, tt)
  made-below References = (omega arith, tt)
  made-below Strings = (omega arith, tt)
  made-below Objects = (omega arith, (omega arith, (omega arith, tt)))
  made-below Elsewhere = (omega arith, tt)

  array-below : (shape : Shape) (inside : List ℕ) → Each IsBelow inside → Each IsBelow (array_tokens p shape inside)
  array-below References inside h = (omega arith, h)
  array-below shape inside h = (omega arith, tt)

  element-below : (desc : List ℕ) → Each IsBelow (element_tokens p desc)
  element-below [] = tt
  element-below (b ∷ bytes) =
      each-either IsBelow (b == 91) (array_tokens p (array_shape bytes) (element_tokens p bytes)) (if b == 76 then made_tokens p (shape_of p (before_semicolon bytes)) else []) (array-below (array_shape bytes) (element_tokens p bytes) (element-below bytes))
      (each-either IsBelow (b == 76) (made_tokens p (shape_of p (before_semicolon bytes))) [] (made-below (shape_of p (before_semicolon bytes))) tt)

  bagged-in : (shape : Shape) (name : List ℕ) → Each IsBelow (bagged_as p shape name)
  bagged-in References [] = tt
  bagged-in References (b ∷ element) = element-below element
  bagged-in Objects name = (omega arith, tt)
  bagged-in (InProgram c) name = tt
  bagged-in Primitives name = tt
  bagged-in Strings name = tt
  bagged-in Elsewhere name = tt

  pub bagged-below : (name : List ℕ) (t : ℕ) → Contains (bagged_tokens p name) t → t < token_count p
  bagged-below name t listed = each-at IsBelow (bagged_tokens p name) t (bagged-in (shape_of p name) name) listed

  all-below : (kind : Kind) (name : List ℕ) → Each IsBelow (tokens_for p kind name)
  all-below R name = each-append IsBelow (made_tokens p (shape_of p name)) (bagged_tokens p name) (made-below (shape_of p name)) (bagged-in (shape_of p name) name)
  all-below P1 name = tt
  all-below P2 name = tt
  all-below T name = tt

  pub fresh-below : (type : JavaType) (t : ℕ) → Contains (fresh_tokens p type) t → t < token_count p
  fresh-below type t listed = each-at IsBelow (fresh_tokens p type) t (all-below type.kind type.name) listed
