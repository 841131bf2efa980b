-- `==` tells whether cells are the same.
use Rattle.std.proofs.Common.{◌≡◌, Bool, true, ◌&&◌, eqb, refl}
use Rattle.std.proofs.lemmas.Bool.{and_parts, false≢true, eqb-true}
use Rattle.ja_network.specs.declared.cell.Cell.{Cell}
use Rattle.ja_network.specs.declared.cell.Cell.TheVariants.{Nothing, Environment, Single, Field, Bag, Span, Param, Answer, Out, Thrown, Takers, Pushed, Before}
use Rattle.ja_network.specs.Facts.{same_cell}

three_parts : (a b c : Bool) → (a && (b && c)) ≡ true → (a ≡ true) × (b ≡ true) × (c ≡ true)
three_parts a b c h = let p = and_parts a (b && c) h in let q = and_parts b c p.1 in (p.0, q.0, q.1)

pub cell_is : (c d : Cell) → same_cell c d ≡ true → c ≡ d
cell_is Nothing Nothing h = refl
cell_is Environment Environment h = refl
cell_is (Single a) (Single x) h = let e : a ≡ x = eqb-true a x h in cc
cell_is (Field a) (Field x) h = let e : a ≡ x = eqb-true a x h in cc
cell_is (Bag a) (Bag x) h = let e : a ≡ x = eqb-true a x h in cc
cell_is (Span a) (Span x) h = let e : a ≡ x = eqb-true a x h in cc
cell_is (Param a b) (Param x y) h = let p = and_parts (eqb a x) (eqb b y) h in let e : a ≡ x = eqb-true a x p.0 in let f : b ≡ y = eqb-true b y p.1 in cc
cell_is (Answer a) (Answer x) h = let e : a ≡ x = eqb-true a x h in cc
cell_is (Out a) (Out x) h = let e : a ≡ x = eqb-true a x h in cc
cell_is (Thrown a b) (Thrown x y) h = let p = and_parts (eqb a x) (eqb b y) h in let e : a ≡ x = eqb-true a x p.0 in let f : b ≡ y = eqb-true b y p.1 in cc
cell_is (Takers a b) (Takers x y) h = let p = and_parts (eqb a x) (eqb b y) h in let e : a ≡ x = eqb-true a x p.0 in let f : b ≡ y = eqb-true b y p.1 in cc
cell_is (Pushed a b) (Pushed x y) h = let p = and_parts (eqb a x) (eqb b y) h in let e : a ≡ x = eqb-true a x p.0 in let f : b ≡ y = eqb-true b y p.1 in cc
cell_is (Before a b c) (Before x y z) h = let p = three_parts (eqb a x) (eqb b y) (eqb c z) h in let e : a ≡ x = eqb-true a x p.0 in let f : b ≡ y = eqb-true b y p.1 in let g : c ≡ z = eqb-true c z p.2 in cc
cell_is Nothing other h = absurd (false≢true h)
cell_is Environment other h = absurd (false≢true h)
cell_is (Single a) other h = absurd (false≢true h)
cell_is (Field a) other h = absurd (false≢true h)
cell_is (Bag a) other h = absurd (false≢true h)
cell_is (Span a) other h = absurd (false≢true h)
cell_is (Param a b) other h = absurd (false≢true h)
cell_is (Answer a) other h = absurd (false≢true h)
cell_is (Out a) other h = absurd (false≢true h)
cell_is (Thrown a b) other h = absurd (false≢true h)
cell_is (Takers a b) other h = absurd (false≢true h)
cell_is (Pushed a b) other h = absurd (false≢true h)
cell_is (Before a b c) other h = absurd (false≢true h)
