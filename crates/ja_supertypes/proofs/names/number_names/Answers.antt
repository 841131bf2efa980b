use Rattle.std.proofs.Common.{inl, inr, ◌≡◌, ℕ, ◌+◌, ◌<◌, ◌∷◌, [], ◌++◌, Bool, true, false, List, length, take, get_or, refl, sym, ap, ◌∙◌, arith, below_more}
use Rattle.std.specs.Prelude.{Some, bytes_eq, slice_get, if◌then◌else◌}
use Rattle.std.specs.List.{list_any}
use Rattle.std.proofs.lemmas.Bool.{cases_lt}
use Rattle.std.proofs.lemmas.List.{map_more}
use Rattle.std.proofs.lemmas.Option.{slice_get_read}
use Rattle.ja_ir.specs.declared.head.ClassHead.{ClassHead}
use Rattle.ja_supertypes.specs.Supertypes.{names_of}
use Rattle.ja_supertypes.proofs.Seen.{met-duplicate, new-distinct, duplicate-inside}
use Rattle.ja_supertypes.proofs.names.number_names.Goals as goal

-- the test of a name among the names so far, at the copy of the name of the class
tested : (heads : List ClassHead) (n : ℕ) (head : ClassHead) (keys : List (List ℕ)) (name : List ℕ) (found : Bool) → keys ≡ names_of (take n heads) → name ≡ head.name
    → list_any (bytes_eq name) keys ≡ found → list_any (bytes_eq head.name) (names_of (take n heads)) ≡ found
tested heads n head keys name found e same t =
    ap (λ (bytes : List ℕ). list_any (bytes_eq bytes) (names_of (take n heads))) (sym same) ∙ ap (λ (ks : List (List ℕ)). list_any (bytes_eq name) ks) (sym e) ∙ t

-- the names after one that was not there
grown : (heads : List ClassHead) (n : ℕ) (head : ClassHead) (keys news : List (List ℕ)) (name : List ℕ) → n < length heads → head ≡ get_or heads n head → keys ≡ names_of (take n heads) → name ≡ head.name
    → list_any (bytes_eq name) keys ≡ false → news ≡ (if list_any (bytes_eq name) keys then keys else keys ++ name ∷ []) → news ≡ names_of (take (n + 1) heads)
grown heads n head keys news name lt read e same t is =
    is ∙ ap (λ (b : Bool). if b then keys else keys ++ name ∷ []) t ∙ ap (λ (ks : List (List ℕ)). ks ++ name ∷ []) e
    ∙ ap (λ (bytes : List ℕ). names_of (take n heads) ++ bytes ∷ []) (same ∙ ap (λ (h : ClassHead). h.name) read)
    ∙ sym (map_more (λ (h : ClassHead). h.name) heads n head lt)

pub loop-class-preserved : goal.loop-class-preserved
loop-class-preserved c =
    let lt : c.loop-class.class < length c.args.heads.now = omega arith in
    let found : slice_get c.args.heads.now c.loop-class.class ≡ Some c.index-heads-class.result = slice_get_read c.args.heads.now (length c.args.heads.now) c.loop-class.class c.index-heads-class.result refl lt c.index-heads-class.is in
    let absent : list_any (bytes_eq c.in_ok-name.name) c.loop-class.names.keys ≡ false = grind (arith, c.in-Ok-default-true.ensures.added, c.in-Ok-default-true.field-0-1-test) in
    record {
      names = grown c.args.heads.now c.loop-class.class c.index-heads-class.result c.loop-class.names.keys c.insert_full.new.self.keys c.in_ok-name.name lt c.index-heads-class.is c.loop-class.invariant.names c.in_ok-name.ensures absent c.in-Ok-default-true.ensures.keys;
      distinct = below_more _ _ c.loop-class.invariant.distinct
          (new-distinct c.args.heads.now c.loop-class.class c.index-heads-class.result found
          (tested c.args.heads.now c.loop-class.class c.index-heads-class.result c.loop-class.names.keys c.in_ok-name.name false c.loop-class.invariant.names c.in_ok-name.ensures absent));
    }

pub returns-in-Ok-default-false-clause-err : goal.returns-in-Ok-default-false-clause-err
returns-in-Ok-default-false-clause-err c =
    let lt : c.loop-class.class < length c.args.heads.now = omega arith in
    let found : slice_get c.args.heads.now c.loop-class.class ≡ Some c.index-heads-class.result = slice_get_read c.args.heads.now (length c.args.heads.now) c.loop-class.class c.index-heads-class.result refl lt c.index-heads-class.is in
    let there : list_any (bytes_eq c.in_ok-name.name) c.loop-class.names.keys ≡ true = grind (arith, c.in-Ok-default-false.ensures.added, c.in-Ok-default-false.field-0-1-test) in (
      c.requires.platform,
      record {
        holds = met-duplicate c.args.heads.now c.loop-class.class c.index-heads-class.result found
            (tested c.args.heads.now c.loop-class.class c.index-heads-class.result c.loop-class.names.keys c.in_ok-name.name true c.loop-class.invariant.names c.in_ok-name.ensures there);
        before = c.loop-class.invariant.distinct;
      },
    )

pub returns-clause-distinct : goal.returns-clause-distinct
returns-clause-distinct c class = elim (cases_lt class (length c.args.heads.now)) [
  | inl below ↦ c.loop-class.invariant.distinct class (omega arith)
  | inr past ↦ duplicate-inside c.args.heads.now class past
]
