-- The sets of parameters, results, fields and bags, one more written.
use Rattle.std.proofs.Common.{◌≡◌, ℕ, zero, suc, ◌+◌, ◌<◌, ◌≤◌, inl, inr, Bool, true, false, List, [], ◌∷◌, Some, length, map, replicate, get_or, set, refl, sym, ap, subst, ◌∙◌, arith}
use Rattle.std.specs.Prelude.{slice_get}
use Rattle.std.proofs.lemmas.Bool.{cases_lt, cases_eq}
use Rattle.std.proofs.lemmas.List.{get_or-set_same, get_or-set_other, get_or_past, length-set, length-replicate, set_past}
use Rattle.ja_base.specs.declared.java_type.JavaType.{JavaType}
use Rattle.ja_ir.specs.declared.program.Parts.{Parts}
use Rattle.ja_ir.specs.declared.method.Method.{Method}
use Rattle.ja_ir.specs.Lookup.{is_member}
use Rattle.ja_ir.specs.Operations.{count_of}
use Rattle.ja_ir.specs.Params.{param_count, params_among}
use Rattle.ja_ir.specs.Whole.{IsWhole}
use Rattle.ja_constraints.proofs.Few.{few-method-types}
use Rattle.ja_facts.specs.ClassTables.{ClassTable, token_count}
use Rattle.ja_facts.specs.Listing.{with_listed_in}
use Rattle.ja_network.specs.declared.cell.Cell.{Cell}
use Rattle.ja_network.specs.declared.cell.Cell.TheVariants.{Field, Bag, Param, Answer, Out}
use Rattle.ja_network.specs.declared.network.Network.{Network}
use Rattle.ja_class_tables.specs.InnerPool.{IsSetOf, row_of}
use Rattle.ja_class_tables.specs.InnerMembers.{AreSetsOf, params_in, PutsParam, PutsParams, HasParams, PutsResult, HasResults, PutsField, HasFields, PutsBag, HasBags}

-- one set more
pub sets-more : (net : Network) (cell : ℕ → Cell) (k total : ℕ) (sets : List (List Bool)) (one : List Bool) → AreSetsOf net cell k total sets → IsSetOf net (cell k) one → k < total → AreSetsOf net cell (k + 1) total (set sets k one)
sets-more net cell k total sets one old here lt = record {
  size = length-set sets k one ∙ old.size;
  each = λ j l. elim (cases_eq j k) [
    | inl e ↦
        let inside : k < length sets = let s = old.size in omega arith in
        let there : get_or (set sets k one) j [] ≡ one = ap (λ n. get_or (set sets k one) n []) e ∙ get_or-set_same sets k one [] inside in
        subst (IsSetOf net (cell j)) (sym there) (subst (λ n. IsSetOf net (cell n) one) (sym e) here)
    | inr ne ↦
        subst (IsSetOf net (cell j)) (sym (get_or-set_other sets k j one [] ne)) (old.each j (omega arith))
  ];
}

-- ---- rows

pub row-here : {A : Type 0} (rows : List (List A)) (m k : ℕ) (x : A) → row_of (with_listed_in rows m k x) m ≡ set (row_of rows m) k x
row-here rows m k x = elim (cases_lt m (length rows)) [
  | inl lt ↦ get_or-set_same rows m (set (get_or rows m []) k x) [] lt
  | inr past ↦
      let none : get_or rows m [] ≡ [] = get_or_past rows m [] past in
      ap (λ rs. get_or rs m []) (set_past rows m (set (get_or rows m []) k x) past) ∙ none ∙ sym (ap (λ row. set row k x) none)
]

pub row-else : {A : Type 0} (rows : List (List A)) (m k a : ℕ) (x : A) → (a ≡ m → ⊥) → row_of (with_listed_in rows m k x) a ≡ row_of rows a
row-else rows m k a x ne = get_or-set_other rows m a (set (get_or rows m []) k x) [] ne

-- ---- parameters

abbrev with_params : ClassTable → List (List (List Bool)) → ClassTable
with_params table params = record table { params = params }

pub params-step : (net : Network) (m k : ℕ) (old mid new : ClassTable) → PutsParams net m k old mid → PutsParam net m k mid new → k < length (row_of old.params m) → PutsParams net m (k + 1) old new
params-step net m k old mid new before put lt =
    let params : new.params ≡ with_listed_in mid.params m k put.set = ap (λ (t : ClassTable). t.params) put.is in
    record {
      here = subst (AreSetsOf net (Param m) (k + 1) (length (row_of old.params m))) (sym (ap (λ ps. row_of ps m) params ∙ row-here mid.params m k put.set))
          (sets-more net (Param m) k (length (row_of old.params m)) (row_of mid.params m) put.set before.here put.exact lt);
      elsewhere = λ a ne. ap (λ ps. row_of ps a) params ∙ row-else mid.params m k a put.set ne ∙ before.elsewhere a ne;
      others = put.is ∙ ap (λ (t : ClassTable). with_params t (with_listed_in mid.params m k put.set)) before.others ∙ ap (with_params old) (sym params);
    }

-- there is a set for each parameter
pub params-size : (one : List Bool) (methods : List Method) (m : ℕ) → length (row_of (map (λ (method : Method). replicate (param_count method) one) methods) m) ≡ params_in (slice_get methods m)
params-size one [] m = refl
params-size one (method ∷ methods) zero = length-replicate (param_count method) one
params-size one (method ∷ methods) (suc m) = params-size one methods m

pub all-params-step : (p : Parts) (net : Network) (m : ℕ) (method : Method) (old mid new : ClassTable) → slice_get p.methods m ≡ Some method → HasParams p net m old mid → PutsParams net m (param_count method) mid new → HasParams p net (m + 1) old new
all-params-step p net m method old mid new found before put =
    let count : params_in (slice_get p.methods m) ≡ param_count method = ap params_in found in
    record {
      size = λ a. elim (cases_eq a m) [
        | inl e ↦ ap (λ n. length (row_of new.params n)) e ∙ put.here.size ∙ before.size m ∙ ap (λ n. params_in (slice_get p.methods n)) (sym e)
        | inr ne ↦ ap length (put.elsewhere a ne) ∙ before.size a
      ];
      each = λ a lt. elim (cases_eq a m) [
        | inl e ↦ subst (λ n. AreSetsOf net (Param n) (params_in (slice_get p.methods n)) (params_in (slice_get p.methods n)) (row_of new.params n)) (sym e)
            (subst (λ n. AreSetsOf net (Param m) n (params_in (slice_get p.methods m)) (row_of new.params m)) (sym count)
            (subst (λ n. AreSetsOf net (Param m) (param_count method) n (row_of new.params m)) (before.size m) put.here))
        | inr ne ↦ subst (AreSetsOf net (Param a) (params_in (slice_get p.methods a)) (params_in (slice_get p.methods a))) (sym (put.elsewhere a ne)) (before.each a (omega arith))
      ];
      others = put.others ∙ ap (λ (t : ClassTable). with_params t new.params) before.others;
    }

-- a method has few parameters
params-length : (receiver : Bool) (types : List JavaType) → params_among receiver types ≡ length types + count_of receiver
params-length receiver [] = omega arith
params-length receiver (type ∷ types) = let e = params-length receiver types in omega arith

one-receiver : (b : Bool) → count_of b ≤ 1
one-receiver true = omega arith
one-receiver false = omega arith

pub few-params : (p : Parts) (m : ℕ) (method : Method) → IsWhole p → slice_get p.methods m ≡ Some method → param_count method ≤ 256
few-params p m method whole found =
    omega (arith, params-length (is_member method.flags) method.types.params, one-receiver (is_member method.flags), few-method-types p m method whole found)

-- ---- results, fields and bags

abbrev with_results : ClassTable → (results outs : List (List Bool)) → ClassTable
with_results table results outs = record table { results = results; outs = outs }

pub results-step : (p : Parts) (net : Network) (m : ℕ) (old mid new : ClassTable) → HasResults p net m old mid → PutsResult net m mid new → m < length p.methods → HasResults p net (m + 1) old new
results-step p net m old mid new before put lt =
    let results : new.results ≡ set mid.results m put.answers = ap (λ (t : ClassTable). t.results) put.is in
    let outs : new.outs ≡ set mid.outs m put.thrown = ap (λ (t : ClassTable). t.outs) put.is in
    record {
      results = subst (AreSetsOf net Answer (m + 1) (length p.methods)) (sym results) (sets-more net Answer m (length p.methods) mid.results put.answers before.results put.exact_answers lt);
      outs = subst (AreSetsOf net Out (m + 1) (length p.methods)) (sym outs) (sets-more net Out m (length p.methods) mid.outs put.thrown before.outs put.exact_thrown lt);
      others = put.is ∙ ap (λ (t : ClassTable). with_results t (set mid.results m put.answers) (set mid.outs m put.thrown)) before.others
          ∙ ap (λ rs. with_results old rs (set mid.outs m put.thrown)) (sym results) ∙ ap (with_results old new.results) (sym outs);
    }

abbrev with_fields : ClassTable → List (List Bool) → ClassTable
with_fields table fields = record table { fields = fields }

pub fields-step : (p : Parts) (net : Network) (f : ℕ) (old mid new : ClassTable) → HasFields p net f old mid → PutsField net f mid new → f < length p.fields → HasFields p net (f + 1) old new
fields-step p net f old mid new before put lt =
    let fields : new.fields ≡ set mid.fields f put.set = ap (λ (t : ClassTable). t.fields) put.is in
    record {
      fields = subst (AreSetsOf net Field (f + 1) (length p.fields)) (sym fields) (sets-more net Field f (length p.fields) mid.fields put.set before.fields put.exact lt);
      others = put.is ∙ ap (λ (t : ClassTable). with_fields t (set mid.fields f put.set)) before.others ∙ ap (with_fields old) (sym fields);
    }

abbrev with_bags : ClassTable → List (List Bool) → ClassTable
with_bags table bags = record table { bags = bags }

pub bags-step : (p : Parts) (net : Network) (t : ℕ) (old mid new : ClassTable) → HasBags p net t old mid → PutsBag net t mid new → t < token_count p → HasBags p net (t + 1) old new
bags-step p net t old mid new before put lt =
    let bags : new.bags ≡ set mid.bags t put.set = ap (λ (s : ClassTable). s.bags) put.is in
    record {
      bags = subst (AreSetsOf net Bag (t + 1) (token_count p)) (sym bags) (sets-more net Bag t (token_count p) mid.bags put.set before.bags put.exact lt);
      others = put.is ∙ ap (λ (s : ClassTable). with_bags s (set mid.bags t put.set)) before.others ∙ ap (with_bags old) (sym bags);
    }
