-- The attributes of a method say what they say as bytes.
use Rattle.std.proofs.Common.{◌≡◌, ℕ, ◌⊎◌, inl, inr, Bool, true, false, List, [], ◌∷◌, length, refl, sym, ap, subst, ◌∙◌}
use Rattle.std.proofs.lemmas.Bool.{false≢true, not-true}
use Rattle.std.specs.Prelude.{Option, Some, None, codes}
use Rattle.std.specs.Int.{w16, to_be_bytes}
use Rattle.std.specs.List.{flat_map}
use Rattle.ja_bytes.specs.Reading.{Reading, Passes}
use Rattle.ja_pool.specs.Table.{Table}
use Rattle.ja_attributes.specs.declared.fault.AttributeFault.{AttributeFault}
use Rattle.ja_attributes.specs.declared.code.MethodCode.{MethodCode}
use Rattle.ja_attributes.specs.declared.method.Codes.{Codes}
use Rattle.ja_attributes.specs.declared.method.Codes.TheVariants.{Absent, Several}
use Rattle.ja_attributes.specs.Part.{Part, choose}
use Rattle.ja_attributes.specs.Attribute.{AttributeInfo, attribute_bytes, is_named, named, IsCode, SayCode, PassesMethod}
use Rattle.ja_attributes.specs.Faults.{next_code, with_code, method_attribute, method_attributes, passed_over, is_due, only_code}
use Rattle.ja_attributes.specs.InnerSteps.{behind_all}
use Rattle.ja_attributes.proofs.Fields.{first_read, second_read}
use Rattle.ja_attributes.proofs.FieldGrammar.{chosen, named_more, named_same}
use Rattle.ja_attributes.proofs.CodeGrammar.{content_spelled, spelled_content}
use Rattle.ja_attributes.proofs.Lists.{halves, Says, Said, Run, run_as, listed, folded, numbered, over_said, over_anywhere}

-- ---- one attribute

abbrev content : Table → Codes → ℕ → ℕ → Part AttributeFault Codes
content table found at name = choose (is_named table (codes "Code") name) (next_code table found at) (passed_over found)

-- what an attribute adds
abbrev MethodStep : Table → Codes → AttributeInfo → Codes → Type 0
MethodStep table found info now =
    ((is_named table (codes "Code") info.attribute_name_index ≡ false) × (now ≡ found))
    ⊎ ((code : MethodCode) × (is_named table (codes "Code") info.attribute_name_index ≡ true) × (now ≡ with_code found code) × IsCode table info.info code)

method_said : (table : Table) (found : Codes) (info : AttributeInfo) (now : Codes) → Said table (content table found) info now → MethodStep table found info now
unfolding next_code
method_said table found info now s =
    let start : Reading = record { place = s.from; rest = info.info } in
    split (chosen (next_code table found s.at) (passed_over found) start now s.inner (is_named table (codes "Code") info.attribute_name_index) s.said)
  where
    split : ((is_named table (codes "Code") info.attribute_name_index ≡ true) × (next_code table found s.at).passes (record { place = s.from; rest = info.info }) now s.inner)
        ⊎ ((is_named table (codes "Code") info.attribute_name_index ≡ false) × (passed_over found).passes (record { place = s.from; rest = info.info }) now s.inner)
        → MethodStep table found info now
    split (inl (e, (code, r, p, q))) = inr (code, e, q.0, content_spelled table s.at (record { place = s.from; rest = info.info }) code r p)
    split (inr h) = inl (h.0, over_said found now (record { place = s.from; rest = info.info }) s.inner h.1)

method_says : (table : Table) (found : Codes) (info : AttributeInfo) (now : Codes) → MethodStep table found info now → Says table (content table found) info now
unfolding next_code
method_says table found info now (inl h) = λ at from.
    let start : Reading = record { place = from; rest = info.info } in
    let over = over_anywhere found info from in (
      over.0,
      second_read (next_code table found at) (passed_over found) start (is_named table (codes "Code") info.attribute_name_index) now over.0 h.0
          (subst (λ (x : Codes). (passed_over found).passes start x over.0) (sym h.1) over.1),
    )
method_says table found info now (inr (code, name, same, is)) = λ at from.
    let start : Reading = record { place = from; rest = info.info } in (
      behind_all start,
      first_read (next_code table found at) (passed_over found) start (is_named table (codes "Code") info.attribute_name_index) now (behind_all start) name
          (code, behind_all start, spelled_content table at from info.info code is, (same, refl)),
    )

-- ---- all attributes

-- Code attributes one behind the other
abbrev after : Codes → List MethodCode → Codes
after found [] = found
after found (code ∷ more) = after (with_code found code) more

several : (more : List MethodCode) → after Several more ≡ Several
several [] = refl
several (code ∷ more) = several more

module _ (table : Table) where
  abbrev those : List AttributeInfo → List AttributeInfo
  those infos = named table (codes "Code") infos

  -- the attributes give these codes
  abbrev Give : List AttributeInfo → List MethodCode → Type 0
  Give [] [] = Unit {0}
  Give [] (code ∷ more) = ⊥
  Give (info ∷ infos) [] = ⊥
  Give (info ∷ infos) (code ∷ more) = IsCode table info.info code × Give infos more

  run_gives : (found : Codes) (infos : List AttributeInfo) (t : Codes) → Run (MethodStep table) found infos t → (all : List MethodCode) × Give (those infos) all × (t ≡ after found all)
  run_gives found [] t run = ([], tt, run)
  run_gives found (info ∷ infos) t (u, inl h, run) =
      let more = run_gives found infos t (subst (λ (x : Codes). Run (MethodStep table) x infos t) h.1 run) in
      (more.0, subst (λ (l : List AttributeInfo). Give l more.0) (sym (named_same table (codes "Code") info infos h.0)) more.1, more.2)
  run_gives found (info ∷ infos) t (u, inr h, run) =
      let more = run_gives (with_code found h.0) infos t (subst (λ (x : Codes). Run (MethodStep table) x infos t) h.2 run) in
      (h.0 ∷ more.0, subst (λ (l : List AttributeInfo). Give l (h.0 ∷ more.0)) (sym (named_more table (codes "Code") info infos h.1)) (h.3, more.1), more.2)

  gives_run : (found : Codes) (infos : List AttributeInfo) (all : List MethodCode) → Give (those infos) all → Run (MethodStep table) found infos (after found all)
  gives_run found [] [] g = refl
  gives_run found [] (code ∷ more) g = absurd g
  gives_run found (info ∷ infos) all g = one (is_named table (codes "Code") info.attribute_name_index) refl (λ f l. gives_run f infos l)
    where
      first : (l : List MethodCode) → Give (info ∷ those infos) l → is_named table (codes "Code") info.attribute_name_index ≡ true
          → ((f : Codes) (k : List MethodCode) → Give (those infos) k → Run (MethodStep table) f infos (after f k)) → Run (MethodStep table) found (info ∷ infos) (after found l)
      first [] h n behind = absurd h
      first (code ∷ more) h n behind = (with_code found code, inr (code, n, refl, h.0), behind (with_code found code) more h.1)

      one : (b : Bool) → is_named table (codes "Code") info.attribute_name_index ≡ b
          → ((f : Codes) (k : List MethodCode) → Give (those infos) k → Run (MethodStep table) f infos (after f k)) → Run (MethodStep table) found (info ∷ infos) (after found all)
      one true n behind = first all (subst (λ (l : List AttributeInfo). Give l all) (named_more table (codes "Code") info infos n) g) n behind
      one false n behind = (found, inl (n, refl), behind found all (subst (λ (l : List AttributeInfo). Give l all) (named_same table (codes "Code") info infos n) g))

  say_none : (needs : Bool) → needs ≡ false → SayCode table needs [] None
  say_none false e = tt
  say_none true e = absurd (false≢true (sym e))

  say_one : (needs : Bool) (info : AttributeInfo) (code : MethodCode) → needs ≡ true → IsCode table info.info code → SayCode table needs (info ∷ []) (Some code)
  say_one false info code e is = absurd (false≢true e)
  say_one true info code e is = is

  gives_says : (needs : Bool) (infos : List AttributeInfo) (all : List MethodCode) → Give infos all → is_due needs (after Absent all) ≡ true → SayCode table needs infos (only_code (after Absent all))
  gives_says needs [] [] g due = say_none needs (not-true needs due)
  gives_says needs [] (code ∷ more) g due = absurd g
  gives_says needs (info ∷ infos) [] g due = absurd g
  gives_says needs (info ∷ []) (code ∷ []) g due = say_one needs info code due g.0
  gives_says needs (info ∷ []) (code ∷ other ∷ more) g due = absurd g.1
  gives_says needs (info ∷ next ∷ infos) (code ∷ []) g due = absurd g.1
  gives_says needs (info ∷ next ∷ infos) (code ∷ other ∷ more) g due = absurd (false≢true (sym (ap (is_due needs) (several more)) ∙ due))

  -- what the Code attributes say, as a list of codes
  record Due (needs : Bool) (infos : List AttributeInfo) (code : Option MethodCode) : Type 0 where
    all : List MethodCode
    give : Give infos all
    due : is_due needs (after Absent all) ≡ true
    only : code ≡ only_code (after Absent all)

  says_gives : (needs : Bool) (infos : List AttributeInfo) (code : Option MethodCode) → SayCode table needs infos code → Due needs infos code
  says_gives false [] None s = record { all = []; give = tt; due = refl; only = refl }
  says_gives false [] (Some code) s = absurd s
  says_gives false (info ∷ infos) code s = absurd s
  says_gives true [] code s = absurd s
  says_gives true (info ∷ []) None s = absurd s
  says_gives true (info ∷ []) (Some code) s = record { all = code ∷ []; give = (s, tt); due = refl; only = refl }
  says_gives true (info ∷ next ∷ infos) code s = absurd s

pub method_spelled : (table : Table) (needs : Bool) (flags_at : ℕ) (old : Reading) (code : Option MethodCode) (new : Reading) → (method_attributes table needs flags_at).passes old code new → PassesMethod table needs old new code
unfolding method_attributes method_attribute
method_spelled table needs flags_at old code new (count, mid, p, (found, last, q, (u, r, e, same))) =
    let end : new ≡ last = same.1 ∙ e.1 in
    let l = listed table (content table) count Absent mid found last q in
    let run = run_as (λ (v : Codes). Said table (content table v)) (MethodStep table) (method_said table) Absent l.infos found l.run in
    let g = run_gives table Absent l.infos found run in
    let due : is_due needs (after Absent g.0) ≡ true = sym (ap (is_due needs) g.2) ∙ e.0 in
    let only : code ≡ only_code (after Absent g.0) = same.0 ∙ ap only_code g.2 in
    record {
      attributes = l.infos;
      passes = numbered table old mid new l.infos count p l.count l.each (subst (λ (x : Reading). Passes mid x (flat_map attribute_bytes l.infos)) (sym end) l.passes);
      say = subst (λ (x : Option MethodCode). SayCode table needs (named table (codes "Code") l.infos) x) (sym only) (gives_says table needs (named table (codes "Code") l.infos) g.0 g.1 due);
    }

pub spelled_method : (table : Table) (needs : Bool) (flags_at : ℕ) (old : Reading) (code : Option MethodCode) (new : Reading) → PassesMethod table needs old new code → (method_attributes table needs flags_at).passes old code new
unfolding method_attributes method_attribute
spelled_method table needs flags_at old code new s =
    let infos = s.attributes in
    let h = halves old new (to_be_bytes w16 (length infos)) (flat_map attribute_bytes infos) s.passes.passes in
    let d = says_gives table needs (named table (codes "Code") infos) code s.say in
    let found = after Absent d.all in (
      length infos,
      h.mid,
      (s.passes.few, h.first),
      (
        found,
        new,
        folded table (content table) infos Absent h.mid found new s.passes.each h.second
            (run_as (MethodStep table) (λ (v : Codes). Says table (content table v)) (method_says table) Absent infos found (gives_run table Absent infos d.all d.give)),
        (tt, new, (d.due, refl), (d.only, refl)),
      ),
    )
