-- From the places of the methods to their answers, and from the answers to the methods.
use Rattle.std.proofs.Common.{◌≡◌, ℕ, zero, suc, ◌<◌, ◌≤◌, ◌^◌, List, [], ◌∷◌, ◌++◌, length, refl, sym, ap, ◌∙◌, subst, append_assoc, append-nil, arith}
use Rattle.std.specs.Prelude.{◌⊎◌, All, Some, Ok, Err, IfOk, IfErr, slice_get}
use Rattle.std.specs.List.{AllZip}
use Rattle.std.proofs.lemmas.List.Elements.{All-cons, All-nil}
use Rattle.ja_ir.specs.declared.head.ClassHead.{ClassHead}
use Rattle.ja_ir.specs.declared.method.Method.{Method}
use Rattle.ja_ir.specs.declared.entry.Site.{Site}
use Rattle.ja_class.specs.Meaning.{ClassSpelled}
use Rattle.ja_lib.specs.Content.{Content}
use Rattle.ja_methods.specs.declared.fault.MethodFault.{MethodFault}
use Rattle.ja_methods.specs.declared.fault.MethodFault.TheVariants as faults
use Rattle.ja_methods.specs.declared.method.Lowered.{Lowered}
use Rattle.ja_methods.specs.Method.{IsMethodOf}
use Rattle.ja_methods.specs.Refusal.{IsRefused}
use Rattle.ja_methods.specs.Sites.{AreSitesOf}
use Rattle.std.specs.declared.result.Result.{Result}
use Rattle.ja_lower.specs.declared.place.Place.{Place}
use Rattle.ja_lower.specs.declared.answer.Answer.{Answer}
use Rattle.ja_lower.specs.InnerPlaces.{PlacesUpTo, no_place, next_place, next_class, PlacesFrom, all_passed, place_left, class_passed}
use Rattle.ja_lower.specs.InnerAnswers.{CanAnswer, IsAnswer, IsAnswerAt, AnswersFrom, AreUnderWay, all_passed as all_answered, answer_left, class_passed as class_answered}
use Rattle.ja_lower.specs.Program.{heads_of}
use Rattle.ja_lower.specs.InnerSteps.{AreUpTo}
use Rattle.ja_lower.proofs.UpTo.{past}

-- what stands before a place, and what stands from it on
places-meet : (classes : List ClassSpelled) (c k : ℕ) (before rest : List Place) → PlacesUpTo classes c k before → PlacesFrom classes c k rest → PlacesFrom classes zero zero (before ++ rest)
places-meet classes c k before rest no_place from = from
places-meet classes c k before rest (next_place {c = d} {k = j} {before = old} class place at lt up e f) from =
    subst (PlacesFrom classes zero zero) (sym (append_assoc old (place ∷ []) rest))
    (places-meet classes d j old (place ∷ rest) up (place_left class place at lt e f from))
places-meet classes c k before rest (next_class {c = d} {k = j} class at e up) from = places-meet classes d j before rest up (class_passed class at e from)

-- the places of all methods
pub places-all : (classes : List ClassSpelled) (c : ℕ) (places : List Place) → c ≡ length classes → PlacesUpTo classes c zero places → PlacesFrom classes zero zero places
places-all classes c places e up = subst (PlacesFrom classes zero zero) (append-nil places) (places-meet classes c zero places [] up (all_passed e refl))

-- before the first method
pub no-places : (classes : List ClassSpelled) (places : List Place) → places ≡ [] → PlacesUpTo classes zero zero places
no-places classes places e = subst (PlacesUpTo classes zero zero) (sym e) no_place

-- one method more
pub place-more : (classes : List ClassSpelled) (c k : ℕ) (class : ClassSpelled) (place : Place) (before places : List Place) → slice_get classes c ≡ Some class → k < length class.head.methods
    → PlacesUpTo classes c k before → place.class ≡ c → place.method ≡ k → places ≡ before ++ place ∷ [] → PlacesUpTo classes c (suc k) places
place-more classes c k class place before places at lt up e f same = subst (PlacesUpTo classes c (suc k)) (sym same) (next_place class place at lt up e f)

-- each place is one of a method that can be lowered
pub each-place : (heads : List ClassHead) (classes : List ClassSpelled) (c k : ℕ) (places : List Place) → heads ≡ heads_of classes → length classes ≤ 2 ^ 26
    → PlacesFrom classes c k places → All (CanAnswer heads classes) places
each-place heads classes c k places same few (all_passed e f) = All-nil (CanAnswer heads classes)
each-place heads classes c k places same few (place_left {rest = rest} class place at lt e f from) =
    All-cons (CanAnswer heads classes) place rest
    (record { heads_are = same; few = few; place_is = record { class = class; at = ap (slice_get classes) e ∙ at; declared = omega (arith, lt, f) } })
    (each-place heads classes c (suc k) rest same few from)
each-place heads classes c k places same few (class_passed class at e from) = each-place heads classes (suc c) zero places same few from

-- the answers of the places, in order
pub answers-from : (table : Content) (classes : List ClassSpelled) (c k : ℕ) (places : List Place) (answers : List Answer)
    → PlacesFrom classes c k places → AllZip (IsAnswerAt table classes) places answers → AnswersFrom table classes c k answers
answers-from table classes c k places [] (all_passed e f) zipped = all_answered e f
answers-from table classes c k places (answer ∷ answers) (all_passed e f) zipped = absurd zipped
answers-from table classes c k places [] (place_left class place at lt e f from) zipped = absurd zipped
answers-from table classes c k places (answer ∷ answers) (place_left {rest = rest} class place at lt e f from) zipped =
    let same : answer.place ≡ place = zipped.0.place_is in
    answer_left answer (ap (λ (p : Place). p.class) same ∙ e) (ap (λ (p : Place). p.method) same ∙ f) zipped.0.answer_is
    (answers-from table classes c (suc k) rest answers from zipped.1)
answers-from table classes c k places answers (class_passed class at e from) zipped = class_answered class at e (answers-from table classes (suc c) zero places answers from zipped)

-- before the first answer
pub under-way : (table : Content) (classes : List ClassSpelled) (methods : List Method) (sites : List Site) (answers : List Answer)
    → AreUpTo table classes zero zero methods sites → AnswersFrom table classes zero zero answers → AreUnderWay table classes methods sites answers
under-way table classes methods sites answers up from = record { c = zero; k = zero; so_far = up; answers_left = from }

-- what the next answer is, and how to go on after it
pub record IsNext (table : Content) (classes : List ClassSpelled) (methods : List Method) (sites : List Site) (answer : Answer) (rest : List Answer) : Type 0 where
  pub answer_is : IsAnswer table classes answer
  pub so_far : AreUpTo table classes answer.place.class answer.place.method methods sites
  pub answers_left : AnswersFrom table classes answer.place.class (suc answer.place.method) rest

next-from : (table : Content) (classes : List ClassSpelled) (c k : ℕ) (methods : List Method) (sites : List Site) (answer : Answer) (rest left : List Answer) → left ≡ answer ∷ rest
    → AreUpTo table classes c k methods sites → AnswersFrom table classes c k left → IsNext table classes methods sites answer rest
next-from table classes c k methods sites answer rest left same up (all_answered e f) = absurd (cc same)
next-from table classes c k methods sites answer rest left same up (answer_left {rest = others} other e f is from) =
    let one : other ≡ answer = cc same in
    let more : others ≡ rest = cc same in
    let here : IsNext table classes methods sites other others =
    record {
      answer_is = is;
      so_far = subst (λ (n : ℕ). AreUpTo table classes n other.place.method methods sites) (sym e) (subst (λ (n : ℕ). AreUpTo table classes c n methods sites) (sym f) up);
      answers_left = subst (λ (n : ℕ). AnswersFrom table classes n (suc other.place.method) others) (sym e) (subst (λ (n : ℕ). AnswersFrom table classes c (suc n) others) (sym f) from);
    } in
    subst (λ (l : List Answer). IsNext table classes methods sites answer l) more (subst (λ (a : Answer). IsNext table classes methods sites a others) one here)
next-from table classes c k methods sites answer rest left same up (class_answered class at e from) =
    next-from table classes (suc c) zero methods sites answer rest left same
    (past table classes c class methods sites at (subst (λ (n : ℕ). AreUpTo table classes c n methods sites) e up)) from

-- the next answer of those that are left
pub next-answer : (table : Content) (classes : List ClassSpelled) (methods : List Method) (sites : List Site) (answer : Answer) (rest left : List Answer) → left ≡ answer ∷ rest
    → AreUnderWay table classes methods sites left → IsNext table classes methods sites answer rest
next-answer table classes methods sites answer rest left same way = next-from table classes way.c way.k methods sites answer rest left same way.so_far way.answers_left

end-from : (table : Content) (classes : List ClassSpelled) (c k : ℕ) (methods : List Method) (sites : List Site) (left : List Answer) → left ≡ []
    → AreUpTo table classes c k methods sites → AnswersFrom table classes c k left → AreUpTo table classes (length classes) zero methods sites
end-from table classes c k methods sites left same up (all_answered e f) =
    subst (λ (n : ℕ). AreUpTo table classes n zero methods sites) e (subst (λ (n : ℕ). AreUpTo table classes c n methods sites) f up)
end-from table classes c k methods sites left same up (answer_left other e f is from) = absurd (cc same)
end-from table classes c k methods sites left same up (class_answered class at e from) =
    end-from table classes (suc c) zero methods sites left same
    (past table classes c class methods sites at (subst (λ (n : ℕ). AreUpTo table classes c n methods sites) e up)) from

-- no answer is left: these are all methods
pub no-answer-left : (table : Content) (classes : List ClassSpelled) (methods : List Method) (sites : List Site) (left : List Answer) → left ≡ []
    → AreUnderWay table classes methods sites left → AreUpTo table classes (length classes) zero methods sites
no-answer-left table classes methods sites left same way = end-from table classes way.c way.k methods sites left same way.so_far way.answers_left

-- ---- one answer

-- the fault of an answer is want of memory or the refusal of the method
pub answer-refused : (table : Content) (classes : List ClassSpelled) (answer : Answer) (fault : MethodFault) (is : IsAnswer table classes answer) → answer.outcome ≡ Err fault
    → (fault ≡ faults.Memory) ⊎ IsRefused (heads_of classes) is.class answer.place.class answer.place.method fault
answer-refused table classes answer fault is e =
    subst (λ (o : Result Lowered MethodFault). IfErr o (λ f. (f ≡ faults.Memory) ⊎ IsRefused (heads_of classes) is.class answer.place.class answer.place.method f)) e is.refused

-- what an answer says of its method
pub answer-method : (table : Content) (classes : List ClassSpelled) (answer : Answer) (lowered : Lowered) (is : IsAnswer table classes answer) → answer.outcome ≡ Ok lowered
    → IsMethodOf (heads_of classes) table is.class answer.place.class answer.place.method lowered.method
answer-method table classes answer lowered is e =
    subst (λ (o : Result Lowered MethodFault). IfOk o (λ l. IsMethodOf (heads_of classes) table is.class answer.place.class answer.place.method l.method)) e is.method

-- what an answer says of the sink calls of its method
pub answer-sites : (table : Content) (classes : List ClassSpelled) (answer : Answer) (lowered : Lowered) (is : IsAnswer table classes answer) → answer.outcome ≡ Ok lowered
    → AreSitesOf (heads_of classes) lowered.method.code lowered.sites
answer-sites table classes answer lowered is e =
    subst (λ (o : Result Lowered MethodFault). IfOk o (λ l. AreSitesOf (heads_of classes) l.method.code l.sites)) e is.sites

-- ---- the iterator

pub nothing-left : {X : Type 0} (l : List X) → length l ≡ 0 → l ≡ []
nothing-left [] h = refl
nothing-left (x ∷ xs) h = absurd (omega arith)
