-- What became of the methods of the classes. Only private functions cite this.
use Rattle.std.specs.Prelude.{◌≡◌, ℕ, zero, suc, ◌<◌, ◌≤◌, ◌^◌, ◌⊎◌, List, [], ◌∷◌, Some, IfOk, IfErr, length, slice_get}
use Rattle.ja_ir.specs.declared.head.ClassHead.{ClassHead}
use Rattle.ja_ir.specs.declared.method.Method.{Method}
use Rattle.ja_ir.specs.declared.entry.Site.{Site}
use Rattle.ja_class.specs.Meaning.{ClassSpelled}
use Rattle.ja_lib.specs.Content.{Content}
use Rattle.ja_methods.specs.declared.fault.MethodFault.TheVariants as faults
use Rattle.ja_methods.specs.Method.{IsMethodOf}
use Rattle.ja_methods.specs.Refusal.{IsRefused}
use Rattle.ja_methods.specs.Sites.{AreSitesOf}
use Rattle.ja_lower.specs.declared.place.Place.{Place}
use Rattle.ja_lower.specs.declared.answer.Answer.{Answer}
use Rattle.ja_lower.specs.InnerPlaces.{IsPlace}
use Rattle.ja_lower.specs.Program.{heads_of}
use Rattle.ja_lower.specs.InnerSteps.{AreUpTo}
use Rattle.ja_base.specs.Limit.{max_numbered}

-- the method of this place can be lowered or refused, where these are the heads of the classes
pub record CanAnswer (heads : List ClassHead) (classes : List ClassSpelled) (place : Place) : Type 0 where
  pub heads_are : heads ≡ heads_of classes
  pub few : length classes ≤ max_numbered
  pub place_is : IsPlace classes place

-- the method with its sink calls, or its first refusal, or want of memory
pub record IsAnswer (table : Content) (classes : List ClassSpelled) (answer : Answer) : Type 0 where
  pub class : ClassSpelled
  pub at : slice_get classes answer.place.class ≡ Some class
  pub declared : answer.place.method < length class.head.methods
  pub method : IfOk answer.outcome (λ lowered. IsMethodOf (heads_of classes) table class answer.place.class answer.place.method lowered.method)
  pub sites : IfOk answer.outcome (λ lowered. AreSitesOf (heads_of classes) lowered.method.code lowered.sites)
  pub refused : IfErr answer.outcome (λ fault. (fault ≡ faults.Memory) ⊎ IsRefused (heads_of classes) class answer.place.class answer.place.method fault)

-- the answer of this place
pub record IsAnswerAt (table : Content) (classes : List ClassSpelled) (place : Place) (answer : Answer) : Type 0 where
  pub place_is : answer.place ≡ place
  pub answer_is : IsAnswer table classes answer

-- the answers of the methods of the classes from method k of class c on, in order
pub data AnswersFrom (table : Content) (classes : List ClassSpelled) : (c k : ℕ) → List Answer → Type 0 where
  all_passed : {c k : ℕ} → c ≡ length classes → k ≡ zero → AnswersFrom table classes c k []
  answer_left : {c k : ℕ} {rest : List Answer} (answer : Answer) → answer.place.class ≡ c → answer.place.method ≡ k → IsAnswer table classes answer → AnswersFrom table classes c (suc k) rest → AnswersFrom table classes c k (answer ∷ rest)
  class_passed : {c k : ℕ} {rest : List Answer} (class : ClassSpelled) → slice_get classes c ≡ Some class → k ≡ length class.head.methods
      → AnswersFrom table classes (suc c) zero rest → AnswersFrom table classes c k rest

-- these are the methods before some place and their sites, and these the answers from it on
pub record AreUnderWay (table : Content) (classes : List ClassSpelled) (methods : List Method) (sites : List Site) (left : List Answer) : Type 0 where
  pub c : ℕ
  pub k : ℕ
  pub so_far : AreUpTo table classes c k methods sites
  pub answers_left : AnswersFrom table classes c k left
