-- What the constructor that calls that of a superclass asks of the pool.
use Rattle.std.proofs.Common.{◌≡◌, ℕ, List, [], ◌∷◌, ap, ◌∙◌}
use Rattle.std.specs.Prelude.{codes, fold}
use Rattle.ja_code.specs.Opcode.{form_at}
use Rattle.ja_listing.specs.declared.item.MemberName.{MemberName}
use Rattle.ja_assembly.specs.declared.key.Key.{Key}
use Rattle.ja_assembly.specs.declared.key.Key.TheVariants.{Text}
use Rattle.ja_assembly.specs.Members.{initializer}
use Rattle.ja_assembly.specs.Wanted.{keys_in, member_keys}

-- the member that it calls
abbrev pub constructor : List ℕ → MemberName
constructor superclass = record { class = superclass; name = codes "<init>"; desc = codes "()V" }

pub initializer_asked : (f : List Key → Key → List Key) (old pair text all : List Key) (superclass : List ℕ) (m : MemberName) → pair ≡ fold f old (Text (codes "<init>") ∷ Text (codes "()V") ∷ [])
    → text ≡ f pair (Text (codes "Code")) → all ≡ fold f text (member_keys 10 m) → m ≡ constructor superclass → all ≡ fold f old (keys_in (initializer superclass))
unfolding form_at
initializer_asked f old pair text all superclass m p t a e =
    a ∙ ap (λ (keys : List Key). fold f keys (member_keys 10 m)) (t ∙ ap (λ (keys : List Key). f keys (Text (codes "Code"))) p)
    ∙ ap (λ (x : MemberName). fold f (f (fold f old (Text (codes "<init>") ∷ Text (codes "()V") ∷ [])) (Text (codes "Code"))) (member_keys 10 x)) e
