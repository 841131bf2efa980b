use Rattle.std.proofs.Common.{refl}
use Rattle.ja_listing.proofs.Scopes.{method_scope}
use Rattle.ja_listing.proofs.scope.Scope.enter_item.Goals as goal

pub returns-in-Method : goal.returns-in-Method
returns-in-Method c =
    λ earlier s.
    method_scope earlier c.args.item.now c.begin_method.new.self (rw c.in-Method.is refl) c.begin_method.ensures.class c.begin_method.ensures.method c.begin_method.ensures.labels

pub returns-in-Initializer : goal.returns-in-Initializer
returns-in-Initializer c =
    λ earlier s.
    method_scope earlier c.args.item.now c.begin_method-in-Initializer.new.self (rw c.in-Initializer.is refl) c.begin_method-in-Initializer.ensures.class c.begin_method-in-Initializer.ensures.method c.begin_method-in-Initializer.ensures.labels
