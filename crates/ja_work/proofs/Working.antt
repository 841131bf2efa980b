-- What is of the work.
use Rattle.std.proofs.Common.{◌≡◌, ℕ, ◌+◌, ◌/◌, ◌<◌, Bool, true, false, refl, sym, subst, List}
use Rattle.std.specs.Prelude.{◌&&◌}
use Rattle.ja_ir.specs.declared.program.Parts.{Parts}
use Rattle.ja_ir.specs.declared.method.Method.{Method}
use Rattle.ja_ir.specs.declared.op.Op.{Op}
use Rattle.ja_bdd.specs.Functions.{Function, IsAimed}
use Rattle.ja_facts.specs.Analyses.{Analyses}
use Rattle.ja_work.specs.declared.clause.Spot.{Spot}
use Rattle.ja_work.specs.declared.clause.Clause.{Clause}
use Rattle.ja_work.specs.declared.frame.Frame.{Frame}
use Rattle.ja_work.specs.Frames.{size, spot_at, clause_function, clauses_from}
use Rattle.ja_work.specs.Ends.{Tests, AreTests}
use Rattle.ja_work.specs.Thrown.{ends_thrown}
use Rattle.ja_work.specs.Work.{ReachedAt, IsSet, IsRule, Saying, before, of_context, of_return, of_throw, behind, Says, IsMethod, IsVariable, IsSome, some_of, IsOfMethod, contexts, returned, thrown, IsClauses, one_clause, rest_of_rule, whole_exceptional, IsPiece, literal, everything, as_it_is, one_literal, IsWork, product, piece, IsWorkTree}

first_alone : (x : Bool) → x ≡ (x && (true && (true && (true && true))))
first_alone true = refl
first_alone false = refl

second_alone : (x : Bool) → x ≡ (true && (x && (true && (true && true))))
second_alone true = refl
second_alone false = refl

third_alone : (x : Bool) → x ≡ (true && (true && (x && (true && true))))
third_alone true = refl
third_alone false = refl

clauses_alone : (x : Bool) → x ≡ (true && (true && (true && (x && true))))
clauses_alone true = refl
clauses_alone false = refl

literal_alone : (x : Bool) → x ≡ (true && (true && (true && (true && x))))
literal_alone true = refl
literal_alone false = refl

module _ (p : Parts) (A : Analyses) (frames : List Frame) where
  -- a function of the work is of its aim
  pub work_aimed : (φ : Function) → IsWork p A frames φ → IsAimed (IsWorkTree p A frames) φ
  work_aimed φ is t (reduced, same) = (reduced, subst (IsWork p A frames) (λ i a. sym (same a) i) is)

  -- facts of a whole method are work
  method_work : (n : ℕ) (φ : Function) → IsOfMethod p A frames n φ → IsWork p A frames φ
  method_work n φ is = product φ (record {
    m = 0;
    i = 0;
    n = n;
    first = ((λ a. true), everything);
    second = (φ, as_it_is φ is);
    third = ((λ a. true), everything);
    clauses = ((λ a. true), everything);
    literal = ((λ a. true), everything);
    is = λ a. second_alone (φ a);
  })

  -- and so are those before and after an instruction
  some_work : (m : ℕ) (saying : Saying p A) (φ : Function) → IsSome p A frames m saying φ → IsWork p A frames φ
  some_work m (before i) φ is = product φ (record {
    m = m;
    i = i;
    n = 0;
    first = (φ, as_it_is φ is);
    second = ((λ a. true), everything);
    third = ((λ a. true), everything);
    clauses = ((λ a. true), everything);
    literal = ((λ a. true), everything);
    is = λ a. first_alone (φ a);
  })
  some_work m of_context φ is = method_work m φ (contexts φ is)
  some_work m of_return φ is = method_work m φ (returned φ is)
  some_work m of_throw φ is = method_work m φ (thrown φ is)
  some_work m (behind i) φ is = product φ (record {
    m = m;
    i = i;
    n = 0;
    first = ((λ a. true), everything);
    second = ((λ a. true), everything);
    third = (φ, as_it_is φ is);
    clauses = ((λ a. true), everything);
    literal = ((λ a. true), everything);
    is = λ a. third_alone (φ a);
  })

  pub facts_work : (m : ℕ) (method : Method) (frame : Frame) (saying : Saying p A) (φ : Function) → IsMethod p A frames m method frame → IsSet method frame (Says p A m saying) φ → IsWork p A frames φ
  facts_work m method frame saying φ is set = some_work m saying φ (some_of φ is set)

  -- the clauses of a rule are work, one or from some place on
  clauses_work : (m i : ℕ) (φ : Function) → IsClauses p A frames m i φ → IsWork p A frames φ
  clauses_work m i φ is = product φ (record {
    m = m;
    i = i;
    n = 0;
    first = ((λ a. true), everything);
    second = ((λ a. true), everything);
    third = ((λ a. true), everything);
    clauses = (φ, as_it_is φ is);
    literal = ((λ a. true), everything);
    is = λ a. clauses_alone (φ a);
  })

  pub literal_work : (v : ℕ) (positive : Bool) → IsVariable p A frames v → IsWork p A frames (literal v positive)
  literal_work v positive is = product (literal v positive) (record {
    m = 0;
    i = 0;
    n = 0;
    first = ((λ a. true), everything);
    second = ((λ a. true), everything);
    third = ((λ a. true), everything);
    clauses = ((λ a. true), everything);
    literal = (literal v positive, as_it_is (literal v positive) (one_literal v positive is));
    is = λ a. literal_alone (literal v positive a);
  })

  module _ (m i : ℕ) (method : Method) (frame : Frame) (clauses : Spot → Clause) (is : IsMethod p A frames m method frame) (rule : IsRule p A m i clauses) where
    pub clause_work : (place : ℕ) → place < size frame → IsWork p A frames (clause_function frame (clauses (spot_at frame place)) (spot_at frame place))
    clause_work place lt = clauses_work m i (clause_function frame (clauses (spot_at frame place)) (spot_at frame place)) (one_clause place is rule lt)

    pub rest_work : (place count : ℕ) → place + count ≡ size frame → IsWork p A frames (clauses_from frame clauses place count)
    rest_work place count e = clauses_work m i (clauses_from frame clauses place count) (rest_of_rule place count is rule e)

    pub piece_work : (place : ℕ) (φ : Function) → place < size frame → IsPiece frame (clauses (spot_at frame place)) (spot_at frame place) φ → IsWork p A frames φ
    piece_work place φ lt part = piece φ place is rule lt part

  -- a whole exceptional end is work
  pub thrown_work : (m i height : ℕ) (method : Method) (frame : Frame) (tests : Tests) (op : Op) → IsMethod p A frames m method frame → ReachedAt p m i op height → AreTests A m i tests
      → IsWork p A frames (ends_thrown frame tests op height)
  thrown_work m i height method frame tests op is at are = clauses_work m i (ends_thrown frame tests op height) (whole_exceptional tests is at are)
