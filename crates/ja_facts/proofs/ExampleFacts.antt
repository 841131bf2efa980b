-- The facts of the small program.
use Rattle.std.proofs.Common.{lit<, ◌≡◌, ℕ, zero, suc, true, false, List, [], ◌∷◌, None, refl, arith}
use Rattle.ja_ir.specs.declared.op.Op.{Op}
use Rattle.ja_ir.specs.declared.op.Op.TheVariants.{Call, PutStatic, GetStatic, Throw, Return}
use Rattle.ja_ir.specs.Lookup.{OpAt, Leads}
use Rattle.ja_ir.specs.Tokens.{lib_token}
use Rattle.ja_facts.specs.Least.{Each, Least}
use Rattle.ja_facts.specs.Slots.{Slot, Local, OnStack, CallAt, kept_local}
use Rattle.ja_facts.specs.Actions.{IsInitializer, IsEntry}
use Rattle.ja_facts.specs.ClassSets.{Fact as ClassFact, Reached, CallsLibrary, InThrown, Rule as ClassRule, entry_runs, next_reached, found_library, by_static, throws_library}
use Rattle.ja_facts.specs.Held.{OfField}
use Rattle.ja_facts.specs.Formulas.{Turns, IsNormalEnd, IsExceptionalEnd, copied, above, answered, static_loaded, thrown}
use Rattle.ja_facts.specs.Analyses.{Classes, analyses_of}
use Rattle.ja_facts.specs.Equations.{Fact, Context, At, Normal, Threw, Stored, Rule, IsNothing, MayBegin, entry_called, initializer_called, begins, steps, reads_stored_field, stored, leaves, method_ends, IsWarned, stores_static, reads_field, reads_static, itself, Reads}
use Rattle.ja_facts.specs.Example.{example, nothing, example_main, example_entry, reached_instr, source_call, sink_call, example_site, lowest, only_lowest, clean_return, tainted_throw}
use Rattle.std.specs.Prelude.{codes}
use Rattle.std.proofs.lemmas.Fmt.{decimal_digit}
use Rattle.ja_ir.specs.declared.op.CallOp.{CallOp}
use Rattle.ja_facts.specs.Verdict.{site_line}
use Rattle.ja_facts.proofs.LeastLaws.{Least-is_solution}

by_class : (ps : List ClassFact) (f : ClassFact) → ClassRule example ps f → Each (Classes example) ps → Classes example f
by_class = Least-is_solution (ClassRule example)

by_rule : (ps : List Fact) (f : Fact) → Rule example (analyses_of example) ps f → Each (Least (Rule example (analyses_of example))) ps → Least (Rule example (analyses_of example)) f
by_rule = Least-is_solution (Rule example (analyses_of example))

reached : (i : ℕ) → Classes example (Reached 0 i) → (j : ℕ) → Leads example 0 i j → Classes example (Reached 0 j)
reached i r j leads = by_class (Reached 0 i ∷ []) (Reached 0 j) (next_reached leads) (r, tt)

at_call : CallAt example 0 0 source_call 0
at_call = record { height = 0; at = record { instr = reached_instr 0 (Call source_call) (1 ∷ []) 0; found = refl; is_op = refl; is_height = refl }; under_is = refl }

put : Op
put = PutStatic (record { 0 = 0 })

get : Op
get = GetStatic (record { 0 = 0 })

op0 : OpAt example 0 0 (Call source_call) 0
op0 = record { instr = reached_instr 0 (Call source_call) (1 ∷ []) 0; found = refl; is_op = refl; is_height = refl }

op1 : OpAt example 0 1 (PutStatic (record { 0 = 0 })) 1
op1 = record { instr = reached_instr 3 (PutStatic (record { 0 = 0 })) (2 ∷ []) 1; found = refl; is_op = refl; is_height = refl }

op2 : OpAt example 0 2 (GetStatic (record { 0 = 0 })) 0
op2 = record { instr = reached_instr 6 (GetStatic (record { 0 = 0 })) (3 ∷ []) 0; found = refl; is_op = refl; is_height = refl }

op3 : OpAt example 0 3 (Call sink_call) 1
op3 = record { instr = reached_instr 9 (Call sink_call) (4 ∷ []) 1; found = refl; is_op = refl; is_height = refl }

at_sink : CallAt example 0 3 sink_call 0
at_sink = record { height = 1; at = op3; under_is = refl }

op4 : OpAt example 0 4 (GetStatic (record { 0 = 0 })) 0
op4 = record { instr = reached_instr 12 (GetStatic (record { 0 = 0 })) (5 ∷ []) 0; found = refl; is_op = refl; is_height = refl }

op5 : OpAt example 0 5 Throw 1
op5 = record { instr = reached_instr 15 Throw [] 1; found = refl; is_op = refl; is_height = refl }

leads0 : Leads example 0 0 1
leads0 = record { instr = reached_instr 0 (Call source_call) (1 ∷ []) 0; found = refl; listed = (0, lit< tt, refl) }

leads1 : Leads example 0 1 2
leads1 = record { instr = reached_instr 3 (PutStatic (record { 0 = 0 })) (2 ∷ []) 1; found = refl; listed = (0, lit< tt, refl) }

leads2 : Leads example 0 2 3
leads2 = record { instr = reached_instr 6 (GetStatic (record { 0 = 0 })) (3 ∷ []) 0; found = refl; listed = (0, lit< tt, refl) }

leads3 : Leads example 0 3 4
leads3 = record { instr = reached_instr 9 (Call sink_call) (4 ∷ []) 1; found = refl; listed = (0, lit< tt, refl) }

leads4 : Leads example 0 4 5
leads4 = record { instr = reached_instr 12 (GetStatic (record { 0 = 0 })) (5 ∷ []) 0; found = refl; listed = (0, lit< tt, refl) }

reached0 : Classes example (Reached 0 0)
reached0 = by_class [] (Reached 0 0) (entry_runs example_entry (0, lit< tt, refl)) tt

reached3 : Classes example (Reached 0 3)
reached3 = reached 2 (reached 1 (reached 0 reached0 1 leads0) 2 leads1) 3 leads2

reached5 : Classes example (Reached 0 5)
reached5 = reached 4 (reached 3 reached3 4 leads3) 5 leads4

sinks : Classes example (CallsLibrary 0 3)
sinks = by_class (Reached 0 3 ∷ []) (CallsLibrary 0 3) (found_library at_sink (by_static refl refl)) (reached3, tt)

to_library : Classes example (CallsLibrary 0 0)
to_library = by_class (Reached 0 0 ∷ []) (CallsLibrary 0 0) (found_library at_call (by_static refl refl)) (reached0, tt)

throws_lib : Classes example (InThrown 0 5 (lib_token example))
throws_lib = by_class (Reached 0 5 ∷ []) (InThrown 0 5 (lib_token example)) (throws_library op5 tt) (reached5, tt)

-- the source pushes a tainted text
pushed_slots : (y : Slot) → Turns (analyses_of example) 0 0 nothing (Call source_call) 0 y (lowest y)
pushed_slots (Local l) = copied (kept_local tt)
pushed_slots (OnStack zero) = answered 0 refl refl (λ t. refl)
pushed_slots (OnStack (suc k)) = above (omega arith)

source_end : IsNormalEnd example (analyses_of example) 0 0 nothing only_lowest
source_end = record { instr = reached_instr 0 (Call source_call) (1 ∷ []) 0; found = refl; reached = refl; goes_on = refl; library = to_library; slots = pushed_slots; dirt = refl; exc = refl }

-- the write pops it, and the read pushes something tainted again
popped_slots : (y : Slot) → Turns (analyses_of example) 0 1 only_lowest (PutStatic (record { 0 = 0 })) 1 y (nothing.slot y)
popped_slots (Local l) = copied (kept_local tt)
popped_slots (OnStack k) = above (omega arith)

put_end : IsNormalEnd example (analyses_of example) 0 1 only_lowest nothing
put_end = record { instr = reached_instr 3 (PutStatic (record { 0 = 0 })) (2 ∷ []) 1; found = refl; reached = refl; goes_on = refl; library = tt; slots = popped_slots; dirt = refl; exc = refl }

read_slots : (i : ℕ) (y : Slot) → Turns (analyses_of example) 0 i nothing (GetStatic (record { 0 = 0 })) 0 y (lowest y)
read_slots i (Local l) = copied (kept_local tt)
read_slots i (OnStack zero) = static_loaded
read_slots i (OnStack (suc k)) = above (omega arith)

get_end : IsNormalEnd example (analyses_of example) 0 2 nothing only_lowest
get_end = record { instr = reached_instr 6 (GetStatic (record { 0 = 0 })) (3 ∷ []) 0; found = refl; reached = refl; goes_on = refl; library = tt; slots = read_slots 2; dirt = refl; exc = refl }

again_end : IsNormalEnd example (analyses_of example) 0 4 nothing only_lowest
again_end = record { instr = reached_instr 12 (GetStatic (record { 0 = 0 })) (5 ∷ []) 0; found = refl; reached = refl; goes_on = refl; library = tt; slots = read_slots 4; dirt = refl; exc = refl }

-- the sink pops it
sunk_slots : (y : Slot) → Turns (analyses_of example) 0 3 only_lowest (Call sink_call) 1 y (nothing.slot y)
sunk_slots (Local l) = copied (kept_local tt)
sunk_slots (OnStack k) = above (omega arith)

sink_end : IsNormalEnd example (analyses_of example) 0 3 only_lowest nothing
sink_end = record { instr = reached_instr 9 (Call sink_call) (4 ∷ []) 1; found = refl; reached = refl; goes_on = refl; library = sinks; slots = sunk_slots; dirt = refl; exc = refl }

-- what is thrown leaves
throw_end : IsExceptionalEnd example (analyses_of example) 0 5 only_lowest (record { slot = λ z. false; dirt = false; exc = true })
throw_end = record { instr = reached_instr 15 Throw [] 1; found = refl; reached = refl; throws = thrown {k = 0} refl (record { locals = λ l. refl; stack = λ k. refl; dirt = refl; is_exc = refl }) }

reads_none : {op : Op} {height : ℕ} {call : CallOp} → (op ≡ Call call) → (f : ℕ) (r : Slot) → Reads op height f r → ⊥
reads_none e f r (reads_field h) = absurd (cc e)
reads_none e f r reads_static = absurd (cc e)

reads_none_put : {op : Op} {height : ℕ} → (op ≡ PutStatic (record { 0 = 0 })) → (f : ℕ) (r : Slot) → Reads op height f r → ⊥
reads_none_put e f r (reads_field h) = absurd (cc e)
reads_none_put e f r reads_static = absurd (cc e)

main_entry : IsEntry example example_entry example_main
main_entry = record { listed = (0, lit< tt, refl); found = refl }

initializes : IsInitializer example 1
initializes = record { entry = example_entry; listed = (0, lit< tt, refl); initializes = (0, lit< tt, refl) }

is_nothing : IsNothing nothing
is_nothing = record { slots = λ z. refl; dirt = refl; exc = refl }

may_begin : MayBegin example (analyses_of example) example_entry nothing []
may_begin = record { method = example_main; is_entry = main_entry; parameters = λ z t. absurd (cc t); reasons = λ c l. absurd (omega (arith, l.1)); once = tt; dirt = refl; exc = refl }

pub context : Least (Rule example (analyses_of example)) (Context 0 nothing)
context = by_rule [] (Context 0 nothing) (entry_called example_entry [] may_begin) tt

pub entered : Least (Rule example (analyses_of example)) (At 0 0 nothing nothing)
entered = by_rule (Context 0 nothing ∷ []) (At 0 0 nothing nothing) begins (context, tt)

pub pushed : Least (Rule example (analyses_of example)) (At 0 1 nothing only_lowest)
pushed = by_rule (At 0 0 nothing nothing ∷ []) (At 0 1 nothing only_lowest) (steps op0 leads0 source_end (λ f r reads. absurd (reads_none refl f r reads))) (entered, tt)

pub kept_in_field : Least (Rule example (analyses_of example)) (Stored (OfField 0))
kept_in_field = by_rule (At 0 1 nothing only_lowest ∷ []) (Stored (OfField 0)) (stored op1 (stores_static {k = 0} refl) refl) (pushed, tt)

pub written : Least (Rule example (analyses_of example)) (At 0 2 nothing nothing)
written = by_rule (At 0 1 nothing only_lowest ∷ []) (At 0 2 nothing nothing) (steps op1 leads1 put_end (λ f r reads. absurd (reads_none_put refl f r reads))) (pushed, tt)

pub read : Least (Rule example (analyses_of example)) (At 0 3 nothing only_lowest)
read = by_rule (At 0 2 nothing nothing ∷ Stored (OfField 0) ∷ []) (At 0 3 nothing only_lowest) (reads_stored_field op2 leads2 get_end reads_static refl itself) (written, (kept_in_field, tt))

pub sunk : Least (Rule example (analyses_of example)) (At 0 4 nothing nothing)
sunk = by_rule (At 0 3 nothing only_lowest ∷ []) (At 0 4 nothing nothing) (steps op3 leads3 sink_end (λ f r reads. absurd (reads_none refl f r reads))) (read, tt)

pub again : Least (Rule example (analyses_of example)) (At 0 5 nothing only_lowest)
again = by_rule (At 0 4 nothing nothing ∷ Stored (OfField 0) ∷ []) (At 0 5 nothing only_lowest) (reads_stored_field op4 leads4 again_end reads_static refl itself) (sunk, (kept_in_field, tt))

pub threw : Least (Rule example (analyses_of example)) (Threw 0 nothing tainted_throw)
threw = by_rule (At 0 5 nothing only_lowest ∷ []) (Threw 0 nothing tainted_throw) (leaves throws_lib (0, lit< tt, refl) throw_end) (again, tt)

pub warned : IsWarned example (Least (Rule example (analyses_of example))) example_site
warned = record { call = sink_call; under = 0; at = at_sink; a = nothing; b = only_lowest; fact = read; k = 0; listed = (0, lit< tt, refl); true_argument = refl }

pub named : site_line (record example { categories = codes "sql" ∷ codes "page" ∷ [] }) (record example_site { category = 1 }) true ≡ codes "warned A.main()V 9 demo/Taint.sink(Ljava/lang/String;)V in page\n"
named = rw (decimal_digit 9 (lit< tt)) refl

pub line : site_line example example_site true ≡ codes "warned A.main()V 9 demo/Taint.sink(Ljava/lang/String;)V\n"
line = rw (decimal_digit 9 (lit< tt)) refl

pub returned : Least (Rule example (analyses_of example)) (Normal 1 nothing clean_return)
returned =
    by_rule (At 1 0 nothing nothing ∷ []) (Normal 1 nothing clean_return)
    (method_ends (record { instr = reached_instr 0 (Return None) [] 0; found = refl; is_op = refl; is_height = refl }))
    (by_rule (Context 1 nothing ∷ []) (At 1 0 nothing nothing) begins (by_rule [] (Context 1 nothing) (initializer_called initializes is_nothing) tt, tt), tt)
