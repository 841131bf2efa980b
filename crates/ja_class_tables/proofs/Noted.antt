-- One event more that is noted.
use Rattle.std.proofs.Common.{◌≡◌, ◌⊎◌, ◌↔◌, inl, inr, ℕ, zero, suc, ◌+◌, ◌<◌, ◌≤◌, Bool, true, false, List, [], ◌∷◌, ◌++◌, Some, length, map, replicate, take, get_or, set, refl, sym, ap, subst, ◌∙◌, true≢false, arith}
use Rattle.std.specs.Prelude.{Contains, slice_get}
use Rattle.std.proofs.lemmas.Bool.{cases_lt, cases_eq}
use Rattle.std.proofs.lemmas.List.{get_or-set_same, get_or-set_other, get_or_past, length-set, length-replicate, take_more, get_or-replicate}
use Rattle.std.proofs.lemmas.List.Elements.{Contains-append_left, Contains-push, Contains-push_cases}
use Rattle.std.proofs.lemmas.Option.{slice_get_within, get_or_from_slice_get}
use Rattle.ja_ir.specs.declared.program.Parts.{Parts}
use Rattle.ja_ir.specs.declared.method.Method.{Method}
use Rattle.ja_ir.specs.declared.method.Instr.{Instr}
use Rattle.ja_ir.specs.Lookup.{code_of}
use Rattle.ja_facts.specs.declared.targets.Targets.{Targets}
use Rattle.ja_facts.specs.FactTables.{GraphTable, no_targets, empty_graph}
use Rattle.ja_facts.specs.Listing.{with_listed_in}
use Rattle.ja_network.specs.declared.cell.Event.{Event}
use Rattle.ja_network.specs.declared.cell.Event.TheVariants.{Reached, Calls, CallsAbstract, CallsLibrary}
use Rattle.ja_class_tables.specs.declared.notes.Notes.{Notes}
use Rattle.ja_class_tables.specs.Reads.{IsInstr}
use Rattle.ja_class_tables.specs.InnerPool.{row_of}
use Rattle.ja_class_tables.specs.InnerNotes.{item_at, code_size, HasItems, IsNoted, noted_at, with_method, with_library}
use Rattle.ja_class_tables.proofs.Written.{row-here, row-else}

-- ---- items

-- an item of a table in which one was replaced: it is that one, or the same
data Item {A : Type 0} (rows : List (List A)) (m i : ℕ) (x : A) (a b : ℕ) (d : A) : Type 0 where
  here : a ≡ m → b ≡ i → i < length (row_of rows m) → item_at (with_listed_in rows m i x) a b d ≡ x → Item rows m i x a b d
  else : (a ≡ m → b ≡ i → i < length (row_of rows m) → ⊥) → item_at (with_listed_in rows m i x) a b d ≡ item_at rows a b d → Item rows m i x a b d

item-of : {A : Type 0} (rows : List (List A)) (m i : ℕ) (x : A) (a b : ℕ) (d : A) → Item rows m i x a b d
item-of rows m i x a b d = elim (cases_eq a m) [
  | inr ne ↦ else (λ e f lt. ne e) (ap (λ row. get_or row b d) (row-else rows m i a x ne))
  | inl e ↦
      let at : item_at (with_listed_in rows m i x) a b d ≡ get_or (set (row_of rows m) i x) b d = ap (λ n. item_at (with_listed_in rows m i x) n b d) e ∙ ap (λ row. get_or row b d) (row-here rows m i x) in
      elim (cases_eq b i) [
        | inr ne ↦ else (λ g f lt. ne f) (at ∙ get_or-set_other (row_of rows m) i b x d ne ∙ ap (λ n. item_at rows n b d) (sym e))
        | inl f ↦ elim (cases_lt i (length (row_of rows m))) [
          | inl lt ↦ here e f lt (at ∙ ap (λ n. get_or (set (row_of rows m) i x) n d) f ∙ get_or-set_same (row_of rows m) i x d lt)
          | inr past ↦
              let long : length (set (row_of rows m) i x) ≤ b = let s = length-set (row_of rows m) i x in omega arith in
              let long_before : length (row_of rows a) ≤ b = let s = ap (λ n. length (row_of rows n)) e in omega arith in
              else (λ g h lt. absurd (omega arith)) (at ∙ get_or_past (set (row_of rows m) i x) b d long ∙ sym (get_or_past (row_of rows a) b d long_before))
        ]
      ]
]

-- there are as many items as before
items-same : {A : Type 0} (p : Parts) (rows : List (List A)) (m i : ℕ) (x : A) → HasItems p rows → HasItems p (with_listed_in rows m i x)
items-same p rows m i x items a = elim (cases_eq a m) [
  | inl e ↦ ap (λ n. length (row_of (with_listed_in rows m i x) n)) e ∙ ap length (row-here rows m i x) ∙ length-set (row_of rows m) i x ∙ items m ∙ ap (code_size p) (sym e)
  | inr ne ↦ ap length (row-else rows m i a x ne) ∙ items a
]

-- an instruction is there exactly below the number of instructions
pub below-size : (p : Parts) (m i : ℕ) → IsInstr p m i → i < code_size p m
below-size p m i instr = slice_get_within (code_of (slice_get p.methods m)) i instr.0 instr.1

pub there : (p : Parts) (m i : ℕ) → i < code_size p m → IsInstr p m i
there p m i lt = at (code_of (slice_get p.methods m)) i lt
  where
    at : (code : List Instr) (k : ℕ) → k < length code → (instr : Instr) × (slice_get code k ≡ Some instr)
    at [] k l = absurd (omega arith)
    at (instr ∷ code) zero l = (instr, refl)
    at (instr ∷ code) (suc k) l = at code k (omega arith)

-- ---- events

module _ (p : Parts) (events : List Event) (e : Event) where
  abbrev next : List Event
  next = events ++ e ∷ []

  stays : (x : Event) → Contains events x → Contains next x
  stays x h = Contains-append_left events (e ∷ []) x h

  came : (x : Event) → e ≡ x → Contains next x
  came x is = subst (Contains next) is (Contains-push events e)

  came_or : (x : Event) → Contains next x → Contains events x ⊎ (e ≡ x)
  came_or x h = Contains-push_cases events e x h

  was : (x : Event) → (e ≡ x → ⊥) → Contains next x → Contains events x
  was x ne h = elim (came_or x h) [ inl l ↦ l | inr is ↦ absurd (ne is) ]

  abbrev NotesReached : List Event → List (List Bool) → Type 0
  NotesReached es rows = (a b : ℕ) → (item_at rows a b false ≡ true) ↔ (IsInstr p a b × Contains es (Reached a b))

  abbrev NotesMethods : List Event → List (List Targets) → Type 0
  NotesMethods es rows = (a b n : ℕ) → Contains (item_at rows a b no_targets).methods n ↔ (IsInstr p a b × (Contains es (Calls a b n) ⊎ Contains es (CallsAbstract a b n)))

  abbrev NotesLibrary : List Event → List (List Targets) → Type 0
  NotesLibrary es rows = (a b : ℕ) → ((item_at rows a b no_targets).library ≡ true) ↔ (IsInstr p a b × Contains es (CallsLibrary a b))

  -- what the event is not about stays
  reached-other : (rows : List (List Bool)) → ((a b : ℕ) → e ≡ Reached a b → ⊥) → NotesReached events rows → NotesReached next rows
  reached-other rows ne old a b = (
    λ h. let o = (old a b).0 h in (o.0, stays (Reached a b) o.1),
    λ h. (old a b).1 (h.0, was (Reached a b) (ne a b) h.1),
  )

  methods-other : (rows : List (List Targets)) → ((a b n : ℕ) → e ≡ Calls a b n → ⊥) → ((a b n : ℕ) → e ≡ CallsAbstract a b n → ⊥) → NotesMethods events rows → NotesMethods next rows
  methods-other rows ne na old a b n = (
    λ h. let o = (old a b n).0 h in (o.0, elim o.1 [ inl l ↦ inl (stays (Calls a b n) l) | inr r ↦ inr (stays (CallsAbstract a b n) r) ]),
    λ h. (old a b n).1 (h.0, elim h.1 [ inl l ↦ inl (was (Calls a b n) (ne a b n) l) | inr r ↦ inr (was (CallsAbstract a b n) (na a b n) r) ]),
  )

  library-other : (rows : List (List Targets)) → ((a b : ℕ) → e ≡ CallsLibrary a b → ⊥) → NotesLibrary events rows → NotesLibrary next rows
  library-other rows ne old a b = (
    λ h. let o = (old a b).0 h in (o.0, stays (CallsLibrary a b) o.1),
    λ h. (old a b).1 (h.0, was (CallsLibrary a b) (ne a b) h.1),
  )

  -- an instruction that is reached
  reached-more : (rows : List (List Bool)) (m i : ℕ) → e ≡ Reached m i → HasItems p rows → NotesReached events rows → NotesReached next (with_listed_in rows m i true)
  reached-more rows m i is items old a b = elim (item-of rows m i true a b false) [
    | here f g lt at ↦
        let instr : IsInstr p m i = there p m i (let s = items m in omega arith) in
        let told : Contains next (Reached m i) = came (Reached m i) is in
        (λ h. (subst (λ x. IsInstr p x b) (sym f) (subst (IsInstr p m) (sym g) instr), subst (λ x. Contains next (Reached x b)) (sym f) (subst (λ y. Contains next (Reached m y)) (sym g) told)), λ h. at)
    | else ne at ↦ (
      λ h. let o = (old a b).0 (sym at ∙ h) in (o.0, stays (Reached a b) o.1),
      λ h. elim (came_or (Reached a b) h.1) [
        | inl l ↦ at ∙ (old a b).1 (h.0, l)
        | inr same ↦
            let both : Reached m i ≡ Reached a b = sym is ∙ same in
            let f : a ≡ m = cc in
            let g : b ≡ i = cc in
            absurd (ne f g (let s = items m in let l = below-size p a b h.0 in let t = ap (code_size p) f in omega arith))
      ],
    )
  ]

  -- a call that goes to a method
  abbrev GoesTo : (m i n a b k : ℕ) → Type 0
  GoesTo m i n a b k = ((e ≡ Calls a b k) ⊎ (e ≡ CallsAbstract a b k)) ↔ ((a ≡ m) × (b ≡ i) × (n ≡ k))

  methods-more : (rows : List (List Targets)) (m i n : ℕ) → ((a b k : ℕ) → GoesTo m i n a b k) → HasItems p rows → NotesMethods events rows → NotesMethods next (with_listed_in rows m i (with_method (item_at rows m i no_targets) n))
  methods-more rows m i n goes items old a b k = elim (item-of rows m i (with_method (item_at rows m i no_targets) n) a b no_targets) [
    | here f g lt at ↦
        let methods : (item_at (with_listed_in rows m i (with_method (item_at rows m i no_targets) n)) a b no_targets).methods ≡ (item_at rows a b no_targets).methods ++ n ∷ [] =
        ap (λ (t : Targets). t.methods) at ∙ ap (λ (t : Targets). t.methods ++ n ∷ []) (ap (λ x. item_at rows x i no_targets) (sym f) ∙ ap (λ y. item_at rows a y no_targets) (sym g)) in
        let instr : IsInstr p a b = there p a b (let s = items m in let t = ap (code_size p) f in omega arith) in (
          λ h. (
            instr,
            elim (Contains-push_cases (item_at rows a b no_targets).methods n k (subst (λ (ms : List ℕ). Contains ms k) methods h)) [
              | inl l ↦ told-on k ((old a b k).0 l).1
              | inr same ↦ told-new k ((goes a b k).1 (f, g, same))
            ],
          ),
          λ h. subst (λ (ms : List ℕ). Contains ms k) (sym methods) (elim (came-in k h.1) [
            | inl l ↦ Contains-append_left (item_at rows a b no_targets).methods (n ∷ []) k ((old a b k).1 (h.0, l))
            | inr new ↦ subst (Contains ((item_at rows a b no_targets).methods ++ n ∷ [])) ((goes a b k).0 new).2 (Contains-push (item_at rows a b no_targets).methods n)
          ]),
        )
    | else ne at ↦ (
      λ h. let o = (old a b k).0 (subst (λ (t : Targets). Contains t.methods k) at h) in (o.0, told-on k o.1),
      λ h. elim (came-in k h.1) [
        | inl l ↦ subst (λ (t : Targets). Contains t.methods k) (sym at) ((old a b k).1 (h.0, l))
        | inr new ↦
            let is = (goes a b k).0 new in
            absurd (ne is.0 is.1 (let s = items m in let l = below-size p a b h.0 in let t = ap (code_size p) is.0 in let u = is.1 in omega arith))
      ],
    )
  ]
    where
      told-on : (k : ℕ) → Contains events (Calls a b k) ⊎ Contains events (CallsAbstract a b k) → Contains next (Calls a b k) ⊎ Contains next (CallsAbstract a b k)
      told-on k (inl l) = inl (stays (Calls a b k) l)
      told-on k (inr r) = inr (stays (CallsAbstract a b k) r)

      told-new : (k : ℕ) → (e ≡ Calls a b k) ⊎ (e ≡ CallsAbstract a b k) → Contains next (Calls a b k) ⊎ Contains next (CallsAbstract a b k)
      told-new k (inl l) = inl (came (Calls a b k) l)
      told-new k (inr r) = inr (came (CallsAbstract a b k) r)

      came-in : (k : ℕ) → Contains next (Calls a b k) ⊎ Contains next (CallsAbstract a b k) → (Contains events (Calls a b k) ⊎ Contains events (CallsAbstract a b k)) ⊎ ((e ≡ Calls a b k) ⊎ (e ≡ CallsAbstract a b k))
      came-in k (inl l) = elim (came_or (Calls a b k) l) [ inl o ↦ inl (inl o) | inr new ↦ inr (inl new) ]
      came-in k (inr r) = elim (came_or (CallsAbstract a b k) r) [ inl o ↦ inl (inr o) | inr new ↦ inr (inr new) ]

  -- whether it goes to the library does not change by that
  library-kept : (rows : List (List Targets)) (m i n : ℕ) → NotesLibrary events rows → NotesLibrary events (with_listed_in rows m i (with_method (item_at rows m i no_targets) n))
  library-kept rows m i n old a b = elim (item-of rows m i (with_method (item_at rows m i no_targets) n) a b no_targets) [
    | here f g lt at ↦
        let same : (item_at (with_listed_in rows m i (with_method (item_at rows m i no_targets) n)) a b no_targets).library ≡ (item_at rows a b no_targets).library =
        ap (λ (t : Targets). t.library) at ∙ ap (λ (t : Targets). t.library) (ap (λ x. item_at rows x i no_targets) (sym f) ∙ ap (λ y. item_at rows a y no_targets) (sym g)) in
        (λ h. (old a b).0 (sym same ∙ h), λ h. same ∙ (old a b).1 h)
    | else ne at ↦ (λ h. (old a b).0 (sym (ap (λ (t : Targets). t.library) at) ∙ h), λ h. ap (λ (t : Targets). t.library) at ∙ (old a b).1 h)
  ]

  -- a call that goes to the library
  library-more : (rows : List (List Targets)) (m i : ℕ) → e ≡ CallsLibrary m i → HasItems p rows → NotesLibrary events rows → NotesLibrary next (with_listed_in rows m i (with_library (item_at rows m i no_targets)))
  library-more rows m i is items old a b = elim (item-of rows m i (with_library (item_at rows m i no_targets)) a b no_targets) [
    | here f g lt at ↦
        let instr : IsInstr p m i = there p m i (let s = items m in omega arith) in
        let told : Contains next (CallsLibrary m i) = came (CallsLibrary m i) is in (
          λ h. (subst (λ x. IsInstr p x b) (sym f) (subst (IsInstr p m) (sym g) instr), subst (λ x. Contains next (CallsLibrary x b)) (sym f) (subst (λ y. Contains next (CallsLibrary m y)) (sym g) told)),
          λ h. ap (λ (t : Targets). t.library) at,
        )
    | else ne at ↦ (
      λ h. let o = (old a b).0 (sym (ap (λ (t : Targets). t.library) at) ∙ h) in (o.0, stays (CallsLibrary a b) o.1),
      λ h. elim (came_or (CallsLibrary a b) h.1) [
        | inl l ↦ ap (λ (t : Targets). t.library) at ∙ (old a b).1 (h.0, l)
        | inr same ↦
            let both : CallsLibrary m i ≡ CallsLibrary a b = sym is ∙ same in
            let f : a ≡ m = cc in
            let g : b ≡ i = cc in
            absurd (ne f g (let s = items m in let l = below-size p a b h.0 in let t = ap (code_size p) f in omega arith))
      ],
    )
  ]

  -- where it goes does not change by that
  methods-kept : (rows : List (List Targets)) (m i : ℕ) → NotesMethods events rows → NotesMethods events (with_listed_in rows m i (with_library (item_at rows m i no_targets)))
  methods-kept rows m i old a b k = elim (item-of rows m i (with_library (item_at rows m i no_targets)) a b no_targets) [
    | here f g lt at ↦
        let same : (item_at (with_listed_in rows m i (with_library (item_at rows m i no_targets))) a b no_targets).methods ≡ (item_at rows a b no_targets).methods =
        ap (λ (t : Targets). t.methods) at ∙ ap (λ (t : Targets). t.methods) (ap (λ x. item_at rows x i no_targets) (sym f) ∙ ap (λ y. item_at rows a y no_targets) (sym g)) in
        (λ h. (old a b k).0 (subst (λ (ms : List ℕ). Contains ms k) same h), λ h. subst (λ (ms : List ℕ). Contains ms k) (sym same) ((old a b k).1 h))
    | else ne at ↦ (λ h. (old a b k).0 (subst (λ (t : Targets). Contains t.methods k) at h), λ h. subst (λ (t : Targets). Contains t.methods k) (sym at) ((old a b k).1 h))
  ]

-- ---- all that is noted

pub noted-reached : (p : Parts) (events : List Event) (m i : ℕ) (notes : Notes) → IsNoted p events notes
    → IsNoted p (events ++ Reached m i ∷ []) (record notes { graph = record notes.graph { reached = with_listed_in notes.graph.reached m i true } })
noted-reached p events m i notes noted = record {
  room = record { reached = items-same p notes.graph.reached m i true noted.room.reached; targets = noted.room.targets; none = noted.room.none };
  reached = reached-more p events (Reached m i) notes.graph.reached m i refl noted.room.reached noted.reached;
  methods = methods-other p events (Reached m i) notes.targets (λ a b n same. cc) (λ a b n same. cc) noted.methods;
  library = library-other p events (Reached m i) notes.targets (λ a b same. cc) noted.library;
}

noted-method : (p : Parts) (events : List Event) (e : Event) (m i n : ℕ) (notes : Notes) → ((a b k : ℕ) → GoesTo p events e m i n a b k) → ((a b : ℕ) → e ≡ Reached a b → ⊥) → ((a b : ℕ) → e ≡ CallsLibrary a b → ⊥)
    → IsNoted p events notes → IsNoted p (events ++ e ∷ []) (record notes { targets = with_listed_in notes.targets m i (with_method (noted_at notes m i) n) })
noted-method p events e m i n notes goes nr nl noted = record {
  room = record { reached = noted.room.reached; targets = items-same p notes.targets m i (with_method (noted_at notes m i) n) noted.room.targets; none = noted.room.none };
  reached = reached-other p events e notes.graph.reached nr noted.reached;
  methods = methods-more p events e notes.targets m i n goes noted.room.targets noted.methods;
  library = library-other p events e (with_listed_in notes.targets m i (with_method (noted_at notes m i) n)) nl (library-kept p events e notes.targets m i n noted.library);
}

pub noted-calls : (p : Parts) (events : List Event) (m i n : ℕ) (notes : Notes) → IsNoted p events notes
    → IsNoted p (events ++ Calls m i n ∷ []) (record notes { targets = with_listed_in notes.targets m i (with_method (noted_at notes m i) n) })
noted-calls p events m i n notes noted = noted-method p events (Calls m i n) m i n notes
    (λ a b k. (λ h. elim h [ inl same ↦ (cc, cc, cc) | inr same ↦ cc ], λ h. inl (let f = h.0 in let g = h.1 in let k_is = h.2 in cc)))
    (λ a b same. cc) (λ a b same. cc) noted

pub noted-abstract : (p : Parts) (events : List Event) (m i n : ℕ) (notes : Notes) → IsNoted p events notes
    → IsNoted p (events ++ CallsAbstract m i n ∷ []) (record notes { targets = with_listed_in notes.targets m i (with_method (noted_at notes m i) n) })
noted-abstract p events m i n notes noted = noted-method p events (CallsAbstract m i n) m i n notes
    (λ a b k. (λ h. elim h [ inl same ↦ cc | inr same ↦ (cc, cc, cc) ], λ h. inr (let f = h.0 in let g = h.1 in let k_is = h.2 in cc)))
    (λ a b same. cc) (λ a b same. cc) noted

pub noted-library : (p : Parts) (events : List Event) (m i : ℕ) (notes : Notes) → IsNoted p events notes
    → IsNoted p (events ++ CallsLibrary m i ∷ []) (record notes { targets = with_listed_in notes.targets m i (with_library (noted_at notes m i)) })
noted-library p events m i notes noted = record {
  room = record { reached = noted.room.reached; targets = items-same p notes.targets m i (with_library (noted_at notes m i)) noted.room.targets; none = noted.room.none };
  reached = reached-other p events (CallsLibrary m i) notes.graph.reached (λ a b same. cc) noted.reached;
  methods = methods-other p events (CallsLibrary m i) (with_listed_in notes.targets m i (with_library (noted_at notes m i))) (λ a b n same. cc) (λ a b n same. cc) (methods-kept p events (CallsLibrary m i) notes.targets m i noted.methods);
  library = library-more p events (CallsLibrary m i) notes.targets m i refl noted.room.targets noted.library;
}

-- of another event nothing is noted
pub noted-other : (p : Parts) (events : List Event) (e : Event) (notes : Notes) → ((a b : ℕ) → e ≡ Reached a b → ⊥) → ((a b n : ℕ) → e ≡ Calls a b n → ⊥) → ((a b n : ℕ) → e ≡ CallsAbstract a b n → ⊥)
    → ((a b : ℕ) → e ≡ CallsLibrary a b → ⊥) → IsNoted p events notes → IsNoted p (events ++ e ∷ []) notes
noted-other p events e notes nr nc na nl noted = record {
  room = noted.room;
  reached = reached-other p events e notes.graph.reached nr noted.reached;
  methods = methods-other p events e notes.targets nc na noted.methods;
  library = library-other p events e notes.targets nl noted.library;
}

-- the first so many events and the next
pub take-event : (events : List Event) (k : ℕ) (e : Event) → slice_get events k ≡ Some e → take (k + 1) events ≡ take k events ++ e ∷ []
take-event events k e at = take_more events k e (slice_get_within events k e at) ∙ ap (λ x. take k events ++ x ∷ []) (get_or_from_slice_get events k e e at)

-- ---- no event

copies-size : {A : Type 0} (x : A) (methods : List Method) (m : ℕ) → length (row_of (map (λ (method : Method). replicate (length method.code) x) methods) m) ≡ length (code_of (slice_get methods m))
copies-size x [] m = refl
copies-size x (method ∷ methods) zero = length-replicate (length method.code) x
copies-size x (method ∷ methods) (suc m) = copies-size x methods m

copy-at : {A : Type 0} (x : A) (count i : ℕ) → get_or (replicate count x) i x ≡ x
copy-at x count i = elim (cases_lt i count) [
  | inl lt ↦ get_or-replicate count i x x lt
  | inr past ↦ get_or_past (replicate count x) i x (let e = length-replicate count x in omega arith)
]

copies-at : {A : Type 0} (x : A) (methods : List Method) (m i : ℕ) → item_at (map (λ (method : Method). replicate (length method.code) x) methods) m i x ≡ x
copies-at x [] m i = refl
copies-at x (method ∷ methods) zero i = copy-at x (length method.code) i
copies-at x (method ∷ methods) (suc m) i = copies-at x methods m i

none-listed : {A : Type 0} (x : A) → Contains [] x → ⊥
none-listed x h = let lt = h.1 in absurd (omega arith)

no-targets-of : (targets : Targets) (n : ℕ) → targets ≡ no_targets → Contains targets.methods n → ⊥
no-targets-of targets n is h = none-listed n (subst (λ (t : Targets). Contains t.methods n) is h)

pub nothing-noted : (p : Parts) (notes : Notes) → notes.graph ≡ empty_graph p → notes.targets ≡ map (λ (method : Method). replicate (length method.code) no_targets) p.methods → IsNoted p [] notes
nothing-noted p notes graph targets =
    let reached = ap (λ (g : GraphTable). g.reached) graph in
    record {
      room = record {
        reached = λ m. ap (λ rows. length (row_of rows m)) reached ∙ copies-size false p.methods m;
        targets = λ m. ap (λ rows. length (row_of rows m)) targets ∙ copies-size no_targets p.methods m;
        none = ap (λ (g : GraphTable). g.none) graph;
      };
      reached = λ m i. (
        λ h. absurd (true≢false (sym h ∙ ap (λ rows. item_at rows m i false) reached ∙ copies-at false p.methods m i)),
        λ h. absurd (none-listed (Reached m i) h.1),
      );
      methods = λ m i n. (
        λ h. absurd (no-targets-of (noted_at notes m i) n (ap (λ rows. item_at rows m i no_targets) targets ∙ copies-at no_targets p.methods m i) h),
        λ h. absurd (elim h.1 [ inl l ↦ none-listed (Calls m i n) l | inr r ↦ none-listed (CallsAbstract m i n) r ]),
      );
      library = λ m i. (
        λ h. absurd (true≢false (sym h ∙ ap (λ (t : Targets). t.library) (ap (λ rows. item_at rows m i no_targets) targets ∙ copies-at no_targets p.methods m i))),
        λ h. absurd (none-listed (CallsLibrary m i) h.1),
      );
    }

-- an event is noted where the next one is
pub noted-next : (p : Parts) (events : List Event) (k : ℕ) (e variant : Event) (new result : Notes) → slice_get events k ≡ Some e → e ≡ variant → result ≡ new → IsNoted p (take k events ++ variant ∷ []) new → IsNoted p (take (k + 1) events) result
noted-next p events k e variant new result at is same noted =
    subst (λ es. IsNoted p es result) (sym (take-event events k variant (at ∙ ap Some is))) (subst (IsNoted p (take k events ++ variant ∷ [])) (sym same) noted)
