-- The blocks of one method more, in order.
use Rattle.std.proofs.Common.{◌≡◌, ℕ, suc, ◌+◌, ◌-◌, ◌<◌, ◌≤◌, Bool, true, false, List, [], ◌++◌, length, get_or, refl, sym, ap, ◌∙◌, subst, inl, inr, ⊎_elim, arith, length-append}
use Rattle.std.specs.Prelude.{Some, All, AllPairs, Contains, map, slice_get}
use Rattle.std.specs.List.{sum_by}
use Rattle.std.proofs.lemmas.List.{get_or-map, get_or_append_left, get_or-append_right, get_or_default, length-map}
use Rattle.std.proofs.lemmas.List.Sums.{get_or-le-sum_by}
use Rattle.std.proofs.lemmas.List.Elements.{Contains-append_left, Contains-append_right, Contains-append_cases, Contains-get_or}
use Rattle.std.proofs.lemmas.Option.{slice_get_within, get_or_from_slice_get, slice_get-get_or}
use native.Mathlib.Decide.{dec_lt}
use mathlib.Core.Logic.{dite}
use Rattle.ja_ir.specs.declared.program.Parts.{Parts}
use Rattle.ja_ir.specs.declared.method.Method.{Method}
use Rattle.ja_ir.specs.declared.block.Block.{Block}
use Rattle.ja_ir.specs.Blocks.{StaysInside, IsBlock, AreBlocks, branched, is_branch}
use Rattle.ja_ir.specs.Whole.{IsWhole, NamesAll, LiesIn}
use Rattle.ja_ir.proofs.Cuts.{all-at}
use Rattle.ja_blocks.specs.declared.blocks.ProgramBlock.{ProgramBlock}
use Rattle.ja_ir.specs.declared.method.Instr.{Instr}
use Rattle.ja_blocks.specs.Blocks.{IsRun, IsAmong, AreRuns, in_method, IsBlockIn, Precedes, IsInSome, AreProgramBlocks}
use Rattle.ja_blocks.specs.Inner.{GoStraight, AreSingles}

-- what a whole program says of a method
pub stays_inside : (p : Parts) (m : ℕ) (method : Method) → IsWhole p → slice_get p.methods m ≡ Some method → StaysInside method
stays_inside p m method whole found =
    let instrs : All (NamesAll p (length method.code)) method.code = all-at (λ (x : Method). All (NamesAll p (length x.code)) x.code) p.methods whole.instructions m method found in
    let handlers : All (LiesIn p (length method.code)) method.handlers = all-at (λ (x : Method). All (LiesIn p (length x.code)) x.handlers) p.methods whole.handlers m method found in
    record { next = λ k d lt. (instrs k d lt).next; handlers = λ k d lt. (handlers k d lt).target }

pub few_instructions : (p : Parts) (m : ℕ) (method : Method) → IsWhole p → slice_get p.methods m ≡ Some method → length method.code ≤ 67108864
few_instructions p m method whole found =
    let at : get_or p.methods m method ≡ method = get_or_from_slice_get p.methods m method method found in
    let some : length (get_or p.methods m method).code ≤ sum_by (λ (x : Method). length x.code) p.methods =
    get_or-le-sum_by (λ (x : Method). length x.code) p.methods m method (slice_get_within p.methods m method found) in
    let here : length method.code ≤ sum_by (λ (x : Method). length x.code) p.methods = subst (λ (x : Method). length x.code ≤ sum_by (λ (y : Method). length y.code) p.methods) at some in
    omega (arith, whole.small.instructions, here)

map_has : (m : ℕ) (row : List Block) (block : Block) → Contains row block → Contains (map (in_method m) row) (in_method m block)
map_has m row block (k, lt, is) = (k, (let same = length-map row (in_method m) in omega arith), get_or-map (in_method m) row k block (in_method m block) lt ∙ ap (in_method m) is)

map_of : (m : ℕ) (row : List Block) (b : ProgramBlock) → Contains (map (in_method m) row) b → (block : Block) × Contains row block × (in_method m block ≡ b)
map_of m row b (k, lt, is) =
    let within : k < length row = (let same = length-map row (in_method m) in omega arith) in
    let d : Block = record { first = b.first; last = b.last } in
    (get_or row k d, (k, within, same_default row k d within), sym (get_or-map (in_method m) row k d b within) ∙ is)
  where
    same_default : (xs : List Block) (i : ℕ) (d : Block) → i < length xs → get_or xs i (get_or xs i d) ≡ get_or xs i d
    same_default xs i d lt = get_or_default xs i (get_or xs i d) d lt

-- up to some method, the list has its blocks
pub record AreUpTo (p : Parts) (count : ℕ) (blocks : List ProgramBlock) : Type 0 where
  pub each : (b : ProgramBlock) → Contains blocks b → IsBlockIn p b × (b.method.0 < count)
  pub all : (m i : ℕ) (method : Method) → m < count → slice_get p.methods m ≡ Some method → i < length method.code → IsInSome blocks m i
  pub sorted : AllPairs Precedes blocks

pub up_to_none : (p : Parts) → AreUpTo p 0 []
up_to_none p = record { each = λ b has. absurd (let lt = has.1 in omega arith); all = λ m i method lt. absurd (omega arith); sorted = λ i j d lt less. absurd (omega arith) }

pub up_to_all : (p : Parts) (count : ℕ) (blocks : List ProgramBlock) → length p.methods ≤ count → AreUpTo p count blocks → AreProgramBlocks p blocks
up_to_all p count blocks le up = record {
  each = λ b has. (up.each b has).0;
  all = λ m i method found lt. up.all m i method (let within = slice_get_within p.methods m method found in omega arith) found lt;
  sorted = up.sorted;
}

pairs_append : {X : Type 0} (R : X → X → Type 0) (xs ys : List X) → AllPairs R xs → AllPairs R ys → ((x y : X) → Contains xs x → Contains ys y → R x y) → AllPairs R (xs ++ ys)
pairs_append R xs ys first second cross i j d lt within = dite (dec_lt j (length xs))
    (λ inside.
    subst (λ x. R x (get_or (xs ++ ys) j d)) (sym (get_or_append_left xs ys d i (omega arith)))
    (subst (λ y. R (get_or xs i d) y) (sym (get_or_append_left xs ys d j inside)) (first i j d lt inside)))
    (λ past.
    let long = length-append xs ys in
    let right : get_or (xs ++ ys) j d ≡ get_or ys (j - length xs) d = get_or-append_right xs ys (length xs) j d refl (omega arith) in
    dite (dec_lt i (length xs))
    (λ inside.
    subst (λ x. R x (get_or (xs ++ ys) j d)) (sym (get_or_append_left xs ys d i inside))
    (subst (λ y. R (get_or xs i d) y) (sym right) (cross (get_or xs i d) (get_or ys (j - length xs) d) (Contains-get_or xs i d inside) (Contains-get_or ys (j - length xs) d (omega arith)))))
    (λ out.
    let left : get_or (xs ++ ys) i d ≡ get_or ys (i - length xs) d = get_or-append_right xs ys (length xs) i d refl (omega arith) in
    subst (λ x. R x (get_or (xs ++ ys) j d)) (sym left) (subst (λ y. R (get_or ys (i - length xs) d) y) (sym right) (second (i - length xs) (j - length xs) d (omega arith) (omega arith)))))

pairs_map : (m : ℕ) (row : List Block) → AllPairs (λ a b. a.last < b.first) row → AllPairs Precedes (map (in_method m) row)
pairs_map m row sorted i j d lt within =
    let same = length-map row (in_method m) in
    let e : Block = record { first = d.first; last = d.last } in
    let less : j < length row = omega arith in
    let first : get_or (map (in_method m) row) i d ≡ in_method m (get_or row i e) = get_or-map (in_method m) row i e d (omega arith) in
    let second : get_or (map (in_method m) row) j d ≡ in_method m (get_or row j e) = get_or-map (in_method m) row j e d less in
    subst (λ x. Precedes x (get_or (map (in_method m) row) j d)) (sym first) (subst (λ y. Precedes (in_method m (get_or row i e)) y) (sym second) (inr (refl, sorted i j e lt less)))

-- one method more
pub up_to_more : (p : Parts) (m : ℕ) (method : Method) (blocks new : List ProgramBlock) (row : List Block) → slice_get p.methods m ≡ Some method → AreRuns method row → new ≡ blocks ++ map (in_method m) row → AreUpTo p m blocks → AreUpTo p (m + 1) new
up_to_more p m method blocks new row found are is up = subst (AreUpTo p (m + 1)) (sym is) (record {
  each = λ b has. ⊎_elim
      (λ before. let old = up.each b before in (old.0, (let lt = old.1 in omega arith)))
      (λ now. of_row b (map_of m row b now))
      (Contains-append_cases blocks (map (in_method m) row) b has);
  all = λ n i other lt at within. dite (dec_lt n m)
      (λ less. kept (up.all n i other less at within))
      (λ not. let here : n ≡ m = omega arith in in_row n i other here at within);
  sorted = pairs_append Precedes blocks (map (in_method m) row) up.sorted (pairs_map m row are.sorted) (λ x y has now. crosses x y (up.each x has).1 (map_of m row y now));
})
  where
    of_row : (b : ProgramBlock) → (block : Block) × Contains row block × (in_method m block ≡ b) → IsBlockIn p b × (b.method.0 < m + 1)
    of_row b (block, has, same) = subst (λ (x : ProgramBlock). IsBlockIn p x × (x.method.0 < m + 1)) same (record { method = method; found = found; is = are.each block has }, (omega arith))

    kept : {n i : ℕ} → IsInSome blocks n i → IsInSome (blocks ++ map (in_method m) row) n i
    kept x = record { block = x.block; listed = Contains-append_left blocks (map (in_method m) row) x.block x.listed; has = x.has }

    in_row : (n i : ℕ) (other : Method) → n ≡ m → slice_get p.methods n ≡ Some other → i < length other.code → IsInSome (blocks ++ map (in_method m) row) n i
    in_row n i other here at within =
        let one : Some other ≡ Some method = sym at ∙ ap (slice_get p.methods) here ∙ found in
        let own : other ≡ method = cc one in
        let among : IsAmong row i = are.all i (subst (λ (x : Method). i < length x.code) own within) in
        record {
          block = in_method m among.block;
          listed = Contains-append_right blocks (map (in_method m) row) (in_method m among.block) (map_has m row among.block among.listed);
          has = (sym here, among.from, among.to);
        }

    crosses : (x y : ProgramBlock) → x.method.0 < m → (block : Block) × Contains row block × (in_method m block ≡ y) → Precedes x y
    crosses x y lt (block, has, same) = subst (Precedes x) same (inl lt)

-- the longest straight runs of a method, where no other instruction than a branch leads elsewhere than to the next one
pub runs_from_blocks : (method : Method) (row : List Block) → AreBlocks method row → GoStraight method.code → ((i : ℕ) → i < length method.code → IsAmong row i) → AreRuns method row
runs_from_blocks method row are straight all = record { each = λ block has. run block ((are.exact block).0 has); all = all; sorted = are.sorted }
  where
    run : (block : Block) → IsBlock method block → IsRun method block.first block.last
    run block is = record {
      ordered = is.ordered;
      inside = is.inside;
      straight = is.straight;
      entered = λ i j instr lo hi at has. by_op i j instr lo hi at has (is_branch instr.op) refl;
    }
      where
        by_op : (i j : ℕ) (instr : Instr) → block.first < j → j ≤ block.last → slice_get method.code i ≡ Some instr → Contains instr.next j → (b : Bool) → is_branch instr.op ≡ b → j ≡ suc i
        by_op i j instr lo hi at has true e = absurd (is.straight j lo hi (branched i instr at e has))
        by_op i j instr lo hi at has false e = straight i instr at e j has

-- single instructions
pub runs_from_singles : (method : Method) (row : List Block) → AreSingles (length method.code) row → AreRuns method row
runs_from_singles method row are = record {
  each = λ block has. run block has;
  all = λ i lt. among i lt;
  sorted = λ i j d lt within. let one = one_at i d (omega (arith, within)) in let other = one_at j d within in let x = one.1 in let y = other.0 in omega arith;
}
  where
    one_at : (k : ℕ) (d : Block) → k < length row → ((get_or row k d).first ≡ k) × ((get_or row k d).last ≡ k)
    one_at k d lt = are.1 k (get_or row k d) (slice_get-get_or row k d lt)

    run : (block : Block) → Contains row block → IsRun method block.first block.last
    run block (k, lt, is) =
        let one = one_at k block lt in
        let first : block.first ≡ k = subst (λ (x : Block). x.first ≡ k) is one.0 in
        let last : block.last ≡ k = subst (λ (x : Block). x.last ≡ k) is one.1 in
        let long = are.0 in
        record {
          ordered = omega arith;
          inside = omega arith;
          straight = λ j lo hi leader. absurd (omega arith);
          entered = λ i j instr lo hi at has. absurd (omega arith);
        }

    among : (i : ℕ) → i < length method.code → IsAmong row i
    among i lt =
        let long = are.0 in
        let within : i < length row = omega arith in
        let d : Block = record { first = 0; last = 0 } in
        let one = one_at i d within in
        let x = one.0 in
        let y = one.1 in
        record { block = get_or row i d; listed = Contains-get_or row i d within; from = omega arith; to = omega arith }
