-- What one file comes to.
use Rattle.std.proofs.Common.{◌≡◌, ℕ, suc, ◌<◌, ◌≤◌, List, [], ◌∷◌, Bool, true, false, length, take, map, filter, cond, ap, sym, ◌∙◌, subst, refl, Option, Some, IfSome, All, arith}
use Rattle.std.proofs.lemmas.List.Elements.{recursion_from_All}
use Rattle.std.specs.Prelude.{IsPermutation}
use Rattle.ja_io.specs.Contents.{Contents, names_of}
use Rattle.ja_io.specs.Front.{IsFront}
use Rattle.ja_io.specs.declared.folder.Piece.{Piece}
use Rattle.ja_run.proofs.Fronts.{take_all}
use Rattle.ja_run.proofs.Told.{at_some, one_file}
use Rattle.ja_base.specs.declared.file.File.{File}
use Rattle.ja_class.specs.declared.first.FirstInstr.{FirstInstr}
use Rattle.ja_class.specs.declared.first.FirstMethod.{FirstMethod}
use Rattle.ja_class.specs.declared.first.FirstOp.{FirstOp}
use Rattle.ja_class.specs.declared.first.FirstOp.TheVariants.{Load, Store, Text, Pop, Source, Sink, Return}
use Rattle.ja_class.specs.FirstForm.{IsFirstForm}
use Rattle.ja_plain.specs.Operation.{operation, listed}
use Rattle.ja_plain.specs.Verdict.{AreVerdicts, AreVerdictsAt, sites_from, with_site}
use Rattle.ja_run.specs.Due.{IsAnalysis, IsClassFileName, IsFirstFile, IsUnbuilt, ComesTo, analysed, not_first}
use Rattle.ja_run.specs.Report.{is_sink, sink_pcs, unbuilt_line}

-- one instruction more is one site more exactly where it is a sink call
one_more : (op : FirstOp) (i : ℕ) (places : List ℕ) (x : FirstInstr) (rest : List FirstInstr) → length places ≡ length (map (λ (y : FirstInstr). y.pc) rest)
    → length (with_site (listed (operation op)) i places) ≡ length (map (λ (y : FirstInstr). y.pc) (cond (is_sink op) (x ∷ rest) rest))
one_more (Load n) i places x rest h = h
one_more (Store n) i places x rest h = h
one_more Text i places x rest h = h
one_more Pop i places x rest h = h
one_more Source i places x rest h = h
one_more Sink i places x rest h = ap suc h
one_more Return i places x rest h = h

-- the sites are the sink calls
length-sites : (i : ℕ) (code : List FirstInstr) → length (sites_from i code) ≡ length (sink_pcs code)
length-sites i [] = refl
length-sites i (x ∷ xs) = one_more x.op i (sites_from (suc i) xs) x (filter (λ (y : FirstInstr). is_sink y.op) xs) (length-sites (suc i) xs)

length-verdicts : (m : FirstMethod) (places : List ℕ) (flags : List Bool) → AreVerdictsAt m places flags → length flags ≡ length places
length-verdicts m [] [] h = refl
length-verdicts m [] (f ∷ fs) h = absurd h
length-verdicts m (p ∷ ps) [] h = absurd h
length-verdicts m (p ∷ ps) (f ∷ fs) h = ap suc (length-verdicts m ps fs h.1)

-- there is a flag for each sink call
pub flags_of_sinks : (m : FirstMethod) (flags : List Bool) → AreVerdicts m flags → length flags ≡ length (sink_pcs m.code)
flags_of_sinks m flags h = length-verdicts m _ flags h ∙ length-sites 0 m.code

-- the one file is a class of the first form, and the answer is its report
pub analysed_file : (name bytes : List ℕ) (read : FirstMethod) (status : ℕ) (text : List ℕ) → IsClassFileName name → length bytes ≤ 4194304
    → IsFirstForm bytes read → IsAnalysis (record read { file = name }) status text
    → (file : File) → file.name ≡ name → file.bytes ≡ bytes → ComesTo (file ∷ []) status text
analysed_file name bytes read status text named short form analysis file name-is bytes-is =
    let P : List ℕ → Type 0 = λ n. IsAnalysis (record read { file = n }) status text in
    analysed file (record read { file = file.name }) status text refl
    (record {
      named = subst IsClassFileName (sym name-is) named;
      short = rw bytes-is short;
      read = read;
      form = rw bytes-is form;
      method = refl;
    })
    (subst P (sym name-is) analysis)

-- the one file is not in the first form, and the answer is the refusal that names it
pub unbuilt_file : (name : List ℕ) (status : ℕ) (text : List ℕ) (file : File) → file.name ≡ name → IsUnbuilt file → status ≡ 3 → text ≡ unbuilt_line name
    → ComesTo (file ∷ []) status text
unbuilt_file name status text file name-is unbuilt status-is text-is =
    rw (status-is, text-is, ← name-is) (not_first file refl unbuilt)

-- what one file of this name comes to
abbrev pub ComesByName : (name : List ℕ) (status : ℕ) (text : List ℕ) → Contents → Type 0
ComesByName name status text held = (file : File) → held.files ≡ file ∷ [] → file.name ≡ name → ComesTo held.files status text

-- of the one file that is held, a read gives the front
pub front_of_one : (told : Option Contents) (held : Contents) (name : List ℕ) (most : ℕ) (piece : Piece) → told ≡ Some held
    → IfSome told (λ (h : Contents). All (λ (file : File). file.name ≡ name → IsFront file.bytes most piece) h.files)
    → (file : File) → held.files ≡ file ∷ [] → file.name ≡ name → IsFront file.bytes most piece
front_of_one told held name most piece is front file one named =
    let all : All (λ (f : File). f.name ≡ name → IsFront f.bytes most piece) held.files =
    at_some told (λ (h : Contents). All (λ (f : File). f.name ≡ name → IsFront f.bytes most piece) h.files) held is front in
    let all_of_one : All (λ (f : File). f.name ≡ name → IsFront f.bytes most piece) (file ∷ []) = rw one at all in
    (recursion_from_All (λ (f : File). f.name ≡ name → IsFront f.bytes most piece) (file ∷ []) all_of_one).0 named

-- a file that has more bytes than were asked for is not in the first form
pub too_long : (file : File) (most : ℕ) (piece : Piece) → 4194304 ≤ most → IsFront file.bytes most piece → piece.longer ≡ true → IsUnbuilt file
too_long file most piece bound front longer m first =
    let above : most < length file.bytes = front.longer.0 longer in
    absurd (omega (arith, first.short, above))

-- of a file that has no more bytes than were asked for, a read gives the content
pub whole_read : (file : File) (most : ℕ) (piece : Piece) (text : List ℕ) → IsFront file.bytes most piece → piece.longer ≡ false → text ≡ piece.bytes
    → (file.bytes ≡ text) × (length text ≤ most)
whole_read file most piece text front shorter text-is =
    let no : most < length file.bytes → ⊥ = λ more. let longer : piece.longer ≡ true = front.longer.1 more in cc in
    let within : length file.bytes ≤ most = omega arith in
    let same : file.bytes ≡ text = sym (text-is ∙ front.bytes ∙ take_all most file.bytes within) in
    (same, rw same at within)

-- the one file comes to what it comes to by its name
pub judged_one : (told : Option Contents) (held : Contents) (name : List ℕ) (status : ℕ) (text : List ℕ) → told ≡ Some held
    → IsPermutation (names_of held.files) (name ∷ []) → IfSome told (ComesByName name status text) → ComesTo held.files status text
judged_one told held name status text is names judged =
    let one = one_file held.files name names in
    at_some told (ComesByName name status text) held is judged one.0 one.1 one.2
