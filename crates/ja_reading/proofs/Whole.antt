-- What a whole folder comes to.
use Rattle.std.proofs.Common.{◌≡◌, ◌≢◌, ℕ, suc, ◌<◌, Bool, true, false, List, [], ◌∷◌, length, get_or, Some, refl, ap, sym, subst, arith}
use Rattle.std.specs.Prelude.{bytes_eq, IsSorted}
use Rattle.std.specs.List.{AllByRecursion, IsDistinct}
use Rattle.std.specs.Ordering.{nat_cmp}
use Rattle.std.specs.Cmp.Lexicographic.{slice_cmp}
use Rattle.std.proofs.lemmas.Slice.Eq.{bytes_eq-Decides}
use Rattle.ja_base.specs.declared.file.File.{File}
use Rattle.ja_base.specs.declared.refusal.Refusal.{Refusal}
use Rattle.ja_io.specs.Contents.{HasDistinctNames}
use Rattle.ja_ir.specs.declared.program.Parts.{Parts}
use Rattle.ja_lower.specs.Accept.{Accepts, of_files, Refuses, unread}
use Rattle.ja_lower.specs.Folder.{AreInOrder, AreNamedApart, IsLengthRefusal, names_of, read_files, too_long}
use Rattle.ja_reading.specs.Judgement.{ComesTo}
use Rattle.ja_reading.specs.Unread.{AreReadable, IsByName}
use Rattle.ja_reading.specs.declared.judgement.Judgement.{Judgement}
use Rattle.ja_reading.specs.declared.judgement.Judgement.TheVariants.{Accepted, Refused}
use Rattle.ja_reading.proofs.Ordered.{IsListed}

-- files whose names are in order
pub in_order : (files : List File) (names : List (List ℕ)) (listed : IsListed files names) → IsSorted (slice_cmp nat_cmp) names → AreInOrder files listed.ordered
in_order files names listed sorted = record { each = listed.each; sorted = subst (IsSorted (slice_cmp nat_cmp)) (sym listed.named) sorted }

-- names refuse the files
pub refused_by_names : (files ordered : List File) (refusal : Refusal) → AreInOrder files ordered → IsByName ordered (Some refusal) → Refuses files refusal
refused_by_names files ordered refusal order refused = of_files ordered order (unread refused)

-- lengths refuse the files
pub refused_by_length : (files ordered : List File) (refusal : Refusal) → AreInOrder files ordered → AreReadable ordered → IsLengthRefusal (read_files ordered) refusal
    → Refuses files refusal
refused_by_length files ordered refusal order by_name long = of_files ordered order (unread (too_long by_name.no_archive by_name.few long))

-- files without two of one name
different : (x y : List ℕ) → x ≢ y → bytes_eq x y ≡ false
different x y other = by (bytes_eq x y) refl
  where
    by : (b : Bool) → bytes_eq x y ≡ b → b ≡ false
    by true same = absurd (other ((bytes_eq-Decides x y).0 same))
    by false differ = refl

differs_from_all : (name : List ℕ) (files : List File) → ((k : ℕ) (d : File) → k < length files → name ≢ (get_or files k d).name)
    → AllByRecursion (λ (y : List ℕ). bytes_eq name y ≡ false) (names_of files)
differs_from_all name [] other = tt
differs_from_all name (f ∷ files) other =
    (different name f.name (other 0 f (omega arith)), differs_from_all name files (λ k d below. other (suc k) d (omega arith)))

pub named_apart : (files : List File) → HasDistinctNames files → AreNamedApart files
unfolding IsDistinct
named_apart [] distinct = tt
named_apart (f ∷ files) distinct = (
  differs_from_all f.name files (λ k d below. distinct 0 (suc k) d (omega arith) (omega arith)),
  named_apart files (λ i j d before below. distinct (suc i) (suc j) d (omega arith) (omega arith)),
)

-- what is accepted is not refused, and is accepted as one program
pub accepted_is : ((files : List File) (p other : Parts) → AreNamedApart files → Accepts files p → Accepts files other → p ≡ other)
    → ((files : List File) (p : Parts) (refusal : Refusal) → AreNamedApart files → Accepts files p → Refuses files refusal → ⊥)
    → (files : List File) (program : Parts) (judgement : Judgement) → HasDistinctNames files → Accepts files program → ComesTo files judgement → judgement ≡ Accepted program
accepted_is one not_both files program (Accepted other) distinct accepts comes = ap Accepted (one files other program (named_apart files distinct) comes accepts)
accepted_is one not_both files program (Refused refusal) distinct accepts comes = absurd (not_both files program refusal (named_apart files distinct) accepts comes)

-- what is refused is not accepted, and is refused for one thing
pub refused_is : ((files : List File) (refusal other : Refusal) → AreNamedApart files → Refuses files refusal → Refuses files other → refusal ≡ other)
    → ((files : List File) (p : Parts) (refusal : Refusal) → AreNamedApart files → Accepts files p → Refuses files refusal → ⊥)
    → (files : List File) (refusal : Refusal) (judgement : Judgement) → HasDistinctNames files → Refuses files refusal → ComesTo files judgement → judgement ≡ Refused refusal
refused_is one not_both files refusal (Accepted program) distinct refuses comes = absurd (not_both files program refusal (named_apart files distinct) comes refuses)
refused_is one not_both files refusal (Refused other) distinct refuses comes = ap Refused (one files other refusal (named_apart files distinct) comes refuses)
