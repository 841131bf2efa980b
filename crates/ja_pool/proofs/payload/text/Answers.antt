use Rattle.std.proofs.Common.{◌≡◌, ℕ, ◌+◌, ◌-◌, length, refl, sym, ap, ◌∙◌, subst, arith}
use Rattle.std.specs.Int.{w16, to_be_bytes}
use Rattle.ja_bytes.specs.Reading.{Passes}
use Rattle.ja_pool.specs.declared.slot.Form.TheVariants.{Utf8}
use Rattle.ja_pool.specs.Entry.{utf8}
use Rattle.ja_pool.proofs.PayloadParts.{passes_both}
use Rattle.ja_pool.proofs.payload.text.Goals as goal

pub returns-in-Ok-modified_utf8-clause-ok : goal.returns-in-Ok-modified_utf8-clause-ok
returns-in-Ok-modified_utf8-clause-ok c =
    let bytes = c.in-Ok-take.bytes.now in
    let size : length bytes ≡ c.in-Ok.len = c.in-Ok-take.ensures.len in
    let len_passes : Passes c.args.c.now c.u2.new.self (to_be_bytes w16 (length bytes)) = subst (λ (n : ℕ). Passes c.args.c.now c.u2.new.self (to_be_bytes w16 n)) (sym size) c.in-Ok.ensures.ok in
    let from : c.place.result - c.args.base ≡ c.args.c.now.place - c.args.base - 1 + 3 = omega (arith, c.place.ensures, c.in-Ok.ensures.ok.place, c.requires.behind) in
    record {
      entry = utf8 bytes;
      is_entry = (omega (arith, size), c.in-Ok-modified_utf8.ensures.text.0 refl);
      tag_is = sym c.requires.shape;
      form_is = ap (λ (n : ℕ). Utf8 n c.in-Ok.len) from ∙ ap (λ (n : ℕ). Utf8 (c.args.c.now.place - c.args.base - 1 + 3) n) (sym size);
      passes = passes_both c.args.c.now c.u2.new.self c.take.new.self (to_be_bytes w16 (length bytes)) bytes len_passes c.in-Ok-take.ensures.ok;
    }
