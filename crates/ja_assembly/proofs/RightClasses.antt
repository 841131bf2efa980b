-- A class whose items can all be written is right in each of its parts.
use Rattle.std.proofs.Common.{inl, inr, List, length, None, refl, subst, sym, le_refl}
use Rattle.std.specs.List.{AllByRecursion}
use Rattle.std.proofs.lemmas.List.{take_all}
use Rattle.ja_listing.specs.declared.item.Item.{Item}
use Rattle.ja_listing.specs.Listed.{Listed}
use Rattle.ja_assembly.specs.Members.{items_of_class, fields, methods}
use Rattle.ja_assembly.specs.Wanted.{item_keys, item_strings, head_keys, keys_in, keys_of, strings_of, pool_strings, entries}
use Rattle.ja_assembly.specs.Unwritable.{expansion, IsNoHead, IsTooMuch, head, too_much, IsWritable}
use Rattle.ja_assembly.specs.Assembled.{pool_for}
use Rattle.ja_assembly.specs.Right.{IsIn, AreIn, IsRightKey, IsRightClass}
use Rattle.ja_assembly.proofs.Alls.{all_front, all_back, all_parts, all_both, all_in}
use Rattle.ja_assembly.proofs.Different.{all_append, keys_in_pool, texts_in_pool}
use Rattle.ja_assembly.proofs.Standing.{AllStand, all_stand, few}
use Rattle.ja_assembly.proofs.FromItems.{IsNamed, keys_right, fields_right, methods_right}

module _ (c : Listed) (can : IsWritable c) where
  abbrev whole : List Item
  whole = items_of_class c

  all_keys : AreIn (keys_of c.head whole) (pool_for c).keys
  all_keys = keys_in_pool (keys_of c.head whole) (keys_of c.head whole) (all_in (keys_of c.head whole))

  all_strings : AreIn (strings_of whole) (pool_for c).strings
  all_strings = texts_in_pool (strings_of whole) (strings_of whole) (all_in (strings_of whole))

  named : AllByRecursion (IsNamed (pool_for c)) whole
  named =
      all_both (λ i. AreIn (item_keys i) (pool_for c).keys) (λ i. AreIn (item_strings i) (pool_for c).strings) whole
      (all_parts (λ key. IsIn key (pool_for c).keys) item_keys whole (all_back (λ key. IsIn key (pool_for c).keys) (head_keys c.head) (keys_in whole) all_keys))
      (all_parts (λ text. IsIn text (pool_for c).strings) item_strings whole all_strings)

  stand : AllStand None whole
  stand = all_stand c can 0 c.items refl

  head_fine : IsNoHead c.head → ⊥
  head_fine h = can 0 (head h)

  not_much : IsTooMuch c.head whole → ⊥
  not_much h = can (length c.items) (too_much (length c.items) (subst (λ (items : List Item). IsTooMuch c.head (expansion c items)) (sym (take_all (length c.items) c.items (le_refl (length c.items)))) h))

  pub right_class : IsRightClass c
  right_class =
      record {
        head = head_fine;
        head_keys = all_front (λ key. IsIn key (pool_for c).keys) (head_keys c.head) (keys_in whole) all_keys;
        right_keys =
            all_append IsRightKey (head_keys c.head) (keys_in whole)
            ((λ none. head_fine (inr (inl none))), (tt, ((λ none. head_fine (inr (inr (inl none)))), (tt, tt))))
            (keys_right None whole stand);
        few_strings = few 255 (length (pool_strings whole)) (λ more. not_much (inl more));
        few_entries = few 65534 (entries c.head whole) (λ more. not_much (inr (inl more)));
        few_fields = few 65535 (length (fields whole)) (λ more. not_much (inr (inr (inl more))));
        few_methods = few 65535 (length (methods whole)) (λ more. not_much (inr (inr (inr (inl more)))));
        fields = fields_right (pool_for c) None whole stand named;
        methods = methods_right (pool_for c) None whole stand named;
      }
