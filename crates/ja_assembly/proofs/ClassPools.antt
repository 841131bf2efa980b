-- The pool of a listed class whose entries are right and few.
use Rattle.std.proofs.Common.{ℕ, ◌≤◌, List, length, bytes_eq}
use Rattle.std.specs.List.{AllByRecursion}
use Rattle.ja_class.specs.ClassFile.{IsPool, pool_of}
use Rattle.ja_listing.specs.Listed.{Listed}
use Rattle.ja_assembly.specs.declared.key.Key.{Key}
use Rattle.ja_assembly.specs.declared.key.Key.TheVariants.{Text}
use Rattle.ja_assembly.specs.Members.{items_of_class}
use Rattle.ja_assembly.specs.Wanted.{same_key, different, keys_of, strings_of, pool_strings, entries}
use Rattle.ja_assembly.specs.Assembled.{pool_for, file_of, entries_of}
use Rattle.ja_assembly.specs.Written.{IsOrdered}
use Rattle.ja_assembly.specs.Right.{IsIn, IsRightKey, IsRightPool, IsRightClass}
use Rattle.ja_assembly.proofs.Different.{all_mapped, all_different, once_different, bytes_found, key_found, key_in, keys_in_pool}
use Rattle.ja_assembly.proofs.Closed.{parts, HasParts, IsClosed, keys_closed, texts_closed}
use Rattle.ja_assembly.proofs.Pools.{IsGoodPool, right_pool}
use Rattle.ja_assembly.proofs.PoolEntries.{AreEntries, are_entries}
use Rattle.ja_assembly.proofs.PoolOrder.{in_order}

closed : (keys : List Key) → IsClosed keys → IsClosed (different same_key keys)
closed keys h =
    let all = different same_key keys in
    all_different same_key key_found (HasParts all) keys (all_mapped (HasParts keys) (HasParts all) keys (λ k. keys_in_pool keys (parts k)) h)

texts : (keys : List Key) (strings : List (List ℕ)) → AllByRecursion (λ t. IsIn (Text t) keys) strings
    → AllByRecursion (λ t. IsIn (Text t) (different same_key keys)) (different bytes_eq strings)
texts keys strings h =
    let all = different same_key keys in
    all_different bytes_eq bytes_found (λ t. IsIn (Text t) all) strings (all_mapped (λ t. IsIn (Text t) keys) (λ t. IsIn (Text t) all) strings (λ t. key_in keys (Text t)) h)

-- what is known of the entries of a class
pub record HasRightEntries (c : Listed) : Type 0 where
  pub right : AllByRecursion IsRightKey (keys_of c.head (items_of_class c))
  pub few_strings : length (pool_strings (items_of_class c)) ≤ 255
  pub few : entries c.head (items_of_class c) ≤ 65534

good : (c : Listed) → HasRightEntries c → IsGoodPool (pool_for c)
good c h =
    let keys = keys_of c.head (items_of_class c) in
    let strings = strings_of (items_of_class c) in
    record {
      closed = closed keys (keys_closed c.head (items_of_class c));
      texts = texts keys strings (texts_closed c.head (items_of_class c));
      right = all_different same_key key_found IsRightKey keys h.right;
      strings_once = once_different bytes_eq bytes_found strings;
      keys_once = once_different same_key key_found keys;
      few_strings = h.few_strings;
      few = h.few;
    }

pub class_pool_right : (c : Listed) → HasRightEntries c → IsRightPool (pool_for c) (pool_of (file_of c))
class_pool_right c h = right_pool (pool_for c) (good c h)

pub class_pool : (c : Listed) → HasRightEntries c → IsPool (file_of c)
class_pool c h =
    let entries : AreEntries (entries_of (pool_for c)) = are_entries (pool_for c) (good c h) in
    record { few = entries.few; entries = entries.entries; indices = entries.indices; descriptors = entries.descriptors }

pub class_pool_ordered : (c : Listed) → HasRightEntries c → IsOrdered (pool_of (file_of c)) (pool_strings (items_of_class c))
class_pool_ordered c h = in_order (pool_for c) (good c h)

pub entries_right : (c : Listed) → IsRightClass c → HasRightEntries c
entries_right c r = record { right = r.right_keys; few_strings = r.few_strings; few = r.few_entries }
