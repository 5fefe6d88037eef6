-- The entries of a block, and the block that spells them.
use Rattle.std.proofs.Common.{◌≡◌, ℕ, List, [], ◌∷◌, length, Some, None, Ok, Err, refl, ap, ◌∙◌, option_map}
use Rattle.lsm_codec.specs.Keys.{IsBytes}
use Rattle.lsm_codec.specs.Spelling.{if_spelled}
use Rattle.lsm_codec.specs.Versions.{Version}
use Rattle.lsm_codec.specs.Entries.{data_block, is_data_block, entries_in, all_ok, block_of}
use Rattle.lsm_codec.proofs.DataBlockLaws.{exactly, block_format}
use Rattle.lsm_table.proofs.Items.{Item, items_of}

-- all items are entries
pub all_spelled : (bytes : List ℕ) (entries : List Version) → IsBytes bytes → length bytes ≡ 4096 → entries_in bytes ≡ items_of entries → block_of bytes ≡ Some entries
all_spelled bytes entries fits size is =
    let spelled = (exactly bytes (entries_in bytes) fits size refl entries).0 is in
    ap block_of spelled.1 ∙ block_format.decoded entries spelled.0

-- items that are no list of entries
none_of_them : (items : List Item) → ((entries : List Version) → items ≡ items_of entries → ⊥) → all_ok items ≡ None
none_of_them [] none = absurd (none [] refl)
none_of_them (Err e ∷ rest) none = refl
none_of_them (Ok v ∷ rest) none = ap (option_map (λ (l : List Version). v ∷ l)) (none_of_them rest (λ entries is. none (v ∷ entries) (ap (λ (l : List Item). Ok v ∷ l) is)))

pub none_spelled : (bytes : List ℕ) → ((entries : List Version) → entries_in bytes ≡ items_of entries → ⊥) → block_of bytes ≡ None
unfolding block_of
none_spelled bytes none = ap (if_spelled is_data_block data_block bytes) (none_of_them (entries_in bytes) none)
