-- The filter of entries, one key more and one block more.
use Rattle.std.proofs.Common.{◌≡◌, ℕ, true, All, ◌+◌, ◌<◌, List, [], ◌∷◌, ◌++◌, length, map, take, get_or, sym, ap, ◌∙◌}
use Rattle.std.specs.Prelude.{replicate}
use Rattle.std.specs.List.{fold}
use Rattle.std.proofs.lemmas.List.{take_more, map-append, append-nil}
use Rattle.std.proofs.lemmas.Grind.{flat_map-append}
use Rattle.std.proofs.lemmas.List.Sums.{fold-append}
use Rattle.lsm_codec.specs.Keys.{Bytes}
use Rattle.lsm_codec.specs.Versions.{Version}
use Rattle.lsm_filter.specs.Bits.{with_key, filter_of, is_perhaps}
use Rattle.lsm_filter.proofs.Setting.{member_of}
use Rattle.lsm_table.specs.Division.{Block, entries_of}
use Rattle.lsm_table.specs.Extents.{keys_of}

abbrev key_in : Version → Bytes
key_in v = v.key

pub keys_more : (start : List ℕ) (entries : List Version) (i : ℕ) (v : Version) (key : Bytes) (before after : List ℕ) → i < length entries → v ≡ get_or entries i v → key ≡ v.key → before ≡ fold with_key start (map key_in (take i entries)) → after ≡ with_key before key → after ≡ fold with_key start (map key_in (take (i + 1) entries))
keys_more start entries i v key before after lt is is_key so_far grown =
    grown ∙ ap (λ (f : List ℕ). with_key f key) so_far ∙ ap (with_key (fold with_key start (map key_in (take i entries)))) (is_key ∙ ap key_in is)
    ∙ sym (ap (λ (es : List Version). fold with_key start (map key_in es)) (take_more entries i v lt)
    ∙ ap (fold with_key start) (map-append key_in (take i entries) (get_or entries i v ∷ []))
    ∙ fold-append with_key start (map key_in (take i entries)) (key_in (get_or entries i v) ∷ []))

pub entries_more : {X : Type 0} (items : X → Block) (blocks : List X) (i : ℕ) (b : X) → i < length blocks → b ≡ get_or blocks i b → entries_of (map items (take (i + 1) blocks)) ≡ entries_of (map items (take i blocks)) ++ items b
entries_more items blocks i b lt is =
    ap (λ bs. entries_of (map items bs)) (take_more blocks i b lt)
    ∙ ap entries_of (map-append items (take i blocks) (get_or blocks i b ∷ []))
    ∙ flat_map-append (λ block. block) (map items (take i blocks)) (items (get_or blocks i b) ∷ [])
    ∙ ap (λ es. entries_of (map items (take i blocks)) ++ es) (append-nil (items (get_or blocks i b)) ∙ ap (λ y. items y) (sym is))

-- the keys of a block more
pub block_more : {X : Type 0} (items : X → Block) (blocks : List X) (i : ℕ) (b : X) (before after : List ℕ) → i < length blocks → b ≡ get_or blocks i b → before ≡ filter_of (keys_of (map items (take i blocks))) → after ≡ fold with_key before (map key_in (items b)) → after ≡ filter_of (keys_of (map items (take (i + 1) blocks)))
block_more items blocks i b before after lt is so_far grown =
    let done : List Version = entries_of (map items (take i blocks)) in
    grown ∙ ap (λ (f : List ℕ). fold with_key f (map key_in (items b))) so_far
    ∙ sym (ap (λ (es : List Version). filter_of (map key_in es)) (entries_more items blocks i b lt is)
    ∙ ap filter_of (map-append key_in done (items b))
    ∙ fold-append with_key (replicate 4096 0) (map key_in done) (map key_in (items b)))

-- the filter of a table's keys may have been built of each of them
pub has_each : (entries : List Version) → All (λ v. is_perhaps (filter_of (map key_in entries)) v.key ≡ true) entries
has_each entries = λ k d lt. member_of key_in entries k d lt
