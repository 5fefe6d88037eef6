-- The edge of a block is that of its last entry.
use Rattle.std.proofs.Common.{◌≡◌, ℕ, suc, ◌+◌, ◌-◌, ◌<◌, ◌≤◌, List, [], ◌∷◌, ◌++◌, length, map, take, get_or, refl, sym, ap, ◌∙◌, arith}
use Rattle.std.proofs.lemmas.List.{take_more, map-append, append-nil, length-map, length-take-le}
use Rattle.std.proofs.lemmas.Grind.{flat_map-append}
use Rattle.lsm_codec.specs.Versions.{Version}
use Rattle.lsm_codec.specs.Indexes.{Edge}
use Rattle.lsm_table.specs.Division.{Block, TableBlocks}
use Rattle.lsm_table.specs.BlockEdges.{last_key}
use Rattle.lsm_table.specs.BlockEdges.{last_edge, edge_of, edges_of}

abbrev edge_at : Version → Edge
edge_at v = record { key = v.key; number = v.number }

last_is : (v : Version) (block : Block) (d : Version) → last_edge v block ≡ edge_at (get_or (v ∷ block) (length block) d)
last_is v [] d = refl
last_is v (w ∷ block) d = last_is w block d

-- the last entry of a block that has one
pub edge_is : (block : Block) (x : Version) → 0 < length block → x ≡ get_or block (length block - 1) x → edge_of block ≡ edge_at x ∷ []
edge_is [] x some is = absurd (omega arith)
edge_is (v ∷ block) x some is =
    let n : length block ≡ length (v ∷ block) - 1 = omega arith in
    ap (λ (e : Edge). e ∷ []) (last_is v block x ∙ ap (λ (k : ℕ). edge_at (get_or (v ∷ block) k x)) n ∙ ap edge_at (sym is))

pub edge_pushed : (block : Block) (x : Version) (e : Edge) (key : List ℕ) (old new : List Edge) → 0 < length block → x ≡ get_or block (length block - 1) x → key ≡ x.key → e ≡ record { key = key; number = x.number } → new ≡ old ++ e ∷ [] → new ≡ old ++ edge_of block
edge_pushed block x e key old new some is is_key is_edge pushed =
    let same : e ≡ edge_at x = is_edge ∙ ap (λ (k : List ℕ). record { key = k; number = x.number }) is_key in
    pushed ∙ ap (λ (y : Edge). old ++ y ∷ []) same ∙ ap (λ (es : List Edge). old ++ es) (sym (edge_is block x some is))

last_key_at : (edges : List Edge) (d : Edge) → 0 < length edges → last_key edges ≡ (get_or edges (length edges - 1) d).key
last_key_at [] d some = absurd (omega arith)
last_key_at (e ∷ []) d some = refl
last_key_at (e ∷ f ∷ edges) d some =
    let n : length (e ∷ f ∷ edges) - 1 ≡ suc (length (f ∷ edges) - 1) = omega arith in
    last_key_at (f ∷ edges) d (omega arith) ∙ sym (ap (λ (k : ℕ). (get_or (e ∷ f ∷ edges) k d).key) n)

pub last_key_is : (edges : List Edge) (e : Edge) (key : List ℕ) → 0 < length edges → e ≡ get_or edges (length edges - 1) e → key ≡ e.key → key ≡ last_key edges
last_key_is edges e key some is is_key = is_key ∙ ap (λ (x : Edge). x.key) is ∙ sym (last_key_at edges e some)

-- the edges with one block more
pub edges_more : {X : Type 0} (items : X → Block) (blocks : List X) (i : ℕ) (b : X) → i < length blocks → b ≡ get_or blocks i b → edges_of (map items (take (i + 1) blocks)) ≡ edges_of (map items (take i blocks)) ++ edge_of (items b)
edges_more items blocks i b lt is =
    ap (λ bs. edges_of (map items bs)) (take_more blocks i b lt)
    ∙ ap edges_of (map-append items (take i blocks) (get_or blocks i b ∷ []))
    ∙ flat_map-append edge_of (map items (take i blocks)) (items (get_or blocks i b) ∷ [])
    ∙ ap (λ es. edges_of (map items (take i blocks)) ++ es) (append-nil (edge_of (items (get_or blocks i b))) ∙ ap (λ y. edge_of (items y)) (sym is))

-- a block has one edge at most
pub edges_few : (table : TableBlocks) → length (edges_of table) ≤ length table
edges_few [] = omega arith
edges_few ([] ∷ table) = omega (arith, edges_few table)
edges_few ((v ∷ block) ∷ table) = omega (arith, edges_few table)

-- a block more has room for its edge
pub room_left : {X : Type 0} (items : X → Block) (blocks : List X) (i : ℕ) (index : List Edge) → i < length blocks → length blocks ≤ 64 → index ≡ edges_of (map items (take i blocks)) → length index < 64
room_left items blocks i index lt few is =
    omega (arith, ap (λ (es : List Edge). length es) is, edges_few (map items (take i blocks)), length-map (take i blocks) items, length-take-le i blocks (omega arith), lt, few)
