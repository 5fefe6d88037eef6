-- What the sectors of a region replay to: the batches of an epoch, from the region's first sector on.
use Rattle.std.specs.Prelude.{ℕ, ◌+◌, Bool, ◌&&◌, ◌||◌, ◌==◌, List, [], ◌∷◌, ◌++◌, Option, Some, None, is_some, if◌then◌else◌}
use Rattle.lsm_codec.specs.LogSectors.{Part, part_of}
use Rattle.lsm_codec.specs.Map.{Operation}
use Rattle.lsm_codec.specs.BatchText.{batch_of}

-- a value and those after it, or an empty list where there is no value
abbrev pub cons_while : {X : Type 0} → Option X → List X → List X
cons_while None rest = []
cons_while (Some x) rest = x ∷ rest

-- what f returns for the first elements, up to the first for which it returns None
abbrev pub map_while : {X Y : Type 0} → (X → Option Y) → List X → List Y
map_while f [] = []
map_while f (x ∷ rest) = cons_while (f x) (map_while f rest)

-- Whether a part is the awaited one: the next of that batch of the epoch, with the number of parts that the batch's first part has.
abbrev pub is_awaited : ℕ → ℕ → ℕ → ℕ → Part → Bool
is_awaited epoch number part parts p = (p.epoch == epoch) && ((p.batch == number) && ((p.part == part) && ((part == 0) || (p.parts == parts))))

-- The texts of batches number, number + 1 .., each of all its parts, up to the first part that is not the awaited one.
-- Of the first batch the first `part` of `parts` parts were read before, with this text.
abbrev pub texts_from : ℕ → ℕ → ℕ → ℕ → List ℕ → List Part → List (List ℕ)
texts_from epoch number part parts text [] = []
texts_from epoch number part parts text (p ∷ rest) = if is_awaited epoch number part parts p
    then (if part + 1 == p.parts
    then (text ++ p.payload) ∷ texts_from epoch (number + 1) 0 0 [] rest
    else texts_from epoch number (part + 1) p.parts (text ++ p.payload) rest)
    else []

-- The batches first, first + 1 .. of the epoch: sectors are decoded to parts, parts joined to texts, texts decoded to batches,
-- each up to the first that is invalid.
abbrev pub replay : ℕ → ℕ → List (List ℕ) → List (List Operation)
replay epoch first sectors = map_while batch_of (texts_from epoch first 0 0 [] (map_while part_of sectors))

-- How many of the first parts are each the awaited one. A batch's last part is not where its text spells no batch.
abbrev pub awaited_from : ℕ → ℕ → ℕ → ℕ → List ℕ → List Part → ℕ
awaited_from epoch number part parts text [] = 0
awaited_from epoch number part parts text (p ∷ rest) = if is_awaited epoch number part parts p
    then (if part + 1 == p.parts
    then (if is_some (batch_of (text ++ p.payload)) then 1 + awaited_from epoch (number + 1) 0 0 [] rest else 0)
    else 1 + awaited_from epoch number (part + 1) p.parts (text ++ p.payload) rest)
    else 0

-- how many sectors a replay goes over
abbrev pub awaited : ℕ → ℕ → List (List ℕ) → ℕ
awaited epoch first sectors = awaited_from epoch first 0 0 [] (map_while part_of sectors)
