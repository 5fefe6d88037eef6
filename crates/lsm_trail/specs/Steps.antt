-- The steps of passes, and what they tell.
use Rattle.std.specs.Prelude.{◌≡◌, ℕ, ◌+◌, ◌*◌, ◌≤◌, List, [], ◌∷◌, ◌++◌, length, Option, Some, None}
use mathlib.Core.List.{IsPrefix}
use mathlib.Core.Option.{some}
use Rattle.atomic_table.specs.Table.{Me, Step}
use Rattle.lsm_trail.specs.History.{Event, entries_by, numbers}
use Rattle.lsm_trail.specs.Knowledge.{Keeper, Known, Sees, View, keeping, known, known_or, view_of, telling}

abbrev PutsAs : Option Keeper → Option Known → ℕ → View → Type 0
PutsAs None c new w = Unit {0}
PutsAs (Some k) c new w = w ≡ view_of (Some (keeping k.begin k.dealt k.log (k.draft ++ new ∷ []))) c

-- the next number of the history to come was written
abbrev pub Puts : Step Event → Me Event View → ℕ → Me Event View → Type 0
Puts s m found w = (w.1 ≡ m.1) × PutsAs m.0.keeper m.0.client s.first w.0

-- the lock's part and a client's, after this entry of the client
abbrev pub published : Keeper → Known → Event → View
published k c e = view_of (Some (keeping k.begin k.dealt (k.log ++ e ∷ []) [])) (Some (known c.begin c.number (k.log ++ e ∷ []) (c.mine ++ e ∷ [])))

abbrev PublishesAs : Option Keeper → Option Known → mathlib.Core.Option.Option Event → View → Type 0
PublishesAs (Some k) (Some c) (some e) w = (w ≡ published k c e) × IsPrefix c.seen k.log × (entries_by c.number k.log ≡ c.mine)
PublishesAs _ _ _ w = Unit {0}

-- write: the history is longer by the entry that was announced
abbrev pub Publishes : Step Event → Me Event View → ℕ → Me Event View → Type 0
Publishes s m found w = (w.1 ≡ m.1) × PublishesAs m.0.keeper m.0.client s.said w.0

abbrev NotesAs : Option Keeper → Option Known → View → Type 0
NotesAs (Some k) (Some c) w = (w ≡ view_of (Some k) (Some (known c.begin c.number k.log c.mine))) × IsPrefix c.seen k.log × (entries_by c.number k.log ≡ c.mine)
NotesAs _ _ w = Unit {0}

-- note: the client has seen the whole history, as the lock's part has it
abbrev pub Notes : Step Event → Me Event View → ℕ → Me Event View → Type 0
Notes s m found w = (w.1 ≡ m.1) × NotesAs m.0.keeper m.0.client w.0

abbrev pub LooksAs : List Event → Option Known → ℕ → Option Known → Type 0
LooksAs told (Some c) found (Some d) = Sees c d × IsPrefix told d.seen × (length d.seen ≡ found)
LooksAs told (Some c) found None = ⊥
LooksAs told None found w = Unit {0}

-- look: a client reads the length of the history without the lock, and has seen this history, which begins with what it was told
abbrev pub Looks : Step Event → Me Event View → ℕ → Me Event View → Type 0
Looks s m found w = (w.1 ≡ m.1) × (w.0.keeper ≡ m.0.keeper) × (w.0.told ≡ []) × LooksAs m.0.told m.0.client found w.0.client

-- a word of the row that belongs to what a client has seen
pub record IsPeeked (c : Known) (word found : ℕ) : Type 0 where
  pub calls : word ≡ 3 * length c.seen + 1 → found ≡ (numbers c.begin c.seen).calls
  pub batches : word ≡ 3 * length c.seen + 2 → found ≡ (numbers c.begin c.seen).batches
  pub synced : word ≡ 3 * length c.seen + 3 → found ≡ (numbers c.begin c.seen).synced

abbrev PeeksAs : Option Known → ℕ → ℕ → Type 0
PeeksAs None word found = Unit {0}
PeeksAs (Some c) word found = IsPeeked c word found

-- peek: a client reads a word without the lock, which is a number of what it has seen where it stands in that row
abbrev pub Peeks : Step Event → Me Event View → ℕ → Me Event View → Type 0
Peeks s m found w = (w ≡ m) × PeeksAs m.0.client s.word found

abbrev ComparesAs : Option Keeper → Option Known → View → Type 0
ComparesAs (Some k) (Some c) w = (w ≡ view_of (Some k) None) × IsPrefix c.seen k.log × (entries_by c.number k.log ≡ c.mine) × ((x : ℕ) → k.dealt ≤ x → entries_by x k.log ≡ [])
ComparesAs _ _ w = Unit {0}

-- compare: the client's part is compared with the whole history, and given up
abbrev pub Compares : Step Event → Me Event View → ℕ → Me Event View → Type 0
Compares s m found w = (w.1 ≡ m.1) × ComparesAs m.0.keeper m.0.client w.0

abbrev deal : Option Keeper → Option Keeper
deal None = None
deal (Some k) = Some (keeping k.begin (k.dealt + 1) k.log k.draft)

abbrev newcomer : Option Keeper → Option Known
newcomer None = None
newcomer (Some k) = Some (known k.begin k.dealt [] [])

-- the lock's part, where there is one client more
abbrev pub dealer : View → View
dealer v = view_of (deal v.keeper) v.client

-- what that client knows
abbrev pub dealt_to : View → View
dealt_to v = view_of None (newcomer v.keeper)

-- a client that was told what another pass was told
abbrev pub heard : View → View → View
heard v w = record { keeper = v.keeper; client = v.client; told = w.told }

-- what a client has seen, for another to hear
abbrev pub said_by : View → View
said_by v = telling (known_or v.client).seen
