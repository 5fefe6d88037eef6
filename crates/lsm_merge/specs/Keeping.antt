-- What a merge keeps of versions.
use Rattle.std.specs.Prelude.{ℕ, Bool, cond, not, ◌&&◌, ltb, is_some, is_none, List, [], ◌∷◌, filter}
use Rattle.std.specs.List.{list_any}
use Rattle.lsm_codec.specs.Versions.{Version, is_same_key, newest}
use Rattle.lsm_mem.specs.EntryOrder.{placed}
use Rattle.lsm_mem.specs.Ranges.{is_version}

-- the first versions placed among the others, which are in the order of entries; of two with one key and number the first
abbrev pub all_placed : List Version → List Version → List Version
all_placed [] entries = entries
all_placed (v ∷ rest) entries = placed v (all_placed rest entries)

-- versions in the order of entries; of those with one key and number the first
abbrev pub in_order : List Version → List Version
in_order versions = all_placed versions []

-- whether a version is the newest of its key at some cut
abbrev pub is_newest_at_a_cut : List ℕ → List Version → Version → Bool
is_newest_at_a_cut cuts versions v = list_any (λ n. is_version v (newest v.key n versions)) cuts

-- for each cut the newest version of each key that is numbered at most the cut, in the order of entries
abbrev pub kept_at : List ℕ → List Version → List Version
kept_at cuts versions = filter (is_newest_at_a_cut cuts versions) (in_order versions)

-- whether the second is a put of the first one's key, and older
abbrev pub is_older_put : Version → Version → Bool
is_older_put v w = is_same_key v.key w.key && ltb w.number v.number && is_some w.value

-- whether it is a delete with no older put of its key among these
abbrev pub deletes_nothing : List Version → Version → Bool
deletes_nothing versions v = is_none v.value && not (list_any (is_older_put v) versions)

-- versions without the deletes that delete nothing
abbrev pub settled : List Version → List Version
settled versions = filter (λ v. not (deletes_nothing versions v)) versions

-- What a merge keeps of versions, those of newer runs first: for each cut the newest version of each key that is numbered
-- at most the cut; at the bottom without the deletes that then delete nothing.
unfoldable pub keep : List ℕ → Bool → List Version → List Version
keep cuts bottom versions = cond bottom (settled (kept_at cuts versions)) (kept_at cuts versions)
