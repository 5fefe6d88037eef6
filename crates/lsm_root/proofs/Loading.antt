-- What is read of the root.
use Rattle.std.proofs.Common.{◌≡◌, ◌⊎◌, inl, inr, ℕ, ◌+◌, ◌<◌, ◌≤◌, ◌==◌, nat_lt, List, [], ◌∷◌, ◌++◌, length, drop, get_or, slice_get, Option, Some, sym, ◌∙◌, ap, subst, arith, append_assoc}
use Rattle.std.proofs.lemmas.List.{append-nil, take_more, get_or-drop, length-drop}
use Rattle.std.proofs.lemmas.Option.{slice_get-get_or, same_Some}
use Rattle.std.proofs.lemmas.Bool.{eq-eqb, ne_eqb, not-true, cond-true, cond-false, lt-ltb}
use Rattle.std.proofs.lemmas.Bool.Decides.{Decides-not}
use Rattle.lsm_codec.specs.declared.superblock.Superblock.{Superblock}
use Rattle.lsm_codec.specs.Superblocks.{IsSuperblock}
use Rattle.lsm_codec.specs.Manifests.{Contents}
use Rattle.lsm_device.specs.Areas.{area}
use Rattle.lsm_device.specs.declared.refusal.Refusal.{Refusal}
use Rattle.lsm_device.specs.declared.refusal.Refusal.TheVariants.{NoMemory, Io, BadManifest, NotAStore, BadSuper}
use Rattle.lsm_root.specs.Loaded.{refusal_of}
use Rattle.lsm_codec.specs.Manifests.{manifest_of}
use Rattle.lsm_root.specs.Layout.{LieInside}
use Rattle.lsm_root.specs.Pieces.{joined}
use Rattle.lsm_root.specs.Roots.{Reading, Blank, Broken, Names, reading_of, in_slot, newer, sector_at, superblock_in, text_in, Root, OtherSize, Unreadable, Stands, may_name, root_with, root_by, root_of}
use Rattle.lsm_root.proofs.Readings.{FitsLimits, placed}
use Rattle.lsm_root.proofs.Frames.{root_whole}
use Rattle.lsm_root.proofs.Naming.{may_name-Decides}
use Rattle.lsm_root.proofs.Newer.{newer_fits}

joined-push : (xs : List (List ℕ)) (s : List ℕ) → joined (xs ++ s ∷ []) ≡ joined xs ++ s
joined-push [] s = append-nil s
joined-push (x ∷ xs) s = ap (λ (l : List ℕ). x ++ l) (joined-push xs s) ∙ sym (append_assoc x (joined xs) s)

read_sector : (image : List (List ℕ)) (i : ℕ) (bytes : List ℕ) → i < length image → slice_get image i ≡ Some bytes → sector_at image i ≡ bytes
read_sector image i bytes lt reads = same_Some (get_or image i []) bytes (sym (slice_get-get_or image i [] lt) ∙ reads)

-- one sector more
pub one_more : (image : List (List ℕ)) (at k : ℕ) (text new bytes : List ℕ) → at + k < length image → slice_get image (at + k) ≡ Some bytes → text ≡ joined (area at k image) → new ≡ text ++ bytes → new ≡ joined (area at (k + 1) image)
one_more image at k text new bytes lt reads so_far is =
    let more : area at (k + 1) image ≡ area at k image ++ bytes ∷ [] =
    take_more (drop at image) k [] (omega (arith, lt, length-drop at image)) ∙ ap (λ (s : List ℕ). area at k image ++ s ∷ []) (get_or-drop at image k [] ∙ read_sector image (at + k) bytes lt reads) in
    is ∙ ap (λ (l : List ℕ). l ++ bytes) so_far ∙ sym (ap joined more ∙ joined-push (area at k image) bytes)

pub superblocks_are : (image : List (List ℕ)) (even odd : List ℕ) → 2 ≤ length image → slice_get image 0 ≡ Some even → slice_get image 1 ≡ Some odd
    → superblock_in image ≡ newer (in_slot 0 (reading_of even)) (in_slot 1 (reading_of odd))
superblocks_are image even odd large zeroth first =
    ap (λ (s : List ℕ). newer (in_slot 0 (reading_of s)) (in_slot 1 (reading_of (sector_at image 1)))) (read_sector image 0 even (omega (arith, large)) zeroth)
    ∙ ap (λ (s : List ℕ). newer (in_slot 0 (reading_of even)) (in_slot 1 (reading_of s))) (read_sector image 1 odd (omega (arith, large)) first)

pub counted : (even odd : List ℕ) (s : Superblock) → newer (in_slot 0 (reading_of even)) (in_slot 1 (reading_of odd)) ≡ Names s → IsSuperblock s
counted even odd s is = subst FitsLimits is (newer_fits (in_slot 0 (reading_of even)) (in_slot 1 (reading_of odd)) (placed 0 even).fits (placed 1 odd).fits)

pub one_fits : (slot : ℕ) (sector : List ℕ) (s : Superblock) → in_slot slot (reading_of sector) ≡ Names s → IsSuperblock s
one_fits slot sector s is = subst FitsLimits is (placed slot sector).fits

pub too_small : (image : List (List ℕ)) → length image < 2 → root_of image ≡ OtherSize
too_small image lt = cond-true (nat_lt (length image) 2) OtherSize (root_by (superblock_in image) image) (lt-ltb (length image) 2 lt)

module _ (image : List (List ℕ)) (s : Superblock) (large : 2 ≤ length image) (names : superblock_in image ≡ Names s) where
  pub other_size : (size : ℕ) → length image ≡ size → (s.sectors ≡ size → ⊥) → root_of image ≡ OtherSize
  other_size size is other = root_whole image large ∙ ap (λ (r : Reading). root_by r image) names ∙ cond-false (s.sectors == length image) _ OtherSize (ne_eqb s.sectors (length image) (λ e. other (e ∙ is)))

  pub root_is : (size : ℕ) (text : List ℕ) → length image ≡ size → s.sectors ≡ size → text ≡ text_in s image → root_of image ≡ root_with s (manifest_of s.version text)
  root_is size text is same reads =
      root_whole image large ∙ ap (λ (r : Reading). root_by r image) names ∙ cond-true (s.sectors == length image) _ OtherSize (eq-eqb s.sectors (length image) (same ∙ sym is))
      ∙ ap (λ (l : List ℕ). root_with s (manifest_of s.version l)) (sym reads)

-- what the text says
pub root_with-some : (s : Superblock) (m : Contents) (read : Option Contents) → read ≡ Some m → m.generation ≡ s.generation → LieInside s.sectors s.log_sectors m.tables → root_with s read ≡ Stands s.log_sectors m
root_with-some s m read is same inside = ap (root_with s) is ∙ cond-true (may_name s m) (Stands s.log_sectors m) Unreadable ((may_name-Decides s m).1 (same, inside))

pub root_with-other : (s : Superblock) (m : Contents) (read : Option Contents) → read ≡ Some m → ((m.generation ≡ s.generation) × LieInside s.sectors s.log_sectors m.tables → ⊥) → root_with s read ≡ Unreadable
root_with-other s m read is other =
    ap (root_with s) is
    ∙ cond-false (may_name s m) (Stands s.log_sectors m) Unreadable (not-true (may_name s m) ((Decides-not (may_name s m) (may_name-Decides s m)).1 other))

-- what a load answers where it is refused
abbrev pub IsTold : Root → Refusal → Type 0
IsTold root e = (refusal_of root ≡ Some e) ⊎ ((e ≡ NoMemory) ⊎ (e ≡ Io))

pub manifest_refused : (root whole : Root) (e : Refusal) → whole ≡ root → (e ≡ NoMemory) ⊎ ((root ≡ Unreadable) × (e ≡ BadManifest)) → IsTold whole e
manifest_refused root whole e is (inl full) = inr (inl full)
manifest_refused root whole e is (inr none) = inl (ap refusal_of (is ∙ none.0) ∙ ap Some (sym none.1))

-- the same where only the refusal is known
pub manifest_refusal : (root : Root) (e : Refusal) → (e ≡ NoMemory) ⊎ ((root ≡ Unreadable) × (e ≡ BadManifest)) → ((r : Root) × (refusal_of r ≡ Some e)) ⊎ ((e ≡ NoMemory) ⊎ (e ≡ Io))
manifest_refusal root e (inl full) = inr (inl full)
manifest_refusal root e (inr none) = inl (Unreadable, ap Some (sym none.1))

pub superblock_refused : (image : List (List ℕ)) (e : Refusal) → 2 ≤ length image → (e ≡ Io) ⊎ (((superblock_in image ≡ Blank) × (e ≡ NotAStore)) ⊎ ((superblock_in image ≡ Broken) × (e ≡ BadSuper))) → IsTold (root_of image) e
superblock_refused image e large (inl fault) = inr (inr fault)
superblock_refused image e large (inr (inl none)) = inl (ap refusal_of (root_whole image large ∙ ap (λ (r : Reading). root_by r image) none.0) ∙ ap Some (sym none.1))
superblock_refused image e large (inr (inr none)) = inl (ap refusal_of (root_whole image large ∙ ap (λ (r : Reading). root_by r image) none.0) ∙ ap Some (sym none.1))

-- what two readings say, of the sectors that they were read from
pub counted_refused : (r q : Reading) (e : Refusal) → r ≡ q → ((q ≡ Blank) × (e ≡ NotAStore)) ⊎ ((q ≡ Broken) × (e ≡ BadSuper)) → (e ≡ Io) ⊎ (((r ≡ Blank) × (e ≡ NotAStore)) ⊎ ((r ≡ Broken) × (e ≡ BadSuper)))
counted_refused r q e is (inl blank) = inr (inl (is ∙ blank.0, blank.1))
counted_refused r q e is (inr broken) = inr (inr (is ∙ broken.0, broken.1))
