-- What a replay makes of one sector more.
use Rattle.std.proofs.Common.{◌≡◌, ℕ, ◌+◌, ◌-◌, ◌<◌, ◌≤◌, length, get_or, drop, ◌==◌, true, false, cond, List, [], ◌∷◌, ◌++◌, Some, None, sym, ◌∙◌, ap, arith, append_assoc}
use Rattle.std.proofs.lemmas.List.{append-nil, drop_more, drop_all, get_or-take, get_or-drop, length-take, length-drop}
use Rattle.std.proofs.lemmas.Option.{slice_get-get_or, same_Some}
use Rattle.std.proofs.lemmas.Bool.{eq-eqb, ne_eqb, eqb-true, and_parts, cond-true, cond-false}
use Rattle.std.specs.Prelude.{Option, is_some, slice_get}
use Rattle.lsm_codec.specs.LogSectors.{Part, part_of}
use Rattle.lsm_codec.specs.Map.{Operation}
use Rattle.lsm_codec.specs.BatchText.{batch_of}
use Rattle.lsm_device.specs.Areas.{area}
use Rattle.lsm_log.specs.Replay.{cons_while, map_while, is_awaited, texts_from, awaited_from}

abbrev Batches : Type 0
Batches = List (List Operation)

module _ (epoch number part parts : ℕ) (text sector : List ℕ) (rest : List (List ℕ)) where
  -- the batches that are read from this sector and those after it
  abbrev here : Batches
  here = map_while batch_of (texts_from epoch number part parts text (map_while part_of (sector ∷ rest)))

  abbrev awaited_here : ℕ
  awaited_here = awaited_from epoch number part parts text (map_while part_of (sector ∷ rest))

  none_more : (batches : Batches) (bs : Batches) → bs ≡ [] → batches ≡ batches ++ bs
  none_more batches bs none = sym (ap (λ (l : Batches). batches ++ l) none ∙ append-nil batches)

  -- no part
  pub ends_no_part : (batches : Batches) → part_of sector ≡ None → batches ≡ batches ++ map_while batch_of (texts_from epoch number part parts text (map_while part_of (sector ∷ rest)))
  ends_no_part batches none = none_more batches here (ap (λ (o : Option Part). map_while batch_of (texts_from epoch number part parts text (cons_while o (map_while part_of rest)))) none)

  module _ (p : Part) (found : part_of sector ≡ Some p) where
    step : here ≡ map_while batch_of (texts_from epoch number part parts text (p ∷ map_while part_of rest))
    step = ap (λ (o : Option Part). map_while batch_of (texts_from epoch number part parts text (cons_while o (map_while part_of rest)))) found

    counts : awaited_here ≡ awaited_from epoch number part parts text (p ∷ map_while part_of rest)
    counts = ap (λ (o : Option Part). awaited_from epoch number part parts text (cons_while o (map_while part_of rest))) found

    -- not the awaited part
    pub ends_other : (batches : Batches) → is_awaited epoch number part parts p ≡ false → batches ≡ batches ++ map_while batch_of (texts_from epoch number part parts text (map_while part_of (sector ∷ rest)))
    ends_other batches other = none_more batches here (step ∙ ap (map_while batch_of) (cond-false (is_awaited epoch number part parts p) _ [] other))

    module _ (next : is_awaited epoch number part parts p ≡ true) where
      place : p.part ≡ part
      place = eqb-true p.part part (and_parts _ _ (and_parts _ _ (and_parts _ _ next).1).1).0

      pub number_is : p.batch ≡ number
      number_is = eqb-true p.batch number (and_parts _ _ (and_parts _ _ next).1).0

      module _ (last : p.part + 1 ≡ p.parts) where
        test : (part + 1 == p.parts) ≡ true
        test = eq-eqb (part + 1) p.parts (ap (λ (n : ℕ). n + 1) (sym place) ∙ last)

        whole : here ≡ cons_while (batch_of (text ++ p.payload)) (map_while batch_of (texts_from epoch (number + 1) 0 0 [] (map_while part_of rest)))
        whole = step ∙ ap (map_while batch_of) (cond-true (is_awaited epoch number part parts p) _ [] next ∙ cond-true (part + 1 == p.parts) _ _ test)

        -- the batch's last part, and its text spells no batch
        pub ends_no_batch : (batches : Batches) → batch_of (text ++ p.payload) ≡ None → batches ≡ batches ++ map_while batch_of (texts_from epoch number part parts text (map_while part_of (sector ∷ rest)))
        ends_no_batch batches none = none_more batches here (whole ∙ ap (λ (o : Option (List Operation)). cons_while o (map_while batch_of (texts_from epoch (number + 1) 0 0 [] (map_while part_of rest)))) none)

        -- the batch's last part
        module _ (batch : List Operation) (is : batch_of (text ++ p.payload) ≡ Some batch) where
          takes_batch : (batches : Batches) → (batches ++ batch ∷ []) ++ map_while batch_of (texts_from epoch (number + 1) 0 0 [] (map_while part_of rest)) ≡ batches ++ map_while batch_of (texts_from epoch number part parts text (map_while part_of (sector ∷ rest)))
          takes_batch batches =
              append_assoc batches (batch ∷ []) (map_while batch_of (texts_from epoch (number + 1) 0 0 [] (map_while part_of rest)))
              ∙ ap (λ (l : Batches). batches ++ l) (sym (whole ∙ ap (λ (o : Option (List Operation)). cons_while o (map_while batch_of (texts_from epoch (number + 1) 0 0 [] (map_while part_of rest)))) is))

          counts_batch : awaited_from epoch number part parts text (map_while part_of (sector ∷ rest)) ≡ 1 + awaited_from epoch (number + 1) 0 0 [] (map_while part_of rest)
          counts_batch =
              counts ∙ cond-true (is_awaited epoch number part parts p) _ 0 next ∙ cond-true (part + 1 == p.parts) _ _ test
              ∙ ap (λ (o : Option (List Operation)). cond (is_some o) (1 + awaited_from epoch (number + 1) 0 0 [] (map_while part_of rest)) 0) is

          -- the same of what was read, wherever it is
          pub taken_batch : (empty : List ℕ) (old new : Batches) → empty ≡ [] → new ≡ old ++ batch ∷ []
              → (new ++ map_while batch_of (texts_from epoch (number + 1) 0 0 empty (map_while part_of rest)) ≡ old ++ map_while batch_of (texts_from epoch number part parts text (map_while part_of (sector ∷ rest))))
              × (awaited_from epoch number part parts text (map_while part_of (sector ∷ rest)) ≡ 1 + awaited_from epoch (number + 1) 0 0 empty (map_while part_of rest))
          taken_batch empty old new none pushed = (
            ap (λ (l : Batches). l ++ map_while batch_of (texts_from epoch (number + 1) 0 0 empty (map_while part_of rest))) pushed
                ∙ ap (λ (t : List ℕ). (old ++ batch ∷ []) ++ map_while batch_of (texts_from epoch (number + 1) 0 0 t (map_while part_of rest))) none
                ∙ takes_batch old,
            counts_batch ∙ ap (λ (t : List ℕ). 1 + awaited_from epoch (number + 1) 0 0 t (map_while part_of rest)) (sym none),
          )

      -- another part
      module _ (more : p.part + 1 ≡ p.parts → ⊥) where
        test_more : (part + 1 == p.parts) ≡ false
        test_more = ne_eqb (part + 1) p.parts (λ e. more (ap (λ (n : ℕ). n + 1) place ∙ e))

        takes_more : (batches : Batches) → batches ++ map_while batch_of (texts_from epoch number (p.part + 1) p.parts (text ++ p.payload) (map_while part_of rest)) ≡ batches ++ map_while batch_of (texts_from epoch number part parts text (map_while part_of (sector ∷ rest)))
        takes_more batches =
            ap (λ (n : ℕ). batches ++ map_while batch_of (texts_from epoch number (n + 1) p.parts (text ++ p.payload) (map_while part_of rest))) place
            ∙ ap (λ (l : Batches). batches ++ l) (sym (step ∙ ap (map_while batch_of) (cond-true (is_awaited epoch number part parts p) _ [] next ∙ cond-false (part + 1 == p.parts) _ _ test_more)))

        counts_more : awaited_from epoch number part parts text (map_while part_of (sector ∷ rest)) ≡ 1 + awaited_from epoch number (p.part + 1) p.parts (text ++ p.payload) (map_while part_of rest)
        counts_more =
            counts ∙ cond-true (is_awaited epoch number part parts p) _ 0 next ∙ cond-false (part + 1 == p.parts) _ _ test_more
            ∙ ap (λ (n : ℕ). 1 + awaited_from epoch number (n + 1) p.parts (text ++ p.payload) (map_while part_of rest)) (sym place)

        -- the same of what was read, wherever it is
        pub taken_more : (read : List ℕ) (batches : Batches) → read ≡ text ++ p.payload
            → (batches ++ map_while batch_of (texts_from epoch number (p.part + 1) p.parts read (map_while part_of rest)) ≡ batches ++ map_while batch_of (texts_from epoch number part parts text (map_while part_of (sector ∷ rest))))
            × (awaited_from epoch number part parts text (map_while part_of (sector ∷ rest)) ≡ 1 + awaited_from epoch number (p.part + 1) p.parts read (map_while part_of rest))
        taken_more read batches is = (
          ap (λ (t : List ℕ). batches ++ map_while batch_of (texts_from epoch number (p.part + 1) p.parts t (map_while part_of rest))) is ∙ takes_more batches,
          counts_more ∙ ap (λ (t : List ℕ). 1 + awaited_from epoch number (p.part + 1) p.parts t (map_while part_of rest)) (sym is),
        )

-- the next sector of an area
pub next_sector : (start n at : ℕ) (sectors : List (List ℕ)) (bytes : List ℕ) → start ≤ at → at < start + n → at < length sectors → slice_get sectors at ≡ Some bytes
    → drop (at - start) (area start n sectors) ≡ bytes ∷ drop (at + 1 - start) (area start n sectors)
next_sector start n at sectors bytes low high long reads =
    let within : at - start < length (area start n sectors) = omega (arith, length-take n (drop start sectors), length-drop start sectors) in
    let next : at - start + 1 ≡ at + 1 - start = omega arith in
    let place : start + (at - start) ≡ at = omega arith in
    let is : get_or sectors at [] ≡ bytes = same_Some (get_or sectors at []) bytes (sym (slice_get-get_or sectors at [] long) ∙ reads) in
    drop_more (area start n sectors) (at - start) [] within
    ∙ ap (λ (s : List ℕ). s ∷ drop (at - start + 1) (area start n sectors)) (get_or-take n (drop start sectors) (at - start) [] (omega arith) ∙ get_or-drop start sectors (at - start) [] ∙ ap (λ (i : ℕ). get_or sectors i []) place ∙ is)
    ∙ ap (λ (i : ℕ). bytes ∷ drop i (area start n sectors)) next

-- no sector more
pub no_sector : (start n at : ℕ) (sectors : List (List ℕ)) → start + n ≤ at → drop (at - start) (area start n sectors) ≡ []
no_sector start n at sectors end = drop_all (at - start) (area start n sectors) (omega (arith, length-take n (drop start sectors)))

-- one awaited sector more
pub awaited_more : (start at here after behind total : ℕ) → start ≤ at → at - start + here ≡ total → here ≡ after → after ≡ 1 + behind → at + 1 - start + behind ≡ total
awaited_more start at here after behind total low counts same more = omega (arith, counts, same, more)
