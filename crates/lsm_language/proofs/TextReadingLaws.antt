-- How a script is read.
use Rattle.std.proofs.Common.{◌≡◌, ◌∙◌, ◌==◌, ℕ, true, false, List, [], ◌∷◌, ◌++◌, append_assoc, append-nil, ne_eqb, ◌⊎◌, inl, inr, Option, Some, None, if◌then◌else◌, refl, sym, ap, subst}
use Rattle.std.specs.Prelude.{IfSome}
use Rattle.std.specs.Io.Buffered.{reader_buffer, reader_capacity, reader_inner, reader_remaining}
use Rattle.std.specs.Io.KnownBytes.{Consumes, Keeps, prepend_known}
use Rattle.std.specs.declared.io.buffered.BufReader.{BufReader}
use Rattle.lsm_language.specs.Reading.{PassesBy, TakesText}
use Rattle.lsm_language.specs.Scripts.{read_within, room_behind}
use Rattle.lsm_language.proofs.ReadingLaws.{consumed}

-- ---- the reader

none_before : (known : Option (List ℕ)) → prepend_known [] known ≡ known
none_before None = refl
none_before (Some xs) = refl

by_parts : {T : Type 0} (remaining : T → Option (List ℕ)) (inner y : T) (n : ℕ) (bs : List ℕ) → n ≡ 65536 → bs ≡ [] → y ≡ inner
    → (if n == 0 then None else prepend_known bs (remaining y)) ≡ remaining inner
by_parts remaining inner y n bs ns es same = rw (ns, es, same) (none_before (remaining inner))

-- with nothing in its buffer yet
pub buffered-remaining : {T A : Type 0} (remaining : T → Option (List ℕ)) (reader : BufReader T A) (inner : T) → reader_inner reader ≡ inner → reader_buffer reader ≡ []
    → reader_capacity reader ≡ 65536 → reader_remaining remaining reader ≡ remaining inner
buffered-remaining remaining reader inner is empty capacity = by_parts remaining inner (reader_inner reader) (reader_capacity reader) (reader_buffer reader) capacity empty is

-- ---- a part

-- nothing was read, and a byte more
pub passes-none : (room : ℕ) → PassesBy room [] room
passes-none room = λ rest. refl

one_more : (left b : ℕ) (rest : List ℕ) → (left ≡ 0 → ⊥) → read_within left (b ∷ rest) ≡ b ∷ read_within (room_behind left b) rest
one_more left b rest some = rw (ne_eqb left 0 some) refl

pub passes-more : (room left b : ℕ) (part longer : List ℕ) → PassesBy room part left → (left ≡ 0 → ⊥) → longer ≡ part ++ b ∷ [] → PassesBy room longer (room_behind left b)
passes-more room left b part longer passes some is =
    subst (λ (l : List ℕ). PassesBy room l (room_behind left b)) (sym is)
    (λ rest. ap (read_within room) (append_assoc part (b ∷ []) rest) ∙ passes (b ∷ rest) ∙ ap (λ (l : List ℕ). part ++ l) (one_more left b rest some)
    ∙ sym (append_assoc part (b ∷ []) (read_within (room_behind left b) rest)))

-- ---- looks at an input

-- what was read so far, and what is left
abbrev pub IsTaking : Option (List ℕ) → List ℕ → ℕ → Option (List ℕ) → Type 0
IsTaking before text room left = IfSome before (λ all. (rest : List ℕ) × (left ≡ Some rest) × (read_within 300001 all ≡ text ++ read_within room rest))

pub taking-begins : (before : Option (List ℕ)) (text : List ℕ) → text ≡ [] → IsTaking before text 300001 before
taking-begins None text none = tt
taking-begins (Some all) text none = (all, refl, ap (λ (l : List ℕ). l ++ read_within 300001 all) (sym none))

pub taking-more : (before left after : Option (List ℕ)) (text longer : List ℕ) (room next : ℕ) → IsTaking before text room left → TakesText left room text (Some next) longer after
    → IsTaking before longer next after
taking-more None left after text longer room next taking takes = tt
taking-more (Some all) left after text longer room next (rest, left_is, reads) (part, passes, is, takes) =
    let c = consumed rest part left after left_is takes in (
      c.0,
      c.1,
      reads ∙ ap (λ (l : List ℕ). text ++ read_within room l) c.2 ∙ ap (λ (l : List ℕ). text ++ l) (passes c.0) ∙ sym (append_assoc text part (read_within next c.0))
          ∙ ap (λ (l : List ℕ). l ++ read_within next c.0) (sym is),
    )

no_room : (room : ℕ) (rest : List ℕ) → room ≡ 0 → read_within room rest ≡ []
no_room room [] is = refl
no_room room (b ∷ rest) is = ap (λ (n : ℕ). read_within n (b ∷ rest)) is

pub taking-ends : (before left after : Option (List ℕ)) (text longer : List ℕ) (room : ℕ) → IsTaking before text room left → TakesText left room text None longer after
    → IfSome before (λ all. longer ≡ read_within 300001 all)
taking-ends None left after text longer room taking takes = tt
taking-ends (Some all) left after text longer room (rest, left_is, reads) (is, ends) =
    is ∙ sym (reads ∙ ap (λ (l : List ℕ). text ++ l) (nothing ends) ∙ append-nil text)
  where
    nothing : (room ≡ 0) ⊎ IfSome left (λ r. r ≡ []) → read_within room rest ≡ []
    nothing (inl full) = no_room room rest full
    nothing (inr none) = ap (read_within room) (subst (λ (o : Option (List ℕ)). IfSome o (λ r. r ≡ [])) left_is none)

-- nothing was taken
pub takes-nothing : (before after : Option (List ℕ)) (text : List ℕ) (room : ℕ) → Keeps before after → TakesText before room text (Some room) text after
takes-nothing before after text room keeps = ([], passes-none room, sym (append-nil text), by before after keeps)
  where
    by : (before after : Option (List ℕ)) → Keeps before after → Consumes before after []
    by None after keeps = tt
    by (Some xs) None keeps = absurd keeps
    by (Some xs) (Some ys) keeps = sym keeps
