use Rattle.std.proofs.Common.{List, refl, sym, ◌∙◌, ap, length, length-take-le, arith}
use Rattle.std.proofs.lemmas.Bool.{false≢true}
use Rattle.lsm_mapped.specs.Records.{Record, sync_record, text_of}
use Rattle.lsm_mapped.proofs.Appending.{ends-in-none, ends-in-sync, size-pushed, sync_pushed}
use Rattle.lsm_mapped.proofs.journal.Journal.sync.Goals as goal

pub returns-then-ends_in_sync-clause-room : goal.returns-then-ends_in_sync-clause-room
returns-then-ends_in_sync-clause-room c =
    let j = c.args.self.now in
    let same = ends-in-sync c.args.bytes.now j.used j.head j.first j.count j.wrote c.requires.within c.requires.laid (c.ends_in_sync.ensures.0 c.if-ends_in_sync.true) in
    (λ _. omega (arith, ap (λ (rs : List Record). length (text_of rs)) same, ap length c.requires.laid.text_is, length-take-le j.used c.args.bytes.now c.requires.within, c.requires.within), λ _. refl)

pub returns-then-ends_in_sync-clause-synced : goal.returns-then-ends_in_sync-clause-synced
returns-then-ends_in_sync-clause-synced c _ =
    let j = c.args.self.now in
    sym (ends-in-sync c.args.bytes.now j.used j.head j.first j.count j.wrote c.requires.within c.requires.laid (c.ends_in_sync.ensures.0 c.if-ends_in_sync.true))

pub returns-then-bytes-self-lt-HEAD_BYTES-clause-room : goal.returns-then-bytes-self-lt-HEAD_BYTES-clause-room
returns-then-bytes-self-lt-HEAD_BYTES-clause-room c =
    let j = c.args.self.now in
    let more = ends-in-none c.args.bytes.now j.used j.head j.first j.count j.wrote c.requires.within c.requires.laid (λ p. false≢true (sym c.if-ends_in_sync.false ∙ c.ends_in_sync.ensures.1 p)) in
    let size = size-pushed c.args.bytes.now j.used j.head j.first j.count j.wrote _ sync_record c.requires.within c.requires.laid more in
    (λ t. absurd (false≢true t), λ h. absurd (omega (arith, h, size, c.if-bytes-self-lt-HEAD_BYTES.true)))

pub returns-clause-fills : goal.returns-clause-fills
returns-clause-fills c =
    let j = c.args.self.now in
    record {
      within = omega arith;
      laid = (sync_pushed c.args.bytes.now c.lay.new.bytes j.used j.head j.first j.count _ j.wrote c.requires.within c.requires.laid (omega arith) c.lay.ensures).1;
    }

pub returns-clause-room : goal.returns-clause-room
returns-clause-room c =
    let j = c.args.self.now in
    let more = ends-in-none c.args.bytes.now j.used j.head j.first j.count j.wrote c.requires.within c.requires.laid (λ p. false≢true (sym c.if-ends_in_sync.false ∙ c.ends_in_sync.ensures.1 p)) in
    let size = size-pushed c.args.bytes.now j.used j.head j.first j.count j.wrote _ sync_record c.requires.within c.requires.laid more in
    (λ _. omega (arith, size, c.if-bytes-self-lt-HEAD_BYTES.false), λ _. refl)

pub returns-clause-synced : goal.returns-clause-synced
returns-clause-synced c _ =
    let j = c.args.self.now in
    (sync_pushed c.args.bytes.now c.lay.new.bytes j.used j.head j.first j.count _ j.wrote c.requires.within c.requires.laid (omega arith) c.lay.ensures).0
    ∙ sym (ends-in-none c.args.bytes.now j.used j.head j.first j.count j.wrote c.requires.within c.requires.laid (λ p. false≢true (sym c.if-ends_in_sync.false ∙ c.ends_in_sync.ensures.1 p)))
