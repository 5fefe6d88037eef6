use Rattle.std.proofs.Common.{rules, ◌≡◌, ℕ, ◌+◌, ◌*◌, length, ap, sym, ◌∙◌, arith}
use Rattle.lsm_trail.specs.Begins.{Begin}
use Rattle.lsm_trail.specs.History.{numbers}
use Rattle.lsm_trail.specs.Knowledge.{known_of}
use Rattle.lsm_trail.proofs.Passes.{peeks_at, peeked, stays}
use Rattle.lsm_trail.proofs.counters.Counters.read_row.Goals as goal

pub load-calls-requires : goal.load-calls-requires
load-calls-requires g c = (search rules, omega (arith, c.args.self.now.wide, ap (λ t. t.words) c.args.self.now.table, c.requires.count.1), peeks_at _ _ _ _ _ _ c.requires.client.1)

pub load-batches-requires : goal.load-batches-requires
load-batches-requires g c =
    let one = peeked (known_of c.args.client.now) _ _ _ _ c.requires.client.1 c.load-calls.ensures.2 in
    (search rules, omega (arith, c.args.self.now.wide, ap (λ t. t.words) c.args.self.now.table, c.requires.count.1), peeks_at _ _ _ _ _ _ one.0)

pub load-synced-requires : goal.load-synced-requires
load-synced-requires g c =
    let one = peeked (known_of c.args.client.now) _ _ _ _ c.requires.client.1 c.load-calls.ensures.2 in
    let two = peeked (known_of c.args.client.now) _ _ _ _ one.0 c.load-batches.ensures.2 in
    (search rules, omega (arith, c.args.self.now.wide, ap (λ t. t.words) c.args.self.now.table, c.requires.count.1), peeks_at _ _ _ _ _ _ two.0)

pub returns : goal.returns
returns g c =
    let k = known_of c.args.client.now in
    let one = peeked k _ _ _ _ c.requires.client.1 c.load-calls.ensures.2 in
    let two = peeked k _ _ _ _ one.0 c.load-batches.ensures.2 in
    let three = peeked k _ _ _ _ two.0 c.load-synced.ensures.2 in
    let n : 3 * c.args.count ≡ 3 * length k.seen = ap (λ (x : ℕ). 3 * x) (sym c.requires.count.0) in
    let calls = one.1.calls (ap (λ (x : ℕ). x + 1) n) in
    let batches = two.1.batches (ap (λ (x : ℕ). x + 2) n) in
    let synced = three.1.synced (ap (λ (x : ℕ). x + 3) n) in
    let t = stays _ c.args.client.now c.load-synced.new.seat c.requires.client (c.load-synced.ensures.0 ∙ (c.load-batches.ensures.0 ∙ c.load-calls.ensures.0)) three.0 in
    record {
      client = t.0;
      known = t.1;
      told = (λ i. record { calls = calls i; batches = batches i; synced = synced i }) ∙ ap (λ (b : Begin). numbers b k.seen) c.requires.client.2;
    }
