use Rattle.std.proofs.Common.{rules, ◌≡◌, ◌+◌, ◌≤◌, ℕ, length, sym, ap, ◌∙◌, subst}
use Rattle.lsm_mem.specs.Versions.{NumberedBelow}
use Rattle.lsm_root.specs.CrashState.{last_number}
use Rattle.lsm_open.proofs.replayed.Replayed.take_in.Goals as goal

pub returns : goal.returns
returns g c =
    let before = c.args.self.now.count in
    let long : c.len-count.result ≡ length c.args.batches.items = c.len-count.ensures ∙ c.args.batches.ok.0 in
    let IsNumbered : ℕ → Type 0 = λ n. NumberedBelow (before + n + 1) c.insert_all.new.mem in
    let IsWithin : ℕ → Type 0 = λ n. before + n ≤ last_number in
    record {
      first = c.requires.first;
      versions = c.in_ok-insert_all.ensures.inserted;
      numbered = subst IsNumbered (sym long) c.in_ok-insert_all.ensures.numbered;
      entries = c.in_ok-insert_all.ensures.entries;
      closed = search rules;
      count = ap (λ n. before + n) long;
      count_high = subst IsWithin (sym long) c.requires.room;
    }
