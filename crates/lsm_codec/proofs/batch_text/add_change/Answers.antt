use Rattle.std.proofs.Common.{◌≡◌, ◌≤◌, ℕ, ◌+◌, [], ◌++◌, option_map, length, take, drop, List, ap, ◌∙◌, arith}
use Rattle.std.proofs.lemmas.List.{take_all, drop_all, length-drop, length-append, append-nil}
use Rattle.byteorder.specs.Endian.{big_bytes}
use Rattle.lsm_codec.specs.Map.{Operation}
use Rattle.lsm_codec.specs.BatchText.{spelled, operation_text}
use Rattle.lsm_codec.proofs.BatchLaws.{few, text_length_low}
use Rattle.lsm_codec.proofs.Spelled.{is_spelled, counted, recounted}
use Rattle.lsm_codec.proofs.batch_text.add_change.Goals as goal

pub read_u16-count-requires : goal.read_u16-count-requires
read_u16-count-requires g c =
    let law = (is_spelled c.args.text.now.items c.requires.batch).1 in
    omega (arith, ap length c.deref.ensures.value, ap length law.1, text_length_low (spelled c.args.text.now.items) law.0)

pub overflow_add-count : goal.overflow_add-count
overflow_add-count g c =
    let law = (is_spelled c.args.text.now.items c.requires.batch).1 in
    let count = c.read_u16-count.ensures ∙ counted c.deref.result.now (spelled c.args.text.now.items) law.0 (c.deref.ensures.value ∙ law.1) in
    omega (arith, count, few (spelled c.args.text.now.items) law.0)

pub returns-clause-ok : goal.returns-clause-ok
returns-clause-ok g c =
    let old = c.args.text.now.items in
    let os = spelled old in
    let o : Operation = record { key = c.args.key.now; value = option_map (λ v. v.now) c.args.value } in
    let law = (is_spelled old c.requires.batch).1 in
    let text = c.push_change.new.text in
    let buffer = c.write_u16.new.buf in
    let pushed : text.items ≡ old ++ operation_text o = c.in_ok-push_change.ensures.ok in
    let count = c.read_u16-count.ensures ∙ counted c.deref.result.now os law.0 (c.deref.ensures.value ∙ law.1) in
    let long : 2 ≤ length text.items = omega (arith, ap length pushed, length-append old (operation_text o), ap length law.1, text_length_low os law.0) in
    let same : length buffer ≡ length text.items = omega (arith, ap length c.write_u16.ensures, length-drop 2 c.deref_mut.result.now, ap length c.deref_mut.ensures.value, long) in
    let gone : drop (length buffer) text.items ≡ [] = drop_all (length buffer) text.items (omega (arith, same)) in
    let kept : take text.len buffer ≡ buffer = take_all text.len buffer (omega (arith, same, ap length c.deref_mut.ensures.value, c.deref_mut.ensures.len)) in
    ap (λ (t : List ℕ). take text.len (buffer ++ t)) gone ∙ ap (take text.len) (append-nil buffer) ∙ kept ∙ c.write_u16.ensures
    ∙ ap (λ (n : ℕ). big_bytes 2 (n + 1) ++ drop 2 c.deref_mut.result.now) count
    ∙ ap (λ (t : List ℕ). big_bytes 2 (length os + 1) ++ drop 2 t) (c.deref_mut.ensures.value ∙ pushed)
    ∙ recounted old os o law.1
