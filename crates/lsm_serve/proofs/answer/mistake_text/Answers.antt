use Rattle.std.specs.Prelude.{string_bytes}
use Rattle.lsm_serve.proofs.MistakeLaws.{text_at}
use Rattle.lsm_serve.proofs.answer.mistake_text.Goals as goal

pub returns-clause-text : goal.returns-clause-text
returns-clause-text c =
    text_at c.args.mistake.now.expected (string_bytes c.args.mistake.now.found) (string_bytes c.write.new.self)
    (rw (c.new-text.ensures.bytes, c.part-part.ensures, c.as_str-found.ensures.value, c.form-form.ensures) at c.in_ok-write.ensures.bytes)
