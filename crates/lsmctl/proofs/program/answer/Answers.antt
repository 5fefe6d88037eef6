use Rattle.std.proofs.Common.{◌≡◌, ℕ, List, Option, ap, inl, map, refl, rules, subst, sym}
use Rattle.std.specs.Prelude.{IfSome, IsTrue}
use Rattle.clap.specs.Words.{Text}
use Rattle.lsm_language.specs.Requests.{wants_script}
use Rattle.lsm_language.specs.Scripts.{read_within}
use Rattle.lsm_language.specs.declared.subcommand.Subcommand.{Subcommand}
use Rattle.std.proofs.lemmas.Result.{err_from_is_err_and}
use Rattle.lsmctl.specs.Runs.{IsAsked, IsRead}
use Rattle.lsmctl.proofs.RunLaws.{answered_so, keeps, untried-request, untried-script, untried-words}
use Rattle.lsmctl.proofs.program.answer.Goals as goal

pub returns-in_err-asked : goal.returns-in_err-asked
returns-in_err-asked g c =
    let p = err_from_is_err_and c.from_residual.result c.from_residual.ensures.1 in
    rw (p.1, p.2) (inl (untried-words _ _ _ c.in_err-asked.ensures.faults, keeps _ _ refl))

pub returns-in_err-text : goal.returns-in_err-text
returns-in_err-text g c =
    let p = err_from_is_err_and c.from_residual-in_err-text.result c.from_residual-in_err-text.ensures.1 in
    rw (p.1, p.2) (inl (untried-script _ _ c.in_ok-asked.asked _ c.in_ok-asked.ensures.asked c.in_err-text.ensures.fails, keeps _ _ refl))

pub returns-in_err-request : goal.returns-in_err-request
returns-in_err-request g c =
    let words = map g.S.AsStr.text c.args.words.now in
    let input = g.I.Read.remaining c.args.input.now in
    let read : IsRead words input c.in_ok-asked.asked c.deref.result.now = record { words_ask = search rules; whole = search rules } in
    let p = err_from_is_err_and c.from_residual-in_err-request.result c.from_residual-in_err-request.ensures.1 in
    rw (p.1, p.2) (inl (untried-request words input _ _ _ read c.in_err-request.ensures, keeps _ _ refl))

-- what was read, as a slice
read_so : (words : List Text) (input : Option (List ℕ)) (asked : Subcommand) (text seen : List ℕ) → IsAsked words asked
    → (IsTrue (wants_script asked) → IfSome input (λ all. text ≡ read_within 300001 all)) → seen ≡ text → IsRead words input asked seen
read_so words input asked text seen words_ask whole is = record {
  words_ask = words_ask;
  whole = subst (λ (t : List ℕ). IsTrue (wants_script asked) → IfSome input (λ all. t ≡ read_within 300001 all)) (sym is) whole;
}

pub returns : goal.returns
returns g c =
    let words = map g.S.AsStr.text c.args.words.now in
    let input = g.I.Read.remaining c.args.input.now in
    let read : IsRead words input c.in_ok-asked.asked c.deref.result.now =
    read_so words input c.in_ok-asked.asked c.in_ok-text.text.items c.deref.result.now c.in_ok-asked.ensures.asked c.in_ok-text.ensures.whole c.deref.ensures.value in
    answered_so words input _ _ _ c.in_ok-asked.asked c.deref.result.now c.in_ok-request.request c.answer_request.result read c.in_ok-request.ensures.0 c.in_ok-request.ensures.1
    (λ none. ap g.I.Read.remaining (c.in_ok-text.ensures.untouched none)) c.answer_request.ensures.comes c.answer_request.ensures.faults
