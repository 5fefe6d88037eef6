-- What comes after what was heard.
use Rattle.std.proofs.Common.{◌≡◌, ℕ, List, [], ◌∷◌, ◌++◌, ap, sym, ◌∙◌, append_assoc, refl, subst}
use mathlib.Core.List.{IsPrefix}
use Rattle.lsm_machine.specs.Calls.{Call}
use Rattle.lsm_lives.specs.Asked.{Told}
use Rattle.lsm_trail.specs.History.{Event, called}
use Rattle.lsm_trail.specs.Knowledge.{Known, Sees}
use Rattle.lsm_shared.specs.Clients.{MakesCall}
use Rattle.example_shared.specs.Behind.{ComesBehind, StandsBehind}

pub comes_behind : (told : List Event) (old heard new : Known) (call : Call) (answer : Told) → Sees old heard → IsPrefix told heard.seen → MakesCall heard call answer new
    → ComesBehind told old.number call answer new.seen
comes_behind told old heard new call answer sees p made = record {
  between = p.0 ++ made.others;
  reply = made.reply;
  replied = made.told;
  machine = made.machine;
  are = made.adds.seen ∙ (ap (λ l. l ++ called heard.number call made.reply made.machine ∷ []) (ap (λ l. l ++ made.others) (sym p.1) ∙ append_assoc told p.0 made.others)
      ∙ ap (λ (n : ℕ). (told ++ (p.0 ++ made.others)) ++ called n call made.reply made.machine ∷ []) sees.number);
}

pub stands_behind : (one : Known) (first : Call) (answer : Told) (new : Known) (told : List Event) (two : ℕ) (second : Call) (also : Told) (log : List Event) → MakesCall one first answer new → told ≡ new.seen → ComesBehind told two second also log
    → StandsBehind one.number first answer two second also log
stands_behind one first answer new told two second also log made is behind = record {
  told = told;
  before = record {
    between = one.seen ++ made.others;
    reply = made.reply;
    replied = made.told;
    machine = made.machine;
    are = is ∙ made.adds.seen;
  };
  behind = behind;
}
