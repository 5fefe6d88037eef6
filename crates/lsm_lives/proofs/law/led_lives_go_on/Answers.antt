use Rattle.lsm_lives.proofs.Lifetimes.{lives_led}
use Rattle.lsm_lives.proofs.Lived.{life_led}
use Rattle.lsm_lives.proofs.law.led_lives_go_on.Goals as goal

pub returns-clause-life : goal.returns-clause-life
returns-clause-life c = λ life before replies after leads log_sectors opened others holds. life_led log_sectors opened others life before replies after leads holds

pub returns-clause-lives : goal.returns-clause-lives
returns-clause-lives c = lives_led
