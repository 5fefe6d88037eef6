-- Just the extents of tables are handed out, from an opening on.
use Rattle.lsm_store.specs.Accounted.{AccountedLaw}
use Rattle.lsm_machine.proofs.Accounts.{worked_accounts, called_accounts}
use Rattle.lsm_store.proofs.OpenedAccounts.{opened_accounts}

pub accounted_law : AccountedLaw
accounted_law = record {
  opened = opened_accounts;
  worked = worked_accounts;
  called = called_accounts;
  rotated = λ w accounts. record { each = accounts.each };
}
