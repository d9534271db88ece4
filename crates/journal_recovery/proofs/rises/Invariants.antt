-- `journal_recovery::rises` meets its contract. The loop's invariant: the keys rise exactly if those that are left rise above the last one passed.
-- Assumes nothing.
use Rattle.std.proofs.Common.{◌≡◌, drop}
use Rattle.journal_store.specs.CallContracts.{rising_keys}
use Rattle.journal_recovery.proofs.rises.Given as goal

abbrev pub invariant-loop-key : goal.invariant-loop-key
invariant-loop-key l = rising_keys l.before (drop l.key-index l.keys) ≡ rising_keys 0 l.keys
