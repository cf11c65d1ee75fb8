use Rattle.journal_prints.specs.Room.{is_path, is_burst, is_upgrade, is_close, is_send, is_reset, is_open}
use Rattle.journal_prints.proofs.Room.{short}
use native.Mathlib.Omega.{arith}
use Rattle.journal_effects.proofs.put_effect.Goals as goal

pub returns-in-Path-clause-short : goal.returns-in-Path-clause-short
returns-in-Path-clause-short c = rw c.in-Path.is (short (is_path _ _ _ _ (omega (arith, c.ranges.n)) c.in_range.ensures.0 c.in_range.ensures.1 c.in_range.ensures.2))

pub returns-in-Burst-clause-short : goal.returns-in-Burst-clause-short
returns-in-Burst-clause-short c = rw c.in-Burst.is (short (is_burst _ _ _ _ c.in_range-in-Burst.ensures.0 c.in_range-in-Burst.ensures.1 c.in_range-in-Burst.ensures.2 c.requires.1))

pub returns-in-Upgrade-clause-short : goal.returns-in-Upgrade-clause-short
returns-in-Upgrade-clause-short c = rw c.in-Upgrade.is (short (is_upgrade _ _ _ _ (omega (arith, c.ranges.n)) c.in_range-in-Upgrade.ensures.0 c.in_range-in-Upgrade.ensures.1 c.in_range-in-Upgrade.ensures.2))

pub returns-in-Close-clause-short : goal.returns-in-Close-clause-short
returns-in-Close-clause-short c = rw c.in-Close.is (short (is_close _ _ c.in_range-in-Close.ensures.0 c.in_range-in-Close.ensures.2))

pub returns-in-Send-clause-short : goal.returns-in-Send-clause-short
returns-in-Send-clause-short c = rw c.in-Send.is (short (is_send _ _ _ _ c.in_range-in-Send.ensures.0 c.in_range-in-Send.ensures.1 c.in_range-in-Send.ensures.2 c.requires.0))

pub returns-in-Reset-clause-short : goal.returns-in-Reset-clause-short
returns-in-Reset-clause-short c = rw c.in-Reset.is (short (is_reset _ _ _ c.in_range-in-Reset.ensures.0 c.in_range-in-Reset.ensures.1 c.in_range-in-Reset.ensures.2))

pub returns-in-Open-clause-short : goal.returns-in-Open-clause-short
returns-in-Open-clause-short c = rw c.in-Open.is (short (is_open _ _ _ c.in_range-in-Open.ensures.0 c.in_range-in-Open.ensures.1 c.in_range-in-Open.ensures.2))
