use Rattle.checks.proofs.Verdicts.{cursor_listed}
use Rattle.checks.proofs.check_cursor.Goals as goal

pub returns : goal.returns
returns c = cursor_listed _ _ _ _ _ c.check_listed.ensures c.used_numbers-used.ensures.0 c.requires
