-- A sum that is near 1 isn't 0.
use Rattle.std.proofs.Common.{◌∙◌, sym}
use Rattle.smps_stoch.proofs.FinishLemmas.{near_is_some}
use Rattle.smps_stoch.proofs.finish.shared.Goals as goal

pub divided-requires : goal.divided-requires
divided-requires c = near_is_some c.in_ok-total.total (sym c.is_near.ensures ∙ c.if-not-is_near.false)
