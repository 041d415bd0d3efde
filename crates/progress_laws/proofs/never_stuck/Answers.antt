use Rattle.progress_laws.proofs.NeverStuck.{never_stuck}
use Rattle.progress_laws.proofs.Openings.{openings_are_made}
use Rattle.progress_laws.proofs.SolvesUsed.{solves_are_used}
use Rattle.progress_laws.proofs.never_stuck.Goals as goal

pub returns : goal.returns
returns c = never_stuck solves_are_used openings_are_made
