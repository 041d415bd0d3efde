-- Cores with the same parts mean the same with all further files.
use Rattle.meaning_laws.specs.Law.{SameCoresMeanTheSame}
use Rattle.meaning_laws.proofs.Times.{time_same}
use Rattle.meaning_laws.proofs.Cases.{stoch_same}
use Rattle.meaning_laws.proofs.Programs.{built_same, exceeds_same}

pub same_cores_mean_the_same : SameCoresMeanTheSame
same_cores_mean_the_same = record { time = time_same; stoch = stoch_same; built_alike = built_same; within_alike = exceeds_same }
