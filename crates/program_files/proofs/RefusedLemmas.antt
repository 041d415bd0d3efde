-- What the faults of the three texts refuse.
use Rattle.std.proofs.Common.{◌≡◌, ◌∙◌, sym, ℕ, List, Option, Some, None, Err, inl, inr, refl}
use Rattle.refusals.specs.declared.cause.Cause.TheVariants.{ScenarioLimit, Passes}
use Rattle.refusals.specs.declared.cause.Refusal.{Refusal}
use Rattle.refusals.specs.declared.cause.ReadFail.{ReadFail}
use Rattle.refusals.specs.declared.cause.ReadFail.TheVariants as fail
use Rattle.core_defs.specs.declared.program.Core.{Core}
use Rattle.core_defs.specs.Fault.{IsReadOrRefused}
use Rattle.time_defs.specs.Means.{Stages}
use Rattle.stoch_defs.specs.Random.{Random}
use Rattle.smps_build.specs.declared.fault.BuildFault.{BuildFault}
use Rattle.smps_build.specs.declared.fault.BuildFault.TheVariants as build_fault
use Rattle.tree_build.specs.Walks.{build_over, build_walk, IsBuildFault}
use Rattle.input_files.specs.declared.kind.FileKind.TheVariants as kind
use Rattle.input_files.specs.declared.fetch.Texts.{Texts as TextsOf}
use Rattle.input_files.specs.Unfetched.{texts_view, given_bytes}
use Rattle.build_laws.specs.Law.{IsMeant}
use Rattle.program_files.proofs.TreeLemmas.{meant_of}
use Rattle.program_files.specs.Meant.{MeansCore, MeansPeriods, MeansRandom}
use Rattle.program_files.specs.Refused.{RefusesProgram, IsUnbuilt, build_file}
use Rattle.program_files.specs.Views.{GivesPeriods, GivesRandom, MeansOrRefused, unread_of, unbuilt_of}

module _ (texts : TextsOf) (core : Core) (means : MeansCore texts.core.items core) where
  by_time : (told : Option (List ℕ)) → (texts_view texts).time ≡ told → (f : ReadFail) → GivesPeriods core told (Err f) → MeansOrRefused (texts_view texts) (Err (unread_of kind.Time f (Some core)))
  by_time None e (fail.Refused refusal) h = absurd h
  by_time (Some text) e (fail.Refused refusal) h = inr (inl (record { file_is = refl; core = core; known_is = refl; core_means = means; text = text; text_is = e; fault = h }))
  by_time told e fail.Memory h = tt

  pub stops_time : (f : ReadFail) → GivesPeriods core (given_bytes texts.time) (Err f) → MeansOrRefused (texts_view texts) (Err (unread_of kind.Time f (Some core)))
  stops_time f h = by_time (given_bytes texts.time) refl f h

  module _ (p : Stages) (mean : MeansPeriods core (given_bytes texts.time) p) where
    by_stoch : (told : Option (List ℕ)) → (texts_view texts).stoch ≡ told → (f : ReadFail) → GivesRandom core p told (Err f) → MeansOrRefused (texts_view texts) (Err (unread_of kind.Stoch f (Some core)))
    by_stoch None e (fail.Refused refusal) h = absurd h
    by_stoch (Some text) e (fail.Refused refusal) h =
        inr (inr (inl (record { file_is = refl; core = core; known_is = refl; core_means = means; periods = p; periods_mean = mean; text = text; text_is = e; fault = h })))
    by_stoch told e fail.Memory h = tt

    pub stops_stoch : (f : ReadFail) → GivesRandom core p (given_bytes texts.stoch) (Err f) → MeansOrRefused (texts_view texts) (Err (unread_of kind.Stoch f (Some core)))
    stops_stoch f h = by_stoch (given_bytes texts.stoch) refl f h

    module _ (random : Random) (cases : MeansRandom core p (given_bytes texts.stoch) random) where
      refuses : (refusal : Refusal) → IsUnbuilt core p random refusal → RefusesProgram (texts_view texts) (build_file (given_bytes texts.stoch)) refusal (Some core)
      refuses refusal h = inr (inr (inr (record { file_is = refl; core = core; known_is = refl; core_means = means; periods = p; periods_mean = mean; random = random; random_means = cases; fault = h })))

      meant : IsMeant core p random
      meant = meant_of core p (given_bytes texts.stoch) random cases

      pub stops_build : (fault : BuildFault) → IsBuildFault (build_over core p random) (build_walk core p random) fault → MeansOrRefused (texts_view texts) (Err (unbuilt_of (build_file (given_bytes texts.stoch)) fault core))
      stops_build build_fault.Limit h = refuses (record { line = 0; cause = ScenarioLimit }) (inl (sym meant.over ∙ h, refl))
      stops_build (build_fault.Passed o) h = refuses (record { line = 0; cause = Passes o }) (inr (sym meant.over ∙ h.0, (o, sym meant.walk ∙ h.1, refl)))
      stops_build build_fault.Memory h = tt

pub stops_core : (texts : TextsOf) (f : ReadFail) → IsReadOrRefused {X = Core} texts.core.items (Err f) → MeansOrRefused (texts_view texts) (Err (unread_of kind.Core f None))
stops_core texts (fail.Refused refusal) h = inl (record { file_is = refl; known_is = refl; not_read = h.0; fault = h.1 })
stops_core texts fail.Memory h = tt
