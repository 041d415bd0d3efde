use Rattle.std.proofs.Common.{Err, ◌∙◌, sym, subst}
use Rattle.input_files.specs.declared.kind.FileKind.{FileKind}
use Rattle.input_files.specs.Unfetched.{texts_view, given_bytes}
use Rattle.program_files.specs.declared.reading.Unread.{Unread}
use Rattle.program_files.specs.Views.{MeansOrRefused, unbuilt_of}
use Rattle.time_defs.specs.Periods.{stages}
use Rattle.stoch_defs.specs.Random.{stoch_content}
use Rattle.program_files.proofs.RefusedLemmas.{stops_build}
use Rattle.program_files.proofs.TreeLemmas.{meant_of, staged, periods, cases}
use Rattle.build_laws.specs.Law.{IsMeant}
use Rattle.program_files.proofs.reading.with_cases.Goals as goal

pub returns-in-Err : goal.returns-in-Err
returns-in-Err c = subst (λ (u : Unread). MeansOrRefused (texts_view c.args.texts.now) (Err u)) (sym c.unbuilt.ensures)
    (subst (λ (file : FileKind). MeansOrRefused (texts_view c.args.texts.now) (Err (unbuilt_of file c.in-Err.fault c.args.core))) (sym c.build_file.ensures)
    (stops_build c.args.texts.now c.args.core c.requires.core (stages c.args.periods.now) c.requires.periods (stoch_content c.args.stoch.now) c.requires.cases c.in-Err.fault c.in-Err.ensures))

pub returns-in-Ok : goal.returns-in-Ok
returns-in-Ok c =
    let meant : IsMeant c.args.core (stages c.args.periods.now) (stoch_content c.args.stoch.now) =
    meant_of c.args.core (stages c.args.periods.now) (given_bytes c.args.texts.now.stoch) (stoch_content c.args.stoch.now) c.requires.cases in
    record {
      core = c.args.core;
      core_means = c.requires.core;
      periods = stages c.args.periods.now;
      periods_mean = c.requires.periods;
      random = stoch_content c.args.stoch.now;
      random_means = c.requires.cases;
      within = sym meant.over ∙ c.in-Ok.ensures.0;
      built_is = sym meant.walk ∙ c.in-Ok.ensures.1;
    }

pub build-requires-clause-staged : goal.build-requires-clause-staged
build-requires-clause-staged c = staged c.args.core (given_bytes c.args.texts.now.time) (stages c.args.periods.now) c.requires.periods

pub build-requires-clause-periods : goal.build-requires-clause-periods
build-requires-clause-periods c = (periods c.args.core (given_bytes c.args.texts.now.time) (stages c.args.periods.now) c.requires.periods).0

pub build-requires-clause-names : goal.build-requires-clause-names
build-requires-clause-names c = (periods c.args.core (given_bytes c.args.texts.now.time) (stages c.args.periods.now) c.requires.periods).1

pub build-requires-clause-cases : goal.build-requires-clause-cases
build-requires-clause-cases c = cases c.args.core (stages c.args.periods.now) (given_bytes c.args.texts.now.stoch) (stoch_content c.args.stoch.now) c.requires.cases
