use Rattle.std.proofs.Common.{ℕ, List, Option, sym, ap, subst}
use Rattle.time_defs.specs.Periods.{stages}
use Rattle.smps_stoch.specs.View.{MeansOrRefused as ReadsCases}
use Rattle.input_files.specs.Unfetched.{given_bytes}
use Rattle.program_files.specs.Views.{GivesRandom}
use Rattle.program_files.proofs.CaseLemmas.{gives_cases}
use Rattle.program_files.proofs.reading.read_cases.Goals as goal

pub returns-in-Some : goal.returns-in-Some
returns-in-Some c = subst (λ (text : Option (List ℕ)). GivesRandom c.args.core.now (stages c.args.periods.now) text c.read_stoch.result) (sym (ap given_bytes c.in-Some.is))
    (gives_cases c.args.core.now (stages c.args.periods.now) c.in-Some.text.items c.read_stoch.result
    (subst (λ (text : List ℕ). ReadsCases c.args.core.now (stages c.args.periods.now) text c.read_stoch.result) c.deref.ensures.value c.read_stoch.ensures))
