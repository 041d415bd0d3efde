-- The periods and the cases that the texts mean keep what building requires.
use Rattle.std.proofs.Common.{◌≡◌, ◌∙◌, ap, sym, refl, subst, ℕ, zero, suc, List, [], ◌∷◌, length, get_or, replicate, arith, Option, Some, None}
use Rattle.std.proofs.lemmas.List.{length-replicate}
use Rattle.rationals.specs.Sparse.{Entry}
use Rattle.core_defs.specs.declared.program.Core.{Core}
use Rattle.scen_defs.specs.Lists.{Each}
use Rattle.smps_words.specs.Field.{IsField}
use Rattle.smps_words.proofs.NumberedNames.{numbered_snoc, none_numbered}
use Rattle.time_defs.specs.Periods.{ArePeriods}
use Rattle.time_defs.specs.Means.{Stages, IsReached, column_entries}
use Rattle.stoch_defs.specs.Random.{Random}
use Rattle.tree_build.specs.Law.{IsStaged, AreCases}
use Rattle.tree_build.proofs.Readings.{read_staged, read_periods, read_names, read_cases}
use Rattle.build_laws.specs.Law.{IsMeant}
use Rattle.build_laws.proofs.Laws.{built_is_meant}
use Rattle.program_files.specs.Meant.{single_stages, MeansPeriods, MeansRandom}

-- all columns are of the first stage
first_stage : (stage n j : ℕ) → get_or (replicate n stage) j stage ≡ stage
first_stage stage zero j = refl
first_stage stage (suc n) zero = refl
first_stage stage (suc n) (suc j) = first_stage stage n j

reached : (rows : List ℕ) (entries : List Entry) → IsReached rows 0 entries
reached rows [] = tt
reached rows (entry ∷ entries) = (omega arith, reached rows entries)

pub staged : (core : Core) (time : Option (List ℕ)) (p : Stages) → MeansPeriods core time p → IsStaged core p
staged core None p is = record {
  rows = ap (λ (q : Stages). length q.rows) is ∙ length-replicate (length core.rows.items) 0;
  columns = ap (λ (q : Stages). length q.columns) is ∙ length-replicate (length core.columns.items) 0;
  triangle = λ j below.
      subst (λ (stage : ℕ). IsReached p.rows stage (column_entries core.columns.items j))
      (sym (ap (λ (q : Stages). get_or q.columns j 0) is ∙ first_stage 0 (length core.columns.items) j)) (reached p.rows (column_entries core.columns.items j));
}
staged core (Some text) p mean = read_staged core text p mean.1

pub cases : (core : Core) (p : Stages) (stoch : Option (List ℕ)) (random : Random) → MeansRandom core p stoch random → AreCases p random
cases core p None random is = subst (AreCases p) (sym is) tt
cases core p (Some text) random mean = read_cases core p text random mean.0

-- the builder's loop makes the program that is meant
pub meant_of : (core : Core) (p : Stages) (stoch : Option (List ℕ)) (random : Random) → MeansRandom core p stoch random → IsMeant core p random
meant_of core p stoch random mean = built_is_meant core p random (cases core p stoch random mean)

-- a single period
single_named : Each IsField ((80 ∷ 49 ∷ []) ∷ [])
single_named = (record { some = omega arith; unbroken = (refl, (refl, tt)) }, tt)

single_periods : (core : Core) → ArePeriods (single_stages core)
single_periods core = record {
  some = omega arith;
  few = omega arith;
  differ = numbered_snoc [] (80 ∷ 49 ∷ []) none_numbered refl;
  rows = λ i below. let e = first_stage 0 (length core.rows.items) i in omega (arith, e);
  columns = λ j below. let e = first_stage 0 (length core.columns.items) j in omega (arith, e);
}

pub periods : (core : Core) (time : Option (List ℕ)) (p : Stages) → MeansPeriods core time p → ArePeriods p × Each IsField p.names
periods core None p is = subst (λ (q : Stages). ArePeriods q × Each IsField q.names) (sym is) (single_periods core, single_named)
periods core (Some text) p mean = (read_periods core text p mean.0, read_names core text p mean.1)
