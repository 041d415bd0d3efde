-- What `value` prints of measures.
use Rattle.std.proofs.Common.{◌≡◌, ℕ, true, false, not, List, inl, inr, refl}
use Rattle.scen_defs.specs.Program.{Program}
use Rattle.command_words.specs.declared.command.Budget.{Budget}
use Rattle.input_files.specs.Fetched.{Texts}
use Rattle.program_files.specs.Meant.{MeansProgram}
use Rattle.range_laws.proofs.Widths.{meant_have_widths}
use Rattle.value_measures.specs.Measured.{IsMeasured}
use Rattle.value_measures.specs.Numbers.{all_known}
use Rattle.value_measures.specs.Text.{measures_text}
use Rattle.value_measures.specs.declared.measured.Measures.{Measures}
use Rattle.exit_status.specs.declared.status.Status.{Status}
use Rattle.exit_status.specs.Findings.{open_status}
use Rattle.smps_cli.specs.Measured.{PrintsMeasures, PrintsMeasuresWithin, leaves_open}
use Rattle.smps_cli.specs.Solved.{stated_of}
use Rattle.smps_cli.specs.Within.{states_none, without_solves}
use Rattle.smps_cli.proofs.Few.{few_nodes}
use Rattle.smps_cli.proofs.OnTrees.{on_tree}

module _ (texts : Texts) (p : Program) (means : MeansProgram texts p) (m : Measures) (status : Status) (output : List ℕ)
    (text : output ≡ measures_text m) (ends : status ≡ open_status (not (all_known m.numbers))) where
  abbrev prints : (kept : Budget) → IsMeasured (record { solves = kept.solves; pivots = kept.pivots }) (stated_of kept) p m
      → PrintsMeasures kept texts status output
  prints kept measured = record {
    program = p;
    means = means;
    few = few_nodes texts p means;
    tree = on_tree texts p means;
    widths = meant_have_widths texts p means;
    measures = m;
    measured = measured;
    text = text;
    ends = ends;
  }

  pub prints_by_words : (budget : Budget) → IsMeasured (record { solves = budget.solves; pivots = budget.pivots }) (stated_of budget) p m
      → PrintsMeasuresWithin budget texts status output
  prints_by_words budget measured = record { kept = budget; prints = prints budget measured; may = inl refl }

  pub prints_by_none : (budget kept : Budget) → kept ≡ without_solves budget → states_none budget ≡ true → leaves_open m ≡ false
      → IsMeasured (record { solves = kept.solves; pivots = kept.pivots }) (stated_of kept) p m → PrintsMeasuresWithin budget texts status output
  prints_by_none budget kept is none closed measured = record { kept = kept; prints = prints kept measured; may = inr (none, is, closed) }
