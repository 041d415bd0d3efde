-- What `make` prints.
use Rattle.std.specs.Prelude.{◌≡◌, ℕ, false, List, ◌++◌, length, Option, Some, None, codes}
use Rattle.std.specs.Fmt.{decimal}
use Rattle.scen_defs.specs.Program.{content}
use Rattle.scen_defs.specs.declared.program.Program.{Program}
use Rattle.scen_defs.specs.declared.report.Report.{Report}
use Rattle.edit_defs.specs.Shifts.{HasWidths}
use Rattle.report_defs.specs.Seen.{seen}
use Rattle.report_defs.specs.Truth.{IsTrue, HasCounts}
use Rattle.report_text.specs.Text.{outcome_text}
use Rattle.command_words.specs.declared.command.Page.{Page}
use Rattle.command_words.specs.declared.command.Page.TheVariants.{Core, Time, Stoch}
use Rattle.command_words.specs.declared.command.Plan.{Plan}
use Rattle.workload_maker.specs.Texts.{Made, made_of}
use Rattle.input_files.specs.Fetched.{Texts}
use Rattle.program_files.specs.Meant.{MeansProgram}
use Rattle.smps_session.specs.Reasons.{told_reasons}
use Rattle.smps_session.specs.Comes.{ComesOfAll}
use Rattle.smps_session.specs.declared.whole.StatedLimits.{StatedLimits}
use Rattle.exit_status.specs.declared.status.Status.{Status}
use Rattle.exit_status.specs.declared.status.Status.TheVariants.{Done}
use Rattle.smps_cli.specs.Ends.{MayEnd, RefusesTexts}
use Rattle.exit_status.specs.Findings.{command_status}

-- the three texts of a workload
abbrev pub workload : Plan → Made
workload plan = made_of (record { stages = plan.stages; branches = plan.branches; size = plan.size }) plan.start

abbrev pub page_text : Made → Page → List ℕ
page_text made Core = made.core
page_text made Time = made.time
page_text made Stoch = made.stoch

-- as the texts of files
abbrev pub texts_of : Made → Texts
texts_of made = record {
  core = made.core;
  time = Some made.time;
  stoch = Some made.stoch;
  edits = None;
  report = None;
  basis = None;
  measures = None;
}

-- the numbers of the plan
abbrev pub plan_line : Plan → List ℕ
plan_line plan =
    codes "MAKE " ++ decimal plan.start ++ codes " " ++ decimal plan.stages ++ codes " " ++ decimal plan.branches ++ codes " "
    ++ decimal plan.size ++ codes "\n"

-- how large its program is
abbrev pub size_line : Program → Report → List ℕ
size_line program report =
    codes "NODES " ++ decimal report.nodes ++ codes " SCENARIOS " ++ decimal report.scenarios ++ codes " COLUMNS "
    ++ decimal (length program.columns.items) ++ codes " ROWS " ++ decimal (length program.rows.items) ++ codes "\n"

-- both, and the outcome of its report
abbrev pub summary_text : Plan → Program → Report → List ℕ
summary_text plan program report = plan_line plan ++ size_line program report ++ outcome_text report ++ codes "END\n"

-- so many solves are allowed for the report of a workload, and so many pivots in each
abbrev pub make_limit : ℕ
make_limit = 100000

-- no words state how many
abbrev pub none_stated : StatedLimits
none_stated = record { solves = false; pivots = false }

-- The output is the summary of the workload and of a report that is true of its program, whose rows with two finite ends have the widths of
-- their ranges, and comes of solves of its nodes, or of the whole program.
pub record PrintsSummary (plan : Plan) (status : Status) (output : List ℕ) : Type 0 where
  pub program : Program
  pub means : MeansProgram (texts_of (workload plan)) (content program)
  pub widths : HasWidths (content program)
  pub report : Report
  pub truth : IsTrue (seen program) (told_reasons program (record { solves = make_limit; pivots = make_limit })) report
  pub counts : HasCounts (seen program) report
  pub comes : ComesOfAll (record { solves = make_limit; pivots = make_limit }) none_stated program report
  pub text : output ≡ summary_text plan program report
  pub told : status ≡ command_status report.finding

-- The summary; that a workload is refused never comes of the numbers that the words may have.
abbrev pub MaySumUp : Plan → Status → List ℕ → Type 0
MaySumUp plan = MayEnd (PrintsSummary plan) (RefusesTexts (texts_of (workload plan)))

-- The text that is asked for, or else the summary.
abbrev pub MayMake : Option Page → Plan → Status → List ℕ → Type 0
MayMake None plan status output = MaySumUp plan status output
MayMake (Some page) plan status output = (output ≡ page_text (workload plan) page) × (status ≡ Done)

abbrev pub MakesPlan : Plan → Status → List ℕ → Type 0
MakesPlan plan status output = MayMake plan.page plan status output
