-- How the method keeps its way through a script.
use Rattle.std.proofs.Common.{◌≡◌, ◌≤◌, ℕ, ◌+◌, ◌^◌, [], ◌∷◌, length, Result, Ok, Err, OnOk, sym, ap, subst, ◌∙◌, arith}
use Rattle.scen_defs.specs.Program.{Program, content}
use Rattle.scen_defs.specs.Valid.{IsProgram}
use Rattle.scen_defs.specs.declared.program.Program.{Program as ProgramOf}
use Rattle.scen_defs.specs.declared.report.Report.{Report}
use Rattle.edit_defs.specs.declared.edit.Edit.{Edit}
use Rattle.edit_defs.specs.After.{after}
use Rattle.edit_defs.specs.Shifts.{HasWidths}
use Rattle.edit_defs.proofs.Books.{grows}
use Rattle.edit_defs.proofs.Causes.{edits_without_cause_apply}
use Rattle.edit_defs.proofs.Shifts.{widths_stay}
use Rattle.edit_script.specs.Allowed.{IsAllowed}
use Rattle.pass_core.specs.declared.budget.Budget.{Budget}
use Rattle.nested_method.specs.declared.method.Method.{Method}
use Rattle.nested_method.specs.declared.method.Method.TheVariants.{Working as AtWork, Idle}
use Rattle.nested_method.specs.declared.method.Working.{Working}
use Rattle.nested_method.specs.Stands.{HasFewNodes, WorksOn, StandsOn, Begins, WorksBySolves, GoesOn, after_telling}
use Rattle.progress_laws.specs.Ways.{AreFew}
use Rattle.progress_laws.proofs.Ways.{ways_begin, solves_keep_way, reports_keep_way, edits_keep_way}
use Rattle.smps_session.specs.Comes.{ShowsFound, IsUnderWay}

-- of fewer items there are few
fewer_items : (budget : Budget) (came : ℕ) → AreFew budget (came + 1) → AreFew budget came
fewer_items budget came few = record { items = let h = few.items in omega (arith, h); solves = few.solves }

-- behind too many items nothing is asked
pub many_items : (budget : Budget) (start p : Program) (method : Method) → IsUnderWay budget start (2 ^ 20) p method
many_items budget start p method = λ few widths items. let h = items.items in absurd (omega (arith, h))

-- no more solves are counted since the report before than are allowed
pub counted_within : (budget : Budget) (p : Program) (w : Working) → IsProgram p → HasFewNodes p → WorksOn p budget w
    → w.state.counts.since_report ≤ budget.solves
counted_within budget p w i few works =
    let within = (works.counted i few).report in
    omega (arith, within, ap (λ (b : Budget). b.solves) works.budget_is)

-- ---- a method that begins is on its way, however many items came before
pub begins_way : (budget : Budget) (came : ℕ) (p : Program) (method : Method) → IsProgram p → (HasFewNodes p → Begins p budget method)
    → IsUnderWay budget p came p method
begins_way budget came p method i begins = λ few widths items. ways_begin budget came p method i few widths (begins few)

-- ---- and stays on it behind a report
pub way_told : (budget : Budget) (start : Program) (came : ℕ) (program : ProgramOf) (old mid new : Method) (report : Report)
    → StandsOn (content program) budget mid → ShowsFound budget start came program old mid report
    → new ≡ after_telling mid → IsUnderWay budget start came (content program) old
    → IsUnderWay budget start (came + 1) (content program) new
way_told budget start came program (Idle why own) mid new report stands shows e way =
    subst (IsUnderWay budget start (came + 1) (content program)) (sym (e ∙ ap after_telling shows))
    (λ few widths items. way few widths (fewer_items budget came items))
way_told budget start came program (AtWork old) (Idle why own) new report stands shows e way = absurd shows
way_told budget start came program (AtWork old) (AtWork mid) new report stands shows e way =
    let p = content program in
    subst (IsUnderWay budget start (came + 1) p) (sym e) (λ few widths items.
    let before = fewer_items budget came items in
    reports_keep_way budget came p mid.state before
    (solves_keep_way budget came p old.state mid.state shows.solves (way few widths before)) (counted_within budget p mid program.keeps few stands))

-- ---- and behind an edit
few_before : (p : Program) (e : Edit) → HasFewNodes (after p e) → HasFewNodes p
few_before p e few = let g : length p.nodes ≤ length (after p e).nodes = grows p e in omega (arith, g, few)

widths_behind : (p : Program) (e : Edit) → IsProgram p → IsAllowed p e → HasWidths p → HasWidths (after p e)
widths_behind p e i allowed h = widths_stay p (e ∷ []) 1 i (edits_without_cause_apply p e allowed.places allowed.asks allowed.no_cause, tt) h

way_edited : (budget : Budget) (start : Program) (came : ℕ) (p : Program) (e : Edit) (old worked new : Method) → IsProgram p → IsAllowed p e
    → IsProgram (after p e) → StandsOn p budget old → StandsOn p budget worked → StandsOn (after p e) budget new
    → (HasFewNodes p → WorksBySolves p old worked) → GoesOn p e worked new
    → IsUnderWay budget start came p old → IsUnderWay budget start (came + 1) (after p e) new
way_edited budget start came p e (AtWork old) (AtWork worked) (AtWork new) i allowed j here works works' solves goes way =
    λ few widths items.
    let before = fewer_items budget came items in
    edits_keep_way budget came p e worked new before allowed few works works' goes
    (solves_keep_way budget came p old.state worked.state (solves (few_before p e few)).solves (way (few_before p e few) widths before))
way_edited budget start came p e (AtWork old) (AtWork worked) (Idle why own) i allowed j here works works' solves goes way =
    λ few widths items.
    widths_behind p e i allowed (way (few_before p e few) widths (fewer_items budget came items)).widths
way_edited budget start came p e (AtWork old) (Idle why own) new i allowed j here works works' solves goes way =
    λ few widths items. absurd (solves (few_before p e few))
way_edited budget start came p e (Idle why own) worked new i allowed j here works works' solves goes way =
    λ few widths items.
    let goes_on : GoesOn p e (Idle why own) new = subst (λ (m : Method). GoesOn p e m new) (solves (few_before p e few)) goes in
    ways_begin budget (came + 1) (after p e) new j few
    (widths_behind p e i allowed (way (few_before p e few) widths (fewer_items budget came items)))
    (subst (λ (b : Budget). Begins (after p e) b new) here.0 (goes_on.1 few))

pub changed_way : {A E : Type 0} (result : Result A E) (budget : Budget) (start : Program) (came : ℕ) (p q : Program) (e : Edit)
    (old worked new : Method) → IsProgram p → IsAllowed p e → IsProgram q → StandsOn p budget old → StandsOn p budget worked
    → OnOk result (StandsOn q budget new) → (HasFewNodes p → WorksBySolves p old worked)
    → OnOk result (q ≡ after p e) → OnOk result (GoesOn p e worked new) → IsUnderWay budget start came p old
    → OnOk result (IsUnderWay budget start (came + 1) q new)
changed_way (Ok x) budget start came p q e old worked new i allowed j here works works' solves a goes way =
    subst (λ (r : Program). IsUnderWay budget start (came + 1) r new) (sym a)
    (way_edited budget start came p e old worked new i allowed (subst IsProgram a j) here works
    (subst (λ (r : Program). StandsOn r budget new) a works') solves goes way)
changed_way (Err x) budget start came p q e old worked new i allowed j here works works' solves a goes way = tt
