use Rattle.std.proofs.Common.{ℕ, List, replicate, ap, refl, ◌∙◌}
use Rattle.scen_defs.specs.Program.{content}
use Rattle.node_data.specs.Frames.{Frame}
use Rattle.cut_banks.specs.Banks.{empty_banks}
use Rattle.pass_core.proofs.Beginning.{all_nodes}
use Rattle.pass_core.proofs.Parentage.{are_parents, made_one, started}
use Rattle.scen_defs.specs.declared.report.Kind.TheVariants.{Feasible}
use Rattle.node_data.specs.declared.versions.Version.{Version}
use Rattle.node_data.specs.Counts.{untouched, version_of}
use Rattle.pass_core.proofs.MadeAfterEdits.{all_made_at_start, never_touched}
use Rattle.pass_core.proofs.state.State.start.Goals as goal

pub returns-clause-tabled : goal.returns-clause-tabled
returns-clause-tabled c =
    let i = c.args.program.now.keeps in
    started (content c.args.program.now) _ c.in_ok-frame.frame c.parents.result.now c.nodes.result c.in_ok-table.field-0 i refl
    c.in_ok-frame.ensures c.parents.ensures c.in-Some.is c.in_ok-table.ensures.fits c.in_ok-banks.ensures.banks c.nodes.ensures

pub returns-clause-beginning : goal.returns-clause-beginning
returns-clause-beginning c =
    let small = c.args.program.now.keeps.small in
    let p = content c.args.program.now in
    let n = all_nodes p c.in_ok-frame.frame c.nodes.result small c.in_ok-frame.ensures c.nodes.ensures in
    record {
      frame = c.in_ok-frame.ensures;
      budget_is = refl;
      kind = refl;
      pools = c.in_ok-banks.ensures.banks ∙ ap empty_banks n;
      points = c.in_ok-banks.ensures.points;
      ends = c.none.ensures;
      versions = c.in_ok-banks.ensures.versions ∙ ap (λ (k : ℕ). replicate k untouched) n;
      stop = refl;
      lasting = refl;
      is_begun = refl;
    }

pub returns-in_default-clause-some : goal.returns-in_default-clause-some
returns-in_default-clause-some c = λ workers few.
    let i = c.args.program.now.keeps in
    made_one c.in_ok-table.field-0 c.parents.result.now _ (c.in_ok-table.ensures.some workers)
    (c.parents.ensures ∙ ap (λ (f : Frame). f.parents) c.in_ok-frame.ensures) c.in_default.is (are_parents (content c.args.program.now) i few)

pub returns-clause-made : goal.returns-clause-made
returns-clause-made c = λ b. all_made_at_start b Feasible _ _ c.nodes.result c.in_ok-banks.ensures.banks c.none.ensures

pub returns-clause-untouched : goal.returns-clause-untouched
returns-clause-untouched c = λ n. ap (λ (vs : List Version). version_of vs n) c.in_ok-banks.ensures.versions ∙ never_touched c.nodes.result n
