use Rattle.std.proofs.Common.{◌≡◌, Some, refl, sym, ap, ◌∙◌, rules, arith}
use Rattle.scen_defs.specs.Program.{content}
use Rattle.cut_banks.specs.Banks.{pools_of}
use Rattle.cut_banks.specs.Pools.{cuts_read}
use Rattle.found_ends.specs.Lasts.{trial_of}
use Rattle.node_data.specs.Counts.{version_of}
use Rattle.pass_core.specs.Turns.{datum_in}
use Rattle.pass_core.proofs.TaskFits.{program_book, is_in}
use Rattle.pass_core.proofs.state.State.begun.Goals as goal

pub returns-clause-stated : goal.returns-clause-stated
returns-clause-stated c = λ walk frame lives.
    let p = content c.args.program.now in
    let i = c.args.program.now.keeps in
    let s = c.args.self.now in
    let v = c.of-version.result in
    let found = c.in_ok-datum.ensures.of_book (program_book s.kind p) (is_in s.kind p c.args.tree.now c.args.node v.rows v.costs i walk lives) frame in
    let same : Some c.in-Some.datum ≡ Some (datum_in s.kind p c.args.node v) = sym c.in-Some.is ∙ found in
    let here : c.in-Some.datum ≡ datum_in s.kind p c.args.node v = cc in
    let stated : c.in-Some.datum ≡ datum_in s.kind p c.args.node (version_of s.versions c.args.node) = here ∙ ap (datum_in s.kind p c.args.node) c.of-version.ensures in
    record {
      kind = refl;
      datum = first_of (search (rules, stated), cc (stated), grind (arith, stated));
      trial = c.in_ok-trial.ensures ∙ ap (trial_of s.lasts.nodes.items) c.parent.ensures;
      cuts = c.in_ok-read.ensures.cuts ∙ ap (cuts_read (pools_of s.kind s.banks)) c.children.ensures;
      pivots = refl;
    }

pub returns-in_default-clause-stated : goal.returns-in_default-clause-stated
returns-in_default-clause-stated c = λ walk frame lives.
    let p = content c.args.program.now in
    let i = c.args.program.now.keeps in
    let s = c.args.self.now in
    let v = c.of-version.result in
    let found = c.in_ok-datum.ensures.of_book (program_book s.kind p) (is_in s.kind p c.args.tree.now c.args.node v.rows v.costs i walk lives) frame in
    c.in_default.not-Some _ found
