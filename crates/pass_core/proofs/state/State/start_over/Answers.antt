use Rattle.std.proofs.Common.{Option, IfSome, refl, subst}
use Rattle.scen_defs.specs.Program.{content}
use Rattle.pass_core.specs.declared.state.State.{State}
use Rattle.pass_core.specs.Beginning.{IsBeginning}
use Rattle.pass_core.proofs.state.State.start_over.Goals as goal

pub returns-in-Some-clause-starts : goal.returns-in-Some-clause-starts
returns-in-Some-clause-starts c = λ few.
    let p = content c.args.program.now in
    let old = c.args.self.now in
    let b : IsBeginning p old.budget c.in-Some.state =
    subst (λ (o : Option State). IfSome o (IsBeginning p old.budget)) c.in-Some.is c.in_ok-state.ensures.beginning in
    record {
      beginning = record {
        frame = b.frame;
        budget_is = b.budget_is;
        kind = b.kind;
        pools = b.pools;
        points = b.points;
        ends = b.ends;
        versions = b.versions;
        stop = b.stop;
        lasting = b.lasting;
        is_begun = b.is_begun;
      };
      counts = refl;
    }
