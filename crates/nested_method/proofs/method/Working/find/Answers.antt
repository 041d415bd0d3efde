use Rattle.std.proofs.Common.{refl, ap}
use Rattle.scen_defs.specs.declared.report.Place.TheVariants.{Cost}
use Rattle.found_ends.specs.declared.claims.Closed.{Closed}
use Rattle.scen_defs.specs.Program.{content}
use Rattle.nested_method.proofs.StandLemmas.{tells_why}
use Rattle.nested_method.proofs.method.Working.find.Goals as goal

pub returns-clause-why : goal.returns-clause-why
returns-clause-why g c = λ budget w.
    let works = c.in_ok-run.ensures.stays budget w in
    tells_why (content c.args.program.now) budget c.run.new.self _ c.commits.result works
    (c.in_ok-closed.ensures.explained (content c.args.program.now) c.run.new.self.tree works.explained) refl

pub returns-clause-solves : goal.returns-clause-solves
returns-clause-solves g c = λ budget few w. record {
  solves = c.in_ok-run.ensures.solves budget few w;
  claim = ap (λ (x : Closed). x.claim) c.in_ok-closed.ensures.claim;
  why = ap (λ (x : Closed). x.why) c.in_ok-closed.ensures.claim;
  place = ap Cost c.commits.ensures;
}

pub returns-clause-claims : goal.returns-clause-claims
returns-clause-claims g c = λ budget first edits rest came w h. record {
  before = c.run.new.self.state;
  history = c.in_ok-run.ensures.made budget first edits rest came w h;
  claim = ap (λ (x : Closed). x.claim) c.in_ok-closed.ensures.claim;
}

pub returns-clause-ends : goal.returns-clause-ends
returns-clause-ends g c = λ budget few w. c.in_ok-run.ensures.endless refl budget few w
