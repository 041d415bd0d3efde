use Rattle.std.proofs.Common.{◌≡◌, Option, IfSome, length, refl, subst, arith}
use Rattle.scen_defs.specs.Program.{content}
use Rattle.scen_defs.proofs.Contents.{nodes_length}
use Rattle.pass_core.specs.declared.state.State.{State}
use Rattle.pass_core.specs.Beginning.{IsBeginning}
use Rattle.pass_core.specs.Counting.{no_commits}
use Rattle.pass_core.specs.Tabled.{IsTabled}
use Rattle.nested_method.proofs.EditLemmas.{no_tree}
use Rattle.nested_method.proofs.StandLemmas.{treeless_leaves_open, begins_on, none_counted}
use Rattle.node_data.specs.Counts.{untouched, version_of}
use Rattle.pass_core.specs.Made.{CutsAreMade}
use Rattle.nested_method.proofs.Histories.{history_begins}
use Rattle.nested_method.proofs.method.Method.begin.Goals as goal

pub returns-in-Err-clause-stands : goal.returns-in-Err-clause-stands
returns-in-Err-clause-stands c = (
  refl,
  treeless_leaves_open (content c.args.program.now) c.args.budget c.in_ok-treeless-in-Err.field-0
      (no_tree (content c.args.program.now) c.in-Err.fault c.in_ok-treeless-in-Err.field-0 c.in-Err.ensures c.in_ok-treeless-in-Err.ensures),
)

pub returns-in-Err-clause-begins : goal.returns-in-Err-clause-begins
returns-in-Err-clause-begins c = λ few. (
  refl,
  no_tree (content c.args.program.now) c.in-Err.fault c.in_ok-treeless-in-Err.field-0 c.in-Err.ensures c.in_ok-treeless-in-Err.ensures,
)

pub returns-then-len-ge-MANY-clause-begins : goal.returns-then-len-ge-MANY-clause-begins
returns-then-len-ge-MANY-clause-begins c = λ few. absurd (omega (arith, few, c.if-len-ge-MANY.true, c.len.ensures, nodes_length c.args.program.now.nodes.items))

pub returns-in-Some-clause-stands : goal.returns-in-Some-clause-stands
returns-in-Some-clause-stands c =
    let p = content c.args.program.now in
    let beginning : IsBeginning p c.args.budget c.in-Some.state =
    subst (λ (o : Option State). IfSome o (IsBeginning p c.args.budget)) c.in-Some.is c.in_ok-state.ensures.beginning in
    let counts : c.in-Some.state.counts ≡ no_commits =
    (subst (λ (o : Option State). IfSome o (λ s. (s.counts ≡ no_commits) × (length s.table.flights.items ≡ 1024))) c.in-Some.is
    c.in_ok-state.ensures.counts).0 in
    begins_on p c.args.budget (record { state = c.in-Some.state; tree = c.in-Ok.tree }) beginning c.in-Ok.ensures
    (λ i few. subst (λ (o : Option State). IfSome o (IsTabled p)) c.in-Some.is c.in_ok-state.ensures.tabled)
    (λ i few. none_counted c.in-Some.state counts)

pub returns-in-Some-clause-made : goal.returns-in-Some-clause-made
returns-in-Some-clause-made c = λ rest h.
    history_begins (content c.args.program.now) rest c.in-Some.state h
    (λ n. subst (λ (o : Option State). IfSome o (λ s. version_of s.versions n ≡ untouched)) c.in-Some.is (c.in_ok-state.ensures.untouched n))
    (λ b. subst (λ (o : Option State). IfSome o (CutsAreMade b)) c.in-Some.is (c.in_ok-state.ensures.made b))

pub returns-in-Some-clause-begins : goal.returns-in-Some-clause-begins
returns-in-Some-clause-begins c = λ few.
    let p = content c.args.program.now in (
      c.in-Ok.ensures,
      subst (λ (o : Option State). IfSome o (IsBeginning p c.args.budget)) c.in-Some.is c.in_ok-state.ensures.beginning,
      (subst (λ (o : Option State). IfSome o (λ s. (s.counts ≡ no_commits) × (length s.table.flights.items ≡ 1024))) c.in-Some.is
          c.in_ok-state.ensures.counts).0,
    )
