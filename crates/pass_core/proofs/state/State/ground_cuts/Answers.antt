use Rattle.std.proofs.Common.{◌≡◌, ◌+◌, ◌-◌, ℕ, List, Option, Some, None, Err, IfSome, length, sym, ap, subst, ◌∙◌, arith}
use Rattle.std.proofs.lemmas.List.{length-replicate}
use Rattle.scen_defs.specs.Lists.{Each}
use Rattle.scen_defs.specs.Program.{content}
use Rattle.scen_defs.specs.Valid.{Lives}
use Rattle.cut_defs.specs.Stored.{Stored, IsMadeFor}
use Rattle.cut_proof.specs.Answers.{Makes}
use Rattle.pass_core.specs.Made.{run_book, HasGrounds, IsGroundOf}
use Rattle.pass_core.specs.Turns.{IsFirstCut, AreFirstFrom, first_walk}
use Rattle.pass_core.proofs.Making.{none_made, none_ground, ground_past, ground_put, each_set, places_of_nodes, set_long}
use Rattle.pass_core.proofs.FirstCuts.{none_first, first_past, first_put, first_ends, first_fails, all_first}
use Rattle.pass_core.proofs.state.State.ground_cuts.Goals as goal

pub loop-node-init : goal.loop-node-init
loop-node-init c = record {
  long = ap (λ (xs : List (Option Stored)). length xs) c.in_ok-cuts.ensures ∙ length-replicate c.nodes-nodes.result None;
  made = λ b priced walk frame right. (
    none_ground (content c.args.program.now) (run_book c.args.kind b) c.nodes-nodes.result c.in_ok-cuts.cuts.items
        (places_of_nodes (content c.args.program.now) c.args.self.now.frame c.nodes-nodes.result c.args.program.now.keeps frame c.nodes-nodes.ensures),
    subst (Each (λ (place : Option Stored). IfSome place (IsMadeFor (run_book c.args.kind b)))) (sym c.in_ok-cuts.ensures) (none_made (run_book c.args.kind b) c.nodes-nodes.result),
  );
  first = λ walk frame.
      let p = content c.args.program.now in
      let i = c.args.program.now.keeps in
      none_first c.args.kind p c.args.tree.now c.args.self.now.versions c.args.dual.now c.nodes-nodes.result c.nodes-nodes.result
      c.in_ok-cuts.cuts.items (places_of_nodes p c.args.self.now.frame c.nodes-nodes.result i frame c.nodes-nodes.ensures)
      c.in_ok-cuts.ensures;
}

pub loop-node-preserved-then-not-is_live : goal.loop-node-preserved-then-not-is_live
loop-node-preserved-then-not-is_live c = record {
  long = c.loop-node.invariant.long;
  made = λ b priced walk frame right.
      let p = content c.args.program.now in
      let h = c.loop-node.invariant.made b priced walk frame right in
      let next : c.loop-node.node ≡ c.loop-node.node - 1 + 1 = omega (arith, c.loop-node-test.true) in (
        ground_past p (run_book c.args.kind b) (c.loop-node.node - 1) c.loop-node.cuts.items (sym c.is_live.ensures ∙ c.if-not-is_live.true)
            (subst (λ (k : ℕ). HasGrounds p (run_book c.args.kind b) k c.loop-node.cuts.items) next h.0),
        h.1,
      );
  first = λ walk frame.
      let p = content c.args.program.now in
      let next : c.loop-node.node ≡ c.loop-node.node - 1 + 1 = omega (arith, c.loop-node-test.true) in
      first_past c.args.kind p c.args.tree.now c.args.self.now.versions c.args.dual.now (c.loop-node.node - 1) c.loop-node.cuts.items
      (sym c.is_live.ensures ∙ c.if-not-is_live.true)
      (subst (λ (k : ℕ). AreFirstFrom c.args.kind p c.args.tree.now c.args.self.now.versions c.args.dual.now k c.loop-node.cuts.items) next
      (c.loop-node.invariant.first walk frame));
}

pub loop-node-preserved-then-node-len : goal.loop-node-preserved-then-node-len
loop-node-preserved-then-node-len c = record {
  long = set_long c.loop-node.cuts.items (c.loop-node.node - 1) (Some c.in_ok-cut.cut) c.nodes-nodes.result c.loop-node.invariant.long;
  made = λ b priced walk frame right.
      let p = content c.args.program.now in
      let h = c.loop-node.invariant.made b priced walk frame right in
      let next : c.loop-node.node ≡ c.loop-node.node - 1 + 1 = omega (arith, c.loop-node-test.true) in
      let done : HasGrounds p (run_book c.args.kind b) (c.loop-node.node - 1 + 1) c.loop-node.cuts.items =
      subst (λ (k : ℕ). HasGrounds p (run_book c.args.kind b) k c.loop-node.cuts.items) next h.0 in
      let lives : Lives p (c.loop-node.node - 1) = sym c.is_live.ensures ∙ c.if-not-is_live.false in
      let g : IsGroundOf (run_book c.args.kind b) (c.loop-node.node - 1) c.in_ok-cut.cut =
      c.in_ok-cut.ensures.ground b priced walk frame right lives
      (subst (HasGrounds p (run_book c.args.kind b) (c.loop-node.node - 1 + 1)) (sym c.deref.ensures.value) done) in (
        ground_put p (run_book c.args.kind b) (c.loop-node.node - 1) c.loop-node.cuts.items c.in_ok-cut.cut
            (omega (arith, c.loop-node.auto.node, c.loop-node.invariant.long, c.loop-node-test.true)) done g,
        each_set (λ (place : Option Stored). IfSome place (IsMadeFor (run_book c.args.kind b))) c.loop-node.cuts.items (c.loop-node.node - 1) (Some c.in_ok-cut.cut) h.1 g.made,
      );
  first = λ walk frame.
      let p = content c.args.program.now in
      let i = c.args.program.now.keeps in
      let next : c.loop-node.node ≡ c.loop-node.node - 1 + 1 = omega (arith, c.loop-node-test.true) in
      let lives : Lives p (c.loop-node.node - 1) = sym c.is_live.ensures ∙ c.if-not-is_live.false in
      let s = c.args.self.now in
      first_put c.args.kind p c.args.tree.now s.versions c.args.dual.now (c.loop-node.node - 1) c.loop-node.cuts.items c.in_ok-cut.cut i
      (omega (arith, c.loop-node.auto.node, c.loop-node.invariant.long, c.loop-node-test.true)) lives
      (subst (λ (k : ℕ). AreFirstFrom c.args.kind p c.args.tree.now s.versions c.args.dual.now k c.loop-node.cuts.items) next
      (c.loop-node.invariant.first walk frame))
      (subst (λ (cs : List (Option Stored)).
      IsFirstCut c.args.kind p c.args.tree.now s.versions c.args.dual.now cs (c.loop-node.node - 1) c.in_ok-cut.cut)
      c.deref.ensures.value (c.in_ok-cut.ensures.first walk frame lives));
}

pub loop-node-preserved-then-node-len-2 : goal.loop-node-preserved-then-node-len-2
loop-node-preserved-then-node-len-2 c = record {
  long = set_long c.loop-node.cuts.items (c.loop-node.node - 1) (Some c.in_ok-cut.cut) c.nodes-nodes.result c.loop-node.invariant.long;
  made = λ b priced walk frame right.
      let p = content c.args.program.now in
      let h = c.loop-node.invariant.made b priced walk frame right in
      let next : c.loop-node.node ≡ c.loop-node.node - 1 + 1 = omega (arith, c.loop-node-test.true) in
      let done : HasGrounds p (run_book c.args.kind b) (c.loop-node.node - 1 + 1) c.loop-node.cuts.items =
      subst (λ (k : ℕ). HasGrounds p (run_book c.args.kind b) k c.loop-node.cuts.items) next h.0 in
      let lives : Lives p (c.loop-node.node - 1) = sym c.is_live.ensures ∙ c.if-not-is_live.false in
      let g : IsGroundOf (run_book c.args.kind b) (c.loop-node.node - 1) c.in_ok-cut.cut =
      c.in_ok-cut.ensures.ground b priced walk frame right lives
      (subst (HasGrounds p (run_book c.args.kind b) (c.loop-node.node - 1 + 1)) (sym c.deref.ensures.value) done) in (
        ground_put p (run_book c.args.kind b) (c.loop-node.node - 1) c.loop-node.cuts.items c.in_ok-cut.cut
            (omega (arith, c.loop-node.auto.node, c.loop-node.invariant.long, c.loop-node-test.true)) done g,
        each_set (λ (place : Option Stored). IfSome place (IsMadeFor (run_book c.args.kind b))) c.loop-node.cuts.items (c.loop-node.node - 1) (Some c.in_ok-cut.cut) h.1 g.made,
      );
  first = λ walk frame.
      let p = content c.args.program.now in
      let i = c.args.program.now.keeps in
      let next : c.loop-node.node ≡ c.loop-node.node - 1 + 1 = omega (arith, c.loop-node-test.true) in
      let lives : Lives p (c.loop-node.node - 1) = sym c.is_live.ensures ∙ c.if-not-is_live.false in
      let s = c.args.self.now in
      first_put c.args.kind p c.args.tree.now s.versions c.args.dual.now (c.loop-node.node - 1) c.loop-node.cuts.items c.in_ok-cut.cut i
      (omega (arith, c.loop-node.auto.node, c.loop-node.invariant.long, c.loop-node-test.true)) lives
      (subst (λ (k : ℕ). AreFirstFrom c.args.kind p c.args.tree.now s.versions c.args.dual.now k c.loop-node.cuts.items) next
      (c.loop-node.invariant.first walk frame))
      (subst (λ (cs : List (Option Stored)).
      IsFirstCut c.args.kind p c.args.tree.now s.versions c.args.dual.now cs (c.loop-node.node - 1) c.in_ok-cut.cut)
      c.deref.ensures.value (c.in_ok-cut.ensures.first walk frame lives));
}

pub returns-clause-made : goal.returns-clause-made
returns-clause-made c = λ b priced walk frame right. (c.loop-node.invariant.made b priced walk frame right).1

pub returns-clause-first : goal.returns-clause-first
returns-clause-first c = λ walk frame.
    let p = content c.args.program.now in
    all_first c.args.kind p c.args.tree.now c.args.self.now.versions c.args.dual.now c.loop-node.node c.loop-node.cuts.items
    (omega (arith, c.loop-node-test.false)) (c.loop-node.invariant.first walk frame)

pub returns-in_err-cut-clause-faults : goal.returns-in_err-cut-clause-faults
returns-in_err-cut-clause-faults c = λ walk frame.
    let p = content c.args.program.now in
    let kind = c.args.kind in
    let tree = c.args.tree.now in
    let versions = c.args.self.now.versions in
    let dual = c.args.dual.now in
    let cuts = c.loop-node.cuts.items in
    let n = c.loop-node.node - 1 in
    let f = c.in_err-cut.field-0.0 in
    let next : c.loop-node.node ≡ n + 1 = omega (arith, c.loop-node-test.true) in
    let lives : Lives p n = sym c.is_live.ensures ∙ c.if-not-is_live.false in
    first_fails kind p tree versions dual f c.from_residual-in_err-cut.result c.from_residual-in_err-cut.ensures.1
    (first_ends kind p tree versions dual n cuts f lives
    (subst (λ (k : ℕ). AreFirstFrom kind p tree versions dual k cuts) next (c.loop-node.invariant.first walk frame))
    (subst (λ (cs : List (Option Stored)). Makes (first_walk kind p tree versions dual cs n) (Err f)) c.deref.ensures.value
    (c.in_err-cut.ensures.first walk frame lives)))
