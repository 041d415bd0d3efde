-- What is known of an edit once its scenarios are made.
use Rattle.std.proofs.Common.{◌≡◌, ℕ, ◌+◌, ◌++◌, List, [], ◌∷◌, length, length-append, true, false, Option, Some, None, Result, Ok, Err, OnOk, sym, subst, ap, ap₂, ◌∙◌, arith}
use Rattle.std.proofs.lemmas.List.{length-map, map-append}
use Rattle.rationals.specs.Rational.{ℚ, one_ℚ, ◌-ℚ◌}
use Rattle.refusals.specs.declared.cause.Cause.TheVariants.{ScenarioLimit}
use Rattle.rationals.specs.Passes.{Operation}
use Rattle.scen_defs.specs.Program.{Node, Scenario, Program}
use Rattle.frac128.specs.declared.fault.ArithmeticFault.{ArithmeticFault}
use Rattle.frac128.specs.declared.fault.ArithmeticFault.TheVariants.{Passed, Memory}
use Rattle.frac128.specs.Faults.{FaultOf}
use Rattle.scen_tree.specs.Trees.{position_of}
use Rattle.std.proofs.Common.{map}
use Rattle.edit_defs.specs.declared.edit.Edit.{Edit}
use Rattle.edit_defs.specs.declared.edit.Edit.TheVariants.{Prob, Drop, Add}
use Rattle.edit_defs.specs.After.{after, is_known, new_scenario, others, times}
use Rattle.edit_defs.specs.Causes.{passing, refused, refused_if}
use Rattle.edit_defs.specs.declared.counts.Counts.{Counts}
use Rattle.edit_defs.specs.Limits.{counts, is_above, is_above_limits, plus}
use Rattle.edit_defs.specs.Operations.{chances_passed, ended_by, first_passed, first_passing, probability_operations}
use Rattle.edit_apply.specs.Faults.{ApplyFaultOf, fault_of_tree}
use Rattle.edit_apply.specs.Kept.{kept_from}
use Rattle.edit_apply.specs.Told.{prob_told, drop_told, add_told, marks_by, new_nodes}
use Rattle.edit_chances.specs.Scaled.{add_walk_from}
use Rattle.edit_apply.specs.Rest.{add_left, add_rest}
use Rattle.edit_apply.proofs.Marks.{marked_nodes, reached_divided}
use Rattle.edit_chances.proofs.Rescaled.{Told, told, add-comes, prob-told, drop-told}
use Rattle.edit_chances.proofs.Comes.{Comes}
use Rattle.edit_apply.proofs.Counting.{counts_append}

told_ok : (p : Program) (e : Edit) (w : Result (List Scenario) Operation) (ss : List Scenario) → Told p e w → w ≡ Ok ss → (ss ≡ (after p e).scenarios) × (chances_passed p e ≡ None)
told_ok p e (Ok ts) ss t h = let s : ts ≡ ss = cc in (sym s ∙ t.0, t.1)
told_ok p e (Err o) ss t h = absurd (cc)

told_err : (p : Program) (e : Edit) (w : Result (List Scenario) Operation) (o : Operation) → Told p e w → w ≡ Err o → chances_passed p e ≡ Some o
told_err p e (Ok ts) o t h = absurd (cc)
told_err p e (Err x) o t h = let s : x ≡ o = cc in t ∙ ap (λ (y : Operation). let a : Option Operation = Some y in a) s

pub prob_none : (p : Program) (name : List ℕ) (q : ℚ) (ss : List Scenario) → refused p (Prob name q) ≡ passing (first_passed p (Prob name q)) → prob_told p name q ≡ Ok ss → refused p (Prob name q) ≡ None
prob_none p name q ss r h = r ∙ ap passing (told_ok p (Prob name q) (prob_told p name q) ss (prob-told p name q) h).1

pub prob_ok : (p : Program) (name : List ℕ) (q : ℚ) (ss : List Scenario) → prob_told p name q ≡ Ok ss → record p { scenarios = ss } ≡ after p (Prob name q)
prob_ok p name q ss h = ap (λ (ts : List Scenario). record p { scenarios = ts }) (told_ok p (Prob name q) (prob_told p name q) ss (prob-told p name q) h).0

pub prob_err : (p : Program) (name : List ℕ) (q : ℚ) (fault : ArithmeticFault) → refused p (Prob name q) ≡ passing (first_passed p (Prob name q)) → FaultOf (prob_told p name q) fault → ApplyFaultOf (refused p (Prob name q)) (fault_of_tree fault)
prob_err p name q (Passed o) r h = r ∙ ap passing (told_err p (Prob name q) (prob_told p name q) o (prob-told p name q) h)
prob_err p name q Memory r h = tt

-- the nodes that stay are those that the other scenarios pass
drop-nodes : (p : Program) (name : List ℕ) → kept_from (marks_by (after p (Drop name)).scenarios p.nodes) 0 p.nodes ≡ (after p (Drop name)).nodes
drop-nodes p name = marked_nodes (after p (Drop name)).scenarios p.nodes ∙ reached_divided _ (others name p.scenarios) 0 p.nodes

drop-is : (p : Program) (name : List ℕ) → Told p (Drop name) (drop_told p name)
drop-is p name = drop-told p name (λ ss. map position_of (kept_from (marks_by ss p.nodes) 0 p.nodes)) (ap (map position_of) (drop-nodes p name))

pub drop_none : (p : Program) (name : List ℕ) (ss : List Scenario) → refused p (Drop name) ≡ passing (first_passed p (Drop name)) → drop_told p name ≡ Ok ss → refused p (Drop name) ≡ None
drop_none p name ss r h = r ∙ ap passing (told_ok p (Drop name) (drop_told p name) ss (drop-is p name) h).1

pub drop_ok : (p : Program) (name : List ℕ) (ss : List Scenario) → drop_told p name ≡ Ok ss → record p { nodes = kept_from (marks_by ss p.nodes) 0 p.nodes; scenarios = ss } ≡ after p (Drop name)
drop_ok p name ss h = ap (λ (ts : List Scenario). record p { nodes = kept_from (marks_by ts p.nodes) 0 p.nodes; scenarios = ts }) (told_ok p (Drop name) (drop_told p name) ss (drop-is p name) h).0
    ∙ ap (λ ns. record p { nodes = ns; scenarios = (after p (Drop name)).scenarios }) (drop-nodes p name)

pub drop_err : (p : Program) (name : List ℕ) (fault : ArithmeticFault) → refused p (Drop name) ≡ passing (first_passed p (Drop name)) → FaultOf (drop_told p name) fault → ApplyFaultOf (refused p (Drop name)) (fault_of_tree fault)
drop_err p name (Passed o) r h = r ∙ ap passing (told_err p (Drop name) (drop_told p name) o (drop-is p name) h)
drop_err p name Memory r h = tt

-- ---- ADD
told_ended : (p : Program) (e : Edit) (w : Result (List Scenario) Operation) → Told p e w → ended_by w ≡ chances_passed p e
told_ended p e (Ok ss) t = sym t.1
told_ended p e (Err o) t = sym t

-- a new scenario, and new nodes
pub record IsNew (p : Program) (name parent : List ℕ) (q : ℚ) (t : ℕ) (new : Scenario) (nodes : List (Option Node)) : Type 0 where
  pub unknown : is_known name p.scenarios ≡ false
  pub scenario : new ≡ new_scenario p name parent q t
  pub nodes_are : nodes ≡ new_nodes p parent t

add-is : (p : Program) (name parent : List ℕ) (q : ℚ) (t : ℕ) (new : Scenario) (nodes : List (Option Node)) → IsNew p name parent q t new nodes → Told p (Add name parent q t) (add_told p new nodes)
add-is p name parent q t new nodes h = told p (Add name parent q t) (add_walk_from p.scenarios new) (λ ss. map position_of p.nodes ++ map position_of nodes)
    (subst (λ (s : Scenario). Comes (add_walk_from p.scenarios new) (first_passing (probability_operations p (Add name parent q t))) (map (times (one_ℚ -ℚ q)) p.scenarios ++ s ∷ [])) h.scenario
    (add-comes p name parent q t new h.unknown (ap (λ (s : Scenario). s.name) h.scenario) (ap (λ (s : Scenario). s.probability) h.scenario)))
    (ap (λ (ns : List (Option Node)). map position_of p.nodes ++ map position_of ns) h.nodes_are ∙ sym (map-append position_of p.nodes (new_nodes p parent t)))

pub add_left_is : (p : Program) (name parent : List ℕ) (q : ℚ) (t : ℕ) (new : Scenario) (nodes : List (Option Node)) → IsNew p name parent q t new nodes → add_rest p new nodes ≡ add_left p (Add name parent q t)
add_left_is p name parent q t new nodes h =
    ap₂ (λ (n : ℕ) (c : Counts). refused_if (is_above n c) ScenarioLimit (passing (ended_by (add_told p new nodes)))) long
    (ap (λ (ns : List (Option Node)). plus (counts p.nodes) (counts ns)) h.nodes_are ∙ sym (counts_append p.nodes (new_nodes p parent t)))
    ∙ ap (λ (o : Option Operation). refused_if (is_above_limits (after p (Add name parent q t))) ScenarioLimit (passing o)) (told_ended p (Add name parent q t) (add_told p new nodes) (add-is p name parent q t new nodes h))
  where
    long : length p.scenarios + 1 ≡ length (map (times (one_ℚ -ℚ q)) p.scenarios ++ new_scenario p name parent q t ∷ [])
    long = let a : length (map (times (one_ℚ -ℚ q)) p.scenarios ++ new_scenario p name parent q t ∷ []) ≡ length (map (times (one_ℚ -ℚ q)) p.scenarios) + 1 = length-append (map (times (one_ℚ -ℚ q)) p.scenarios) (new_scenario p name parent q t ∷ []) in
        let b : length (map (times (one_ℚ -ℚ q)) p.scenarios) ≡ length p.scenarios = length-map p.scenarios (times (one_ℚ -ℚ q)) in
        omega (arith, a, b)

pub add_after : (p r : Program) (name parent : List ℕ) (q : ℚ) (t : ℕ) (new : Scenario) (nodes : List (Option Node)) → IsNew p name parent q t new nodes → add_told p new nodes ≡ Ok r.scenarios
    → r ≡ record p { nodes = p.nodes ++ nodes; scenarios = r.scenarios } → r ≡ after p (Add name parent q t)
add_after p r name parent q t new nodes h w e = e
    ∙ ap₂ (λ (ns : List (Option Node)) (ss : List Scenario). record p { nodes = p.nodes ++ ns; scenarios = ss }) h.nodes_are
    (told_ok p (Add name parent q t) (add_told p new nodes) r.scenarios (add-is p name parent q t new nodes h) w).0

pub ok_both : {A E : Type 0} {P Q R : Type 0} (r : Result A E) → OnOk r P → OnOk r Q → (P → Q → R) → OnOk r R
ok_both (Ok x) p q f = f p q
ok_both (Err x) p q f = tt

-- what an error of the tree says where the limits are kept
pub rest_err : (p : Program) (new : Scenario) (nodes : List (Option Node)) (fault : ArithmeticFault) → is_above (length p.scenarios + 1) (plus (counts p.nodes) (counts nodes)) ≡ false → FaultOf (add_told p new nodes) fault → ApplyFaultOf (add_rest p new nodes) (fault_of_tree fault)
rest_err p new nodes (Passed o) a h = ap₂ (λ b (w : Result (List Scenario) Operation). refused_if b ScenarioLimit (passing (ended_by w))) a h
rest_err p new nodes Memory a h = tt

pub rest_none : (p : Program) (new : Scenario) (nodes : List (Option Node)) (ss : List Scenario) → is_above (length p.scenarios + 1) (plus (counts p.nodes) (counts nodes)) ≡ false → add_told p new nodes ≡ Ok ss → add_rest p new nodes ≡ None
rest_none p new nodes ss a h = ap₂ (λ b (w : Result (List Scenario) Operation). refused_if b ScenarioLimit (passing (ended_by w))) a h

pub rest_limit : (p : Program) (new : Scenario) (nodes : List (Option Node)) → is_above (length p.scenarios + 1) (plus (counts p.nodes) (counts nodes)) ≡ true → add_rest p new nodes ≡ Some ScenarioLimit
rest_limit p new nodes a = ap (λ b. refused_if b ScenarioLimit (passing (ended_by (add_told p new nodes)))) a
