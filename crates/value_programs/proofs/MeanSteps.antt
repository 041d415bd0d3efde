-- Walks over nodes, a node at a time.
use Rattle.std.proofs.Common.{◌≡◌, ℕ, suc, ◌+◌, ◌-◌, ◌<◌, ◌≤◌, eqb, true, false, List, [], ◌∷◌, ◌++◌, length, get_or, drop, drop-cons, drop_of_length-le, Option, Some, Result, Ok, Err, IsErrAnd, MatchResult}
use Rattle.std.proofs.Common.{sym, ap, subst, ◌∙◌, arith, append_assoc, append-nil}
use Rattle.rationals.specs.Rational.{ℚ}
use Rattle.rationals.specs.Choices.{pick}
use Rattle.rationals.specs.Passes.{Operation, then_walk, then_value}
use Rattle.frac128.specs.declared.fault.ArithmeticFault.{ArithmeticFault}
use Rattle.frac128.specs.declared.fault.ArithmeticFault.TheVariants.{Passed, Memory}
use Rattle.frac128.specs.Faults.{FaultOf}
use Rattle.rationals.specs.Sparse.{Entry}
use Rattle.scen_defs.specs.declared.program.Row.{Row}
use Rattle.scen_defs.specs.declared.program.NodeRow.{NodeRow}
use Rattle.scen_defs.specs.Program.{Node, Program, node_at}
use Rattle.scen_defs.proofs.NodeReads.{drop_read}
use Rattle.value_programs.specs.Line.{stage_before}
use Rattle.value_programs.specs.declared.parts.NodeForm.TheVariants.{Cost}
use Rattle.value_programs.specs.Mean.{node_form, mean_form, mean_node, mean_nodes, mean_row, mean_rows, node_by_node, nodes_of_stage}

-- what an error says of the first part of a walk it says of the walk
pub fault_then : {X Y : Type 0} (first : Result X Operation) (next : X → Result Y Operation) (fault : ArithmeticFault) → FaultOf first fault → FaultOf (then_walk first next) fault
fault_then first next (Passed p) h = ap (λ r. then_walk r next) h
fault_then first next Memory h = tt

-- a call hands on what an error says of a walk
pub handed : {X Y : Type 0} (result : Result X ArithmeticFault) (walk : Result Y Operation) (fault : ArithmeticFault) (Q : X → Type 0) → IsErrAnd result (λ e. e ≡ fault) → FaultOf walk fault → MatchResult result Q (FaultOf walk)
handed (Ok x) walk fault Q is f = absurd is
handed (Err e) walk fault Q is f = subst (FaultOf walk) (sym is) f

pub fault_value : {X Y : Type 0} (walk : Result X Operation) (f : X → Y) (fault : ArithmeticFault) → FaultOf walk fault → FaultOf (then_value f walk) fault
fault_value walk f (Passed p) h = ap (then_value f) h
fault_value walk f Memory h = tt

module _ {X : Type 0} (step : X → ℕ → Result X Operation) (ns : List ℕ) (whole : Result X Operation) where
  more : (x : X) (k : ℕ) → k < length ns → node_by_node step x (drop k ns) ≡ then_walk (step x (get_or ns k 0)) (λ y. node_by_node step y (drop (k + 1) ns))
  more x k h =
      let one : suc k ≡ k + 1 = omega arith in
      ap (node_by_node step x) (drop-cons ns k 0 h) ∙ ap (λ m. then_walk (step x (get_or ns k 0)) (λ y. node_by_node step y (drop m ns))) one

  pub step_more : (x y : X) (k : ℕ) → k < length ns → node_by_node step x (drop k ns) ≡ whole → step x (get_or ns k 0) ≡ Ok y → node_by_node step y (drop (k + 1) ns) ≡ whole
  step_more x y k h so e = sym (ap (λ r. then_walk r (λ z. node_by_node step z (drop (k + 1) ns))) e) ∙ sym (more x k h) ∙ so

  pub step_stops : (x : X) (k : ℕ) (p : Operation) → k < length ns → node_by_node step x (drop k ns) ≡ whole → step x (get_or ns k 0) ≡ Err p → Err p ≡ whole
  step_stops x k p h so e = sym (ap (λ r. then_walk r (λ z. node_by_node step z (drop (k + 1) ns))) e) ∙ sym (more x k h) ∙ so

  pub step_fails : (x : X) (k : ℕ) (fault : ArithmeticFault) → k < length ns → node_by_node step x (drop k ns) ≡ whole → FaultOf (step x (get_or ns k 0)) fault → FaultOf whole fault
  step_fails x k fault h so e = subst (λ w. FaultOf w fault) (sym (more x k h) ∙ so) (fault_then (step x (get_or ns k 0)) (λ y. node_by_node step y (drop (k + 1) ns)) fault e)

  pub steps_end : (x : X) (k : ℕ) → length ns ≤ k → node_by_node step x (drop k ns) ≡ whole → Ok x ≡ whole
  steps_end x k h so = sym (ap (node_by_node step x) (drop_of_length-le ns h)) ∙ so

-- a value in front of a walk's list
value_then : {A : Type 0} (all : List A) (x : A) (rest whole : Result (List A) Operation) → then_value (λ l. all ++ l) (then_value (λ l. x ∷ l) rest) ≡ whole → then_value (λ l. (all ++ x ∷ []) ++ l) rest ≡ whole
value_then all x (Ok l) whole h = ap Ok (append_assoc all (x ∷ []) l) ∙ h
value_then all x (Err p) whole h = h

nothing_more : {A : Type 0} (all : List A) (whole : Result (List A) Operation) → then_value (λ l. all ++ l) (Ok []) ≡ whole → whole ≡ Ok all
nothing_more all whole h = sym h ∙ ap Ok (append-nil all)

-- ---- rows of a stage
module _ (nodes : List (Option Node)) (w : ℕ → ℚ) (over : List ℕ) (s : ℕ) (rows : List Row) (whole : Result (List NodeRow) Operation) where
  abbrev left : ℕ → ℕ → Result (List NodeRow) Operation
  left k place = mean_rows nodes w over s k place (drop k rows)

  here : (k place : ℕ) (row : Row) → k < length rows → row ≡ get_or rows k row
      → left k place ≡ pick (eqb row.stage s) (then_walk (mean_row nodes w over k place row) (λ r. then_value (λ l. r ∷ l) (left (k + 1) (place + 1)))) (left (k + 1) place)
  here k place row h is =
      let one : suc k ≡ k + 1 = omega arith in
      let next : suc place ≡ place + 1 = omega arith in
      ap (mean_rows nodes w over s k place) (drop_read rows k row h is)
      ∙ ap (λ m. pick (eqb row.stage s) (then_walk (mean_row nodes w over k place row) (λ r. then_value (λ l. r ∷ l) (mean_rows nodes w over s m (suc place) (drop (k + 1) rows)))) (mean_rows nodes w over s m place (drop (k + 1) rows))) one
      ∙ ap (λ m. pick (eqb row.stage s) (then_walk (mean_row nodes w over k place row) (λ r. then_value (λ l. r ∷ l) (mean_rows nodes w over s (k + 1) m (drop (k + 1) rows)))) (left (k + 1) place)) next

  pub rows_more : (all more : List NodeRow) (k place : ℕ) (row : Row) (r : NodeRow) → k < length rows → row ≡ get_or rows k row → eqb row.stage s ≡ true → mean_row nodes w over k place row ≡ Ok r → more ≡ all ++ r ∷ []
      → then_value (λ l. all ++ l) (left k place) ≡ whole → then_value (λ l. more ++ l) (left (k + 1) (place + 1)) ≡ whole
  rows_more all more k place row r h is stage made m so =
      ap (λ q. then_value (λ l. q ++ l) (left (k + 1) (place + 1))) m
      ∙ value_then all r (left (k + 1) (place + 1)) whole
      (ap (λ q. then_value (λ l. all ++ l) (then_walk q (λ x. then_value (λ l. x ∷ l) (left (k + 1) (place + 1))))) (sym made)
      ∙ ap (λ b. then_value (λ l. all ++ l) (pick b (then_walk (mean_row nodes w over k place row) (λ x. then_value (λ l. x ∷ l) (left (k + 1) (place + 1)))) (left (k + 1) place))) (sym stage)
      ∙ ap (then_value (λ l. all ++ l)) (sym (here k place row h is)) ∙ so)

  pub rows_skip : (all : List NodeRow) (k place : ℕ) (row : Row) → k < length rows → row ≡ get_or rows k row → eqb row.stage s ≡ false
      → then_value (λ l. all ++ l) (left k place) ≡ whole → then_value (λ l. all ++ l) (left (k + 1) place) ≡ whole
  rows_skip all k place row h is stage so =
      ap (λ b. then_value (λ l. all ++ l) (pick b (then_walk (mean_row nodes w over k place row) (λ x. then_value (λ l. x ∷ l) (left (k + 1) (place + 1)))) (left (k + 1) place))) (sym stage)
      ∙ ap (then_value (λ l. all ++ l)) (sym (here k place row h is)) ∙ so

  pub rows_fail : (all : List NodeRow) (k place : ℕ) (row : Row) (fault : ArithmeticFault) → k < length rows → row ≡ get_or rows k row → eqb row.stage s ≡ true
      → then_value (λ l. all ++ l) (left k place) ≡ whole → FaultOf (mean_row nodes w over k place row) fault → FaultOf whole fault
  rows_fail all k place row fault h is stage so f =
      subst (λ q. FaultOf q fault)
      (ap (λ b. then_value (λ l. all ++ l) (pick b (then_walk (mean_row nodes w over k place row) (λ x. then_value (λ l. x ∷ l) (left (k + 1) (place + 1)))) (left (k + 1) place))) (sym stage)
      ∙ ap (then_value (λ l. all ++ l)) (sym (here k place row h is)) ∙ so)
      (fault_value _ (λ l. all ++ l) fault (fault_then (mean_row nodes w over k place row) (λ x. then_value (λ l. x ∷ l) (left (k + 1) (place + 1))) fault f))

  pub rows_end : (all : List NodeRow) (k place : ℕ) → length rows ≤ k → then_value (λ l. all ++ l) (left k place) ≡ whole → whole ≡ Ok all
  rows_end all k place h so = nothing_more all whole (ap (λ l. then_value (λ l. all ++ l) (mean_rows nodes w over s k place l)) (sym (drop_of_length-le rows h)) ∙ so)

-- ---- nodes of all stages
module _ (p : Program) (w : ℕ → ℚ) (count : ℕ) (whole : Result (List (Option Node)) Operation) where
  abbrev stages_left : ℕ → Result (List (Option Node)) Operation
  stages_left k = mean_nodes p w k (count - k)

  stage_here : (k : ℕ) → k < count → stages_left k ≡ then_walk (mean_node p w k) (λ n. then_value (λ ns. Some n ∷ ns) (stages_left (k + 1)))
  stage_here k h =
      let one : suc k ≡ k + 1 = omega arith in
      let less : count - k ≡ suc (count - (k + 1)) = omega (arith, h) in
      ap (mean_nodes p w k) less ∙ ap (λ m. then_walk (mean_node p w k) (λ n. then_value (λ ns. Some n ∷ ns) (mean_nodes p w m (count - (k + 1))))) one

  pub nodes_more : (all more : List (Option Node)) (k : ℕ) (n : Node) → k < count → mean_node p w k ≡ Ok n → more ≡ all ++ Some n ∷ []
      → then_value (λ l. all ++ l) (stages_left k) ≡ whole → then_value (λ l. more ++ l) (stages_left (k + 1)) ≡ whole
  nodes_more all more k n h made m so =
      ap (λ q. then_value (λ l. q ++ l) (stages_left (k + 1))) m
      ∙ value_then all (Some n) (stages_left (k + 1)) whole
      (ap (λ q. then_value (λ l. all ++ l) (then_walk q (λ x. then_value (λ l. Some x ∷ l) (stages_left (k + 1))))) (sym made)
      ∙ ap (then_value (λ l. all ++ l)) (sym (stage_here k h)) ∙ so)

  pub nodes_fail : (all : List (Option Node)) (k : ℕ) (fault : ArithmeticFault) → k < count
      → then_value (λ l. all ++ l) (stages_left k) ≡ whole → FaultOf (mean_node p w k) fault → FaultOf whole fault
  nodes_fail all k fault h so f =
      subst (λ q. FaultOf q fault) (ap (then_value (λ l. all ++ l)) (sym (stage_here k h)) ∙ so)
      (fault_value _ (λ l. all ++ l) fault (fault_then (mean_node p w k) (λ x. then_value (λ l. Some x ∷ l) (stages_left (k + 1))) fault f))

  pub nodes_end : (all : List (Option Node)) (k : ℕ) → count ≤ k → then_value (λ l. all ++ l) (stages_left k) ≡ whole → whole ≡ Ok all
  nodes_end all k h so =
      let none : count - k ≡ 0 = omega (arith, h) in
      nothing_more all whole (ap (λ m. then_value (λ l. all ++ l) (mean_nodes p w k m)) (sym none) ∙ so)

-- ---- the node of a stage
module _ (p : Program) (w : ℕ → ℚ) (s : ℕ) (nodes : List (Option Node)) (rows : List Row) (over : List ℕ) (same : nodes ≡ p.nodes) (kept : rows ≡ p.rows) (all : over ≡ nodes_of_stage p.nodes s) where
  pub cost_fails : (fault : ArithmeticFault) → FaultOf (mean_form w (λ n. node_form Cost (node_at nodes n)) over) fault → FaultOf (mean_node p w s) fault
  cost_fails fault h = fault_then (mean_form w (λ n. node_form Cost (node_at p.nodes n)) (nodes_of_stage p.nodes s)) _ fault
      (subst (λ q. FaultOf q fault) (ap (λ l. mean_form w (λ n. node_form Cost (node_at l n)) over) same ∙ ap (mean_form w (λ n. node_form Cost (node_at p.nodes n))) all) h)

  costs : (cost : List Entry) → mean_form w (λ n. node_form Cost (node_at nodes n)) over ≡ Ok cost
      → mean_node p w s ≡ then_walk (mean_rows p.nodes w (nodes_of_stage p.nodes s) s 0 0 p.rows) (λ rows. Ok (record { stage = s; parent = stage_before s; cost = cost; rows = rows }))
  costs cost h = ap (λ q. then_walk q (λ c. then_walk (mean_rows p.nodes w (nodes_of_stage p.nodes s) s 0 0 p.rows) (λ rows. let n : Node = record { stage = s; parent = stage_before s; cost = c; rows = rows } in Ok n)))
      (sym (ap (λ l. mean_form w (λ n. node_form Cost (node_at l n)) over) same ∙ ap (mean_form w (λ n. node_form Cost (node_at p.nodes n))) all) ∙ h)

  same_rows : mean_rows nodes w over s 0 0 rows ≡ mean_rows p.nodes w (nodes_of_stage p.nodes s) s 0 0 p.rows
  same_rows = ap (λ l. mean_rows l w over s 0 0 rows) same ∙ ap (λ l. mean_rows p.nodes w l s 0 0 rows) all ∙ ap (mean_rows p.nodes w (nodes_of_stage p.nodes s) s 0 0) kept

  pub rows_fails : (cost : List Entry) (fault : ArithmeticFault) → mean_form w (λ n. node_form Cost (node_at nodes n)) over ≡ Ok cost → FaultOf (mean_rows nodes w over s 0 0 rows) fault → FaultOf (mean_node p w s) fault
  rows_fails cost fault h f = subst (λ q. FaultOf q fault) (sym (costs cost h))
      (fault_then (mean_rows p.nodes w (nodes_of_stage p.nodes s) s 0 0 p.rows) _ fault (subst (λ q. FaultOf q fault) same_rows f))

  pub node_made : (cost : List Entry) (made : List NodeRow) (above : Option ℕ) → mean_form w (λ n. node_form Cost (node_at nodes n)) over ≡ Ok cost → mean_rows nodes w over s 0 0 rows ≡ Ok made → above ≡ stage_before s
      → mean_node p w s ≡ Ok (record { stage = s; parent = above; cost = cost; rows = made })
  node_made cost made above h r a = costs cost h
      ∙ ap (λ q. then_walk q (λ rows. let n : Node = record { stage = s; parent = stage_before s; cost = cost; rows = rows } in Ok n)) (sym same_rows ∙ r)
      ∙ ap (λ b. let n : Node = record { stage = s; parent = b; cost = cost; rows = made } in Ok n) (sym a)
