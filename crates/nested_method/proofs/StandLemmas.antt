-- What stands on a program stands, behind an edit, on the program after it.
use Rattle.std.proofs.Common.{◌≡◌, ◌⊎◌, ℕ, ◌<◌, ◌≤◌, ◌^◌, zero, suc, leb, ◌||◌, is_some, Bool, true, false, List, [], ◌∷◌, map, length, Option, Some, None, IfSome}
use Rattle.std.proofs.Common.{refl, sym, ap, subst, ◌∙◌, inl, inr, Result, Ok, Err, OnOk, arith}
use Rattle.std.proofs.lemmas.Bool.{leb-false, lt-leb}
use Rattle.std.proofs.lemmas.List.{length-replicate}
use Rattle.rationals.specs.Rational.{ℚ}
use Rattle.rationals.specs.Choices.{pick}
use Rattle.smps_words.specs.declared.entry.Entry.{Entry}
use Rattle.smps_words.specs.declared.entry.Entry.TheVariants.{Cost, Matrix, Rhs}
use Rattle.scen_defs.specs.Program.{Node, Program, Scenario, view_of}
use Rattle.scen_defs.specs.Valid.{IsProgram}
use Rattle.scen_tree.specs.Trees.{Tree, tree_walk, children_from, position_of}
use Rattle.scen_tree.specs.declared.position.Position.{Position}
use Rattle.cut_defs.specs.Data.{bounds_of}
use Rattle.cut_defs.specs.declared.datum.ColumnBounds.{ColumnBounds}
use Rattle.edit_defs.specs.declared.edit.Edit.{Edit}
use Rattle.edit_defs.specs.declared.edit.Edit.TheVariants.{Set, Prob, Drop, Add}
use Rattle.edit_defs.specs.After.{after, change_node, with_value, home_of}
use Rattle.edit_defs.specs.Applies.{Applies}
use Rattle.edit_defs.proofs.Books.{grows}
use Rattle.proved_report.specs.declared.open.Open.{Open}
use Rattle.proved_report.specs.declared.open.Open.TheVariants.{Solves, Pivots, Passed}
use Rattle.node_lp.specs.declared.solved.Solved.TheVariants.{PivotsEnded}
use Rattle.scen_defs.specs.declared.report.Place.TheVariants.{Cost as AtCost}
use Rattle.node_data.specs.declared.versions.Version.{Version}
use Rattle.node_data.specs.Frames.{Frame, parent_of, stage_of, columns_from, frame_of}
use Rattle.pass_table.specs.Machine.{Machine}
use Rattle.pass_table.specs.Marks.{nothing}
use Rattle.pass_core.specs.Made.{KeepsBooks}
use Rattle.pass_core.specs.declared.budget.Budget.{Budget}
use Rattle.pass_core.specs.declared.state.Counts.{Counts}
use Rattle.pass_core.specs.Counting.{no_commits, one_solve_more, with_commit}
use Rattle.found_ends.specs.declared.settled.Settled.{Settled}
use Rattle.found_ends.specs.declared.settled.Settled.TheVariants.{Spent}
use Rattle.found_ends.specs.Settled.{where_so, shown, ended, or_case, settled}
use Rattle.found_ends.specs.declared.ends.Ends.{Ends}
use Rattle.found_ends.specs.Ends.{no_ends}
use Rattle.scen_defs.specs.declared.report.Kind.{Kind}
use Rattle.scen_defs.specs.declared.report.Kind.TheVariants.{Feasible}
use Rattle.node_data.specs.Counts.{untouched}
use Rattle.pass_core.specs.Beginning.{IsBeginning, StartsOver}
use Rattle.pass_core.proofs.Beginning.{first_counted}
use Rattle.pass_core.specs.Explained.{ComesOfSolve, PassesInRun, IsExplained, AreExplained, KeepsExplained, IsUnstopped}
use Rattle.pass_core.specs.declared.state.State.{State}
use Rattle.pass_core.specs.Tabled.{IsTabled, IsTabledBy, StepsTo}
use Rattle.pass_core.specs.Desks.{IsDesk, IsBegunBy, DropsOn}
use Rattle.pass_core.specs.Turns.{PointsStand, MakesStep, begins_none, opens_run, solves, WorksAtDesk}
use Rattle.pass_core.proofs.Moving.{StepsAtDesk, no_solve, new_run, one_turn, step_moves, work_moves, closed_same}
use Rattle.pass_core.proofs.Standing.{empty_stand}
use Rattle.pass_core.proofs.Explaining.{unstopped_is_explained}
use Rattle.nested_method.specs.declared.found.Found.{Found}
use Rattle.nested_method.specs.declared.method.Working.{Working}
use Rattle.nested_method.specs.declared.method.Method.{Method}
use Rattle.nested_method.specs.declared.method.Method.TheVariants.{Working as AtWork}
use Rattle.nested_method.specs.Edited.{is_grown, KeepsTabled, ClearsStop, IsEdited, HasNoTree}
use Rattle.nested_method.specs.Laws.{TouchesCarry}
use Rattle.nested_method.specs.Stands.{LeavesOpen, TellsWhy, IsInBudget, WorksOn, StandsOn, settled_in}
use Rattle.nested_method.specs.Stands.{IsAtEnd, SolvesNodes, SolvesOnce, none, more, beside, forgets, anew, SolvesAnew}
use Rattle.nested_method.proofs.Standing.{touches_stand, versions_behind}

-- ---- the frame
-- what a change of a node leaves of it, node by node
map_changed : {A : Type 0} (g : Option Node → A) (f : Node → Node) → ((x : Node) → g (Some (f x)) ≡ g (Some x)) → (n : ℕ) (nodes : List (Option Node))
    → map g (change_node n f nodes) ≡ map g nodes
map_changed g f h n [] = refl
map_changed g f h zero (None ∷ nodes) = refl
map_changed g f h zero (Some x ∷ nodes) = ap (λ first. first ∷ map g nodes) (h x)
map_changed g f h (suc n) (place ∷ nodes) = ap (λ rest. g place ∷ rest) (map_changed g f h n nodes)

parent_stays : (p : Program) (entry : Entry) (v : ℚ) (x : Node) → parent_of (Some (with_value p entry v x)) ≡ parent_of (Some x)
parent_stays p (Cost j) v x = refl
parent_stays p (Matrix i j) v x = refl
parent_stays p (Rhs i) v x = refl

position_stays : (p : Program) (entry : Entry) (v : ℚ) (x : Node) → position_of (Some (with_value p entry v x)) ≡ position_of (Some x)
position_stays p (Cost j) v x = refl
position_stays p (Matrix i j) v x = refl
position_stays p (Rhs i) v x = refl

stage_stays : (p : Program) (entry : Entry) (v : ℚ) (x : Node) → stage_of (Some (with_value p entry v x)) ≡ stage_of (Some x)
stage_stays p (Cost j) v x = refl
stage_stays p (Matrix i j) v x = refl
stage_stays p (Rhs i) v x = refl

-- columns and their bounds don't depend on nodes and scenarios
columns_stay : (p : Program) (nodes : List (Option Node)) (scenarios : List Scenario) (s count : ℕ)
    → columns_from (view_of (record p { nodes = nodes; scenarios = scenarios })) s count ≡ columns_from (view_of p) s count
columns_stay p nodes scenarios s zero = refl
columns_stay p nodes scenarios s (suc count) =
    ap (λ (rest : List (List ColumnBounds)). map (bounds_of (view_of p)) ((view_of p).columns s) ∷ rest) (columns_stay p nodes scenarios (suc s) count)

abbrev frame_by : List ℕ → List Position → List ℕ → List (List ColumnBounds) → Frame
frame_by parents positions stages columns =
    record { parents = parents; children = children_from positions 0 positions; stages = stages; columns = columns }

same_frame : (a b : List ℕ) (c d : List Position) (e f : List ℕ) (g h : List (List ColumnBounds)) → a ≡ b → c ≡ d → e ≡ f → g ≡ h
    → frame_by a c e g ≡ frame_by b d f h
same_frame a b c d e f g h i j k l = cc

-- where no node comes or goes, the frame stays
pub frame_stays : (p : Program) (e : Edit) → is_grown e ≡ false → frame_of (after p e) ≡ frame_of p
frame_stays p (Set name entry v) g =
    let nodes : List (Option Node) = change_node (home_of p name entry) (with_value p entry v) p.nodes in
    same_frame (map parent_of nodes) (map parent_of p.nodes) (map position_of nodes) (map position_of p.nodes)
    (map stage_of nodes) (map stage_of p.nodes)
    (columns_from (view_of (after p (Set name entry v))) 0 (length p.periods)) (columns_from (view_of p) 0 (length p.periods))
    (map_changed parent_of (with_value p entry v) (parent_stays p entry v) (home_of p name entry) p.nodes)
    (map_changed position_of (with_value p entry v) (position_stays p entry v) (home_of p name entry) p.nodes)
    (map_changed stage_of (with_value p entry v) (stage_stays p entry v) (home_of p name entry) p.nodes)
    (columns_stay p nodes p.scenarios 0 (length p.periods))
frame_stays p (Prob name q) g = ap
    (frame_by (map parent_of p.nodes) (map position_of p.nodes) (map stage_of p.nodes))
    (columns_stay p p.nodes (after p (Prob name q)).scenarios 0 (length p.periods))
frame_stays p (Drop name) g = absurd (cc)
frame_stays p (Add name parent q t) g = absurd (cc)

frame_behind : (p : Program) (e : Edit) (grown : Bool) → is_grown e ≡ grown → (f : Frame) → f ≡ frame_of p → pick grown (frame_of (after p e)) f ≡ frame_of (after p e)
frame_behind p e true g f h = refl
frame_behind p e false g f h = h ∙ sym (frame_stays p e g)

-- ---- the method
-- a step of its state
pub works_still : (p : Program) (budget : Budget) (old new : Working) → new.tree ≡ old.tree → KeepsExplained p old.tree old.state new.state
    → (IsProgram p → old.state.frame ≡ frame_of p → IsTabled p old.state → IsTabled p new.state)
    → (IsProgram p → tree_walk p ≡ Ok old.tree → old.state.frame ≡ frame_of p → IsTabled p old.state → PointsStand p old.state.lasts.nodes.items
    → PointsStand p new.state.lasts.nodes.items)
    → (IsProgram p → tree_walk p ≡ Ok old.tree → old.state.frame ≡ frame_of p → IsTabled p old.state → PointsStand p old.state.lasts.nodes.items
    → IsInBudget old.state → IsInBudget new.state)
    → WorksOn p budget old → WorksOn p budget new
works_still p budget old new t k f g h w = record {
  tree = w.tree ∙ ap Ok (sym t);
  frame = k.0 ∙ w.frame;
  budget_is = k.1 ∙ w.budget_is;
  versions = subst (λ (vs : List Version). length p.nodes ≤ length vs) (sym k.2) w.versions;
  explained = subst (λ (tree : Tree). AreExplained p tree new.state) (sym t) (k.3 w.explained);
  counted = λ i few. h i w.tree w.frame (w.tabled i few) (w.points i few) (w.counted i few);
  tabled = λ i few. f i w.frame (w.tabled i few);
  points = λ i few. g i w.tree w.frame (w.tabled i few) (w.points i few);
}

-- a step leaves the table fitting
pub step_tabled : (p : Program) (old new : State) (told : Bool) → ((m : Machine) → IsTabledBy p old m → StepsTo p m told new)
    → IsTabled p old → IsTabled p new
step_tabled p old new told step h = let s = step h.0 h.1 in (s.machine, s.tabled)

-- and the points standing
step_points : (p : Program) (old new : State) (m : Machine) (told : Bool) → MakesStep p old m new told → PointsStand p new.lasts.nodes.items
step_points p old new m told (begins_none rest points reasons ready) = points
step_points p old new m told (opens_run closed earlier opened points reasons run first left) = points
step_points p old new m told (solves lasts n ready is_next node) = node.points

pub steps_points : (p : Program) (old new : State) (told : Bool)
    → ((m : Machine) → IsTabledBy p old m → PointsStand p old.lasts.nodes.items → MakesStep p old m new told)
    → IsTabled p old → PointsStand p old.lasts.nodes.items → PointsStand p new.lasts.nodes.items
steps_points p old new told step h points = step_points p old new h.0 told (step h.0 h.1 points)

-- a step counts one more solve, or none
step_counts : (p : Program) (old new : State) (m : Machine) → StepsAtDesk p old m new → (new.counts ≡ old.counts) ⊎ (new.counts ≡ with_commit old.counts)
step_counts p old new m (no_solve reasons ready) = inl reasons.counts
step_counts p old new m (new_run tabled made closed earlier opened reasons run first left) = inl reasons.counts
step_counts p old new m (one_turn lasts n ready node) = inr node.reasons.counts

-- where something is left to find, so many solves aren't counted yet as are allowed
not_spent : (stop : Option Open) (counted allowed : ℕ) → ended stop counted allowed ≡ None → counted < allowed
not_spent (Some why) counted allowed e = absurd (cc)
not_spent None counted allowed e = go (leb allowed counted) refl e
  where
    go : (b : Bool) → leb allowed counted ≡ b → where_so b Spent ≡ None → counted < allowed
    go true t e = absurd (cc)
    go false t e = leb-false allowed counted t

ended_by : (shown other : Option Settled) → or_case shown other ≡ None → other ≡ None
ended_by None other e = e
ended_by (Some case) other e = absurd (cc)

pub goes_on : (s : State) → settled_in s ≡ None → s.counts.since_report < s.budget.solves
goes_on s e = not_spent s.stop s.counts.since_report s.budget.solves
    (ended_by (shown s.kind s.table.closed s.ends) (ended s.stop s.counts.since_report s.budget.solves) e)

pub not_stopped : (s : State) → settled_in s ≡ None → s.stop ≡ None
not_stopped s e = go s.stop refl
    (ended_by (shown s.kind s.table.closed s.ends) (ended s.stop s.counts.since_report s.budget.solves) e)
  where
    go : (stop : Option Open) → s.stop ≡ stop → ended stop s.counts.since_report s.budget.solves ≡ None → s.stop ≡ None
    go (Some why) is e = absurd (cc)
    go None is e = is

one_more_within : (a b : ℕ) → a ≤ b → one_solve_more a ≤ one_solve_more b
one_more_within a b h = omega (arith, h)

one_more_at_most : (a b : ℕ) → a < b → one_solve_more a ≤ b
one_more_at_most a b h = omega (arith, h)

-- so it is behind a Begin
pub still_left : (p : Program) (old new : State) (m : Machine) → IsDesk p old m → IsDesk p new m
    → new ≡ record old { lasts = new.lasts; is_begun = new.is_begun; table = new.table } → settled_in old ≡ None → settled_in new ≡ None
still_left p old new m before behind e left =
    ap settled_in e
    ∙ ap (λ (closed : Bool). settled old.kind closed old.ends old.stop old.counts.since_report old.budget.solves)
    (closed_same p old new m before behind) ∙ left

-- where an edit may not come yet, something is left to find
pub not_ripe : (work counted : ℕ) (case : Option Settled) → (leb work counted || is_some case) ≡ false → case ≡ None
not_ripe work counted None e = refl
not_ripe work counted (Some case) e = absurd (let no : true ≡ false = sym (or_true (leb work counted)) ∙ e in cc)
  where
    or_true : (b : Bool) → (b || true) ≡ true
    or_true true = refl
    or_true false = refl

-- and more solves are asked for
pub asked_yet : (work counted : ℕ) (case : Option Settled) → (leb work counted || is_some case) ≡ false → counted < work
asked_yet work counted case e = go (leb work counted) refl e
  where
    go : (b : Bool) → leb work counted ≡ b → (b || is_some case) ≡ false → counted < work
    go true t e = absurd (let no : true ≡ false = e in cc)
    go false t e = leb-false work counted t

-- a state with these counts keeps to the budget
in_budget : (old new : State) → new.budget ≡ old.budget → (new.counts ≡ old.counts) ⊎ (new.counts ≡ with_commit old.counts)
    → old.counts.since_report < old.budget.solves → IsInBudget old → IsInBudget new
in_budget old new b (inl e) less h = record {
  item = subst (λ (c : Counts). c.since_item ≤ c.since_report) (sym e) h.item;
  report = omega (arith, h.report, ap (λ (c : Counts). c.since_report) e, ap (λ (x : Budget). x.solves) b);
}
in_budget old new b (inr e) less h = record {
  item = subst (λ (c : Counts). c.since_item ≤ c.since_report) (sym e)
      (one_more_within old.counts.since_item old.counts.since_report h.item);
  report = omega (
    arith,
    one_more_at_most old.counts.since_report old.budget.solves less,
    ap (λ (c : Counts). c.since_report) e,
    ap (λ (x : Budget). x.solves) b,
  );
}

-- behind a step at a desk
pub desk_in_budget : (p : Program) (old new : State) (m : Machine) → new.budget ≡ old.budget → old.counts.since_report < old.budget.solves
    → StepsAtDesk p old m new → IsInBudget old → IsInBudget new
desk_in_budget p old new m b less step within = in_budget old new b (step_counts p old new m step) less within

pub step_in_budget : (p : Program) (old new : State) (told : Bool) → new.budget ≡ old.budget → old.counts.since_report < old.budget.solves
    → ((m : Machine) → IsTabledBy p old m → PointsStand p old.lasts.nodes.items → MakesStep p old m new told)
    → IsTabled p old → PointsStand p old.lasts.nodes.items → IsInBudget old → IsInBudget new
step_in_budget p old new told b less step h points within =
    desk_in_budget p old new h.0 b less (step_moves p old h.0 new told h.1 (step h.0 h.1 points)) within

-- ---- a program that is begun anew
-- nothing that stops the method, no end and no point is known
begun_unstopped : (p : Program) (budget : Budget) (s : State) → IsBeginning p budget s → IsUnstopped s
begun_unstopped p budget s b = record {
  stop = subst (λ (o : Option Open). IfSome o (λ why. why ≡ Solves s.budget.solves)) (sym b.stop) tt;
  lasting = b.lasting;
  ends = b.ends;
  points = b.points;
}

pub begins_on : (p : Program) (budget : Budget) (w : Working) → IsBeginning p budget w.state → tree_walk p ≡ Ok w.tree
    → (IsProgram p → length p.nodes < nothing → IsTabled p w.state) → (IsProgram p → length p.nodes < nothing → IsInBudget w.state) → WorksOn p budget w
begins_on p budget w b t tabled within = record {
  tree = t;
  frame = b.frame;
  budget_is = b.budget_is;
  versions = subst (λ (vs : List Version). length p.nodes ≤ length vs) (sym b.versions) (omega (arith, length-replicate (length p.nodes) untouched));
  explained = unstopped_is_explained p w.tree w.state (begun_unstopped p budget w.state b);
  counted = within;
  tabled = tabled;
  points = λ i few. empty_stand p w.state.lasts.nodes.items b.points;
}

-- without a solve the counts are within any budget
pub none_counted : (s : State) → s.counts ≡ no_commits → IsInBudget s
none_counted s e = record {
  item = omega (arith, ap (λ (c : Counts). c.since_item) e, ap (λ (c : Counts). c.since_report) e);
  report = omega (arith, ap (λ (c : Counts). c.since_report) e);
}

-- the method stands on a program that is begun anew, or on which nothing changed
pub over_stands : (p : Program) (budget : Budget) (tree : Tree) (old new : State) → (new ≡ old) ⊎ StartsOver p old new
    → (IsProgram p → length p.nodes < nothing → IsTabled p new) → WorksOn p budget (record { state = old; tree = tree })
    → WorksOn p budget (record { state = new; tree = tree })
over_stands p budget tree old new (inl e) tabled w = subst (λ (s : State). WorksOn p budget (record { state = s; tree = tree })) (sym e) w
over_stands p budget tree old new (inr o) tabled w =
    begins_on p budget (record { state = new; tree = tree }) (subst (λ (b : Budget). IsBeginning p b new) w.budget_is o.beginning) w.tree tabled
    (λ i few. let h = w.counted i few in record {
      item = subst (λ (c : Counts). c.since_item ≤ c.since_report) (sym o.counts) h.item;
      report = omega (arith, h.report, ap (λ (c : Counts). c.since_report) o.counts, ap (λ (b : Budget). b.solves) o.beginning.budget_is);
    })

-- as many solves are left there as before
pub same_left : (p : Program) (old new : State) → (new ≡ old) ⊎ StartsOver p old new → old.counts.since_report < old.budget.solves
    → new.counts.since_report < new.budget.solves
same_left p old new (inl e) less = subst (λ (s : State). s.counts.since_report < s.budget.solves) (sym e) less
same_left p old new (inr o) less =
    omega (arith, less, ap (λ (c : Counts). c.since_report) o.counts, ap (λ (b : Budget). b.solves) o.beginning.budget_is)

pub on_ok_if : {X E : Type 0} (r : Result X E) (A B : Type 0) → (A → OnOk r B) → OnOk r (A → B)
on_ok_if (Ok x) A B f = f
on_ok_if (Err e) A B f = tt

-- something is left to find there
pub begun_open : (p : Program) (budget : Budget) (s : State) → IsBeginning p budget s → s.counts.since_report < s.budget.solves → settled_in s ≡ None
begun_open p budget s b less =
    ap (λ (kind : Kind). settled kind s.table.closed s.ends s.stop s.counts.since_report s.budget.solves) b.kind
    ∙ ap (λ (ends : Ends). settled Feasible s.table.closed ends s.stop s.counts.since_report s.budget.solves) b.ends
    ∙ ap (λ (stop : Option Open). settled Feasible s.table.closed no_ends stop s.counts.since_report s.budget.solves) b.stop
    ∙ ap (λ (spent : Bool). where_so spent Spent) (lt-leb s.budget.solves s.counts.since_report less)

-- begun anew, its first step is a solve
pub solves_anew : (p : Program) (old mid new : State) (told : Bool) → IsProgram p → IsAtEnd p old → StartsOver p old mid → IsTabled p mid
    → mid.counts.since_report < mid.budget.solves
    → ((m : Machine) → IsTabledBy p mid m → MakesStep p mid m new told) → KeepsBooks p mid new → SolvesAnew p old new
solves_anew p old mid new told i ends over tabled less step keeps = record {
  solves = more mid new tabled.0 told (anew old mid none ends over) (begun_open p old.budget mid over.beginning less) tabled.1
      (step tabled.0 tabled.1) keeps;
  counts = first_counted p mid i new told over.beginning.frame over.beginning.is_begun tabled step ∙ ap with_commit over.counts;
}

-- ---- solves behind one another
pub solves_behind : (p : Program) (a b c : State) → SolvesNodes p a b → SolvesNodes p b c → SolvesNodes p a c
solves_behind p a b c x none = x
solves_behind p a b c x (more mid new m told y left t step keeps) = more mid new m told (solves_behind p a b mid x y) left t step keeps
solves_behind p a b c x (beside mid new m y left d step keeps) = beside mid new m (solves_behind p a b mid x y) left d step keeps
solves_behind p a b c x (forgets mid new m w n y f drop) = forgets mid new m w n (solves_behind p a b mid x y) f drop
solves_behind p a b c x (anew mid new y ends over) = anew mid new (solves_behind p a b mid x y) ends over

one_counted : (a mid new : State) → (new.counts ≡ mid.counts) ⊎ (new.counts ≡ with_commit mid.counts)
    → (a.counts.since_report ≤ mid.counts.since_report) × (mid.counts.since_report < 2 ^ 64)
    → (a.counts.since_report ≤ new.counts.since_report) × (new.counts.since_report < 2 ^ 64)
one_counted a mid new (inl e) h = let k = ap (λ (c : Counts). c.since_report) e in (omega (arith, h.0, k), omega (arith, h.1, k))
one_counted a mid new (inr e) h = let k = ap (λ (c : Counts). c.since_report) e in (omega (arith, h.0, h.1, k), omega (arith, h.1, k))

-- the solves that are counted since a report don't become less, and have 64 bits
pub more_counted : (p : Program) (a b : State) → a.counts.since_report < 2 ^ 64 → SolvesNodes p a b
    → (a.counts.since_report ≤ b.counts.since_report) × (b.counts.since_report < 2 ^ 64)
more_counted p a b less none = (omega arith, less)
more_counted p a b less (more mid new m told y left t step keeps) =
    one_counted a mid new (step_counts p mid new m (step_moves p mid m new told t step)) (more_counted p a mid less y)
more_counted p a b less (beside mid new m y left d step keeps) =
    one_counted a mid new (step_counts p mid new m (work_moves p mid m new step)) (more_counted p a mid less y)
more_counted p a b less (forgets mid new m w n y f drop) =
    one_counted a mid new (inl (ap (λ (s : State). s.counts) drop.others)) (more_counted p a mid less y)
more_counted p a b less (anew mid new y ends over) =
    let h = more_counted p a mid less y in
    let k = ap (λ (c : Counts). c.since_report) over.counts in (omega (arith, h.0, k), omega (arith, h.1, k))

-- no step, and one more
pub solves_none : (p : Program) (s : State) → SolvesOnce p s s
solves_none p s = record { solves = none; never = tt }

pub solves_more : (p : Program) (budget : Budget) (old : State) (w : Working) (new : State) (told : Bool) → IsProgram p → length p.nodes < nothing
    → WorksOn p budget w → SolvesOnce p old w.state
    → ((m : Machine) → tree_walk p ≡ Ok w.tree → w.state.frame ≡ frame_of p → IsTabledBy p w.state m → PointsStand p w.state.lasts.nodes.items
    → MakesStep p w.state m new told)
    → (tree_walk p ≡ Ok w.tree → w.state.frame ≡ frame_of p → KeepsBooks p w.state new)
    → settled_in w.state ≡ None → SolvesOnce p old new
solves_more p budget old w new told i few works before step keeps open_yet =
    let t = works.tabled i few in record {
      solves = more w.state new t.0 told before.solves open_yet t.1 (step t.0 works.tree works.frame t.1 (works.points i few))
          (keeps works.tree works.frame);
      never = before.never;
    }

-- one at a desk, and a solve that isn't wanted any more
pub solves_beside : (p : Program) (old mid new : State) (m : Machine) → SolvesOnce p old mid → settled_in mid ≡ None → IsDesk p mid m
    → WorksAtDesk p mid m new → KeepsBooks p mid new → SolvesOnce p old new
solves_beside p old mid new m before left desk work keeps =
    record { solves = beside mid new m before.solves left desk work keeps; never = before.never }

pub solves_less : (p : Program) (old mid new : State) (m : Machine) (w n : ℕ) → SolvesOnce p old mid → (b : IsBegunBy p mid m w n)
    → DropsOn p mid m b.desk.fits.flying w new → SolvesOnce p old new
solves_less p old mid new m w n before b drop = record { solves = forgets mid new m w n before.solves b drop; never = before.never }

-- an edit: its versions are in no table
versions_tabled : (q : Program) (old new : State) → new ≡ record old { versions = new.versions } → IsTabled q old → IsTabled q new
versions_tabled q old new e h = let t = h.1 in (
  h.0,
  subst (λ (x : State). IsTabledBy q x h.0) (sym e) (record {
    valid = t.valid;
    fits = t.fits;
    idle = t.idle;
    machine = record { live = t.machine.live; parent = t.machine.parent; number = t.machine.number };
    pools = t.pools;
    unused = t.unused;
  }),
)

-- what holds behind an edit, where the versions of what it touches rose before
risen_behind : (Holds : Type 0) (p q : Program) (g h : Bool) (old mid : State) → q ≡ p → h ≡ g → mid ≡ record old { versions = mid.versions }
    → ((r : Program) → IsTabled r mid → (h ≡ false → frame_of q ≡ mid.frame) → length q.nodes < nothing → Holds)
    → (r : Program) → IsTabled r old → (g ≡ false → frame_of p ≡ old.frame) → length p.nodes < nothing → Holds
risen_behind Holds p q g h old mid a b e k = λ r t f few.
    k r (versions_tabled r old mid e t) (λ n. ap frame_of a ∙ f (sym b ∙ n) ∙ sym (ap (λ (s : State). s.frame) e))
    (subst (λ (x : Program). length x.nodes < nothing) (sym a) few)

-- what is kept of the table
pub tabled_behind : (p q : Program) (g h : Bool) (old mid new : State) → q ≡ p → h ≡ g → mid ≡ record old { versions = mid.versions }
    → KeepsTabled q h mid new → KeepsTabled p g old new
tabled_behind p q g h old mid new a b e k = λ r t f few.
    subst (λ (x : Program). IsTabled x new) a (risen_behind (IsTabled q new) p q g h old mid a b e k r t f few)

-- and that nothing stops the method
pub cleared_behind : (p q : Program) (g h : Bool) (old mid new : State) → q ≡ p → h ≡ g → mid ≡ record old { versions = mid.versions }
    → ClearsStop q h mid new → ClearsStop p g old new
cleared_behind p q g h old mid new a b e k = risen_behind (new.stop ≡ None) p q g h old mid a b e k

-- where a call gives Ok
pub behind_if_ok : {X E : Type 0} (r : Result X E) (Holds : Type 0) (p : Program) (g : Bool) (old : State)
    → ((q : Program) → IsTabled q old → (g ≡ false → frame_of p ≡ old.frame) → length p.nodes < nothing → OnOk r Holds)
    → OnOk r ((q : Program) → IsTabled q old → (g ≡ false → frame_of p ≡ old.frame) → length p.nodes < nothing → Holds)
behind_if_ok (Ok x) Holds p g old h = h
behind_if_ok (Err e) Holds p g old h = tt

works_behind : (p : Program) (e : Edit) (budget : Budget) (old new : Working) → IsProgram p → WorksOn p budget old → IsEdited p e old new
    → KeepsTabled (after p e) (is_grown e) old.state new.state → WorksOn (after p e) budget new
works_behind p e budget old new i w h k = record {
  tree = h.tree;
  frame = h.frame ∙ frame_behind p e (is_grown e) refl old.state.frame w.frame;
  budget_is = h.budget ∙ w.budget_is;
  versions = subst (λ (vs : List Version). length (after p e).nodes ≤ length vs) (sym h.versions) (versions_behind p e old.state.versions w.versions);
  explained = unstopped_is_explained (after p e) new.tree new.state h.reasons;
  counted = λ j few.
      let within = w.counted i (let g : length p.nodes ≤ length (after p e).nodes = grows p e in omega (arith, g, few)) in record {
        item = omega (arith, ap (λ (c : Counts). c.since_item) h.counts);
        report = omega (arith, within.report, ap (λ (c : Counts). c.since_report) h.counts, ap (λ (b : Budget). b.solves) h.budget);
      };
  tabled = λ j few. k p (w.tabled i (let g : length p.nodes ≤ length (after p e).nodes = grows p e in omega (arith, g, few)))
      (λ g. frame_stays p e g ∙ sym w.frame) few;
  points = λ j few. empty_stand (after p e) new.state.lasts.nodes.items h.points;
}

-- and what its touches carry
pub touches_carry : (p : Program) (e : Edit) (budget : Budget) (old new : Working) → IsProgram p → Applies p e → WorksOn p budget old → IsEdited p e old new
    → TouchesCarry p e old.state.versions new.state.versions
touches_carry p e budget old new i a w h =
    subst (TouchesCarry p e old.state.versions) (sym h.versions) (touches_stand p e old.state.versions i a w.versions)

pub works_on : (p q : Program) (e : Edit) (old : Method) (w new : Working) → IsProgram p → old ≡ AtWork w → q ≡ after p e → IsEdited p e w new
    → KeepsTabled (after p e) (is_grown e) w.state new.state → (budget : Budget) → StandsOn p budget old → WorksOn q budget new
works_on p q e old w new i is a h k budget s =
    subst (λ (r : Program). WorksOn r budget new) (sym a) (works_behind p e budget w new i (subst (StandsOn p budget) is s) h k)

pub treeless_leaves_open : (p : Program) (budget : Budget) (why : Open) → HasNoTree p why → LeavesOpen p budget why
treeless_leaves_open p budget why h =
    subst (LeavesOpen p budget) (sym h.why_is) (inl (record { operation = h.operation; passes = h.passes; why_is = refl }))

-- ---- what is found
leaves_open : (p : Program) (budget : Budget) (w : Working) (why : Open) → WorksOn p budget w
    → IsExplained p w.state.frame w.tree w.state.budget why → LeavesOpen p budget why
leaves_open p budget w (Solves n) h e = e ∙ ap (λ (b : Budget). b.solves) h.budget_is
leaves_open p budget w (Pivots k) h e = record {
  tree = w.tree;
  is = h.tree;
  holds = subst (λ (f : Frame). ComesOfSolve p f w.tree budget.pivots PivotsEnded) h.frame
      (subst (λ (b : Budget). ComesOfSolve p w.state.frame w.tree b.pivots PivotsEnded) h.budget_is e);
}
leaves_open p budget w (Passed place o) h e = inr (record {
  tree = w.tree;
  is = h.tree;
  holds = subst (λ (f : Frame). PassesInRun p f w.tree budget.pivots place o) h.frame
      (subst (λ (b : Budget). PassesInRun p w.state.frame w.tree b.pivots place o) h.budget_is e);
})

pub tells_why : (p : Program) (budget : Budget) (w : Working) (found : Found) (commits : ℕ) → WorksOn p budget w
    → IsExplained p w.state.frame w.tree w.state.budget found.why → found.place ≡ AtCost commits → TellsWhy p budget found
tells_why p budget w found commits h e at = record { why = leaves_open p budget w found.why h e; commits = commits; place = at }
