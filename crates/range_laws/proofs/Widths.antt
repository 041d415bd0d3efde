-- Each row of the program that is built has the width of its range.
use Rattle.std.proofs.Common.{◌≡◌, ◌∙◌, sym, refl, subst, ℕ, zero, suc, ◌+◌, List, [], ◌∷◌, ◌++◌, map, length, get_or, Option, Ok}
use Rattle.rationals.specs.Rational.{ℚ}
use Rattle.smps_words.specs.declared.row_kind.RowKind.{RowKind}
use Rattle.core_defs.specs.declared.parts.RowDef.{RowDef}
use Rattle.core_defs.specs.declared.program.Core.{Core}
use Rattle.time_defs.specs.Means.{Stages}
use Rattle.stoch_defs.specs.Entries.{no_row}
use Rattle.stoch_defs.specs.Random.Random.{Blocks, Branches}
use Rattle.scen_defs.specs.declared.program.NodeRow.{NodeRow}
use Rattle.scen_defs.specs.Lists.{Each}
use Rattle.scen_defs.specs.Program.{Node, Scenario, Program, node_at}
use Rattle.scen_defs.specs.Valid.{row_at}
use Rattle.scen_defs.proofs.SumLaws.{each-map}
use Rattle.scen_tree.specs.declared.position.Position.{Position}
use Rattle.scen_tree.specs.Chances.{chances_walk}
use Rattle.smps_build.specs.Ends.{Interval, interval_walk}
use Rattle.build_defs.specs.Built.{rows_from, program_of}
use Rattle.build_defs.proofs.ChanceLemmas.{then_is, fine_is}
use Rattle.build_defs.proofs.EachLemmas.{each_append}
use Rattle.tree_build.specs.declared.parts.RowValues.{RowValues}
use Rattle.tree_build.specs.declared.numbering.Debut.{Debut}
use Rattle.tree_build.specs.Values.{Values}
use Rattle.tree_build.specs.Wheels.{wheels_of}
use Rattle.tree_build.specs.Branches.{branch_rows}
use Rattle.tree_build.specs.Finish.{value_interval, value_row, value_rows, value_nodes, position_at, block_paths, branch_paths, finish_walk}
use Rattle.tree_build.specs.Walks.{debuts_of, paths_of, block_rows, block_all, branch_all}
use Rattle.tree_build.proofs.NodeLaws.{AreMade, nodes_made}
use Rattle.edit_defs.specs.Intervals.{width, Apart, HasWidth}
use Rattle.edit_defs.specs.Shifts.{HasWidths}
use Rattle.edit_defs.proofs.IntervalLaws.{interval-is, right-is}
use Rattle.build_laws.specs.Law.{IsMeant}
use Rattle.program_files.proofs.TreeLemmas.{meant_of}
use Rattle.range_laws.specs.Laws.{BuiltHaveWidths, MeantHaveWidths}

-- the ends of an interval that is computed lie apart by its width
ends_apart : (kind : RowKind) (b : ℚ) (range : Option ℚ) (ends : Interval) → interval_walk kind b range ≡ Ok ends → Apart ends.0 ends.1 (width range)
ends_apart kind b range ends e =
    subst (λ (x : Interval). Apart x.0 x.1 (width range)) (sym (right-is (record { name = []; stage = 0; kind = kind; range = range }) b (Ok ends) (sym e))) (interval-is kind b range).apart

-- a row has the width of the range that its definition states
abbrev IsWide : List RowDef → NodeRow → Type 0
IsWide defs r = Apart r.low r.high (width (get_or defs r.row no_row).range)

rows_wide : (defs : List RowDef) (built : List NodeRow) (rows : List RowValues) (made : List NodeRow) → Each (IsWide defs) built → value_rows defs built rows ≡ Ok made → Each (IsWide defs) made
rows_wide defs built [] made before e = subst (Each (IsWide defs)) (sym (fine_is built made e)) before
rows_wide defs built (r ∷ rows) made before e =
    let here = then_is (value_interval defs r) _ made e in
    rows_wide defs (built ++ value_row r here.0 ∷ []) rows made
    (each_append (IsWide defs) built (value_row r here.0 ∷ []) before (ends_apart (get_or defs r.row no_row).kind r.rhs (get_or defs r.row no_row).range here.0 here.1, tt)) here.2

-- so it is with the rows of each node; one that isn't there has none
nodes_wide : (defs : List RowDef) (debuts : List Debut) (positions : List Position) (i : ℕ) (all : List Values) (nodes : List (Option Node)) (n : ℕ) →
    AreMade defs debuts positions i all nodes → Each (IsWide defs) (node_at nodes n).rows
nodes_wide defs debuts positions i [] [] n made = tt
nodes_wide defs debuts positions i [] (place ∷ nodes) n made = absurd made
nodes_wide defs debuts positions i (d ∷ all) [] n made = absurd made
nodes_wide defs debuts positions i (d ∷ all) (place ∷ nodes) zero made =
    subst (λ (x : Option Node). Each (IsWide defs) (node_at (x ∷ nodes) 0).rows) (sym made.0.is) (rows_wide defs [] d.rows made.0.rows tt made.0.walk)
nodes_wide defs debuts positions i (d ∷ all) (place ∷ nodes) (suc n) made =
    subst (λ (x : Option Node). Each (IsWide defs) (node_at (x ∷ nodes) (suc n)).rows) (sym made.0.is) (nodes_wide defs debuts positions (suc i) all nodes n made.1)

-- the program has the ranges that the core states; past the last row there is none in either
range_read : (p : Stages) (k i : ℕ) (defs : List RowDef) → (get_or defs i no_row).range ≡ (row_at (rows_from p k defs) i).range
range_read p k i [] = refl
range_read p k zero (r ∷ defs) = refl
range_read p k (suc i) (r ∷ defs) = range_read p (k + 1) i defs

finished : (core : Core) (p : Stages) (debuts : List Debut) (positions : List Position) (scenarios : List Scenario) (all : List Values) (program : Program) →
    finish_walk core p debuts positions scenarios all ≡ Ok program → HasWidths program
finished core p debuts positions scenarios all program e =
    let chances = then_is (chances_walk positions scenarios) _ program e in
    let nodes = then_is (value_nodes core.rows.items debuts positions [] all) _ program chances.2 in
    subst HasWidths (sym (fine_is (program_of core p nodes.0 scenarios) program nodes.2))
    (λ n lives. each-map {P = IsWide core.rows.items} {Q = λ (r : NodeRow). HasWidth (row_at (rows_from p 0 core.rows.items) r.row) r}
    (λ r wide. record { apart = subst (λ (range : Option ℚ). Apart r.low r.high (width range)) (range_read p 0 r.row core.rows.items) wide }) (node_at nodes.0 n).rows
    (nodes_wide core.rows.items debuts positions 0 all nodes.0 n (nodes_made core.rows.items debuts positions all nodes.0 nodes.1)))

pub built_have_widths : BuiltHaveWidths
built_have_widths core p (Blocks blocks) program e =
    let wheels = wheels_of (length p.names) blocks in
    let rows = block_rows (length p.names) wheels in
    let scenarios = then_is (block_paths blocks wheels [] (paths_of rows)) _ program e in
    finished core p (debuts_of rows) (map (position_at (paths_of rows)) (debuts_of rows)) scenarios.0 (block_all core p blocks wheels rows) program scenarios.2
built_have_widths core p (Branches branches) program e =
    let rows = branch_rows (length p.names) [] branches in
    let scenarios = then_is (branch_paths branches [] (paths_of rows)) _ program e in
    finished core p (debuts_of rows) (map (position_at (paths_of rows)) (debuts_of rows)) scenarios.0 (branch_all core p branches rows) program scenarios.2

pub meant_have_widths : MeantHaveWidths
meant_have_widths texts program m =
    let meant : IsMeant m.core m.periods m.random = meant_of m.core m.periods texts.stoch m.random m.random_means in
    built_have_widths m.core m.periods m.random program (meant.walk ∙ m.built_is)
