-- The program of a risk measure, made of one that files mean: there is room for what is added, it has few nodes, is on a tree, and its rows
-- have the widths of their ranges.
use Rattle.std.proofs.Common.{◌≡◌, ◌∙◌, ◌+◌, ◌≤◌, ◌<◌, ◌^◌, ℕ, zero, suc, Bool, true, false, List, [], ◌∷◌, ◌++◌, length, map, Option, Some, None, Ok}
use Rattle.std.proofs.Common.{eqb, refl, sym, ap, ap₂, subst, arith}
use Rattle.std.proofs.lemmas.List.{length-map}
use Rattle.rationals.specs.Rational.{ℚ}
use Rattle.rationals.specs.Choices.{pick}
use Rattle.rationals.specs.Passes.{then_walk}
use Rattle.smps_words.specs.Line.{TextLine, reading_of}
use Rattle.core_defs.specs.declared.parts.ColumnDef.{ColumnDef}
use Rattle.core_defs.specs.declared.parts.RowDef.{RowDef}
use Rattle.core_defs.specs.declared.program.Core.{Core}
use Rattle.core_defs.specs.Core.{row_names, column_names}
use Rattle.core_defs.specs.Stated.{constraints}
use Rattle.core_defs.specs.Step.{most_rows, most_columns}
use Rattle.core_defs.proofs.Gathered.{Sound, data_on, names_in}
use Rattle.core_defs.proofs.Texts.{whole_data, whole_sound}
use Rattle.time_defs.specs.Means.{Stages}
use Rattle.scen_defs.specs.declared.program.Row.{Row}
use Rattle.scen_defs.specs.declared.program.NodeRow.{NodeRow}
use Rattle.scen_defs.specs.Lists.{Each, passes_at}
use Rattle.scen_defs.specs.Program.{Node, Program, is_live, node_at}
use Rattle.scen_defs.specs.Valid.{FitsNode, IsProgram, Lives, row_at}
use Rattle.scen_defs.proofs.Valid.{each-place}
use Rattle.scen_tree.specs.declared.position.Position.{Position}
use Rattle.scen_tree.specs.Chances.{chances_walk}
use Rattle.scen_tree.specs.Trees.{position_by, position_of as place_of, tree_by}
use Rattle.build_defs.specs.Scenarios.{Scenario, scenarios_of}
use Rattle.build_defs.specs.Nodes.{Stand, nodes_of}
use Rattle.build_defs.specs.Built.{position_of, nodes_from, program_of, columns_from, rows_from, paths_from, built_from}
use Rattle.build_defs.proofs.ChanceLemmas.{then_is, fine_is}
use Rattle.edit_defs.specs.Intervals.{HasWidth}
use Rattle.edit_defs.specs.Shifts.{HasWidths}
use Rattle.edit_defs.proofs.Lists.{passes-within, each-append, each-unmapped}
use Rattle.command_words.specs.declared.command.RiskMeasure.{RiskMeasure}
use Rattle.command_words.specs.Ranges.{IsRiskMeasure}
use Rattle.input_files.specs.Fetched.{Texts}
use Rattle.program_files.specs.Meant.{MeansProgram}
use Rattle.range_laws.proofs.Widths.{meant_have_widths}
use Rattle.tail_risk.specs.TailRow.{tail_row}
use Rattle.tail_risk.specs.TailProgram.{last_stage, r_added, added_row, tail_place, tail_nodes, with_nodes, rates_of, tail_of}
use Rattle.tail_risk.proofs.RiskProofs.{risk_is_attained, risk_is_least}
use Rattle.tail_risk.proofs.TailKeeps.{lives_here, node_there, nodes_long}
use Rattle.nested_method.specs.Stands.{HasFewNodes}
use Rattle.smps_session.specs.Comes.{IsOnTree}
use Rattle.smps_cli.specs.Risks.{CostsAreRisks, IsRiskProgram}
use Rattle.smps_cli.proofs.Few.{few_nodes}
use Rattle.smps_cli.proofs.OnTrees.{on_tree}

-- ---- a program that files mean has few columns and rows
columns_long : (p : Stages) (k : ℕ) (defs : List ColumnDef) → length (columns_from p k defs) ≡ length defs
columns_long p k [] = refl
columns_long p k (c ∷ defs) = ap suc (columns_long p (k + 1) defs)

rows_long : (p : Stages) (k : ℕ) (defs : List RowDef) → length (rows_from p k defs) ≡ length defs
rows_long p k [] = refl
rows_long p k (r ∷ defs) = ap suc (rows_long p (k + 1) defs)

built_parts : (core : Core) (p : Stages) (scenarios : List Scenario) (firsts : List Stand) (program : Program)
    → built_from core p scenarios firsts ≡ Ok program
    → (length program.columns ≡ length core.columns.items) × (length program.rows ≡ length core.rows.items)
built_parts core p scenarios firsts program e =
    let paths = then_is (paths_from (length p.names) firsts [] scenarios) _ program e in
    let chances = then_is (chances_walk (map (position_of firsts) firsts) paths.0) _ program paths.2 in
    let nodes = then_is (nodes_from core p firsts [] firsts) _ program chances.2 in
    let same : program ≡ program_of core p nodes.0 paths.0 = fine_is (program_of core p nodes.0 paths.0) program nodes.2 in (
      ap (λ (x : Program). length x.columns) same ∙ columns_long p 0 core.columns.items,
      ap (λ (x : Program). length x.rows) same ∙ rows_long p 0 core.rows.items,
    )

module _ (texts : Texts) (program : Program) (m : MeansProgram texts program) where
  abbrev lines : List TextLine
  lines = (reading_of 0 texts.core).lines

  sound : Sound (data_on lines)
  sound =
      let file = m.core_means.read in
      subst Sound (sym (whole_data lines file.number file.read file.whole)) (whole_sound lines file.number file.read file.whole)

  few_rows : length m.core.rows.items ≤ most_rows
  few_rows =
      let few : length (constraints lines) ≤ most_rows = sound.rows.few in
      let same : length (row_names m.core.rows.items) ≡ length (constraints lines) = ap length m.core_means.means.rows in
      omega (arith, few, same, length-map m.core.rows.items (λ (row : RowDef). row.name))

  few_columns : length m.core.columns.items ≤ most_columns
  few_columns =
      let few : length (names_in (data_on lines)) ≤ most_columns = sound.columns.few in
      let same : length (column_names m.core.columns.items) ≡ length (names_in (data_on lines)) = ap length m.core_means.means.columns in
      omega (arith, few, same, length-map m.core.columns.items (λ (column : ColumnDef). column.name))

  parts : (length program.columns ≡ length m.core.columns.items) × (length program.rows ≡ length m.core.rows.items)
  parts =
      built_parts m.core m.periods (scenarios_of m.periods m.random) (nodes_of (length m.periods.names) (scenarios_of m.periods m.random))
      program m.built_is

  pub room_of_columns : length program.columns + 2 < 2 ^ 32
  room_of_columns = omega (arith, few_columns, parts.0)

  pub room_of_rows : length program.rows + 1 < 2 ^ 32
  room_of_rows = omega (arith, few_rows, parts.1)

-- ---- what is made of a program
picked : (b c : Bool) (x : Node) → b ≡ c → place_of (pick b (Some x) None) ≡ place_of (pick c (Some x) None)
picked b c x e = ap (λ (t : Bool). place_of (pick t (Some x) None)) e

module _ (p : Program) (level weight : ℚ) where
  abbrev q : Program
  q = with_nodes p (tail_nodes p (rates_of level weight) 0 (length p.nodes))

  -- each node stands in the tree where it stood
  here : (place : Option Node) (n : ℕ) → passes_at is_live n p.nodes ≡ is_live place → ((x : Node) → place ≡ Some x → node_at p.nodes n ≡ x)
      → place_of (tail_place p (rates_of level weight) n) ≡ place_of place
  here None n live at = picked (passes_at is_live n p.nodes) false _ live
  here (Some x) n live at =
      let first : place_of (tail_place p (rates_of level weight) n) ≡ position_by (node_at p.nodes n).parent =
      picked (passes_at is_live n p.nodes) true _ live in
      first ∙ ap (λ (y : Node). position_by y.parent) (at x refl)

  from : (n : ℕ) (rest : List (Option Node)) → ((k : ℕ) → passes_at is_live (n + k) p.nodes ≡ passes_at is_live k rest)
      → ((k : ℕ) → node_at p.nodes (n + k) ≡ node_at rest k)
      → map place_of (tail_nodes p (rates_of level weight) n (length rest)) ≡ map place_of rest
  from n [] live at = refl
  from n (place ∷ rest) live at =
      let first : n ≡ n + 0 = omega arith in
      ap₂ (λ (x : Position) (xs : List Position). x ∷ xs)
      (here place n (ap (λ k. passes_at is_live k p.nodes) first ∙ live 0) (λ x e. ap (λ k. node_at p.nodes k) first ∙ at 0 ∙ found place x e))
      (from (suc n) rest
      (λ k. let next : suc n + k ≡ n + suc k = omega arith in ap (λ i. passes_at is_live i p.nodes) next ∙ live (suc k))
      (λ k. let next : suc n + k ≡ n + suc k = omega arith in ap (λ i. node_at p.nodes i) next ∙ at (suc k) ∙ behind place k))
    where
      found : (place : Option Node) (x : Node) → place ≡ Some x → node_at (place ∷ rest) 0 ≡ x
      found None x e = absurd (cc)
      found (Some y) x e = let same : y ≡ x = cc in same

      behind : (place : Option Node) (k : ℕ) → node_at (place ∷ rest) (suc k) ≡ node_at rest k
      behind None k = refl
      behind (Some x) k = refl

  places_stay : map place_of q.nodes ≡ map place_of p.nodes
  places_stay =
      from 0 p.nodes (λ k. let same : 0 + k ≡ k = omega arith in ap (λ i. passes_at is_live i p.nodes) same)
      (λ k. let same : 0 + k ≡ k = omega arith in ap (λ i. node_at p.nodes i) same)

  stays_on_tree : IsOnTree p → IsOnTree q
  stays_on_tree t = (
    t.0,
    ap (λ (positions : List Position). then_walk (chances_walk positions p.scenarios) (λ chances. Ok (tree_by positions chances))) places_stay ∙ t.1,
  )

  stays_few : HasFewNodes p → HasFewNodes q
  stays_few few = omega (arith, few, nodes_long p (rates_of level weight))

  -- ---- rows
  abbrev IsWideIn : List Row → NodeRow → Type 0
  IsWideIn rows r = HasWidth (row_at rows r.row) r

  old_row : (k : ℕ) (rows : List Row) → k < length rows → row_at (rows ++ r_added p ∷ []) k ≡ row_at rows k
  old_row k [] h = absurd (omega (arith, h))
  old_row zero (row ∷ rows) h = refl
  old_row (suc k) (row ∷ rows) h = old_row k rows (omega (arith, h))

  old_rows : (rows : List NodeRow) → Each (λ (r : NodeRow). r.row < length p.rows) rows → Each (IsWideIn p.rows) rows → Each (IsWideIn q.rows) rows
  old_rows [] a b = tt
  old_rows (r ∷ rows) a b = (subst (λ (row : Row). HasWidth row r) (sym (old_row r.row p.rows a.0)) b.0, old_rows rows a.1 b.1)

  -- the row that is added has one end
  new_row : (n : ℕ) (b : Bool) → Each (IsWideIn q.rows) (pick b (tail_row p n ∷ []) [])
  new_row n true = (record { apart = tt }, tt)
  new_row n false = tt

  module _ (i : IsProgram p) (wide : HasWidths p) where
    small_rows : (n : ℕ) → Lives p n → Each (λ (r : NodeRow). r.row < length p.rows) (node_at p.nodes n).rows
    small_rows n l =
        let f : FitsNode p n (node_at p.nodes n) = i.nodes n l in
        each-unmapped (λ (k : ℕ). k < length p.rows) (λ (r : NodeRow). r.row) (node_at p.nodes n).rows
        (subst (Each (λ (k : ℕ). k < length p.rows)) (sym f.numbers)
        (each-place (λ (k : ℕ). k < length p.rows) (λ (r : Row). eqb r.stage (node_at p.nodes n).stage) p.rows
        (λ k h. passes-within (λ (r : Row). eqb r.stage (node_at p.nodes n).stage) k p.rows h)))

    stay_wide : HasWidths q
    stay_wide n lives =
        let l : Lives p n = lives_here p (rates_of level weight) n lives in
        subst (λ (x : Node). Each (IsWideIn q.rows) x.rows) (sym (node_there p (rates_of level weight) n l))
        (each-append (IsWideIn q.rows) (node_at p.nodes n).rows (added_row p n (node_at p.nodes n).stage)
        (old_rows (node_at p.nodes n).rows (small_rows n l) (wide n l)) (new_row n (eqb (last_stage p) (node_at p.nodes n).stage)))

pub risk_program : (m : RiskMeasure) (texts : Texts) (read made : Program) → IsRiskMeasure m → MeansProgram texts read → IsProgram read
    → made ≡ tail_of read m.level m.weight → IsRiskProgram m read made
risk_program m texts read made range means i e =
    record {
      is = e;
      risks = subst (CostsAreRisks m read) (sym e) (record {
        attained = λ x h f. risk_is_attained read m.level m.weight i x h f;
        least = λ y f. risk_is_least read m.level m.weight i range.below range.weight y f;
      });
      few = subst HasFewNodes (sym e) (stays_few read m.level m.weight (few_nodes texts read means));
      tree = subst IsOnTree (sym e) (stays_on_tree read m.level m.weight (on_tree texts read means));
      widths = subst HasWidths (sym e) (stay_wide read m.level m.weight i (meant_have_widths texts read means));
    }
