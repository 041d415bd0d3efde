-- The rows and the nodes of values that are meant.
use Rattle.std.proofs.Common.{◌≡◌, ◌∙◌, ap, ap₂, refl, subst, ℕ, suc, List, [], ◌∷◌, ◌++◌, Option, Some, None, map, length, get_or, arith}
use Rattle.std.proofs.lemmas.List.{length_push}
use Rattle.core_defs.specs.declared.program.Core.{Core}
use Rattle.time_defs.specs.Means.{Stages}
use Rattle.stoch_defs.specs.Random.{Sets}
use Rattle.scen_defs.specs.Program.{Node}
use Rattle.scen_defs.specs.declared.program.NodeRow.{NodeRow}
use Rattle.scen_tree.specs.declared.position.Position.{Position}
use Rattle.scen_tree.specs.declared.position.Position.TheVariants.{Root}
use Rattle.scen_tree.specs.Trees.{position_by}
use Rattle.build_defs.specs.Nodes.{Stand, parent_of, costs_at, rows_at}
use Rattle.build_defs.specs.Built.{node_row, row_interval, node_rows, node_at, nodes_from}
use Rattle.tree_build.specs.declared.numbering.Debut.{Debut}
use Rattle.tree_build.specs.Values.{row_values}
use Rattle.tree_build.specs.Finish.{value_rows, value_node, value_nodes, no_debut, parent_in}
use Rattle.build_laws.proofs.Numbered.{no_scenario}
use Rattle.build_laws.proofs.Tables.{then_same, then_by}
use Rattle.build_laws.proofs.BlockValues.{meant_values}

pub rows_meant : (core : Core) (sets : Sets) (built : List NodeRow) (rows : List ℕ) → value_rows core.rows.items built (map (row_values core sets) rows) ≡ node_rows core sets built rows
rows_meant core sets built [] = refl
rows_meant core sets built (i ∷ rows) =
    then_same (row_interval core sets i) (λ ends. value_rows core.rows.items (built ++ node_row core sets i ends ∷ []) (map (row_values core sets) rows)) (λ ends. node_rows core sets (built ++ node_row core sets i ends ∷ []) rows)
    (λ ends. rows_meant core sets (built ++ node_row core sets i ends ∷ []) rows)

parent_back : (parent : Option ℕ) → parent_in (position_by parent) ≡ parent
parent_back None = refl
parent_back (Some n) = refl

-- what stands for a node past the last one
abbrev pub no_stand : Stand
no_stand = record { scenario = no_scenario; stage = 0 }

-- the nodes from number i on are of these stages and parents
pub record IsPlaced (all : List Stand) (debuts : List Debut) (positions : List Position) (i : ℕ) (first : Stand) : Type 0 where
  pub stage : (get_or debuts i no_debut).stage ≡ first.stage
  pub position : get_or positions i Root ≡ position_by (parent_of all first)

abbrev pub ArePlaced : List Stand → List Debut → List Position → ℕ → List Stand → Type 0
ArePlaced all debuts positions i [] = Unit {0}
ArePlaced all debuts positions i (first ∷ firsts) = IsPlaced all debuts positions i first × ArePlaced all debuts positions (suc i) firsts

node_same : (core : Core) (p : Stages) (all : List Stand) (debut : Debut) (position : Position) (first : Stand) (rows : List NodeRow) → debut.stage ≡ first.stage → position ≡ position_by (parent_of all first) →
    value_node debut position (meant_values core p first) rows ≡ node_at core p all first rows
node_same core p all debut position first rows stage place =
    ap₂ (λ (s : ℕ) (parent : Option ℕ). let n : Node = record { stage = s; parent = parent; cost = costs_at core first.scenario.sets first.stage p.columns; rows = rows } in n)
    stage (ap parent_in place ∙ parent_back (parent_of all first))

pub nodes_meant : (core : Core) (p : Stages) (all : List Stand) (debuts : List Debut) (positions : List Position) (built : List (Option Node)) (firsts : List Stand) →
    ArePlaced all debuts positions (length built) firsts → value_nodes core.rows.items debuts positions built (map (meant_values core p) firsts) ≡ nodes_from core p all built firsts
nodes_meant core p all debuts positions built [] placed = refl
nodes_meant core p all debuts positions built (first ∷ firsts) placed =
    then_by (value_rows core.rows.items [] (map (row_values core first.scenario.sets) (rows_at first.stage p.rows))) (node_rows core first.scenario.sets [] (rows_at first.stage p.rows))
    (λ rows. value_nodes core.rows.items debuts positions (built ++ Some (value_node (get_or debuts (length built) no_debut) (get_or positions (length built) Root) (meant_values core p first) rows) ∷ []) (map (meant_values core p) firsts))
    (λ rows. nodes_from core p all (built ++ Some (node_at core p all first rows) ∷ []) firsts)
    (rows_meant core first.scenario.sets [] (rows_at first.stage p.rows))
    (λ rows.
    ap (λ (n : Node). value_nodes core.rows.items debuts positions (built ++ Some n ∷ []) (map (meant_values core p) firsts))
    (node_same core p all (get_or debuts (length built) no_debut) (get_or positions (length built) Root) first rows placed.0.stage placed.0.position)
    ∙ nodes_meant core p all debuts positions (built ++ Some (node_at core p all first rows) ∷ []) firsts
    (subst (λ (k : ℕ). ArePlaced all debuts positions k firsts) (one_more (Some (node_at core p all first rows))) placed.1))
  where
    one_more : (node : Option Node) → suc (length built) ≡ length (built ++ node ∷ [])
    one_more node = omega (arith, length_push built node)
