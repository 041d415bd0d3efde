-- A program whose decisions of the first period are fixed keeps what programs keep.
use Rattle.std.proofs.Common.{◌≡◌, ℕ, zero, suc, ◌<◌, ◌^◌, Bool, true, false, eqb, leb, List, [], ◌∷◌, length, map, Option, Some, None}
use Rattle.std.proofs.Common.{refl, sym, ap, ap₂, subst, ◌∙◌}
use Rattle.rationals.specs.Rational.{le_refl_ℚ}
use Rattle.rationals.specs.Choices.{pick}
use Rattle.rationals.specs.Sparse.{Entry}
use Rattle.scen_defs.specs.declared.report.Kind.TheVariants.{Cost}
use Rattle.scen_defs.specs.declared.program.Column.{Column}
use Rattle.scen_defs.specs.declared.program.NodeRow.{NodeRow}
use Rattle.scen_defs.specs.Lists.{Each, passes_at}
use Rattle.scen_defs.specs.Program.{Node, Scenario, Program, node_at}
use Rattle.scen_defs.specs.Valid.{IsProgram, HasParent, Follows, FitsColumn, FitsRow, FitsNode, FitsScenario, AreNames}
use Rattle.scen_defs.proofs.SumLaws.{each-map}
use Rattle.scen_defs.specs.Values.{At, at}
use Rattle.scen_nodes.specs.Derived.{derived, derived_column, derived_place, derived_row}
use Rattle.value_programs.specs.Fixed.{fixed_program, held_at, held_from}

abbrev held : List At → ℕ → Column → Column
held v j c = pick (eqb c.stage 0) (held_at v j c) c

-- ---- a column that is held has the same name and stage, and bounds in order
held_stage : (v : List At) (j : ℕ) (c : Column) → (held v j c).stage ≡ c.stage
held_stage v j c = go (eqb c.stage 0)
  where
    go : (b : Bool) → (pick b (held_at v j c) c).stage ≡ c.stage
    go true = refl
    go false = refl

held_name : (v : List At) (j : ℕ) (c : Column) → (held v j c).name ≡ c.name
held_name v j c = go (eqb c.stage 0)
  where
    go : (b : Bool) → (pick b (held_at v j c) c).name ≡ c.name
    go true = refl
    go false = refl

held_long : (v : List At) (j : ℕ) (cs : List Column) → length (held_from v j cs) ≡ length cs
held_long v j [] = refl
held_long v j (c ∷ cs) = ap suc (held_long v (suc j) cs)

held_names : (v : List At) (j : ℕ) (cs : List Column) → map (λ (c : Column). c.name) (held_from v j cs) ≡ map (λ (c : Column). c.name) cs
held_names v j [] = refl
held_names v j (c ∷ cs) = ap₂ (λ n l. n ∷ l) (held_name v j c) (held_names v (suc j) cs)

held_passes : (test : ℕ → Bool) (v : List At) (j k : ℕ) (cs : List Column)
    → passes_at (λ (c : Column). test c.stage) k (held_from v j cs) ≡ passes_at (λ (c : Column). test c.stage) k cs
held_passes test v j k [] = refl
held_passes test v j zero (c ∷ cs) = ap test (held_stage v j c)
held_passes test v j (suc k) (c ∷ cs) = held_passes test v (suc j) k cs

module _ (p : Program) (v : List At) (i : IsProgram p) where
  abbrev q : Program
  q = fixed_program p v

  column : (j : ℕ) (c : Column) → FitsColumn p c → FitsColumn q (held v j c)
  column j c h = go (eqb c.stage 0)
    where
      go : (b : Bool) → FitsColumn q (pick b (held_at v j c) c)
      go true = record { stage = h.stage; in_order = le_refl_ℚ (at v 0 j) }
      go false = record { stage = h.stage; in_order = h.in_order }

  columns : (j : ℕ) (cs : List Column) → Each (FitsColumn p) cs → Each (FitsColumn q) (held_from v j cs)
  columns j [] h = tt
  columns j (c ∷ cs) h = (column j c h.0, columns (suc j) cs h.1)

  row : (stage : ℕ) (r : NodeRow) → FitsRow p stage r → FitsRow q stage r
  row stage r h = record {
    entries = each-map (λ (e : Entry) fits. held_passes (λ s. leb s stage) v 0 e.column p.columns ∙ fits) r.entries h.entries;
    in_order = h.in_order;
    ends = h.ends;
  }

  parent : (n stage : ℕ) (m : Option ℕ) → HasParent p n stage m → HasParent q n stage m
  parent n stage None h = h
  parent n stage (Some m) h = record { live = h.live; earlier = h.earlier; smaller = h.smaller }

  node : (n : ℕ) (x : Node) → FitsNode p n x → FitsNode q n x
  node n x h = record {
    stage = h.stage;
    parent = parent n x.stage x.parent h.parent;
    cost = each-map (λ (e : Entry) fits. held_passes (λ s. eqb s x.stage) v 0 e.column p.columns ∙ fits) x.cost h.cost;
    numbers = h.numbers;
    rows = each-map (row x.stage) x.rows h.rows;
  }

  follows : (s : ℕ) (above : Option ℕ) (path : List ℕ) → Follows p s above path → Follows q s above path
  follows s above [] h = h
  follows s above (n ∷ path) h = (h.0, h.1, h.2, follows (suc s) (Some n) path h.3)

  pub fixed_program_keeps : IsProgram q
  fixed_program_keeps = record {
    small = record {
      columns = subst (λ (n : ℕ). n < 2 ^ 32) (sym (held_long v 0 p.columns)) i.small.columns;
      rows = i.small.rows;
      nodes = i.small.nodes;
      scenarios = i.small.scenarios;
    };
    names = record {
      periods = i.names.periods;
      columns = subst AreNames (sym (held_names v 0 p.columns)) i.names.columns;
      rows = i.names.rows;
      scenarios = i.names.scenarios;
    };
    periods = i.periods;
    few_periods = i.few_periods;
    row_stages = i.row_stages;
    columns = columns 0 p.columns i.columns;
    nodes = λ n live. node n (node_at p.nodes n) (i.nodes n live);
    scenarios = each-map (λ (s : Scenario) (h : FitsScenario p s). record { positive = h.positive; path = follows 0 None s.path h.path }) p.scenarios i.scenarios;
    reached = i.reached;
    certain = i.certain;
  }

-- ---- a copy is the same
same_rows : (rows : List NodeRow) → map (derived_row Cost) rows ≡ rows
same_rows [] = refl
same_rows (r ∷ rows) = ap (λ l. r ∷ l) (same_rows rows)

same_nodes : (nodes : List (Option Node)) → map (derived_place Cost) nodes ≡ nodes
same_nodes [] = refl
same_nodes (None ∷ nodes) = ap (λ (l : List (Option Node)). None ∷ l) (same_nodes nodes)
same_nodes (Some n ∷ nodes) = ap₂ (λ (m : Node) (l : List (Option Node)). Some m ∷ l)
    (ap (λ rows. let m : Node = record { stage = n.stage; parent = n.parent; cost = n.cost; rows = rows } in m) (same_rows n.rows)) (same_nodes nodes)

same_program : (p : Program) → derived Cost p ≡ record p { columns = map (derived_column Cost) p.columns }
same_program p = ap (λ nodes. let q : Program = record p { columns = map (derived_column Cost) p.columns; nodes = nodes } in q) (same_nodes p.nodes)

-- a copy with other columns
pub fixed_is : (p copy : Program) (v : List At) (columns : List Column) → copy ≡ derived Cost p → columns ≡ held_from v 0 p.columns → record copy { columns = columns } ≡ fixed_program p v
fixed_is p copy v columns e h =
    ap (λ (x : Program). let y : Program = record x { columns = columns } in y) (e ∙ same_program p)
    ∙ ap (λ l. let y : Program = record p { columns = l } in y) h

pub fixed_parts : (p copy : Program) (v : List At) (columns : List Column) → IsProgram p → copy ≡ derived Cost p → columns ≡ held_from v 0 p.columns → IsProgram (record copy { columns = columns })
fixed_parts p copy v columns i e h = subst IsProgram (sym (fixed_is p copy v columns e h)) (fixed_program_keeps p v i)
