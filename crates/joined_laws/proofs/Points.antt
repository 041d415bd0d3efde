-- The points of all nodes together fit the program.
use Rattle.std.proofs.Common.{◌≡◌, ℕ, Bool, true, false, eqb, List, Option, None, map, refl, sym, subst}
use Rattle.rationals.specs.Sparse.{Entry}
use Rattle.scen_defs.specs.declared.program.Column.{Column}
use Rattle.scen_defs.specs.declared.report.Kind.{Kind}
use Rattle.scen_defs.specs.declared.report.Kind.TheVariants.{Feasible, Recession, Cost}
use Rattle.scen_defs.specs.Lists.{Each, Once, passes_at, places}
use Rattle.scen_defs.specs.Program.{Program, is_live, node_at}
use Rattle.scen_defs.specs.Valid.{Lives}
use Rattle.scen_defs.proofs.SumLaws.{each-map, each-once}
use Rattle.scen_defs.proofs.Valid.{each-place}
use Rattle.scen_model.specs.Derived.{is_column_of}
use Rattle.edit_defs.specs.Data.{view_in}
use Rattle.dual_assemble.specs.Values.{point_entries}
use Rattle.found_ends.specs.declared.last.Last.{Last}
use Rattle.found_ends.specs.Lasts.{last_at, last_point, joined_points}
use Rattle.joined_laws.specs.Points.{MeetsAt, AllMeet, point_at}
use Rattle.joined_laws.proofs.Joined.{points_at}
use Rattle.joined_laws.specs.Fits.{PoliciesFit}
use Rattle.joined_laws.proofs.Lists.{FitsAt, column_fits, all_each, all_fits}

of_stage : (p : Program) (s j : ℕ) → Once j (places (λ (c : Column). eqb c.stage s) 0 p.columns) → is_column_of p s j ≡ true
of_stage p s j h = each-once (λ k. is_column_of p s k ≡ true) j (places (λ (c : Column). eqb c.stage s) 0 p.columns) h
    (each-place (λ k. is_column_of p s k ≡ true) (λ (c : Column). eqb c.stage s) p.columns (λ k e. e))

-- a column of a stage, in the form of any run
own_column : (kind : Kind) (p : Program) (n j : ℕ) → Once j ((view_in kind p).columns ((view_in kind p).stage n))
    → is_column_of p (node_at p.nodes n).stage j ≡ true
own_column Feasible p n j h = of_stage p (node_at p.nodes n).stage j h
own_column Recession p n j h = of_stage p (node_at p.nodes n).stage j h
own_column Cost p n j h = of_stage p (node_at p.nodes n).stage j h

module _ (kind : Kind) (p : Program) (lasts : List (Option Last)) (h : AllMeet kind p lasts)
    (absent : (n : ℕ) → passes_at is_live n p.nodes ≡ false → last_at lasts n ≡ None) where
  live_fits : (n : ℕ) → Lives p n → MeetsAt kind p lasts n → Each (λ (e : Entry). FitsAt p false n e.column) (point_at lasts n)
  live_fits n l m = subst (λ (o : Option Last). Each (λ (e : Entry). FitsAt p false n e.column) (point_entries (last_point o)))
      (sym m.there)
      (each-map {Q = λ (e : Entry). FitsAt p false n e.column}
      (λ e o. column_fits p n e.column l (own_column kind p n e.column o)) m.last.point m.own)

  point_fits : (n : ℕ) (b : Bool) → passes_at is_live n p.nodes ≡ b → Each (λ (e : Entry). FitsAt p false n e.column) (point_at lasts n)
  point_fits n true l = live_fits n l (h n l)
  point_fits n false l = subst (λ (o : Option Last). Each (λ (e : Entry). FitsAt p false n e.column) (point_entries (last_point o)))
      (sym (absent n l)) tt

pub policies_fit : PoliciesFit
policies_fit kind p lasts i h absent =
    all_fits p false (joined_points lasts) (all_each (FitsAt p false) (map point_entries (map last_point lasts))
    (λ n. subst (λ (f : List Entry). Each (λ (e : Entry). FitsAt p false n e.column) f) (sym (points_at lasts n))
    (point_fits kind p lasts h absent n (passes_at is_live n p.nodes) refl)))
