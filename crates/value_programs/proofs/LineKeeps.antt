-- A program in line keeps what programs keep.
use Rattle.std.proofs.Common.{◌≡◌, ℕ, zero, suc, ◌+◌, ◌-◌, ◌<◌, Bool, true, false, eqb, ◌||◌, List, [], ◌∷◌, length, map, Option}
use Rattle.std.proofs.Common.{refl, sym, ap, subst, ◌∙◌, arith}
use Rattle.std.proofs.lemmas.Bool.{eq-eqb}
use Rattle.rationals.specs.Rational.{one_ℚ, zero_lt_one_ℚ, add_zero_ℚ}
use Rattle.rationals.specs.Sparse.{Entry}
use Rattle.smps_words.specs.Field.{IsField}
use Rattle.scen_defs.specs.declared.program.Column.{Column}
use Rattle.scen_defs.specs.declared.program.Row.{Row}
use Rattle.scen_defs.specs.declared.program.NodeRow.{NodeRow}
use Rattle.scen_defs.specs.Lists.{Each, is_in, passes_at, places}
use Rattle.scen_defs.specs.Program.{Node, Scenario, Program, is_live, node_at}
use Rattle.scen_defs.specs.Valid.{IsProgram, HasParent, Follows, FitsColumn, FitsRow, FitsNode}
use Rattle.scen_defs.proofs.SumLaws.{each-map}
use Rattle.edit_defs.proofs.Lists.{passes-within}
use Rattle.value_programs.specs.Line.{certain, in_line, line_path, stage_before}

path_in : (s n k : ℕ) → k < n → is_in (s + k) (line_path s n) ≡ true
path_in s zero k h = absurd (omega (arith, h))
path_in s (suc n) zero h =
    let first : eqb s (s + 0) ≡ true = eq-eqb s (s + 0) (omega arith) in
    ap (λ (b : Bool). b || is_in (s + 0) (line_path (suc s) n)) first
path_in s (suc n) (suc k) h =
    let next : is_in (suc s + k) (line_path (suc s) n) ≡ true = path_in (suc s) n k (omega (arith, h)) in
    let same : suc s + k ≡ s + suc k = omega arith in
    either (eqb s (s + suc k)) (is_in (s + suc k) (line_path (suc s) n)) (subst (λ m. is_in m (line_path (suc s) n) ≡ true) same next)
  where
    either : (a b : Bool) → b ≡ true → (a || b) ≡ true
    either true b h = refl
    either false b h = h

-- what the node of stage k has, in the words of the program that lends its columns and rows
pub record IsOfStage (p : Program) (k : ℕ) (x : Node) : Type 0 where
  pub stage : x.stage ≡ k
  pub parent : x.parent ≡ stage_before k
  pub cost : Each (λ (e : Entry). passes_at (λ (c : Column). eqb c.stage x.stage) e.column p.columns ≡ true) x.cost
  pub numbers : map (λ (r : NodeRow). r.row) x.rows ≡ places (λ (r : Row). eqb r.stage x.stage) 0 p.rows
  pub rows : Each (FitsRow p x.stage) x.rows

-- each stage has its node
pub record IsLine (p : Program) (nodes : List (Option Node)) : Type 0 where
  pub long : length nodes ≡ length p.periods
  pub live : (k : ℕ) → k < length nodes → passes_at is_live k nodes ≡ true
  pub stages : (k : ℕ) → k < length nodes → IsOfStage p k (node_at nodes k)

module _ (p : Program) (name : List ℕ) (nodes : List (Option Node)) (i : IsProgram p) (named : IsField name) (line : IsLine p nodes) where
  abbrev q : Program
  q = in_line p name nodes

  parent : (k s : ℕ) → k < length nodes → s ≡ k → HasParent q k s (stage_before k)
  parent zero s h e = (refl, e)
  parent (suc k) s h e = record {
    live = line.live k (omega (arith, h));
    earlier = e ∙ ap suc (sym (line.stages k (omega (arith, h))).stage);
    smaller = omega arith;
  }

  row : (s : ℕ) (r : NodeRow) → FitsRow p s r → FitsRow q s r
  row s r h = record { entries = h.entries; in_order = h.in_order; ends = h.ends }

  fits : (k : ℕ) → k < length nodes → FitsNode q k (node_at nodes k)
  fits k h =
      let n = line.stages k h in
      let few = line.long in
      let here : (node_at nodes k).stage ≡ k = n.stage in
      record {
        stage = omega (arith, here, h, few);
        parent = subst (HasParent q k (node_at nodes k).stage) (sym n.parent) (parent k (node_at nodes k).stage h n.stage);
        cost = n.cost;
        numbers = n.numbers;
        rows = each-map (row (node_at nodes k).stage) (node_at nodes k).rows n.rows;
      }

  follows : (s n : ℕ) → s + n ≡ length nodes → Follows q s (stage_before s) (line_path s n)
  follows s zero e = let l = line.long in omega (arith, e, l)
  follows s (suc n) e =
      let h : s < length nodes = omega (arith, e) in
      (line.live s h, (line.stages s h).stage, (line.stages s h).parent, follows (suc s) n (omega (arith, e)))

  pub line_keeps : IsProgram q
  line_keeps = record {
    small = record {
      columns = i.small.columns;
      rows = i.small.rows;
      nodes = let l = line.long in let few = i.few_periods in omega (arith, l, few);
      scenarios = omega arith;
    };
    names = record {
      periods = i.names.periods;
      columns = i.names.columns;
      rows = i.names.rows;
      scenarios = record { fields = (named, tt); differ = (tt, tt) };
    };
    periods = i.periods;
    few_periods = i.few_periods;
    row_stages = i.row_stages;
    columns = each-map (λ (d : Column) (h : FitsColumn p d). record { stage = h.stage; in_order = h.in_order }) p.columns i.columns;
    nodes = λ n live. fits n (passes-within is_live n nodes live);
    scenarios = (record { positive = zero_lt_one_ℚ; path = follows 0 (length nodes) (omega arith) }, tt);
    reached = λ n live. ap (λ (b : Bool). b || false) (ap (λ m. is_in m (line_path 0 (length nodes))) (omega arith) ∙ path_in 0 (length nodes) n (passes-within is_live n nodes live));
    certain = add_zero_ℚ one_ℚ;
  }

pub line_more : (n count : ℕ) → n < count → line_path n (count - n) ≡ n ∷ line_path (n + 1) (count - (n + 1))
line_more n count h =
    let left : count - n ≡ suc (count - (n + 1)) = omega (arith, h) in
    let next : suc n ≡ n + 1 = omega arith in
    ap (line_path n) left ∙ ap (λ m. n ∷ line_path m (count - (n + 1))) next

-- the lists of such a program
pub line_is : (p : Program) (name : List ℕ) (objective rhs : List ℕ) (periods : List (List ℕ)) (columns : List Column) (rows : List Row) (nodes : List (Option Node)) (scenarios : List Scenario)
    → objective ≡ p.objective → rhs ≡ p.rhs → periods ≡ p.periods → columns ≡ p.columns → rows ≡ p.rows
    → scenarios ≡ certain name (length nodes) ∷ []
    → (let q : Program = record { objective = objective; rhs = rhs; periods = periods; columns = columns; rows = rows; nodes = nodes; scenarios = scenarios } in q) ≡ in_line p name nodes
line_is p name objective rhs periods columns rows nodes scenarios a b d e f k = rw (a, b, d, e, f, k) refl
