-- What a core states of the nodes of a stage.
use Rattle.std.proofs.Common.{◌≡◌, ◌∙◌, ap, ap₂, refl, ℕ, zero, suc, ◌+◌, ◌<◌, ◌≤◌, Bool, true, false, ◌&&◌, List, [], ◌∷◌, ◌++◌, length, get_or, map, nat_eq, nat_lt, arith, add-one}
use Rattle.std.proofs.lemmas.Bool.Decides.{nat_tests}
use Rattle.rationals.specs.Rational.{ℚ}
use Rattle.rationals.specs.Sparse.{Entry as Term, coefficient}
use Rattle.rationals.specs.Forms.{put}
use Rattle.rationals.specs.Choices.{pick}
use Rattle.scen_defs.specs.Lists.{places}
use Rattle.smps_words.specs.declared.entry.Entry.TheVariants.{Cost, Matrix}
use Rattle.core_defs.specs.declared.program.Core.{Core}
use Rattle.core_defs.specs.declared.parts.ColumnDef.{ColumnDef}
use Rattle.core_defs.specs.declared.parts.RowDef.{RowDef}
use Rattle.time_defs.specs.Means.{Stages}
use Rattle.stoch_defs.specs.Entries.{no_column, no_row}
use Rattle.smps_build.specs.Gathered.{entries_from, forms_from}
use Rattle.build_defs.specs.Nodes.{value_in, form_at}
use Rattle.build_defs.specs.Scenarios.{stages_from}
use Rattle.tree_build.specs.declared.parts.RowValues.{RowValues}
use Rattle.tree_build.specs.declared.parts.Values.{Values as ValuesOf}
use Rattle.tree_build.specs.Values.{Values, row_values, values_of, values_content, all_content}
use Rattle.tree_build.specs.Base.{base_costs, base_row, base_rows}

costs_are : (core : Core) (stage j : ℕ) (stages : List ℕ) → base_costs core.columns.items stage j stages ≡ form_at (λ at. nat_eq at stage) (λ j. value_in core [] (Cost j)) j stages
costs_are core stage j [] = refl
costs_are core stage j (at ∷ stages) =
    ap (λ (rest : List Term). pick (nat_eq at stage) (put j (get_or core.columns.items j no_column).cost rest) rest) (costs_are core stage (suc j) stages)

entries_are : (core : Core) (i k : ℕ) (rest : List ColumnDef) → ((d : ℕ) → d < length rest → get_or rest d no_column ≡ get_or core.columns.items (k + d) no_column) →
    entries_from i k rest ≡ form_at (λ (column : ColumnDef). true) (λ j. value_in core [] (Matrix i j)) k rest
entries_are core i k [] same = refl
entries_are core i k (column ∷ rest) same =
    ap₂ (λ (v : ℚ) (others : List Term). put k v others)
    (ap (λ (c : ColumnDef). coefficient c.entries i) (same 0 (omega arith) ∙ ap (λ m. get_or core.columns.items m no_column) (let e : k + 0 ≡ k = omega arith in e)))
    (entries_are core i (suc k) rest (λ d below. same (suc d) (omega arith) ∙ ap (λ m. get_or core.columns.items m no_column) (let e : k + suc d ≡ suc k + d = omega arith in e)))

form_of : (cs : List ColumnDef) (n i : ℕ) (rs : List RowDef) → i < length rs → get_or (forms_from cs n rs) i [] ≡ entries_from (n + i) 0 cs
form_of cs n i [] below = absurd (omega (arith, below))
form_of cs n zero (r ∷ rs) below = ap (λ m. entries_from m 0 cs) (let e : n ≡ n + 0 = omega arith in e)
form_of cs n (suc i) (r ∷ rs) below = form_of cs (suc n) i rs (omega arith) ∙ ap (λ m. entries_from m 0 cs) (let e : suc n + i ≡ n + suc i = omega arith in e)

forms_length : (cs : List ColumnDef) (n : ℕ) (rs : List RowDef) → length (forms_from cs n rs) ≡ length rs
forms_length cs n [] = refl
forms_length cs n (r ∷ rs) = ap suc (forms_length cs (suc n) rs)

row_is : (core : Core) (i : ℕ) → i < length core.rows.items → base_row core.rows.items (forms_from core.columns.items 0 core.rows.items) i ≡ row_values core [] i
row_is core i below =
    ap (λ (entries : List Term). let r : RowValues = record { row = i; entries = entries; rhs = (get_or core.rows.items i no_row).rhs } in r)
    (form_of core.columns.items 0 i core.rows.items below ∙ ap (λ m. entries_from m 0 core.columns.items) (let e : 0 + i ≡ i = omega arith in e)
    ∙ entries_are core i 0 core.columns.items (λ d inside. ap (λ m. get_or core.columns.items m no_column) (let e : d ≡ 0 + d = omega arith in e)))

rows_are : (core : Core) (stage i : ℕ) (stages : List ℕ) → i + length stages ≤ length core.rows.items →
    base_rows core.rows.items (forms_from core.columns.items 0 core.rows.items) stage i stages ≡ map (row_values core []) (places (λ at. nat_eq at stage) i stages)
rows_are core stage i [] room = refl
rows_are core stage i (at ∷ stages) room =
    let within : nat_lt i (length (forms_from core.columns.items 0 core.rows.items)) ≡ true = grind (arith, nat_tests, forms_length core.columns.items 0 core.rows.items, room) in
    let rest = rows_are core stage (suc i) stages (omega arith) in
    go (nat_eq at stage) (nat_lt i (length (forms_from core.columns.items 0 core.rows.items))) within rest
  where
    go : (b a : Bool) → a ≡ true → base_rows core.rows.items (forms_from core.columns.items 0 core.rows.items) stage (suc i) stages ≡ map (row_values core []) (places (λ at. nat_eq at stage) (suc i) stages) →
        pick (b && a) (base_row core.rows.items (forms_from core.columns.items 0 core.rows.items) i ∷ base_rows core.rows.items (forms_from core.columns.items 0 core.rows.items) stage (suc i) stages)
        (base_rows core.rows.items (forms_from core.columns.items 0 core.rows.items) stage (suc i) stages)
        ≡ map (row_values core []) (elim b [ true ↦ i ∷ places (λ at. nat_eq at stage) (suc i) stages | false ↦ places (λ at. nat_eq at stage) (suc i) stages ])
    go true true is rest = ap₂ (λ (x : RowValues) (xs : List RowValues). x ∷ xs) (row_is core i (omega arith)) rest
    go true false is rest = cc
    go false a is rest = rest

pub rows_of_base : (core : Core) (p : Stages) (stage : ℕ) (forms : List (List Term)) (rows : List RowValues) → length p.rows ≡ length core.rows.items → forms ≡ forms_from core.columns.items 0 core.rows.items →
    rows ≡ base_rows core.rows.items forms stage 0 p.rows → rows ≡ (values_of core p [] stage).rows
rows_of_base core p stage forms rows long made given =
    given ∙ ap (λ (all : List (List Term)). base_rows core.rows.items all stage 0 p.rows) made ∙ rows_are core stage 0 p.rows (omega (arith, long))

pub base_is : (core : Core) (p : Stages) (stage : ℕ) (forms : List (List Term)) (cost : List Term) (rows : List RowValues) → length p.rows ≡ length core.rows.items →
    forms ≡ forms_from core.columns.items 0 core.rows.items → cost ≡ base_costs core.columns.items stage 0 p.columns → rows ≡ base_rows core.rows.items forms stage 0 p.rows →
    (let d : Values = record { cost = cost; rows = rows } in d) ≡ values_of core p [] stage
base_is core p stage forms cost rows long made costs given =
    ap₂ (λ (c : List Term) (r : List RowValues). let d : Values = record { cost = c; rows = r } in d)
    (costs ∙ costs_are core stage 0 p.columns)
    (given ∙ ap (λ (all : List (List Term)). base_rows core.rows.items all stage 0 p.rows) made ∙ rows_are core stage 0 p.rows (omega (arith, long)))

pub content_push : (all : List ValuesOf) (one : ValuesOf) → all_content (all ++ one ∷ []) ≡ all_content all ++ values_content one ∷ []
content_push [] one = refl
content_push (first ∷ all) one = ap (λ (rest : List Values). values_content first ∷ rest) (content_push all one)

pub stages_push : (first count : ℕ) → stages_from first (count + 1) ≡ stages_from first count ++ (first + count) ∷ []
stages_push first count = rw (add-one count) (go first count)
  where
    go : (first count : ℕ) → stages_from first (suc count) ≡ stages_from first count ++ (first + count) ∷ []
    go first zero = ap (λ n. n ∷ []) (let e : first ≡ first + 0 = omega arith in e)
    go first (suc count) = ap (λ (rest : List ℕ). first ∷ rest) (go (first + 1) count ∙ ap (λ n. stages_from (first + 1) count ++ n ∷ []) (let e : first + 1 + count ≡ first + suc count = omega arith in e))

pub map_push : {A : Type 0} (f : ℕ → A) (xs : List ℕ) (x : ℕ) → map f (xs ++ x ∷ []) ≡ map f xs ++ f x ∷ []
map_push f [] x = refl
map_push f (y ∷ xs) x = ap (λ rest. f y ∷ rest) (map_push f xs x)
