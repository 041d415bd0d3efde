-- An entry of another stage changes nothing at a stage.
use Rattle.std.proofs.Common.{◌≡◌, ◌∙◌, ap, ap₂, sym, refl, ℕ, Bool, true, false, ◌&&◌, List, [], ◌∷◌, ◌++◌, map, cond, length, get_or, nat_eq, nat_lt, arith, if◌then◌else◌}
use Rattle.std.specs.List.{filter}
use Rattle.std.proofs.lemmas.Bool.Decides.{nat_tests}
use Rattle.rationals.specs.Rational.{ℚ}
use Rattle.smps_words.specs.declared.entry.Entry.{Entry}
use Rattle.smps_words.specs.declared.entry.Entry.TheVariants.{Cost, Matrix, Rhs}
use Rattle.core_defs.specs.declared.program.Core.{Core}
use Rattle.time_defs.specs.Means.{Stages}
use Rattle.stoch_defs.specs.Entries.{stage_of}
use Rattle.stoch_defs.specs.Random.{Sets}
use Rattle.scen_defs.specs.Lists.{Each}
use Rattle.scen_defs.proofs.Valid.{each-place}
use Rattle.build_defs.specs.Nodes.{rows_at}
use Rattle.tree_build.specs.declared.parts.RowValues.{RowValues}
use Rattle.tree_build.specs.Values.{Values, put_at, row_values, values_of, at_row, with_entry, with_rhs, with_set, with_sets}
use Rattle.tree_build.proofs.ValueLemmas.{one_set}
use Rattle.tree_build.proofs.Lists.{passes_get}

-- no row of this number
row_other : (core : Core) (sets : Sets) (i : ℕ) (change : RowValues → RowValues) (rows : List ℕ) → Each (λ r. nat_eq r i ≡ false) rows →
    at_row i change (map (row_values core sets) rows) ≡ map (row_values core sets) rows
row_other core sets i change [] none = refl
row_other core sets i change (r ∷ rows) none =
    ap₂ (λ (x : RowValues) (xs : List RowValues). x ∷ xs) (ap (λ (b : Bool). if b then change (row_values core sets r) else row_values core sets r) none.0) (row_other core sets i change rows none.1)

-- a row of another stage is none of the stage's rows
rows_other : (p : Stages) (stage i : ℕ) → nat_eq (get_or p.rows i 0) stage ≡ false → Each (λ r. nat_eq r i ≡ false) (rows_at stage p.rows)
rows_other p stage i other = each-place (λ r. nat_eq r i ≡ false) (λ at. nat_eq at stage) p.rows (λ r passes. go r (passes_get (λ at. nat_eq at stage) r p.rows 0 passes).1 (nat_eq r i) refl)
  where
    go : (r : ℕ) → nat_eq (get_or p.rows r 0) stage ≡ true → (b : Bool) → nat_eq r i ≡ b → nat_eq r i ≡ false
    go r of_stage true is =
        let same : r ≡ i = grind (arith, nat_tests, is) in
        let clash : true ≡ false = sym of_stage ∙ ap (λ (k : ℕ). nat_eq (get_or p.rows k 0) stage) same ∙ other in
        absurd (cc)
    go r of_stage false is = is

-- it changes nothing
pub other_stage : (core : Core) (p : Stages) (sets : Sets) (stage : ℕ) (e : Entry) (v : ℚ) → nat_eq (stage_of p e) stage ≡ false →
    with_set core p stage (values_of core p sets stage) e v ≡ values_of core p sets stage
other_stage core p sets stage (Cost j) v other = go (nat_lt j (length p.columns)) (nat_eq (get_or p.columns j 0) stage) other
  where
    go : (a b : Bool) → b ≡ false → (if a && b then record { cost = put_at j v (values_of core p sets stage).cost; rows = (values_of core p sets stage).rows } else values_of core p sets stage) ≡ values_of core p sets stage
    go true true fails = cc
    go true false fails = refl
    go false b fails = refl
other_stage core p sets stage (Matrix i j) v other = go (nat_lt j (length core.columns.items)) (row_other core sets i (with_entry j v) (rows_at stage p.rows) (rows_other p stage i other))
  where
    go : (b : Bool) → at_row i (with_entry j v) (values_of core p sets stage).rows ≡ (values_of core p sets stage).rows →
        (if b then record { cost = (values_of core p sets stage).cost; rows = at_row i (with_entry j v) (values_of core p sets stage).rows } else values_of core p sets stage) ≡ values_of core p sets stage
    go true same = ap (λ (rows : List RowValues). let x : Values = record { cost = (values_of core p sets stage).cost; rows = rows } in x) same
    go false same = refl
other_stage core p sets stage (Rhs i) v other =
    ap (λ (rows : List RowValues). let x : Values = record { cost = (values_of core p sets stage).cost; rows = rows } in x) (row_other core sets i (with_rhs v) (rows_at stage p.rows) (rows_other p stage i other))

-- what is left out is of other stages
pub left_out : (core : Core) (p : Stages) (stage : ℕ) (test : Entry × ℚ → Bool) (sets more : Sets) → ((pair : Entry × ℚ) → test pair ≡ false → nat_eq (stage_of p pair.0) stage ≡ false) →
    with_sets core p stage (values_of core p sets stage) (filter test more) ≡ with_sets core p stage (values_of core p sets stage) more
left_out core p stage test sets [] others = refl
left_out core p stage test sets (pair ∷ more) others = go (test pair) refl (left_out core p stage test (sets ++ pair ∷ []) more others) (left_out core p stage test sets more others)
  where
    go : (b : Bool) → test pair ≡ b →
        with_sets core p stage (values_of core p (sets ++ pair ∷ []) stage) (filter test more) ≡ with_sets core p stage (values_of core p (sets ++ pair ∷ []) stage) more →
        with_sets core p stage (values_of core p sets stage) (filter test more) ≡ with_sets core p stage (values_of core p sets stage) more →
        with_sets core p stage (values_of core p sets stage) (cond b (pair ∷ filter test more) (filter test more)) ≡ with_sets core p stage (with_set core p stage (values_of core p sets stage) pair.0 pair.1) more
    go true is longer rest =
        let one = one_set core p sets stage pair.0 pair.1 in
        ap (λ (d : Values). with_sets core p stage d (filter test more)) (sym one) ∙ longer ∙ ap (λ (d : Values). with_sets core p stage d more) one
    go false is longer rest = rest ∙ ap (λ (d : Values). with_sets core p stage d more) (sym (other_stage core p sets stage pair.0 pair.1 (others pair is)))

-- all that is kept is of other stages
pub none_of : (core : Core) (p : Stages) (stage : ℕ) (test : Entry × ℚ → Bool) (sets more : Sets) → ((pair : Entry × ℚ) → test pair ≡ true → nat_eq (stage_of p pair.0) stage ≡ false) →
    with_sets core p stage (values_of core p sets stage) (filter test more) ≡ values_of core p sets stage
none_of core p stage test sets [] others = refl
none_of core p stage test sets (pair ∷ more) others = go (test pair) refl (none_of core p stage test sets more others)
  where
    go : (b : Bool) → test pair ≡ b → with_sets core p stage (values_of core p sets stage) (filter test more) ≡ values_of core p sets stage →
        with_sets core p stage (values_of core p sets stage) (cond b (pair ∷ filter test more) (filter test more)) ≡ values_of core p sets stage
    go true is rest = ap (λ (d : Values). with_sets core p stage d (filter test more)) (other_stage core p sets stage pair.0 pair.1 (others pair is)) ∙ rest
    go false is rest = rest
